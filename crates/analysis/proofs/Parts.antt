-- A part of a list cut where the list ends.
use Rattle.std.proofs.Common.{◌≡◌, ℕ, ◌+◌, ◌-◌, ◌<◌, ◌≤◌, min, ◌⊎◌, List, length, take, drop, sym, refl, ap, ◌∙◌, inl, inr, arith}
use Rattle.std.proofs.lemmas.List.{drop_all, take_all, length-drop}
use Rattle.std.proofs.lemmas.Bool.{cases_lt}

-- To drop or take more than there is, is to drop or take all.
drop_min : (xs : List ℕ) (p s : ℕ) → s ≡ min p (length xs) → drop s xs ≡ drop p xs
drop_min xs p s e = go (cases_lt (length xs) p)
  where
    go : (length xs < p) ⊎ (p ≤ length xs) → drop s xs ≡ drop p xs
    go (inl h) = drop_all s xs (omega arith) ∙ sym (drop_all p xs (omega arith))
    go (inr h) = let q : s ≡ p = omega arith in ap (λ (k : ℕ). drop k xs) q

take_min : (xs : List ℕ) (n m : ℕ) → m ≡ min n (length xs) → take m xs ≡ take n xs
take_min xs n m e = go (cases_lt (length xs) n)
  where
    go : (length xs < n) ⊎ (n ≤ length xs) → take m xs ≡ take n xs
    go (inl h) = take_all m xs (omega arith) ∙ sym (take_all n xs (omega arith))
    go (inr h) = let q : m ≡ n = omega arith in ap (λ (k : ℕ). take k xs) q

pub part_is : (xs : List ℕ) (p n s m : ℕ) → s ≡ min p (length xs) → m ≡ min n (length xs - s) → take (s + m - s) (drop s xs) ≡ take n (drop p xs)
part_is xs p n s m e f =
    let a : s + m - s ≡ m = omega arith in
    let l : length (drop s xs) ≡ length xs - s = length-drop s xs in
    let g : m ≡ min n (length (drop s xs)) = omega arith in
    ap (λ (k : ℕ). take k (drop s xs)) a ∙ (take_min (drop s xs) n m g ∙ ap (λ (ys : List ℕ). take n ys) (drop_min xs p s e))

-- The same of a part that is told by its two ends.
pub part_to : (xs : List ℕ) (p n s e : ℕ) → s ≡ min p (length xs) → e ≡ s + min n (length xs - s) → take (e - s) (drop s xs) ≡ take n (drop p xs)
part_to xs p n s e a b = ap (λ (k : ℕ). take (k - s) (drop s xs)) b ∙ part_is xs p n s (min n (length xs - s)) a refl
