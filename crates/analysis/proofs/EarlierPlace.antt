-- The earliest place of two lists is the earlier of their earliest.
use Rattle.std.proofs.Common.{◌≡◌, ℕ, min, Bool, List, [], ◌∷◌, ◌++◌, Some, Option, sym, refl, ap, ◌∙◌, arith}
use Rattle.symbols.specs.Types.{told}
use Rattle.symbols.specs.Rules.{earliest}
use Rattle.analysis.specs.Earliest.{earliest_of, earlier_of}

earliest_min : (p q : ℕ) (ys : List ℕ) → earliest (min p q) ys ≡ min p (earliest q ys)
earliest_min p q [] = refl
earliest_min p q (y ∷ ys) =
    let a : min (min p q) y ≡ min p (min q y) = omega arith in
    ap (λ (m : ℕ). earliest m ys) a ∙ earliest_min p (min q y) ys

earliest_two : (p : ℕ) (xs : List ℕ) (q : ℕ) (ys : List ℕ) → earliest p (xs ++ q ∷ ys) ≡ min (earliest p xs) (earliest q ys)
earliest_two p [] q ys = earliest_min p q ys
earliest_two p (x ∷ xs) q ys = earliest_two (min p x) xs q ys

pub earliest_append : (xs ys : List ℕ) → earlier_of (earliest_of xs) (earliest_of ys) ≡ earliest_of (xs ++ ys)
earliest_append [] ys = refl
earliest_append (x ∷ xs) [] = ap Some (none_more x xs)
  where
    none_more : (p : ℕ) (xs : List ℕ) → earliest p xs ≡ earliest p (xs ++ [])
    none_more p [] = refl
    none_more p (x ∷ xs) = none_more (min p x) xs
earliest_append (x ∷ xs) (y ∷ ys) = ap Some (sym (earliest_two x xs y ys))

pub both : (r s : Option ℕ) (xs ys : List ℕ) → r ≡ earliest_of xs → s ≡ earliest_of ys → earlier_of r s ≡ earliest_of (xs ++ ys)
both r s xs ys e f = ap (λ (o : Option ℕ). earlier_of o s) e ∙ (ap (λ (o : Option ℕ). earlier_of (earliest_of xs) o) f ∙ earliest_append xs ys)

-- An offence that is told, by the code's test and place.
pub told_same : {r : Option ℕ} {b c : Bool} {p q : ℕ} → r ≡ earliest_of (told b p) → b ≡ c → p ≡ q → r ≡ earliest_of (told c q)
told_same {c = c} {p = p} e f g = e ∙ (ap (λ (t : Bool). earliest_of (told t p)) f ∙ ap (λ (n : ℕ). earliest_of (told c n)) g)
