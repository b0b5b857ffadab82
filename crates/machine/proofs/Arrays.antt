-- The operand stack and the cells, as arrays of figures and as lists of values.
use Rattle.std.proofs.Common.{◌≡◌, ℕ, zero, suc, ◌+◌, ◌-◌, ◌<◌, ◌≤◌, List, [], ◌∷◌, ◌++◌, map, reverse, length, get_or, take, drop, set, replicate, Some, sym, refl, ap, ◌∙◌, add-one, arith}
use Rattle.std.proofs.lemmas.List.{append-nil, drop_all, take_more, take_more_set, reverse-append, length-map, length-reverse, length-take}
use Rattle.std.specs.List.{slice_get}
use Rattle.std.proofs.lemmas.Bool.{lt-ltb}
use Rattle.machine.specs.declared.operands.OperandStack.{OperandStack}
use Rattle.machine.specs.Machine.{gives, stored}
use Rattle.machine.specs.Views.{laid, operands}

module _ {F V : Type 0} (means : F → V) (xs : List F) (d : ℕ) where
  -- A figure written behind the first d lies on top of them.
  pub operands_push : (x : F) → d < length xs → operands means (d + 1) (set xs d x) ≡ means x ∷ operands means d xs
  operands_push x l = ap (λ ys. map means (reverse ys)) (take_more_set xs d x l) ∙ ap (map means) (reverse-append (take d xs) (x ∷ []))

  -- The figure behind the first d lies on top of them.
  pub operands_top : (e : F) → d < length xs → operands means (d + 1) xs ≡ means (get_or xs d e) ∷ operands means d xs
  operands_top e l = ap (λ ys. map means (reverse ys)) (take_more xs d e l) ∙ ap (map means) (reverse-append (take d xs) (get_or xs d e ∷ []))

  pub operands_length : d ≤ length xs → length (operands means d xs) ≡ d
  operands_length l = simp (length-map, length-reverse, length-take) (omega arith)

-- There are as many figures on the stack as it is deep.
pub laid_length : {F V : Type 0} (means : F → V) (s : OperandStack F) → length (laid means s) ≡ s.depth
laid_length means s = operands_length means s.figures.now s.depth s.tall

-- The value of the figure that an array holds at a place.
pub nth_value : {F V : Type 0} (means : F → V) (xs : List F) (i : ℕ) (r : F) → i < length xs → r ≡ get_or xs i r → slice_get (map means xs) i ≡ Some (means r)
nth_value means [] i r l e = absurd (omega arith)
nth_value means (x ∷ xs) zero r l e = ap (λ y. Some (means y)) (sym e)
nth_value means (x ∷ xs) (suc i) r l e = nth_value means xs i r (omega arith) e

pub map_set : {F V : Type 0} (means : F → V) (xs : List F) (i : ℕ) (x : F) → map means (set xs i x) ≡ set (map means xs) i (means x)
map_set means [] i x = refl
map_set means (y ∷ xs) zero x = refl
map_set means (y ∷ xs) (suc i) x = ap (λ ys. means y ∷ ys) (map_set means xs i x)

-- A value is stored in a place that is there.
pub stored_inside : {V : Type 0} (xs : List V) (i : ℕ) (v : V) → i < length xs → stored xs i v ≡ gives (set xs i v)
stored_inside xs i v l = let t = lt-ltb i (length xs) l in rw t

-- The figure on top, and the two on top, at the depth that holds them.
pub top_at : {F V : Type 0} (means : F → V) (xs : List F) (d : ℕ) {v : V} {vs : List V} → 0 < d → operands means ((d - 1) + 1) xs ≡ v ∷ vs → operands means d xs ≡ v ∷ vs
top_at means xs d l e = let q : d ≡ (d - 1) + 1 = omega arith in ap (λ k. operands means k xs) q ∙ e

-- One more cell filled, and all of them.
fill_suc : {X : Type 0} (n : ℕ) (x : X) (xs : List X) → n < length xs → set (replicate n x ++ drop n xs) n x ≡ replicate (suc n) x ++ drop (suc n) xs
fill_suc zero x [] l = absurd (omega arith)
fill_suc zero x (y ∷ xs) l = refl
fill_suc (suc n) x [] l = absurd (omega arith)
fill_suc (suc n) x (y ∷ xs) l = ap (λ ys. x ∷ ys) (fill_suc n x xs (omega arith))

pub fill_more : {X : Type 0} (n : ℕ) (x : X) (xs ys : List X) → n < length xs → ys ≡ replicate n x ++ drop n xs → set ys n x ≡ replicate (n + 1) x ++ drop (n + 1) xs
fill_more n x xs ys l e = ap (λ zs. set zs n x) e ∙ fill_suc n x xs l ∙ ap (λ k. replicate k x ++ drop k xs) (sym (add-one n))

pub map_replicate : {X Y : Type 0} (f : X → Y) (n : ℕ) (x : X) → map f (replicate n x) ≡ replicate n (f x)
map_replicate f zero x = refl
map_replicate f (suc n) x = ap (λ ys. f x ∷ ys) (map_replicate f n x)

pub fill_all : {X : Type 0} (n m : ℕ) (x : X) (xs ys : List X) → length xs ≤ n → n ≡ m → ys ≡ replicate n x ++ drop n xs → ys ≡ replicate m x
fill_all n m x xs ys l q e = e ∙ ap (λ zs. replicate n x ++ zs) (drop_all n xs l) ∙ append-nil (replicate n x) ∙ ap (λ k. replicate k x) q
