-- Byte strings compared byte by byte.
use Rattle.std.proofs.Common.{◌≡◌, ℕ, suc, Bool, true, false, ◌&&◌, eqb, ◌≢◌, List, [], ◌∷◌, length, refl, ap}
use Rattle.std.specs.Str.{bytes_eq}

both : (c r : Bool) → r ≡ false → (c && r) ≡ false
both true r e = e
both false r e = refl

-- Strings of different lengths differ.
pub lengths_differ_to_not_same : (a b : List ℕ) → length a ≢ length b → bytes_eq a b ≡ false
lengths_differ_to_not_same [] [] h = absurd (h refl)
lengths_differ_to_not_same [] (y ∷ ys) h = refl
lengths_differ_to_not_same (x ∷ xs) [] h = refl
lengths_differ_to_not_same (x ∷ xs) (y ∷ ys) h = both (eqb x y) _ (lengths_differ_to_not_same xs ys (λ e. h (ap suc e)))
