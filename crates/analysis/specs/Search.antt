-- The number of the first of some names that has the letters sought.
use Rattle.std.specs.Prelude.{ℕ, ◌+◌, cond, List, [], ◌∷◌, Some, None, Option}
use Rattle.std.specs.Str.{bytes_eq}

abbrev pub index_from : ℕ → List ℕ → List (List ℕ) → Option ℕ
index_from k x [] = None
index_from k x (y ∷ ys) = cond (bytes_eq y x) (Some k) (index_from (k + 1) x ys)
