-- The first of some items that has the letters sought, by its place in the list of their letters.
use Rattle.std.proofs.Common.{◌≡◌, ℕ, ◌+◌, cond, List, [], ◌∷◌, map, Some, Option, refl, ap}
use Rattle.std.specs.List.{position_from}
use Rattle.std.specs.Str.{bytes_eq}
use Rattle.analysis.specs.Search.{index_from}
use Rattle.analysis.specs.LineSearch.{line_from}

module _ {W : Type 0} (f : W → List ℕ) (x : List ℕ) where
  pub first_index : (ws : List W) (i : ℕ) → position_from (λ w. bytes_eq (f w) x) i ws ≡ index_from i x (map f ws)
  first_index [] i = refl
  first_index (w ∷ ws) i = ap (λ (o : Option ℕ). cond (bytes_eq (f w) x) (Some i) o) (first_index ws (i + 1))

  pub first_line : (ws : List W) (i : ℕ) → position_from (λ w. bytes_eq x (f w)) i ws ≡ line_from i x (map f ws)
  first_line [] i = refl
  first_line (w ∷ ws) i = ap (λ (o : Option ℕ). cond (bytes_eq x (f w)) (Some i) o) (first_line ws (i + 1))
