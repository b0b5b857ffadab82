-- The total of a list of figures: from of(0) on, one figure after the other; the first refusal stays.
use Rattle.std.specs.Prelude.{List, [], ◌∷◌}
use Rattle.figures.specs.Kinds.{Kind, Outcome, value, refused}

module _ {V : Type 0} (kind : Kind V) where
  abbrev pub plus : Outcome V → V → Outcome V
  plus (value sum) v = kind.add sum v
  plus (refused n) v = refused n

  abbrev pub sum_from : Outcome V → List V → Outcome V
  sum_from sum [] = sum
  sum_from sum (v ∷ vs) = sum_from (plus sum v) vs

  abbrev pub total : List V → Outcome V
  total vs = sum_from (kind.of 0) vs
