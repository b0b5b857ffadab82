-- What the answer of taking tells of the roll.
use Rattle.std.proofs.Common.{◌≡◌, List, [], ◌∷◌}
use Rattle.rolls.specs.Contents.{Contents, HowItEnds, at_ending, damaged_at, ends, first, first_of, rest_of, took}

module _ {F : Type 0} where
  -- A roll that hands over a figure held it in front.
  pub took_first : (c : Contents F) (x : F) → took x ≡ first c → c.figures ≡ x ∷ rest_of c.figures
  took_first c x given = by_list c.figures c.ending given
    where
      nothing : {X : Type 0} (e : HowItEnds) → took x ≡ at_ending e → X
      nothing ends h = cc
      nothing (damaged_at p) h = cc

      by_list : (xs : List F) (e : HowItEnds) → took x ≡ first_of e xs → xs ≡ x ∷ rest_of xs
      by_list [] e h = nothing e h
      by_list (y ∷ ys) e h = cc
