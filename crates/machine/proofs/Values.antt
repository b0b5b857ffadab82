-- A roll of figures, as a roll of values.
use Rattle.std.proofs.Common.{◌≡◌, ℕ, Bool, cond, List, [], ◌∷◌, map, refl, ap, ◌∙◌}
use Rattle.figures.specs.Kinds.{Kind}
use Rattle.rolls.specs.Contents.{Contents, HowItEnds, ends, damaged_at, first, first_of, rest, rest_of}
use Rattle.machine.specs.Machine.{gives, handed, stored, element, taken_into}
use Rattle.machine.specs.Views.{valued}

module _ {F V : Type 0} (means : F → V) where
  -- What is handed over, and what is left then, by value.
  pub handed_value : (c : Contents F) (x : F) → gives x ≡ handed (first c) → handed (first (valued means c)) ≡ gives (means x)
  handed_value c x e = by_list c.figures c.ending e
    where
      by_list : (xs : List F) (e : HowItEnds) → gives x ≡ handed (first_of e xs) → handed (first_of e (map means xs)) ≡ gives (means x)
      by_list [] ends h = cc
      by_list [] (damaged_at p) h = cc
      by_list (y ∷ ys) e h = let q : y ≡ x = cc in ap (λ z. gives (means z)) q

  rest_map : (xs : List F) → map means (rest_of xs) ≡ rest_of (map means xs)
  rest_map [] = refl
  rest_map (x ∷ xs) = refl

  pub rest_value : (c d : Contents F) → d ≡ rest c → valued means d ≡ rest (valued means c)
  rest_value c d e = ap (valued means) e ∙ ap (λ xs. record { figures = xs; ending = c.ending }) (rest_map c.figures)

-- A figure that is handed over is stored in the cell that the subscript names.
pub taken_goes : {V : Type 0} (kind : Kind V) (rounded : Bool) (x : ℕ) (i : V) (cells : List V) (roll : Contents V) (e : ℕ) (v w : V) (after : List V) → gives e ≡ element kind x i → handed (first roll) ≡ gives v → w ≡ cond rounded (kind.round v) v → stored cells e w ≡ gives after → taken_into kind rounded x i cells roll ≡ gives (after, rest roll)
taken_goes kind rounded x i cells roll e v w after p q r s = rw (← p, q, ← r, s)
