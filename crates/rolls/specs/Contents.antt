-- What a roll means: a finite list of figures and an ending. Taking hands over the first figure and leaves the rest.
use Rattle.std.specs.Prelude.{ℕ, List, [], ◌∷◌, map}

pub data HowItEnds : Type 0 where
  ends : HowItEnds
  -- damaged at this place
  damaged_at : ℕ → HowItEnds

pub record Contents (F : Type 0) : Type 0 where
  pub figures : List F
  pub ending : HowItEnds

-- What taking answers: a figure, or a refusal's number, for damage with its place.
pub data Taken (F : Type 0) : Type 0 where
  took : F → Taken F
  refused : ℕ → Taken F
  refused_at : ℕ → ℕ → Taken F

-- The number under which users know an ending.
abbrev pub ending_number : HowItEnds → ℕ
ending_number ends = 33
ending_number (damaged_at place) = 34

-- An empty list answers the number of its ending, at damage with the place.
abbrev pub at_ending : {F : Type 0} → HowItEnds → Taken F
at_ending ends = refused (ending_number ends)
at_ending (damaged_at place) = refused_at (ending_number (damaged_at place)) place

abbrev pub first_of : {F : Type 0} → HowItEnds → List F → Taken F
first_of ending [] = at_ending ending
first_of ending (x ∷ xs) = took x

abbrev pub rest_of : {F : Type 0} → List F → List F
rest_of [] = []
rest_of (x ∷ xs) = xs

abbrev pub first : {F : Type 0} → Contents F → Taken F
first c = first_of c.ending c.figures

abbrev pub rest : {F : Type 0} → Contents F → Contents F
rest c = record { figures = rest_of c.figures; ending = c.ending }

-- What a roll of numbers holds in figures, where `make` says which figure each number is.
abbrev pub made_of : {N F : Type 0} → (N → F) → Contents N → Contents F
made_of make c = record { figures = map make c.figures; ending = c.ending }

-- A list of figures that is all there, with nothing damaged.
abbrev pub all_of : {F : Type 0} → List F → Contents F
all_of xs = record { figures = xs; ending = ends }

-- What is left of a roll whose figures have all been taken.
abbrev pub emptied : {F : Type 0} → Contents F → Contents F
emptied c = record { figures = []; ending = c.ending }
