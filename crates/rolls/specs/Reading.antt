-- What a roll file means, said of whole lines, for any function `figure` that says which figure a line holds: the
-- figures are those of the leading lines that hold one, in order, and the roll ends where these are all, or is damaged
-- where they stop. And a list of figures, written one a line, is read back.
use Rattle.std.specs.Prelude.{◌≡◌, ℕ, ◌+◌, List, [], ◌∷◌, ◌++◌, map, length, ℤ, ◌≤ℤ◌, Some, Option, ◌≢◌}
use Rattle.figures.specs.Range.{low, high}
use Rattle.rolls.specs.Contents.{Contents, HowItEnds, all_of, damaged_at, ends}
use Rattle.rolls.specs.Lines.{read_as}

-- Lines as they stand in a file, each ended by byte 10.
abbrev pub with_ends : List (List ℕ) → List ℕ
with_ends [] = []
with_ends (line ∷ lines) = line ++ 10 ∷ with_ends lines

module _ {N : Type 0} (figure : List ℕ → Option N) (bytes : List ℕ) where
  -- No line that holds a figure stands in front.
  abbrev pub NoFigureLine : Type 0
  NoFigureLine = (line later : List ℕ) (z : N) → bytes ≡ line ++ 10 ∷ later → figure line ≢ Some z

  -- A line that holds this figure stands in front, and these bytes behind it.
  pub record FigureLine (z : N) (rest : List ℕ) : Type 0 where
    pub line : List ℕ
    pub parts : bytes ≡ line ++ 10 ∷ rest
    pub holds : figure line ≡ Some z

-- How a roll ends whose lines with figures stop at a place, by what stands there.
pub data EndsAt (figure : List ℕ → Option ℤ) (place : ℕ) : List ℕ → HowItEnds → Type 0 where
  at_end : EndsAt figure place [] ends
  at_damage : {b : ℕ} {bytes : List ℕ} → NoFigureLine figure (b ∷ bytes) → EndsAt figure place (b ∷ bytes) (damaged_at place)

-- The bytes from a place on are so many lines that hold the figures, and then the roll ends.
pub record Reading (figure : List ℕ → Option ℤ) (place : ℕ) (bytes : List ℕ) (c : Contents ℤ) : Type 0 where
  pub lines : List (List ℕ)
  pub rest : List ℕ
  pub parts : bytes ≡ with_ends lines ++ rest
  pub holds : map figure lines ≡ map Some c.figures
  pub stops : EndsAt figure (place + length (with_ends lines)) rest c.ending

-- Figures within the range.
abbrev pub InRange : List ℤ → Type 0
InRange [] = Unit {0}
InRange (z ∷ zs) = ((low ≤ℤ z) × (z ≤ℤ high)) × InRange zs

-- A list of figures, one a line, each as `write` puts it.
abbrev pub written : (ℤ → List ℕ) → List ℤ → List ℕ
written write zs = with_ends (map write zs)

-- Bytes that were written so are read back.
abbrev pub ReadsBack : (List ℕ → Option ℤ) → (ℤ → List ℕ) → List ℕ → Type 0
ReadsBack figure write bytes = (zs : List ℤ) → InRange zs → bytes ≡ written write zs → read_as figure 0 bytes ≡ all_of zs
