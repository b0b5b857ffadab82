-- A list of figures that is written one a line is read back.
use Rattle.std.proofs.Common.{◌≡◌, ℕ, ◌+◌, true, List, [], ◌∷◌, map, length, ℤ, ◌≤ℤ◌, Some, Option, refl, ap, ◌∙◌, ap₂}
use Rattle.figures.specs.Range.{low, high}
use Rattle.rolls.specs.Contents.{all_of}
use Rattle.rolls.specs.Lines.{before, file_of, no_end, read_as, read_lines}
use Rattle.rolls.specs.Reading.{InRange, ReadsBack, written}
use Rattle.rolls.proofs.FirstLine.{row_and_end}

-- Writing by a function whose lines hold their figures.
module _ (figure : List ℕ → Option ℤ) (inside_lines : (line : List ℕ) (z : ℤ) → figure line ≡ Some z → no_end line ≡ true)
    (write : ℤ → List ℕ) (holds : (z : ℤ) → low ≤ℤ z → z ≤ℤ high → figure (write z) ≡ Some z) where
  -- The lines of a written list are its figures' lines, and nothing stands behind them.
  written_lines : (zs : List ℤ) → InRange zs → file_of (written write zs) ≡ record { lines = map write zs; unended = [] }
  written_lines [] inside = refl
  written_lines (z ∷ zs) inside =
      row_and_end (write z) (written write zs) (inside_lines (write z) z (holds z inside.0.0 inside.0.1))
      ∙ ap (λ f. record { lines = write z ∷ f.lines; unended = f.unended }) (written_lines zs inside.1)

  figures_lines : (place : ℕ) (zs : List ℤ) → InRange zs → read_lines figure place (map write zs) [] ≡ all_of zs
  figures_lines place [] inside = refl
  figures_lines place (z ∷ zs) inside =
      ap₂ (before place) (holds z inside.0.0 inside.0.1) (figures_lines (place + length (write z) + 1) zs inside.1)

  pub reads_back : (bytes : List ℕ) → ReadsBack figure write bytes
  reads_back bytes zs inside e =
      ap (λ bs. read_as figure 0 bs) e ∙ ap (λ f. read_lines figure 0 f.lines f.unended) (written_lines zs inside) ∙ figures_lines 0 zs inside
