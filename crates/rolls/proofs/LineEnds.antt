-- What the line in front says of the roll from its first byte on, for any function that says which figure a line holds.
use Rattle.std.proofs.Common.{◌≡◌, ℕ, ◌+◌, ◌-◌, ◌<◌, true, List, [], ◌∷◌, ◌++◌, length, get_or, take, drop, ℤ, Some, None, Option, sym, refl, ap, ◌∙◌, ap₂, append_assoc, arith, length-append, length-take}
use Rattle.std.proofs.lemmas.List.{drop_more, get_or-take, take-append-drop, take_rest}
use Rattle.rolls.specs.Contents.{damaged_at}
use Rattle.rolls.specs.Lines.{before, file_of, no_end, read_as, read_lines}
use Rattle.rolls.specs.Reading.{FigureLine, NoFigureLine, with_ends}
use Rattle.rolls.proofs.FirstLine.{no_end_from, row_and_end}
use Rattle.rolls.proofs.WholeLines.{cut_up, no_row, same_row}

-- Nothing is there where there is no figure.
no_figure : (m : Option ℤ) → ((z : ℤ) → m ≡ Some z → ⊥) → m ≡ None
no_figure (Some z) none = absurd (none z refl)
no_figure None none = refl

module _ (figure : List ℕ → Option ℤ) (place : ℕ) (bytes : List ℕ) where
  -- A line with a figure: the figure comes first, and the next line begins behind the line's end.
  pub line_read : ((line : List ℕ) (z : ℤ) → figure line ≡ Some z → no_end line ≡ true) → (z : ℤ) (rest : List ℕ) → FigureLine figure bytes z rest → read_as figure place bytes ≡ before place (Some z) (read_as figure (place + (length bytes - length rest)) rest)
  line_read one_line z rest f =
      let long = ap length f.parts ∙ length-append f.line (10 ∷ rest) in
      let next : place + length f.line + 1 ≡ place + (length bytes - length rest) = omega arith in
      ap (λ g. read_lines figure place g.lines g.unended) (ap file_of f.parts ∙ row_and_end f.line rest (one_line f.line z f.holds))
      ∙ ap₂ (λ m k. before place m (read_as figure k rest)) f.holds next

  -- Bytes with no such line in front are damaged there.
  pub damage_read : 0 < length bytes → NoFigureLine figure bytes → read_as figure place bytes ≡ record { figures = []; ending = damaged_at place }
  damage_read some none = by_lines (file_of bytes).lines (file_of bytes).unended (cut_up bytes).parts
    where
      by_lines : (lines : List (List ℕ)) (unended : List ℕ) → bytes ≡ with_ends lines ++ unended → read_lines figure place lines unended ≡ record { figures = []; ending = damaged_at place }
      by_lines [] [] parts = let long = ap length parts in absurd (omega arith)
      by_lines [] (b ∷ unended) parts = refl
      by_lines (line ∷ lines) unended parts =
          ap (λ m. before place m (read_lines figure (place + length line + 1) lines unended))
          (no_figure (figure line) (λ z. none line (with_ends lines ++ unended) z (parts ∙ append_assoc line (10 ∷ with_ends lines) unended)))

-- Bytes that end no line.
pub no_line : {N : Type 0} (figure : List ℕ → Option N) (bytes : List ℕ) → ((k : ℕ) → k < length bytes → get_or bytes k 0 ≡ 10 → ⊥) → NoFigureLine figure bytes
no_line figure bytes none line later z e holds = no_row bytes line later (no_end_from bytes none) e

-- The bytes up to the first byte 10 are the line in front.
module _ {N : Type 0} (figure : List ℕ → Option N) (one_line : (line : List ℕ) (z : N) → figure line ≡ Some z → no_end line ≡ true) (bytes : List ℕ) (end : ℕ)
    (inside : end < length bytes) (is : get_or bytes end 0 ≡ 10) (none : (k : ℕ) → k < end → get_or bytes k 0 ≡ 10 → ⊥) where
  abbrev row : List ℕ
  row = take end bytes

  row_parts : bytes ≡ row ++ 10 ∷ drop (end + 1) bytes
  row_parts =
      sym (take-append-drop end bytes)
      ∙ ap (λ t. row ++ t) (drop_more bytes end 0 inside ∙ ap (λ b. b ∷ drop (end + 1) bytes) is)

  row_inside : no_end row ≡ true
  row_inside =
      let long = length-take end bytes in
      no_end_from row
      (λ k within e.
      let before : k < end = omega arith in
      none k before (sym (get_or-take end bytes k 0 before) ∙ e))

  -- A line that writes nothing, and one that does.
  pub row_none : figure row ≡ None → NoFigureLine figure bytes
  row_none nothing line later z e holds =
      let same = ap figure (same_row row line (drop (end + 1) bytes) later row_inside (one_line line z holds) (sym row_parts ∙ e)) in
      cc

  pub row_line : (z : N) → figure row ≡ Some z → FigureLine figure bytes z (take (length bytes - (end + 1)) (drop (end + 1) bytes))
  row_line z writes =
      record { line = row; parts = row_parts ∙ ap (λ t. row ++ 10 ∷ t) (sym (take_rest bytes (end + 1))); holds = writes }
