-- What the digits in front say of the line there: each outcome of the reader of whole figures, in the words of the
-- rule.
use Rattle.std.proofs.Common.{◌≡◌, ℕ, ◌<◌, ◌≤◌, true, false, List, [], ◌∷◌, ◌++◌, length, None, sym, ap, ◌∙◌, ⊎_elim, arith, length-append}
use Rattle.std.proofs.lemmas.List.{append-nil}
use Rattle.std.proofs.lemmas.Bool.{and_left, and_right, cases_lt}
use Rattle.rolls.specs.Lines.{all_digits, is_digit, magnitude, no_end}
use Rattle.rolls.specs.Reading.{NoFigureLine}
use Rattle.rolls.specs.Text.{DigitsRead, digit_first}
use Rattle.rolls.specs.LineLaws.{digits_no_end}
use Rattle.rolls.specs.WholeLaws.{magnitude_no_end}
use Rattle.rolls.proofs.FirstLine.{empty_none, large_none, long_none, longer_line, not_digits_none}
use Rattle.rolls.proofs.WholeLines.{no_row, same_row}

-- One byte that is no digit: not all are.
pub digits_stop : (row : List ℕ) (c : ℕ) (more : List ℕ) → is_digit c ≡ false → all_digits (row ++ c ∷ more) ≡ false
digits_stop [] c more other = and_left (is_digit c) (all_digits more) other
digits_stop (d ∷ row) c more other = and_right (is_digit d) (all_digits (row ++ c ∷ more)) (digits_stop row c more other)

module _ (bytes : List ℕ) (value : ℕ) (rest : List ℕ) (r : DigitsRead bytes value rest) where
  inside : no_end r.row ≡ true
  inside = digits_no_end r.row r.digits

  pub only_digits : rest ≡ [] → NoFigureLine magnitude bytes
  only_digits none line later n e holds =
      no_row r.row line later inside (sym (append-nil r.row) ∙ ap (λ t. r.row ++ t) (sym none) ∙ sym r.parts ∙ e)

  -- Digits, and then a byte that is no line end.
  pub other_byte : (c : ℕ) (more : List ℕ) → rest ≡ c ∷ more → (c ≡ 10 → ⊥) → NoFigureLine magnitude bytes
  other_byte c more is other line later n e holds =
      let longer = longer_line r.row c more line later inside other (ap (λ t. r.row ++ t) (sym is) ∙ sym r.parts ∙ e) in
      let long = length-append r.row (c ∷ longer.0) in
      let limit = r.ten_at_most in
      let none : magnitude (r.row ++ c ∷ longer.0) ≡ None =
      ⊎_elim
      (λ (short : length r.row < 10).
      not_digits_none (r.row ++ c ∷ longer.0) (digits_stop r.row c longer.0 (ap digit_first (sym is) ∙ r.no_more short)))
      (λ (full : 10 ≤ length r.row). long_none (r.row ++ c ∷ longer.0) (omega arith))
      (cases_lt (length r.row) 10)
      in
      let there = ap magnitude longer.1 in
      cc

  -- Digits, and then the line's end.
  module _ (more : List ℕ) (is : rest ≡ 10 ∷ more) where
    ended : bytes ≡ r.row ++ 10 ∷ more
    ended = r.parts ∙ ap (λ t. r.row ++ t) is

    no_magnitude : magnitude r.row ≡ None → NoFigureLine magnitude bytes
    no_magnitude none line later n e holds =
        let same = ap magnitude (same_row r.row line more later inside (magnitude_no_end line n holds) (sym ended ∙ e)) in
        cc

    pub empty_row : length rest ≡ length bytes → NoFigureLine magnitude bytes
    empty_row all =
        let long = ap length r.parts ∙ length-append r.row rest in
        no_magnitude (empty_none r.row (omega arith))

    pub large_row : 2000000000 < value → NoFigureLine magnitude bytes
    large_row large = let v = r.value_is in no_magnitude (large_none r.row (omega arith))
