-- What the digits in front say of the number of a whole row.
use Rattle.std.proofs.Common.{◌≡◌, ◌==◌, not, ◌&&◌, Bool, ℕ, ◌<◌, ◌≤◌, true, false, leb, List, [], ◌∷◌, ◌++◌, length, Some, None, sym, refl, ap, ◌∙◌, ⊎_elim, arith}
use Rattle.std.proofs.lemmas.List.{append-nil, length-append, nil_from_length}
use Rattle.std.proofs.lemmas.Bool.{and_from, and_left, and_right, cases_lt, cond-true, eq-eqb, eqb-true, le-leb, lt-leb}
use Rattle.std.specs.Bool.{then_some}
use Rattle.rolls.specs.AmountLaws.{number_none}
use Rattle.rolls.specs.Amounts.{digits_number, is_number}
use Rattle.rolls.specs.Lines.{all_digits, digits_value}
use Rattle.rolls.specs.Text.{DigitsRead, digit_first}
use Rattle.rolls.proofs.Magnitudes.{digits_stop}

pub empty_no_number : (ds : List ℕ) → length ds ≡ 0 → digits_number ds ≡ None
empty_no_number ds empty =
    number_none ds (and_right (all_digits ds) _ (and_left (leb 1 (length ds)) _ (lt-leb 1 (length ds) (omega arith))))

module _ (ds : List ℕ) (value : ℕ) (rest : List ℕ) (r : DigitsRead ds value rest) where
  -- Digits that stop before the row does.
  pub other_byte_no_number : (length rest ≡ 0 → ⊥) → digits_number ds ≡ None
  other_byte_no_number some = ap digits_number r.parts ∙ by_rest rest r.no_more some
    where
      by_rest : (more : List ℕ) → (length r.row < 10 → digit_first more ≡ false) → (length more ≡ 0 → ⊥) → digits_number (r.row ++ more) ≡ None
      by_rest [] no_more some = absurd (some refl)
      by_rest (c ∷ more) no_more some =
          let row = r.row ++ c ∷ more in
          let long = length-append r.row (c ∷ more) in
          let limit = r.ten_at_most in
          ⊎_elim
          (λ (short : length r.row < 10). number_none row (and_left (all_digits row) _ (digits_stop r.row c more (no_more short))))
          (λ (full : 10 ≤ length r.row).
          number_none row (and_right (all_digits row) _ (and_right (leb 1 (length row)) _ (lt-leb (length row) 10 (omega arith)))))
          (cases_lt (length r.row) 10)

  -- Digits that go on to the end of the row.
  pub all_number : length rest ≡ 0 → (length ds ≡ 0 → ⊥) → digits_number ds ≡ Some value
  all_number none some =
      let limit = r.ten_at_most in
      let long = ap length r.parts ∙ length-append r.row rest in
      let whole : ds ≡ r.row = r.parts ∙ ap (λ t. r.row ++ t) (nil_from_length rest none) ∙ append-nil r.row in
      let passes : is_number r.row ≡ true =
      and_from (all_digits r.row) _ r.digits
      (and_from (leb 1 (length r.row)) _ (le-leb 1 (length r.row) (omega arith)) (le-leb (length r.row) 10 (omega arith)))
      in
      ap digits_number whole ∙ cond-true (is_number r.row) (Some (digits_value 0 r.row)) None passes ∙ ap Some (sym r.value_is)

  -- What the reader of numbers answers.
  pub number_read : then_some ((length rest == 0) && not (length ds == 0)) value ≡ digits_number ds
  number_read = by_tests (length rest == 0) (length ds == 0) refl refl
    where
      by_tests : (a b : Bool) → (length rest == 0) ≡ a → (length ds == 0) ≡ b → then_some (a && not b) value ≡ digits_number ds
      by_tests false b other some = sym (other_byte_no_number (λ e. let t = eq-eqb (length rest) 0 e in cc))
      by_tests true true none empty = sym (empty_no_number ds (eqb-true (length ds) 0 empty))
      by_tests true false none some = sym (all_number (eqb-true (length rest) 0 none) (λ e. let t = eq-eqb (length ds) 0 e in cc))
