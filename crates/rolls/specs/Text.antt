-- The text roll: whole figures read from a file's bytes where they are.
use Rattle.std.specs.Prelude.{◌≡◌, ℕ, ◌<◌, ◌≤◌, Bool, true, false, List, [], ◌∷◌, ◌++◌, length, ℤ}
use Rattle.figures.specs.declared.whole.Whole.{Whole}
use Rattle.rolls.specs.Lines.{all_digits, digits_value, is_digit}

-- The whole figure of a number.
abbrev pub whole_figure : ℤ → Whole
whole_figure z = record { units = z }

-- A digit stands in front.
abbrev pub digit_first : List ℕ → Bool
digit_first [] = false
digit_first (b ∷ bytes) = is_digit b

-- The digits in front, as many as there are but at most ten, the number they write, and the bytes behind them.
pub record DigitsRead (bytes : List ℕ) (value : ℕ) (rest : List ℕ) : Type 0 where
  pub row : List ℕ
  pub parts : bytes ≡ row ++ rest
  pub digits : all_digits row ≡ true
  pub value_is : value ≡ digits_value 0 row
  pub ten_at_most : length row ≤ 10
  pub no_more : length row < 10 → digit_first rest ≡ false
