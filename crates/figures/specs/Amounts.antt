-- What the steps of reading money answer.
use Rattle.std.specs.Prelude.{◌≡◌, ℕ, ◌+◌, ◌*◌, ◌≤◌, ◌<◌, List, length, ℤ, pos, ◌≤ℤ◌, Result, Ok, Err}
use Rattle.std.specs.Str.Parse.{IsNumeral, digits_value}
use Rattle.figures.specs.declared.word.NoFigure.{NoFigure}
use Rattle.figures.specs.Range.{high, low}
use Rattle.figures.specs.Text.{WritesAmount, WritesMoney}

-- Units and two digits behind the point, in hundredths, or that they write none up to 2,000,000,000.
abbrev pub ReadsParts : List ℕ → List ℕ → Result ℤ NoFigure → Type 0
ReadsParts units part (Ok z) =
    IsNumeral 10 units × IsNumeral 10 part × (length part ≡ 2) × (z ≡ pos (100 * digits_value 10 units + digits_value 10 part)) × (100 * digits_value 10 units + digits_value 10 part < 1000000000000)
ReadsParts units part (Err e) = IsNumeral 10 units → IsNumeral 10 part → length part ≡ 2 → 100 * digits_value 10 units + digits_value 10 part ≤ 2000000000 → ⊥

-- The one amount that the word writes, or that it writes none up to 2,000,000,000.
abbrev pub ReadsAmount : List ℕ → Result ℤ NoFigure → Type 0
ReadsAmount word (Ok z) = (n : ℕ) × (z ≡ pos n) × WritesAmount word n × ((m : ℕ) → WritesAmount word m → m ≡ n) × (n < 1000000000000)
ReadsAmount word (Err e) = (n : ℕ) → n ≤ 2000000000 → WritesAmount word n → ⊥

-- The one value that the word writes, or that it writes none within the range.
abbrev pub ReadsMoney : List ℕ → Result ℤ NoFigure → Type 0
ReadsMoney word (Ok z) = WritesMoney word z × ((y : ℤ) → WritesMoney word y → y ≡ z)
ReadsMoney word (Err e) = (z : ℤ) → low ≤ℤ z → z ≤ℤ high → WritesMoney word z → ⊥
