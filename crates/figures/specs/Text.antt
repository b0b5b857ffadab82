-- What is printed of figures, and what is read of a word.
use Rattle.std.specs.Prelude.{◌≡◌, ℕ, ◌+◌, ◌*◌, ◌/◌, ◌%◌, ◌⊎◌, List, [], ◌∷◌, ◌++◌, length, ℤ, pos, neg_ℤ, ◌≤ℤ◌, Result, Ok, Err, codes, decimal, unsigned_abs}
use Rattle.std.specs.Fmt.{sign_text}
use Rattle.std.specs.Int.{is_negative}
use Rattle.std.specs.Str.Parse.{IsNumeral, digits_value, signed_digits_value, without_leading_sign}
use Rattle.figures.specs.declared.word.NoFigure.{NoFigure}
use Rattle.figures.specs.Range.{high, low}

-- So many hundredths as money: the units, a point (byte 46), and two digits.
abbrev pub money_digits : ℕ → List ℕ
money_digits n = decimal (n / 100) ++ 46 ∷ (48 + n % 100 / 10) ∷ (48 + n % 10) ∷ []

-- The same with a minus sign before a value below zero.
abbrev pub money_text : ℤ → List ℕ
money_text z = sign_text (is_negative z) ++ money_digits (unsigned_abs z)

-- A word writes a whole number: digits, behind a sign or none.
abbrev pub WritesWhole : List ℕ → ℤ → Type 0
WritesWhole word z = IsNumeral 10 (without_leading_sign word) × (signed_digits_value 10 word ≡ z)

-- Digits write so many units, and behind a point two digits so many hundredths more.
abbrev pub WritesParts : List ℕ → List ℕ → List ℕ → ℕ → Type 0
WritesParts word units part n =
    (word ≡ units ++ 46 ∷ part) × IsNumeral 10 units × IsNumeral 10 part × (length part ≡ 2) × (100 * digits_value 10 units + digits_value 10 part ≡ n)

-- A word without a sign writes so many hundredths: units alone, or units, a point (byte 46) and two digits.
abbrev pub WritesAmount : List ℕ → ℕ → Type 0
WritesAmount word n = (IsNumeral 10 word × (100 * digits_value 10 word ≡ n)) ⊎ ((units part : List ℕ) × WritesParts word units part n)

-- A word writes money: an amount, behind a minus sign (byte 45) or none.
abbrev pub WritesMoney : List ℕ → ℤ → Type 0
WritesMoney word z =
    ((n : ℕ) × WritesAmount word n × (z ≡ pos n)) ⊎ ((size : List ℕ) × (n : ℕ) × (word ≡ 45 ∷ size) × WritesAmount size n × (z ≡ neg_ℤ (pos n)))

-- What is told of a word of which no figure is read.
abbrev pub no_figure : List ℕ
no_figure = codes "the word writes no figure of this kind"

-- What is read of a word: a figure of the value that it writes, or that it writes none within the range.
abbrev pub Reads : {F : Type 0} → (List ℕ → ℤ → Type 0) → (F → ℤ) → List ℕ → Result F NoFigure → Type 0
Reads writes means word (Ok x) = writes word (means x)
Reads writes means word (Err e) = (z : ℤ) → low ≤ℤ z → z ≤ℤ high → writes word z → ⊥
