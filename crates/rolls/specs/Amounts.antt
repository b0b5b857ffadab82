-- The amounts file: figures in hundredths, one a line. A line is an optional minus sign, 1 to 10 digits, and then
-- nothing or a point and two digits; its value is within ±2,000,000,000 hundredths. Lines, damage and ending are those
-- of every roll file.
use Rattle.std.specs.Prelude.{ℕ, suc, ◌+◌, ◌-◌, ◌*◌, ◌/◌, ◌%◌, Bool, cond, ◌&&◌, List, [], ◌∷◌, ◌++◌, length, take, drop, ℤ, pos, negsuc, Some, None, decimal, Option, ◌==◌, nat_le, slice_index}
use Rattle.figures.specs.declared.hundredths.Hundredths.{Hundredths}
use Rattle.rolls.specs.Contents.{Contents}
use Rattle.rolls.specs.Lines.{all_digits, digits_value, read_as, signed_line}

-- The number that 1 to 10 digits write.
abbrev pub is_number : List ℕ → Bool
is_number ds = all_digits ds && (nat_le 1 (length ds) && nat_le (length ds) 10)

abbrev pub digits_number : List ℕ → Option ℕ
digits_number ds = cond (is_number ds) (Some (digits_value 0 ds)) None

-- So many whole units and hundredths, in hundredths, of which there are at most 2,000,000,000.
abbrev pub in_hundredths : Option ℕ → Option ℕ → Option ℕ
in_hundredths (Some whole) (Some part) = cond (nat_le (100 * whole + part) 2000000000) (Some (100 * whole + part)) None
in_hundredths (Some whole) None = None
in_hundredths None part = None

-- The third byte from the end is a point (byte 46), which parts the units from the hundredths.
abbrev pub has_point : List ℕ → Bool
has_point line = nat_le 3 (length line) && slice_index line (length line - 3) == 46

-- The amount that a line without its sign writes, in hundredths.
abbrev pub amount : List ℕ → Option ℕ
amount line =
    cond (has_point line)
    (in_hundredths (digits_number (take (length line - 3) line)) (digits_number (drop (length line - 2) line)))
    (in_hundredths (digits_number line) (Some 0))

-- The amount that a line holds, and what the bytes from a place on hold.
abbrev pub amount_figure : List ℕ → Option ℤ
amount_figure = signed_line amount

abbrev pub read_amounts : ℕ → List ℕ → Contents ℤ
read_amounts = read_as amount_figure

-- The figure of so many hundredths.
abbrev pub hundredths_figure : ℤ → Hundredths
hundredths_figure z = record { hundredths = z }

-- How an amount is written: the units as whole numbers are printed, a point, and the hundredths in two digits.
abbrev pub amount_digits : ℕ → List ℕ
amount_digits n = decimal (n / 100) ++ 46 ∷ (48 + n % 100 / 10) ∷ (48 + n % 10) ∷ []

abbrev pub amount_text : ℤ → List ℕ
amount_text (pos n) = amount_digits n
amount_text (negsuc n) = 45 ∷ amount_digits (suc n)
