-- The whole numbers that both kinds store: -2,000,000,000 to 2,000,000,000. A result beyond them is refused.
use Rattle.std.specs.Prelude.{ℕ, zero, suc, cond, ◌&&◌, ℤ, pos, negsuc, ◌*ℤ◌, ◌≤ℤ◌, int_div, int_le, int_lt, nat_le}
use Rattle.figures.specs.declared.fault.Fault.TheVariants.{OutOfRange, DivisionByZero}
use Rattle.figures.specs.Faults.{number}
use Rattle.figures.specs.Kinds.{Outcome, value, refused}

abbrev pub low : ℤ
low = negsuc 1999999999

abbrev pub high : ℤ
high = pos 2000000000

-- A number lies within the range.
abbrev pub Within : ℤ → Type 0
Within z = (low ≤ℤ z) × (z ≤ℤ high)

-- A stored number beyond an end of the range is read as that end.
abbrev pub clamped : ℤ → ℤ
clamped z = cond (int_lt z low) low (cond (int_lt high z) high z)

-- A result within the range, or 31.
abbrev pub in_range : ℤ → Outcome ℤ
in_range z = cond (int_le low z && int_le z high) (value z) (refused (number OutOfRange))

-- A quotient, its fraction dropped toward zero; 32 where the divisor is zero.
abbrev pub quotient : ℤ → ℤ → Outcome ℤ
quotient a (pos zero) = refused (number DivisionByZero)
quotient a (pos (suc b)) = in_range (int_div a (pos (suc b)))
quotient a (negsuc b) = in_range (int_div a (negsuc b))

-- The figure of a whole number n counts `unit` times n; n itself is at most 999,999,999, the largest number that a text
-- can write.
abbrev pub counted : ℕ → ℕ → Outcome ℤ
counted unit n = cond (nat_le n 999999999) (in_range (pos unit *ℤ pos n)) (refused (number OutOfRange))
