use Rattle.std.proofs.Common.{◌≡◌, true, take}
use Rattle.rolls.specs.Lines.{all_digits, digits_value}
use Rattle.rolls.proofs.text.read_digits.Given as goal

-- The bytes passed are digits, and the value is what they write.
abbrev pub invariant-loop-i : goal.invariant-loop-i
invariant-loop-i l = (all_digits (take l.i l.bytes) ≡ true) × (l.value ≡ digits_value 0 (take l.i l.bytes))
