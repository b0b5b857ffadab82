-- The faults that end a run: their numbers, and for damage the place in the roll.
use Rattle.std.specs.Prelude.{ℕ, Some, None, Option}
use Rattle.figures.specs.Faults as calculation
use Rattle.rolls.specs.Endings as roll
use Rattle.rolls.specs.declared.roll.Ending.{Ending}
use Rattle.rolls.specs.declared.roll.Ending.TheVariants.{End, Damaged}
use Rattle.machine.specs.declared.fault.RunFault.{RunFault}
use Rattle.machine.specs.declared.fault.RunFault.TheVariants.{Calculation, Roll, BookFull, Subscript}

abbrev pub number : RunFault → ℕ
number (Calculation f) = calculation.number f
number (Roll e) = roll.number e
number BookFull = 35
number Subscript = 36

abbrev ending_place : Ending → Option ℕ
ending_place End = None
ending_place (Damaged place) = Some place

abbrev pub roll_place : RunFault → Option ℕ
roll_place (Calculation f) = None
roll_place (Roll e) = ending_place e
roll_place BookFull = None
roll_place Subscript = None

-- A fault as a report tells it.
pub record Fault : Type 0 where
  pub number : ℕ
  pub roll_place : Option ℕ

abbrev pub fault_of : RunFault → Fault
fault_of f = record { number = number f; roll_place = roll_place f }
