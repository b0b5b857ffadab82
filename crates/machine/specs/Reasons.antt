-- The words that a reader of a report sees: the reason of each fault of a run and of each refusal of a call.
use Rattle.std.specs.Prelude.{ℕ, List, codes}
use Rattle.figures.specs.declared.fault.Fault.{Fault}
use Rattle.figures.specs.declared.fault.Fault.TheVariants.{OutOfRange, DivisionByZero}
use Rattle.rolls.specs.declared.roll.Ending.{Ending}
use Rattle.rolls.specs.declared.roll.Ending.TheVariants.{End, Damaged}
use Rattle.machine.specs.declared.fault.RunFault.{RunFault}
use Rattle.machine.specs.declared.fault.RunFault.TheVariants.{Calculation, Roll, BookFull, Subscript}
use Rattle.machine.specs.declared.refusal.Refusal.{Refusal}
use Rattle.machine.specs.declared.refusal.Refusal.TheVariants.{CellCount, ShortStack, NotNamed, Ended, StepLimit, ShortBook}

abbrev pub calculation_reason : Fault → List ℕ
calculation_reason OutOfRange = codes "a result lies over the range"
calculation_reason DivisionByZero = codes "a division by zero"

abbrev pub ending_reason : Ending → List ℕ
ending_reason End = codes "the roll has ended"
ending_reason (Damaged place) = codes "the roll is damaged"

abbrev pub fault_reason : RunFault → List ℕ
fault_reason (Calculation f) = calculation_reason f
fault_reason (Roll e) = ending_reason e
fault_reason BookFull = codes "the book is full"
fault_reason Subscript = codes "a subscript lies outside its bounds"

abbrev pub refusal_reason : Refusal → List ℕ
refusal_reason CellCount = codes "the cells are not as many as the code has"
refusal_reason ShortStack = codes "the stack is shorter than the code's depth"
refusal_reason NotNamed = codes "this is not the number of a named cell"
refusal_reason Ended = codes "the run has ended"
refusal_reason StepLimit = codes "the run would pass 4,000,000,000 steps"
refusal_reason ShortBook = codes "the book is shorter than the figures posted"
