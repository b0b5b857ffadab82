-- The numbers of the refusals of calls on a run, and what an answer says in the terms of the definitions.
use Rattle.std.specs.Prelude.{ℕ, Some, None, Ok, Err, Option, Result}
use Rattle.figures.specs.Kinds.{Outcome, value, refused}
use Rattle.machine.specs.declared.refusal.Refusal.{Refusal}
use Rattle.machine.specs.declared.refusal.Refusal.TheVariants.{CellCount, ShortStack, NotNamed, Ended, StepLimit, ShortBook}

abbrev pub number : Refusal → ℕ
number CellCount = 41
number ShortStack = 42
number NotNamed = 43
number Ended = 44
number StepLimit = 45
number ShortBook = 46

abbrev pub answer : {X Y : Type 0} → (X → Y) → Result X Refusal → Outcome Y
answer f (Ok x) = value (f x)
answer f (Err e) = refused (number e)

-- The number of the refusal, where there is one.
abbrev pub refusal_of : {X : Type 0} → Result X Refusal → Option ℕ
refusal_of (Ok x) = None
refusal_of (Err e) = Some (number e)
