-- The numbers of the refusals by names and types. Every promise takes them from here.
use Rattle.std.specs.Prelude.{ℕ}
use Rattle.symbols.specs.declared.refusal.NameRefusal.{NameRefusal}
use Rattle.symbols.specs.declared.refusal.NameRefusal.TheVariants.{SecondDefinition, MisusedName, WrongType, JumpIntoFor, WrongBounds, TooManyCells}

abbrev pub number : NameRefusal → ℕ
number SecondDefinition = 7
number MisusedName = 8
number WrongType = 9
number JumpIntoFor = 10
number WrongBounds = 11
number TooManyCells = 12
