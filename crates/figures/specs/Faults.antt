-- The numbers of the faults of a calculation, and what a call's answer says in the terms of the definitions.
use Rattle.std.specs.Prelude.{ℕ, Ok, Err, Result}
use Rattle.figures.specs.declared.fault.Fault.{Fault}
use Rattle.figures.specs.declared.fault.Fault.TheVariants.{OutOfRange, DivisionByZero}
use Rattle.figures.specs.Kinds.{Outcome, value, refused}

abbrev pub number : Fault → ℕ
number OutOfRange = 31
number DivisionByZero = 32

-- An answer says its figure's value, or the number of its fault.
abbrev pub outcome : {F V : Type 0} → (F → V) → Result F Fault → Outcome V
outcome means (Ok x) = value (means x)
outcome means (Err e) = refused (number e)
