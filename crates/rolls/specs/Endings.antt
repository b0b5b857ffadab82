-- What a call's answer says in the terms of the definitions, and the numbers of a roll's endings.
use Rattle.std.specs.Prelude.{ℕ, Ok, Err, Result}
use Rattle.rolls.specs.declared.roll.Ending.{Ending}
use Rattle.rolls.specs.declared.roll.Ending.TheVariants.{End, Damaged}
use Rattle.rolls.specs.Contents.{HowItEnds, Taken, at_ending, damaged_at, ending_number, ends, took}

-- How a roll ends that tells this ending.
abbrev pub how_it_ends : Ending → HowItEnds
how_it_ends End = ends
how_it_ends (Damaged place) = damaged_at place

-- The number under which users know it.
abbrev pub number : Ending → ℕ
number e = ending_number (how_it_ends e)

-- What taking answers at it.
abbrev pub stopped : {F : Type 0} → Ending → Taken F
stopped e = at_ending (how_it_ends e)

-- What a call's answer says.
abbrev pub taken : {F : Type 0} → Result F Ending → Taken F
taken (Ok x) = took x
taken (Err e) = stopped e
