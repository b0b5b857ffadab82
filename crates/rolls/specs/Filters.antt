-- The number of the leaver filter's refusal.
use Rattle.std.specs.Prelude.{ℕ}
use Rattle.rolls.specs.declared.leavers.FilterRefusal.{FilterRefusal}
use Rattle.rolls.specs.declared.leavers.FilterRefusal.TheVariants.{GroupSize}

abbrev pub number : {R : Type 0} → FilterRefusal R → ℕ
number (GroupSize roll) = 48
