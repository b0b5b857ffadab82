use Rattle.std.proofs.Common.{◌≡◌}
use Rattle.rolls.specs.Groups.{past}
use Rattle.rolls.proofs.leavers.skip.Given as goal

-- As many figures are passed over as turns were made.
abbrev pub invariant-loop : goal.invariant-loop
invariant-loop g l = g.R.Roll.holds l.roll ≡ past l.counter (g.R.Roll.holds l.initial.roll)
