use Rattle.std.proofs.Common.{ap, ◌∙◌}
use Rattle.rolls.specs.Contents.{rest}
use Rattle.rolls.proofs.Grouping.{past_more}
use Rattle.rolls.proofs.leavers.skip.Goals as goal

pub loop-preserved : goal.loop-preserved
loop-preserved g c = c.take.ensures.left ∙ ap rest c.loop.invariant ∙ past_more c.loop.counter _
