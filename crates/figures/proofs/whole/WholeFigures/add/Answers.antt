use Rattle.std.proofs.Common.{ap, ◌∙◌}
use Rattle.figures.specs.Range.{in_range}
use Rattle.figures.proofs.Stored.{sum_held}
use Rattle.figures.proofs.whole.WholeFigures.add.Goals as goal

pub returns : goal.returns
returns c = c.try_from.ensures ∙ ap in_range (sum_held c.value.ensures.bound c.value-2.ensures.bound c.value.ensures.value c.value-2.ensures.value)
