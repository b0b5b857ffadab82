use Rattle.std.proofs.Common.{ap, ◌∙◌}
use Rattle.figures.specs.Range.{in_range}
use Rattle.figures.proofs.Stored.{part_held}
use Rattle.figures.proofs.hundredths.HundredthsFigures.multiply.Goals as goal

pub returns : goal.returns
returns c = c.try_from.ensures ∙ ap in_range (part_held c.value.ensures.bound c.value-2.ensures.bound c.value.ensures.value c.value-2.ensures.value)
