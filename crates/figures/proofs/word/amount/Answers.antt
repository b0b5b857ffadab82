use Rattle.figures.proofs.Words.{reads_alone, reads_parted}
use Rattle.figures.proofs.word.amount.Goals as goal

pub returns-in-Some : goal.returns-in-Some
returns-in-Some c = reads_parted c.args.word.now c.in-Some.units c.in-Some.part c.in-Some.ensures.cases c.parts.result c.parts.ensures

pub returns-in-None : goal.returns-in-None
returns-in-None c = reads_alone c.args.word.now c.in-None.ensures.cases c.parts-in-None.result c.parts-in-None.ensures
