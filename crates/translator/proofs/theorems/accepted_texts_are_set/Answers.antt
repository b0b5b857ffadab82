use Rattle.translator.proofs.AcceptedSetting.{accepted_setting}
use Rattle.translator.proofs.theorems.accepted_texts_are_set.Goals as goal

pub returns : goal.returns
returns g c = accepted_setting g.F.Figures.kind g.met.F.Figures.counts g.met.F.Figures.tells
