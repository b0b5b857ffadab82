use Rattle.std.proofs.Common.{ap, ◌∙◌}
use Rattle.words.specs.Token.{name}
use Rattle.words.specs.Words.{name_token}
use Rattle.words.proofs.reader.name_token.Goals as goal

pub returns-in-Some : goal.returns-in-Some
unfolding name_token
returns-in-Some c = λ bs e. c.in-Some.ensures (name c.args.name.now)

pub returns-in-None : goal.returns-in-None
unfolding name_token
returns-in-None c = λ bs e. ap name e ∙ c.in-None.ensures (name c.args.name.now)
