use Rattle.std.proofs.Common.{Some, ap, ap₂, ◌∙◌}
use Rattle.std.proofs.Output.{has_written_of_eq}
use Rattle.code.specs.Answers.{number}
use Rattle.code.specs.Names.{reason, refusal_line}
use Rattle.code.proofs.refusals.RefusalDisplay.fmt.Goals as goal

pub returns-in-Some-clause-writes : goal.returns-in-Some-clause-writes
returns-in-Some-clause-writes g c =
    let e = c.args.self.now in
    let words = ap₂ (λ k why. refusal_line k (Some c.in-Some.place) why) c.number-number.ensures c.reason-reason.ensures in
    let place = ap (λ at. refusal_line (number e) at (reason e)) c.in-Some.ensures in
    λ plain ok. has_written_of_eq _ _ _ _ _ (words ∙ place) (c.write.ensures.writes plain ok)
