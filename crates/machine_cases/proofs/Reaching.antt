-- A call on a run, by its answer.
use Rattle.std.proofs.Common.{◌≡◌, ℕ, Some, None, Option}
use Rattle.figures.specs.Kinds.{Kind, Outcome, value}
use Rattle.code.specs.Codes.{Code}
use Rattle.machine.specs.Histories.{advanced}
use Rattle.machine.specs.Runs.{answer_unless, unless, Advanced, Run}
use Rattle.machine_cases.specs.Told.{Reached}

-- A call that is not refused leaves what it makes.
pub not_refused : {X U : Type 0} {u : U} (o : Option ℕ) (before after : X) {left : X} → value u ≡ answer_unless u o → left ≡ unless before after o → left ≡ after
not_refused None before after a e = e
not_refused (Some n) before after a e = cc

-- A call of advance, refused or not, leads on from a run that is reached.
pub reached_further : {V : Type 0} {kind : Kind V} {c : Code} {before after : Run V} {steps room : ℕ} {answer : Outcome ℕ} → Reached kind c before → Advanced kind steps room before answer after → Reached kind c after
reached_further r a = record { first = r.first; answers = _; started = r.started; history = advanced r.history a }
