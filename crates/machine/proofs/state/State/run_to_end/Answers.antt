use Rattle.std.proofs.Common.{◌≡◌, true, false, sym, ap, ◌∙◌}
use Rattle.std.proofs.lemmas.Result.{err_from_is_err_and}
use Rattle.code.specs.CheckedCode.{code_in}
use Rattle.code.specs.Codes.{operation_at}
use Rattle.machine.specs.Machine.{goes}
use Rattle.machine.specs.Steps.{ends_step_at}
use Rattle.machine.specs.Views.{state}
use Rattle.machine.proofs.Loans.{same_trans}
use Rattle.machine.proofs.Stepping.{ended_stays, fault_ends, fewer_left, goes_on}
use Rattle.machine.proofs.state.State.run_to_end.Goals as goal

pub returns-then-ends_step : goal.returns-then-ends_step
returns-then-ends_step g c =
    let kind = g.R.Figure.Figures.kind in
    let code = code_in c.args.code.now in
    let l = c.operations in
    let s = state g.R.Figure.Figures.means g.R.Roll.holds l.stack l.self in
    let here : ends_step_at (operation_at code.operations l.self.place) ≡ true = ap ends_step_at c.operation_at-operation.ensures ∙ sym c.ends_step.ensures ∙ c.if-ends_step.true in
    record {
      done = l.invariant.1 (goes s) (ended_stays kind code s here);
      next = record { fits = l.invariant.0; ended = here };
      same = l.invariant.2;
    }

pub operations-preserved : goal.operations-preserved
operations-preserved g c =
    let kind = g.R.Figure.Figures.kind in
    let means = g.R.Figure.Figures.means in
    let code = code_in c.args.code.now in
    let l = c.operations in
    let n = c.perform.new.self in
    let s = state means g.R.Roll.holds l.stack l.self in
    let t = state means g.R.Roll.holds c.perform.new.stack n in
    let here : ends_step_at (operation_at code.operations l.self.place) ≡ false = ap ends_step_at c.operation_at-operation.ensures ∙ sym c.ends_step.ensures ∙ c.if-ends_step.false in
    let e = c.in_ok-perform.ensures in
    let falls = fewer_left code l.self.place n.place _ _ _ l.invariant.0.inside here e.next in
    (e.next.fits, λ r h. l.invariant.1 r (goes_on kind code s t r here e.done falls h), same_trans l.invariant.2 e.same)

pub returns-in_err-perform : goal.returns-in_err-perform
returns-in_err-perform g c =
    let kind = g.R.Figure.Figures.kind in
    let code = code_in c.args.code.now in
    let l = c.operations in
    let s = state g.R.Figure.Figures.means g.R.Roll.holds l.stack l.self in
    let here : ends_step_at (operation_at code.operations l.self.place) ≡ false = ap ends_step_at c.operation_at-operation.ensures ∙ sym c.ends_step.ensures ∙ c.if-ends_step.false in
    let q = err_from_is_err_and c.from_residual.result c.from_residual.ensures.1 in
    let e = c.in_err-perform.ensures in
    rw (q.1, q.2) (record { done = l.invariant.1 _ (fault_ends kind code s _ _ here e.done); next = tt; same = same_trans l.invariant.2 e.same })
