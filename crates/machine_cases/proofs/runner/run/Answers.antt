use Rattle.std.proofs.Common.{map, ap, sym, ◌∙◌}
use Rattle.code.specs.CheckedCode.{code_in}
use Rattle.code.specs.Codes.{code_of}
use Rattle.machine.specs.Histories.{started}
use Rattle.machine.specs.RunViews.{run_of}
use Rattle.machine.specs.Views.{memory}
use Rattle.machine.specs.Runs.{cells_refusal, first_progress, Report}
use Rattle.machine_cases.proofs.Reaching.{not_refused, reached_further}
use Rattle.machine_cases.proofs.runner.run.Goals as goal

pub loop-init : goal.loop-init
loop-init g c =
    let means = g.R.Figure.Figures.means in
    let tied = not_refused (cells_refusal (code_in c.check.new.place) (map means c.args.cells.now)) _ _ c.in_ok-prepare.ensures.answered c.in_ok-prepare.ensures.tied in
    record {
      first = run_of means c.start-run.result c.prepare.new.cells c.args.book.now (g.R.Roll.holds c.args.roll.now);
      answers = _;
      started = record { progress = c.start-run.ensures.progress ∙ ap first_progress (tied ∙ c.in_ok-check.ensures.after ∙ ap (λ s. code_of s c.args.operations.now c.args.operands.now) c.sizes_for.ensures); posted = c.start-run.ensures.posted };
      history = started;
    }

pub loop-preserved : goal.loop-preserved
loop-preserved g c = reached_further c.loop.invariant c.advance.ensures.advanced

-- The run that a refused call leaves is reached by that call too.
pub returns-then-is_err-clause-status : goal.returns-then-is_err-clause-status
returns-then-is_err-clause-status g c =
    record {
      now = _;
      reached = reached_further c.loop.invariant c.advance.ensures.advanced;
      report = c.status.ensures;
      memory = ap (λ (r : Report). memory g.R.Figure.Figures.means r.posted c.advance.new.cells c.advance.new.book (g.R.Roll.holds c.advance.new.roll)) (sym c.status.ensures);
    }
