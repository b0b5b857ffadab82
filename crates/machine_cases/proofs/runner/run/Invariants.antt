use Rattle.std.proofs.Common.{length}
use Rattle.code.specs.Codes.{code_of}
use Rattle.machine.specs.RunViews.{run_of}
use Rattle.machine_cases.specs.Told.{case_sizes, Reached}
use Rattle.machine_cases.proofs.runner.run.Given as goal

-- The run came here by calls of advance.
abbrev pub invariant-loop : goal.invariant-loop
invariant-loop g l = Reached g.R.Figure.Figures.kind (code_of (case_sizes (length l.operations)) l.operations l.operands) (run_of g.R.Figure.Figures.means l.run l.cells l.book (g.R.Roll.holds l.roll))
