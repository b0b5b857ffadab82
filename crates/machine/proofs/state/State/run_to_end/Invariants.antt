use Rattle.std.proofs.Common.{◌≡◌, ℕ, ◌≤◌}
use Rattle.code.specs.CheckedCode.{code_in}
use Rattle.machine.specs.Fits.{operations_left}
use Rattle.machine.specs.Loans.{SameLoans, Stands}
use Rattle.machine.specs.Machine.{ResultOf}
use Rattle.machine.specs.Steps.{run_to_end}
use Rattle.machine.specs.Views.{state}
use Rattle.machine.proofs.state.State.run_to_end.Given as goal

-- What comes of the operations from here on comes of those from the start.
abbrev pub invariant-operations : goal.invariant-operations
invariant-operations g l =
    let kind = g.R.Figure.Figures.kind in
    let means = g.R.Figure.Figures.means in
    let code = code_in l.code in
    let s = state means g.R.Roll.holds l.stack l.self in
    let first = state means g.R.Roll.holds l.initial.stack l.initial.self in
    Stands code l.stack l.self
    × ((r : ResultOf g.R.Figure.Figures.Value) → ((k : ℕ) → operations_left code l.self.place ≤ k → run_to_end kind code k s ≡ r) → (k : ℕ) → operations_left code l.initial.self.place ≤ k → run_to_end kind code k first ≡ r)
    × SameLoans l.initial.self l.self

abbrev pub decreases-operations : goal.decreases-operations
decreases-operations g l = operations_left (code_in l.code) l.self.place
