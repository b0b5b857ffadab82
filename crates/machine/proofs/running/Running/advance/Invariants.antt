use Rattle.std.proofs.Common.{◌≡◌, ◌+◌, ◌-◌, ◌≤◌}
use Rattle.machine.specs.Runs.{run}
use Rattle.machine.specs.RunViews.{run_of}
use Rattle.machine.proofs.running.Running.advance.Given as goal

-- The steps from here on lead where all of them lead from the start.
abbrev pub invariant-loop-made : goal.invariant-loop-made
invariant-loop-made g l =
    let kind = g.R.Figure.Figures.kind in
    let means = g.R.Figure.Figures.means in
    let first = run_of means l.initial.self l.initial.cells l.initial.book (g.R.Roll.holds l.initial.roll) in
    let here = run_of means l.self l.cells l.book (g.R.Roll.holds l.roll) in
    (l.self.code ≡ l.initial.self.code)
    × (run kind l.steps first ≡ run kind (l.steps - l.made) here)
    × (l.self.count ≤ l.initial.self.count + l.made)
    × (l.initial.self.count ≤ l.self.count)
