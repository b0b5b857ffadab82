use Rattle.std.proofs.Common.{◌≡◌, ◌+◌, ◌-◌, ◌^◌, ◌≤◌, min, map, length}
use Rattle.figures.specs.Faults.{outcome}
use Rattle.rolls.specs.Tallies.{sum_from, total}
use Rattle.rolls.proofs.tally.add_up.Given as goal

-- The sum so far and the figures to come make the total, the count and the length to come make the length.
abbrev pub invariant-loop-figure : goal.invariant-loop-figure
invariant-loop-figure g l =
    let held = g.R.Roll.holds l.roll in
    let whole = g.R.Roll.holds l.initial.roll in
    (min (l.count + length held.figures) (2 ^ 64 - 1) ≡ min (length whole.figures) (2 ^ 64 - 1))
    × (sum_from g.R.Figure.Figures.kind (outcome g.R.Figure.Figures.means l.sum) (map g.R.Figure.Figures.means held.figures)
    ≡ total g.R.Figure.Figures.kind (map g.R.Figure.Figures.means whole.figures))
    × (held.ending ≡ whole.ending)
    × (l.count ≤ 2 ^ 64 - 1)

abbrev pub decreases-loop-figure : goal.decreases-loop-figure
decreases-loop-figure g l = length (g.R.Roll.holds l.roll).figures
