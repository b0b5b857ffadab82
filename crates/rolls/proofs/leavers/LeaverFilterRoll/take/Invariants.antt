use Rattle.std.proofs.Common.{◌≡◌, suc, length}
use Rattle.figures.specs.Kinds.{stands_for_zero}
use Rattle.rolls.specs.Groups.{filtered}
use Rattle.rolls.proofs.leavers.LeaverFilterRoll.take.Given as goal

-- The groups passed over so far were all dropped.
abbrev pub invariant-loop-first : goal.invariant-loop-first
invariant-loop-first g l =
    (l.self.left ≡ 0)
    × (filtered (stands_for_zero g.R.Figure.Figures.kind g.R.Figure.Figures.means) (suc l.self.behind) 0 (g.R.Roll.holds l.self.roll)
    ≡ filtered (stands_for_zero g.R.Figure.Figures.kind g.R.Figure.Figures.means) (suc l.initial.self.behind) l.initial.self.left (g.R.Roll.holds l.initial.self.roll))

abbrev pub decreases-loop-first : goal.decreases-loop-first
decreases-loop-first g l = length (g.R.Roll.holds l.self.roll).figures
