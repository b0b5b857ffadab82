use Rattle.std.proofs.Common.{◌≡◌, suc, ◌-◌, Bool, true, false, sym, ap, ◌∙◌}
use Rattle.figures.specs.Kinds.{same_as, stands_for_zero}
use Rattle.rolls.specs.Contents.{rest}
use Rattle.rolls.specs.Groups.{filtered, past}
use Rattle.rolls.proofs.Grouping.{dropped_after, inside_rest, kept_after}
use Rattle.rolls.proofs.leavers.LeaverFilterRoll.take.Goals as goal

pub returns-then-self-gt0-clause-left : goal.returns-then-self-gt0-clause-left
returns-then-self-gt0-clause-left g c =
    let z : g.row.R-Figure.Denot → Bool = stands_for_zero g.R.Figure.Figures.kind g.R.Figure.Figures.means in
    let f = c.args.self.now in
    ap (filtered z (suc f.behind) (f.left - 1)) c.take.ensures.left
    ∙ inside_rest z (suc f.behind) f.left (g.R.Roll.holds f.roll) c.if-self-gt0.true

pub returns-then-not-same-clause-left : goal.returns-then-not-same-clause-left
returns-then-not-same-clause-left g c =
    let z : g.row.R-Figure.Denot → Bool = stands_for_zero g.R.Figure.Figures.kind g.R.Figure.Figures.means in
    let behind = c.loop-first.self.behind in
    let x = c.in_ok-first.first in
    let stays : z x ≡ false =
    ap (same_as g.R.Figure.Figures.kind (g.R.Figure.Figures.means x)) c.zero-nought.ensures ∙ sym c.same.ensures ∙ c.if-not-same.true
    in
    ap (filtered z (suc behind) behind) c.in_ok-first.ensures.left
    ∙ kept_after z behind (g.R.Roll.holds c.loop-first.self.roll) x c.in_ok-first.ensures.answer stays ∙ ap rest c.loop-first.invariant.1

pub loop-first-preserved : goal.loop-first-preserved
loop-first-preserved g c =
    let z : g.row.R-Figure.Denot → Bool = stands_for_zero g.R.Figure.Figures.kind g.R.Figure.Figures.means in
    let behind = c.loop-first.self.behind in
    let x = c.in_ok-first.first in
    let skipped = c.skip.ensures ∙ ap (past behind) c.in_ok-first.ensures.left in
    let gone : z x ≡ true =
    ap (same_as g.R.Figure.Figures.kind (g.R.Figure.Figures.means x)) c.zero-nought.ensures ∙ sym c.same.ensures ∙ c.if-not-same.false
    in (
      c.loop-first.invariant.0,
      ap (filtered z (suc behind) 0) skipped
          ∙ dropped_after z behind (g.R.Roll.holds c.loop-first.self.roll) x c.in_ok-first.ensures.answer gone ∙ c.loop-first.invariant.1,
    )
