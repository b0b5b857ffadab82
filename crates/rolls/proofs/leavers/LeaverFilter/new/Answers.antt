use Rattle.std.proofs.Common.{◌≡◌, suc, ◌-◌, Bool, sym, ap, subst, arith}
use Rattle.figures.specs.Kinds.{stands_for_zero}
use Rattle.rolls.specs.Groups.{Keeps, groups, kept, stayers}
use Rattle.rolls.proofs.Grouping.{keeps_stayers}
use Rattle.rolls.proofs.leavers.LeaverFilter.new.Goals as goal

pub returns : goal.returns
returns g c =
    let z : g.row.R-Figure.Denot → Bool = stands_for_zero g.R.Figure.Figures.kind g.R.Figure.Figures.means in
    let group = c.args.group in
    let held = g.R.Roll.holds c.args.roll in
    let whole : suc (group - 1) ≡ group = omega arith in
    record {
      size = (omega arith, omega arith);
      holds = ap (λ k. kept z k held) whole;
      keeps =
          subst (λ k. Keeps z group held.figures (stayers z (groups k held.figures))) (sym whole)
          (keeps_stayers z group (omega arith) held.figures);
    }
