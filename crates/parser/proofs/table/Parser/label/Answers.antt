use Rattle.std.proofs.Common.{◌-◌, arith}
use Rattle.parser.proofs.Labels.{making_more, making_done}
use Rattle.parser.proofs.table.Parser.label.Goals as goal

pub loop-label-preserved : goal.loop-label-preserved
loop-label-preserved c =
    let s = c.loop-label.self in
    let inv = c.loop-label.invariant in
    making_more c.args.first c.args.labels c.args.statement c.args.self.now s c.make-all.new.self c.loop-label.label (c.loop-label.label - 1) c.loop-label.all c.make-all.result inv
    (omega (arith, c.loop-label-test.true)) (omega (arith, c.loop-label-test.true, inv.made, inv.on, c.requires.paid)) c.make-all.ensures

pub returns : goal.returns
returns c = making_done c.args.first c.args.labels c.args.statement c.args.self.now c.loop-label.self c.loop-label.label c.loop-label.all c.loop-label.invariant (omega (arith, c.loop-label-test.false))
