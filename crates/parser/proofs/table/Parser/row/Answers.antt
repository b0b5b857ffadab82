use Rattle.std.proofs.lemmas.Result.{err_from_is_err_and}
use Rattle.parser.proofs.Rows.{row_none, row_again, row_paid, row_falls, row_fails, row_refused, row_ended}
use Rattle.parser.proofs.table.Parser.row.Goals as goal

pub returns-in_err-all : goal.returns-in_err-all
returns-in_err-all g c =
    let p = err_from_is_err_and c.from_residual.result c.from_residual.ensures.1 in
    record {
      moves = c.read.ensures.moves;
      reads = rw (p.1, p.2) (row_fails g.P.RowPart.part c.args.levels c.args.self.now _ c.in_err-all.ensures.reads);
    }

pub loop-self-init : goal.loop-self-init
loop-self-init g c = row_none g.P.RowPart.part c.args.levels c.read.new.parser c.in_ok-all.all c.in_ok-all.ensures.reads.below

pub returns-in_err-next : goal.returns-in_err-next
returns-in_err-next g c =
    let p = err_from_is_err_and c.from_residual-in_err-next.result c.from_residual-in_err-next.ensures.1 in
    rw (p.1, p.2) (row_refused g.P.RowPart.part c.args.levels c.args.self.now c.read.new.parser c.in_ok-all.all c.loop-self.self c.loop-self.all
    c.take.new.self c.read-in-Some.new.parser _ c.in_ok-all.ensures.reads c.loop-self.invariant
    (rw c.separator-separator.ensures at c.in-Some.ensures.is) c.in-Some.ensures.took c.read-in-Some.ensures.moves c.in_err-next.ensures.reads)

pub make-all-requires : goal.make-all-requires
make-all-requires g c =
    record {
      paid = row_paid g.P.RowPart.part c.args.levels c.read.new.parser c.in_ok-all.all c.loop-self.self c.loop-self.all c.take.new.self c.read-in-Some.new.parser
          c.loop-self.invariant c.in-Some.ensures.took c.in_ok-next.ensures.moves;
    }

pub loop-self-smaller : goal.loop-self-smaller
loop-self-smaller g c =
    row_falls g.P.RowPart.part c.loop-self.self c.take.new.self c.read-in-Some.new.parser c.make-all.new.self c.loop-self.all c.in_ok-next.next c.make-all.result
    (rw c.separator-separator.ensures at c.in-Some.ensures.is) c.in-Some.ensures.took c.in_ok-next.ensures.moves c.make-all.ensures

pub loop-self-preserved : goal.loop-self-preserved
loop-self-preserved g c =
    row_again g.P.RowPart.part c.args.levels c.read.new.parser c.in_ok-all.all c.loop-self.self c.loop-self.all c.take.new.self c.read-in-Some.new.parser c.make-all.new.self
    c.in_ok-next.next c.make-all.result c.loop-self.invariant (rw c.separator-separator.ensures at c.in-Some.ensures.is) c.in-Some.ensures.took c.in_ok-next.ensures.reads c.make-all.ensures

pub returns : goal.returns
returns g c =
    row_ended g.P.RowPart.part c.args.levels c.args.self.now c.read.new.parser c.in_ok-all.all c.loop-self.self c.loop-self.all c.take.new.self
    c.in_ok-all.ensures.reads c.loop-self.invariant (rw c.separator-separator.ensures at c.in_default.ensures.is) c.in_default.ensures.took
