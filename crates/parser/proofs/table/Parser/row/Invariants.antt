use Rattle.std.proofs.Common.{◌-◌}
use Rattle.parser.proofs.Rows.{RowGoes}
use Rattle.parser.proofs.table.Parser.row.Given as goal

abbrev pub invariant-loop-self : goal.invariant-loop-self
invariant-loop-self g l = RowGoes g.P.RowPart.part l.levels l.initial.self l.initial.all l.self l.all

abbrev pub decreases-loop-self : goal.decreases-loop-self
decreases-loop-self g l = l.self.count - l.self.at
