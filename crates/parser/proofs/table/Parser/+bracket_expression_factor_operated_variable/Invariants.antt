use Rattle.std.proofs.Common.{◌+◌, ◌-◌, ◌*◌}
use Rattle.parser.proofs.Operators.{OperatorsGo}
use Rattle.parser.proofs.table.Parser.+bracket_expression_factor_operated_variable.Given as goal

abbrev pub decreases-bracket : goal.decreases-bracket
decreases-bracket l = 4 * (l.self.now.count - l.self.now.at) + 1

abbrev pub decreases-expression : goal.decreases-expression
decreases-expression l = 4 * (l.self.now.count - l.self.now.at) + 3

abbrev pub decreases-factor : goal.decreases-factor
decreases-factor l = 4 * (l.self.now.count - l.self.now.at) + 2

abbrev pub decreases-operated : goal.decreases-operated
decreases-operated l = 4 * (l.self.now.count - l.self.now.at) + 1

abbrev pub decreases-variable : goal.decreases-variable
decreases-variable l = 4 * (l.self.now.count - l.self.now.at) + 1

abbrev pub invariant-operated-loop-o : goal.invariant-operated-loop-o
invariant-operated-loop-o l = OperatorsGo l.rank l.levels l.initial.self l.initial.left l.initial.up_to l.self l.left l.up_to

abbrev pub decreases-operated-loop-o : goal.decreases-operated-loop-o
decreases-operated-loop-o l = l.self.count - l.self.at
