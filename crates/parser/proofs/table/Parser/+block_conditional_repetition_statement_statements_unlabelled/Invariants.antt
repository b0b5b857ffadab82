use Rattle.std.proofs.Common.{◌+◌, ◌-◌, ◌*◌}
use Rattle.grammar.specs.Grammar.{statement}
use Rattle.parser.proofs.Rows.{RowGoes}
use Rattle.parser.proofs.table.Parser.+block_conditional_repetition_statement_statements_unlabelled.Given as goal

abbrev pub decreases-block : goal.decreases-block
decreases-block l = 5 * (l.self.now.count - l.self.now.at) + 1

abbrev pub decreases-conditional : goal.decreases-conditional
decreases-conditional l = 5 * (l.self.now.count - l.self.now.at) + 1

abbrev pub decreases-repetition : goal.decreases-repetition
decreases-repetition l = 5 * (l.self.now.count - l.self.now.at) + 1

abbrev pub decreases-statement : goal.decreases-statement
decreases-statement l = 5 * (l.self.now.count - l.self.now.at) + 3

abbrev pub decreases-statements : goal.decreases-statements
decreases-statements l = 5 * (l.self.now.count - l.self.now.at) + 4

abbrev pub decreases-unlabelled : goal.decreases-unlabelled
decreases-unlabelled l = 5 * (l.self.now.count - l.self.now.at) + 2

abbrev pub invariant-statements-loop-self : goal.invariant-statements-loop-self
invariant-statements-loop-self l = RowGoes statement l.levels l.initial.self l.initial.all l.self l.all

abbrev pub decreases-statements-loop-self : goal.decreases-statements-loop-self
decreases-statements-loop-self l = l.self.count - l.self.at
