use Rattle.std.proofs.Common.{◌≡◌, ◌≤◌, List, length}
use Rattle.grammar.specs.Tree.{Name}
use Rattle.parser.specs.Records.{words, nodes}
use Rattle.analysis.specs.Numbering.{view_of, names_in, Entered}
use Rattle.analysis.proofs.numbering.number_names.Given as goal

-- Words and nodes are those of the beginning, and where the table has room for all names, the words before w have their
-- lines.
abbrev pub invariant-loop-w : goal.invariant-loop-w
invariant-loop-w l =
    (words l.records ≡ words l.initial.records) × (nodes l.records ≡ nodes l.initial.records) × (l.n ≤ length l.names)
    × (length (names_in (view_of l.text l.initial.records l.count)) ≤ length l.initial.names
    → (ns : List Name) × Entered (view_of l.text l.initial.records l.count) l.records l.w ns l.n l.names)
