-- The nodes of a table of records.
use Rattle.std.specs.Prelude.{ℕ, List, slice_index_or}
use Rattle.parser.specs.declared.table.Record.{Record}
use Rattle.parser.specs.declared.node.Node.{Node}
use Rattle.parser.specs.declared.node.Node.TheVariants.{Empty}
use Rattle.parser.specs.Records.{nodes}

-- Past the table there is no node.
abbrev pub node_of : List Record → ℕ → Node
node_of rs i = slice_index_or (nodes rs) i Empty
