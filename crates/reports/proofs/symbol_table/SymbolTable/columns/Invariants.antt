use Rattle.std.proofs.Common.{◌≡◌, take}
use Rattle.std.specs.String.{string_bytes}
use Rattle.reports.specs.SymbolLines.{table_shown}
use Rattle.reports.proofs.symbol_table.SymbolTable.columns.Given as goal

-- The table of the lines so far.
abbrev pub invariant-loop-line : goal.invariant-loop-line
invariant-loop-line l = string_bytes l.out ≡ table_shown l.self.source.text.now l.self.source.records.now (take l.line-index l.line-items)
