-- The symbol table as a report shows it: a line for each name, in columns.
use Rattle.std.specs.Prelude.{ℕ, ℤ, pos, ◌-◌, ◌^◌, List, ◌++◌, Option, None, Some, codes}
use Rattle.std.specs.List.{flat_map}
use Rattle.std.specs.Fmt.{format_spec, styled_text, styled_decimal, styled_signed_decimal}
use Rattle.parser.specs.declared.table.Record.{Record}
use Rattle.symbols.specs.declared.value_type.ValueType.{ValueType}
use Rattle.symbols.specs.declared.value_type.ValueType.TheVariants.{Untyped, Integer, Boolean}
use Rattle.analysis.specs.declared.symbol.NameKind.{NameKind}
use Rattle.analysis.specs.declared.symbol.NameKind.TheVariants.{Label, Switch, Array, Variable}
use Rattle.analysis.specs.declared.symbol.NameRecord.{NameRecord}
use Rattle.reports.specs.declared.cells.Cells.{Cells}
use Rattle.reports.specs.Cells.{line_cells}
use Rattle.reports.specs.Names.{name_shown}

-- What a name is, in a word.
abbrev pub kind_shown : NameKind → List ℕ
kind_shown Label = codes "label"
kind_shown (Switch i) = codes "switch"
kind_shown (Array l h) = codes "array"
kind_shown Variable = codes "variable"

-- Its type, in a word.
abbrev pub type_shown : ValueType → List ℕ
type_shown Untyped = codes "none"
type_shown Integer = codes "integer"
type_shown Boolean = codes "boolean"

-- A text at the left of a column of this width, which blanks fill; a longer text is not cut.
abbrev pub left_column : ℕ → List ℕ → List ℕ
left_column width text = styled_text (format_spec 32 1 0 width (2 ^ 64 - 1)) text

-- The text stands at the right.
abbrev pub right_column : ℕ → List ℕ → List ℕ
right_column width text = styled_text (format_spec 32 3 0 width (2 ^ 64 - 1)) text

-- So do numbers.
abbrev pub number_column : ℕ → ℕ → List ℕ
number_column width n = styled_decimal (format_spec 32 3 0 width (2 ^ 64 - 1)) n

-- So do numbers with a sign.
abbrev pub signed_column : ℕ → ℤ → List ℕ
signed_column width n = styled_signed_decimal (format_spec 32 3 0 width (2 ^ 64 - 1)) n

-- What parts two columns.
abbrev pub gap : List ℕ
gap = codes "  "

-- First cell, count and low bound; of a name without cells a count of 0, and dashes.
abbrev pub cells_shown : Option Cells → List ℕ
cells_shown None = right_column 5 (codes "-") ++ (gap ++ (signed_column 5 (pos 0) ++ (gap ++ right_column 5 (codes "-"))))
cells_shown (Some c) = number_column 5 c.first ++ (gap ++ (number_column 5 c.count ++ (gap ++ signed_column 5 c.low)))

-- A line: name, kind, type, first cell, count of cells, low bound.
abbrev pub symbol_shown : List ℕ → List Record → NameRecord → List ℕ
symbol_shown text rs r =
    left_column 16 (name_shown text rs r.word)
    ++ (gap ++ (left_column 8 (kind_shown r.kind) ++ (gap ++ (left_column 7 (type_shown r.value_type) ++ (gap ++ (cells_shown (line_cells r) ++ codes "\n"))))))

-- The line above them all.
abbrev pub column_heads : List ℕ
column_heads =
    left_column 16 (codes "name") ++ (gap ++ (left_column 8 (codes "kind") ++ (gap ++ (left_column 7 (codes "type")
    ++ (gap ++ (right_column 5 (codes "first") ++ (gap ++ (right_column 5 (codes "count") ++ (gap ++ (right_column 5 (codes "low") ++ codes "\n"))))))))))

-- The heads of the columns, and the lines of the names.
abbrev pub table_shown : List ℕ → List Record → List NameRecord → List ℕ
table_shown text rs lines = column_heads ++ flat_map (symbol_shown text rs) lines
