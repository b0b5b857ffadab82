-- The cells of a name, from its line of the symbol table: a simple variable has one, an array one for each subscript,
-- labels and switches have none. The cells of a line are those that specs/Symbols.antt of the crate symbols counts.
use Rattle.std.specs.Prelude.{ℕ, ℤ, List, ◌++◌, take, drop, pos, Some, None, Option, codes}
use Rattle.std.specs.Fmt.{signed_decimal}
use Rattle.parser.specs.Records.{bound_in}
use Rattle.symbols.specs.Symbols.{bound_value, extent}
use Rattle.analysis.specs.declared.symbol.NameKind.{NameKind}
use Rattle.analysis.specs.declared.symbol.NameKind.TheVariants.{Label, Switch, Array, Variable}
use Rattle.analysis.specs.declared.symbol.NameRecord.{NameRecord}
use Rattle.reports.specs.declared.cells.Cells.{Cells}

abbrev pub kind_cells : ℕ → NameKind → Option Cells
kind_cells c Label = None
kind_cells c (Switch i) = None
kind_cells c (Array l h) = Some (record { first = c; count = extent (bound_value (bound_in l)) (bound_value (bound_in h)); low = bound_value (bound_in l) })
kind_cells c Variable = Some (record { first = c; count = 1; low = pos 0 })

abbrev pub line_cells : NameRecord → Option Cells
line_cells r = kind_cells r.first r.kind

-- What the cells hold, out of all cells.
abbrev pub figures_in : {F : Type 0} → Cells → List F → List F
figures_in cells all = take cells.count (drop cells.first all)

-- A cell by the text of its name: an array's with its subscript in brackets, any other by the name alone.
abbrev pub cell_shown : List ℕ → NameKind → ℤ → List ℕ
cell_shown x Label k = x
cell_shown x (Switch i) k = x
cell_shown x (Array l h) k = x ++ (codes "[" ++ (signed_decimal k ++ codes "]"))
cell_shown x Variable k = x
