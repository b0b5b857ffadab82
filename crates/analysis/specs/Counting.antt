-- Counting cells over the records: those of the lines, each with its first cell, and one for each for.
use Rattle.std.specs.Prelude.{◌≡◌, ℕ, ◌+◌, min, List, [], ◌∷◌, map, length, slice_index}
use Rattle.grammar.specs.Tree.{Row, Item}
use Rattle.parser.specs.declared.table.Record.{Record}
use Rattle.parser.specs.Records.{View, nodes, bound_in, RowAt, ItemAt}
use Rattle.symbols.specs.Occurrences.{each, item_fors}
use Rattle.symbols.specs.Symbols.{bound_value, extent}
use Rattle.symbols.specs.Rules.{Claim, passing_claims}
use Rattle.analysis.specs.declared.symbol.NameKind.{NameKind}
use Rattle.analysis.specs.declared.symbol.NameKind.TheVariants.{Label, Switch, Array, Variable}
use Rattle.analysis.specs.declared.symbol.NameRecord.{NameRecord}
use Rattle.analysis.specs.declared.cell_count.CellCount.{CellCount}
use Rattle.analysis.specs.Earliest.{earliest_of}
use Rattle.analysis.specs.NameLines.{word_places}

-- How many cells a line's name has.
abbrev pub cells_of : NameKind → ℕ
cells_of Label = 0
cells_of (Switch i) = 0
cells_of (Array l h) = extent (bound_value (bound_in l)) (bound_value (bound_in h))
cells_of Variable = 1

abbrev pub cells_in : List NameRecord → ℕ
cells_in [] = 0
cells_in (r ∷ rs) = cells_of r.kind + cells_in rs

-- The lines with their first cells, from cell c on.
abbrev pub with_first : ℕ → NameRecord → NameRecord
with_first c r = record { word = r.word; kind = r.kind; value_type = r.value_type; first = c; place = r.place; target = r.target }

abbrev pub placed : ℕ → List NameRecord → List NameRecord
placed c [] = []
placed c (r ∷ rs) = with_first c r ∷ placed (c + cells_of r.kind) rs

-- What the lines claim.
abbrev pub line_claim : List Record → NameRecord → Claim
line_claim ws r = record { place = slice_index (word_places ws) r.word; cells = cells_of r.kind }

abbrev pub line_claims : List Record → List NameRecord → List Claim
line_claims ws rs = map (line_claim ws) rs

pub record PlacesCells (ws : List Record) (lines lines' : List NameRecord) (r : CellCount) : Type 0 where
  pub table : lines' ≡ placed 0 lines
  pub cells : r.cells ≡ cells_in lines
  pub told : r.offence ≡ earliest_of (passing_claims 0 (line_claims ws lines))

-- What the fors claim, by their places.
abbrev pub for_claims : List ℕ → List Claim
for_claims ps = map (λ (p : ℕ). record { place = p; cells = 1 }) ps

-- Some fors counted behind the first c cells.
pub record Counts (c : ℕ) (ps : List ℕ) (r : CellCount) : Type 0 where
  pub cells : r.cells ≡ min (c + length ps) 2049
  pub told : r.offence ≡ earliest_of (passing_claims c (for_claims ps))

abbrev pub CountsItems : List Record → ℕ → ℕ → CellCount → Type 0
CountsItems rs i c r = (v : View) (t : Row Item) → v.nodes ≡ nodes rs → RowAt ItemAt v t i → Counts c (each item_fors t) r
