-- The name table filled: it holds the symbol table, and what is told of rules 7 and 12 is as they are defined.
use Rattle.std.specs.Prelude.{◌≡◌, ℕ, ◌+◌, ◌≤◌, min, List, [], length, take}
use Rattle.grammar.specs.Tree.{Program}
use Rattle.grammar.specs.Meaning.{Sentence}
use Rattle.parser.specs.declared.table.Record.{Record}
use Rattle.parser.specs.Records.{View, words, nodes, ProgramAt}
use Rattle.symbols.specs.Occurrences.{Occurrence, occurrences, fors}
use Rattle.symbols.specs.Symbols.{Symbol, symbols, named_cells}
use Rattle.symbols.specs.Rules.{second_definitions, claims, passing_claims}
use Rattle.analysis.specs.declared.symbol.NameRecord.{NameRecord}
use Rattle.analysis.specs.declared.name_table.NameTable.{NameTable}
use Rattle.analysis.specs.Earliest.{earliest_of}
use Rattle.analysis.specs.SymbolTable.{HoldsSymbols}
use Rattle.analysis.specs.Numbering.{view_of}

-- The table of a text with the symbols ss, the occurrences os and the fors ps.
pub record Filled (v : View) (rs : List Record) (lines : List NameRecord) (ss : List Symbol) (os : List Occurrence) (ps : List ℕ) (r : NameTable) : Type 0 where
  pub count : r.lines ≡ length ss
  pub table : HoldsSymbols v rs (take r.lines lines) ss
  pub second : r.second ≡ earliest_of (second_definitions os [] os)
  pub named : r.named_cells ≡ named_cells ss
  pub cells : r.cells ≡ min (named_cells ss + length ps) 2049
  pub too_many : r.too_many ≡ earliest_of (passing_claims 0 (claims ss ps))

-- Filled for every sentence of at most 500 words whose tree stands at the node, where the table has 256 lines or more.
-- Words and nodes stay.
pub record Fills (text : List ℕ) (count root : ℕ) (rs rs' : List Record) (lines lines' : List NameRecord) (r : NameTable) : Type 0 where
  pub words : words rs' ≡ words rs
  pub nodes : nodes rs' ≡ nodes rs
  pub filled : (l : ℕ) (t : Program) → Sentence l (view_of text rs count).words t → ProgramAt (view_of text rs count) t root → length (view_of text rs count).words ≤ 500 → 256 ≤ length lines
      → Filled (view_of text rs count) rs' lines' (symbols t) (occurrences t) (fors t) r
