-- The two tables of a text as one value.
use Rattle.std.specs.Prelude.{ℕ, List}
use Rattle.grammar.specs.Tree.{Name}
use Rattle.parser.specs.Records.{View, Named}
use Rattle.symbols.specs.Symbols.{Symbol}
use Rattle.analysis.specs.declared.tables.Tables.{Tables}
use Rattle.analysis.specs.SymbolTable.{HoldsSymbols}

-- The tables hold the symbol table ss.
abbrev pub Holds : View → Tables → List Symbol → Type 0
Holds v t ss = HoldsSymbols v t.records.now t.names.now ss

-- What is said of the name that word w is, whatever name that is, where the tables hold its symbol table.
abbrev pub OfName : Tables → ℕ → (View → List Symbol → Name → Type 0) → Type 0
OfName t w Says = (v : View) (ss : List Symbol) (x : Name) → Holds v t ss → Named v w x → Says v ss x
