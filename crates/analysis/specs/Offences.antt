-- What the answer of a walk over a tree says.
use Rattle.std.specs.Prelude.{◌≡◌, ℕ, List, Option}
use Rattle.parser.specs.declared.table.Record.{Record}
use Rattle.parser.specs.Records.{View}
use Rattle.symbols.specs.Symbols.{Symbol}
use Rattle.analysis.specs.declared.symbol.NameRecord.{NameRecord}
use Rattle.analysis.specs.declared.tables.Tables.{Tables}
use Rattle.analysis.specs.Earliest.{earliest_of}
use Rattle.analysis.specs.SymbolTable.{HoldsSymbols}
use Rattle.analysis.specs.NameLines.{HoldsPlaces}

-- The answer r is the earliest offence of the tree at node i, whatever tree stands there, where the tables hold its
-- names. Stands says how trees stand at nodes, offences what their offences are.
abbrev pub EarliestAt : {A : Type 0} → (View → A → ℕ → Type 0) → (List Symbol → A → List ℕ) → List Record → List NameRecord → ℕ → Option ℕ → Type 0
EarliestAt {A} Stands offences rs ns i r =
    (v : View) (ss : List Symbol) (t : A) → HoldsSymbols v rs ns ss → HoldsPlaces v rs → Stands v t i → r ≡ earliest_of (offences ss t)

-- The same of the two tables as one value.
abbrev pub EarliestIn : {A : Type 0} → (View → A → ℕ → Type 0) → (List Symbol → A → List ℕ) → Tables → ℕ → Option ℕ → Type 0
EarliestIn Stands offences t i r = EarliestAt Stands offences t.records.now t.names.now i r
