-- What the records of the name table stand for: the lines of the symbol table of a text, which specs/Symbols.antt of the
-- crate symbols defines; and how a word of the text leads to its line.
use Rattle.std.specs.Prelude.{◌≡◌, ℕ, ◌<◌, List, [], ◌∷◌, length, slice_index}
use Rattle.std.specs.List.{slice_get}
use Rattle.grammar.specs.Tree.{Row, Name}
use Rattle.parser.specs.declared.node.Bound.{Bound as BoundRecord}
use Rattle.parser.specs.declared.table.Record.{Record}
use Rattle.parser.specs.Records.{View, nodes, bound_in, Named, NameAt, RowAt}
use Rattle.symbols.specs.Symbols.{Kind, a_label, a_switch, an_array, a_variable, Symbol, lookup}
use Rattle.analysis.specs.declared.symbol.NameKind.{NameKind}
use Rattle.analysis.specs.declared.symbol.NameKind.TheVariants.{Label, Switch, Array, Variable}
use Rattle.analysis.specs.declared.symbol.NameRecord.{NameRecord}

-- What a record says that a name is.
pub data KindAt (v : View) : NameKind → Kind → Type 0 where
  label : KindAt v Label a_label
  switch : {i : ℕ} {xs : Row Name} → RowAt NameAt v xs i → KindAt v (Switch i) (a_switch xs)
  array : {l h : BoundRecord} → KindAt v (Array l h) (an_array (bound_in l) (bound_in h))
  variable : KindAt v Variable a_variable

-- A record stands for a line.
pub record LineAt (v : View) (r : NameRecord) (s : Symbol) : Type 0 where
  pub named : Named v r.word s.name
  pub kind : KindAt v r.kind s.kind
  pub type : r.value_type ≡ s.type
  pub first : r.first ≡ s.first

-- The records stand for the lines, one for one.
pub data LinesAt (v : View) : List NameRecord → List Symbol → Type 0 where
  none : LinesAt v [] []
  one_more : {r : NameRecord} {rs : List NameRecord} {s : Symbol} {ss : List Symbol}
      → LineAt v r s → LinesAt v rs ss → LinesAt v (r ∷ rs) (s ∷ ss)

-- The number of the line of each word, as the work table has it.
abbrev pub line_numbers : List Record → List ℕ
line_numbers [] = []
line_numbers (r ∷ rs) = r.symbol ∷ line_numbers rs

-- The word of a name has the number of its line.
pub record Numbered (ss : List Symbol) (x : List ℕ) (i : ℕ) : Type 0 where
  pub there : i < length ss
  pub line : slice_get ss i ≡ lookup ss x

-- The work table and the name table hold the symbol table ss.
pub record HoldsSymbols (v : View) (rs : List Record) (names : List NameRecord) (ss : List Symbol) : Type 0 where
  pub nodes : v.nodes ≡ nodes rs
  pub lines : LinesAt v names ss
  pub numbers : (w : ℕ) (x : Name) → Named v w x → Numbered ss x.letters (slice_index (line_numbers rs) w)
