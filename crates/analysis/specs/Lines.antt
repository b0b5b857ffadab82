-- The name table while it is filled: which names it has lines for, how words lead to them, and what each line says when
-- some occurrences were heeded.
use Rattle.std.specs.Prelude.{◌≡◌, ℕ, ◌<◌, ◌≤◌, List, map, length, get_or, Some, Option, slice_index, slice_index_or}
use Rattle.grammar.specs.Tree.{Name}
use Rattle.parser.specs.declared.table.Record.{Record}
use Rattle.parser.specs.Records.{View, nodes, Named}
use Rattle.symbols.specs.Occurrences.{Occurrence}
use Rattle.symbols.specs.Symbols.{kind_of, type_of}
use Rattle.symbols.specs.Rules.{is_defined, is_typed, is_target}
use Rattle.analysis.specs.declared.symbol.NameRecord.{NameRecord}
use Rattle.analysis.specs.LineSearch.{line_from}
use Rattle.analysis.specs.SymbolTable.{KindAt, line_numbers}
use Rattle.analysis.specs.NameLines.{word_places}
use Rattle.analysis.specs.Kinds.{is_defined_kind, is_typed_as}

-- The number of the line of these letters.
abbrev pub letters_of : List Name → List (List ℕ)
letters_of ns = map (λ (n : Name). n.letters) ns

abbrev pub line_of : List Name → List ℕ → Option ℕ
line_of ns x = line_from 0 x (letters_of ns)

-- The words of the view stand in the work table, each name's word with the number of its line, and every line is the
-- line of its own letters.
pub record NumberedWords (v : View) (rs : List Record) (ns : List Name) : Type 0 where
  pub nodes : v.nodes ≡ nodes rs
  pub places : (w : ℕ) (x : Name) → Named v w x → slice_index (word_places rs) w ≡ x.place
  pub lines : (w : ℕ) (x : Name) → Named v w x → line_of ns x.letters ≡ Some (slice_index (line_numbers rs) w)
  pub own : (k : ℕ) (e : Name) → k < length ns → line_of ns (get_or ns k e).letters ≡ Some k

-- The line of a name, where labels and switches are marked by some occurrences and declarations were heeded in others.
pub record LineSoFar (v : View) (marked heeded : List Occurrence) (r : NameRecord) (n : Name) : Type 0 where
  pub named : Named v r.word n
  pub target : r.target ≡ is_target marked n.letters
  pub kind : KindAt v r.kind (kind_of heeded n.letters)
  pub defined : is_defined_kind r.kind ≡ is_defined heeded n.letters
  pub type : r.value_type ≡ type_of heeded n.letters
  pub typed : is_typed_as r.value_type ≡ is_typed heeded n.letters

-- The first lines of the table are those of the names.
pub record SoFar (v : View) (ns : List Name) (marked heeded : List Occurrence) (lines : List NameRecord) : Type 0 where
  pub room : length ns ≤ length lines
  pub line : (k : ℕ) (d : NameRecord) (e : Name) → k < length ns → LineSoFar v marked heeded (slice_index_or lines k d) (slice_index_or ns k e)
