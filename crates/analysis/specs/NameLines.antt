-- What a word of the work table leads to: the line of its name, and its place.
use Rattle.std.specs.Prelude.{◌≡◌, ℕ, List, [], ◌∷◌, map, take, Some, Option, slice_index}
use Rattle.words.specs.Records.{word_in}
use Rattle.grammar.specs.Tree.{Name}
use Rattle.parser.specs.declared.table.Record.{Record}
use Rattle.parser.specs.Records.{words, View, Named}
use Rattle.symbols.specs.Symbols.{Symbol, lookup}
use Rattle.analysis.specs.declared.symbol.NameRecord.{NameRecord}
use Rattle.analysis.specs.SymbolTable.{LineAt}

-- A record is found that stands for the line of these letters.
pub record LineFound (v : View) (ss : List Symbol) (x : List ℕ) (r : Option NameRecord) : Type 0 where
  pub entry : NameRecord
  pub line : Symbol
  pub given : r ≡ Some entry
  pub found : lookup ss x ≡ Some line
  pub held : LineAt v entry line

-- The place of each word, as the work table has it.
abbrev pub word_places : List Record → List ℕ
word_places [] = []
word_places (r ∷ rs) = r.word.place ∷ word_places rs

-- The work table has the place of every word that is a name.
abbrev pub HoldsPlaces : View → List Record → Type 0
HoldsPlaces v rs = (w : ℕ) (x : Name) → Named v w x → slice_index (word_places rs) w ≡ x.place

-- It does if its words are those of the view, read from the text.
abbrev pub PlacesLaw : Type 0
PlacesLaw = (v : View) (text : List ℕ) (n : ℕ) (rs : List Record) → v.words ≡ map (word_in text) (take n (words rs)) → HoldsPlaces v rs
