-- Giving the names of a text their lines in the name table, word by word: the names so far, in the order of first
-- appearance, and the number of a name's line at each of its words.
use Rattle.std.specs.Prelude.{◌≡◌, ℕ, ◌+◌, ◌<◌, ◌≤◌, false, List, [], ◌∷◌, map, length, get_or, take, drop, Some, None, Option, slice_index, slice_index_or, slice_set}
use Rattle.words.specs.declared.word.Word.{Word as WordRecord}
use Rattle.words.specs.Token.{Word}
use Rattle.words.specs.Records.{word_in}
use Rattle.grammar.specs.Tree.{Name}
use Rattle.parser.specs.declared.table.Record.{Record}
use Rattle.parser.specs.Records.{View, words, nodes, Named}
use Rattle.symbols.specs.declared.value_type.ValueType.TheVariants.{Untyped}
use Rattle.symbols.specs.Symbols.{with_name}
use Rattle.symbols.specs.TextOrder.{named_words}
use Rattle.analysis.specs.declared.symbol.NameKind.TheVariants.{Variable}
use Rattle.analysis.specs.declared.symbol.NameRecord.{NameRecord}
use Rattle.analysis.specs.SymbolTable.{line_numbers}
use Rattle.analysis.specs.Letters.{word_letters}
use Rattle.analysis.specs.LineSearch.{line_from, line_letters}
use Rattle.analysis.specs.Lines.{line_of, NumberedWords, SoFar}

-- Names entered one after the other, each where it first appears.
abbrev pub names_among : List Name → List Name → List Name
names_among ns [] = ns
names_among ns (x ∷ xs) = names_among (with_name ns x) xs

-- The view that a work table of this many words gives, and the names in it.
abbrev pub view_of : List ℕ → List Record → ℕ → View
view_of text rs count = record { words = map (word_in text) (take count (words rs)); nodes = nodes rs }

abbrev pub names_in : View → List Name
names_in v = names_among [] (named_words v.words)

-- A line as it is made.
abbrev pub new_line : ℕ → NameRecord
new_line w = record { word = w; kind = Variable; value_type = Untyped; first = 0; place = 0; target = false }

-- The line that word w's name has among the first n, if it has one.
abbrev pub found_line : List ℕ → List Record → ℕ → List NameRecord → ℕ → Option ℕ
found_line text rs w lines n = line_from 0 (word_letters text rs w) (map (line_letters text rs) (take n lines))

-- Its number, and the table with it, where a name that has none gets line n.
abbrev pub number_or : ℕ → Option ℕ → ℕ
number_or n (Some k) = k
number_or n None = n

abbrev pub lines_with : List NameRecord → ℕ → ℕ → Option ℕ → List NameRecord
lines_with lines w n (Some k) = lines
lines_with lines w n None = slice_set lines n (new_line w)

-- The words of a view are those of the work table.
abbrev pub WordsOf : View → List ℕ → List Record → Type 0
WordsOf v text rs = (u : ℕ) (d : Word) (e : WordRecord) → u < length v.words → (u < length (words rs)) × (slice_index_or v.words u d ≡ word_in text (slice_index_or (words rs) u e))

-- The words before w have their lines: ns are the names among them, n of them.
pub record Entered (v : View) (rs : List Record) (w : ℕ) (ns : List Name) (n : ℕ) (lines : List NameRecord) : Type 0 where
  pub count : n ≡ length ns
  pub table : SoFar v ns [] [] lines
  pub left : names_among ns (named_words (drop w v.words)) ≡ names_in v
  pub numbers : (u : ℕ) (x : Name) → u < w → Named v u x → line_of ns x.letters ≡ Some (slice_index (line_numbers rs) u)
  pub own : (k : ℕ) (e : Name) → k < length ns → line_of ns (get_or ns k e).letters ≡ Some k

-- One word more.
pub record EntersWord (text : List ℕ) (rs rs' : List Record) (w n n' : ℕ) (lines lines' : List NameRecord) : Type 0 where
  pub words : words rs' ≡ words rs
  pub nodes : nodes rs' ≡ nodes rs
  pub room : n' ≤ length lines'
  pub entered : (v : View) (ns : List Name) → WordsOf v text rs → length (names_in v) ≤ length lines → w < length v.words → Entered v rs w ns n lines → (ns' : List Name) × Entered v rs' (w + 1) ns' n' lines'

-- All words: each name has its line.
pub record AllEntered (v : View) (rs : List Record) (n : ℕ) (lines : List NameRecord) : Type 0 where
  pub line_count : n ≡ length (names_in v)
  pub numbered : NumberedWords v rs (names_in v)
  pub table : SoFar v (names_in v) [] [] lines

-- So it is where the table has room for all names; words and nodes stay.
pub record EntersWords (text : List ℕ) (count : ℕ) (rs rs' : List Record) (n : ℕ) (lines lines' : List NameRecord) : Type 0 where
  pub words : words rs' ≡ words rs
  pub nodes : nodes rs' ≡ nodes rs
  pub room : n ≤ length lines'
  pub entered : length (names_in (view_of text rs count)) ≤ length lines → AllEntered (view_of text rs count) rs' n lines'
