-- Labels as a set of lines of the symbol table.
use Rattle.std.specs.Prelude.{◌≡◌, ℕ, ◌≤◌, Bool, false, List, length, slice_index_or}
use Rattle.words.specs.Token.{Word}
use Rattle.grammar.specs.Tree.{Program}
use Rattle.grammar.specs.Meaning.{Sentence}
use Rattle.symbols.specs.Symbols.{Symbol, symbols}
use Rattle.symbols.specs.Jumps.{is_among}
use Rattle.symbols.specs.Laws.{LinesDiffer}
use Rattle.analysis.specs.SymbolTable.{Numbered}

-- A table whose lines have different letters, and of which a set can hold every line.
pub record SmallTable (ss : List Symbol) : Type 0 where
  pub differ : LinesDiffer ss
  pub few : length ss ≤ 256

-- Every sentence has one: at most 250 of its 500 words are names.
abbrev pub SmallLaw : Type 0
SmallLaw = (l : ℕ) (ws : List Word) (t : Program) → Sentence l ws t → length ws ≤ 500 → SmallTable (symbols t)

-- The set has a line just where its letters are among the labels.
abbrev pub Sees : List Symbol → List Bool → List (List ℕ) → Type 0
Sees ss lines labels = (x : List ℕ) (k : ℕ) → Numbered ss x k → slice_index_or lines k false ≡ is_among labels x
