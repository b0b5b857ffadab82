-- The reading of a text into a table of records: the defined result, and what a call promises of its answer and of the
-- table. The definition joins those of words and sentences; a reader has to believe the order of the refusals and the
-- two limits, 512 records and 32 levels.
use Rattle.std.specs.Prelude.{◌≡◌, ℕ, ◌<◌, ◌≤◌, cond, List, map, length, take, Ok, Err, Result, nat_lt}
use Rattle.words.specs.Token.{Word}
use Rattle.words.specs.Words.{Words, words as words_cut, refused as words_refused, words_of}
use Rattle.words.specs.Records.{word_in}
use Rattle.words.specs.Refusal.{number as word_number}
use Rattle.grammar.specs.declared.refusal.SentenceRefusal.TheVariants.{TableTooShort}
use Rattle.grammar.specs.Tree.{Program}
use Rattle.grammar.specs.Parser.{Outcome, tree, refused as sentence_refused, parsed}
use Rattle.grammar.specs.Refusal.{number as sentence_number}
use Rattle.parser.specs.declared.refusal.Refusal.{Refusal}
use Rattle.parser.specs.declared.refusal.ParseRefusal.{ParseRefusal}
use Rattle.parser.specs.declared.parse.Sentence.{Sentence}
use Rattle.parser.specs.declared.table.Record.{Record}
use Rattle.parser.specs.Records.{words, nodes, ProgramAt}
use Rattle.parser.specs.Refusal.{number, place}

-- What comes of a text: its words and their tree, or a refusal's number and place.
pub data Reading : Type 0 where
  sentence : List Word → Program → Reading
  refused : ℕ → ℕ → Reading

abbrev pub of_outcome : List Word → Outcome → Reading
of_outcome ws (tree t) = sentence ws t
of_outcome ws (sentence_refused e p) = refused (sentence_number e) p

abbrev pub of_words : ℕ → Words → Reading
of_words end (words_cut ws) = of_outcome ws (parsed 32 end ws)
of_words end (words_refused e p) = refused (word_number e) p

-- The reading of a text with a table of so many records.
abbrev pub reading : List ℕ → ℕ → Reading
reading text size = cond (nat_lt size 512) (refused (sentence_number TableTooShort) 0) (of_words (length text) (words_of text))

-- The words that the first n records of a table hold.
abbrev pub first_words : List ℕ → List Record → ℕ → List Word
first_words text table n = map (word_in text) (take n (words table))

-- The tree of the first n words stands in the table at node i; the words stay.
pub record WordsParsed (text : List ℕ) (before : List Record) (n : ℕ) (i : ℕ) (after : List Record) : Type 0 where
  pub program : Program
  pub outcome : parsed 32 (length text) (first_words text before n) ≡ tree program
  pub kept : first_words text after n ≡ first_words text before n
  pub size : length after ≡ length before
  pub below : i < n
  pub held : ProgramAt (record { words = first_words text before n; nodes = nodes after }) program i

abbrev pub ParsesWords : List ℕ → List Record → ℕ → Result ℕ Refusal → List Record → Type 0
ParsesWords text before n (Ok i) after = WordsParsed text before n i after
ParsesWords text before n (Err e) after = parsed 32 (length text) (first_words text before n) ≡ sentence_refused e.reason e.place

-- A text was read: its words and its tree are those defined; the words stand first in the table, and the tree at its
-- root, whose number is less than that of the words.
pub record SentenceRead (text : List ℕ) (before : List Record) (s : Sentence) (after : List Record) : Type 0 where
  pub found : List Word
  pub program : Program
  pub result : reading text (length before) ≡ sentence found program
  pub cut : words_of text ≡ words_cut found
  pub outcome : parsed 32 (length text) found ≡ tree program
  pub count : s.words ≡ length found
  pub few : s.words ≤ 500
  pub kept : first_words text after s.words ≡ found
  pub room : 512 ≤ length before
  pub size : length after ≡ length before
  pub below : s.root < s.words
  pub held : ProgramAt (record { words = found; nodes = nodes after }) program s.root

-- The answer is the one defined.
abbrev pub Parsed : List ℕ → List Record → Result Sentence ParseRefusal → List Record → Type 0
Parsed text before (Ok s) after = SentenceRead text before s after
Parsed text before (Err e) after = reading text (length before) ≡ refused (number e) (place e)
