-- What the reading of a text answers and leaves. The answer for a text is defined in specs/Texts.antt of crate symbols; what
-- is added here is the refusal 13 of tables that are too short, which goes before all others. A reader must believe this file.
use Rattle.std.specs.Prelude.{◌≡◌, ℕ, ◌≤◌, cond, ◌||◌, List, length, take, Ok, Err, Result, nat_lt}
use Rattle.words.specs.Token.{Word}
use Rattle.words.specs.Words.{words, words_of}
use Rattle.grammar.specs.declared.refusal.SentenceRefusal.TheVariants.{TableTooShort}
use Rattle.grammar.specs.Refusal.{number as sentence_number}
use Rattle.grammar.specs.Tree.{Program}
use Rattle.parser.specs.declared.table.Record.{Record}
use Rattle.parser.specs.Records.{View, nodes, ProgramAt}
use Rattle.symbols.specs.Symbols.{symbols, named_cells, hidden_cells}
use Rattle.symbols.specs.Texts.{Answer, accepted, refused, answer}
use Rattle.analysis.specs.declared.symbol.NameRecord.{NameRecord}
use Rattle.analysis.specs.SymbolTable.{HoldsSymbols}
use Rattle.analysis.specs.NameLines.{HoldsPlaces}
use Rattle.reading.specs.declared.accepted.Accepted.{Accepted}
use Rattle.reading.specs.declared.refusal.TextRefusal.{TextRefusal}
use Rattle.reading.specs.Refusal.{number, place}

-- What is told of a text, with a work table and a name table of so many records.
abbrev pub told : ℕ → ℕ → List ℕ → Answer
told records names text = cond (nat_lt names 256 || nat_lt records 512) (refused (sentence_number TableTooShort) 0) (answer text)

-- The words of a text as a view of its records has them.
abbrev pub view : List Word → List Record → View
view ws rs = record { words = ws; nodes = nodes rs }

-- The text is accepted: its tree stands in the work table, and the name table's first lines are its symbol table.
pub record TextRead (text : List ℕ) (a : Accepted) (rs : List Record) (names : List NameRecord) : Type 0 where
  pub program : Program
  pub is_accepted : answer text ≡ accepted program
  pub found : List Word
  pub cut : words_of text ≡ words found
  pub words_told : a.words ≡ length found
  pub few_words : length found ≤ 500
  pub tree : ProgramAt (view found rs) program a.root
  pub table : HoldsSymbols (view found rs) rs (take a.lines names) (symbols program)
  pub places : HoldsPlaces (view found rs) rs
  pub lines_told : a.lines ≡ length (symbols program)
  pub few_lines : a.lines ≤ 256
  pub named_told : a.named ≡ named_cells (symbols program)
  pub hidden_told : a.hidden ≡ hidden_cells program

-- The answer is the one defined; tables are as long as before.
pub record ReadsText (text : List ℕ) (records names : ℕ) (a : Accepted) (rs : List Record) (ns : List NameRecord) : Type 0 where
  pub room : 512 ≤ records
  pub name_room : 256 ≤ names
  pub read : TextRead text a rs ns

abbrev pub Reads : List ℕ → ℕ → ℕ → Result Accepted TextRefusal → List Record → List NameRecord → Type 0
Reads text records names (Ok a) rs ns = ReadsText text records names a rs ns
Reads text records names (Err e) rs ns = told records names text ≡ refused (number e) (place e)

-- The same of a sentence that was read already.
abbrev pub Judged : List ℕ → Result Accepted TextRefusal → List Record → List NameRecord → Type 0
Judged text (Ok a) rs ns = TextRead text a rs ns
Judged text (Err e) rs ns = answer text ≡ refused (number e) (place e)
