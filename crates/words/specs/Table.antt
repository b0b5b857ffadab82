-- What cutting a whole text into a table of records promises.
use Rattle.std.specs.Prelude.{◌≡◌, ℕ, ◌≤◌, min, List, map, length, take, drop, Ok, Err, Result}
use Rattle.words.specs.declared.word.Word.{Word as WordRecord}
use Rattle.words.specs.declared.refusal.Refusal.{Refusal}
use Rattle.words.specs.Words.{Words, words, refused, words_within}
use Rattle.words.specs.Records.{word_in}
use Rattle.words.specs.Reading.{Reads}

-- The words or the refusal that an answer and the table it comes with stand for.
abbrev pub words_in : List ℕ → List WordRecord → Result ℕ Refusal → Words
words_in text table (Ok n) = words (map (word_in text) (take n table))
words_in text table (Err e) = refused e.reason e.place

-- An accepted text's words fill the table from its start, and what stands behind them stays.
abbrev pub KeptBehind : {R : Type 0} → List R → List R → Result ℕ Refusal → Type 0
KeptBehind before after (Ok n) = (n ≤ length before) × (drop n after ≡ drop n before)
KeptBehind before after (Err e) = Unit {0}

-- A table of records, each with a word, before and after: the answer is the one defined; with room for 500 words it is
-- the text's result by the rules.
pub record CutInto {R : Type 0} (word : R → WordRecord) (text : List ℕ) (before : List R) (answer : Result ℕ Refusal) (after : List R) : Type 0 where
  pub defined : words_in text (map word after) answer ≡ words_within (min 500 (length before)) text
  pub reads : 500 ≤ length before → Reads text (words_in text (map word after) answer)
  pub rest : KeptBehind before after answer
