-- The number and the place of a refusal. The numbers are those of the words' refusals and of the sentence's.
use Rattle.std.specs.Prelude.{ℕ}
use Rattle.words.specs.Refusal.{number as word_number}
use Rattle.grammar.specs.Refusal.{number as sentence_number}
use Rattle.parser.specs.declared.refusal.ParseRefusal.{ParseRefusal}
use Rattle.parser.specs.declared.refusal.ParseRefusal.TheVariants.{Word, Sentence}

abbrev pub number : ParseRefusal → ℕ
number (Word e) = word_number e.reason
number (Sentence e) = sentence_number e.reason

abbrev pub place : ParseRefusal → ℕ
place (Word e) = e.place
place (Sentence e) = e.place
