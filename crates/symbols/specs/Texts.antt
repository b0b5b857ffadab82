-- What is told of a text of bytes: that it is accepted, with its tree, or a refusal's number and place. The words are
-- read first, then the sentence, then the rules on names.
use Rattle.std.specs.Prelude.{ℕ, List, length}
use Rattle.words.specs.Refusal.{number as word_number}
use Rattle.words.specs.Words.{Words, words, refused as words_refused, words_of}
use Rattle.grammar.specs.Refusal.{number as sentence_number}
use Rattle.grammar.specs.Tree.{Program}
use Rattle.grammar.specs.Parser.{Outcome, tree, refused as sentence_refused, parsed}
use Rattle.symbols.specs.Refusal.{number}
use Rattle.symbols.specs.Rules.{Verdict, accepted as names_accepted, refused as names_refused, verdict}

pub data Answer : Type 0 where
  accepted : Program → Answer
  refused : (number place : ℕ) → Answer

abbrev pub most_levels : ℕ
most_levels = 32

abbrev pub of_verdict : Program → Verdict → Answer
of_verdict t names_accepted = accepted t
of_verdict t (names_refused r p) = refused (number r) p

abbrev pub of_sentence : Outcome → Answer
of_sentence (tree t) = of_verdict t (verdict t)
of_sentence (sentence_refused r p) = refused (sentence_number r) p

abbrev pub of_words : ℕ → Words → Answer
of_words end (words ws) = of_sentence (parsed most_levels end ws)
of_words end (words_refused r p) = refused (word_number r) p

abbrev pub answer : List ℕ → Answer
answer text = of_words (length text) (words_of text)
