-- What is told of a text of bytes, in the words of the rules of reading, of the grammar and of the rules on names: each
-- refusal with what it says of the text, and what acceptance says. The law: this is true of every text.
use Rattle.std.specs.Prelude.{◌≡◌, ℕ, ◌⊎◌, List, length}
use Rattle.words.specs.declared.refusal.WordRefusal.{WordRefusal}
use Rattle.words.specs.Token.{Word}
use Rattle.words.specs.Refusal.{number as word_number}
use Rattle.words.specs.Words.{words, refused as words_refused}
use Rattle.words.specs.Reading.{Reads}
use Rattle.grammar.specs.Tree.{Program}
use Rattle.grammar.specs.Meaning.{Sentence, Impossible, Unfinished, IsTooDeep}
use Rattle.symbols.specs.declared.refusal.NameRefusal.{NameRefusal}
use Rattle.symbols.specs.Refusal.{number}
use Rattle.symbols.specs.Texts.{Answer, accepted, refused, most_levels, answer}
use Rattle.symbols.specs.Laws.{FirstBroken, KeepsAll}

pub data Told (text : List ℕ) : Answer → Type 0 where
  -- 1 to 4: the text is not read to words.
  no_words : {r : WordRefusal} {p : ℕ} → Reads text (words_refused r p) → Told text (refused (word_number r) p)
  -- 5: the word at p is the first with which no sentence can go on, or the words end where a sentence could go on.
  no_sentence : {ws : List Word} {p : ℕ} → Reads text (words ws) → Impossible ws p ⊎ ((p ≡ length text) × Unfinished ws) → Told text (refused 5 p)
  -- 6: the words up to p begin a sentence, but none within 32 levels.
  too_deep : {ws : List Word} {p : ℕ} → Reads text (words ws) → IsTooDeep most_levels ws p → Told text (refused 6 p)
  -- 7 to 12: the words are a sentence, and this is the least rule that its tree breaks, at its earliest place.
  breaks_a_rule : {ws : List Word} {t : Program} {r : NameRefusal} {p : ℕ} → Reads text (words ws) → Sentence most_levels ws t → FirstBroken t r p → Told text (refused (number r) p)
  -- Accepted: the words are a sentence of which t is the tree, and it keeps all rules.
  keeps_all_rules : {ws : List Word} {t : Program} → Reads text (words ws) → Sentence most_levels ws t → KeepsAll t → Told text (accepted t)

abbrev pub TextLaw : Type 0
TextLaw = (text : List ℕ) → Told text (answer text)
