-- The answer for a text is told rightly: the laws of words, sentences and names, one behind the other.
use Rattle.std.proofs.Common.{◌≡◌, ℕ, ◌-◌, List, length, refl, arith}
use Rattle.words.specs.Token.{Word}
use Rattle.words.specs.Words.{Words, words, refused as words_refused, words_of}
use Rattle.words.specs.Reading.{Reads}
use Rattle.words.proofs.ReadingLaw.{words_of_reads}
use Rattle.grammar.specs.declared.refusal.SentenceRefusal.{SentenceRefusal}
use Rattle.grammar.specs.declared.refusal.SentenceRefusal.TheVariants.{Unexpected, TooDeep, TableTooShort}
use Rattle.grammar.specs.Tree.{Program}
use Rattle.grammar.specs.Meaning.{Sentence}
use Rattle.grammar.specs.Parser.{Outcome, tree, refused as sentence_refused, parsed, initial}
use Rattle.grammar.proofs.Sound.{run_at}
use Rattle.grammar.proofs.Refusals.{Reason, no_move, no_level, no_end, five, six, reason_of}
use Rattle.symbols.specs.Rules.{Verdict, accepted as names_accepted, refused as names_refused, verdict}
use Rattle.symbols.specs.Texts.{of_verdict, of_sentence, of_words, most_levels, answer}
use Rattle.symbols.specs.TextLaw.{Told, no_words, no_sentence, too_deep, breaks_a_rule, keeps_all_rules}
use Rattle.symbols.proofs.Offences.{accepted_to_keeps_all, refused_to_first_broken}

-- A tree that is read is the tree of a sentence.
pub sentence : (limit end : ℕ) (ws : List Word) (t : Program) → parsed limit end ws ≡ tree t → Sentence limit ws t
sentence limit end ws t e =
    let z : limit - 0 ≡ limit = omega arith in
    run_at limit ws t end ws initial (λ rs v h. rw z at h) e

-- The reading of words is never refused for want of a table.
no_table : {limit end p : ℕ} {ws : List Word} {n : SentenceRefusal} → n ≡ TableTooShort → Reason limit end initial ws n p → ⊥
no_table e (no_move before after w q x m) = let z : ◌≡◌ {A = ℕ} 0 1 = cc in omega arith
no_table e (no_level before after w q r x m o h) = let z : ◌≡◌ {A = ℕ} 0 1 = cc in omega arith
no_table e (no_end ws q x f) = let z : ◌≡◌ {A = ℕ} 0 1 = cc in omega arith

module _ (text : List ℕ) where
  names_told : (ws : List Word) (t : Program) → Reads text (words ws) → Sentence most_levels ws t → (v : Verdict) → verdict t ≡ v → Told text (of_verdict t v)
  names_told ws t r s names_accepted e = keeps_all_rules r s (accepted_to_keeps_all t e)
  names_told ws t r s (names_refused q p) e = breaks_a_rule r s (refused_to_first_broken t q p e)

  sentence_told : (ws : List Word) → Reads text (words ws) → (o : Outcome) → parsed most_levels (length text) ws ≡ o → Told text (of_sentence o)
  sentence_told ws r (tree t) e = names_told ws t r (sentence most_levels (length text) ws t e) (verdict t) refl
  sentence_told ws r (sentence_refused Unexpected p) e = no_sentence r (five refl (reason_of most_levels (length text) ws Unexpected p e))
  sentence_told ws r (sentence_refused TooDeep p) e = too_deep r (six refl (reason_of most_levels (length text) ws TooDeep p e))
  sentence_told ws r (sentence_refused TableTooShort p) e = absurd (no_table refl (reason_of most_levels (length text) ws TableTooShort p e))

  words_told : (w : Words) → Reads text w → Told text (of_words (length text) w)
  words_told (words ws) r = sentence_told ws r (parsed most_levels (length text) ws) refl
  words_told (words_refused q p) r = no_words r

  pub text_told : Told text (answer text)
  text_told = words_told (words_of text) (words_of_reads text)
