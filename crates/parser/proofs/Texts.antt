-- A text whose words were cut and then read.
use Rattle.std.proofs.Common.{◌≡◌, ℕ, zero, suc, ◌≤◌, min, cond, List, [], ◌∷◌, map, length, take, sym, refl, ap, ◌∙◌, arith, le-ltb}
use Rattle.words.specs.declared.word.Word.{Word as WordRecord}
use Rattle.words.specs.Words.{words as words_cut, words_of, words_within}
use Rattle.words.specs.Records.{word_in}
use Rattle.words.proofs.AcceptedWords.{words_of_to_accepted}
use Rattle.words.proofs.WordByWord.{roomy_table_reads_all}
use Rattle.grammar.specs.declared.refusal.SentenceRefusal.TheVariants.{TableTooShort}
use Rattle.grammar.specs.Refusal.{number as sentence_number}
use Rattle.parser.specs.declared.table.Record.{Record}
use Rattle.parser.specs.Records.{words}
use Rattle.parser.specs.Reading.{refused, of_outcome, of_words, first_words, WordsParsed, SentenceRead}

words_mapped : (l : List Record) → map (λ (r : Record). r.word) l ≡ words l
words_mapped [] = refl
words_mapped (r ∷ l) = ap (λ z. r.word ∷ z) (words_mapped l)

length_first : (text : List ℕ) (l : List Record) (n : ℕ) → n ≤ length l → length (first_words text l n) ≡ n
length_first text l zero h = refl
length_first text [] (suc n) h = absurd (omega arith)
length_first text (r ∷ l) (suc n) h = ap suc (length_first text l n (omega arith))

-- The words were cut into the table, which is as long as it was, and their tree was read.
pub sentence_read : (text : List ℕ) (before between after : List Record) (n i : ℕ) → 512 ≤ length before → length between ≡ length before → n ≤ length before
    → words_cut (map (word_in text) (take n (map (λ (r : Record). r.word) between))) ≡ words_within (min 500 (length before)) text → WordsParsed text between n i after
    → SentenceRead text before (record { root = i; words = n }) after
sentence_read text before between after n i room same fits e x =
    let ws = first_words text between n in
    let cut : words_of text ≡ words_cut ws = sym (roomy_table_reads_all text (length before) (omega arith)) ∙ (sym e ∙ ap (λ (l : List WordRecord). words_cut (map (word_in text) (take n l))) (words_mapped between)) in
    let count : length ws ≡ n = length_first text between n (omega arith) in
    let few = (words_of_to_accepted text ws cut).not_too_many in
    record {
      found = ws;
      program = x.program;
      result = ap (λ b. cond b (refused (sentence_number TableTooShort) 0) (of_words (length text) (words_of text))) (le-ltb (length before) 512 room)
          ∙ (ap (λ w. of_words (length text) w) cut ∙ ap (λ o. of_outcome ws o) x.outcome);
      cut = cut;
      outcome = x.outcome;
      count = sym count;
      few = omega (arith, few, count);
      kept = x.kept;
      room = room;
      size = x.size ∙ same;
      below = x.below;
      held = x.held;
    }
