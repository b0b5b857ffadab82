use Rattle.std.proofs.Common.{◌≡◌, ℕ, ◌<◌, ◌≤◌, min, List, [], map, length, drop, Option, None, Some, Ok, Err, Result, sym, refl, ap, ◌∙◌, subst, arith}
use Rattle.words.specs.declared.word.Word.{Word as WordRecord}
use Rattle.words.specs.declared.refusal.Refusal.{Refusal}
use Rattle.words.specs.declared.refusal.WordRefusal.TheVariants.{TextTooLong, TooManyWords}
use Rattle.words.specs.Words.{words_within}
use Rattle.words.specs.Records.{word_in, Gives}
use Rattle.std.proofs.lemmas.Result.{err_from_is_err_and}
use Rattle.words.specs.Table.{words_in, KeptBehind, CutInto}
use Rattle.words.proofs.ReadingLaw.{roomy_table_reads}
use Rattle.words.proofs.WordByWord.{SoFar, too_long_text, none_read, one_more_read, all_read, refusal_read, too_many_read}
use Rattle.words.proofs.WordTable.{words_held, words_held_length, words_held_more, kept_behind_more}
use Rattle.words.proofs.table.cut_words.Goals as goal

-- The promise, from what the loop read with at most `most` words.
promised : {R : Type 0} (word : R → WordRecord) (text : List ℕ) (before : List R) (answer : Result ℕ Refusal) (after : List R) (most : ℕ) → most ≡ min 500 (length before)
    → words_within most text ≡ words_in text (map word after) answer → KeptBehind before after answer → CutInto word text before answer after
promised word text before answer after most m e k =
    let d : words_in text (map word after) answer ≡ words_within (min 500 (length before)) text = sym e ∙ ap (λ n. words_within n text) m in
    record { defined = d; reads = roomy_table_reads text (length before) (words_in text (map word after) answer) d; rest = k }

pub returns-then-text-gt-LONGEST_TEXT : goal.returns-then-text-gt-LONGEST_TEXT
returns-then-text-gt-LONGEST_TEXT g c =
    let table = c.args.table.now in
    promised g.S.WordSlot.word c.args.text.now table (Err (record { reason = TextTooLong; place = 8192 })) table (min 500 (length table)) refl
    (too_long_text (min 500 (length table)) c.args.text.now c.if-text-gt-LONGEST_TEXT.true) tt

-- What the iterator gave, where the text is known.
known : {text whole : List ℕ} {r s : Option (Result WordRecord Refusal)} (at q : ℕ) → text ≡ whole → r ≡ s → Gives text at r q → Gives whole at s q
known {text} {s = s} at q e f h = subst (λ t. Gives t at s q) e (subst (λ x. Gives text at x q) f h)

pub loop-word-init : goal.loop-word-init
loop-word-init g c =
    let start = c.into_iter-word-iterator.ensures.into_iter_gives in
    let at : c.into_iter-word-iterator.result.at ≡ 0 = ap (λ i. i.at) start ∙ c.of-word-items.ensures.at in (
      tt,
      tt,
      ap (λ i. i.text.now) start ∙ c.of-word-items.ensures.text,
      subst (SoFar c.min-most.result c.args.text.now []) (sym at) (none_read c.min-most.result c.args.text.now c.if-text-gt-LONGEST_TEXT.false),
      omega arith,
      refl,
    )

pub returns : goal.returns
returns g c =
    let text = c.args.text.now in
    let ws = words_held g.S.WordSlot.word text c.loop-word.table c.loop-word.count in
    promised g.S.WordSlot.word text c.args.table.now (Ok c.loop-word.count) c.loop-word.table c.min-most.result c.min-most.ensures
    (all_read c.min-most.result text ws c.loop-word.word-iterator.at c.loop-word.invariant.3 (known {r = None} {s = None} c.loop-word.word-iterator.at c.next.new.self.at c.loop-word.invariant.2 refl c.in-None.ensures.steps.1).0)
    (omega (arith, c.loop-word.invariant.4, c.min-most.ensures), c.loop-word.invariant.5)

pub returns-in_err-word : goal.returns-in_err-word
returns-in_err-word g c =
    let text = c.args.text.now in
    let ws = words_held g.S.WordSlot.word text c.loop-word.table c.loop-word.count in
    let e = err_from_is_err_and c.from_residual.result c.from_residual.ensures.1 in
    let gave = known c.loop-word.word-iterator.at c.next.new.self.at c.loop-word.invariant.2 (ap Some c.in_err-word.was) c.in-Some.ensures.steps.1 in
    subst (λ r. CutInto g.S.WordSlot.word text c.args.table.now r c.loop-word.table) (sym (e.1 ∙ ap Err e.2))
    (promised g.S.WordSlot.word text c.args.table.now (Err c.in_err-word.field-0.0) c.loop-word.table c.min-most.result c.min-most.ensures
    (refusal_read c.min-most.result text ws c.loop-word.word-iterator.at c.loop-word.invariant.3 c.in_err-word.field-0.0.reason c.in_err-word.field-0.0.place gave.0) tt)

pub returns-then-count-most : goal.returns-then-count-most
returns-then-count-most g c =
    let text = c.args.text.now in
    let ws = words_held g.S.WordSlot.word text c.loop-word.table c.loop-word.count in
    let room : c.loop-word.count ≤ length c.loop-word.table = omega (arith, c.loop-word.invariant.4, c.min-most.ensures, c.loop-word.auto.table) in
    let n = words_held_length g.S.WordSlot.word text c.loop-word.table c.loop-word.count room in
    let gave = known c.loop-word.word-iterator.at c.next.new.self.at c.loop-word.invariant.2 (ap Some c.in_ok-word.was) c.in-Some.ensures.steps.1 in
    promised g.S.WordSlot.word text c.args.table.now (Err (record { reason = TooManyWords; place = c.in_ok-word.word.place })) c.loop-word.table c.min-most.result c.min-most.ensures
    (too_many_read c.min-most.result text ws c.loop-word.word-iterator.at c.loop-word.invariant.3 (word_in text c.in_ok-word.word) c.next.new.self.at (drop c.next.new.self.at text)
    gave.0 (n ∙ c.if-count-most.true)) tt

pub loop-word-preserved : goal.loop-word-preserved
loop-word-preserved g c =
    let text = c.args.text.now in
    let table = c.loop-word.table in
    let count = c.loop-word.count in
    let most = c.min-most.result in
    let ws = words_held g.S.WordSlot.word text table count in
    let lt : count < most = omega (arith, c.loop-word.invariant.4, c.if-count-most.false) in
    let room : count < length table = omega (arith, lt, c.min-most.ensures, c.loop-word.auto.table) in
    let n = words_held_length g.S.WordSlot.word text table count (omega (arith, room)) in
    let gave = known c.loop-word.word-iterator.at c.next.new.self.at c.loop-word.invariant.2 (ap Some c.in_ok-word.was) c.in-Some.ensures.steps.1 in
    let read = one_more_read most text ws c.loop-word.word-iterator.at c.loop-word.invariant.3 (word_in text c.in_ok-word.word) c.next.new.self.at gave.0 (omega (arith, n, lt)) in (
      tt,
      tt,
      ap (λ t. t.now) c.in-Some.ensures.steps.0 ∙ c.loop-word.invariant.2,
      subst (λ vs. SoFar most text vs c.next.new.self.at) (sym (words_held_more g.S.WordSlot.word text table count c.of_word.result c.in_ok-word.word c.of_word.ensures room)) read,
      omega (arith, lt),
      kept_behind_more table c.args.table.now count c.of_word.result c.loop-word.invariant.5,
    )
