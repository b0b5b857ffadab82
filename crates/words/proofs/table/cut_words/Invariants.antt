use Rattle.std.proofs.Common.{◌≡◌, ◌≤◌, drop}
use Rattle.words.proofs.WordByWord.{SoFar}
use Rattle.words.proofs.WordTable.{words_held}
use Rattle.words.proofs.table.cut_words.Given as goal

-- The records so far stand for the words read before the place that the iterator is at; those behind them are as they
-- were.
abbrev pub invariant-loop-word : goal.invariant-loop-word
invariant-loop-word g l =
    (goal.iterator-loop-word g).can_next l.word-iterator × (goal.iterator-loop-word g).is_finite l.word-iterator
    × (l.word-iterator.text.now ≡ l.text)
    × SoFar l.most l.text (words_held g.S.WordSlot.word l.text l.table l.count) l.word-iterator.at
    × (l.count ≤ l.most) × (drop l.count l.table ≡ drop l.count l.initial.table)
