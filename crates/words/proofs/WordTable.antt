-- A table of records that each hold a word: what it stands for as words are written into it one after another.
use Rattle.std.proofs.Common.{◌≡◌, ℕ, ◌+◌, ◌<◌, ◌≤◌, List, [], ◌∷◌, ◌++◌, map, length, take, drop, set, sym, ap, ◌∙◌, arith, drop-drop}
use Rattle.std.proofs.lemmas.List.{take_more_set, drop-set-lt, map_push, length-map, length-take-le, take-map}
use Rattle.words.specs.Token.{Word}
use Rattle.words.specs.Records.{word_in}
use Rattle.words.specs.declared.word.Word.{Word as WordRecord}

-- The words that the first records stand for.
abbrev pub words_held : {R : Type 0} → (R → WordRecord) → List ℕ → List R → ℕ → List Word
words_held word text table count = map (word_in text) (take count (map word table))

module _ {R : Type 0} (word : R → WordRecord) (text : List ℕ) (table : List R) (count : ℕ) where
  -- There are as many as records.
  pub words_held_length : count ≤ length table → length (words_held word text table count) ≡ count
  words_held_length le =
      length-map (take count (map word table)) (word_in text)
      ∙ length-take-le count (map word table) (omega (arith, length-map table word))

  -- A record written behind them adds its word.
  pub words_held_more : (x : R) (w : WordRecord) → word x ≡ w → count < length table
      → words_held word text (set table count x) (count + 1) ≡ words_held word text table count ++ word_in text w ∷ []
  words_held_more x w e lt =
      ap (map (word_in text))
      (take-map word (count + 1) (set table count x)
      ∙ (ap (map word) (take_more_set table count x lt)
      ∙ (map_push word (take count table) x
      ∙ (ap (λ l. l ++ word x ∷ []) (sym (take-map word count table))
      ∙ ap (λ y. take count (map word table) ++ y ∷ []) e))))
      ∙ map_push (word_in text) (take count (map word table)) w

-- What stands behind the records written stays.
pub kept_behind_more : {R : Type 0} (table old : List R) (count : ℕ) (x : R) → drop count table ≡ drop count old → drop (count + 1) (set table count x) ≡ drop (count + 1) old
kept_behind_more table old count x e = drop-set-lt (count + 1) table count x (omega arith) ∙ (sym (drop-drop 1 count table) ∙ (ap (drop 1) e ∙ drop-drop 1 count old))
