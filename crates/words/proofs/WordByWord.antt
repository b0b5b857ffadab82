-- Reading a text word by word: asking for the next word again and again gives exactly the words of the text.
-- A loop over `next_word` keeps `SoFar`: the words read and what the definition gives from the place reached make up
-- the whole.
use Rattle.std.proofs.Common.{◌≡◌, ℕ, zero, suc, ◌-◌, ◌<◌, ◌≤◌, min, ltb, List, [], ◌∷◌, ◌++◌, length, drop, sym, refl, ap, ◌∙◌, append_assoc, append-nil, arith}
use Rattle.std.proofs.lemmas.List.{length_push}
use Rattle.std.proofs.lemmas.Bool.{lt-ltb, le-ltb, cond-true, cond-false}
use Rattle.words.specs.Token.{Word}
use Rattle.words.specs.Words.{Next, next_word, next_refused, end, next_of, Words, words, refused, more, one_more, no_more, words_from, words_within, words_of}
use Rattle.words.specs.declared.refusal.WordRefusal.{WordRefusal}
use Rattle.words.specs.declared.refusal.WordRefusal.TheVariants.{TextTooLong, TooManyWords}

-- Words already read, put before those of the rest.
abbrev pub onto : List Word → Words → Words
onto ws (words vs) = words (ws ++ vs)
onto ws (refused r p) = refused r p

onto_more : (ws : List Word) (w : Word) (rest : Words) → onto ws (more w rest) ≡ onto (ws ++ w ∷ []) rest
onto_more ws w (words vs) = ap words (sym (append_assoc ws (w ∷ []) vs))
onto_more ws w (refused r p) = refl

onto_none : (rest : Words) → onto [] rest ≡ rest
onto_none (words vs) = refl
onto_none (refused r p) = refl

-- A text over 8,192 bytes is refused before everything else; any other is read from place 0.
pub too_long_text : (most : ℕ) (text : List ℕ) → 8192 < length text → words_within most text ≡ refused TextTooLong 8192
unfolding words_within
too_long_text most text lt = cond-true (ltb 8192 (length text)) (refused TextTooLong 8192) (words_from most 0 text) (lt-ltb 8192 (length text) lt)

pub short_text : (most : ℕ) (text : List ℕ) → length text ≤ 8192 → words_within most text ≡ words_from most 0 text
unfolding words_within
short_text most text le = cond-false (ltb 8192 (length text)) (refused TextTooLong 8192) (words_from most 0 text) (le-ltb 8192 (length text) le)

-- A table with room for 500 words does not limit them further.
pub roomy_table_reads_all : (text : List ℕ) (n : ℕ) → 500 ≤ n → words_within (min 500 n) text ≡ words_of text
roomy_table_reads_all text n le = let m : min 500 n ≡ 500 = omega arith in ap (λ k. words_within k text) m

-- The words ws were read before the place `at`, and at most so many may be.
pub record SoFar (most : ℕ) (text : List ℕ) (ws : List Word) (at : ℕ) : Type 0 where
  pub few : length ws ≤ most
  pub whole : onto ws (words_from (most - length ws) at (drop at text)) ≡ words_within most text

pub none_read : (most : ℕ) (text : List ℕ) → length text ≤ 8192 → SoFar most text [] 0
none_read most text le = record { few = omega arith; whole = onto_none (words_from (most - 0) 0 text) ∙ (ap (λ n. words_from n 0 text) (omega arith) ∙ sym (short_text most text le)) }

module _ (most : ℕ) (text : List ℕ) (ws : List Word) (at : ℕ) (so_far : SoFar most text ws at) where
  -- One word more, while there is room.
  pub one_more_read : (w : Word) (q : ℕ) → next_word w q (drop q text) ≡ next_of at (drop at text) → length ws < most → SoFar most text (ws ++ w ∷ []) q
  one_more_read w q e lt =
      let left = most - length (ws ++ w ∷ []) in
      let l : most - length ws ≡ suc left = omega (arith, length_push ws w) in
      let step : words_from (most - length ws) at (drop at text) ≡ more w (words_from left q (drop q text)) =
      ap (λ n. words_from n at (drop at text)) l ∙ ap (λ x. one_more x (λ p bs. words_from left p bs)) (sym e) in
      record {
        few = omega (arith, length_push ws w);
        whole = sym (onto_more ws w (words_from left q (drop q text))) ∙ (ap (onto ws) (sym step) ∙ so_far.whole);
      }

  -- The words from here on, where the next thing is no word.
  stops : (n : ℕ) (x : Next) (r : Words) → x ≡ next_of at (drop at text) → no_more x ≡ r → ((rest : ℕ → List ℕ → Words) → one_more x rest ≡ r) → words_from n at (drop at text) ≡ r
  stops zero x r e z s = ap no_more (sym e) ∙ z
  stops (suc n) x r e z s = ap (λ y. one_more y (λ p bs. words_from n p bs)) (sym e) ∙ s (λ p bs. words_from n p bs)

  -- The text is at its end: these are its words.
  pub all_read : end ≡ next_of at (drop at text) → words_within most text ≡ words ws
  all_read e =
      sym so_far.whole
      ∙ (ap (onto ws) (stops (most - length ws) end (words []) e refl (λ rest. refl))
      ∙ ap words (append-nil ws))

  -- The next thing is refused: so is the text.
  pub refusal_read : (r : WordRefusal) (p : ℕ) → next_refused r p ≡ next_of at (drop at text) → words_within most text ≡ refused r p
  refusal_read r p e = sym so_far.whole ∙ ap (onto ws) (stops (most - length ws) (next_refused r p) (refused r p) e refl (λ rest. refl))

  -- A word more than there may be is refused at its first byte.
  pub too_many_read : (w : Word) (q : ℕ) (bs : List ℕ) → next_word w q bs ≡ next_of at (drop at text) → length ws ≡ most → words_within most text ≡ refused TooManyWords w.place
  too_many_read w q bs e l =
      let z : most - length ws ≡ 0 = omega (arith, l) in
      sym so_far.whole
      ∙ ap (onto ws) (ap (λ n. words_from n at (drop at text)) z ∙ ap no_more (sym e))
