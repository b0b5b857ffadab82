-- The law of reading: the rules of specs/Reading.antt give each text one result, the one that is computed.
use Rattle.std.proofs.Common.{◌≡◌, ℕ, zero, suc, ◌+◌, ◌-◌, ◌<◌, ◌≤◌, min, Bool, true, false, cond, eqb, ◌⊎◌, List, [], ◌∷◌, ◌++◌, length, take, drop, codes, sym, refl, ap, ◌∙◌, subst, ap₂, inl, inr, append_assoc, append-nil, one-add, arith}
use Rattle.std.specs.List.{prefix_len}
use Rattle.std.specs.Str.{bytes_eq}
use Rattle.std.specs.Char.{is_ascii_digit, is_ascii_alphabetic}
use Rattle.std.proofs.lemmas.Slice.Eq.{bytes_eq-Decides}
use Rattle.std.proofs.lemmas.List.{take-append-drop, take_at, drop_at, length-append}
use Rattle.std.proofs.lemmas.Bool.{leb-true, le-leb, eq-eqb, eqb-true, not-false, cond-true, cond-false, both_ways, cases_lt}
use Rattle.std.proofs.lemmas.Bool.Decides.{nat_tests}
use Rattle.words.specs.Token.{Token, Word, name, number, keyword, mark, sign, scaling, relation}
use Rattle.words.specs.Spelling.{blank, not_semicolon, MadeOf}
use Rattle.words.specs.Words.{Found, found, nothing, longest_at, short, skipped, Next, end, next_word, next_refused, word_at, next_of, Words, words, refused, more, one_more, no_more, words_from, words_within, words_of}
use Rattle.words.specs.Reading.{Spells, Prefix, Longest, Short, Stops, Skips, comment_text, no_text, Cuts, here, gap, cut, Fault, no_word, too_long, too_many, ReadsFrom, to_the_end, to_a_fault, Reads, text_too_long, text_read}
use Rattle.words.specs.declared.refusal.WordRefusal.{WordRefusal}
use Rattle.words.specs.declared.refusal.WordRefusal.TheVariants.{NoWord, WordTooLong}
use Rattle.words.proofs.OneWord.{leading_made_of}
use Rattle.words.proofs.Spelled.{Kind, word_kind, number_kind, mark_kind, kind_of, no_empty_spelling}
use Rattle.words.proofs.LongestWord.{LongestFound, longest_is, none_is, longest_at_is, longest_to_found, no_word_to_nothing, prefix_first}
use Rattle.words.proofs.WordByWord.{onto, too_long_text, short_text, roomy_table_reads_all}

-- The test of a word's length says whether it is short.
short_to_Short : (s : List ℕ) (t : Token) → short t (length s) ≡ true → Short s t
short_to_Short s (name n) e = leb-true (length s) 16 e
short_to_Short s (number v) e = leb-true (length s) 9 e
short_to_Short s (keyword k) e = tt
short_to_Short s (mark m) e = tt
short_to_Short s (sign g) e = tt
short_to_Short s (scaling g) e = tt
short_to_Short s (relation r) e = tt

short_to_short : (s : List ℕ) (t : Token) → Short s t → short t (length s) ≡ true
short_to_short s (name n) h = le-leb (length s) 16 h
short_to_short s (number v) h = le-leb (length s) 9 h
short_to_short s (keyword k) h = refl
short_to_short s (mark m) h = refl
short_to_short s (sign g) h = refl
short_to_short s (scaling g) h = refl
short_to_short s (relation r) h = refl

not_Short_to_not_short : (s : List ℕ) (t : Token) → (Short s t → ⊥) → short t (length s) ≡ false
not_Short_to_not_short s t h = go (short t (length s)) refl
  where
    go : (c : Bool) → short t (length s) ≡ c → c ≡ false
    go true e = absurd (h (short_to_Short s t e))
    go false e = refl

-- A comment's text goes up to the first semicolon or the end.
run_to_stop : (skip after : List ℕ) → MadeOf not_semicolon skip → Stops after → prefix_len not_semicolon (skip ++ after) ≡ length skip
run_to_stop [] [] m st = refl
run_to_stop [] (b ∷ after) m st = rw (eq-eqb b 59 st)
run_to_stop (b ∷ skip) after m st = cond-true (not_semicolon b) (1 + prefix_len not_semicolon (skip ++ after)) 0 m.0 ∙ (one-add (prefix_len not_semicolon (skip ++ after)) ∙ ap suc (run_to_stop skip after m.1 st))

stops_after_run : (bs : List ℕ) → Stops (drop (prefix_len not_semicolon bs) bs)
stops_after_run [] = tt
stops_after_run (b ∷ bs) = go (not_semicolon b) refl (stops_after_run bs)
  where
    go : (c : Bool) → not_semicolon b ≡ c → Stops (drop (prefix_len not_semicolon bs) bs) → Stops (drop (cond c (1 + prefix_len not_semicolon bs) 0) (b ∷ bs))
    go true e ih = rw (one-add (prefix_len not_semicolon bs)) ih
    go false e ih = eqb-true b 59 (not-false (eqb b 59) e)

-- What is skipped by the definition is what the rules skip.
skips_to_skipped : (s skip after : List ℕ) → Skips s skip after → skipped s (skip ++ after) ≡ length skip
skips_to_skipped s skip after (comment_text e m st) =
    cond-true (bytes_eq s (codes "comment")) (prefix_len not_semicolon (skip ++ after)) 0 ((bytes_eq-Decides s (codes "comment")).1 e)
    ∙ run_to_stop skip after m st
skips_to_skipped s skip after (no_text n) = go (bytes_eq s (codes "comment")) refl
  where
    go : (c : Bool) → bytes_eq s (codes "comment") ≡ c → cond c (prefix_len not_semicolon after) 0 ≡ 0
    go true e = absurd (n ((bytes_eq-Decides s (codes "comment")).0 e))
    go false e = refl

skipped_to_skips : (s rest : List ℕ) → Skips s (take (skipped s rest) rest) (drop (skipped s rest) rest)
skipped_to_skips s rest = go (bytes_eq s (codes "comment")) refl
  where
    go : (c : Bool) → bytes_eq s (codes "comment") ≡ c → Skips s (take (cond c (prefix_len not_semicolon rest) 0) rest) (drop (cond c (prefix_len not_semicolon rest) 0) rest)
    go true e = comment_text ((bytes_eq-Decides s (codes "comment")).0 e) (leading_made_of not_semicolon rest) (stops_after_run rest)
    go false e = no_text (λ h. both_ways (bytes_eq s (codes "comment")) e ((bytes_eq-Decides s (codes "comment")).1 h))

-- A word begins with no blank.
letter_to_not_blank : (b : ℕ) → is_ascii_alphabetic b ≡ true → blank b ≡ false
letter_to_not_blank b l = grind (arith, nat_tests)

digit_to_not_blank : (b : ℕ) → is_ascii_digit b ≡ true → blank b ≡ false
digit_to_not_blank b d = grind (arith, nat_tests)

word_to_not_blank : (b : ℕ) (bs s : List ℕ) (t : Token) → Spells s t → Prefix s (b ∷ bs) → blank b ≡ false
word_to_not_blank b bs [] t sp p = absurd (no_empty_spelling sp)
word_to_not_blank b bs (x ∷ s) t sp p = go (kind_of sp)
  where
    go : Kind x s t → blank b ≡ false
    go (word_kind l m e) = sym (ap blank (prefix_first b x bs s p)) ∙ letter_to_not_blank x l
    go (number_kind l d m e) = sym (ap blank (prefix_first b x bs s p)) ∙ digit_to_not_blank x d
    go (mark_kind l d k e) = sym (ap blank (prefix_first b x bs s p)) ∙ k

-- Where a longest word stands, the definition takes it.
longest_to_next : (p : ℕ) (s : List ℕ) (t : Token) (bs : List ℕ) → Longest s t bs → next_of p bs ≡ word_at p bs (found t (length s))
longest_to_next p [] t bs l = absurd (no_empty_spelling l.spells)
longest_to_next p (x ∷ s) t [] l = absurd (omega (arith, ap length l.front.1))
longest_to_next p (x ∷ s) t (b ∷ bs) l =
    cond-false (blank b) (next_of (suc p) bs) (word_at p (b ∷ bs) (longest_at (b ∷ bs))) (word_to_not_blank b bs (x ∷ s) t l.spells l.front)
    ∙ ap (word_at p (b ∷ bs)) (longest_to_found (x ∷ s) t (b ∷ bs) l)

-- A short word is taken with what it skips.
short_to_taken : (p : ℕ) (s skip after : List ℕ) (t : Token) (bs : List ℕ) → short t (length s) ≡ true → Skips s skip after → bs ≡ (s ++ skip) ++ after
    → word_at p bs (found t (length s)) ≡ next_word (record { token = t; place = p }) (p + length (s ++ skip)) after
short_to_taken p s skip after t bs h sk e =
    let e' : bs ≡ s ++ (skip ++ after) = e ∙ append_assoc s skip after in
    let tk : take (length s) bs ≡ s = ap (take (length s)) e' ∙ take_at s (skip ++ after) (length s) refl in
    let dr : drop (length s) bs ≡ skip ++ after = ap (drop (length s)) e' ∙ drop_at s (skip ++ after) (length s) refl in
    let k : skipped (take (length s) bs) (drop (length s) bs) ≡ length skip = ap₂ skipped tk dr ∙ skips_to_skipped s skip after sk in
    let n : length s + skipped (take (length s) bs) (drop (length s) bs) ≡ length (s ++ skip) = omega (arith, k, length-append s skip) in
    let d : drop (length (s ++ skip)) bs ≡ after = ap (drop (length (s ++ skip))) e ∙ drop_at (s ++ skip) after (length (s ++ skip)) refl in
    rw h (ap (λ m. next_word (record { token = t; place = p }) (p + m) (drop m bs)) n ∙ ap (next_word (record { token = t; place = p }) (p + length (s ++ skip))) d)

not_short_to_refused : (p : ℕ) (s : List ℕ) (t : Token) (bs : List ℕ) → short t (length s) ≡ false → word_at p bs (found t (length s)) ≡ next_refused WordTooLong p
not_short_to_refused p s t bs h = rw h

-- What comes next, by the rules: after gaps the end, a short longest word, or a fault.
data NextIs (p : ℕ) (bs : List ℕ) : Next → Type 0 where
  at_end : {q : ℕ} → Cuts p bs [] q [] → NextIs p bs end
  at_word : {q : ℕ} {mid : List ℕ} (s skip after : List ℕ) (t : Token) → Cuts p bs [] q mid → Longest s t mid → Short s t → Skips s skip after → mid ≡ (s ++ skip) ++ after
      → NextIs p bs (next_word (record { token = t; place = q }) (q + length (s ++ skip)) after)
  at_fault : {q : ℕ} {mid : List ℕ} {r : WordRefusal} → Cuts p bs [] q mid → ((most n : ℕ) → Fault most n mid r) → NextIs p bs (next_refused r q)

behind_gap : {p b : ℕ} {bs : List ℕ} (x : Next) → blank b ≡ true → NextIs (suc p) bs x → NextIs p (b ∷ bs) x
behind_gap end e (at_end c) = at_end (gap e c)
behind_gap (next_word w q rest) e (at_word s skip after t c l sh sk m) = at_word s skip after t (gap e c) l sh sk m
behind_gap (next_refused r q) e (at_fault c f) = at_fault (gap e c) f

word_or_fault : (p b : ℕ) (bs : List ℕ) → blank b ≡ false → (x : Found) → LongestFound (b ∷ bs) x → NextIs p (b ∷ bs) (word_at p (b ∷ bs) x)
word_or_fault p b bs e nothing (none_is none) = at_fault here (λ most n. no_word e none)
word_or_fault p b bs e (found t n) (longest_is s t' l) = go (short t (length s)) refl
  where
    go : (c : Bool) → short t (length s) ≡ c → NextIs p (b ∷ bs) (word_at p (b ∷ bs) (found t (length s)))
    go true h =
        let rest = l.front.0 in
        let skip = take (skipped s rest) rest in
        let after = drop (skipped s rest) rest in
        let m : b ∷ bs ≡ (s ++ skip) ++ after = l.front.1 ∙ (ap (λ z. s ++ z) (sym (take-append-drop (skipped s rest) rest)) ∙ sym (append_assoc s skip after)) in
        subst (NextIs p (b ∷ bs)) (sym (short_to_taken p s skip after t (b ∷ bs) h (skipped_to_skips s rest) m))
        (at_word s skip after t here l (short_to_Short s t h) (skipped_to_skips s rest) m)
    go false h =
        subst (NextIs p (b ∷ bs)) (sym (not_short_to_refused p s t (b ∷ bs) h))
        (at_fault here (λ most k. too_long s t l (λ sh. both_ways (short t (length s)) h (short_to_short s t sh))))

next_is : (p : ℕ) (bs : List ℕ) → NextIs p bs (next_of p bs)
next_is p [] = at_end here
next_is p (b ∷ bs) = go (blank b) refl (next_is (suc p) bs)
  where
    go : (c : Bool) → blank b ≡ c → NextIs (suc p) bs (next_of (suc p) bs) → NextIs p (b ∷ bs) (cond c (next_of (suc p) bs) (word_at p (b ∷ bs) (longest_at (b ∷ bs))))
    go true e ih = behind_gap (next_of (suc p) bs) e ih
    go false e ih = word_or_fault p b bs e (longest_at (b ∷ bs)) (longest_at_is (b ∷ bs))

-- Cuttings join.
pub cuts_join : {p q r : ℕ} {bs mid rest : List ℕ} {ws vs : List Word} → Cuts p bs ws q mid → Cuts q mid vs r rest → Cuts p bs (ws ++ vs) r rest
cuts_join here d = d
cuts_join (gap e c) d = gap e (cuts_join c d)
cuts_join (cut s skip after t l sh sk m c) d = cut s skip after t l sh sk m (cuts_join c d)

fault_further : {most n : ℕ} {bs : List ℕ} {r : WordRefusal} → Fault most n bs r → Fault (suc most) (suc n) bs r
fault_further (no_word e none) = no_word e none
fault_further (too_long s t l h) = too_long s t l h
fault_further (too_many s t e l h) = too_many s t (ap suc e) l h

word_then : {most p q : ℕ} {bs after : List ℕ} (w : Word) (r : Words) → Cuts p bs (w ∷ []) q after → ReadsFrom most q after r → ReadsFrom (suc most) p bs (more w r)
word_then w (words ws) c (to_the_end d le) = to_the_end (cuts_join c d) (omega arith)
word_then w (refused r q) c (to_a_fault d le f) = to_a_fault (cuts_join c d) (omega arith) (fault_further f)

-- The definition's result is one by the rules.
pub words_from_reads : (most p : ℕ) (bs : List ℕ) → ReadsFrom most p bs (words_from most p bs)
words_from_reads zero p bs = go (next_of p bs) (next_is p bs)
  where
    go : (x : Next) → NextIs p bs x → ReadsFrom 0 p bs (no_more x)
    go end (at_end c) = to_the_end c (omega arith)
    go (next_word w q rest) (at_word s skip after t c l sh sk m) = to_a_fault c (omega arith) (too_many s t refl l sh)
    go (next_refused r q) (at_fault c f) = to_a_fault c (omega arith) (f 0 0)
words_from_reads (suc most) p bs = go (next_of p bs) (next_is p bs) (λ q rest. words_from_reads most q rest)
  where
    go : (x : Next) → NextIs p bs x → ((q : ℕ) (rest : List ℕ) → ReadsFrom most q rest (words_from most q rest)) → ReadsFrom (suc most) p bs (one_more x (λ q rest. words_from most q rest))
    go end (at_end c) ih = to_the_end c (omega arith)
    go (next_word w q rest) (at_word s skip after t c l sh sk m) ih = word_then w (words_from most q rest) (cuts_join c (cut s skip after t l sh sk m here)) (ih q rest)
    go (next_refused r q) (at_fault c f) ih = to_a_fault c (omega arith) (f (suc most) 0)

-- What is cut by the rules is cut by the definition.
same_next : (n p p' : ℕ) (bs bs' : List ℕ) → next_of p bs ≡ next_of p' bs' → words_from n p bs ≡ words_from n p' bs'
same_next zero p p' bs bs' e = ap no_more e
same_next (suc n) p p' bs bs' e = ap (λ x. one_more x (λ q rest. words_from n q rest)) e

onto_first : (w : Word) (ws : List Word) (r : Words) → more w (onto ws r) ≡ onto (w ∷ ws) r
onto_first w ws (words vs) = refl
onto_first w ws (refused r p) = refl

onto_nothing : (r : Words) → r ≡ onto [] r
onto_nothing (words vs) = refl
onto_nothing (refused r p) = refl

cuts_to_words_from : {p q : ℕ} {bs rest : List ℕ} {ws : List Word} → Cuts p bs ws q rest → (n : ℕ) → length ws ≤ n → words_from n p bs ≡ onto ws (words_from (n - length ws) q rest)
cuts_to_words_from {p} {q} {bs} here n le = ap (λ k. words_from k p bs) (omega arith) ∙ onto_nothing (words_from (n - 0) p bs)
cuts_to_words_from {p} (gap {b = b} {bs = bs} e c) n le =
    same_next n p (suc p) (b ∷ bs) bs (cond-true (blank b) (next_of (suc p) bs) (word_at p (b ∷ bs) (longest_at (b ∷ bs))) e)
    ∙ cuts_to_words_from c n le
cuts_to_words_from (cut s skip after t l sh sk m c) zero le = absurd (omega arith)
cuts_to_words_from {p} {q} {bs} {rest} (cut {ws = ws} s skip after t l sh sk m c) (suc n) le =
    let w : Word = record { token = t; place = p } in
    let x = longest_to_next p s t bs l ∙ short_to_taken p s skip after t bs (short_to_short s t sh) sk m in
    let k : n - length ws ≡ suc n - suc (length ws) = omega arith in
    ap (λ y. one_more y (λ q rest. words_from n q rest)) x
    ∙ (ap (more w) (cuts_to_words_from c n (omega arith) ∙ ap (λ i. onto ws (words_from i q rest)) k)
    ∙ onto_first w ws (words_from (suc n - suc (length ws)) q rest))

-- At the end there are no more words; at a fault the definition refuses.
no_bytes : (n q : ℕ) → words_from n q [] ≡ words []
no_bytes zero q = refl
no_bytes (suc n) q = refl

next_refused_to_refused : (n q : ℕ) (bs : List ℕ) (r : WordRefusal) → next_of q bs ≡ next_refused r q → words_from n q bs ≡ refused r q
next_refused_to_refused zero q bs r e = ap no_more e
next_refused_to_refused (suc n) q bs r e = ap (λ x. one_more x (λ p rest. words_from n p rest)) e

fault_to_refused : {most n : ℕ} {bs : List ℕ} {r : WordRefusal} → Fault most n bs r → (q : ℕ) → words_from (most - n) q bs ≡ refused r q
fault_to_refused {most} {n} (no_word {b} {bs} e none) q =
    next_refused_to_refused (most - n) q (b ∷ bs) NoWord
    (cond-false (blank b) (next_of (suc q) bs) (word_at q (b ∷ bs) (longest_at (b ∷ bs))) e ∙ ap (word_at q (b ∷ bs)) (no_word_to_nothing (b ∷ bs) none))
fault_to_refused {most} {n} {bs} (too_long s t l h) q =
    next_refused_to_refused (most - n) q bs WordTooLong (longest_to_next q s t bs l ∙ not_short_to_refused q s t bs (not_Short_to_not_short s t h))
fault_to_refused {most} {n} {bs} (too_many s t e l h) q =
    let z : most - n ≡ 0 = omega (arith, e) in
    ap (λ k. words_from k q bs) z ∙ (ap no_more (longest_to_next q s t bs l) ∙ rw (short_to_short s t h))

reads_from_to_words_from : {most p : ℕ} {bs : List ℕ} (r : Words) → ReadsFrom most p bs r → r ≡ words_from most p bs
reads_from_to_words_from {most} {p} {bs} (words ws) (to_the_end {q} c le) =
    sym (cuts_to_words_from c most le ∙ (ap (onto ws) (no_bytes (most - length ws) q) ∙ ap words (append-nil ws)))
reads_from_to_words_from {most} {p} {bs} (refused r q) (to_a_fault {ws = ws} c le f) =
    sym (cuts_to_words_from c most le ∙ ap (onto ws) (fault_to_refused f q))

-- The two halves of the law.
pub words_of_reads : (text : List ℕ) → Reads text (words_of text)
words_of_reads text = go (cases_lt 8192 (length text))
  where
    go : (8192 < length text) ⊎ (length text ≤ 8192) → Reads text (words_of text)
    go (inl lt) = subst (Reads text) (sym (too_long_text 500 text lt)) (text_too_long lt)
    go (inr le) = subst (Reads text) (sym (short_text 500 text le)) (text_read le (words_from_reads 500 0 text))

pub reads_to_words_of : (text : List ℕ) (r : Words) → Reads text r → r ≡ words_of text
reads_to_words_of text r (text_too_long lt) = sym (too_long_text 500 text lt)
reads_to_words_of text r (text_read le d) = reads_from_to_words_from r d ∙ sym (short_text 500 text le)

-- With room for 500 words in its table, what is read is the text's result by the rules.
pub roomy_table_reads : (text : List ℕ) (n : ℕ) (r : Words) → r ≡ words_within (min 500 n) text → 500 ≤ n → Reads text r
roomy_table_reads text n r e le = subst (Reads text) (sym (e ∙ roomy_table_reads_all text n le)) (words_of_reads text)
