-- What holds of the words of an accepted text, by induction along the cutting.
use Rattle.std.proofs.Common.{◌≡◌, ℕ, suc, ◌+◌, ◌-◌, ◌*◌, ◌^◌, ◌<◌, ◌≤◌, true, List, [], ◌∷◌, ◌++◌, length, drop, sym, refl, ap, ◌∙◌, subst, arith, drop-drop}
use native.Mathlib.Nat.{pow-le-pow_right}
use Rattle.std.specs.List.{AllByRecursion as All}
use Rattle.std.specs.Char.{is_ascii_digit}
use Rattle.std.proofs.lemmas.List.{drop_at, length-append}
use Rattle.std.proofs.lemmas.Bool.{true≢false}
use Rattle.words.specs.Token.{Token, Word, name, number, keyword, mark, sign, scaling, relation}
use Rattle.words.specs.Spelling.{reserved_words, marks, MadeOf, value_after, value_of}
use Rattle.words.specs.Words.{words, short, words_of}
use Rattle.words.specs.Reading.{Spells, a_reserved_word, a_name, a_number, a_mark, Longest, Short, Cuts, here, gap, cut, to_the_end, Reads, text_read, Ascending, WithinBounds, Accepted}
use Rattle.words.proofs.Tables.{every_to_all}
use Rattle.words.proofs.Digits.{digit_to_range, ten_to_next}
use Rattle.words.proofs.Spelled.{entry_has, no_empty_spelling}
use Rattle.words.proofs.ReadingLaw.{words_of_reads}

-- n digits write a number below 10 to the n.
digits_value_below : (n k : ℕ) (s : List ℕ) → MadeOf is_ascii_digit s → n + 1 ≤ 10 ^ k → value_after n s + 1 ≤ 10 ^ (k + length s)
digits_value_below n k [] m h = subst (λ i. n + 1 ≤ 10 ^ i) (omega arith) h
digits_value_below n k (d ∷ s) m h =
    let r = digit_to_range d m.0 in
    let next : n * 10 + (d - 48) + 1 ≤ 10 ^ (k + 1) = rw (ten_to_next k) (omega (arith, r.1)) in
    subst (λ i. value_after (n * 10 + (d - 48)) s + 1 ≤ 10 ^ i) (omega arith) (digits_value_below (n * 10 + (d - 48)) (k + 1) s m.1 next)

nine_digits : (s : List ℕ) → MadeOf is_ascii_digit s → length s ≤ 9 → value_of s ≤ 999999999
nine_digits s m le =
    let bound : 10 ^ (0 + length s) ≤ 1000000000 = pow-le-pow_right {n = 10} (omega arith) {i = 0 + length s} {j = 9} (omega arith) in
    omega (arith, digits_value_below 0 0 s m (omega arith), bound)

-- A token that is short at any length is no name and no number.
always_short_to_within_bounds : (t : Token) → short t 17 ≡ true → WithinBounds t
always_short_to_within_bounds (name s) e = absurd (true≢false (sym e))
always_short_to_within_bounds (number v) e = absurd (true≢false (sym e))
always_short_to_within_bounds (keyword k) e = tt
always_short_to_within_bounds (mark m) e = tt
always_short_to_within_bounds (sign g) e = tt
always_short_to_within_bounds (scaling g) e = tt
always_short_to_within_bounds (relation r) e = tt

spells_short_to_within_bounds : {s : List ℕ} {t : Token} → Spells s t → Short s t → WithinBounds t
spells_short_to_within_bounds {s} {t} (a_reserved_word e) h = always_short_to_within_bounds t (entry_has (λ x y. short y 17 ≡ true) reserved_words (every_to_all (λ f. short f.token 17) reserved_words refl) e)
spells_short_to_within_bounds (a_name l m n) h = h
spells_short_to_within_bounds (a_number {b} {s} d m) h = nine_digits (b ∷ s) (d, m) h
spells_short_to_within_bounds {s} {t} (a_mark e) h = always_short_to_within_bounds t (entry_has (λ x y. short y 17 ≡ true) marks (every_to_all (λ f. short f.token 17) marks refl) e)

cuts_to_within_bounds : {p q : ℕ} {bs rest : List ℕ} {ws : List Word} → Cuts p bs ws q rest → All (λ w. WithinBounds w.token) ws
cuts_to_within_bounds here = tt
cuts_to_within_bounds (gap e c) = cuts_to_within_bounds c
cuts_to_within_bounds (cut s skip after t l sh sk m c) = (spells_short_to_within_bounds l.spells sh, cuts_to_within_bounds c)

-- Places ascend, since a word has at least one byte.
ascending_from_earlier : (p q end : ℕ) (ws : List Word) → p ≤ q → Ascending q end ws → Ascending p end ws
ascending_from_earlier p q end [] le a = tt
ascending_from_earlier p q end (w ∷ ws) le a = (omega (arith, a.0), a.1, a.2)

spelling_not_empty : (s : List ℕ) (t : Token) → Spells s t → 0 < length s
spelling_not_empty [] t sp = absurd (no_empty_spelling sp)
spelling_not_empty (b ∷ s) t sp = omega arith

cuts_to_ascending : {p q : ℕ} {bs rest : List ℕ} {ws : List Word} (end : ℕ) → p + length bs ≡ end → Cuts p bs ws q rest → Ascending p end ws
cuts_to_ascending end e here = tt
cuts_to_ascending {p} {ws = ws} end e (gap g c) = ascending_from_earlier p (suc p) end ws (omega arith) (cuts_to_ascending end (omega (arith, e)) c)
cuts_to_ascending {p} end e (cut {ws = ws} s skip after t l sh sk m c) =
    let some = spelling_not_empty s t l.spells in
    let long = ap length m ∙ length-append (s ++ skip) after in
    let both = length-append s skip in
    (omega arith, omega (arith, e, some, long, both), ascending_from_earlier (suc p) (p + length (s ++ skip)) end ws (omega (arith, some, both)) (cuts_to_ascending end (omega (arith, e, long)) c))

-- Each word is the longest that begins at its place in the text.
cuts_to_longest_there : {p q : ℕ} {bs rest : List ℕ} {ws : List Word} (text : List ℕ) → drop p text ≡ bs → Cuts p bs ws q rest → All (λ w. (s : List ℕ) × Longest s w.token (drop w.place text)) ws
cuts_to_longest_there text e here = tt
cuts_to_longest_there {p} text e (gap g c) = let one : suc p ≡ p + 1 = omega arith in cuts_to_longest_there text (ap (λ i. drop i text) one ∙ (sym (drop-drop 1 p text) ∙ ap (drop 1) e)) c
cuts_to_longest_there {p} {bs = bs} text e (cut s skip after t l sh sk m c) =
    let n = length (s ++ skip) in
    let next : drop (p + n) text ≡ after = sym (drop-drop n p text) ∙ (ap (drop n) (e ∙ m) ∙ drop_at (s ++ skip) after n refl) in
    ((s, subst (Longest s t) (sym e) l), cuts_to_longest_there text next c)

-- Together.
pub words_of_to_accepted : (text : List ℕ) (ws : List Word) → words_of text ≡ words ws → Accepted text ws
words_of_to_accepted text ws e = go ws (subst (Reads text) e (words_of_reads text))
  where
    go : (ws : List Word) → Reads text (words ws) → Accepted text ws
    go ws (text_read le (to_the_end c few)) =
        record {
          not_too_long = le;
          not_too_many = few;
          ascending = cuts_to_ascending (length text) (omega arith) c;
          within_bounds = cuts_to_within_bounds c;
          longest_there = cuts_to_longest_there text refl c;
        }
