-- The longest word at some bytes: what the definition finds there is the longest spelling, and it finds one where there
-- is one.
use Rattle.std.proofs.Common.{◌≡◌, ℕ, suc, ◌+◌, ◌≤◌, Bool, true, false, cond, ◌&&◌, eqb, leb, List, [], ◌∷◌, ◌++◌, length, take, drop, sym, refl, ap, ◌∙◌, subst, inl, inr, one-add, arith}
use Rattle.std.specs.List.{prefix_len, AllByRecursion as All}
use Rattle.std.specs.Char.{is_ascii_digit, is_ascii_alphanumeric, is_ascii_alphabetic}
use Rattle.std.proofs.lemmas.List.{take-append-drop, length-take-le, take_at}
use Rattle.std.proofs.lemmas.List.Sums.{prefix_len-le-length}
use Rattle.std.proofs.lemmas.Bool.{and_parts, leb-true, eq-eqb, eqb-true, cond-true, both_ways, true≢false}
use Rattle.words.specs.Token.{Token, number}
use Rattle.words.specs.Spelling.{Fixed, marks, begins, MadeOf, value_of}
use Rattle.words.specs.Words.{Found, found, nothing, first_of, mark_at, name_at, number_at, name_token, longest_at}
use Rattle.words.specs.Reading.{Entry, Spells, a_number, a_mark, Prefix, Longest}
use Rattle.words.proofs.Tables.{every, every_to_all}
use Rattle.words.proofs.OneWord.{leading_made_of, letter_to_alnum}
use Rattle.words.proofs.Spelled.{entry_has, letters_spell, Kind, word_kind, number_kind, mark_kind, kind_of, no_empty_spelling, spelling_to_one_token}

-- The test for a prefix says whether there is one.
begins_append : (s rest : List ℕ) → begins s (s ++ rest) ≡ true
begins_append [] rest = refl
begins_append (x ∷ s) rest = rw (eq-eqb x x refl) (begins_append s rest)

prefix_to_begins : (s bs : List ℕ) → Prefix s bs → begins s bs ≡ true
prefix_to_begins s bs p = ap (begins s) p.1 ∙ begins_append s p.0

begins_to_prefix : (s bs : List ℕ) → begins s bs ≡ true → Prefix s bs
begins_to_prefix [] bs e = (bs, refl)
begins_to_prefix (x ∷ s) [] e = absurd (true≢false (sym e))
begins_to_prefix (x ∷ s) (b ∷ bs) e = go (eqb b x) refl e (begins_to_prefix s bs)
  where
    go : (c : Bool) → eqb b x ≡ c → cond c (begins s bs) false ≡ true → (begins s bs ≡ true → Prefix s bs) → Prefix (x ∷ s) (b ∷ bs)
    go true h e ih = let p = ih e in (p.0, ap (λ y. y ∷ bs) (eqb-true b x h) ∙ ap (λ z. x ∷ z) p.1)
    go false h e ih = absurd (true≢false (sym e))

-- A table whose entries do not grow longer: the first that begins the bytes is the longest that does.
abbrev descending : List Fixed → Bool
descending [] = true
descending (f ∷ fs) = every (λ g. leb (length g.bytes) (length f.bytes)) fs && descending fs

data FirstFound (fs : List Fixed) (bs : List ℕ) : Found → Type 0 where
  entry_found : (s : List ℕ) (t : Token) → Entry s t fs → Prefix s bs → ((s' : List ℕ) (t' : Token) → Entry s' t' fs → Prefix s' bs → length s' ≤ length s) → FirstFound fs bs (found t (length s))
  none_found : ((s : List ℕ) (t : Token) → Entry s t fs → Prefix s bs → ⊥) → FirstFound fs bs nothing

first_is_longest : (bs : List ℕ) (fs : List Fixed) → descending fs ≡ true → FirstFound fs bs (first_of fs bs nothing)
first_is_longest bs [] d = none_found (λ s t e p. e)
first_is_longest bs (f ∷ fs) d =
    let h = and_parts (every (λ g. leb (length g.bytes) (length f.bytes)) fs) (descending fs) d in
    go (begins f.bytes bs) refl (every_to_all (λ g. leb (length g.bytes) (length f.bytes)) fs h.0) (first_is_longest bs fs h.1)
  where
    not_this : begins f.bytes bs ≡ false → (s : List ℕ) → f.bytes ≡ s → Prefix s bs → ⊥
    not_this c s e p = both_ways (begins f.bytes bs) c (prefix_to_begins f.bytes bs (subst (λ x. Prefix x bs) (sym e) p))

    longer : begins f.bytes bs ≡ false → (n : ℕ) → ((s : List ℕ) (t : Token) → Entry s t fs → Prefix s bs → length s ≤ n) → (s : List ℕ) (t : Token) → Entry s t (f ∷ fs) → Prefix s bs → length s ≤ n
    longer c n rest s t (inl e) p = absurd (not_this c s e.0 p)
    longer c n rest s t (inr e) p = rest s t e p

    none : begins f.bytes bs ≡ false → ((s : List ℕ) (t : Token) → Entry s t fs → Prefix s bs → ⊥) → (s : List ℕ) (t : Token) → Entry s t (f ∷ fs) → Prefix s bs → ⊥
    none c rest s t (inl e) p = not_this c s e.0 p
    none c rest s t (inr e) p = rest s t e p

    first : All (λ g. leb (length g.bytes) (length f.bytes) ≡ true) fs → (s : List ℕ) (t : Token) → Entry s t (f ∷ fs) → Prefix s bs → length s ≤ length f.bytes
    first a s t (inl e) p = omega (arith, ap length e.0)
    first a s t (inr e) p = leb-true (length s) (length f.bytes) (entry_has (λ x y. leb (length x) (length f.bytes) ≡ true) fs a e)

    later : begins f.bytes bs ≡ false → (x : Found) → FirstFound fs bs x → FirstFound (f ∷ fs) bs x
    later c (found t n) (entry_found s t' e p m) = entry_found s t (inr e) p (longer c (length s) m)
    later c nothing (none_found m) = none_found (none c m)

    go : (c : Bool) → begins f.bytes bs ≡ c → All (λ g. leb (length g.bytes) (length f.bytes) ≡ true) fs → FirstFound fs bs (first_of fs bs nothing)
        → FirstFound (f ∷ fs) bs (cond c (found f.token (length f.bytes)) (first_of fs bs nothing))
    go true c a rest = entry_found f.bytes f.token (inl (refl, refl)) (begins_to_prefix f.bytes bs c) (first a)
    go false c a rest = later c (first_of fs bs nothing) rest

-- Bytes of a class at the front lie within the leading run of the class.
made_of_to_within_run : (p : ℕ → Bool) (s rest : List ℕ) → MadeOf p s → length s ≤ prefix_len p (s ++ rest)
made_of_to_within_run p [] rest m = omega arith
made_of_to_within_run p (b ∷ s) rest m = rw m.0 (omega (arith, made_of_to_within_run p s rest m.1))

-- What is found is the longest spelling there.
pub data LongestFound (bs : List ℕ) : Found → Type 0 where
  longest_is : (s : List ℕ) (t : Token) → Longest s t bs → LongestFound bs (found t (length s))
  none_is : ((s : List ℕ) (t : Token) → Spells s t → Prefix s bs → ⊥) → LongestFound bs nothing

-- A run of a class is the longest word where every word that begins there is made of the class.
module _ (p : ℕ → Bool) (b : ℕ) (bs : List ℕ) (h : p b ≡ true) (only : (s : List ℕ) (t : Token) → Spells s t → Prefix s (b ∷ bs) → MadeOf p s) where
  abbrev run : List ℕ
  run = b ∷ take (prefix_len p bs) bs

  leading_first : prefix_len p (b ∷ bs) ≡ suc (prefix_len p bs)
  leading_first = cond-true (p b) (1 + prefix_len p bs) 0 h ∙ one-add (prefix_len p bs)

  pub run_taken : take (prefix_len p (b ∷ bs)) (b ∷ bs) ≡ run
  run_taken = ap (λ n. take n (b ∷ bs)) leading_first

  pub run_long : prefix_len p (b ∷ bs) ≡ length run
  run_long = leading_first ∙ ap suc (sym (length-take-le (prefix_len p bs) bs (prefix_len-le-length p bs)))

  pub run_is_longest : (t : Token) → Spells run t → LongestFound (b ∷ bs) (found t (prefix_len p (b ∷ bs)))
  run_is_longest t sp =
      subst (λ n. LongestFound (b ∷ bs) (found t n)) (sym run_long)
      (longest_is run t (record {
        spells = sp;
        front = (drop (prefix_len p bs) bs, ap (λ z. b ∷ z) (sym (take-append-drop (prefix_len p bs) bs)));
        longest = λ s' t' sp' pre. omega (arith, made_of_to_within_run p s' pre.0 (only s' t' sp' pre), ap (prefix_len p) pre.1, run_long);
      }))

-- Words that begin with the byte b have it first.
pub prefix_first : (b x : ℕ) (bs s : List ℕ) → Prefix (x ∷ s) (b ∷ bs) → x ≡ b
prefix_first b x bs s p = let e = p.1 in cc

-- By the first byte: words are made of letters and digits, of digits, or are marks.
letter_to_word : (b : ℕ) (bs : List ℕ) → is_ascii_alphabetic b ≡ true → (s : List ℕ) (t : Token) → Spells s t → Prefix s (b ∷ bs) → MadeOf is_ascii_alphanumeric s
letter_to_word b bs l [] t sp p = tt
letter_to_word b bs l (x ∷ s) t sp p = go (kind_of sp)
  where
    here : is_ascii_alphabetic x ≡ true
    here = ap is_ascii_alphabetic (prefix_first b x bs s p) ∙ l

    go : Kind x s t → MadeOf is_ascii_alphanumeric (x ∷ s)
    go (word_kind l' m e) = (letter_to_alnum x l', m)
    go (number_kind l' d m e) = absurd (both_ways (is_ascii_alphabetic x) l' here)
    go (mark_kind l' d k e) = absurd (both_ways (is_ascii_alphabetic x) l' here)

digit_to_number : (b : ℕ) (bs : List ℕ) → is_ascii_alphabetic b ≡ false → is_ascii_digit b ≡ true → (s : List ℕ) (t : Token) → Spells s t → Prefix s (b ∷ bs) → MadeOf is_ascii_digit s
digit_to_number b bs l d [] t sp p = tt
digit_to_number b bs l d (x ∷ s) t sp p = go (kind_of sp)
  where
    go : Kind x s t → MadeOf is_ascii_digit (x ∷ s)
    go (word_kind l' m e) = absurd (both_ways (is_ascii_alphabetic x) (ap is_ascii_alphabetic (prefix_first b x bs s p) ∙ l) l')
    go (number_kind l' d' m e) = (d', m)
    go (mark_kind l' d' k e) = absurd (both_ways (is_ascii_digit x) d' (ap is_ascii_digit (prefix_first b x bs s p) ∙ d))

other_to_mark : (b : ℕ) (bs : List ℕ) → is_ascii_alphabetic b ≡ false → is_ascii_digit b ≡ false → (s : List ℕ) (t : Token) → Spells s t → Prefix s (b ∷ bs) → Entry s t marks
other_to_mark b bs l d [] t sp p = absurd (no_empty_spelling sp)
other_to_mark b bs l d (x ∷ s) t sp p = go (kind_of sp)
  where
    go : Kind x s t → Entry (x ∷ s) t marks
    go (word_kind l' m e) = absurd (both_ways (is_ascii_alphabetic x) (ap is_ascii_alphabetic (prefix_first b x bs s p) ∙ l) l')
    go (number_kind l' d' m e) = absurd (both_ways (is_ascii_digit x) (ap is_ascii_digit (prefix_first b x bs s p) ∙ d) d')
    go (mark_kind l' d' k e) = e

mark_is_longest : (b : ℕ) (bs : List ℕ) → ((s : List ℕ) (t : Token) → Spells s t → Prefix s (b ∷ bs) → Entry s t marks) → (x : Found) → FirstFound marks (b ∷ bs) x → LongestFound (b ∷ bs) x
mark_is_longest b bs only (found t n) (entry_found s t' e p m) = longest_is s t (record { spells = a_mark e; front = p; longest = λ s' t' sp pre. m s' t' (only s' t' sp pre) pre })
mark_is_longest b bs only nothing (none_found m) = none_is (λ s t sp pre. m s t (only s t sp pre) pre)

-- The definition finds the longest word, or there is none.
pub longest_at_is : (bs : List ℕ) → LongestFound bs (longest_at bs)
unfolding mark_at
longest_at_is [] = none_is none
  where
    none : (s : List ℕ) (t : Token) → Spells s t → Prefix s [] → ⊥
    none [] t sp p = no_empty_spelling sp
    none (x ∷ s) t sp p = omega (arith, ap length p.1)
longest_at_is (b ∷ bs) = go (is_ascii_alphabetic b) refl (is_ascii_digit b) refl
  where
    go : (c : Bool) → is_ascii_alphabetic b ≡ c → (d : Bool) → is_ascii_digit b ≡ d → LongestFound (b ∷ bs) (cond c (name_at (b ∷ bs)) (cond d (number_at (b ∷ bs)) (mark_at (b ∷ bs))))
    go true l d e =
        let a = letter_to_alnum b l in
        let only = letter_to_word b bs l in
        subst (λ s. LongestFound (b ∷ bs) (found (name_token s) (prefix_len is_ascii_alphanumeric (b ∷ bs)))) (sym (run_taken is_ascii_alphanumeric b bs a only))
        (run_is_longest is_ascii_alphanumeric b bs a only (name_token (b ∷ take (prefix_len is_ascii_alphanumeric bs) bs)) (letters_spell b (take (prefix_len is_ascii_alphanumeric bs) bs) l (leading_made_of is_ascii_alphanumeric bs)))
    go false l true e =
        let only = digit_to_number b bs l e in
        subst (λ s. LongestFound (b ∷ bs) (found (number (value_of s)) (prefix_len is_ascii_digit (b ∷ bs)))) (sym (run_taken is_ascii_digit b bs e only))
        (run_is_longest is_ascii_digit b bs e only (number (value_of (b ∷ take (prefix_len is_ascii_digit bs) bs))) (a_number e (leading_made_of is_ascii_digit bs)))
    go false l false e = mark_is_longest b bs (other_to_mark b bs l e) (first_of marks (b ∷ bs) nothing) (first_is_longest (b ∷ bs) marks refl)

-- Two longest words at the same bytes are the same.
prefixes_equal : (s s' bs : List ℕ) → Prefix s bs → Prefix s' bs → length s ≡ length s' → s ≡ s'
prefixes_equal s s' bs p p' e = sym (take_at s p.0 (length s) refl) ∙ (ap (take (length s)) (sym p.1 ∙ p'.1) ∙ take_at s' p'.0 (length s) (sym e))

-- So a longest word is what the definition finds, and where no word begins it finds nothing.
pub longest_to_found : (s : List ℕ) (t : Token) (bs : List ℕ) → Longest s t bs → longest_at bs ≡ found t (length s)
longest_to_found s t bs l = go (longest_at bs) (longest_at_is bs)
  where
    go : (x : Found) → LongestFound bs x → x ≡ found t (length s)
    go (found t' n) (longest_is s' t'' l') =
        let e : s' ≡ s = prefixes_equal s' s bs l'.front l.front (omega (arith, l.longest s' t' l'.spells l'.front, l'.longest s t l.spells l.front)) in
        let k : t' ≡ t = spelling_to_one_token s t' t (subst (λ z. Spells z t') e l'.spells) l.spells in
        ap (λ z. found t' (length z)) e ∙ ap (λ z. found z (length s)) k
    go nothing (none_is none) = absurd (none s t l.spells l.front)

pub no_word_to_nothing : (bs : List ℕ) → ((s : List ℕ) (t : Token) → Spells s t → Prefix s bs → ⊥) → longest_at bs ≡ nothing
no_word_to_nothing bs none = go (longest_at bs) (longest_at_is bs)
  where
    go : (x : Found) → LongestFound bs x → x ≡ nothing
    go (found t n) (longest_is s t' l) = absurd (none s t l.spells l.front)
    go nothing (none_is m) = refl
