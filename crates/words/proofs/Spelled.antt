-- What spells a word, by its first byte; and that a spelling has one token.
use Rattle.std.proofs.Common.{◌≡◌, ℕ, Bool, true, false, cond, not, ◌&&◌, ◌⊎◌, List, [], ◌∷◌, sym, refl, ◌∙◌, subst, inl, inr, arith}
use Rattle.std.specs.List.{AllByRecursion as All}
use Rattle.std.specs.Str.{bytes_eq}
use Rattle.std.specs.Char.{is_ascii_digit, is_ascii_alphanumeric, is_ascii_alphabetic}
use Rattle.std.proofs.lemmas.Slice.Eq.{bytes_eq-Decides}
use Rattle.std.proofs.lemmas.Bool.{and_parts, not-true, true≢false, both_ways}
use Rattle.std.proofs.lemmas.Bool.Decides.{nat_tests}
use Rattle.words.specs.Token.{Token, name, number}
use Rattle.words.specs.Spelling.{Fixed, reserved_words, marks, blank, MadeOf, value_of}
use Rattle.words.specs.Words.{exactly, name_token}
use Rattle.words.specs.Reading.{Entry, Spells, a_reserved_word, a_name, a_number, a_mark}
use Rattle.words.proofs.Tables.{every_to_all}

-- A test of all bytes, and what it says.
abbrev all_of : (ℕ → Bool) → List ℕ → Bool
all_of p [] = true
all_of p (b ∷ bs) = p b && all_of p bs

all_of_to_made_of : (p : ℕ → Bool) (bs : List ℕ) → all_of p bs ≡ true → MadeOf p bs
all_of_to_made_of p [] e = tt
all_of_to_made_of p (b ∷ bs) e = let h = and_parts (p b) (all_of p bs) e in (h.0, all_of_to_made_of p bs h.1)

-- What holds of every entry holds of an entry's bytes and token.
pub entry_has : (P : List ℕ → Token → Type 0) {s : List ℕ} {t : Token} (fs : List Fixed) → All (λ f. P f.bytes f.token) fs → Entry s t fs → P s t
entry_has P [] a e = absurd e
entry_has P {s} {t} (f ∷ fs) a (inl e) = subst (λ y. P s y) e.1 (subst (λ x. P x f.token) e.0 a.0)
entry_has P (f ∷ fs) a (inr e) = entry_has P fs a.1 e

-- Every reserved word is a letter with letters and digits after it; every mark begins with none of these and no blank.
abbrev word_like : List ℕ → Bool
word_like [] = false
word_like (b ∷ bs) = is_ascii_alphabetic b && all_of is_ascii_alphanumeric bs

abbrev mark_like : List ℕ → Bool
mark_like [] = false
mark_like (b ∷ bs) = not (is_ascii_alphabetic b) && (not (is_ascii_digit b) && not (blank b))

reserved_word_like : {s : List ℕ} {t : Token} → Entry s t reserved_words → word_like s ≡ true
reserved_word_like e = entry_has (λ s t. word_like s ≡ true) reserved_words (every_to_all (λ f. word_like f.bytes) reserved_words refl) e

marks_mark_like : {s : List ℕ} {t : Token} → Entry s t marks → mark_like s ≡ true
marks_mark_like e = entry_has (λ s t. mark_like s ≡ true) marks (every_to_all (λ f. mark_like f.bytes) marks refl) e

-- Each table has each spelling once: looking the bytes of an entry up gives its token.
reserved_found : {s : List ℕ} {t : Token} → Entry s t reserved_words → name_token s ≡ t
unfolding name_token
reserved_found e =
    entry_has (λ s t. exactly reserved_words s (name s) ≡ t) reserved_words
    (refl, (refl, (refl, (refl, (refl, (refl, (refl, (refl, (refl, (refl, (refl, (refl, (refl, (refl, (refl, (refl, (refl, (refl, tt)))))))))))))))))) e

mark_found : {s : List ℕ} {t : Token} → Entry s t marks → exactly marks s (name s) ≡ t
mark_found e =
    entry_has (λ s t. exactly marks s (name s) ≡ t) marks
    (refl, (refl, (refl, (refl, (refl, (refl, (refl, (refl, (refl, (refl, (refl, (refl, (refl, (refl, (refl, (refl, (refl, (refl, (refl, tt))))))))))))))))))) e

-- A search for bytes finds an entry, or there is none.
pub search_table : (s : List ℕ) (o : Token) (fs : List Fixed) → Entry s (exactly fs s o) fs ⊎ (((t : Token) → Entry s t fs → ⊥) × (exactly fs s o ≡ o))
search_table s o [] = inr (λ t e. e, refl)
search_table s o (f ∷ fs) = go (bytes_eq s f.bytes) refl (search_table s o fs)
  where
    go : (c : Bool) → bytes_eq s f.bytes ≡ c → Entry s (exactly fs s o) fs ⊎ (((t : Token) → Entry s t fs → ⊥) × (exactly fs s o ≡ o))
        → Entry s (cond c f.token (exactly fs s o)) (f ∷ fs) ⊎ (((t : Token) → Entry s t (f ∷ fs) → ⊥) × (cond c f.token (exactly fs s o) ≡ o))
    go true e rest = inl (inl (sym ((bytes_eq-Decides s f.bytes).0 e), refl))
    go false e (inl there) = inl (inr there)
    go false e (inr none) = inr (λ t. elim [ inl h ↦ both_ways (bytes_eq s f.bytes) e ((bytes_eq-Decides s f.bytes).1 (sym h.0)) | inr h ↦ none.0 t h ], none.1)

-- A letter with letters and digits after it spells a word.
pub letters_spell : (b : ℕ) (s : List ℕ) → is_ascii_alphabetic b ≡ true → MadeOf is_ascii_alphanumeric s → Spells (b ∷ s) (name_token (b ∷ s))
unfolding name_token
letters_spell b s l m = go (search_table (b ∷ s) (name (b ∷ s)) reserved_words)
  where
    go : Entry (b ∷ s) (exactly reserved_words (b ∷ s) (name (b ∷ s))) reserved_words ⊎ (((t : Token) → Entry (b ∷ s) t reserved_words → ⊥) × (exactly reserved_words (b ∷ s) (name (b ∷ s)) ≡ name (b ∷ s)))
        → Spells (b ∷ s) (exactly reserved_words (b ∷ s) (name (b ∷ s)))
    go (inl e) = a_reserved_word e
    go (inr n) = subst (Spells (b ∷ s)) (sym n.1) (a_name l m n.0)

-- A spelling by its first byte: a letter, a digit, or a mark's.
pub data Kind (b : ℕ) (s : List ℕ) (t : Token) : Type 0 where
  word_kind : is_ascii_alphabetic b ≡ true → MadeOf is_ascii_alphanumeric s → name_token (b ∷ s) ≡ t → Kind b s t
  number_kind : is_ascii_alphabetic b ≡ false → is_ascii_digit b ≡ true → MadeOf is_ascii_digit s → number (value_of (b ∷ s)) ≡ t → Kind b s t
  mark_kind : is_ascii_alphabetic b ≡ false → is_ascii_digit b ≡ false → blank b ≡ false → Entry (b ∷ s) t marks → Kind b s t

digit_to_no_letter : (b : ℕ) → is_ascii_digit b ≡ true → is_ascii_alphabetic b ≡ false
digit_to_no_letter b d = grind (arith, nat_tests)

pub kind_of : {b : ℕ} {s : List ℕ} {t : Token} → Spells (b ∷ s) t → Kind b s t
unfolding name_token
kind_of {b} {s} (a_reserved_word e) =
    let h = and_parts (is_ascii_alphabetic b) (all_of is_ascii_alphanumeric s) (reserved_word_like e) in
    word_kind h.0 (all_of_to_made_of is_ascii_alphanumeric s h.1) (reserved_found e)
kind_of {b} {s} (a_name l m n) = word_kind l m (go (search_table (b ∷ s) (name (b ∷ s)) reserved_words))
  where
    go : Entry (b ∷ s) (exactly reserved_words (b ∷ s) (name (b ∷ s))) reserved_words ⊎ (((t : Token) → Entry (b ∷ s) t reserved_words → ⊥) × (exactly reserved_words (b ∷ s) (name (b ∷ s)) ≡ name (b ∷ s)))
        → exactly reserved_words (b ∷ s) (name (b ∷ s)) ≡ name (b ∷ s)
    go (inl e) = absurd (n (exactly reserved_words (b ∷ s) (name (b ∷ s))) e)
    go (inr h) = h.1
kind_of {b} (a_number d m) = number_kind (digit_to_no_letter b d) d m refl
kind_of {b} {s} (a_mark e) =
    let h = and_parts (not (is_ascii_alphabetic b)) (not (is_ascii_digit b) && not (blank b)) (marks_mark_like e) in
    let k = and_parts (not (is_ascii_digit b)) (not (blank b)) h.1 in
    mark_kind (not-true (is_ascii_alphabetic b) h.0) (not-true (is_ascii_digit b) k.0) (not-true (blank b) k.1) e

-- No word is spelled without bytes.
pub no_empty_spelling : {t : Token} → Spells [] t → ⊥
no_empty_spelling (a_reserved_word e) = true≢false (sym (reserved_word_like e))
no_empty_spelling (a_mark e) = true≢false (sym (marks_mark_like e))

-- One spelling has one token.
pub spelling_to_one_token : (s : List ℕ) (t t' : Token) → Spells s t → Spells s t' → t ≡ t'
spelling_to_one_token [] t t' x y = absurd (no_empty_spelling x)
spelling_to_one_token (b ∷ s) t t' x y = go (kind_of x) (kind_of y)
  where
    go : Kind b s t → Kind b s t' → t ≡ t'
    go (word_kind l m e) (word_kind l' m' e') = sym e ∙ e'
    go (word_kind l m e) (number_kind l' d' m' e') = absurd (both_ways (is_ascii_alphabetic b) l' l)
    go (word_kind l m e) (mark_kind l' d' k' e') = absurd (both_ways (is_ascii_alphabetic b) l' l)
    go (number_kind l d m e) (word_kind l' m' e') = absurd (both_ways (is_ascii_alphabetic b) l l')
    go (number_kind l d m e) (number_kind l' d' m' e') = sym e ∙ e'
    go (number_kind l d m e) (mark_kind l' d' k' e') = absurd (both_ways (is_ascii_digit b) d' d)
    go (mark_kind l d k e) (word_kind l' m' e') = absurd (both_ways (is_ascii_alphabetic b) l l')
    go (mark_kind l d k e) (number_kind l' d' m' e') = absurd (both_ways (is_ascii_digit b) d d')
    go (mark_kind l d k e) (mark_kind l' d' k' e') = sym (mark_found e) ∙ mark_found e'
