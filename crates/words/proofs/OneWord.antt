-- One word at the front of some bytes: what the reader's answers mean by the definition.
use Rattle.std.proofs.Common.{◌≡◌, ℕ, ◌+◌, ◌<◌, ◌≤◌, Bool, true, false, cond, eqb, ◌≢◌, List, [], ◌∷◌, length, get_or, take, drop, codes, Ok, sym, refl, ap, ◌∙◌, one-add, arith, length-take, true≢false}
use Rattle.std.specs.List.{prefix_len, AllByRecursion as All}
use Rattle.std.specs.Char.{is_ascii_digit, is_ascii_alphanumeric, is_ascii_alphabetic}
use Rattle.std.proofs.lemmas.List.{length-take-le}
use Rattle.std.proofs.lemmas.Bool.{lt-leb, le-leb, cond_both, ne_eqb}
use Rattle.std.proofs.lemmas.List.Sums.{prefix_len-le-length}
use Rattle.std.proofs.lemmas.Bool.Decides.{nat_tests}
use Rattle.words.specs.Token.{Token, name, number}
use Rattle.words.specs.Spelling.{Fixed, two_byte_marks, one_byte_marks, reserved_words, MadeOf, not_semicolon, value_of}
use Rattle.std.specs.Str.{bytes_eq}
use Rattle.words.specs.Words.{found, nothing, exactly, first_of, mark_at, name_at, number_at, name_token, short, skipped, word_at, next_word, next_refused}
use Rattle.words.specs.Records.{token_in}
use Rattle.words.specs.Inner.{IsMark, taken_at}
use Rattle.words.specs.declared.token.Token.{Token as TokenRecord}
use Rattle.words.specs.declared.token.Token.TheVariants.{Name, Number, Keyword, Mark, Sign, Scaling, Relation}
use Rattle.words.specs.declared.refusal.WordRefusal.TheVariants.{WordTooLong}
use Rattle.words.proofs.Comparison.{lengths_differ_to_not_same}
use Rattle.words.proofs.Digits.{digit_to_range}
use Rattle.words.proofs.Tables.{every_to_all, longer_than_16_to_not_reserved}

-- The leading bytes of a class are of that class.
pub leading_made_of : (p : ℕ → Bool) (bs : List ℕ) → MadeOf p (take (prefix_len p bs) bs)
leading_made_of p [] = tt
leading_made_of p (b ∷ bs) = go (p b) refl (leading_made_of p bs)
  where
    go : (c : Bool) → p b ≡ c → MadeOf p (take (prefix_len p bs) bs) → MadeOf p (take (cond c (1 + prefix_len p bs) 0) (b ∷ bs))
    go true e m = rw (one-add (prefix_len p bs)) (e, m)
    go false e m = tt

-- Only `comment` skips anything: bytes of another length or another first byte do not.
pub other_length_skips_nothing : (s rest : List ℕ) → length s ≢ 7 → skipped s rest ≡ 0
other_length_skips_nothing s rest h = ap (λ c. cond c (prefix_len not_semicolon rest) 0) (lengths_differ_to_not_same s (codes "comment") h)

-- The table of marks is searched in two parts.
pub marks_in_two_parts : (bs : List ℕ) → mark_at bs ≡ first_of two_byte_marks bs (first_of one_byte_marks bs nothing)
unfolding mark_at
marks_in_two_parts bs = refl

-- What a choice from a table keeps: a property of every entry's token and of the token given.
exactly_keeps : (P : Token → Type 0) (s : List ℕ) (o : Token) → P o → (fs : List Fixed) → All (λ f. P f.token) fs → P (exactly fs s o)
exactly_keeps P s o h [] a = h
exactly_keeps P s o h (f ∷ fs) a = cond_both (bytes_eq s f.bytes) f.token (exactly fs s o) P (λ e. a.0) (λ e. exactly_keeps P s o h fs a.1)

-- A name or reserved word is short up to 16 bytes, and too long beyond.
pub name_short : (s : List ℕ) (n : ℕ) → n ≤ 16 → short (name_token s) n ≡ true
unfolding name_token
name_short s n le = exactly_keeps (λ t. short t n ≡ true) s (name s) (le-leb n 16 le) reserved_words (every_to_all (λ f. short f.token n) reserved_words refl)

pub name_too_long : (s : List ℕ) (n : ℕ) → length s ≡ n → 16 < n → short (name_token s) n ≡ false
unfolding name_token
name_too_long s n e lt = ap (λ t. short t n) (longer_than_16_to_not_reserved s (name s) (rw e lt)) ∙ lt-leb n 16 lt

-- Digits skip nothing.
pub digits_skip_nothing : (s rest : List ℕ) → MadeOf is_ascii_digit s → skipped s rest ≡ 0
digits_skip_nothing [] rest m = refl
digits_skip_nothing (b ∷ s) rest m = let d : eqb b 99 ≡ false = ne_eqb b 99 (λ e. omega (arith, digit_to_range b m.0)) in rw d

-- A letter is a letter or digit.
pub letter_to_alnum : (b : ℕ) → is_ascii_alphabetic b ≡ true → is_ascii_alphanumeric b ≡ true
letter_to_alnum b h = grind (arith, nat_tests)

-- A mark keeps its kind wherever it is read, and is short.
mark_short : (n : ℕ) (m : TokenRecord) → IsMark m → short (token_in [] m) n ≡ true
mark_short n (Name k) i = absurd i
mark_short n (Number v) i = absurd i
mark_short n (Keyword k) i = absurd i
mark_short n (Mark m) i = refl
mark_short n (Sign m) i = refl
mark_short n (Scaling m) i = refl
mark_short n (Relation m) i = refl

mark_in : (bs : List ℕ) (m : TokenRecord) → IsMark m → token_in bs m ≡ token_in [] m
mark_in bs (Name k) i = absurd i
mark_in bs (Number v) i = absurd i
mark_in bs (Keyword k) i = absurd i
mark_in bs (Mark m) i = refl
mark_in bs (Sign m) i = refl
mark_in bs (Scaling m) i = refl
mark_in bs (Relation m) i = refl

module _ (p : ℕ) (bs : List ℕ) where
  -- A short word at the front, n bytes long, that skips k bytes more: the definition goes on behind both.
  pub short_word : (n k : ℕ) (t : Token) → short t n ≡ true → skipped (take n bs) (drop n bs) ≡ k
      → word_at p bs (found t n) ≡ next_word (record { token = t; place = p }) (p + (n + k)) (drop (n + k) bs)
  short_word n k t s e = rw (s, e)

  -- A mark of n bytes, 1 or 2, by its record.
  pub mark_read : (n : ℕ) (m : TokenRecord) → n ≤ 2 → IsMark m → mark_at bs ≡ found (token_in [] m) n → taken_at p bs (Ok (m, n)) ≡ word_at p bs (mark_at bs)
  mark_read n m few i e =
      let nothing_more = other_length_skips_nothing (take n bs) (drop n bs) (λ l. omega (arith, l, length-take n bs)) in
      ap (λ t. next_word (record { token = t; place = p }) (p + n) (drop n bs)) (mark_in bs m i)
      ∙ (ap (λ k. next_word (record { token = token_in [] m; place = p }) (p + k) (drop k bs)) (omega arith)
      ∙ (sym (short_word n 0 (token_in [] m) (mark_short n m i) nothing_more)
      ∙ ap (word_at p bs) (sym e)))

  -- A name or reserved word by its record: of n bytes, skipping k more.
  module _ (n : ℕ) (run : n ≡ prefix_len is_ascii_alphanumeric bs) where
    name_here : word_at p bs (found (name_token (take n bs)) n) ≡ word_at p bs (name_at bs)
    name_here = ap (λ l. word_at p bs (found (name_token (take l bs)) l)) run

    pub name_read : (k : ℕ) (m : TokenRecord) → n ≤ 16 → token_in bs m ≡ name_token (take n bs) → k ≡ skipped (take n bs) (drop n bs)
        → taken_at p bs (Ok (m, n + k)) ≡ word_at p bs (name_at bs)
    name_read k m le et ek =
        ap (λ t. next_word (record { token = t; place = p }) (p + (n + k)) (drop (n + k) bs)) et
        ∙ (sym (short_word n k (name_token (take n bs)) (name_short (take n bs) n le) (sym ek))
        ∙ name_here)

    pub name_refused : 16 < n → next_refused WordTooLong p ≡ word_at p bs (name_at bs)
    name_refused lt =
        let e = name_too_long (take n bs) n (length-take-le n bs (omega (arith, run, prefix_len-le-length is_ascii_alphanumeric bs))) lt in
        sym (rw e) ∙ name_here

  -- A number by its record.
  module _ (n : ℕ) (run : n ≡ prefix_len is_ascii_digit bs) where
    number_here : word_at p bs (found (number (value_of (take n bs))) n) ≡ word_at p bs (number_at bs)
    number_here = ap (λ l. word_at p bs (found (number (value_of (take l bs))) l)) run

    pub digits_made_of : MadeOf is_ascii_digit (take n bs)
    digits_made_of = rw run (leading_made_of is_ascii_digit bs)

    pub number_read : (v : ℕ) → n ≤ 9 → v ≡ value_of (take n bs) → taken_at p bs (Ok (Number v, n)) ≡ word_at p bs (number_at bs)
    number_read v le ev =
        ap (λ x. next_word (record { token = number x; place = p }) (p + n) (drop n bs)) ev
        ∙ (ap (λ k. next_word (record { token = number (value_of (take n bs)); place = p }) (p + k) (drop k bs)) (omega arith)
        ∙ (sym (short_word n 0 (number (value_of (take n bs))) (le-leb n 9 le) (digits_skip_nothing (take n bs) (drop n bs) digits_made_of))
        ∙ number_here))

    pub number_refused : 9 < n → next_refused WordTooLong p ≡ word_at p bs (number_at bs)
    number_refused lt = let e = lt-leb n 9 lt in sym (rw e) ∙ number_here

-- A run of a class that its first byte is of is not empty.
pub run_not_empty : (p : ℕ → Bool) (bs : List ℕ) → p 0 ≡ false → p (get_or bs 0 0) ≡ true → 0 < prefix_len p bs
run_not_empty p [] zero_fails e = absurd (true≢false (sym e ∙ zero_fails))
run_not_empty p (b ∷ bs) zero_fails e = rw e (omega arith)

-- The two bytes at the front.
pub two_bytes : (bs : List ℕ) → 2 ≤ length bs → bs ≡ get_or bs 0 0 ∷ (get_or bs 1 0 ∷ drop 2 bs)
two_bytes [] le = absurd (omega arith)
two_bytes (a ∷ []) le = absurd (omega arith)
two_bytes (a ∷ (b ∷ bs)) le = refl
