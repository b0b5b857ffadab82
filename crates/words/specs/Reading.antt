-- The words of a text as rules: what spells a word, which word is cut, what a comment skips, and where a text is
-- refused. A reader has to believe these rules and the tables of specs/Spelling.antt. The law at the end says that they
-- give every text exactly one result, and that it is the one specs/Words.antt computes.
use Rattle.std.specs.Prelude.{◌≡◌, ℕ, suc, ◌+◌, ◌<◌, ◌≤◌, true, false, ◌⊎◌, List, [], ◌∷◌, ◌++◌, length, drop, codes, ◌≢◌}
use Rattle.std.specs.List.{AllByRecursion}
use Rattle.std.specs.Char.{is_ascii_digit, is_ascii_alphanumeric, is_ascii_alphabetic}
use Rattle.words.specs.Token.{Token, Word, name, number, keyword, mark, sign, scaling, relation}
use Rattle.words.specs.Spelling.{Fixed, reserved_words, marks, blank, not_semicolon, MadeOf, value_of}
use Rattle.words.specs.Words.{Words, words, refused, words_of}
use Rattle.words.specs.declared.refusal.WordRefusal.{WordRefusal}
use Rattle.words.specs.declared.refusal.WordRefusal.TheVariants.{TextTooLong, NoWord, WordTooLong, TooManyWords}

-- The bytes s stand in a table with the token t.
abbrev pub Entry : List ℕ → Token → List Fixed → Type 0
Entry s t [] = ⊥
Entry s t (f ∷ fs) = ((f.bytes ≡ s) × (f.token ≡ t)) ⊎ Entry s t fs

-- What spells a word, however long: a reserved word; a letter, then letters or digits, that are no reserved word;
-- digits; a mark.
pub data Spells : List ℕ → Token → Type 0 where
  a_reserved_word : {s : List ℕ} {t : Token} → Entry s t reserved_words → Spells s t
  a_name : {b : ℕ} {s : List ℕ} → is_ascii_alphabetic b ≡ true → MadeOf is_ascii_alphanumeric s → ((t : Token) → Entry (b ∷ s) t reserved_words → ⊥) → Spells (b ∷ s) (name (b ∷ s))
  a_number : {b : ℕ} {s : List ℕ} → is_ascii_digit b ≡ true → MadeOf is_ascii_digit s → Spells (b ∷ s) (number (value_of (b ∷ s)))
  a_mark : {s : List ℕ} {t : Token} → Entry s t marks → Spells s t

-- The bytes s begin the bytes bs.
abbrev pub Prefix : List ℕ → List ℕ → Type 0
Prefix s bs = (rest : List ℕ) × (bs ≡ s ++ rest)

-- The word s, of token t, is the longest that begins the bytes bs.
pub record Longest (s : List ℕ) (t : Token) (bs : List ℕ) : Type 0 where
  pub spells : Spells s t
  pub front : Prefix s bs
  pub longest : (s' : List ℕ) (t' : Token) → Spells s' t' → Prefix s' bs → length s' ≤ length s

-- A name has at most 16 bytes, a number at most 9 digits; the fixed words are short anyway.
abbrev pub Short : List ℕ → Token → Type 0
Short s (name n) = length s ≤ 16
Short s (number v) = length s ≤ 9
Short s (keyword k) = Unit {0}
Short s (mark m) = Unit {0}
Short s (sign g) = Unit {0}
Short s (scaling g) = Unit {0}
Short s (relation r) = Unit {0}

-- What a comment stops before: the end, or a semicolon.
abbrev pub Stops : List ℕ → Type 0
Stops [] = Unit {0}
Stops (b ∷ bs) = b ≡ 59

-- The bytes that the word s skips, and those after them: `comment` skips all up to its stop, any other word nothing.
pub data Skips : List ℕ → List ℕ → List ℕ → Type 0 where
  comment_text : {s skip after : List ℕ} → s ≡ codes "comment" → MadeOf not_semicolon skip → Stops after → Skips s skip after
  no_text : {s after : List ℕ} → (s ≢ codes "comment") → Skips s [] after

-- Cuts p bs ws q rest: the bytes bs, which stand at place p, are cut into the words ws up to place q, where `rest` is
-- left.
-- A blank or line end is passed over; else the longest word is cut, with what it skips.
pub data Cuts : ℕ → List ℕ → List Word → ℕ → List ℕ → Type 0 where
  here : {p : ℕ} {bs : List ℕ} → Cuts p bs [] p bs
  gap : {p b q : ℕ} {bs rest : List ℕ} {ws : List Word} → blank b ≡ true → Cuts (suc p) bs ws q rest → Cuts p (b ∷ bs) ws q rest
  cut : {p q : ℕ} {bs rest : List ℕ} {ws : List Word} (s skip after : List ℕ) (t : Token)
      → Longest s t bs → Short s t → Skips s skip after → bs ≡ (s ++ skip) ++ after
      → Cuts (p + length (s ++ skip)) after ws q rest → Cuts p bs (record { token = t; place = p } ∷ ws) q rest

-- Why the bytes bs, after n words of at most `most`, are refused: their first byte begins no word; their longest word
-- is too long; it is a word too many.
pub data Fault (most n : ℕ) : List ℕ → WordRefusal → Type 0 where
  no_word : {b : ℕ} {bs : List ℕ} → blank b ≡ false → ((s : List ℕ) (t : Token) → Spells s t → Prefix s (b ∷ bs) → ⊥) → Fault most n (b ∷ bs) NoWord
  too_long : {bs : List ℕ} (s : List ℕ) (t : Token) → Longest s t bs → (Short s t → ⊥) → Fault most n bs WordTooLong
  too_many : {bs : List ℕ} (s : List ℕ) (t : Token) → n ≡ most → Longest s t bs → Short s t → Fault most n bs TooManyWords

-- The result for the bytes bs at place p, of at most `most` words: they are cut to their end, or up to a fault.
pub data ReadsFrom (most p : ℕ) (bs : List ℕ) : Words → Type 0 where
  to_the_end : {q : ℕ} {ws : List Word} → Cuts p bs ws q [] → length ws ≤ most → ReadsFrom most p bs (words ws)
  to_a_fault : {q : ℕ} {rest : List ℕ} {ws : List Word} {r : WordRefusal} → Cuts p bs ws q rest → length ws ≤ most → Fault most (length ws) rest r → ReadsFrom most p bs (refused r q)

-- The result for a text: at most 8,192 bytes, and at most 500 words.
pub data Reads (text : List ℕ) : Words → Type 0 where
  text_too_long : 8192 < length text → Reads text (refused TextTooLong 8192)
  text_read : {r : Words} → length text ≤ 8192 → ReadsFrom 500 0 text r → Reads text r

-- Places ascend from p on and lie before the end.
abbrev pub Ascending : ℕ → ℕ → List Word → Type 0
Ascending p end [] = Unit {0}
Ascending p end (w ∷ ws) = (p ≤ w.place) × (w.place < end) × Ascending (suc w.place) end ws

-- A name has at most 16 bytes, and a number is at most 999,999,999.
abbrev pub WithinBounds : Token → Type 0
WithinBounds (name s) = length s ≤ 16
WithinBounds (number v) = v ≤ 999999999
WithinBounds (keyword k) = Unit {0}
WithinBounds (mark m) = Unit {0}
WithinBounds (sign g) = Unit {0}
WithinBounds (scaling g) = Unit {0}
WithinBounds (relation r) = Unit {0}

-- What holds of the words of every accepted text. Each is the longest that begins at its place.
pub record Accepted (text : List ℕ) (ws : List Word) : Type 0 where
  pub not_too_long : length text ≤ 8192
  pub not_too_many : length ws ≤ 500
  pub ascending : Ascending 0 (length text) ws
  pub within_bounds : AllByRecursion (λ w. WithinBounds w.token) ws
  pub longest_there : AllByRecursion (λ w. (s : List ℕ) × Longest s w.token (drop w.place text)) ws

-- The law: every text has a result by these rules, the one computed, and no other; and one spelling has one token.
pub record ReadingLaw : Type 0 where
  pub result : (text : List ℕ) → Reads text (words_of text)
  pub no_other : (text : List ℕ) (r : Words) → Reads text r → r ≡ words_of text
  pub accepted : (text : List ℕ) (ws : List Word) → words_of text ≡ words ws → Accepted text ws
  pub one_token : (s : List ℕ) (t t' : Token) → Spells s t → Spells s t' → t ≡ t'
