-- The words of a text: the list of its words, or a refusal and its place. A place is a byte's number from 0.
-- This is the definition that the code computes; specs/Reading.antt says the same as rules, and that the two agree.
use Rattle.std.specs.Prelude.{ℕ, zero, suc, ◌+◌, Bool, true, cond, List, [], ◌∷◌, length, take, drop, codes, nat_le, nat_lt}
use Rattle.std.specs.List.{prefix_len}
use Rattle.std.specs.Str.{bytes_eq}
use Rattle.std.specs.Char.{is_ascii_digit, is_ascii_alphanumeric, is_ascii_alphabetic}
use Rattle.words.specs.Token.{Token, Word, name, number, keyword, mark, sign, scaling, relation}
use Rattle.words.specs.Spelling.{Fixed, reserved_words, marks, blank, not_semicolon, begins, value_of}
use Rattle.words.specs.declared.refusal.WordRefusal.{WordRefusal}
use Rattle.words.specs.declared.refusal.WordRefusal.TheVariants.{TextTooLong, NoWord, WordTooLong, TooManyWords}

-- The token of the fixed word that is exactly these bytes, else the token given.
abbrev pub exactly : List Fixed → List ℕ → Token → Token
exactly [] s otherwise = otherwise
exactly (f ∷ fs) s otherwise = cond (bytes_eq s f.bytes) f.token (exactly fs s otherwise)

-- A letter and the letters and digits after it are a reserved word or a name.
unfoldable pub name_token : List ℕ → Token
name_token s = exactly reserved_words s (name s)

-- What begins at some bytes: a token of so many bytes, or nothing.
pub data Found : Type 0 where
  found : Token → ℕ → Found
  nothing : Found

-- The first fixed word of the table that begins there.
abbrev pub first_of : List Fixed → List ℕ → Found → Found
first_of [] bs otherwise = otherwise
first_of (f ∷ fs) bs otherwise = cond (begins f.bytes bs) (found f.token (length f.bytes)) (first_of fs bs otherwise)

-- The longest mark that begins there: in the table those of two bytes come first.
unfoldable pub mark_at : List ℕ → Found
mark_at bs = first_of marks bs nothing

-- A letter and the letters and digits after it; a digit and the digits after it.
abbrev pub name_at : List ℕ → Found
name_at bs = found (name_token (take (prefix_len is_ascii_alphanumeric bs) bs)) (prefix_len is_ascii_alphanumeric bs)

abbrev pub number_at : List ℕ → Found
number_at bs = found (number (value_of (take (prefix_len is_ascii_digit bs) bs))) (prefix_len is_ascii_digit bs)

-- The longest word that begins there, however long.
abbrev pub longest_at : List ℕ → Found
longest_at [] = nothing
longest_at (b ∷ bs) =
    cond (is_ascii_alphabetic b) (name_at (b ∷ bs))
    (cond (is_ascii_digit b) (number_at (b ∷ bs))
    (mark_at (b ∷ bs)))

-- Is a token of so many bytes short enough? A fixed word always is.
abbrev pub short : Token → ℕ → Bool
short (name s) n = nat_le n 16
short (number v) n = nat_le n 9
short (keyword k) n = true
short (mark m) n = true
short (sign s) n = true
short (scaling s) n = true
short (relation r) n = true

-- How many of the bytes after the word s it skips: `comment` skips those before the next semicolon or the end.
abbrev pub skipped : List ℕ → List ℕ → ℕ
skipped s rest = cond (bytes_eq s (codes "comment")) (prefix_len not_semicolon rest) 0

-- A word of n bytes at the front, with what it skips, takes so many bytes.
abbrev pub passed : ℕ → List ℕ → ℕ
passed n bs = n + skipped (take n bs) (drop n bs)

-- What comes next: the end, a word with the place and the bytes after it and what it skips, or a refusal.
pub data Next : Type 0 where
  end : Next
  next_word : Word → ℕ → List ℕ → Next
  next_refused : WordRefusal → ℕ → Next

-- The longest word at place p, where the bytes bs stand.
abbrev pub word_at : ℕ → List ℕ → Found → Next
word_at p bs nothing = next_refused NoWord p
word_at p bs (found t n) =
    cond (short t n)
    (next_word (record { token = t; place = p }) (p + passed n bs) (drop (passed n bs) bs))
    (next_refused WordTooLong p)

-- The next word from place p on, where the bytes stand.
abbrev pub next_of : ℕ → List ℕ → Next
next_of p [] = end
next_of p (b ∷ bs) = cond (blank b) (next_of (suc p) bs) (word_at p (b ∷ bs) (longest_at (b ∷ bs)))

-- The words of a text, or a refusal.
pub data Words : Type 0 where
  words : List Word → Words
  refused : WordRefusal → ℕ → Words

abbrev pub more : Word → Words → Words
more w (words ws) = words (w ∷ ws)
more w (refused r p) = refused r p

-- One word more may come, and `rest` gives those after it; or none may.
abbrev pub one_more : Next → (ℕ → List ℕ → Words) → Words
one_more end rest = words []
one_more (next_word w p bs) rest = more w (rest p bs)
one_more (next_refused r p) rest = refused r p

abbrev pub no_more : Next → Words
no_more end = words []
no_more (next_word w p bs) = refused TooManyWords w.place
no_more (next_refused r p) = refused r p

-- The words from place p on, where the bytes bs stand, if there are at most so many.
abbrev pub words_from : ℕ → ℕ → List ℕ → Words
words_from zero p bs = no_more (next_of p bs)
words_from (suc left) p bs = one_more (next_of p bs) (λ q rest. words_from left q rest)

-- The words of a whole text of at most 8,192 bytes, if there are at most so many.
unfoldable pub words_within : ℕ → List ℕ → Words
words_within most text = cond (nat_lt 8192 (length text)) (refused TextTooLong 8192) (words_from most 0 text)

-- The words of a text, at most 500.
abbrev pub words_of : List ℕ → Words
words_of text = words_within 500 text
