-- What the records of the code stand for, in the text that they were read from.
use Rattle.std.specs.Prelude.{◌≡◌, ℕ, ◌<◌, ◌≤◌, List, length, take, drop, Option, None, Some, Result, Ok, Err}
use Rattle.words.specs.declared.token.Token.{Token as TokenRecord}
use Rattle.words.specs.declared.token.Token.TheVariants.{Name, Number, Keyword, Mark, Sign, Scaling, Relation}
use Rattle.words.specs.declared.word.Word.{Word as WordRecord}
use Rattle.words.specs.declared.refusal.Refusal.{Refusal}
use Rattle.words.specs.Token.{Token, Word, name, number, keyword, mark, sign, scaling, relation}
use Rattle.words.specs.Words.{Next, end, next_word, next_refused, next_of}

-- A token, where the bytes stand that it was read from.
abbrev pub token_in : List ℕ → TokenRecord → Token
token_in bs (Name n) = name (take n bs)
token_in bs (Number v) = number v
token_in bs (Keyword k) = keyword k
token_in bs (Mark m) = mark m
token_in bs (Sign s) = sign s
token_in bs (Scaling s) = scaling s
token_in bs (Relation r) = relation r

-- A word, in the text that it was read from.
abbrev pub word_in : List ℕ → WordRecord → Word
word_in text w = record { token = token_in (drop w.place text) w.token; place = w.place }

-- The next word and the place to go on from, nothing at the end of the text, or a refusal.
abbrev pub next_in : List ℕ → Result (Option (WordRecord × ℕ)) Refusal → Next
next_in text (Ok None) = end
next_in text (Ok (Some r)) = next_word (word_in text r.0) r.1 (drop r.1 text)
next_in text (Err e) = next_refused e.reason e.place

-- The place to go on from lies after `at` and within the text.
abbrev pub Advances : ℕ → ℕ → Result (Option (WordRecord × ℕ)) Refusal → Type 0
Advances at size (Ok None) = Unit {0}
Advances at size (Ok (Some r)) = (at < r.1) × (r.1 ≤ size)
Advances at size (Err e) = Unit {0}

-- What comes from the place `at` on, when words are taken one by one, and the place q that is reached. After a refusal
-- that is the end.
abbrev pub Gives : List ℕ → ℕ → Option (Result WordRecord Refusal) → ℕ → Type 0
Gives text at None q = (end ≡ next_of at (drop at text)) × (q ≡ at)
Gives text at (Some (Ok w)) q = (next_word (word_in text w) q (drop q text) ≡ next_of at (drop at text)) × (at < q) × (q ≤ length text)
Gives text at (Some (Err e)) q = (next_refused e.reason e.place ≡ next_of at (drop at text)) × (q ≡ length text)
