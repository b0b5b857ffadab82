-- What the contracts of the crate's inner functions say: fixed words looked up, and a word at the front of some bytes.
-- No public contract cites these.
use Rattle.std.specs.Prelude.{◌≡◌, ℕ, ◌+◌, ◌<◌, ◌≤◌, List, [], length, drop, Some, None, Option, Ok, Err, Result}
use Rattle.words.specs.declared.token.Token.{Token as TokenRecord}
use Rattle.words.specs.declared.token.Token.TheVariants.{Name, Number, Keyword, Mark, Sign, Scaling, Relation}
use Rattle.words.specs.declared.token.Keyword.{Keyword as KeywordRecord}
use Rattle.words.specs.declared.refusal.WordRefusal.{WordRefusal}
use Rattle.words.specs.Token.{Token, keyword}
use Rattle.words.specs.Words.{Found, found, Next, next_word, next_refused, word_at}
use Rattle.words.specs.Records.{token_in}

-- A reserved word or mark that was looked up, else what is given.
abbrev pub keyword_or : Option KeywordRecord → Token → Token
keyword_or (Some k) t = keyword k
keyword_or None t = t

abbrev pub mark_or : Option TokenRecord → ℕ → Found → Found
mark_or (Some m) n o = found (token_in [] m) n
mark_or None n o = o

-- A looked-up token is a mark of some kind.
abbrev pub IsMark : TokenRecord → Type 0
IsMark (Name n) = ⊥
IsMark (Number v) = ⊥
IsMark (Keyword k) = ⊥
IsMark (Mark m) = Unit {0}
IsMark (Sign s) = Unit {0}
IsMark (Scaling s) = Unit {0}
IsMark (Relation r) = Unit {0}

-- The word at the front of the bytes bs, which stand at place p: its token and how many bytes it takes with what it
-- skips, or why it is refused.
abbrev pub taken_at : ℕ → List ℕ → Result (TokenRecord × ℕ) WordRefusal → Next
taken_at p bs (Ok r) = next_word (record { token = token_in bs r.0; place = p }) (p + r.1) (drop r.1 bs)
taken_at p bs (Err e) = next_refused e p

-- It takes at least one byte, and no more than there are.
abbrev pub TakesSome : ℕ → Result (TokenRecord × ℕ) WordRefusal → Type 0
TakesSome size (Ok r) = (0 < r.1) × (r.1 ≤ size)
TakesSome size (Err e) = Unit {0}

-- The result is the word that the definition finds at the front of the bytes bs, wherever they stand, and takes some.
abbrev pub IsTaken : Found → List ℕ → Result (TokenRecord × ℕ) WordRefusal → Type 0
IsTaken word bs result = ((p : ℕ) → taken_at p bs result ≡ word_at p bs word) × TakesSome (length bs) result
