-- The letters of a word of a text.
use Rattle.std.specs.Prelude.{ℕ, List, [], map, slice_index_or}
use Rattle.words.specs.declared.word.Word.{Word as WordRecord}
use Rattle.words.specs.Token.{Token, name, number, keyword, mark, sign, scaling, relation}
use Rattle.words.specs.Records.{word_in}
use Rattle.parser.specs.declared.table.Record.{Record}
use Rattle.parser.specs.Records.{words}

abbrev pub token_letters : Token → List ℕ
token_letters (name n) = n
token_letters (number n) = []
token_letters (keyword k) = []
token_letters (mark m) = []
token_letters (sign s) = []
token_letters (scaling s) = []
token_letters (relation r) = []

abbrev pub letters_in : List ℕ → WordRecord → List ℕ
letters_in text w = token_letters (word_in text w).token

-- The letters of the word of this number; past the table there are none.
abbrev pub word_letters : List ℕ → List Record → ℕ → List ℕ
word_letters text rs w = slice_index_or (map (letters_in text) (words rs)) w []
