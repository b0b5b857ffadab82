-- The letters of the name that a word of a text is.
use Rattle.std.specs.Prelude.{ℕ, List}
use Rattle.std.specs.Char.{encode_utf8}
use Rattle.std.specs.List.{flat_map}
use Rattle.parser.specs.declared.table.Record.{Record}
use Rattle.analysis.specs.Letters.{word_letters}

-- They are the letters of the word, as the crate analysis finds them. A word past the table has none.
abbrev pub name_letters : List ℕ → List Record → ℕ → List ℕ
name_letters text rs w = word_letters text rs w

-- Letters as text: each byte is the character of its code. A name's letters are ASCII, so the text has just their bytes.
abbrev pub letters_shown : List ℕ → List ℕ
letters_shown x = flat_map encode_utf8 x

-- The text of the name that a word is.
abbrev pub name_shown : List ℕ → List Record → ℕ → List ℕ
name_shown text rs w = letters_shown (name_letters text rs w)
