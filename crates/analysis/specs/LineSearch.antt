-- The number of the first of some names that has the letters sought.
use Rattle.std.specs.Prelude.{ℕ, ◌+◌, cond, List, [], ◌∷◌, Some, None, Option}
use Rattle.std.specs.Str.{bytes_eq}
use Rattle.parser.specs.declared.table.Record.{Record}
use Rattle.analysis.specs.declared.symbol.NameRecord.{NameRecord}
use Rattle.analysis.specs.Letters.{word_letters}

abbrev pub line_from : ℕ → List ℕ → List (List ℕ) → Option ℕ
line_from k x [] = None
line_from k x (y ∷ ys) = cond (bytes_eq x y) (Some k) (line_from (k + 1) x ys)

-- The letters of a line's name.
abbrev pub line_letters : List ℕ → List Record → NameRecord → List ℕ
line_letters text rs r = word_letters text rs r.word
