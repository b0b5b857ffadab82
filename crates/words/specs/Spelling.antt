-- The bytes that words are written with: the two tables of fixed words, the classes of bytes, the value of digits.
-- A letter is A to Z or a to z and case counts; a digit is 0 to 9.
use Rattle.std.specs.Prelude.{◌≡◌, ℕ, ◌+◌, ◌-◌, ◌*◌, Bool, true, false, cond, not, List, [], ◌∷◌, ◌++◌, codes, ◌==◌}
use Prim.Native.String.{String}
use Rattle.std.specs.List.{AllByRecursion}
use Rattle.words.specs.Token.{Token, keyword, mark, sign, scaling, relation}
use Rattle.words.specs.declared.token.Sign.TheVariants.{Plus, Minus}
use Rattle.words.specs.declared.token.Scaling.TheVariants.{Times, Over}
use Rattle.words.specs.declared.token.Relation.TheVariants.{Less, AtMost, Equal, Unequal, AtLeast, More}
use Rattle.words.specs.declared.token.Mark.TheVariants.{Semicolon, Colon, Becomes, Into, Comma, OpenRound, CloseRound, OpenSquare, CloseSquare}
use Rattle.words.specs.declared.token.Keyword.TheVariants.{Begin, End, If, For, Go, To, Switch, Integer, Boolean, Array, Comment, In, Print, Stop, And, Or, Not, Eqv}

-- A fixed word: its bytes and its token.
pub record Fixed : Type 0 where
  pub bytes : List ℕ
  pub token : Token

abbrev pub fixed : String → Token → Fixed
fixed s t = record { bytes = codes s; token = t }

-- The reserved words: those of statements, of declarations and comments, and of conditions.
abbrev pub statement_words : List Fixed
statement_words =
    fixed "begin" (keyword Begin) ∷ fixed "end" (keyword End) ∷ fixed "if" (keyword If) ∷ fixed "for" (keyword For)
    ∷ fixed "go" (keyword Go) ∷ fixed "to" (keyword To) ∷ fixed "in" (keyword In) ∷ fixed "print" (keyword Print)
    ∷ fixed "stop" (keyword Stop) ∷ []

abbrev pub declaration_words : List Fixed
declaration_words =
    fixed "switch" (keyword Switch) ∷ fixed "integer" (keyword Integer) ∷ fixed "boolean" (keyword Boolean)
    ∷ fixed "array" (keyword Array) ∷ fixed "comment" (keyword Comment) ∷ []

abbrev pub condition_words : List Fixed
condition_words =
    fixed "and" (keyword And) ∷ fixed "or" (keyword Or) ∷ fixed "not" (keyword Not) ∷ fixed "eqv" (keyword Eqv) ∷ []

abbrev pub reserved_words : List Fixed
reserved_words = statement_words ++ (declaration_words ++ condition_words)

-- The marks of two bytes, and those of one.
abbrev pub two_byte_marks : List Fixed
two_byte_marks =
    fixed ":=" (mark Becomes) ∷ fixed "=:" (mark Into) ∷ fixed "/=" (relation Unequal) ∷ fixed "<=" (relation AtMost)
    ∷ fixed ">=" (relation AtLeast) ∷ []

abbrev pub one_byte_marks : List Fixed
one_byte_marks =
    fixed ";" (mark Semicolon) ∷ fixed ":" (mark Colon) ∷ fixed "," (mark Comma)
    ∷ fixed "(" (mark OpenRound) ∷ fixed ")" (mark CloseRound) ∷ fixed "[" (mark OpenSquare) ∷ fixed "]" (mark CloseSquare)
    ∷ fixed "+" (sign Plus) ∷ fixed "-" (sign Minus) ∷ fixed "*" (scaling Times) ∷ fixed "/" (scaling Over)
    ∷ fixed "=" (relation Equal) ∷ fixed "<" (relation Less) ∷ fixed ">" (relation More) ∷ []

abbrev pub marks : List Fixed
marks = two_byte_marks ++ one_byte_marks

-- Blanks and line ends part words.
abbrev pub blank : ℕ → Bool
blank b = cond (b == 32) true (b == 10)

-- A comment goes on up to the next semicolon.
abbrev pub not_semicolon : ℕ → Bool
not_semicolon b = not (b == 59)

-- The bytes are all of a class.
abbrev pub MadeOf : (ℕ → Bool) → List ℕ → Type 0
MadeOf p s = AllByRecursion (λ b. p b ≡ true) s

-- Do the first bytes begin the second?
abbrev pub begins : List ℕ → List ℕ → Bool
begins [] bs = true
begins (x ∷ xs) [] = false
begins (x ∷ xs) (b ∷ bs) = cond (b == x) (begins xs bs) false

-- The number that digits write, the first the highest, after the digits that made n.
abbrev pub value_after : ℕ → List ℕ → ℕ
value_after n [] = n
value_after n (d ∷ ds) = value_after (n * 10 + (d - 48)) ds

abbrev pub value_of : List ℕ → ℕ
value_of ds = value_after 0 ds
