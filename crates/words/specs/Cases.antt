-- Worked texts: what the definition gives for them, shown by computing it.
use Rattle.std.specs.Prelude.{◌≡◌, ℕ, List, [], ◌∷◌, codes}
use Prim.Native.String.{String}
use Rattle.words.specs.Token.{Token, Word, name, number, keyword, mark, relation}
use Rattle.words.specs.Words.{words, refused, words_of}
use Rattle.words.specs.Refusal as refusal
use Rattle.words.specs.declared.refusal.WordRefusal.{WordRefusal}
use Rattle.words.specs.declared.token.Relation.TheVariants.{AtMost, Unequal}
use Rattle.words.specs.declared.token.Mark.TheVariants.{Semicolon, Becomes, Into, OpenRound, CloseRound}
use Rattle.words.specs.declared.token.Keyword.TheVariants.{Begin, Comment, In}

-- A token at a place; a name by its letters.
abbrev at : ℕ → Token → Word
at p t = record { token = t; place = p }

abbrev named : String → Token
named s = name (codes s)

-- A text has these words; a text is refused with this number at this place.
abbrev Has : String → List Word → Type 0
Has text ws = words_of (codes text) ≡ words ws

abbrev Refused : String → ℕ → ℕ → Type 0
Refused text n p = (r : WordRefusal) × (words_of (codes text) ≡ refused r p) × (refusal.number r ≡ n)

pub record WorkedTexts : Type 0 where
  pub nothing_at_all : Has "" []
  pub blanks_only : Has "   " []
  pub no_word : Refused "x := 1 # 2" 2 7
  pub long_number : Refused "x := 1234567890" 3 5
  pub nine_digits : Has "000000012" (at 0 (number 12) ∷ [])
  pub ten_digits : Refused "0000000012" 3 0
  pub sixteen_bytes : Has "abcdefghijklmno1" (at 0 (named "abcdefghijklmno1") ∷ [])
  pub seventeen_bytes : Refused "abcdefghijklmno12" 3 0
  pub number_then_name : Has "12ab" (at 0 (number 12) ∷ at 2 (named "ab") ∷ [])
  pub case_counts : Has "Begin begin begins" (at 0 (named "Begin") ∷ at 6 (keyword Begin) ∷ at 12 (named "begins") ∷ [])
  pub longest_mark : Has "a<=b" (at 0 (named "a") ∷ at 1 (relation AtMost) ∷ at 3 (named "b") ∷ [])
  pub marks_in_a_row : Has "x:==:y/=/=" (at 0 (named "x") ∷ at 1 (mark Becomes) ∷ at 3 (mark Into) ∷ at 5 (named "y") ∷ at 6 (relation Unequal) ∷ at 8 (relation Unequal) ∷ [])
  pub input : Has "in=:(n)" (at 0 (keyword In) ∷ at 2 (mark Into) ∷ at 4 (mark OpenRound) ∷ at 5 (named "n") ∷ at 6 (mark CloseRound) ∷ [])
  pub comment_to_semicolon : Has "comment # all; x" (at 0 (keyword Comment) ∷ at 13 (mark Semicolon) ∷ at 15 (named "x") ∷ [])
  pub comment_to_end : Has "x comment 1234567890" (at 0 (named "x") ∷ at 2 (keyword Comment) ∷ [])
  pub no_comment : Has "comments" (at 0 (named "comments") ∷ [])
  pub line_ends : words_of (97 ∷ 10 ∷ 32 ∷ 98 ∷ 10 ∷ []) ≡ words (at 0 (named "a") ∷ at 3 (named "b") ∷ [])
  pub tab : Refused "a\tb" 2 1
