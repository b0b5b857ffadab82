-- Readings of a few texts, worked out by the definitions.
use Rattle.std.specs.Prelude.{◌≡◌, ℕ, suc, List, [], ◌∷◌}
use Rattle.words.specs.declared.token.Sign.TheVariants.{Plus, Minus}
use Rattle.words.specs.declared.token.Scaling.TheVariants.{Times}
use Rattle.words.specs.declared.token.Mark.TheVariants.{Semicolon, Becomes, Comma, OpenRound, CloseRound, OpenSquare, CloseSquare}
use Rattle.words.specs.declared.token.Keyword.TheVariants.{Begin, End, For, Stop}
use Rattle.words.specs.Token.{Token, Word, name, number, keyword, mark, sign, scaling}
use Rattle.grammar.specs.declared.refusal.SentenceRefusal.TheVariants.{Unexpected, TooDeep}
use Rattle.grammar.specs.declared.operator.Operator.TheVariants.{Additive, Multiplicative}
use Rattle.grammar.specs.declared.operator.Prefix.TheVariants.{Signed}
use Rattle.grammar.specs.Tree.{one, more, literal, prefixed, joined, bracketed, whole, indexed, single, progression, repeated, assigned, stop, sequence, action}
use Rattle.grammar.specs.Parser.{tree, refused, parsed, named}

-- Words one byte apart.
abbrev placed : ℕ → List Token → List Word
placed p [] = []
placed p (t ∷ ts) = record { token = t; place = p } ∷ placed (suc p) ts

abbrev x : Token
x = name (120 ∷ [])

-- x := -1 + 2 * 3; stop: a leading sign bears on the first term, `*` binds before `+`.
abbrev pub Ranks : Type 0
Ranks = parsed 32 99 (placed 0 (x ∷ mark Becomes ∷ sign Minus ∷ number 1 ∷ sign Plus ∷ number 2 ∷ scaling Times ∷ number 3 ∷ mark Semicolon ∷ keyword Stop ∷ []))
    ≡ tree (more (one (action (assigned (whole (named (120 ∷ []) 0)) (joined (Additive Plus) (prefixed (Signed Minus) 2 (literal 1 3)) (joined (Multiplicative Times) (literal 2 5) (literal 3 7)))))) (action (stop 9)))

-- for x := 1 (2) 3, 4; begin stop; x[1] := 2 end
abbrev pub Repetition : Type 0
Repetition = parsed 32 99 (placed 0 (keyword For ∷ x ∷ mark Becomes ∷ number 1 ∷ mark OpenRound ∷ number 2 ∷ mark CloseRound ∷ number 3 ∷ mark Comma ∷ number 4 ∷ mark Semicolon
    ∷ keyword Begin ∷ keyword Stop ∷ mark Semicolon ∷ x ∷ mark OpenSquare ∷ number 1 ∷ mark CloseSquare ∷ mark Becomes ∷ number 2 ∷ keyword End ∷ []))
    ≡ tree (one (action (repeated 0 (named (120 ∷ []) 1) (more (one (progression (literal 1 3) (literal 2 5) (literal 3 7))) (single (literal 4 9)))
    (sequence (stop 12) (assigned (indexed (named (120 ∷ []) 14) (literal 1 16)) (literal 2 19))))))

-- x := 1 + ends early.
abbrev pub EarlyEnd : Type 0
EarlyEnd = parsed 32 8 (placed 0 (x ∷ mark Becomes ∷ number 1 ∷ sign Plus ∷ [])) ≡ refused Unexpected 8

-- x := 1 + * 2: the `*` cannot stand there.
abbrev pub ImpossibleWord : Type 0
ImpossibleWord = parsed 32 8 (placed 0 (x ∷ mark Becomes ∷ number 1 ∷ sign Plus ∷ scaling Times ∷ number 2 ∷ [])) ≡ refused Unexpected 4

-- x := ((1)) within one level.
abbrev pub IsTooDeep : Type 0
IsTooDeep = parsed 1 99 (placed 0 (x ∷ mark Becomes ∷ mark OpenRound ∷ mark OpenRound ∷ number 1 ∷ mark CloseRound ∷ mark CloseRound ∷ [])) ≡ refused TooDeep 3

-- `)` closes its level: x := (1) + (2) within one.
abbrev pub ClosedLevels : Type 0
ClosedLevels = parsed 1 99 (placed 0 (x ∷ mark Becomes ∷ mark OpenRound ∷ number 1 ∷ mark CloseRound ∷ sign Plus ∷ mark OpenRound ∷ number 2 ∷ mark CloseRound ∷ []))
    ≡ tree (one (action (assigned (whole (named (120 ∷ []) 0)) (joined (Additive Plus) (bracketed 2 (literal 1 3)) (bracketed 6 (literal 2 7))))))
