-- Classes of words: which words a rule of the grammar can have at a place, and what it learns from the word; how tightly
-- each operator binds; which words open a level and which close one.
use Rattle.std.specs.Prelude.{ℕ, zero, suc, Bool, true, false, cond, List, [], ◌∷◌, Some, None, Option, ◌==◌, nat_le}
use Rattle.words.specs.declared.token.Sign.{Sign}
use Rattle.words.specs.declared.token.Relation.{Relation}
use Rattle.words.specs.declared.token.Mark.{Mark}
use Rattle.words.specs.declared.token.Mark.TheVariants.{Semicolon, Colon, Becomes, Into, Comma, OpenRound, CloseRound, OpenSquare, CloseSquare}
use Rattle.words.specs.declared.token.Keyword.{Keyword}
use Rattle.words.specs.declared.token.Keyword.TheVariants.{Begin, End, If, For, Go, To, Switch, Integer, Boolean, Array, Comment, In, Print, Stop, And, Or, Not, Eqv}
use Rattle.words.specs.Token.{Token, Word, name, number, keyword, mark, sign, scaling, relation}
use Rattle.grammar.specs.declared.operator.Operator.{Operator}
use Rattle.grammar.specs.declared.operator.Operator.TheVariants.{Equivalence, Disjunction, Conjunction, Additive, Multiplicative}
use Rattle.grammar.specs.declared.operator.Prefix.{Prefix}
use Rattle.grammar.specs.declared.operator.Prefix.TheVariants.{Negation, Signed}

-- Marks and reserved words are told apart by their numbers.
abbrev pub mark_number : Mark → ℕ
mark_number Semicolon = 0
mark_number Colon = 1
mark_number Becomes = 2
mark_number Into = 3
mark_number Comma = 4
mark_number OpenRound = 5
mark_number CloseRound = 6
mark_number OpenSquare = 7
mark_number CloseSquare = 8

abbrev pub keyword_number : Keyword → ℕ
keyword_number Begin = 0
keyword_number End = 1
keyword_number If = 2
keyword_number For = 3
keyword_number Go = 4
keyword_number To = 5
keyword_number Switch = 6
keyword_number Integer = 7
keyword_number Boolean = 8
keyword_number Array = 9
keyword_number Comment = 10
keyword_number In = 11
keyword_number Print = 12
keyword_number Stop = 13
keyword_number And = 14
keyword_number Or = 15
keyword_number Not = 16
keyword_number Eqv = 17

abbrev pub is_mark : Mark → Mark → Bool
is_mark m n = mark_number n == mark_number m

abbrev pub is_keyword : Keyword → Keyword → Bool
is_keyword k j = keyword_number j == keyword_number k

-- Operators between operands, by rank: those of a higher rank bind more tightly, those of one rank from the left.
abbrev pub rank : Operator → ℕ
rank Equivalence = 1
rank Disjunction = 2
rank Conjunction = 3
rank (Additive s) = 5
rank (Multiplicative s) = 6

-- Operators before an operand: `not` stands before a sum or another `not`, a sign before a sum's first term.
abbrev pub prefix_rank : Prefix → ℕ
prefix_rank Negation = 4
prefix_rank (Signed s) = 5

-- The rank of the operand behind it.
abbrev pub operand_rank : Prefix → ℕ
operand_rank Negation = 4
operand_rank (Signed s) = 6

-- The word that writes an operator.
abbrev pub operator_token : Operator → Token
operator_token Equivalence = keyword Eqv
operator_token Disjunction = keyword Or
operator_token Conjunction = keyword And
operator_token (Additive s) = sign s
operator_token (Multiplicative s) = scaling s

abbrev pub prefix_token : Prefix → Token
prefix_token Negation = keyword Not
prefix_token (Signed s) = sign s

-- A class of words: this mark, this reserved word, any name, any number, any sign, any relation, an operator before an
-- operand of rank r at least, an operator between operands of rank r to q.
pub data Class : Type 0 where
  the_mark : Mark → Class
  the_keyword : Keyword → Class
  a_name a_number a_sign a_relation : Class
  a_prefix : ℕ → Class
  an_operator : ℕ → ℕ → Class

-- What a rule learns from a word of the class.
abbrev pub Content : Class → Type 0
Content (the_mark m) = Unit {0}
Content (the_keyword k) = Unit {0}
Content a_name = List ℕ
Content a_number = ℕ
Content a_sign = Sign
Content a_relation = Relation
Content (a_prefix r) = Prefix
Content (an_operator r q) = Operator

abbrev pub when : {A : Type 0} → Bool → A → Option A
when b x = cond b (Some x) None

abbrev pub name_of : Token → Option (List ℕ)
name_of (name n) = Some n
name_of (number n) = None
name_of (keyword k) = None
name_of (mark m) = None
name_of (sign s) = None
name_of (scaling s) = None
name_of (relation r) = None

abbrev pub number_of : Token → Option ℕ
number_of (name n) = None
number_of (number n) = Some n
number_of (keyword k) = None
number_of (mark m) = None
number_of (sign s) = None
number_of (scaling s) = None
number_of (relation r) = None

abbrev pub sign_of : Token → Option Sign
sign_of (name n) = None
sign_of (number n) = None
sign_of (keyword k) = None
sign_of (mark m) = None
sign_of (sign s) = Some s
sign_of (scaling s) = None
sign_of (relation r) = None

abbrev pub relation_of : Token → Option Relation
relation_of (name n) = None
relation_of (number n) = None
relation_of (keyword k) = None
relation_of (mark m) = None
relation_of (sign s) = None
relation_of (scaling s) = None
relation_of (relation r) = Some r

abbrev pub mark_of : Mark → Token → Option (Unit {0})
mark_of m (name n) = None
mark_of m (number n) = None
mark_of m (keyword k) = None
mark_of m (mark n) = when (is_mark m n) tt
mark_of m (sign s) = None
mark_of m (scaling s) = None
mark_of m (relation r) = None

abbrev pub keyword_of : Keyword → Token → Option (Unit {0})
keyword_of k (name n) = None
keyword_of k (number n) = None
keyword_of k (keyword j) = when (is_keyword k j) tt
keyword_of k (mark m) = None
keyword_of k (sign s) = None
keyword_of k (scaling s) = None
keyword_of k (relation r) = None

abbrev pub prefix_of : Token → Option Prefix
prefix_of (name n) = None
prefix_of (number n) = None
prefix_of (keyword k) = when (is_keyword Not k) Negation
prefix_of (mark m) = None
prefix_of (sign s) = Some (Signed s)
prefix_of (scaling s) = None
prefix_of (relation r) = None

abbrev pub operator_of : Token → Option Operator
operator_of (name n) = None
operator_of (number n) = None
operator_of (keyword k) = cond (is_keyword Eqv k) (Some Equivalence) (cond (is_keyword Or k) (Some Disjunction) (when (is_keyword And k) Conjunction))
operator_of (mark m) = None
operator_of (sign s) = Some (Additive s)
operator_of (scaling s) = Some (Multiplicative s)
operator_of (relation r) = None

abbrev pub from_rank : ℕ → Option Prefix → Option Prefix
from_rank r None = None
from_rank r (Some o) = when (nat_le r (prefix_rank o)) o

abbrev pub between_ranks : ℕ → ℕ → Option Operator → Option Operator
between_ranks r q None = None
between_ranks r q (Some o) = cond (nat_le r (rank o)) (when (nat_le (rank o) q) o) None

-- What a class has of a word: nothing where the word is not of the class.
abbrev pub found : (c : Class) → Token → Option (Content c)
found (the_mark m) t = mark_of m t
found (the_keyword k) t = keyword_of k t
found a_name t = name_of t
found a_number t = number_of t
found a_sign t = sign_of t
found a_relation t = relation_of t
found (a_prefix r) t = from_rank r (prefix_of t)
found (an_operator r q) t = between_ranks r q (operator_of t)

-- What a class has of the next word.
abbrev pub heads : (c : Class) → List Word → Option (Content c)
heads c [] = None
heads c (w ∷ ws) = found c w.token

-- `(`, `[`, if, for and begin open a level; `)`, `]` and end close theirs; that of an if or a for closes with its statement.
abbrev pub mark_opens : Mark → Bool
mark_opens Semicolon = false
mark_opens Colon = false
mark_opens Becomes = false
mark_opens Into = false
mark_opens Comma = false
mark_opens OpenRound = true
mark_opens CloseRound = false
mark_opens OpenSquare = true
mark_opens CloseSquare = false

abbrev pub keyword_opens : Keyword → Bool
keyword_opens k = cond (is_keyword If k) true (cond (is_keyword For k) true (is_keyword Begin k))

abbrev pub opens : Token → Bool
opens (name n) = false
opens (number n) = false
opens (keyword k) = keyword_opens k
opens (mark m) = mark_opens m
opens (sign s) = false
opens (scaling s) = false
opens (relation r) = false

abbrev pub closes : Token → Bool
closes (name n) = false
closes (number n) = false
closes (keyword k) = is_keyword End k
closes (mark m) = cond (is_mark CloseRound m) true (is_mark CloseSquare m)
closes (sign s) = false
closes (scaling s) = false
closes (relation r) = false

abbrev pub less : ℕ → ℕ
less zero = zero
less (suc n) = n

-- The open levels behind a word.
abbrev pub levels_after : Token → ℕ → ℕ
levels_after t d = cond (opens t) (suc d) (cond (closes t) (less d) d)
