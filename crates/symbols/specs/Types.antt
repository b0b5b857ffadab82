-- The types of expressions, and the rule that each part has the type that is wanted where it stands. A part is
-- arithmetic or a truth value; the numbers 0 and 1 are both. What offends is listed by the place of its first byte.
use Rattle.std.specs.Prelude.{ℕ, Bool, true, false, cond, List, [], ◌∷◌, ◌++◌, nat_lt}
use Rattle.grammar.specs.declared.operator.Operator.{Operator}
use Rattle.grammar.specs.declared.operator.Operator.TheVariants.{Equivalence, Disjunction, Conjunction, Additive, Multiplicative}
use Rattle.grammar.specs.declared.operator.Prefix.{Prefix}
use Rattle.grammar.specs.declared.operator.Prefix.TheVariants.{Negation, Signed}
use Rattle.grammar.specs.Tree.{Name, Exp, literal, simple, subscripted, prefixed, joined, bracketed, compared, first_byte, Variable, whole, indexed, value_of, Element, single, progression, Statement, labelled, conditional, repeated, assigned, go, switched, input, printed, stop, sequence, Item, comment, integer, boolean, array, switch, action, Program}
use Rattle.symbols.specs.declared.value_type.ValueType.{ValueType}
use Rattle.symbols.specs.declared.value_type.ValueType.TheVariants.{Untyped, Integer, Boolean}
use Rattle.symbols.specs.Occurrences.{each}
use Rattle.symbols.specs.Symbols.{Symbol, type_in}

-- The two types of parts.
pub data PartType : Type 0 where
  arithmetic truth_value : PartType

-- A place where an offence is told, if there is one.
abbrev pub told : Bool → ℕ → List ℕ
told offends p = cond offends (p ∷ []) []

-- A part of one type where the other is wanted.
abbrev pub differs : PartType → PartType → Bool
differs arithmetic arithmetic = false
differs arithmetic truth_value = true
differs truth_value arithmetic = true
differs truth_value truth_value = false

-- Every number is arithmetic, and only 0 and 1 are truth values.
abbrev pub number_differs : PartType → ℕ → Bool
number_differs arithmetic n = false
number_differs truth_value n = nat_lt 1 n

-- A variable is a truth value if it is declared Boolean.
abbrev pub part_type : ValueType → PartType
part_type Untyped = arithmetic
part_type Integer = arithmetic
part_type Boolean = truth_value

abbrev pub name_type : List Symbol → Name → PartType
name_type ss x = part_type (type_in ss x.letters)

-- eqv, or, and, not make a truth value of truth values; signs, `*` and `/` make a number of numbers.
abbrev pub operator_type : Operator → PartType
operator_type Equivalence = truth_value
operator_type Disjunction = truth_value
operator_type Conjunction = truth_value
operator_type (Additive s) = arithmetic
operator_type (Multiplicative s) = arithmetic

abbrev pub prefix_type : Prefix → PartType
prefix_type Negation = truth_value
prefix_type (Signed s) = arithmetic

-- What offends in an expression where a type is wanted. Subscripts and the sides of a comparison are arithmetic, a
-- comparison is a truth value, and brackets without one pass the want inward.
abbrev pub exp_offences : List Symbol → PartType → Exp → List ℕ
exp_offences ss w (literal n p) = told (number_differs w n) p
exp_offences ss w (simple x) = told (differs w (name_type ss x)) x.place
exp_offences ss w (subscripted x i) = told (differs w (name_type ss x)) x.place ++ exp_offences ss arithmetic i
exp_offences ss w (prefixed o p a) = told (differs w (prefix_type o)) p ++ exp_offences ss (prefix_type o) a
exp_offences ss w (joined o a b) =
    told (differs w (operator_type o)) (first_byte a) ++ (exp_offences ss (operator_type o) a ++ exp_offences ss (operator_type o) b)
exp_offences ss w (bracketed p a) = exp_offences ss w a
exp_offences ss w (compared r p a b) =
    told (differs w truth_value) p ++ (exp_offences ss arithmetic a ++ exp_offences ss arithmetic b)

-- Left of `:=` either type may stand, and the right side must have it.
abbrev pub variable_type : List Symbol → Variable → PartType
variable_type ss (whole x) = name_type ss x
variable_type ss (indexed x i) = name_type ss x

abbrev pub element_offences : List Symbol → Element → List ℕ
element_offences ss (single a) = exp_offences ss arithmetic a
element_offences ss (progression a b c) =
    exp_offences ss arithmetic a ++ (exp_offences ss arithmetic b ++ exp_offences ss arithmetic c)

-- A truth value is wanted after if. All else is arithmetic: a for's variable and list, what in stores to, what print
-- posts, a go to's subscript.
abbrev pub statement_offences : List Symbol → Statement → List ℕ
statement_offences ss (labelled x s) = statement_offences ss s
statement_offences ss (conditional p a s) = exp_offences ss truth_value a ++ statement_offences ss s
statement_offences ss (repeated p x es s) =
    exp_offences ss arithmetic (simple x) ++ (each (element_offences ss) es ++ statement_offences ss s)
statement_offences ss (assigned v a) =
    exp_offences ss (variable_type ss v) (value_of v) ++ exp_offences ss (variable_type ss v) a
statement_offences ss (go p x) = []
statement_offences ss (switched p x i) = exp_offences ss arithmetic i
statement_offences ss (input p v) = exp_offences ss arithmetic (value_of v)
statement_offences ss (printed p xs) = each (exp_offences ss arithmetic) xs
statement_offences ss (stop p) = []
statement_offences ss (sequence s t) = statement_offences ss s ++ statement_offences ss t

abbrev pub item_offences : List Symbol → Item → List ℕ
item_offences ss comment = []
item_offences ss (integer xs) = []
item_offences ss (boolean xs) = []
item_offences ss (array gs) = []
item_offences ss (switch x xs) = []
item_offences ss (action s) = statement_offences ss s

-- Rule 9: the parts that are not of the wanted type.
abbrev pub wrong_types : List Symbol → Program → List ℕ
wrong_types ss t = each (item_offences ss) t
