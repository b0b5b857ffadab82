-- The code of a tree, in the order of the text. Every function puts its code in front of the code r that follows, so that
-- the code of a part is at hand with what stands behind it. Sizes come first: they give each part its place, and with it
-- every jump its target. Nobody has to believe this file, since what the code does is proved.
use Rattle.std.specs.Prelude.{ℕ, suc, ◌+◌, max, cond, List, [], ◌∷◌, length, pos, ◌+ℤ◌}
use Rattle.std.specs.Str.{bytes_eq}
use Rattle.words.specs.declared.token.Sign.TheVariants.{Plus, Minus}
use Rattle.words.specs.declared.token.Scaling.TheVariants.{Times, Over}
use Rattle.words.specs.declared.token.Relation.{Relation}
use Rattle.words.specs.declared.token.Relation.TheVariants as relation
use Rattle.grammar.specs.declared.operator.Operator.{Operator}
use Rattle.grammar.specs.declared.operator.Operator.TheVariants.{Equivalence, Disjunction, Conjunction, Additive, Multiplicative}
use Rattle.grammar.specs.declared.operator.Prefix.{Prefix}
use Rattle.grammar.specs.declared.operator.Prefix.TheVariants.{Negation, Signed}
use Rattle.grammar.specs.Tree.{Row, Name, Exp, literal, simple, subscripted, prefixed, joined, bracketed, compared, Variable, whole, indexed, Element, single, progression, Statement, labelled, conditional, repeated, assigned, go, switched, input, printed, stop, sequence}
use Rattle.symbols.specs.declared.value_type.ValueType.{ValueType}
use Rattle.symbols.specs.declared.value_type.ValueType.TheVariants.{Untyped, Integer, Boolean}
use Rattle.symbols.specs.Symbols.{at_least_zero}
use Rattle.meaning.specs.Names.{Extent, Names}
use Rattle.meaning.specs.Positions.{first, later}
use Rattle.meaning.specs.Machine.{variable_place, variable_name}
use Rattle.code.specs.declared.operations.Operation.{Operation}
use Rattle.code.specs.declared.operations.Operation.TheVariants.{Mark, Const, Load, Store, Get, Put, Test, Round, Truth, Add, Sub, Mul, Div, Neg, Less, Same, More, Not, And, Or, Eqv, Jump, False, Table, Rows, Here, Take, TakeW, Post}
use Rattle.code.specs.Descriptors.{packed_number}

-- An operation with its operand.
pub record Entry : Type 0 where
  pub operation : Operation
  pub operand : ℕ

abbrev pub entry : Operation → ℕ → Entry
entry o x = record { operation = o; operand = x }

-- An operation whose operand is not used.
abbrev pub plain : Operation → Entry
plain o = entry o 0

-- The operand that names the cells of a name. A simple variable is an array of the one subscript 0.
abbrev pub descriptor : Extent → ℕ
descriptor e = packed_number (record { first = e.first; count = e.count; biased_low = at_least_zero (e.low +ℤ pos 10000) })

-- How a figure is made ready for a name of a type: rounded, made of(0) or of(1), or left.
abbrev pub ready_size : ValueType → ℕ
ready_size Untyped = 0
ready_size Integer = 1
ready_size Boolean = 1

abbrev pub ready_code : ValueType → List Entry → List Entry
ready_code Untyped r = r
ready_code Integer r = plain Round ∷ r
ready_code Boolean r = plain Truth ∷ r

-- Operators: a leading plus costs nothing; <=, >= and /= are >, < and = denied.
abbrev pub prefix_size : Prefix → ℕ
prefix_size (Signed Plus) = 0
prefix_size (Signed Minus) = 1
prefix_size Negation = 1

abbrev pub prefix_code : Prefix → List Entry → List Entry
prefix_code (Signed Plus) r = r
prefix_code (Signed Minus) r = plain Neg ∷ r
prefix_code Negation r = plain Not ∷ r

abbrev pub operator_code : Operator → Operation
operator_code (Additive Plus) = Add
operator_code (Additive Minus) = Sub
operator_code (Multiplicative Times) = Mul
operator_code (Multiplicative Over) = Div
operator_code Conjunction = And
operator_code Disjunction = Or
operator_code Equivalence = Eqv

abbrev pub relation_size : Relation → ℕ
relation_size relation.Less = 1
relation_size relation.More = 1
relation_size relation.Equal = 1
relation_size relation.AtMost = 2
relation_size relation.AtLeast = 2
relation_size relation.Unequal = 2

abbrev pub relation_code : Relation → List Entry → List Entry
relation_code relation.Less r = plain Less ∷ r
relation_code relation.More r = plain More ∷ r
relation_code relation.Equal r = plain Same ∷ r
relation_code relation.AtMost r = plain More ∷ plain Not ∷ r
relation_code relation.AtLeast r = plain Less ∷ plain Not ∷ r
relation_code relation.Unequal r = plain Same ∷ plain Not ∷ r

-- Expressions: how many operations, how many figures lie on the stack at most above those found, and the code.
abbrev pub exp_size : Exp → ℕ
exp_size (literal n p) = 1
exp_size (simple x) = 1
exp_size (subscripted x e) = exp_size e + 1
exp_size (prefixed o p e) = exp_size e + prefix_size o
exp_size (joined o a b) = exp_size a + exp_size b + 1
exp_size (bracketed p e) = exp_size e
exp_size (compared c p a b) = exp_size a + exp_size b + relation_size c

abbrev pub exp_depth : Exp → ℕ
exp_depth (literal n p) = 1
exp_depth (simple x) = 1
exp_depth (subscripted x e) = exp_depth e
exp_depth (prefixed o p e) = exp_depth e
exp_depth (joined o a b) = max (exp_depth a) (exp_depth b + 1)
exp_depth (bracketed p e) = exp_depth e
exp_depth (compared c p a b) = max (exp_depth a) (exp_depth b + 1)

-- The elements of a row.
abbrev pub all_of : {A : Type 0} → Row A → List A
all_of xs = first xs ∷ later xs

module _ (names : Names) where
  abbrev pub type_of : Name → ValueType
  type_of x = names.type x.letters

  abbrev pub cell_at : Name → ℕ
  cell_at x = (names.extent x.letters).first

  abbrev pub cells_at : Name → ℕ
  cells_at x = descriptor (names.extent x.letters)

  abbrev pub exp_code : Exp → List Entry → List Entry
  exp_code (literal n p) r = entry Const n ∷ r
  exp_code (simple x) r = entry Load (cell_at x) ∷ r
  exp_code (subscripted x e) r = exp_code e (entry Get (cells_at x) ∷ r)
  exp_code (prefixed o p e) r = exp_code e (prefix_code o r)
  exp_code (joined o a b) r = exp_code a (exp_code b (plain (operator_code o) ∷ r))
  exp_code (bracketed p e) r = exp_code e r
  exp_code (compared c p a b) r = exp_code a (exp_code b (relation_code c r))

  -- What posts one figure after another.
  abbrev pub posts_size : List Exp → ℕ
  posts_size [] = 0
  posts_size (e ∷ es) = exp_size e + 2 + posts_size es

  abbrev pub posts_code : ℕ → List Exp → List Entry → List Entry
  posts_code p [] r = r
  posts_code p (e ∷ es) r = entry Mark p ∷ exp_code e (plain Post ∷ posts_code p es r)

  -- An element of a for: the step that stores its first figure; for a progression also the step that adds, and the test,
  -- which writes the limit twice, since the way of the comparison hangs on the sign of the step.
  abbrev pub first_size : ValueType → Exp → ℕ
  first_size t e = exp_size e + ready_size t + 5

  abbrev pub addition_size : ValueType → Exp → ℕ
  addition_size t s = exp_size s + ready_size t + 4

  abbrev pub down_size : Exp → Exp → ℕ
  down_size s b = exp_size s + exp_size b + 8

  abbrev pub up_size : Exp → ℕ
  up_size b = exp_size b + 5

  abbrev pub element_size : ValueType → Element → ℕ
  element_size t (single e) = first_size t e
  element_size t (progression a s b) = first_size t a + addition_size t s + down_size s b + up_size b

  abbrev pub elements_size : ValueType → List Element → ℕ
  elements_size t [] = 0
  elements_size t (e ∷ es) = element_size t e + elements_size t es

  -- p is the for's place, x its variable, hidden its hidden cell, body the place of its body, i the element's number.
  module _ (p : ℕ) (x : Name) (hidden body : ℕ) where
    abbrev pub first_code : ℕ → Exp → List Entry → List Entry
    first_code i e r =
        entry Mark p ∷ exp_code e (ready_code (type_of x) (entry Store (cell_at x) ∷ entry Const i ∷ entry Store hidden ∷ entry Jump body ∷ r))

    abbrev pub addition_code : Exp → List Entry → List Entry
    addition_code s r = entry Mark p ∷ entry Load (cell_at x) ∷ exp_code s (plain Add ∷ ready_code (type_of x) (entry Store (cell_at x) ∷ r))

    -- Goes to body again, or to next; up is the place where the test goes on if the step is not below 0.
    abbrev pub up_code : ℕ → Exp → List Entry → List Entry
    up_code next b r = plain Here ∷ entry Load (cell_at x) ∷ exp_code b (plain More ∷ entry False body ∷ entry Jump next ∷ r)

    abbrev pub test_code : ℕ → ℕ → Exp → Exp → List Entry → List Entry
    test_code next up s b r =
        entry Mark p ∷ exp_code s (entry Const 0 ∷ plain Less ∷ entry False up
        ∷ entry Load (cell_at x) ∷ exp_code b (plain Less ∷ entry False body ∷ entry Jump next ∷ up_code next b r))

    -- The element at place a.
    abbrev pub element_code : ℕ → ℕ → ℕ → Element → List Entry → List Entry
    element_code i next a (single e) r = first_code i e r
    element_code i next a (progression f s b) r =
        first_code i f (addition_code s
        (test_code next (a + first_size (type_of x) f + addition_size (type_of x) s + down_size s b) s b r))

    -- The place behind an element: the next one's, or the way out.
    abbrev pub next_place : ℕ → ℕ → List Element → ℕ
    next_place out a [] = out
    next_place out a (e ∷ es) = a

    -- The elements from the i-th on, at place a.
    abbrev pub elements_code : ℕ → ℕ → ℕ → List Element → List Entry → List Entry
    elements_code out i a [] r = r
    elements_code out i a (e ∷ es) r =
        let after = a + element_size (type_of x) e in
        element_code i (next_place out after es) a e (elements_code out (suc i) after es r)

    -- After the body, where the flow goes on for the element at place a, behind which stands next; and the row of each.
    abbrev pub turn_place : Element → ℕ → ℕ → ℕ
    turn_place (single e) a next = next
    turn_place (progression f s b) a next = a + first_size (type_of x) f

    abbrev pub turns_code : ℕ → ℕ → List Element → List Entry → List Entry
    turns_code out a [] r = r
    turns_code out a (e ∷ es) r =
        let after = a + element_size (type_of x) e in
        entry Jump (turn_place e a (next_place out after es)) ∷ turns_code out after es r

  -- Statements.
  abbrev pub variable_size : Variable → ℕ
  variable_size (whole x) = 0
  variable_size (indexed x i) = exp_size i + 1

  abbrev pub input_size : Variable → ℕ
  input_size (whole x) = 1
  input_size (indexed x i) = exp_size i

  abbrev pub size : Statement → ℕ
  size (labelled l s) = size s
  size (conditional p e s) = exp_size e + 2 + size s + 1
  size (repeated p x es s) = elements_size (type_of x) (all_of es) + size s + 4 + length (all_of es) + 1
  size (assigned v e) = variable_size v + exp_size e + ready_size (type_of (variable_name v)) + 2
  size (go p l) = 2
  size (switched p x e) = exp_size e + 2
  size (input p v) = input_size v + 2
  size (printed p es) = posts_size (all_of es)
  size (stop p) = 2
  size (sequence s t) = size s + size t

  -- How many fors stand in a statement: each has a hidden cell.
  abbrev pub loops : Statement → ℕ
  loops (labelled l s) = loops s
  loops (conditional p e s) = loops s
  loops (repeated p x es s) = suc (loops s)
  loops (assigned v e) = 0
  loops (go p l) = 0
  loops (switched p x e) = 0
  loops (input p v) = 0
  loops (printed p es) = 0
  loops (stop p) = 0
  loops (sequence s t) = loops s + loops t

  -- Where the label l stands in a statement whose code begins at place a; else o.
  abbrev pub label_place : List ℕ → Statement → ℕ → ℕ → ℕ
  label_place l (labelled m s) a o = cond (bytes_eq l m.letters) a (label_place l s a o)
  label_place l (conditional p e s) a o = label_place l s (a + (exp_size e + 2)) o
  label_place l (repeated p x es s) a o = label_place l s (a + elements_size (type_of x) (all_of es)) o
  label_place l (assigned v e) a o = o
  label_place l (go p m) a o = o
  label_place l (switched p x e) a o = o
  label_place l (input p v) a o = o
  label_place l (printed p es) a o = o
  label_place l (stop p) a o = o
  label_place l (sequence s t) a o = label_place l s a (label_place l t (a + size s) o)

  abbrev pub take_operation : ValueType → Operation
  take_operation Untyped = Take
  take_operation Integer = TakeW
  take_operation Boolean = Take

  abbrev pub assigned_code : Variable → Exp → List Entry → List Entry
  assigned_code (whole x) e r = exp_code e (ready_code (type_of x) (entry Store (cell_at x) ∷ r))
  assigned_code (indexed x i) e r =
      exp_code i (entry Test (cells_at x) ∷ exp_code e (ready_code (type_of x) (entry Put (cells_at x) ∷ r)))

  abbrev pub input_code : Variable → List Entry → List Entry
  input_code (whole x) r = entry Const 0 ∷ entry (take_operation (type_of x)) (cells_at x) ∷ r
  input_code (indexed x i) r = exp_code i (entry (take_operation (type_of x)) (cells_at x) ∷ r)

  -- The code of a statement at place a, whose hidden cells begin at h. The labels stand at label_at, the tables of the
  -- switches at table_at, and the HALT at halt_at.
  module _ (label_at table_at : List ℕ → ℕ) (halt_at : ℕ) where
    abbrev pub code : ℕ → ℕ → Statement → List Entry → List Entry
    code h a (labelled l s) r = code h a s r
    code h a (conditional p e s) r =
        let body = a + (exp_size e + 2) in
        entry Mark p ∷ exp_code e (entry False (body + size s) ∷ code h body s (plain Here ∷ r))
    code h a (repeated p x es s) r =
        let body = a + elements_size (type_of x) (all_of es) in
        let behind = body + size s in
        let count = length (all_of es) in
        let out = behind + 4 + count in
        elements_code p x h body out 1 a (all_of es)
        (code (suc h) body s
        (entry Load h ∷ entry Table (behind + 3) ∷ entry Jump out ∷ entry Rows count
        ∷ turns_code p x h body out a (all_of es) (plain Here ∷ r)))
    code h a (assigned v e) r = entry Mark (variable_place v) ∷ assigned_code v e r
    code h a (go p l) r = entry Mark p ∷ entry Jump (label_at l.letters) ∷ r
    code h a (switched p x e) r = entry Mark p ∷ exp_code e (entry Table (table_at x.letters) ∷ r)
    code h a (input p v) r = entry Mark p ∷ input_code v r
    code h a (printed p es) r = posts_code p (all_of es) r
    code h a (stop p) r = entry Mark p ∷ entry Jump halt_at ∷ r
    code h a (sequence s t) r = code h a s (code (h + loops s) (a + size s) t r)
