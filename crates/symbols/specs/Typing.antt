-- The typing rules as a relation, one rule a line. The law at the end says that a tree has no offence against rule 9
-- just where these rules give it a type.
use Rattle.std.specs.Prelude.{◌≡◌, ℕ, ◌≤◌, List, []}
use Rattle.words.specs.declared.token.Relation.{Relation}
use Rattle.grammar.specs.declared.operator.Operator.{Operator}
use Rattle.grammar.specs.declared.operator.Prefix.{Prefix}
use Rattle.grammar.specs.Tree.{Row, one, more, Name, Exp, literal, simple, subscripted, prefixed, joined, bracketed, compared, Variable, value_of, Element, single, progression, Statement, labelled, conditional, repeated, assigned, go, switched, input, printed, stop, sequence, Item, comment, integer, boolean, array, switch, action, Program}
use Rattle.symbols.specs.Symbols.{Symbol}
use Rattle.symbols.specs.Types.{PartType, arithmetic, truth_value, name_type, operator_type, prefix_type, wrong_types}

-- HasType ss a w: where the names are those of the table ss, the expression a is of type w.
pub data HasType (ss : List Symbol) : Exp → PartType → Type 0 where
  any_number : {n p : ℕ} → HasType ss (literal n p) arithmetic
  zero_or_one : {n p : ℕ} → n ≤ 1 → HasType ss (literal n p) truth_value
  a_variable : {x : Name} → HasType ss (simple x) (name_type ss x)
  an_element : {x : Name} {i : Exp} → HasType ss i arithmetic → HasType ss (subscripted x i) (name_type ss x)
  a_prefix : {o : Prefix} {p : ℕ} {a : Exp} → HasType ss a (prefix_type o) → HasType ss (prefixed o p a) (prefix_type o)
  an_operation : {o : Operator} {a b : Exp} → HasType ss a (operator_type o) → HasType ss b (operator_type o) → HasType ss (joined o a b) (operator_type o)
  brackets : {p : ℕ} {a : Exp} {w : PartType} → HasType ss a w → HasType ss (bracketed p a) w
  a_comparison : {r : Relation} {p : ℕ} {a b : Exp} → HasType ss a arithmetic → HasType ss b arithmetic → HasType ss (compared r p a b) truth_value

-- P holds of each part of a row.
abbrev pub OfEach : {A : Type 0} → (A → Type 0) → Row A → Type 0
OfEach P (one x) = P x
OfEach P (more xs x) = OfEach P xs × P x

abbrev pub ArithmeticElement : List Symbol → Element → Type 0
ArithmeticElement ss (single a) = HasType ss a arithmetic
ArithmeticElement ss (progression a b c) = HasType ss a arithmetic × (HasType ss b arithmetic × HasType ss c arithmetic)

-- Both sides of an assignment have one type, whichever it is.
pub data WellTyped (ss : List Symbol) : Statement → Type 0 where
  a_label : {x : Name} {s : Statement} → WellTyped ss s → WellTyped ss (labelled x s)
  a_condition : {p : ℕ} {a : Exp} {s : Statement} → HasType ss a truth_value → WellTyped ss s → WellTyped ss (conditional p a s)
  a_repetition : {p : ℕ} {x : Name} {es : Row Element} {s : Statement} → HasType ss (simple x) arithmetic → OfEach (ArithmeticElement ss) es → WellTyped ss s → WellTyped ss (repeated p x es s)
  an_assignment : {v : Variable} {a : Exp} {w : PartType} → HasType ss (value_of v) w → HasType ss a w → WellTyped ss (assigned v a)
  a_jump : {p : ℕ} {x : Name} → WellTyped ss (go p x)
  a_choice : {p : ℕ} {x : Name} {i : Exp} → HasType ss i arithmetic → WellTyped ss (switched p x i)
  an_input : {p : ℕ} {v : Variable} → HasType ss (value_of v) arithmetic → WellTyped ss (input p v)
  a_print : {p : ℕ} {xs : Row Exp} → OfEach (λ a. HasType ss a arithmetic) xs → WellTyped ss (printed p xs)
  a_stop : {p : ℕ} → WellTyped ss (stop p)
  in_sequence : {s t : Statement} → WellTyped ss s → WellTyped ss t → WellTyped ss (sequence s t)

abbrev pub ItemTyped : List Symbol → Item → Type 0
ItemTyped ss comment = Unit {0}
ItemTyped ss (integer xs) = Unit {0}
ItemTyped ss (boolean xs) = Unit {0}
ItemTyped ss (array gs) = Unit {0}
ItemTyped ss (switch x xs) = Unit {0}
ItemTyped ss (action s) = WellTyped ss s

pub record TypesLaw : Type 0 where
  pub kept_to_typed : (ss : List Symbol) (t : Program) → wrong_types ss t ≡ [] → OfEach (ItemTyped ss) t
  pub typed_to_kept : (ss : List Symbol) (t : Program) → OfEach (ItemTyped ss) t → wrong_types ss t ≡ []
