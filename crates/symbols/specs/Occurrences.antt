-- Where names stand in a text, and as what: the tree is gone through once, in the order of the text, and every rule on
-- names looks at the list that comes of it. A reader must believe the roles and, clause by clause, the order.
use Rattle.std.specs.Prelude.{ℕ, List, [], ◌∷◌, ◌++◌}
use Rattle.grammar.specs.Tree.{Row, one, more, Name, Exp, literal, simple, subscripted, prefixed, joined, bracketed, compared, value_of, Element, single, progression, Statement, labelled, conditional, repeated, assigned, go, switched, input, printed, stop, sequence, Bound, Group, Item, comment, integer, boolean, array, switch, action, Program}
use Rattle.symbols.specs.declared.value_type.ValueType.{ValueType}
use Rattle.symbols.specs.declared.value_type.ValueType.TheVariants.{Integer, Boolean}

-- A name stands before a colon; at the head of a switch, with its list of labels; in an array declaration, with its
-- bounds; in a type's list; in a switch's list; after go to, alone or with a subscript; as a variable, alone or with a
-- subscript.
pub data Role : Type 0 where
  as_label : Role
  as_switch : Row Name → Role
  as_array : Bound → Bound → Role
  of_type : ValueType → Role
  in_switch : Role
  as_target : Role
  as_selector : Role
  as_variable : Role
  as_element : Role

pub record Occurrence : Type 0 where
  pub name : Name
  pub role : Role

abbrev pub at : Role → Name → Occurrence
at r x = record { name = x; role = r }

-- What comes of each part of a row, in order.
abbrev pub each : {A B : Type 0} → (A → List B) → Row A → List B
each f (one x) = f x
each f (more xs x) = each f xs ++ f x

abbrev pub all_at : Role → Row Name → List Occurrence
all_at r xs = each (λ x. at r x ∷ []) xs

-- The names of an expression. A subscript's names follow the array's.
abbrev pub in_exp : Exp → List Occurrence
in_exp (literal n p) = []
in_exp (simple x) = at as_variable x ∷ []
in_exp (subscripted x i) = at as_element x ∷ in_exp i
in_exp (prefixed o p a) = in_exp a
in_exp (joined o a b) = in_exp a ++ in_exp b
in_exp (bracketed p a) = in_exp a
in_exp (compared r p a b) = in_exp a ++ in_exp b

abbrev pub in_element : Element → List Occurrence
in_element (single a) = in_exp a
in_element (progression a b c) = in_exp a ++ (in_exp b ++ in_exp c)

-- The names of a statement.
abbrev pub in_statement : Statement → List Occurrence
in_statement (labelled x s) = at as_label x ∷ in_statement s
in_statement (conditional p a s) = in_exp a ++ in_statement s
in_statement (repeated p x es s) = at as_variable x ∷ (each in_element es ++ in_statement s)
in_statement (assigned v a) = in_exp (value_of v) ++ in_exp a
in_statement (go p x) = at as_target x ∷ []
in_statement (switched p x i) = at as_selector x ∷ in_exp i
in_statement (input p v) = in_exp (value_of v)
in_statement (printed p xs) = each in_exp xs
in_statement (stop p) = []
in_statement (sequence s t) = in_statement s ++ in_statement t

-- The names of an item. Arrays of one group have its bounds.
abbrev pub in_group : Group → List Occurrence
in_group g = all_at (as_array g.low g.high) g.names

abbrev pub in_item : Item → List Occurrence
in_item comment = []
in_item (integer xs) = all_at (of_type Integer) xs
in_item (boolean xs) = all_at (of_type Boolean) xs
in_item (array gs) = each in_group gs
in_item (switch x xs) = at (as_switch xs) x ∷ all_at in_switch xs
in_item (action s) = in_statement s

-- Every place where a name stands, in the order of the text.
abbrev pub occurrences : Program → List Occurrence
occurrences t = each in_item t

-- The fors, by the places of their first bytes, in the order of the text: a for comes before those in its body.
abbrev pub fors_in : Statement → List ℕ
fors_in (labelled x s) = fors_in s
fors_in (conditional p a s) = fors_in s
fors_in (repeated p x es s) = p ∷ fors_in s
fors_in (assigned v a) = []
fors_in (go p x) = []
fors_in (switched p x i) = []
fors_in (input p v) = []
fors_in (printed p xs) = []
fors_in (stop p) = []
fors_in (sequence s t) = fors_in s ++ fors_in t

abbrev pub item_fors : Item → List ℕ
item_fors comment = []
item_fors (integer xs) = []
item_fors (boolean xs) = []
item_fors (array gs) = []
item_fors (switch x xs) = []
item_fors (action s) = fors_in s

abbrev pub fors : Program → List ℕ
fors t = each item_fors t
