-- The typing rules and the list of offences say the same.
use Rattle.std.proofs.Common.{◌≡◌, ℕ, Bool, true, false, ltb, List, [], ◌++◌, refl, ap, ◌∙◌, subst}
use Rattle.std.proofs.lemmas.Bool.{both_ways, ltb-false, le-ltb}
use Rattle.grammar.specs.Tree.{Row, one, more, Name, Exp, literal, simple, subscripted, prefixed, joined, bracketed, compared, first_byte, Variable, whole, indexed, value_of, Element, single, progression, Statement, labelled, conditional, repeated, assigned, go, switched, input, printed, stop, sequence, Item, comment, integer, boolean, array, switch, action, Program}
use Rattle.symbols.specs.Occurrences.{each}
use Rattle.symbols.specs.Symbols.{Symbol}
use Rattle.symbols.specs.Types.{PartType, arithmetic, truth_value, told, differs, name_type, operator_type, prefix_type, exp_offences, variable_type, element_offences, statement_offences, item_offences, wrong_types}
use Rattle.symbols.specs.Typing.{HasType, any_number, zero_or_one, a_variable, an_element, a_prefix, an_operation, brackets, a_comparison, OfEach, ArithmeticElement, WellTyped, a_label, a_condition, a_repetition, an_assignment, a_jump, a_choice, an_input, a_print, a_stop, in_sequence, ItemTyped}
use Rattle.symbols.proofs.Offences.{empty_left, empty_right, nothing_told}

-- Nothing and nothing is nothing.
both_empty : {A : Type 0} (xs ys : List A) → xs ≡ [] → ys ≡ [] → xs ++ ys ≡ []
both_empty {A} xs ys e f = ap (λ (l : List A). l ++ ys) e ∙ f

-- Parts that do not differ in type have the same.
not_differs : (v w : PartType) → differs v w ≡ false → w ≡ v
not_differs arithmetic arithmetic e = refl
not_differs arithmetic truth_value e = absurd (both_ways true e refl)
not_differs truth_value arithmetic e = absurd (both_ways true e refl)
not_differs truth_value truth_value e = refl

same_told : (w : PartType) (p : ℕ) → told (differs w w) p ≡ []
same_told arithmetic p = refl
same_told truth_value p = refl

-- A row has no offences just where its parts have none.
module _ {A : Type 0} (f : A → List ℕ) (P : A → Type 0) where
  from_each : ((x : A) → f x ≡ [] → P x) → (xs : Row A) → each f xs ≡ [] → OfEach P xs
  from_each h (one x) e = h x e
  from_each h (more xs x) e = (from_each h xs (empty_left (each f xs) (f x) e), h x (empty_right (each f xs) (f x) e))

  to_each : ((x : A) → P x → f x ≡ []) → (xs : Row A) → OfEach P xs → each f xs ≡ []
  to_each h (one x) k = h x k
  to_each h (more xs x) k = both_empty (each f xs) (f x) (to_each h xs k.0) (h x k.1)

module _ (ss : List Symbol) where
  -- The type that is told of the part at the head is the wanted one.
  wanted : (a : Exp) (w v : PartType) (p : ℕ) (rest : List ℕ) → told (differs w v) p ++ rest ≡ [] → HasType ss a v → HasType ss a w
  wanted a w v p rest e h =
      let P : PartType → Type 0 = λ u. HasType ss a u in
      subst P (not_differs w v (nothing_told (differs w v) p (empty_left (told (differs w v) p) rest e))) h

  exp_typed : (w : PartType) (a : Exp) → exp_offences ss w a ≡ [] → HasType ss a w
  exp_typed arithmetic (literal n p) e = any_number
  exp_typed truth_value (literal n p) e = zero_or_one (ltb-false 1 n (nothing_told (ltb 1 n) p e))
  exp_typed w (simple x) e =
      let P : PartType → Type 0 = λ u. HasType ss (simple x) u in
      subst P (not_differs w (name_type ss x) (nothing_told (differs w (name_type ss x)) x.place e)) a_variable
  exp_typed w (subscripted x i) e =
      wanted (subscripted x i) w (name_type ss x) x.place (exp_offences ss arithmetic i) e
      (an_element (exp_typed arithmetic i (empty_right (told (differs w (name_type ss x)) x.place) (exp_offences ss arithmetic i) e)))
  exp_typed w (prefixed o p a) e =
      wanted (prefixed o p a) w (prefix_type o) p (exp_offences ss (prefix_type o) a) e
      (a_prefix (exp_typed (prefix_type o) a (empty_right (told (differs w (prefix_type o)) p) (exp_offences ss (prefix_type o) a) e)))
  exp_typed w (joined o a b) e =
      let A : List ℕ = exp_offences ss (operator_type o) a in
      let B : List ℕ = exp_offences ss (operator_type o) b in
      let r : A ++ B ≡ [] = empty_right (told (differs w (operator_type o)) (first_byte a)) (A ++ B) e in
      wanted (joined o a b) w (operator_type o) (first_byte a) (A ++ B) e
      (an_operation (exp_typed (operator_type o) a (empty_left A B r)) (exp_typed (operator_type o) b (empty_right A B r)))
  exp_typed w (bracketed p a) e = brackets (exp_typed w a e)
  exp_typed w (compared c p a b) e =
      let A : List ℕ = exp_offences ss arithmetic a in
      let B : List ℕ = exp_offences ss arithmetic b in
      let r : A ++ B ≡ [] = empty_right (told (differs w truth_value) p) (A ++ B) e in
      wanted (compared c p a b) w truth_value p (A ++ B) e
      (a_comparison (exp_typed arithmetic a (empty_left A B r)) (exp_typed arithmetic b (empty_right A B r)))

  typed_exp : {a : Exp} {w : PartType} → HasType ss a w → exp_offences ss w a ≡ []
  typed_exp any_number = refl
  typed_exp (zero_or_one {n} {p} h) = ap (λ (b : Bool). told b p) (le-ltb 1 n h)
  typed_exp (a_variable {x}) = same_told (name_type ss x) x.place
  typed_exp (an_element {x} {i} h) = both_empty (told (differs (name_type ss x) (name_type ss x)) x.place) (exp_offences ss arithmetic i) (same_told (name_type ss x) x.place) (typed_exp h)
  typed_exp (a_prefix {o} {p} {a} h) = both_empty (told (differs (prefix_type o) (prefix_type o)) p) (exp_offences ss (prefix_type o) a) (same_told (prefix_type o) p) (typed_exp h)
  typed_exp (an_operation {o} {a} {b} h k) =
      both_empty (told (differs (operator_type o) (operator_type o)) (first_byte a)) (exp_offences ss (operator_type o) a ++ exp_offences ss (operator_type o) b) (same_told (operator_type o) (first_byte a))
      (both_empty (exp_offences ss (operator_type o) a) (exp_offences ss (operator_type o) b) (typed_exp h) (typed_exp k))
  typed_exp (brackets h) = typed_exp h
  typed_exp (a_comparison {r} {p} {a} {b} h k) = both_empty (exp_offences ss arithmetic a) (exp_offences ss arithmetic b) (typed_exp h) (typed_exp k)

  element_typed : (x : Element) → element_offences ss x ≡ [] → ArithmeticElement ss x
  element_typed (single a) e = exp_typed arithmetic a e
  element_typed (progression a b c) e =
      let A : List ℕ = exp_offences ss arithmetic a in
      let B : List ℕ = exp_offences ss arithmetic b in
      let C : List ℕ = exp_offences ss arithmetic c in
      let r : B ++ C ≡ [] = empty_right A (B ++ C) e in
      (exp_typed arithmetic a (empty_left A (B ++ C) e), (exp_typed arithmetic b (empty_left B C r), exp_typed arithmetic c (empty_right B C r)))

  typed_element : (x : Element) → ArithmeticElement ss x → element_offences ss x ≡ []
  typed_element (single a) h = typed_exp h
  typed_element (progression a b c) h =
      both_empty (exp_offences ss arithmetic a) (exp_offences ss arithmetic b ++ exp_offences ss arithmetic c) (typed_exp h.0)
      (both_empty (exp_offences ss arithmetic b) (exp_offences ss arithmetic c) (typed_exp h.1.0) (typed_exp h.1.1))

  -- A variable's own type is the one that is wanted of it left of `:=`.
  own_type : (v : Variable) (w : PartType) → HasType ss (value_of v) w → w ≡ variable_type ss v
  own_type (whole x) w h = simple_type h
    where
      simple_type : {x : Name} {w : PartType} → HasType ss (simple x) w → w ≡ name_type ss x
      simple_type a_variable = refl
  own_type (indexed x i) w h = element_type h
    where
      element_type : {x : Name} {i : Exp} {w : PartType} → HasType ss (subscripted x i) w → w ≡ name_type ss x
      element_type (an_element k) = refl

  statement_typed : (s : Statement) → statement_offences ss s ≡ [] → WellTyped ss s
  statement_typed (labelled x s) e = a_label (statement_typed s e)
  statement_typed (conditional p a s) e =
      a_condition (exp_typed truth_value a (empty_left (exp_offences ss truth_value a) (statement_offences ss s) e))
      (statement_typed s (empty_right (exp_offences ss truth_value a) (statement_offences ss s) e))
  statement_typed (repeated p x es s) e =
      let X : List ℕ = exp_offences ss arithmetic (simple x) in
      let E : List ℕ = each (element_offences ss) es in
      let S : List ℕ = statement_offences ss s in
      let r : E ++ S ≡ [] = empty_right X (E ++ S) e in
      a_repetition (exp_typed arithmetic (simple x) (empty_left X (E ++ S) e)) (from_each (element_offences ss) (ArithmeticElement ss) element_typed es (empty_left E S r)) (statement_typed s (empty_right E S r))
  statement_typed (assigned v a) e =
      let w : PartType = variable_type ss v in
      an_assignment (exp_typed w (value_of v) (empty_left (exp_offences ss w (value_of v)) (exp_offences ss w a) e)) (exp_typed w a (empty_right (exp_offences ss w (value_of v)) (exp_offences ss w a) e))
  statement_typed (go p x) e = a_jump
  statement_typed (switched p x i) e = a_choice (exp_typed arithmetic i e)
  statement_typed (input p v) e = an_input (exp_typed arithmetic (value_of v) e)
  statement_typed (printed p xs) e = a_print (from_each (exp_offences ss arithmetic) (λ a. HasType ss a arithmetic) (exp_typed arithmetic) xs e)
  statement_typed (stop p) e = a_stop
  statement_typed (sequence s t) e =
      in_sequence (statement_typed s (empty_left (statement_offences ss s) (statement_offences ss t) e))
      (statement_typed t (empty_right (statement_offences ss s) (statement_offences ss t) e))

  typed_statement : {s : Statement} → WellTyped ss s → statement_offences ss s ≡ []
  typed_statement (a_label h) = typed_statement h
  typed_statement (a_condition {p} {a} {s} h k) = both_empty (exp_offences ss truth_value a) (statement_offences ss s) (typed_exp h) (typed_statement k)
  typed_statement (a_repetition {p} {x} {es} {s} h k l) =
      both_empty (exp_offences ss arithmetic (simple x)) (each (element_offences ss) es ++ statement_offences ss s) (typed_exp h)
      (both_empty (each (element_offences ss) es) (statement_offences ss s) (to_each (element_offences ss) (ArithmeticElement ss) typed_element es k) (typed_statement l))
  typed_statement (an_assignment {v} {a} {w} h k) =
      let P : PartType → Type 0 = λ u. (exp_offences ss u (value_of v) ≡ []) × (exp_offences ss u a ≡ []) in
      let r : (exp_offences ss (variable_type ss v) (value_of v) ≡ []) × (exp_offences ss (variable_type ss v) a ≡ []) = subst P (own_type v w h) (typed_exp h, typed_exp k) in
      both_empty (exp_offences ss (variable_type ss v) (value_of v)) (exp_offences ss (variable_type ss v) a) r.0 r.1
  typed_statement a_jump = refl
  typed_statement (a_choice h) = typed_exp h
  typed_statement (an_input h) = typed_exp h
  typed_statement (a_print {p} {xs} h) = to_each (exp_offences ss arithmetic) (λ a. HasType ss a arithmetic) (λ a. typed_exp) xs h
  typed_statement a_stop = refl
  typed_statement (in_sequence {s} {t} h k) = both_empty (statement_offences ss s) (statement_offences ss t) (typed_statement h) (typed_statement k)

  item_typed : (x : Item) → item_offences ss x ≡ [] → ItemTyped ss x
  item_typed comment e = tt
  item_typed (integer xs) e = tt
  item_typed (boolean xs) e = tt
  item_typed (array gs) e = tt
  item_typed (switch x xs) e = tt
  item_typed (action s) e = statement_typed s e

  typed_item : (x : Item) → ItemTyped ss x → item_offences ss x ≡ []
  typed_item comment h = refl
  typed_item (integer xs) h = refl
  typed_item (boolean xs) h = refl
  typed_item (array gs) h = refl
  typed_item (switch x xs) h = refl
  typed_item (action s) h = typed_statement h

  pub program_typed : (t : Program) → wrong_types ss t ≡ [] → OfEach (ItemTyped ss) t
  program_typed t e = from_each (item_offences ss) (ItemTyped ss) item_typed t e

  pub typed_program : (t : Program) → OfEach (ItemTyped ss) t → wrong_types ss t ≡ []
  typed_program t h = to_each (item_offences ss) (ItemTyped ss) typed_item t h
