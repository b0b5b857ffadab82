-- Where the labels and switches of a text stand: labels in its statements, whose code begins with a MARK; and the names in a
-- switch's list are uses of their own.
use Rattle.std.proofs.Common.{◌≡◌, ℕ, Bool, ◌⊎◌, List, [], ◌∷◌, ◌++◌, Some, None, Option, sym, subst, inl, inr, ⊎_elim, arith}
use Rattle.std.specs.List.{AllByRecursion as All}
use Rattle.std.proofs.ByRecursion.{All-append}
use Rattle.grammar.specs.Tree.{Row, one, more, Name, Exp, literal, simple, subscripted, prefixed, joined, bracketed, compared, value_of, Element, single, progression, Statement, labelled, conditional, repeated, assigned, go, switched, input, printed, stop, sequence, Item, comment, integer, boolean, array, switch, action, Program}
use Rattle.symbols.specs.Occurrences.{Role, as_label, as_switch, as_array, of_type, in_switch, as_target, as_selector, as_variable, as_element, Occurrence, at, each, all_at, in_exp, in_element, in_statement, in_group, in_item, occurrences}
use Rattle.symbols.specs.Laws.{In, here, later}
use Rattle.symbols.proofs.Lists.{in_left, in_right}
use Rattle.symbols.proofs.Bounds.{all_in, each_all}
use Rattle.symbols.proofs.Jumps.{in_append}
use Rattle.figures.specs.Kinds.{Kind}
use Rattle.meaning.specs.Names.{Names}
use Rattle.meaning.specs.Positions.{statement_of, followed_by, statements}
use Rattle.translator.specs.Generator.{Entry}
use Rattle.translator.specs.Compiled.{Placed}
use Rattle.translator.proofs.Placing.{second, first_of, labelled_part, governed, loop_placed}
use Rattle.translator.proofs.Resuming.{Begins}
use Rattle.translator.proofs.PassingStatements.{statement_begins}

clash : {A : Type 0} → ◌≡◌ {A = ℕ} 0 1 → A
clash e = absurd (omega arith)

-- The roles of the names of expressions, elements and statements.
module _ (Q : Role → Type 0) (variable : Q as_variable) (element : Q as_element) where
  abbrev Every : List Occurrence → Type 0
  Every os = All (λ o. Q o.role) os

  exp_roles : (e : Exp) → Every (in_exp e)
  exp_roles (literal n p) = tt
  exp_roles (simple x) = (variable, tt)
  exp_roles (subscripted x e) = (element, exp_roles e)
  exp_roles (prefixed o p e) = exp_roles e
  exp_roles (joined o a b) = All-append (λ o. Q o.role) (in_exp a) (in_exp b) (exp_roles a) (exp_roles b)
  exp_roles (bracketed p e) = exp_roles e
  exp_roles (compared o p a b) = All-append (λ o. Q o.role) (in_exp a) (in_exp b) (exp_roles a) (exp_roles b)

  element_roles : (e : Element) → Every (in_element e)
  element_roles (single e) = exp_roles e
  element_roles (progression x y z) =
      All-append (λ o. Q o.role) (in_exp x) (in_exp y ++ in_exp z) (exp_roles x) (All-append (λ o. Q o.role) (in_exp y) (in_exp z) (exp_roles y) (exp_roles z))

  statement_roles : Q as_label → Q as_target → Q as_selector → (s : Statement) → Every (in_statement s)
  statement_roles l t x (labelled n s) = (l, statement_roles l t x s)
  statement_roles l t x (conditional p e s) = All-append (λ o. Q o.role) (in_exp e) (in_statement s) (exp_roles e) (statement_roles l t x s)
  statement_roles l t x (repeated p n es s) =
      (variable, All-append (λ o. Q o.role) (each in_element es) (in_statement s) (each_all (λ o. Q o.role) in_element element_roles es) (statement_roles l t x s))
  statement_roles l t x (assigned v e) = All-append (λ o. Q o.role) (in_exp (value_of v)) (in_exp e) (exp_roles (value_of v)) (exp_roles e)
  statement_roles l t x (go p n) = (t, tt)
  statement_roles l t x (switched p n e) = (x, exp_roles e)
  statement_roles l t x (input p v) = exp_roles (value_of v)
  statement_roles l t x (printed p es) = each_all (λ o. Q o.role) in_exp exp_roles es
  statement_roles l t x (stop p) = tt
  statement_roles l t x (sequence s u) = All-append (λ o. Q o.role) (in_statement s) (in_statement u) (statement_roles l t x s) (statement_roles l t x u)

-- No label stands in an expression, and no switch is declared in a statement.
abbrev NoLabel : Role → Type 0
NoLabel r = r ≡ as_label → ⊥

exp_labelless : (e : Exp) (o : Occurrence) → In o (in_exp e) → o.role ≡ as_label → ⊥
exp_labelless e o i = all_in (λ p. NoLabel p.role) o (in_exp e) (exp_roles NoLabel (λ z. clash (cc)) (λ z. clash (cc)) e) i

row_labelless : {A : Type 0} (f : A → List Occurrence) → ((x : A) → All (λ p. NoLabel p.role) (f x)) → (xs : Row A) (o : Occurrence) → In o (each f xs) → o.role ≡ as_label → ⊥
row_labelless f n xs o i = all_in (λ p. NoLabel p.role) o (each f xs) (each_all (λ p. NoLabel p.role) f n xs) i

elements_labelless : (es : Row Element) (o : Occurrence) → In o (each in_element es) → o.role ≡ as_label → ⊥
elements_labelless es = row_labelless in_element (element_roles NoLabel (λ z. clash (cc)) (λ z. clash (cc))) es

module _ {V : Type 0} (kind : Kind V) (c : List Entry) (names : Names) (label_at table_at : List ℕ → ℕ) (halt_at v m : ℕ) (outer : List ℕ → Bool) where
  abbrev P : (List ℕ → Bool) → ℕ → ℕ → Statement → ℕ → Type 0
  P = Placed kind c names label_at table_at halt_at v m outer

  -- Every label of a statement stands where a step begins.
  pub label_begins : (s : Statement) {seen : List ℕ → Bool} {h a b : ℕ} → P seen h a s b → (o : Occurrence) → In o (in_statement s) → o.role ≡ as_label → Begins c (label_at o.name.letters)
  label_begins (labelled l s) q o here r =
      subst (Begins c) (sym q.labels.0) (statement_begins kind c names label_at table_at halt_at v m outer s (labelled_part kind c names label_at table_at halt_at v m outer q))
  label_begins (labelled l s) q o (later i) r = label_begins s (labelled_part kind c names label_at table_at halt_at v m outer q) o i r
  label_begins (conditional p e s) q o i r =
      ⊎_elim (λ j. absurd (exp_labelless e o j r)) (λ j. label_begins s (governed kind c names label_at table_at halt_at v m outer q) o j r) (in_append o (in_exp e) (in_statement s) i)
  label_begins (repeated p x es s) q o here r = clash (cc)
  label_begins (repeated p x es s) q o (later i) r =
      ⊎_elim (λ j. absurd (elements_labelless es o j r)) (λ j. label_begins s (loop_placed kind c names label_at table_at halt_at v m outer q).0.body o j r) (in_append o (each in_element es) (in_statement s) i)
  label_begins (assigned x e) q o i r = absurd (⊎_elim (λ j. exp_labelless (value_of x) o j r) (λ j. exp_labelless e o j r) (in_append o (in_exp (value_of x)) (in_exp e) i))
  label_begins (go p l) q o here r = clash (cc)
  label_begins (go p l) q o (later i) r = elim i [ ]
  label_begins (switched p x e) q o here r = clash (cc)
  label_begins (switched p x e) q o (later i) r = absurd (exp_labelless e o i r)
  label_begins (input p x) q o i r = absurd (exp_labelless (value_of x) o i r)
  label_begins (printed p es) q o i r = absurd (row_labelless in_exp (exp_roles NoLabel (λ z. clash (cc)) (λ z. clash (cc))) es o i r)
  label_begins (stop p) q o i r = elim i [ ]
  label_begins (sequence s t) q o i r =
      ⊎_elim (λ j. label_begins s (first_of kind c names label_at table_at halt_at v m outer q) o j r) (λ j. label_begins t (second kind c names label_at table_at halt_at v m outer q) o j r)
      (in_append o (in_statement s) (in_statement t) i)

-- The names of a text's statements.
abbrev pub in_statements : Option Statement → List Occurrence
in_statements None = []
in_statements (Some s) = in_statement s

in_either : (s t : Option Statement) (o : Occurrence) → In o (in_statements (followed_by s t)) → In o (in_statements s) ⊎ In o (in_statements t)
in_either None t o i = inr i
in_either (Some s) None o i = inl i
in_either (Some s) (Some t) o i = in_append o (in_statement s) (in_statement t) i

in_first : (s t : Option Statement) (o : Occurrence) → In o (in_statements s) → In o (in_statements (followed_by s t))
in_first None t o i = elim i [ ]
in_first (Some s) None o i = i
in_first (Some s) (Some t) o i = in_left o (in_statement s) (in_statement t) i

in_second : (s t : Option Statement) (o : Occurrence) → In o (in_statements t) → In o (in_statements (followed_by s t))
in_second None t o i = i
in_second (Some s) None o i = elim i [ ]
in_second (Some s) (Some t) o i = in_right o (in_statement s) (in_statement t) i

item_names : (i : Item) (o : Occurrence) → In o (in_statements (statement_of i)) → In o (in_item i)
item_names comment o j = elim j [ ]
item_names (integer xs) o j = elim j [ ]
item_names (boolean xs) o j = elim j [ ]
item_names (array gs) o j = elim j [ ]
item_names (switch x xs) o j = elim j [ ]
item_names (action s) o j = j

-- They are among the names of the text, and all its labels are among them.
pub statement_names : (t : Program) (o : Occurrence) → In o (in_statements (statements t)) → In o (occurrences t)
statement_names (one i) o j = item_names i o j
statement_names (more is i) o j =
    ⊎_elim (λ k. in_left o (occurrences is) (in_item i) (statement_names is o k)) (λ k. in_right o (occurrences is) (in_item i) (item_names i o k))
    (in_either (statements is) (statement_of i) o j)

item_label : (i : Item) (o : Occurrence) → In o (in_item i) → o.role ≡ as_label → In o (in_statements (statement_of i))
item_label comment o j r = j
item_label (integer xs) o j r = absurd (row_labelless (λ x. at (of_type _) x ∷ []) (λ x. (λ z. clash (cc), tt)) xs o j r)
item_label (boolean xs) o j r = absurd (row_labelless (λ x. at (of_type _) x ∷ []) (λ x. (λ z. clash (cc), tt)) xs o j r)
item_label (array gs) o j r =
    absurd (row_labelless in_group (λ g. each_all (λ p. NoLabel p.role) (λ x. at (as_array g.low g.high) x ∷ []) (λ x. (λ z. clash (cc), tt)) g.names) gs o j r)
item_label (switch x xs) o here r = clash (cc)
item_label (switch x xs) o (later j) r = absurd (row_labelless (λ y. at in_switch y ∷ []) (λ y. (λ z. clash (cc), tt)) xs o j r)
item_label (action s) o j r = j

pub label_in_statements : (t : Program) (o : Occurrence) → In o (occurrences t) → o.role ≡ as_label → In o (in_statements (statements t))
label_in_statements (one i) o j r = item_label i o j r
label_in_statements (more is i) o j r =
    ⊎_elim (λ k. in_first (statements is) (statement_of i) o (label_in_statements is o k r)) (λ k. in_second (statements is) (statement_of i) o (item_label i o k r))
    (in_append o (occurrences is) (in_item i) j)

-- The list of a declared switch.
abbrev NoSwitch : Role → Type 0
NoSwitch r = (xs : Row Name) → r ≡ as_switch xs → ⊥

item_list : (i : Item) (o y : Occurrence) (xs : Row Name) → In o (in_item i) → o.role ≡ as_switch xs → In y (all_at in_switch xs) → In y (in_item i)
item_list comment o y xs j r k = elim j [ ]
item_list (integer ns) o y xs j r k = absurd (all_in (λ p. NoSwitch p.role) o _ (each_all (λ p. NoSwitch p.role) (λ x. at (of_type _) x ∷ []) (λ x. (λ z w. clash (cc), tt)) ns) j xs r)
item_list (boolean ns) o y xs j r k = absurd (all_in (λ p. NoSwitch p.role) o _ (each_all (λ p. NoSwitch p.role) (λ x. at (of_type _) x ∷ []) (λ x. (λ z w. clash (cc), tt)) ns) j xs r)
item_list (array gs) o y xs j r k =
    absurd (all_in (λ p. NoSwitch p.role) o (each in_group gs)
    (each_all (λ p. NoSwitch p.role) in_group (λ g. each_all (λ p. NoSwitch p.role) (λ x. at (as_array g.low g.high) x ∷ []) (λ x. (λ z w. clash (cc), tt)) g.names) gs) j xs r)
item_list (switch x ys) o y xs here r k = let same : ys ≡ xs = cc in later (subst (λ zs. In y (all_at in_switch zs)) (sym same) k)
item_list (switch x ys) o y xs (later j) r k =
    absurd (all_in (λ p. NoSwitch p.role) o (all_at in_switch ys) (each_all (λ p. NoSwitch p.role) (λ x. at in_switch x ∷ []) (λ x. (λ z w. clash (cc), tt)) ys) j xs r)
item_list (action s) o y xs j r k =
    absurd (all_in (λ p. NoSwitch p.role) o (in_statement s)
    (statement_roles NoSwitch (λ z w. clash (cc)) (λ z w. clash (cc)) (λ z w. clash (cc)) (λ z w. clash (cc)) (λ z w. clash (cc)) s) j xs r)

pub switch_list : (t : Program) (o y : Occurrence) (xs : Row Name) → In o (occurrences t) → o.role ≡ as_switch xs → In y (all_at in_switch xs) → In y (occurrences t)
switch_list (one i) o y xs j r k = item_list i o y xs j r k
switch_list (more is i) o y xs j r k =
    ⊎_elim (λ z. in_left y (occurrences is) (in_item i) (switch_list is o y xs z r k)) (λ z. in_right y (occurrences is) (in_item i) (item_list i o y xs z r k))
    (in_append o (occurrences is) (in_item i) j)
