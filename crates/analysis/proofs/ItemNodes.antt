-- What items can stand at a node. A node that joins two is a row's last item behind the others, or two statements in
-- sequence.
use Rattle.std.proofs.Common.{◌≡◌, ℕ, true, List, ◌++◌, Option, sym, refl, ap, ◌∙◌, subst}
use Rattle.std.proofs.lemmas.Bool.{lt-ltb}
use Rattle.grammar.specs.Tree.{Row, one, more, Name, Exp, Variable, Element, Statement, labelled, conditional, repeated, assigned, go, switched, input, printed, stop, sequence, Group, Item, comment, integer, boolean, array, switch, action}
use Rattle.parser.specs.declared.node.Node.{Node}
use Rattle.parser.specs.declared.node.Node.TheVariants.{More, Labelled, Conditional, Repeated, Assigned, Go, Switched, Input, Printed, Stop, Comment, Integer, Boolean, Array, Switch}
use Rattle.parser.specs.declared.table.Record.{Record}
use Rattle.parser.specs.Records.{View, nodes, node, Named, ExpAt, VariableAt, ElementAt, NameAt, RowAt, ItemAt, StatementAt}
use Rattle.symbols.specs.Occurrences.{each}
use Rattle.analysis.specs.Views.{node_of}
use Rattle.analysis.specs.Ordered.{are_before, ordered}
use Rattle.analysis.specs.Earliest.{earliest_of, earlier_of}
use Rattle.analysis.proofs.EarlierPlace.{both}
use Rattle.analysis.proofs.Stands.{stands, two_before}

abbrev pub act : Statement → Row Item
act s = one (action s)

pub data ItemsNode (v : View) : Node → Row Item → Type 0 where
  row_at : {a b : ℕ} {ts : Row Item} {x : Item} → RowAt ItemAt v ts a → ItemAt v x b → ItemsNode v (More a b) (more ts x)
  sequence_at : {a b : ℕ} {s u : Statement} → StatementAt v s a → StatementAt v u b → ItemsNode v (More a b) (one (action (sequence s u)))
  labelled_at : {w a : ℕ} {x : Name} {s : Statement} → Named v w x → StatementAt v s a → ItemsNode v (Labelled w a) (one (action (labelled x s)))
  conditional_at : {p a b : ℕ} {e : Exp} {s : Statement} → ExpAt v e a → StatementAt v s b → ItemsNode v (Conditional p a b) (one (action (conditional p e s)))
  repeated_at : {p w a b : ℕ} {x : Name} {es : Row Element} {s : Statement} → Named v w x → RowAt ElementAt v es a → StatementAt v s b → ItemsNode v (Repeated p w a b) (one (action (repeated p x es s)))
  assigned_at : {a b : ℕ} {y : Variable} {e : Exp} → VariableAt v y a → ExpAt v e b → ItemsNode v (Assigned a b) (one (action (assigned y e)))
  go_at : {p w : ℕ} {x : Name} → Named v w x → ItemsNode v (Go p w) (one (action (go p x)))
  switched_at : {p w a : ℕ} {x : Name} {e : Exp} → Named v w x → ExpAt v e a → ItemsNode v (Switched p w a) (one (action (switched p x e)))
  input_at : {p a : ℕ} {y : Variable} → VariableAt v y a → ItemsNode v (Input p a) (one (action (input p y)))
  printed_at : {p a : ℕ} {es : Row Exp} → RowAt ExpAt v es a → ItemsNode v (Printed p a) (one (action (printed p es)))
  stop_at : {p : ℕ} → ItemsNode v (Stop p) (one (action (stop p)))
  comment_at : ItemsNode v Comment (one comment)
  integer_at : {a : ℕ} {xs : Row Name} → ItemsNode v (Integer a) (one (integer xs))
  boolean_at : {a : ℕ} {xs : Row Name} → ItemsNode v (Boolean a) (one (boolean xs))
  array_at : {a : ℕ} {gs : Row Group} → ItemsNode v (Array a) (one (array gs))
  switch_at : {w a : ℕ} {x : Name} {xs : Row Name} → Named v w x → RowAt NameAt v xs a → ItemsNode v (Switch w a) (one (switch x xs))

-- Where the walk finds node n, the items are such as can stand there.
module _ (rs : List Record) (v : View) (i : ℕ) (n : Node) (held : v.nodes ≡ nodes rs) (is : n ≡ ordered (node_of rs i) i) where
  put : (t : Row Item) (m : Node) → node v i ≡ m → are_before m i ≡ true → ItemsNode v m t → ItemsNode v n t
  put t m q b x = let P : Node → Type 0 = λ k. ItemsNode v k t in subst P (stands rs v i n held is m q b) x

  pub items_node : (t : Row Item) → RowAt ItemAt v t i → ItemsNode v n t
  items_node (more ts x) h = put (more ts x) (More h.0 h.1) h.2 (two_before h.0 h.1 i h.3 h.4) (row_at h.5 h.6)
  items_node (one comment) h = put (one comment) Comment h refl comment_at
  items_node (one (integer xs)) h = put (one (integer xs)) (Integer h.0) h.1 (lt-ltb h.0 i h.2) integer_at
  items_node (one (boolean xs)) h = put (one (boolean xs)) (Boolean h.0) h.1 (lt-ltb h.0 i h.2) boolean_at
  items_node (one (array gs)) h = put (one (array gs)) (Array h.0) h.1 (lt-ltb h.0 i h.2) array_at
  items_node (one (switch x xs)) h = put (one (switch x xs)) (Switch h.0 h.1.0) h.1.1 (lt-ltb h.1.0 i h.1.2) (switch_at h.2 h.1.3)
  items_node (one (action (labelled x s))) h = put (act (labelled x s)) (Labelled h.0 h.1.0) h.1.1 (lt-ltb h.1.0 i h.1.2) (labelled_at h.2 h.1.3)
  items_node (one (action (conditional p e s))) h = put (act (conditional p e s)) (Conditional p h.0 h.1) h.2 (two_before h.0 h.1 i h.3 h.4) (conditional_at h.5 h.6)
  items_node (one (action (repeated p x es s))) h = put (act (repeated p x es s)) (Repeated p h.0 h.1.0 h.1.1) h.1.2 (two_before h.1.0 h.1.1 i h.1.3 h.1.4) (repeated_at h.2 h.1.5 h.1.6)
  items_node (one (action (assigned y e))) h = put (act (assigned y e)) (Assigned h.0 h.1) h.2 (two_before h.0 h.1 i h.3 h.4) (assigned_at h.5 h.6)
  items_node (one (action (go p x))) h = put (act (go p x)) (Go p h.0) h.1 refl (go_at h.2)
  items_node (one (action (switched p x e))) h = put (act (switched p x e)) (Switched p h.0 h.1.0) h.1.1 (lt-ltb h.1.0 i h.1.2) (switched_at h.2 h.1.3)
  items_node (one (action (input p y))) h = put (act (input p y)) (Input p h.0) h.1 (lt-ltb h.0 i h.2) (input_at h.3)
  items_node (one (action (printed p es))) h = put (act (printed p es)) (Printed p h.0) h.1 (lt-ltb h.0 i h.2) (printed_at h.3)
  items_node (one (action (stop p))) h = put (act (stop p)) (Stop p) h refl stop_at
  items_node (one (action (sequence s u))) h = put (act (sequence s u)) (More h.0 h.1) h.2 (two_before h.0 h.1 i h.3 h.4) (sequence_at h.5 h.6)

-- What holds of all items that can stand at a node holds of those that do.
module _ {v : View} (P : Row Item → Type 0) where
  pub from_joined : {a b : ℕ} {t : Row Item} → ItemsNode v (More a b) t
      → ((ts : Row Item) (x : Item) → RowAt ItemAt v ts a → ItemAt v x b → P (more ts x))
      → ((s u : Statement) → StatementAt v s a → StatementAt v u b → P (act (sequence s u))) → P t
  from_joined (row_at {ts = ts} {x = x} h k) f g = f ts x h k
  from_joined (sequence_at {s = s} {u = u} h k) f g = g s u h k

  pub from_labelled : {w a : ℕ} {t : Row Item} → ItemsNode v (Labelled w a) t → ((x : Name) (s : Statement) → Named v w x → StatementAt v s a → P (act (labelled x s))) → P t
  from_labelled (labelled_at {x = x} {s = s} n h) f = f x s n h

  pub from_conditional : {p a b : ℕ} {t : Row Item} → ItemsNode v (Conditional p a b) t → ((e : Exp) (s : Statement) → ExpAt v e a → StatementAt v s b → P (act (conditional p e s))) → P t
  from_conditional (conditional_at {e = e} {s = s} h k) f = f e s h k

  pub from_repeated : {p w a b : ℕ} {t : Row Item} → ItemsNode v (Repeated p w a b) t → ((x : Name) (es : Row Element) (s : Statement) → Named v w x → RowAt ElementAt v es a → StatementAt v s b → P (act (repeated p x es s))) → P t
  from_repeated (repeated_at {x = x} {es = es} {s = s} n h k) f = f x es s n h k

  pub from_assigned : {a b : ℕ} {t : Row Item} → ItemsNode v (Assigned a b) t → ((y : Variable) (e : Exp) → VariableAt v y a → ExpAt v e b → P (act (assigned y e))) → P t
  from_assigned (assigned_at {y = y} {e = e} h k) f = f y e h k

  pub from_go : {p w : ℕ} {t : Row Item} → ItemsNode v (Go p w) t → ((x : Name) → Named v w x → P (act (go p x))) → P t
  from_go (go_at {x = x} n) f = f x n

  pub from_switched : {p w a : ℕ} {t : Row Item} → ItemsNode v (Switched p w a) t → ((x : Name) (e : Exp) → Named v w x → ExpAt v e a → P (act (switched p x e))) → P t
  from_switched (switched_at {x = x} {e = e} n h) f = f x e n h

  pub from_input : {p a : ℕ} {t : Row Item} → ItemsNode v (Input p a) t → ((y : Variable) → VariableAt v y a → P (act (input p y))) → P t
  from_input (input_at {y = y} h) f = f y h

  pub from_printed : {p a : ℕ} {t : Row Item} → ItemsNode v (Printed p a) t → ((es : Row Exp) → RowAt ExpAt v es a → P (act (printed p es))) → P t
  from_printed (printed_at {es = es} h) f = f es h

  pub from_switch : {w a : ℕ} {t : Row Item} → ItemsNode v (Switch w a) t → ((x : Name) (xs : Row Name) → Named v w x → RowAt NameAt v xs a → P (one (switch x xs))) → P t
  from_switch (switch_at {x = x} {xs = xs} n h) f = f x xs n h

-- The earliest of two joined parts is the earlier of their earliest, for every rule that goes over sequences part by part.
module _ {v : View} (f : Item → List ℕ) (parts : (s u : Statement) → f (action (sequence s u)) ≡ f (action s) ++ f (action u)) (r q : Option ℕ) {a b : ℕ} where
  pub earliest_joined : {t : Row Item} → ItemsNode v (More a b) t
      → ((u : Row Item) → RowAt ItemAt v u a → r ≡ earliest_of (each f u)) → ((u : Row Item) → RowAt ItemAt v u b → q ≡ earliest_of (each f u))
      → earlier_of r q ≡ earliest_of (each f t)
  earliest_joined x left right = from_joined (λ t. earlier_of r q ≡ earliest_of (each f t)) x
      (λ ts y h k. both r q (each f ts) (f y) (left ts h) (right (one y) k))
      (λ s u h k. both r q (f (action s)) (f (action u)) (left (act s) h) (right (act u) k) ∙ ap earliest_of (sym (parts s u)))
