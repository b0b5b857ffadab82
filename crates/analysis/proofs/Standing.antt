-- What tree can stand at a node: for each node the items or statements that it can be.
use Rattle.std.proofs.Common.{◌≡◌, ℕ, ◌<◌, sym, subst}
use Rattle.parser.specs.declared.node.Node.{Node}
use Rattle.parser.specs.declared.node.Node.TheVariants.{More, Labelled, Conditional, Repeated, Assigned, Go, Switched, Input, Printed, Stop, Comment, Integer, Boolean, Array, Switch}
use Rattle.parser.specs.Records.{View, node, Named, NameAt, GroupAt, RowAt, ItemAt}
use Rattle.grammar.specs.Tree.{Row, one, more, Name, Exp, Variable, Element, Group, Statement, labelled, conditional, repeated, assigned, go, switched, input, printed, stop, sequence, Item, comment, integer, boolean, array, switch, action}

-- The items t stand at node i, which is n; their parts that hold statements or names stand before it.
pub data Stands (v : View) (i : ℕ) : Node → Row Item → Type 0 where
  a_row : {ts : Row Item} {x : Item} {a b : ℕ} → a < i → b < i → RowAt ItemAt v ts a → RowAt ItemAt v (one x) b → Stands v i (More a b) (more ts x)
  a_sequence : {s u : Statement} {a b : ℕ} → a < i → b < i → RowAt ItemAt v (one (action s)) a → RowAt ItemAt v (one (action u)) b → Stands v i (More a b) (one (action (sequence s u)))
  a_label : {x : Name} {s : Statement} {w a : ℕ} → Named v w x → a < i → RowAt ItemAt v (one (action s)) a → Stands v i (Labelled w a) (one (action (labelled x s)))
  a_condition : {p : ℕ} {e : Exp} {s : Statement} {a b : ℕ} → b < i → RowAt ItemAt v (one (action s)) b → Stands v i (Conditional p a b) (one (action (conditional p e s)))
  a_repetition : {p : ℕ} {x : Name} {es : Row Element} {s : Statement} {w a b : ℕ} → b < i → RowAt ItemAt v (one (action s)) b → Stands v i (Repeated p w a b) (one (action (repeated p x es s)))
  an_assignment : {y : Variable} {e : Exp} {a b : ℕ} → Stands v i (Assigned a b) (one (action (assigned y e)))
  a_jump : {p : ℕ} {x : Name} {w : ℕ} → Stands v i (Go p w) (one (action (go p x)))
  a_choice : {p : ℕ} {x : Name} {e : Exp} {w a : ℕ} → Stands v i (Switched p w a) (one (action (switched p x e)))
  an_input : {p : ℕ} {y : Variable} {a : ℕ} → Stands v i (Input p a) (one (action (input p y)))
  a_print : {p : ℕ} {es : Row Exp} {a : ℕ} → Stands v i (Printed p a) (one (action (printed p es)))
  a_stop : {p : ℕ} → Stands v i (Stop p) (one (action (stop p)))
  a_comment : Stands v i Comment (one comment)
  integers : {xs : Row Name} {a : ℕ} → RowAt NameAt v xs a → Stands v i (Integer a) (one (integer xs))
  booleans : {xs : Row Name} {a : ℕ} → RowAt NameAt v xs a → Stands v i (Boolean a) (one (boolean xs))
  arrays : {gs : Row Group} {a : ℕ} → RowAt GroupAt v gs a → Stands v i (Array a) (one (array gs))
  a_switch : {x : Name} {xs : Row Name} {w a : ℕ} → Named v w x → RowAt NameAt v xs a → Stands v i (Switch w a) (one (switch x xs))

module _ (v : View) (i : ℕ) where
  known_as : (n : Node) (t : Row Item) → node v i ≡ n → Stands v i n t → Stands v i (node v i) t
  known_as n t e s = subst (λ (m : Node). Stands v i m t) (sym e) s

  pub stands : (t : Row Item) → RowAt ItemAt v t i → Stands v i (node v i) t
  stands (more ts x) h = known_as (More h.0 h.1) (more ts x) h.2 (a_row h.3 h.4 h.5 h.6)
  stands (one comment) h = known_as Comment (one comment) h a_comment
  stands (one (integer xs)) h = known_as (Integer h.0) (one (integer xs)) h.1 (integers h.3)
  stands (one (boolean xs)) h = known_as (Boolean h.0) (one (boolean xs)) h.1 (booleans h.3)
  stands (one (array gs)) h = known_as (Array h.0) (one (array gs)) h.1 (arrays h.3)
  stands (one (switch x xs)) h = known_as (Switch h.0 h.1.0) (one (switch x xs)) h.1.1 (a_switch h.2 h.1.3)
  stands (one (action (labelled x s))) h = known_as (Labelled h.0 h.1.0) (one (action (labelled x s))) h.1.1 (a_label h.2 h.1.2 h.1.3)
  stands (one (action (conditional p e s))) h = known_as (Conditional p h.0 h.1) (one (action (conditional p e s))) h.2 (a_condition h.4 h.6)
  stands (one (action (repeated p x es s))) h = known_as (Repeated p h.0 h.1.0 h.1.1) (one (action (repeated p x es s))) h.1.2 (a_repetition h.1.4 h.1.6)
  stands (one (action (assigned y e))) h = known_as (Assigned h.0 h.1) (one (action (assigned y e))) h.2 an_assignment
  stands (one (action (go p x))) h = known_as (Go p h.0) (one (action (go p x))) h.1 a_jump
  stands (one (action (switched p x e))) h = known_as (Switched p h.0 h.1.0) (one (action (switched p x e))) h.1.1 a_choice
  stands (one (action (input p y))) h = known_as (Input p h.0) (one (action (input p y))) h.1 an_input
  stands (one (action (printed p es))) h = known_as (Printed p h.0) (one (action (printed p es))) h.1 a_print
  stands (one (action (stop p))) h = known_as (Stop p) (one (action (stop p))) h a_stop
  stands (one (action (sequence s u))) h = known_as (More h.0 h.1) (one (action (sequence s u))) h.2 (a_sequence h.3 h.4 h.5 h.6)

  -- What stands at a node that is known.
  pub stands_as : (n : Node) → node v i ≡ n → (t : Row Item) → RowAt ItemAt v t i → Stands v i n t
  stands_as n e t h = subst (λ (m : Node). Stands v i m t) e (stands t h)
