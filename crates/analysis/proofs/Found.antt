-- The node that a walk finds is the view's, where a row of names, of groups or of items stands there.
use Rattle.std.proofs.Common.{◌≡◌, ℕ, true, List, refl, ◌∙◌}
use Rattle.std.proofs.lemmas.Bool.{lt-ltb}
use Rattle.grammar.specs.Tree.{Row, one, more, Name, labelled, conditional, repeated, assigned, go, switched, input, printed, stop, sequence, Group, Item, comment, integer, boolean, array, switch, action}
use Rattle.parser.specs.declared.node.Node.{Node}
use Rattle.parser.specs.declared.node.Node.TheVariants.{Simple, More, Labelled, Conditional, Repeated, Assigned, Go, Switched, Input, Printed, Stop, Comment, Integer, Boolean, Array, Switch}
use Rattle.parser.specs.declared.table.Record.{Record}
use Rattle.parser.specs.Records.{View, nodes, node, NameAt, GroupAt, RowAt, ItemAt}
use Rattle.analysis.specs.Views.{node_of}
use Rattle.analysis.specs.Ordered.{are_before, ordered}
use Rattle.analysis.proofs.Stands.{stands, two_before}

module _ (rs : List Record) (v : View) (i : ℕ) (n : Node) (held : v.nodes ≡ nodes rs) (is : n ≡ ordered (node_of rs i) i) where
  found : (m : Node) → node v i ≡ m → are_before m i ≡ true → node v i ≡ n
  found m e b = e ∙ stands rs v i n held is m e b

  pub names_are : (xs : Row Name) → RowAt NameAt v xs i → node v i ≡ n
  names_are (one x) h = found (Simple h.0) h.1 refl
  names_are (more xs x) h = found (More h.0 h.1) h.2 (two_before h.0 h.1 i h.3 h.4)

  pub groups_are : (gs : Row Group) → RowAt GroupAt v gs i → node v i ≡ n
  groups_are (one g) h = found _ h.2.1 (lt-ltb h.2.0 i h.2.2)
  groups_are (more gs g) h = found (More h.0 h.1) h.2 (two_before h.0 h.1 i h.3 h.4)

  pub items_are : (t : Row Item) → RowAt ItemAt v t i → node v i ≡ n
  items_are (more ts x) h = found (More h.0 h.1) h.2 (two_before h.0 h.1 i h.3 h.4)
  items_are (one comment) h = found Comment h refl
  items_are (one (integer xs)) h = found (Integer h.0) h.1 (lt-ltb h.0 i h.2)
  items_are (one (boolean xs)) h = found (Boolean h.0) h.1 (lt-ltb h.0 i h.2)
  items_are (one (array gs)) h = found (Array h.0) h.1 (lt-ltb h.0 i h.2)
  items_are (one (switch x xs)) h = found (Switch h.0 h.1.0) h.1.1 (lt-ltb h.1.0 i h.1.2)
  items_are (one (action (labelled x s))) h = found (Labelled h.0 h.1.0) h.1.1 (lt-ltb h.1.0 i h.1.2)
  items_are (one (action (conditional p e s))) h = found (Conditional p h.0 h.1) h.2 (two_before h.0 h.1 i h.3 h.4)
  items_are (one (action (repeated p x es s))) h = found (Repeated p h.0 h.1.0 h.1.1) h.1.2 (two_before h.1.0 h.1.1 i h.1.3 h.1.4)
  items_are (one (action (assigned y e))) h = found (Assigned h.0 h.1) h.2 (two_before h.0 h.1 i h.3 h.4)
  items_are (one (action (go p x))) h = found (Go p h.0) h.1 refl
  items_are (one (action (switched p x e))) h = found (Switched p h.0 h.1.0) h.1.1 (lt-ltb h.1.0 i h.1.2)
  items_are (one (action (input p y))) h = found (Input p h.0) h.1 (lt-ltb h.0 i h.2)
  items_are (one (action (printed p es))) h = found (Printed p h.0) h.1 (lt-ltb h.0 i h.2)
  items_are (one (action (stop p))) h = found (Stop p) h refl
  items_are (one (action (sequence s u))) h = found (More h.0 h.1) h.2 (two_before h.0 h.1 i h.3 h.4)
