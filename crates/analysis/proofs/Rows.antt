-- What tree can stand at a node: of groups, and of items. A node that joins two is a row's last part behind the others,
-- or two statements in sequence.
use Rattle.std.proofs.Common.{◌≡◌, ℕ, ◌<◌, Bool, true, false, List, [], None, Option, sym, refl, ap, ◌∙◌, subst, arith}
use Rattle.std.proofs.lemmas.Bool.{both_ways}
use Rattle.parser.specs.declared.node.Node.{Node}
use Rattle.parser.specs.declared.node.Node.TheVariants.{Empty, Literal, Simple, Subscripted, Prefixed, Joined, Bracketed, Compared, Progression, More, Labelled, Conditional, Repeated, Assigned, Go, Switched, Input, Printed, Stop, Comment, Integer, Boolean, Array, Group as GroupNode, Switch}
use Rattle.parser.specs.Records.{View, node, GroupAt, RowAt, ItemAt, StatementAt}
use Rattle.grammar.specs.Tree.{Row, one, more, Group, Statement, labelled, conditional, repeated, assigned, go, switched, input, printed, stop, sequence, Item, comment, integer, boolean, array, switch, action}
use Rattle.symbols.specs.Occurrences.{each}
use Rattle.symbols.specs.Rules.{group_bounds, item_bounds}
use Rattle.analysis.specs.Earliest.{earliest_of, earlier_of}
use Rattle.analysis.proofs.EarlierPlace.{both}

-- A row of groups at a node that joins two.
module _ (v : View) (i a b : ℕ) (joins : node v i ≡ More a b) where
  pub groups_joined : (f : Group → List ℕ) (r s : Option ℕ) → ((hs : Row Group) → RowAt GroupAt v hs a → r ≡ earliest_of (each f hs)) → ((g : Group) → GroupAt v g b → s ≡ earliest_of (f g)) → (gs : Row Group) → RowAt GroupAt v gs i → earlier_of r s ≡ earliest_of (each f gs)
  groups_joined f r s left right (one g) h = let n = h.2.1 in let z : ◌≡◌ {A = ℕ} 0 1 = cc in absurd (omega arith)
  groups_joined f r s left right (more hs g) h =
      let n = h.2 in
      let p : h.0 ≡ a = cc in
      let q : h.1 ≡ b = cc in
      let P : ℕ → Type 0 = λ k. RowAt GroupAt v hs k in
      let Q : ℕ → Type 0 = λ k. GroupAt v g k in
      both r s (each f hs) (f g) (left hs (subst P p h.5)) (right g (subst Q q h.6))

-- A row of groups at any other node is one group.
pub groups_single : (v : View) (i : ℕ) → ((a b : ℕ) → node v i ≡ More a b → ⊥) → (f : Group → List ℕ) (s : Option ℕ) → ((g : Group) → GroupAt v g i → s ≡ earliest_of (f g)) → (gs : Row Group) → RowAt GroupAt v gs i → s ≡ earliest_of (each f gs)
groups_single v i single f s one-group (one g) h = one-group g h
groups_single v i single f s one-group (more hs g) h = absurd (single h.0 h.1 h.2)

-- Nodes that neither join two nor declare arrays.
abbrev is_plain : Node → Bool
is_plain Empty = true
is_plain (Literal n p) = true
is_plain (Simple w) = true
is_plain (Subscripted w a) = true
is_plain (Prefixed o p a) = true
is_plain (Joined o a b) = true
is_plain (Bracketed p a) = true
is_plain (Compared r p a b) = true
is_plain (Progression a b c) = true
is_plain (More a b) = false
is_plain (Labelled w a) = true
is_plain (Conditional p a b) = true
is_plain (Repeated p w a b) = true
is_plain (Assigned a b) = true
is_plain (Go p w) = true
is_plain (Switched p w a) = true
is_plain (Input p a) = true
is_plain (Printed p a) = true
is_plain (Stop p) = true
is_plain Comment = true
is_plain (Integer a) = true
is_plain (Boolean a) = true
is_plain (Array a) = false
is_plain (GroupNode a p l h) = true
is_plain (Switch w a) = true

-- The items at a node: two parts that stand before it, an array declaration, or what has no bounds.
pub data Items (v : View) (i : ℕ) : Row Item → Type 0 where
  a_row : {ts : Row Item} {x : Item} (a b : ℕ) → node v i ≡ More a b → a < i → b < i → RowAt ItemAt v ts a → ItemAt v x b → Items v i (more ts x)
  a_sequence : {s u : Statement} (a b : ℕ) → node v i ≡ More a b → a < i → b < i → StatementAt v s a → StatementAt v u b → Items v i (one (action (sequence s u)))
  arrays : {gs : Row Group} (g : ℕ) → node v i ≡ Array g → RowAt GroupAt v gs g → Items v i (one (array gs))
  no_bounds : {x : Item} → is_plain (node v i) ≡ true → item_bounds x ≡ [] → Items v i (one x)

plain : (v : View) (i : ℕ) (n : Node) → node v i ≡ n → is_plain n ≡ true → is_plain (node v i) ≡ true
plain v i n e p = ap is_plain e ∙ p

pub items_at : (v : View) (i : ℕ) (t : Row Item) → RowAt ItemAt v t i → Items v i t
items_at v i (more ts x) h = a_row h.0 h.1 h.2 h.3 h.4 h.5 h.6
items_at v i (one comment) h = no_bounds (plain v i Comment h refl) refl
items_at v i (one (integer xs)) h = no_bounds (plain v i (Integer h.0) h.1 refl) refl
items_at v i (one (boolean xs)) h = no_bounds (plain v i (Boolean h.0) h.1 refl) refl
items_at v i (one (array gs)) h = arrays h.0 h.1 h.3
items_at v i (one (switch x xs)) h = no_bounds (plain v i (Switch h.0 h.1.0) h.1.1 refl) refl
items_at v i (one (action (labelled x s))) h = no_bounds (plain v i (Labelled h.0 h.1.0) h.1.1 refl) refl
items_at v i (one (action (conditional p c s))) h = no_bounds (plain v i (Conditional p h.0 h.1) h.2 refl) refl
items_at v i (one (action (repeated p x es s))) h = no_bounds (plain v i (Repeated p h.0 h.1.0 h.1.1) h.1.2 refl) refl
items_at v i (one (action (assigned y c))) h = no_bounds (plain v i (Assigned h.0 h.1) h.2 refl) refl
items_at v i (one (action (go p x))) h = no_bounds (plain v i (Go p h.0) h.1 refl) refl
items_at v i (one (action (switched p x c))) h = no_bounds (plain v i (Switched p h.0 h.1.0) h.1.1 refl) refl
items_at v i (one (action (input p y))) h = no_bounds (plain v i (Input p h.0) h.1 refl) refl
items_at v i (one (action (printed p xs))) h = no_bounds (plain v i (Printed p h.0) h.1 refl) refl
items_at v i (one (action (stop p))) h = no_bounds (plain v i (Stop p) h refl) refl
items_at v i (one (action (sequence s u))) h = a_sequence h.0 h.1 h.2 h.3 h.4 h.5 h.6

-- Bounds of items at a node that joins two.
module _ (v : View) (i a b : ℕ) (joins : node v i ≡ More a b) where
  pub items_joined : (r s : Option ℕ) → ((t : Row Item) → RowAt ItemAt v t a → r ≡ earliest_of (each item_bounds t)) → ((t : Row Item) → RowAt ItemAt v t b → s ≡ earliest_of (each item_bounds t)) → {t : Row Item} → Items v i t → earlier_of r s ≡ earliest_of (each item_bounds t)
  items_joined r s left right (a_row {ts} {x} c d n l m h k) =
      let p : c ≡ a = cc in
      let q : d ≡ b = cc in
      let P : ℕ → Type 0 = λ j. RowAt ItemAt v ts j in
      let Q : ℕ → Type 0 = λ j. ItemAt v x j in
      both r s (each item_bounds ts) (item_bounds x) (left ts (subst P p h)) (right (one x) (subst Q q k))
  items_joined r s left right (a_sequence {s = y} {u} c d n l m h k) =
      let p : c ≡ a = cc in
      let q : d ≡ b = cc in
      let P : ℕ → Type 0 = λ j. StatementAt v y j in
      let Q : ℕ → Type 0 = λ j. StatementAt v u j in
      both r s [] [] (left (one (action y)) (subst P p h)) (right (one (action u)) (subst Q q k))
  items_joined r s left right (arrays g n h) = let z : ◌≡◌ {A = ℕ} 0 1 = cc in absurd (omega arith)
  items_joined r s left right (no_bounds p e) = absurd (both_ways (is_plain (node v i)) (ap is_plain joins) p)

-- Bounds of an array declaration, and of a node that neither joins two nor declares arrays.
pub items_arrays : (v : View) (i g : ℕ) → node v i ≡ Array g → (s : Option ℕ) → ((gs : Row Group) → RowAt GroupAt v gs g → s ≡ earliest_of (each group_bounds gs)) → {t : Row Item} → Items v i t → s ≡ earliest_of (each item_bounds t)
items_arrays v i g e s groups (a_row c d n l m h k) = let z : ◌≡◌ {A = ℕ} 0 1 = cc in absurd (omega arith)
items_arrays v i g e s groups (a_sequence c d n l m h k) = let z : ◌≡◌ {A = ℕ} 0 1 = cc in absurd (omega arith)
items_arrays v i g e s groups (arrays {gs} f n h) = let p : f ≡ g = cc in let P : ℕ → Type 0 = λ j. RowAt GroupAt v gs j in groups gs (subst P p h)
items_arrays v i g e s groups (no_bounds p q) = absurd (both_ways (is_plain (node v i)) (ap is_plain e) p)

pub items_plain : (v : View) (i : ℕ) → ((a b : ℕ) → node v i ≡ More a b → ⊥) → ((g : ℕ) → node v i ≡ Array g → ⊥) → {t : Row Item} → Items v i t → None ≡ earliest_of (each item_bounds t)
items_plain v i no_more no-array (a_row c d n l m h k) = absurd (no_more c d n)
items_plain v i no_more no-array (a_sequence c d n l m h k) = absurd (no_more c d n)
items_plain v i no_more no-array (arrays g n h) = absurd (no-array g n)
items_plain v i no_more no-array (no_bounds p e) = ap earliest_of (sym e)
