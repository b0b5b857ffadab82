-- What expression can stand at a node, and what elements.
use Rattle.std.proofs.Common.{◌≡◌, ℕ, true, List, refl, subst}
use Rattle.std.proofs.lemmas.Bool.{lt-ltb}
use Rattle.words.specs.declared.token.Relation.{Relation}
use Rattle.grammar.specs.declared.operator.Operator.{Operator}
use Rattle.grammar.specs.declared.operator.Prefix.{Prefix}
use Rattle.grammar.specs.Tree.{Row, one, more, Name, Exp, literal, simple, subscripted, prefixed, joined, bracketed, compared, Element, single, progression}
use Rattle.parser.specs.declared.node.Node.{Node}
use Rattle.parser.specs.declared.node.Node.TheVariants.{Literal, Simple, Subscripted, Prefixed, Joined, Bracketed, Compared, Progression, More}
use Rattle.parser.specs.declared.table.Record.{Record}
use Rattle.parser.specs.Records.{View, nodes, node, Named, ExpAt, ElementAt, RowAt}
use Rattle.analysis.specs.Views.{node_of}
use Rattle.analysis.specs.Ordered.{are_before, ordered}
use Rattle.analysis.proofs.Stands.{stands, two_before, three_before}

pub data ExpNode (v : View) : Node → Exp → Type 0 where
  literal_at : {n p : ℕ} → ExpNode v (Literal n p) (literal n p)
  simple_at : {w : ℕ} {x : Name} → Named v w x → ExpNode v (Simple w) (simple x)
  subscripted_at : {w a : ℕ} {x : Name} {e : Exp} → Named v w x → ExpAt v e a → ExpNode v (Subscripted w a) (subscripted x e)
  prefixed_at : {o : Prefix} {p a : ℕ} {e : Exp} → ExpAt v e a → ExpNode v (Prefixed o p a) (prefixed o p e)
  joined_at : {o : Operator} {a b : ℕ} {e f : Exp} → ExpAt v e a → ExpAt v f b → ExpNode v (Joined o a b) (joined o e f)
  bracketed_at : {p a : ℕ} {e : Exp} → ExpAt v e a → ExpNode v (Bracketed p a) (bracketed p e)
  compared_at : {r : Relation} {p a b : ℕ} {e f : Exp} → ExpAt v e a → ExpAt v f b → ExpNode v (Compared r p a b) (compared r p e f)

-- A row of elements is two parts, a progression, or an expression.
pub data ElementsNode (v : View) (i : ℕ) : Node → Row Element → Type 0 where
  more_at : {a b : ℕ} {es : Row Element} {e : Element} → RowAt ElementAt v es a → ElementAt v e b → ElementsNode v i (More a b) (more es e)
  progression_at : {a b c : ℕ} {e f g : Exp} → ExpAt v e a → ExpAt v f b → ExpAt v g c → ElementsNode v i (Progression a b c) (one (progression e f g))
  single_at : {n : Node} {e : Exp} → ExpNode v n e → ExpAt v e i → ElementsNode v i n (one (single e))

-- Where the walk finds node n, the tree is one that can stand there.
module _ (rs : List Record) (v : View) (i : ℕ) (n : Node) (held : v.nodes ≡ nodes rs) (is : n ≡ ordered (node_of rs i) i) where
  put : (e : Exp) (m : Node) → node v i ≡ m → are_before m i ≡ true → ExpNode v m e → ExpNode v n e
  put e m q b x = let P : Node → Type 0 = λ k. ExpNode v k e in subst P (stands rs v i n held is m q b) x

  pub exp_node : (e : Exp) → ExpAt v e i → ExpNode v n e
  exp_node (literal k p) h = put (literal k p) (Literal k p) h refl literal_at
  exp_node (simple x) h = put (simple x) (Simple h.0) h.1 refl (simple_at h.2)
  exp_node (subscripted x e) h = put (subscripted x e) (Subscripted h.0 h.1.0) h.1.1 (lt-ltb h.1.0 i h.1.2) (subscripted_at h.2 h.1.3)
  exp_node (prefixed o p e) h = put (prefixed o p e) (Prefixed o p h.0) h.1 (lt-ltb h.0 i h.2) (prefixed_at h.3)
  exp_node (joined o e f) h = put (joined o e f) (Joined o h.0 h.1) h.2 (two_before h.0 h.1 i h.3 h.4) (joined_at h.5 h.6)
  exp_node (bracketed p e) h = put (bracketed p e) (Bracketed p h.0) h.1 (lt-ltb h.0 i h.2) (bracketed_at h.3)
  exp_node (compared r p e f) h = put (compared r p e f) (Compared r p h.0 h.1) h.2 (two_before h.0 h.1 i h.3 h.4) (compared_at h.5 h.6)

  pub elements_node : (es : Row Element) → RowAt ElementAt v es i → ElementsNode v i n es
  elements_node (one (single e)) h = single_at (exp_node e h) h
  elements_node (one (progression e f g)) h =
      let P : Node → Type 0 = λ k. ElementsNode v i k (one (progression e f g)) in
      subst P (stands rs v i n held is (Progression h.0 h.1.0 h.1.1) h.1.2 (three_before h.0 h.1.0 h.1.1 i h.2 h.1.3 h.1.4))
      (progression_at h.3 h.1.5 h.1.6)
  elements_node (more es e) h =
      let P : Node → Type 0 = λ k. ElementsNode v i k (more es e) in
      subst P (stands rs v i n held is (More h.0 h.1) h.2 (two_before h.0 h.1 i h.3 h.4)) (more_at h.5 h.6)

-- What holds of all trees that can stand at a node holds of the one that does.
module _ {v : View} (P : Exp → Type 0) where
  pub from_literal : {n p : ℕ} {e : Exp} → ExpNode v (Literal n p) e → P (literal n p) → P e
  from_literal literal_at f = f

  pub from_simple : {w : ℕ} {e : Exp} → ExpNode v (Simple w) e → ((x : Name) → Named v w x → P (simple x)) → P e
  from_simple (simple_at {x = x} n) f = f x n

  pub from_subscripted : {w a : ℕ} {e : Exp} → ExpNode v (Subscripted w a) e → ((x : Name) (g : Exp) → Named v w x → ExpAt v g a → P (subscripted x g)) → P e
  from_subscripted (subscripted_at {x = x} {e = g} n h) f = f x g n h

  pub from_prefixed : {o : Prefix} {p a : ℕ} {e : Exp} → ExpNode v (Prefixed o p a) e → ((g : Exp) → ExpAt v g a → P (prefixed o p g)) → P e
  from_prefixed (prefixed_at {e = g} h) f = f g h

  pub from_joined : {o : Operator} {a b : ℕ} {e : Exp} → ExpNode v (Joined o a b) e → ((g k : Exp) → ExpAt v g a → ExpAt v k b → P (joined o g k)) → P e
  from_joined (joined_at {e = g} {f = k} h j) f = f g k h j

  pub from_bracketed : {p a : ℕ} {e : Exp} → ExpNode v (Bracketed p a) e → ((g : Exp) → ExpAt v g a → P (bracketed p g)) → P e
  from_bracketed (bracketed_at {e = g} h) f = f g h

  pub from_compared : {r : Relation} {p a b : ℕ} {e : Exp} → ExpNode v (Compared r p a b) e → ((g k : Exp) → ExpAt v g a → ExpAt v k b → P (compared r p g k)) → P e
  from_compared (compared_at {e = g} {f = k} h j) f = f g k h j

-- At a node of none of these sorts no expression stands.
pub no_exp : {v : View} {n : Node} {e : Exp} → ExpNode v n e
    → ((k p : ℕ) → n ≡ Literal k p → ⊥) → ((w : ℕ) → n ≡ Simple w → ⊥) → ((w a : ℕ) → n ≡ Subscripted w a → ⊥)
    → ((o : Prefix) (p a : ℕ) → n ≡ Prefixed o p a → ⊥) → ((o : Operator) (a b : ℕ) → n ≡ Joined o a b → ⊥)
    → ((p a : ℕ) → n ≡ Bracketed p a → ⊥) → ((r : Relation) (p a b : ℕ) → n ≡ Compared r p a b → ⊥) → ⊥
no_exp (literal_at {n = k} {p = q}) l s u p j b c = l k q refl
no_exp (simple_at {w = w} n) l s u p j b c = s w refl
no_exp (subscripted_at {w = w} {a = a} n h) l s u p j b c = u w a refl
no_exp (prefixed_at {o = o} {p = q} {a = a} h) l s u p j b c = p o q a refl
no_exp (joined_at {o = o} {a = a} {b = b'} h k) l s u p j b c = j o a b' refl
no_exp (bracketed_at {p = q} {a = a} h) l s u p j b c = b q a refl
no_exp (compared_at {r = r} {p = q} {a = a} {b = b'} h k) l s u p j b c = c r q a b' refl

module _ {v : View} {i : ℕ} (P : Row Element → Type 0) where
  pub from_more : {a b : ℕ} {es : Row Element} → ElementsNode v i (More a b) es → ((fs : Row Element) (f : Element) → RowAt ElementAt v fs a → ElementAt v f b → P (more fs f)) → P es
  from_more (more_at {es = fs} {e = f} h k) g = g fs f h k
  from_more (single_at x h) g = elim x [ ]

  pub from_progression : {a b c : ℕ} {es : Row Element} → ElementsNode v i (Progression a b c) es → ((e f g : Exp) → ExpAt v e a → ExpAt v f b → ExpAt v g c → P (one (progression e f g))) → P es
  from_progression (progression_at {e = e} {f = f} {g = g} h k l) q = q e f g h k l
  from_progression (single_at x h) q = elim x [ ]

  pub from_single : {n : Node} {es : Row Element} → ElementsNode v i n es → ((a b : ℕ) → n ≡ More a b → ⊥) → ((a b c : ℕ) → n ≡ Progression a b c → ⊥) → ((e : Exp) → ExpAt v e i → P (one (single e))) → P es
  from_single (more_at {a = a} {b = b} h k) m p g = absurd (m a b refl)
  from_single (progression_at {a = a} {b = b} {c = c} h k l) m p g = absurd (p a b c refl)
  from_single (single_at {e = e} x h) m p g = g e h
