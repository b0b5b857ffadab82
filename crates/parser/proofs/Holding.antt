-- A tree that stands in the table stays there, and a new node holds its parts.
use Rattle.std.proofs.Common.{◌≡◌, ℕ, ◌<◌, ◌≤◌, ◌≢◌, List, length, get_or, set, ap, ◌∙◌, arith, get_or-set_other, get_or-set_same}
use Rattle.words.specs.Token.{Word}
use Rattle.grammar.specs.Grammar.{Part, Tree}
use Rattle.grammar.specs.Tree.{Row, one, more, Name, Exp, literal, simple, subscripted, prefixed, joined, bracketed, compared}
use Rattle.parser.specs.declared.node.Node.{Node}
use Rattle.parser.specs.declared.node.Node.TheVariants.{Empty, Subscripted, Prefixed, Joined, Bracketed, Compared, More}
use Rattle.parser.specs.declared.table.Parser.{Parser}
use Rattle.parser.specs.Records.{nodes, all, View, view, node, Named, One, Two, ExpAt, NameAt, RowAt}
use Rattle.parser.specs.Promises.{Made, Moves}
use Rattle.parser.proofs.Tables.{length_nodes}

-- From s to q the words and the nodes made before stay.
pub record Keeps (s q : Parser) : Type 0 where
  pub words : all q ≡ all s
  pub more : s.made ≤ q.made
  pub kept : (j : ℕ) → j < s.made → get_or (nodes q.table.now) j Empty ≡ get_or (nodes s.table.now) j Empty

pub moves_keep : (s q : Parser) → Moves s q → Keeps s q
moves_keep s q m = record { words = m.same.words; more = m.more; kept = m.kept }

pub made_keeps : (n : Node) (i : ℕ) (s q : Parser) → Made n i s q → Keeps s q
made_keeps n i s q t = record {
  words = t.same.words;
  more = omega (arith, t.made);
  kept = λ j x. ap (λ (l : List Node). get_or l j Empty) t.nodes ∙ other (nodes s.table.now) j s.made (omega arith);
}
  where
    other : (l : List Node) (j k : ℕ) → j ≢ k → get_or (set l k n) j Empty ≡ get_or l j Empty
    other l j k ne = rw get_or-set_other

pub keeps_trans : (r s q : Parser) → Keeps r s → Keeps s q → Keeps r q
keeps_trans r s q h k = record { words = k.words ∙ h.words; more = omega (arith, h.more, k.more); kept = λ j x. k.kept j (omega (arith, h.more)) ∙ h.kept j x }

module _ (s q : Parser) (m : Keeps s q) where
  pub named_stays : (w : ℕ) (x : Name) → Named (view s) w x → Named (view q) w x
  named_stays w x h = (omega (arith, h.0, ap length m.words), λ d. ap (λ (l : List Word). get_or l w d) m.words ∙ h.1 d)

  pub one_stays : (i : ℕ) (n : ℕ → Node) (A B : ℕ → Type 0) → i < s.made → ((p : ℕ) → p < s.made → A p → B p) → One (view s) i n A → One (view q) i n B
  one_stays i n A B lt f h = (h.0, m.kept i lt ∙ h.1, h.2, f h.0 (omega (arith, h.2)) h.3)

  pub two_stays : (i : ℕ) (n : ℕ → ℕ → Node) (A B C D : ℕ → Type 0) → i < s.made → ((p : ℕ) → p < s.made → A p → C p) → ((p : ℕ) → p < s.made → B p → D p) → Two (view s) i n A B → Two (view q) i n C D
  two_stays i n A B C D lt f g h = (h.0, h.1, m.kept i lt ∙ h.2, h.3, h.4, f h.0 (omega (arith, h.3)) h.5, g h.1 (omega (arith, h.4)) h.6)

  pub exp_stays : (e : Exp) (i : ℕ) → i < s.made → ExpAt (view s) e i → ExpAt (view q) e i
  exp_stays (literal n b) i lt h = m.kept i lt ∙ h
  exp_stays (simple x) i lt h = (h.0, m.kept i lt ∙ h.1, named_stays h.0 x h.2)
  exp_stays (subscripted x e) i lt h = (h.0, one_stays i (Subscripted h.0) (λ p. ExpAt (view s) e p) (λ p. ExpAt (view q) e p) lt (λ p k. exp_stays e p k) h.1, named_stays h.0 x h.2)
  exp_stays (prefixed o b e) i lt h = one_stays i (Prefixed o b) (λ p. ExpAt (view s) e p) (λ p. ExpAt (view q) e p) lt (λ p k. exp_stays e p k) h
  exp_stays (joined o e f) i lt h = two_stays i (Joined o) (λ p. ExpAt (view s) e p) (λ p. ExpAt (view s) f p) (λ p. ExpAt (view q) e p) (λ p. ExpAt (view q) f p) lt (λ p k. exp_stays e p k) (λ p k. exp_stays f p k) h
  exp_stays (bracketed b e) i lt h = one_stays i (Bracketed b) (λ p. ExpAt (view s) e p) (λ p. ExpAt (view q) e p) lt (λ p k. exp_stays e p k) h
  exp_stays (compared c b e f) i lt h = two_stays i (Compared c b) (λ p. ExpAt (view s) e p) (λ p. ExpAt (view s) f p) (λ p. ExpAt (view q) e p) (λ p. ExpAt (view q) f p) lt (λ p k. exp_stays e p k) (λ p k. exp_stays f p k) h

  pub name_stays : (x : Name) (i : ℕ) → i < s.made → NameAt (view s) x i → NameAt (view q) x i
  name_stays x i lt h = (h.0, m.kept i lt ∙ h.1, named_stays h.0 x h.2)

-- The node that was made stands at its place.
pub made_node : (n : Node) (i : ℕ) (s q : Parser) → s.made < s.at → Made n i s q → node (view q) i ≡ n
made_node n i s q paid t =
    ap (λ (l : List Node). get_or l i Empty) t.nodes ∙ (ap (λ j. get_or (set (nodes s.table.now) s.made n) j Empty) t.place ∙ same (nodes s.table.now) s.made (omega (arith, length_nodes s.table.now, s.within, s.room)))
  where
    same : (l : List Node) (i : ℕ) → i < length l → get_or (set l i n) i Empty ≡ n
    same l i lt = rw get_or-set_same

-- What a part's tree at a node needs to stay there.
abbrev pub Stays : {A : Type 0} → (View → A → ℕ → Type 0) → Type 0
Stays {A} At = (s q : Parser) → Keeps s q → (t : A) (i : ℕ) → i < s.made → At (view s) t i → At (view q) t i

module _ (p : Part) (At : View → Tree p → ℕ → Type 0) (stays : Stays At) where
  pub row_stays : (s q : Parser) → Keeps s q → (ts : Row (Tree p)) (i : ℕ) → i < s.made → RowAt At (view s) ts i → RowAt At (view q) ts i
  row_stays s q m (one t) i lt h = stays s q m t i lt h
  row_stays s q m (more ts t) i lt h =
      two_stays s q m i More (λ j. RowAt At (view s) ts j) (λ j. At (view s) t j) (λ j. RowAt At (view q) ts j) (λ j. At (view q) t j) lt (λ j k. row_stays s q m ts j k) (λ j k. stays s q m t j k) h
