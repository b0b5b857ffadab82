-- Trees of elements, groups, statements and items that stand in the table stay there.
use Rattle.std.proofs.Common.{◌≡◌, ℕ, ◌+◌, ◌<◌, ◌∙◌, arith}
use Rattle.grammar.specs.Tree.{Row, one, more, Variable, whole, indexed, Element, single, progression, Statement, labelled, conditional, repeated, assigned, go, switched, input, printed, stop, sequence, block, Group, Item, comment, integer, boolean, array, switch, action}
use Rattle.grammar.specs.Grammar.{Part, ranked, factor, variable, identifier, bound, group, element, statement, item, exp, Phrase, Tree, Value}
use Rattle.grammar.specs.Parser.{done}
use Rattle.parser.specs.declared.node.Node.{Node}
use Rattle.parser.specs.declared.node.Node.TheVariants.{Subscripted, Progression, More, Labelled, Conditional, Repeated, Assigned, Switched, Input, Printed, Integer, Boolean, Array, Group as GroupNode, Switch}
use Rattle.parser.specs.declared.table.Parser.{Parser}
use Rattle.parser.specs.Records.{View, view, node, ExpAt, VariableAt, ElementAt, NameAt, RowAt, StatementAt, GroupAt, ItemAt, TreeAt}
use Rattle.parser.specs.Promises.{Made, Moves, Spot, here, Goes, Read}
use Rattle.parser.proofs.Going.{goes_made}
use Rattle.parser.proofs.Holding.{Keeps, moves_keep, made_keeps, keeps_trans, made_node, named_stays, one_stays, two_stays, exp_stays, name_stays, Stays, row_stays}

module _ (s q : Parser) (m : Keeps s q) where
  pub variable_stays : (x : Variable) (i : ℕ) → i < s.made → VariableAt (view s) x i → VariableAt (view q) x i
  variable_stays (whole x) i lt h = (h.0, m.kept i lt ∙ h.1, named_stays s q m h.0 x h.2)
  variable_stays (indexed x e) i lt h =
      (h.0, one_stays s q m i (Subscripted h.0) (λ p. ExpAt (view s) e p) (λ p. ExpAt (view q) e p) lt (λ p k. exp_stays s q m e p k) h.1, named_stays s q m h.0 x h.2)

  pub element_stays : (x : Element) (i : ℕ) → i < s.made → ElementAt (view s) x i → ElementAt (view q) x i
  element_stays (single e) i lt h = exp_stays s q m e i lt h
  element_stays (progression e f g) i lt h = (
    h.0,
    two_stays s q m i (Progression h.0) (λ p. ExpAt (view s) f p) (λ p. ExpAt (view s) g p) (λ p. ExpAt (view q) f p) (λ p. ExpAt (view q) g p) lt (λ p k. exp_stays s q m f p k) (λ p k. exp_stays s q m g p k) h.1,
    h.2,
    exp_stays s q m e h.0 (omega (arith, h.2)) h.3,
  )

  pub group_stays : (x : Group) (i : ℕ) → i < s.made → GroupAt (view s) x i → GroupAt (view q) x i
  group_stays x i lt h = (
    h.0,
    h.1,
    one_stays s q m i (λ p. GroupNode p x.bracket h.0 h.1) (λ p. RowAt NameAt (view s) x.names p) (λ p. RowAt NameAt (view q) x.names p) lt (λ p k. row_stays identifier NameAt name_stays s q m x.names p k) h.2,
    h.3,
    h.4,
  )

module _ (s q : Parser) (m : Keeps s q) where
  pub statement_stays : (x : Statement) (i : ℕ) → i < s.made → StatementAt (view s) x i → StatementAt (view q) x i
  statement_stays (labelled x t) i lt h =
      (h.0, one_stays s q m i (Labelled h.0) (λ p. StatementAt (view s) t p) (λ p. StatementAt (view q) t p) lt (λ p k. statement_stays t p k) h.1, named_stays s q m h.0 x h.2)
  statement_stays (conditional b e t) i lt h =
      two_stays s q m i (Conditional b) (λ p. ExpAt (view s) e p) (λ p. StatementAt (view s) t p) (λ p. ExpAt (view q) e p) (λ p. StatementAt (view q) t p) lt (λ p k. exp_stays s q m e p k) (λ p k. statement_stays t p k) h
  statement_stays (repeated b x es t) i lt h = (
    h.0,
    two_stays s q m i (Repeated b h.0) (λ p. RowAt ElementAt (view s) es p) (λ p. StatementAt (view s) t p) (λ p. RowAt ElementAt (view q) es p) (λ p. StatementAt (view q) t p) lt
        (λ p k. row_stays element ElementAt element_stays s q m es p k) (λ p k. statement_stays t p k) h.1,
    named_stays s q m h.0 x h.2,
  )
  statement_stays (assigned y e) i lt h =
      two_stays s q m i Assigned (λ p. VariableAt (view s) y p) (λ p. ExpAt (view s) e p) (λ p. VariableAt (view q) y p) (λ p. ExpAt (view q) e p) lt (λ p k. variable_stays s q m y p k) (λ p k. exp_stays s q m e p k) h
  statement_stays (go b x) i lt h = (h.0, m.kept i lt ∙ h.1, named_stays s q m h.0 x h.2)
  statement_stays (switched b x e) i lt h =
      (h.0, one_stays s q m i (Switched b h.0) (λ p. ExpAt (view s) e p) (λ p. ExpAt (view q) e p) lt (λ p k. exp_stays s q m e p k) h.1, named_stays s q m h.0 x h.2)
  statement_stays (input b y) i lt h = one_stays s q m i (Input b) (λ p. VariableAt (view s) y p) (λ p. VariableAt (view q) y p) lt (λ p k. variable_stays s q m y p k) h
  statement_stays (printed b es) i lt h = one_stays s q m i (Printed b) (λ p. RowAt ExpAt (view s) es p) (λ p. RowAt ExpAt (view q) es p) lt (λ p k. row_stays exp ExpAt exp_stays s q m es p k) h
  statement_stays (stop b) i lt h = m.kept i lt ∙ h
  statement_stays (sequence t u) i lt h =
      two_stays s q m i More (λ p. StatementAt (view s) t p) (λ p. StatementAt (view s) u p) (λ p. StatementAt (view q) t p) (λ p. StatementAt (view q) u p) lt (λ p k. statement_stays t p k) (λ p k. statement_stays u p k) h

  pub item_stays : (x : Item) (i : ℕ) → i < s.made → ItemAt (view s) x i → ItemAt (view q) x i
  item_stays comment i lt h = m.kept i lt ∙ h
  item_stays (integer xs) i lt h = one_stays s q m i Integer (λ p. RowAt NameAt (view s) xs p) (λ p. RowAt NameAt (view q) xs p) lt (λ p k. row_stays identifier NameAt name_stays s q m xs p k) h
  item_stays (boolean xs) i lt h = one_stays s q m i Boolean (λ p. RowAt NameAt (view s) xs p) (λ p. RowAt NameAt (view q) xs p) lt (λ p k. row_stays identifier NameAt name_stays s q m xs p k) h
  item_stays (array gs) i lt h = one_stays s q m i Array (λ p. RowAt GroupAt (view s) gs p) (λ p. RowAt GroupAt (view q) gs p) lt (λ p k. row_stays group GroupAt group_stays s q m gs p k) h
  item_stays (switch x xs) i lt h =
      (h.0, one_stays s q m i (Switch h.0) (λ p. RowAt NameAt (view s) xs p) (λ p. RowAt NameAt (view q) xs p) lt (λ p k. row_stays identifier NameAt name_stays s q m xs p k) h.1, named_stays s q m h.0 x h.2)
  item_stays (action t) i lt h = statement_stays t i lt h

-- The tree of any part stays, and so do rows of it.
pub tree_stays : (p : Part) → Stays (TreeAt p)
tree_stays (ranked r) = exp_stays
tree_stays factor = exp_stays
tree_stays variable = variable_stays
tree_stays identifier = name_stays
tree_stays bound = λ s q m b i lt h. h
tree_stays group = group_stays
tree_stays element = element_stays
tree_stays statement = statement_stays
tree_stays item = item_stays

pub rows_stay : (p : Part) → Stays {A = Row (Tree p)} (RowAt (TreeAt p))
rows_stay p = row_stays p (TreeAt p) (tree_stays p)

-- The statements of a block, in a row, stand where the block does.
pub block_at : (v : View) (ts : Row Statement) (i : ℕ) → RowAt StatementAt v ts i → StatementAt v (block ts) i
block_at v (one t) i h = h
block_at v (more ts t) i h = (h.0, h.1, h.2, h.3, h.4, block_at v ts h.0 h.5, h.6)

-- A part that was read stands before the node that is made behind it.
pub stands : {A : Type 0} (At : View → A → ℕ → Type 0) (stays : Stays At) (n : Node) (m : ℕ) (s u q : Parser) → Moves s u → Made n m u q → (t : A) (i : ℕ) → i < s.made → At (view s) t i
    → record { below : i < m; held : At (view q) t i }
stands At stays n m s u q h k t i lt x = record {
  below = omega (arith, h.more, k.place);
  held = stays s q (keeps_trans s u q (moves_keep s u h) (made_keeps n m u q k)) t i lt x;
}

-- A part ends with a node that a word has paid for.
pub made_read : {p : Phrase} {L : ℕ} {r u : Parser} {b : Spot p} {t : Value p} (At : View → Value p → ℕ → Type 0) (n : Node) (m : ℕ) (q : Parser) → Goes L r u b (here (done t))
    → u.made + r.at < r.made + u.at → Made n m u q → (node (view q) m ≡ n → At (view q) t m) → record { moves : Moves r q; reads : Read At L r q b m }
made_read {r = r} {u = u} {t = t} At n m q g strict made held =
    let paid : u.made < u.at = omega (arith, r.thrift) in
    let g' = goes_made n m q g paid strict made in
    record { moves = g'.moves; reads = record { tree = t; below = omega (arith, made.place, made.made); held = held (made_node n m u q paid made); goes = g' } }
