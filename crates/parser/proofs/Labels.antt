-- Labels around a statement: the loop that makes their nodes, and the statement as a whole.
use Rattle.std.proofs.Common.{◌≡◌, ℕ, ◌+◌, ◌*◌, ◌<◌, ◌≤◌, List, [], ◌∷◌, length, get_or, drop, sym, refl, ap, ◌∙◌, arith}
use Rattle.words.specs.Token.{Word}
use Rattle.grammar.specs.Tree.{Name, Statement, labelled}
use Rattle.grammar.specs.Grammar.{a, statement}
use Rattle.grammar.specs.Parser.{begin, done, goto, Around, at, run}
use Rattle.parser.specs.declared.node.Node.TheVariants.{Empty, Labelled}
use Rattle.parser.specs.declared.refusal.Refusal.{Refusal}
use Rattle.parser.specs.declared.table.Parser.{Parser}
use Rattle.parser.specs.Records.{nodes, all, ahead, view, Named, StatementAt}
use Rattle.parser.specs.Promises.{SameText, Made, Moves, here, Fails, Read}
use Rattle.parser.specs.Labels.{with_labels, labels_around, LabelsAt, LabelsPassed, LabelsMade}
use Rattle.parser.proofs.Moving.{same_trans}
use Rattle.parser.proofs.Holding.{Keeps, moves_keep, made_keeps, named_stays, made_node}
use Rattle.parser.proofs.Standing.{statement_stays}
use Rattle.parser.proofs.Labelling.{labels_stay, labels_done}

-- Of n labels around the statement at node j, `left` are still to be made; node i has the others.
pub record LabelsMaking (first n j : ℕ) (r s : Parser) (left i : ℕ) : Type 0 where
  pub same : SameText r s
  pub on : s.at ≡ r.at
  pub made : s.made + left ≡ r.made + n
  pub little : left ≤ n
  pub kept : (l : ℕ) → l < r.made → get_or (nodes s.table.now) l Empty ≡ get_or (nodes r.table.now) l Empty
  pub below : i < s.made
  pub held : (xs : List Name) (t : Statement) → LabelsAt (view r) first xs n → StatementAt (view r) t j
      → (ys : List Name) × (u : Statement) × LabelsAt (view s) first ys left × StatementAt (view s) u i × (with_labels ys u ≡ with_labels xs t)

module _ (first n j : ℕ) where
  pub making_none : (r : Parser) → j < r.made → LabelsMaking first n j r r n j
  making_none r lt = record {
    same = record { text = refl; words = refl; count = refl; lent = refl; size = refl };
    on = refl;
    made = refl;
    little = omega arith;
    kept = λ l x. refl;
    below = lt;
    held = λ xs t x y. (xs, t, x, y, refl);
  }

  -- The node of one label more.
  pub making_more : (r s q : Parser) (left rest i m : ℕ) → LabelsMaking first n j r s left i → left ≡ rest + 1 → s.made < s.at → Made (Labelled (first + 2 * rest) i) m s q
      → LabelsMaking first n j r q rest m
  making_more r s q left rest i m p z paid k =
      let keep = made_keeps (Labelled (first + 2 * rest) i) m s q k in
      record {
        same = same_trans r s q p.same k.same;
        on = k.at ∙ p.on;
        made = omega (arith, k.made, p.made);
        little = omega (arith, p.little);
        kept = λ l x. keep.kept l (omega (arith, p.made, p.little)) ∙ p.kept l x;
        below = omega (arith, k.place, k.made);
        held = λ xs t x y. by xs t (p.held xs t x y);
      }
    where
      by : (xs : List Name) (t : Statement) → (ys : List Name) × (u : Statement) × LabelsAt (view s) first ys left × StatementAt (view s) u i × (with_labels ys u ≡ with_labels xs t)
          → (ys : List Name) × (u : Statement) × LabelsAt (view q) first ys rest × StatementAt (view q) u m × (with_labels ys u ≡ with_labels xs t)
      by xs t ([], u, h, x, e) = absurd (omega (arith, h))
      by xs t (y ∷ ys, u, h, x, e) =
          let keep = made_keeps (Labelled (first + 2 * rest) i) m s q k in
          let same : h.0 ≡ rest = omega (arith, h.1) in
          let nm : Named (view s) (first + 2 * rest) y = rw same at h.2 in (
            ys,
            labelled y u,
            rw same at (labels_stay s q keep first ys h.0 h.3),
            (
              first + 2 * rest,
              (i, made_node (Labelled (first + 2 * rest) i) m s q paid k, omega (arith, p.below, k.place), statement_stays s q keep u i p.below x),
              named_stays s q keep (first + 2 * rest) y nm,
            ),
            e,
          )

  pub making_done : (r s : Parser) (left i : ℕ) → LabelsMaking first n j r s left i → left ≡ 0 → LabelsMade first n j r s i
  making_done r s left i p z = record {
    same = p.same;
    at = p.on;
    made = omega (arith, p.made);
    kept = p.kept;
    below = p.below;
    held = λ xs t x y. by xs t (p.held xs t x y);
  }
    where
      by : (xs : List Name) (t : Statement) → (ys : List Name) × (u : Statement) × LabelsAt (view s) first ys left × StatementAt (view s) u i × (with_labels ys u ≡ with_labels xs t)
          → StatementAt (view s) (with_labels xs t) i
      by xs t ([], u, h, x, e) = rw e at x
      by xs t (y ∷ ys, u, h, x, e) = absurd (omega (arith, h.1))

-- A statement: its labels, what is behind them, and their nodes.
module _ (L : ℕ) {r s : Parser} {n : ℕ} (p : LabelsPassed r s n) where
  pub labelled_fails : (e : Refusal) → Fails L s (here (goto (begin (a statement)))) e → Fails L r (here (goto (begin (a statement)))) e
  labelled_fails e f limit d k h = p.leads L limit d k h ∙ rw (sym (ap length p.moves.same.text)) (f limit d (labels_around d p.names k) h)

  pub labelled_read : (u q : Parser) (j i : ℕ) → Read StatementAt L s u (here (goto (begin (a statement)))) j → LabelsMade r.at n j u q i
      → record { moves : Moves r q; reads : Read StatementAt L r q (here (goto (begin (a statement)))) i }
  labelled_read u q j i x k =
      let m : Moves s u = x.goes.moves in
      let keeps : Keeps s u = moves_keep s u m in
      let moves : Moves r q = record {
        same = same_trans r u q (same_trans r s u p.moves.same m.same) k.same;
        on = omega (arith, p.moves.on, m.on, k.at);
        more = omega (arith, p.made, m.more, k.made);
        thrift = omega (arith, p.made, p.on, m.thrift, k.made, k.at);
        kept = λ l lt. k.kept l (omega (arith, p.made, m.more)) ∙ (m.kept l (omega (arith, p.made)) ∙ p.moves.kept l lt);
      } in
      let same : ahead q ≡ ahead u = ap (λ n. drop n (all q)) k.at ∙ ap (λ (l : List Word). drop u.at l) k.same.words in
      record {
        moves = moves;
        reads = record {
          tree = with_labels p.names x.tree;
          below = k.below;
          held = k.held p.names x.tree (labels_stay s u keeps r.at p.names n p.stand) x.held;
          goes = record {
            moves = moves;
            leads = λ limit d k' h. p.leads L limit d k' h ∙ (inner limit d k' h
                ∙ (labels_done limit (length r.text.now) (ahead u) d p.names x.tree k' ∙ ap (λ ws. run limit (length r.text.now) ws (at d (done (with_labels p.names x.tree)) k')) (sym same)));
          };
        };
      }
    where
      inner : (limit d : ℕ) (k' : Around (a statement)) → d + L ≡ limit → run limit (length r.text.now) (ahead s) (at d (goto (begin (a statement))) (labels_around d p.names k'))
          ≡ run limit (length r.text.now) (ahead u) (at d (done x.tree) (labels_around d p.names k'))
      inner limit d k' h = rw (sym (ap length p.moves.same.text)) (x.goes.leads limit d (labels_around d p.names k') h)
