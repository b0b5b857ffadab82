-- Rows of parts with a separator between any two: the loop that reads them.
use Rattle.std.proofs.Common.{◌≡◌, ℕ, ◌+◌, ◌-◌, ◌<◌, true, false, Some, None, refl, arith}
use Rattle.grammar.specs.Tree.{Row, one, more}
use Rattle.grammar.specs.Classes.{heads, the_mark}
use Rattle.grammar.specs.Grammar.{Part, Phrase, a, row, separator, Tree, Value}
use Rattle.grammar.specs.Parser.{begin, rest, done, either, part, goto, row_rest}
use Rattle.grammar.proofs.Complete.{separator_moves, separator_opens, fresh}
use Rattle.parser.specs.declared.node.Node.TheVariants.{More}
use Rattle.parser.specs.declared.refusal.Refusal.{Refusal}
use Rattle.parser.specs.declared.table.Parser.{Parser}
use Rattle.parser.specs.Records.{ahead, View, view, RowAt, TreeAt}
use Rattle.parser.specs.Promises.{Took, Made, Moves, Spot, here, Goes, Fails, Read}
use Rattle.parser.proofs.Tables.{word_left}
use Rattle.parser.proofs.Moving.{moves_none, moves_trans, moves_took, moves_left, moves_made}
use Rattle.parser.proofs.Going.{goes_start, goes_trans, goes_alike, goes_word, goes_part, goes_made, goes_done, goes_left, fails_part}
use Rattle.parser.proofs.Holding.{Keeps, moves_keep, made_keeps, keeps_trans, Stays, made_node}
use Rattle.parser.proofs.Standing.{tree_stays, rows_stay}

-- What was read stays read where a word is left.
pub read_left : {o : Phrase} (At : View → Value o → ℕ → Type 0) (stays : Stays At) (L : ℕ) (r s q : Parser) (b : Spot o) (i : ℕ) → Read At L r s b i → Took false s q → Read At L r q b i
read_left At stays L r s q b i x t =
    let g = goes_left q x.goes t in
    let k : Keeps s q = moves_keep s q (moves_left s q t) in
    record { tree = x.tree; below = omega (arith, x.below, k.more); held = stays s q k x.tree i x.below x.held; goes = g }

module _ (p : Part) where
  -- From the parts at i the loop led to those at j.
  pub record RowGoes (L : ℕ) (r : Parser) (i : ℕ) (s : Parser) (j : ℕ) : Type 0 where
    pub moves : Moves r s
    pub below : j < s.made
    pub so : (ts : Row (Tree p)) → RowAt (TreeAt p) (view r) ts i → (us : Row (Tree p)) × RowAt (TreeAt p) (view s) us j × Goes L r s (here (goto (rest p ts))) (here (goto (rest p us)))

  pub row_none : (L : ℕ) (r : Parser) (i : ℕ) → i < r.made → RowGoes L r i r i
  row_none L r i lt = record { moves = moves_none r; below = lt; so = λ ts x. (ts, x, goes_start) }

  -- A separator and a part more.
  pub row_more : (L : ℕ) (r : Parser) (i : ℕ) (s : Parser) (j : ℕ) (s₁ s₂ s₃ : Parser) (n m : ℕ) → RowGoes L r i s j → heads (the_mark (separator p)) (ahead s) ≡ Some tt → Took true s s₁
      → Read (TreeAt p) L s₁ s₂ (here (goto (begin (a p)))) n → s₂.made < s₂.at → Made (More j n) m s₂ s₃ → RowGoes L r i s₃ m
  row_more L r i s j s₁ s₂ s₃ n m h e t x paid k =
      let m₁ : Moves s s₁ = moves_took s s₁ (word_left (the_mark (separator p)) tt s e) t in
      let m₂ : Moves s s₂ = moves_trans s s₁ s₂ m₁ x.goes.moves in
      let m₃ : Moves r s₂ = moves_trans r s s₂ h.moves m₂ in
      let strict : s₂.made + r.at < r.made + s₂.at = omega (arith, h.moves.thrift, x.goes.moves.thrift, t.at, t.made) in
      let last = made_keeps (More j n) m s₂ s₃ k in
      record {
        moves = moves_made (More j n) m r s₂ s₃ m₃ paid strict k;
        below = omega (arith, k.place, k.made);
        so = λ ts y.
            let z = h.so ts y in (
              more z.0 x.tree,
              (
                j,
                n,
                made_node (More j n) m s₂ s₃ paid k,
                omega (arith, h.below, m₂.more, k.place),
                omega (arith, x.below, k.place),
                rows_stay p s s₃ (keeps_trans s s₂ s₃ (moves_keep s s₂ m₂) last) z.0 j h.below z.1,
                tree_stays p s₂ s₃ last x.tree n x.below x.held,
              ),
              goes_made (More j n) m s₃
                  (goes_part s₂ n (fresh p)
                  (goes_word (the_mark (separator p)) tt s₁ (λ _. here (part (begin (a p)) λ v. goto (rest p (more z.0 v)))) z.2 e t (separator_opens p) (λ d b q. separator_moves p z.0 d b q)) x)
                  paid strict k,
            );
      }

  -- The row begins with its first part.
  row_begins : {L : ℕ} {r : Parser} → Goes L r r (here (goto (begin (row p)))) (here (part (begin (a p)) (row_rest p)))
  row_begins = goes_alike goes_start (λ d k t n. refl) (λ d k. refl)

  pub row_fails : (L : ℕ) (r : Parser) (e : Refusal) → Fails L r (here (goto (begin (a p)))) e → Fails L r (here (goto (begin (row p)))) e
  row_fails L r e x = fails_part {r = r} e (fresh p) row_begins x

  -- Where a part behind a separator fails, the row does.
  pub row_fails_later : (L : ℕ) (r s s₁ : Parser) (i j : ℕ) (q : Parser) (e : Refusal) → Read (TreeAt p) L r s (here (goto (begin (a p)))) i → RowGoes L s i q j
      → heads (the_mark (separator p)) (ahead q) ≡ Some tt → Took true q s₁ → Fails L s₁ (here (goto (begin (a p)))) e → Fails L r (here (goto (begin (row p)))) e
  row_fails_later L r s s₁ i j q e x w f t y =
      let z = w.so (one x.tree) x.held in
      fails_part e (fresh p)
      (goes_word (the_mark (separator p)) tt s₁ (λ _. here (part (begin (a p)) λ v. goto (rest p (more z.0 v)))) (goes_trans (goes_part s i (fresh p) row_begins x) z.2) f t (separator_opens p)
      (λ d b k. separator_moves p z.0 d b k)) y

  -- A first part and more parts, and no separator then, are a row.
  pub row_read : (L : ℕ) (r s : Parser) (i j : ℕ) (q : Parser) → Read (TreeAt p) L r s (here (goto (begin (a p)))) i → RowGoes L s i q j → heads (the_mark (separator p)) (ahead q) ≡ None
      → Read (RowAt (TreeAt p)) L r q (here (goto (begin (row p)))) j
  row_read L r s i j q x w e =
      let z = w.so (one x.tree) x.held in
      record {
        tree = z.0;
        below = w.below;
        held = z.1;
        goes = goes_done (goes_alike {y = either (the_mark (separator p)) (λ _ _. part (begin (a p)) λ v. goto (rest p (more z.0 v))) (done z.0)}
            (goes_trans (goes_part s i (fresh p) row_begins x) z.2) (λ d k t n. refl) (λ d k. refl)) e;
      }

  -- What the code of a row needs: a part behind a separator, which a word has paid for; the loop's end; and a refusal.
  pub row_paid : (L : ℕ) (r : Parser) (i : ℕ) (s : Parser) (j : ℕ) (s₁ s₂ : Parser) → RowGoes L r i s j → Took true s s₁ → Moves s₁ s₂ → s₂.made < s₂.at
  row_paid L r i s j s₁ s₂ w t m = omega (arith, s.thrift, t.at, t.made, m.thrift)

  pub row_again : (L : ℕ) (r : Parser) (i : ℕ) (s : Parser) (j : ℕ) (s₁ s₂ s₃ : Parser) (n m : ℕ) → RowGoes L r i s j → heads (the_mark (separator p)) (ahead s) ≡ Some tt → Took true s s₁
      → Read (TreeAt p) L s₁ s₂ (here (goto (begin (a p)))) n → Made (More j n) m s₂ s₃ → RowGoes L r i s₃ m
  row_again L r i s j s₁ s₂ s₃ n m w e t x k = row_more L r i s j s₁ s₂ s₃ n m w e t x (row_paid L r i s j s₁ s₂ w t x.goes.moves) k

  pub row_falls : (s : Parser) (s₁ s₂ s₃ : Parser) (j n m : ℕ) → heads (the_mark (separator p)) (ahead s) ≡ Some tt → Took true s s₁ → Moves s₁ s₂ → Made (More j n) m s₂ s₃
      → s₃.count - s₃.at < s.count - s.at
  row_falls s s₁ s₂ s₃ j n m e t o k =
      omega (arith, word_left (the_mark (separator p)) tt s e, t.at, t.same.count, o.on, o.same.count, k.at, k.same.count)

  pub row_refused : (L : ℕ) (r s : Parser) (i : ℕ) (q : Parser) (j : ℕ) (s₁ s₂ : Parser) (e : Refusal) → Read (TreeAt p) L r s (here (goto (begin (a p)))) i → RowGoes L s i q j
      → heads (the_mark (separator p)) (ahead q) ≡ Some tt → Took true q s₁ → Moves s₁ s₂ → Fails L s₁ (here (goto (begin (a p)))) e
      → record { moves : Moves r s₂; reads : Fails L r (here (goto (begin (row p)))) e }
  row_refused L r s i q j s₁ s₂ e x w f t m y =
      let m₁ : Moves q s₁ = moves_took q s₁ (word_left (the_mark (separator p)) tt q f) t in
      record {
        moves = moves_trans r s s₂ x.goes.moves (moves_trans s q s₂ w.moves (moves_trans q s₁ s₂ m₁ m));
        reads = row_fails_later L r s s₁ i j q e x w f t y;
      }

  pub row_ended : (L : ℕ) (r s : Parser) (i : ℕ) (q : Parser) (j : ℕ) (s₁ : Parser) → Read (TreeAt p) L r s (here (goto (begin (a p)))) i → RowGoes L s i q j
      → heads (the_mark (separator p)) (ahead q) ≡ None → Took false q s₁
      → record { moves : Moves r s₁; reads : Read (RowAt (TreeAt p)) L r s₁ (here (goto (begin (row p)))) j }
  row_ended L r s i q j s₁ x w e t =
      let y = read_left (RowAt (TreeAt p)) (rows_stay p) L r q s₁ (here (goto (begin (row p)))) j (row_read L r s i j q x w e) t in
      record { moves = y.goes.moves; reads = y }
