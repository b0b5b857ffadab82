-- The loop over operators and their right operands.
use Rattle.std.proofs.Common.{◌≡◌, ℕ, suc, ◌+◌, ◌<◌, ◌≤◌, true, false, leb, List, [], ◌∷◌, Some, None, refl, arith, le-leb}
use Rattle.words.specs.Token.{Word}
use Rattle.grammar.specs.declared.operator.Operator.{Operator}
use Rattle.grammar.specs.declared.operator.Operator.TheVariants.{Equivalence, Disjunction, Conjunction, Additive, Multiplicative}
use Rattle.grammar.specs.Tree.{Exp, joined}
use Rattle.grammar.specs.Classes.{heads, an_operator, rank, operator_token, Class, Content}
use Rattle.grammar.specs.Grammar.{a, ranked}
use Rattle.grammar.specs.Parser.{begin, operators, done, either, goto, operator_script, Around, at, moved}
use Rattle.grammar.proofs.Found.{found_to_is, none_some, InRank}
use Rattle.grammar.proofs.Complete.{fresh, operator_opens}
use Rattle.parser.specs.declared.node.Node.TheVariants.{Joined}
use Rattle.parser.specs.declared.refusal.Refusal.{Refusal}
use Rattle.parser.specs.declared.table.Parser.{Parser}
use Rattle.parser.specs.Records.{ahead, view, ExpAt}
use Rattle.parser.specs.Promises.{Took, Made, Moves, here, Goes, Fails, Read}
use Rattle.parser.proofs.Tables.{word_left}
use Rattle.parser.proofs.Moving.{moves_none, moves_trans, moves_took, moves_left, moves_made}
use Rattle.parser.proofs.Going.{goes_start, goes_alike, goes_word, goes_part, goes_made, goes_done, goes_left, fails_part}
use Rattle.parser.proofs.Holding.{Keeps, moves_keep, made_keeps, keeps_trans, exp_stays, made_node}

-- With bound b the operand stood at i; the loop led to the expression at j, with bound e.
pub record OperatorsGo (rk L : ℕ) (r : Parser) (i b : ℕ) (s : Parser) (j e : ℕ) : Type 0 where
  pub moves : Moves r s
  pub below : j < s.made
  pub so : (x : Exp) → ExpAt (view r) x i → (y : Exp) × ExpAt (view s) y j × Goes L r s (here (goto (operators rk b x))) (here (goto (operators rk e y)))

pub heads_rank : (c : Class) (x : Content c) (ws : List Word) → heads c ws ≡ Some x → InRank c x
heads_rank c x [] e = none_some e
heads_rank c x (w ∷ ws) e = (found_to_is c w.token x e).1

operator_within : (m q : ℕ) (o : Operator) (x : Exp) (d b : ℕ) (k : Around (a (ranked m))) → m ≤ rank o → rank o ≤ q
    → moved (at d (goto (operators m q x)) k) (operator_token o) b ≡ Some (at d (operator_script m x o) k)
operator_within m q Equivalence x d b k h i = let e : leb m 1 ≡ true = le-leb m 1 h in let f : leb 1 q ≡ true = le-leb 1 q i in rw (e, f)
operator_within m q Disjunction x d b k h i = let e : leb m 2 ≡ true = le-leb m 2 h in let f : leb 2 q ≡ true = le-leb 2 q i in rw (e, f)
operator_within m q Conjunction x d b k h i = let e : leb m 3 ≡ true = le-leb m 3 h in let f : leb 3 q ≡ true = le-leb 3 q i in rw (e, f)
operator_within m q (Additive s) x d b k h i = let e : leb m 5 ≡ true = le-leb m 5 h in let f : leb 5 q ≡ true = le-leb 5 q i in rw (e, f)
operator_within m q (Multiplicative s) x d b k h i = let e : leb m 6 ≡ true = le-leb m 6 h in let f : leb 6 q ≡ true = le-leb 6 q i in rw (e, f)

module _ (rk L : ℕ) where
  pub operators_none : (r : Parser) (i b : ℕ) → i < r.made → OperatorsGo rk L r i b r i b
  operators_none r i b lt = record { moves = moves_none r; below = lt; so = λ x y. (x, y, goes_start) }

  -- The next operator is taken.
  pub operator_taken : (r s q : Parser) (i b j e : ℕ) (o : Operator) (x : Exp) (g : OperatorsGo rk L r i b s j e) (y : ExpAt (view r) x i) → heads (an_operator rk e) (ahead s) ≡ Some o → Took true s q
      → Goes L r q (here (goto (operators rk b x))) (here (operator_script rk (g.so x y).0 o))
  operator_taken r s q i b j e o x g y f t =
      let h = heads_rank (an_operator rk e) o (ahead s) f in
      goes_word (an_operator rk e) o q (λ _. here (operator_script rk (g.so x y).0 o)) (g.so x y).2 f t (operator_opens o) (λ d n k. operator_within rk e o (g.so x y).0 d n k h.0 h.1)

  -- An operator and its right operand more.
  pub operators_more : (r s s₁ s₂ s₃ : Parser) (i b j e : ℕ) (o : Operator) (n m : ℕ) → OperatorsGo rk L r i b s j e → heads (an_operator rk e) (ahead s) ≡ Some o → Took true s s₁
      → Read ExpAt L s₁ s₂ (here (goto (begin (a (ranked (suc (rank o))))))) n → s₂.made < s₂.at → Made (Joined o j n) m s₂ s₃ → OperatorsGo rk L r i b s₃ m (rank o)
  operators_more r s s₁ s₂ s₃ i b j e o n m g f t x paid k =
      let m₁ : Moves s s₁ = moves_took s s₁ (word_left (an_operator rk e) o s f) t in
      let m₂ : Moves s s₂ = moves_trans s s₁ s₂ m₁ x.goes.moves in
      let m₃ : Moves r s₂ = moves_trans r s s₂ g.moves m₂ in
      let strict : s₂.made + r.at < r.made + s₂.at = omega (arith, g.moves.thrift, x.goes.moves.thrift, t.at, t.made) in
      let last = made_keeps (Joined o j n) m s₂ s₃ k in
      record {
        moves = moves_made (Joined o j n) m r s₂ s₃ m₃ paid strict k;
        below = omega (arith, k.place, k.made);
        so = λ u y.
            let z = g.so u y in (
              joined o z.0 x.tree,
              (
                j,
                n,
                made_node (Joined o j n) m s₂ s₃ paid k,
                omega (arith, g.below, m₂.more, k.place),
                omega (arith, x.below, k.place),
                exp_stays s s₃ (keeps_trans s s₂ s₃ (moves_keep s s₂ m₂) last) z.0 j g.below z.1,
                exp_stays s₂ s₃ last x.tree n x.below x.held,
              ),
              goes_made (Joined o j n) m s₃ (goes_part s₂ n (fresh (ranked (suc (rank o)))) (operator_taken r s s₁ i b j e o u g y f t) x) paid strict k,
            );
      }

  -- Where the right operand fails, so does the whole.
  pub operators_fail : (r s s₁ : Parser) (i b j e : ℕ) (o : Operator) (u : Refusal) → OperatorsGo rk L r i b s j e → heads (an_operator rk e) (ahead s) ≡ Some o → Took true s s₁
      → Fails L s₁ (here (goto (begin (a (ranked (suc (rank o))))))) u → (x : Exp) → ExpAt (view r) x i → Fails L r (here (goto (operators rk b x))) u
  operators_fail r s s₁ i b j e o u g f t h x y = fails_part u (fresh (ranked (suc (rank o)))) (operator_taken r s s₁ i b j e o x g y f t) h

  -- No operator comes, and all are read.
  pub operators_end : (r s q : Parser) (i b j e : ℕ) → OperatorsGo rk L r i b s j e → heads (an_operator rk e) (ahead s) ≡ None → Took false s q
      → (x : Exp) → ExpAt (view r) x i → Read ExpAt L r q (here (goto (operators rk b x))) j
  operators_end r s q i b j e g f t x y =
      let z = g.so x y in
      let k : Keeps s q = moves_keep s q (moves_left s q t) in
      record {
        tree = z.0;
        below = omega (arith, g.below, k.more);
        held = exp_stays s q k z.0 j g.below z.1;
        goes = goes_left q (goes_done (goes_alike {y = either (an_operator rk e) (λ o _. operator_script rk z.0 o) (done z.0)} z.2 (λ d k t n. refl) (λ d k. refl)) f) t;
      }
