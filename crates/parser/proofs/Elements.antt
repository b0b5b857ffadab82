-- The way through an element of a for's list.
use Rattle.std.proofs.Common.{◌≡◌, ℕ, ◌+◌, ◌<◌, Some, None, refl, arith}
use Rattle.words.specs.declared.token.Mark.TheVariants.{OpenRound, CloseRound}
use Rattle.grammar.specs.Tree.{single, progression}
use Rattle.grammar.specs.Classes.{heads, the_mark}
use Rattle.grammar.specs.Grammar.{a, exp, element}
use Rattle.grammar.specs.Parser.{begin, done, word, part, goto, element_rest, progression_script}
use Rattle.parser.specs.declared.node.Node.TheVariants.{Progression}
use Rattle.parser.specs.declared.table.Parser.{Parser}
use Rattle.parser.specs.Records.{ahead, ExpAt, ElementAt}
use Rattle.parser.specs.Promises.{Made, Moves, here, deeper, Goes, Read}
use Rattle.parser.specs.Expecting.{Expected, Opened}
use Rattle.parser.proofs.Tables.{word_left}
use Rattle.parser.proofs.Moving.{moves_none, moves_trans, moves_took}
use Rattle.parser.proofs.Going.{goes_start, goes_alike, goes_done, goes_made}
use Rattle.parser.proofs.Holding.{exp_stays, made_node}
use Rattle.parser.proofs.Standing.{stands}
use Rattle.parser.proofs.Stepping.{goes_first, goes_closing, goes_opening, goes_behind, goes_behind_deeper}

-- An element begins with an expression.
pub element_begins : {L : ℕ} {r : Parser} → Goes L r r (here (goto (begin (a element)))) (here (part (begin (a exp)) element_rest))
element_begins = goes_alike goes_start (λ d k t n. refl) (λ d k. refl)

module _ {L : ℕ} {r s₁ : Parser} {i : ℕ} (x : Read ExpAt L r s₁ (here (goto (begin (a exp)))) i) where
  pub from_read : Goes L r s₁ (here (goto (begin (a element)))) (here (element_rest x.tree))
  from_read = goes_behind tt x.goes element_begins

  -- No `(` comes.
  pub single_read : heads (the_mark OpenRound) (ahead s₁) ≡ None → record { moves : Moves r s₁; reads : Read ElementAt L r s₁ (here (goto (begin (a element)))) i }
  single_read e = record { moves = x.goes.moves; reads = record { tree = single x.tree; below = x.below; held = x.held; goes = goes_done from_read e } }

  -- `(` opens a level, and the step is read.
  module _ {s₂ : Parser} {l : ℕ} (e : heads (the_mark OpenRound) (ahead s₁) ≡ Some tt) (o : Opened L s₁ s₂ l) where
    pub step_begun : Goes L r s₂ (here (goto (begin (a element)))) (deeper (progression_script x.tree))
    step_begun = goes_opening e refl refl o (goes_first e from_read)

    module _ {s₃ : Parser} {j : ℕ} (y : Read ExpAt l s₂ s₃ (here (goto (begin (a exp)))) j) where
      pub step_read : Goes L r s₃ (here (goto (begin (a element)))) (deeper (word (the_mark CloseRound) λ _ _. part (begin (a exp)) λ z. done (progression x.tree y.tree z)))
      step_read = goes_behind_deeper o.level tt y.goes step_begun

      -- `)` closes it, and the limit is read.
      module _ {s₄ : Parser} (h : Expected (the_mark CloseRound) tt s₃ s₄) where
        pub limit_begun : Goes L r s₄ (here (goto (begin (a element)))) (here (part (begin (a exp)) λ z. done (progression x.tree y.tree z)))
        limit_begun = goes_closing h refl refl (λ d. refl) step_read

        pub progression_read : (s₅ q : Parser) (k m : ℕ) (z : Read ExpAt L s₄ s₅ (here (goto (begin (a exp)))) k) → Made (Progression i j k) m s₅ q
            → record { moves : Moves r q; reads : Read ElementAt L r q (here (goto (begin (a element)))) m }
        progression_read s₅ q k m z made =
            let g₅ = goes_behind tt z.goes limit_begun in
            let strict : s₅.made + r.at < r.made + s₅.at = omega (arith, x.goes.moves.thrift, o.took.at, o.took.made, y.goes.moves.thrift, h.took.at, h.took.made, z.goes.moves.thrift) in
            let paid : s₅.made < s₅.at = omega (arith, r.thrift) in
            let m₃ : Moves s₃ s₅ = moves_trans s₃ s₄ s₅ (moves_took s₃ s₄ (word_left (the_mark CloseRound) tt s₃ h.is) h.took) z.goes.moves in
            let m₁ : Moves s₁ s₅ = moves_trans s₁ s₂ s₅ (moves_took s₁ s₂ (word_left (the_mark OpenRound) tt s₁ e) o.took) (moves_trans s₂ s₃ s₅ y.goes.moves m₃) in
            let n = Progression i j k in
            let u = stands ExpAt exp_stays n m s₁ s₅ q m₁ made x.tree i x.below x.held in
            let v = stands ExpAt exp_stays n m s₃ s₅ q m₃ made y.tree j y.below y.held in
            let w = stands ExpAt exp_stays n m s₅ s₅ q (moves_none s₅) made z.tree k z.below z.held in
            let g = goes_made n m q g₅ paid strict made in
            record {
              moves = g.moves;
              reads = record {
                tree = progression x.tree y.tree z.tree;
                below = omega (arith, made.place, made.made);
                held = (i, (j, k, made_node n m s₅ q paid made, v.below, w.below, v.held, w.held), u.below, u.held);
                goes = g;
              };
            }
