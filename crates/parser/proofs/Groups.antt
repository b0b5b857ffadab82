-- The ways through bounds, groups of arrays, and names in brackets.
use Rattle.std.proofs.Common.{◌≡◌, ℕ, Some, None, Option, refl, arith}
use Rattle.std.specs.Prelude.{unwrap_or}
use Rattle.words.specs.declared.token.Mark.TheVariants.{Colon, OpenRound, CloseRound, OpenSquare, CloseSquare}
use Rattle.words.specs.declared.token.Sign.{Sign}
use Rattle.words.specs.declared.token.Sign.TheVariants.{Plus}
use Rattle.grammar.specs.Tree.{Row, Name, Item}
use Rattle.grammar.specs.Classes.{heads, the_mark, a_sign, a_number}
use Rattle.grammar.specs.Grammar.{a, row, identifier, bound, group}
use Rattle.grammar.specs.Parser.{begin, done, word, part, goto, bound_script, bounds_script, group_bounds, names_script}
use Rattle.parser.specs.declared.node.Bound.{Bound as BoundRecord}
use Rattle.parser.specs.declared.node.Node.TheVariants.{Group as GroupNode}
use Rattle.parser.specs.declared.table.Parser.{Parser}
use Rattle.parser.specs.Records.{ahead, NameAt, RowAt, GroupAt, bound_in}
use Rattle.parser.specs.Promises.{Made, Moves, here, deeper, Goes, Read, Passed}
use Rattle.parser.specs.Expecting.{Expected, Takes, Opened}
use Rattle.parser.proofs.Tables.{word_left}
use Rattle.parser.proofs.Moving.{moves_trans, moves_took}
use Rattle.parser.proofs.Going.{goes_start, goes_alike, goes_left}
use Rattle.parser.proofs.Holding.{name_stays, moves_keep, row_stays}
use Rattle.parser.proofs.Naming.{next_place}
use Rattle.parser.proofs.Standing.{stands, made_read}
use Rattle.parser.proofs.Stepping.{goes_first, goes_else, goes_on, goes_on_deeper, goes_closing, goes_opening, goes_behind, goes_behind_deeper}

bound_begins : {L : ℕ} {r : Parser} → Goes L r r (here (goto (begin (a bound)))) (here bound_script)
bound_begins = goes_alike goes_start (λ d k t n. refl) (λ d k. refl)

-- A sign comes, or none, which stands for `+`.
pub sign_read : {L : ℕ} {r : Parser} (s : Parser) (o : Option Sign) → Takes a_sign (λ x. x) r s o → Goes L r s (here (goto (begin (a bound)))) (here (word a_number λ n _. done (record { sign = unwrap_or o Plus; size = n })))
sign_read s (Some x) h = goes_on h refl refl (λ d. refl) (goes_first h.is bound_begins)
sign_read s None h = goes_left s (goes_else h.is refl bound_begins) h.took

-- A group begins with its names.
pub group_begins : {L : ℕ} {r : Parser} → Goes L r r (here (goto (begin (a group)))) (here (part (begin (row identifier)) group_bounds))
group_begins = goes_alike goes_start (λ d k t n. refl) (λ d k. refl)

module _ {L : ℕ} {r s₁ : Parser} {i : ℕ} (x : Read (RowAt NameAt) L r s₁ (here (goto (begin (row identifier)))) i) where
  pub group_named : Goes L r s₁ (here (goto (begin (a group)))) (here (group_bounds x.tree))
  group_named = goes_behind tt x.goes group_begins

  -- `[` opens a level, and the low bound is read.
  module _ {s₂ : Parser} {l : ℕ} (e : heads (the_mark OpenSquare) (ahead s₁) ≡ Some tt) (o : Opened L s₁ s₂ l) where
    pub bounds_begun : Goes L r s₂ (here (goto (begin (a group)))) (deeper (bounds_script x.tree (next_place s₁)))
    bounds_begun = goes_opening e refl refl o group_named

    module _ {s₃ : Parser} {low : BoundRecord} (y : (l : ℕ) → Goes l s₂ s₃ (here (goto (begin (a bound)))) (here (done (bound_in low)))) where
      pub low_read : Goes L r s₃ (here (goto (begin (a group)))) (deeper (word (the_mark Colon) λ _ _. part (begin (a bound)) λ z. word (the_mark CloseSquare) λ _ _. done (record { names = x.tree; bracket = (next_place s₁); low = bound_in low; high = z })))
      low_read = goes_behind_deeper o.level tt (y l) bounds_begun

      -- `:` comes, and the high bound is read.
      module _ {s₄ : Parser} (h : Expected (the_mark Colon) tt s₃ s₄) where
        pub high_begun : Goes L r s₄ (here (goto (begin (a group)))) (deeper (part (begin (a bound)) λ z. word (the_mark CloseSquare) λ _ _. done (record { names = x.tree; bracket = (next_place s₁); low = bound_in low; high = z })))
        high_begun = goes_on_deeper h refl refl (λ d. refl) low_read

        module _ {s₅ : Parser} {high : BoundRecord} (z : (l : ℕ) → Goes l s₄ s₅ (here (goto (begin (a bound)))) (here (done (bound_in high)))) where
          pub high_read : Goes L r s₅ (here (goto (begin (a group)))) (deeper (word (the_mark CloseSquare) λ _ _. done (record { names = x.tree; bracket = (next_place s₁); low = bound_in low; high = bound_in high })))
          high_read = goes_behind_deeper o.level tt (z l) high_begun

          pub group_read : (s₆ q : Parser) (b m : ℕ) → Expected (the_mark CloseSquare) tt s₅ s₆ → b ≡ (next_place s₁) → Made (GroupNode i b low high) m s₆ q
              → record { moves : Moves r q; reads : Read GroupAt L r q (here (goto (begin (a group)))) m }
          group_read s₆ q b m h₆ j k' =
              let n = GroupNode i (next_place s₁) low high in
              let k : Made n m s₆ q = rw j at k' in
              let m₁ : Moves s₁ s₂ = moves_took s₁ s₂ (word_left (the_mark OpenSquare) tt s₁ e) o.took in
              let m₃ : Moves s₃ s₄ = moves_took s₃ s₄ (word_left (the_mark Colon) tt s₃ h.is) h.took in
              let m₅ : Moves s₅ s₆ = moves_took s₅ s₆ (word_left (the_mark CloseSquare) tt s₅ h₆.is) h₆.took in
              let m₁₆ : Moves s₁ s₆ = moves_trans s₁ s₂ s₆ m₁ (moves_trans s₂ s₃ s₆ (y 0).moves (moves_trans s₃ s₄ s₆ m₃ (moves_trans s₄ s₅ s₆ (z 0).moves m₅))) in
              let u = stands (RowAt NameAt) (row_stays identifier NameAt name_stays) n m s₁ s₆ q m₁₆ k x.tree i x.below x.held in
              made_read GroupAt n m q (goes_closing h₆ refl refl (λ d. refl) high_read)
              (omega (arith, x.goes.moves.thrift, o.took.at, o.took.made, (y 0).moves.thrift, h.took.at, h.took.made, (z 0).moves.thrift, h₆.took.at, h₆.took.made)) k
              (λ w. (low, high, (i, w, u.below, u.held), refl, refl))

-- Names in brackets: `(` opens a level, and the names are read.
module _ (f : Row Name → Item) {L : ℕ} {r s₁ : Parser} {l : ℕ} (e : heads (the_mark OpenRound) (ahead r) ≡ Some tt) (o : Opened L r s₁ l) where
  pub names_begun : Goes L r s₁ (here (names_script f)) (deeper (part (begin (row identifier)) λ xs. word (the_mark CloseRound) λ _ _. done (f xs)))
  names_begun = goes_opening e refl refl o goes_start

  module _ {s₂ : Parser} {i : ℕ} (x : Read (RowAt NameAt) l s₁ s₂ (here (goto (begin (row identifier)))) i) where
    pub names_inside : Goes L r s₂ (here (names_script f)) (deeper (word (the_mark CloseRound) λ _ _. done (f x.tree)))
    names_inside = goes_behind_deeper o.level tt x.goes names_begun

    pub names_read : {s₃ : Parser} → Expected (the_mark CloseRound) tt s₂ s₃ → Passed (RowAt NameAt) L r s₃ (here (names_script f)) (λ xs. here (done (f xs))) i
    names_read {s₃} h =
        let m : Moves s₂ s₃ = moves_took s₂ s₃ (word_left (the_mark CloseRound) tt s₂ h.is) h.took in
        record {
          tree = x.tree;
          below = omega (arith, x.below, m.more);
          held = row_stays identifier NameAt name_stays s₂ s₃ (moves_keep s₂ s₃ m) x.tree i x.below x.held;
          goes = goes_closing h refl refl (λ d. refl) names_inside;
        }
