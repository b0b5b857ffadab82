-- The ways through statements that hold other statements, and the refusal of a word that begins none.
use Rattle.std.proofs.Common.{◌≡◌, ℕ, Some, None, refl, ◌∙◌, arith}
use Rattle.words.specs.declared.token.Mark.TheVariants.{Semicolon, Becomes}
use Rattle.words.specs.declared.token.Keyword.TheVariants.{Begin, End, If, For, Go, In, Print, Stop}
use Rattle.grammar.specs.declared.refusal.SentenceRefusal.TheVariants.{Unexpected}
use Rattle.grammar.specs.Tree.{conditional, repeated, block}
use Rattle.grammar.specs.Classes.{heads, the_mark, the_keyword, a_name}
use Rattle.grammar.specs.Grammar.{a, row, exp, element, statement}
use Rattle.grammar.specs.Parser.{begin, done, word, part, goto, statement_script, conditional_script, repetition_script, repetition_body, block_script}
use Rattle.parser.specs.declared.node.Node.TheVariants.{Conditional, Repeated}
use Rattle.parser.specs.declared.refusal.Refusal.{Refusal}
use Rattle.parser.specs.declared.table.Parser.{Parser}
use Rattle.parser.specs.Records.{ahead, view, ExpAt, ElementAt, RowAt, StatementAt}
use Rattle.parser.specs.Promises.{Made, Moves, here, deeper, Goes, Fails, Read}
use Rattle.parser.specs.Expecting.{Expected, NameExpected, RefusedAt, Opened}
use Rattle.parser.proofs.Tables.{word_left}
use Rattle.parser.proofs.Moving.{moves_none, moves_trans, moves_took}
use Rattle.parser.proofs.Going.{goes_start, goes_alike, goes_out}
use Rattle.parser.proofs.Holding.{exp_stays, moves_keep, row_stays}
use Rattle.parser.proofs.Naming.{next_place, next_named, name_taken}
use Rattle.parser.proofs.Standing.{element_stays, statement_stays, block_at, stands, made_read}
use Rattle.parser.proofs.Stepping.{part_opened, goes_else, goes_on_deeper, goes_closing, goes_behind_deeper, fails_missing}

-- No statement begins with the next word.
pub statement_missing : (L : ℕ) (r : Parser) (e : Refusal) → heads (the_keyword If) (ahead r) ≡ None → heads (the_keyword For) (ahead r) ≡ None → heads (the_keyword Begin) (ahead r) ≡ None
    → heads (the_keyword Go) (ahead r) ≡ None → heads (the_keyword In) (ahead r) ≡ None → heads (the_keyword Print) (ahead r) ≡ None → heads (the_keyword Stop) (ahead r) ≡ None → heads a_name (ahead r) ≡ None
    → RefusedAt Unexpected r e → Fails L r (here (goto (begin (a statement)))) e
statement_missing L r e e₁ e₂ e₃ e₄ e₅ e₆ e₇ e₈ h =
    let g : Goes L r r (here (goto (begin (a statement)))) (here statement_script) = goes_alike goes_start (λ d k t n. refl) (λ d k. refl) in
    fails_missing e (record { is = e₇; refused = h })
    (goes_else e₈ refl (goes_else e₆ refl (goes_else e₅ refl (goes_else e₄ refl (goes_else e₃ refl (goes_else e₂ refl (goes_else e₁ refl g)))))))

-- if: the condition is read, then `;`, then the statement.
module _ {L : ℕ} {r s₁ : Parser} {l : ℕ} (e : heads (the_keyword If) (ahead r) ≡ Some tt) (o : Opened L r s₁ l) where
  pub if_begun : Goes L r s₁ (here (goto (begin (a statement)))) (deeper (conditional_script (next_place r)))
  if_begun = part_opened (the_keyword If) tt conditional_script e (λ d b k. refl) o

  module _ {s₂ : Parser} {i : ℕ} (x : Read ExpAt l s₁ s₂ (here (goto (begin (a exp)))) i) where
    pub condition_read : Goes L r s₂ (here (goto (begin (a statement)))) (deeper (word (the_mark Semicolon) λ _ _. part (begin (a statement)) λ t. done (conditional (next_place r) x.tree t)))
    condition_read = goes_behind_deeper o.level tt x.goes if_begun

    module _ {s₃ : Parser} (h : Expected (the_mark Semicolon) tt s₂ s₃) where
      pub if_body_begun : Goes L r s₃ (here (goto (begin (a statement)))) (deeper (part (begin (a statement)) λ t. done (conditional (next_place r) x.tree t)))
      if_body_begun = goes_on_deeper h refl refl (λ d. refl) condition_read

      pub conditional_read : (s₄ q : Parser) (j b m : ℕ) (y : Read StatementAt l s₃ s₄ (here (goto (begin (a statement)))) j) → b ≡ next_place r → Made (Conditional b i j) m s₄ q
          → record { moves : Moves r q; reads : Read StatementAt L r q (here (goto (begin (a statement)))) m }
      conditional_read s₄ q j b m y bi k' =
          let n = Conditional (next_place r) i j in
          let k : Made n m s₄ q = rw bi at k' in
          let m₂ : Moves s₂ s₄ = moves_trans s₂ s₃ s₄ (moves_took s₂ s₃ (word_left (the_mark Semicolon) tt s₂ h.is) h.took) y.goes.moves in
          let u = stands ExpAt exp_stays n m s₂ s₄ q m₂ k x.tree i x.below x.held in
          let v = stands StatementAt statement_stays n m s₄ s₄ q (moves_none s₄) k y.tree j y.below y.held in
          made_read StatementAt n m q (goes_out (goes_behind_deeper o.level tt y.goes if_body_begun))
          (omega (arith, o.took.at, o.took.made, x.goes.moves.thrift, h.took.at, h.took.made, y.goes.moves.thrift)) k (λ w. (i, j, w, u.below, v.below, u.held, v.held))

-- for: a name, `:=`, the elements, `;` and the statement.
module _ {L : ℕ} {r s₁ : Parser} {l : ℕ} (e : heads (the_keyword For) (ahead r) ≡ Some tt) (o : Opened L r s₁ l) where
  pub for_begun : Goes L r s₁ (here (goto (begin (a statement)))) (deeper (repetition_script (next_place r)))
  for_begun = part_opened (the_keyword For) tt repetition_script e (λ d b k. refl) o

  module _ {s₂ : Parser} {w : ℕ} (h₂ : NameExpected s₁ s₂ w) where
    pub for_named : Goes L r s₂ (here (goto (begin (a statement))))
        (deeper (word (the_mark Becomes) λ _ _. part (begin (row element)) (repetition_body (next_place r) (next_named s₁ (name_taken s₁ w h₂.is).letters))))
    for_named = goes_on_deeper (record { is = (name_taken s₁ w h₂.is).next; took = h₂.took }) refl refl (λ d. refl) for_begun

    module _ {s₃ : Parser} (h₃ : Expected (the_mark Becomes) tt s₂ s₃) where
      pub elements_begun : Goes L r s₃ (here (goto (begin (a statement)))) (deeper (part (begin (row element)) (repetition_body (next_place r) (next_named s₁ (name_taken s₁ w h₂.is).letters))))
      elements_begun = goes_on_deeper h₃ refl refl (λ d. refl) for_named

      module _ {s₄ : Parser} {i : ℕ} (x : Read (RowAt ElementAt) l s₃ s₄ (here (goto (begin (row element)))) i) where
        pub elements_read : Goes L r s₄ (here (goto (begin (a statement)))) (deeper (repetition_body (next_place r) (next_named s₁ (name_taken s₁ w h₂.is).letters) x.tree))
        elements_read = goes_behind_deeper o.level tt x.goes elements_begun

        module _ {s₅ : Parser} (h₅ : Expected (the_mark Semicolon) tt s₄ s₅) where
          pub for_body_begun : Goes L r s₅ (here (goto (begin (a statement))))
              (deeper (part (begin (a statement)) λ t. done (repeated (next_place r) (next_named s₁ (name_taken s₁ w h₂.is).letters) x.tree t)))
          for_body_begun = goes_on_deeper h₅ refl refl (λ d. refl) elements_read

          pub repeated_read : (s₆ q : Parser) (j b m : ℕ) (y : Read StatementAt l s₅ s₆ (here (goto (begin (a statement)))) j) → b ≡ next_place r → Made (Repeated b w i j) m s₆ q
              → record { moves : Moves r q; reads : Read StatementAt L r q (here (goto (begin (a statement)))) m }
          repeated_read s₆ q j b m y bi k' =
              let n = Repeated (next_place r) w i j in
              let k : Made n m s₆ q = rw bi at k' in
              let m₄ : Moves s₄ s₆ = moves_trans s₄ s₅ s₆ (moves_took s₄ s₅ (word_left (the_mark Semicolon) tt s₄ h₅.is) h₅.took) y.goes.moves in
              let u = stands (RowAt ElementAt) (row_stays element ElementAt element_stays) n m s₄ s₆ q m₄ k x.tree i x.below x.held in
              let v = stands StatementAt statement_stays n m s₆ s₆ q (moves_none s₆) k y.tree j y.below y.held in
              made_read StatementAt n m q (goes_out (goes_behind_deeper o.level tt y.goes for_body_begun))
              (omega (arith, o.took.at, o.took.made, h₂.took.at, h₂.took.made, h₃.took.at, h₃.took.made, x.goes.moves.thrift, h₅.took.at, h₅.took.made, y.goes.moves.thrift)) k
              (λ z. (
                w,
                (i, j, z, u.below, v.below, u.held, v.held),
                (name_taken s₁ w h₂.is).named q (k.same.words ∙ (y.goes.moves.same.words ∙ (h₅.took.same.words ∙ (x.goes.moves.same.words ∙ (h₃.took.same.words ∙ h₂.took.same.words))))),
              ))

-- begin: the statements are read, then `end`.
module _ {L : ℕ} {r s₁ : Parser} {l : ℕ} (e : heads (the_keyword Begin) (ahead r) ≡ Some tt) (o : Opened L r s₁ l) where
  pub block_begun : Goes L r s₁ (here (goto (begin (a statement)))) (deeper block_script)
  block_begun = part_opened (the_keyword Begin) tt (λ _. block_script) e (λ d b k. refl) o

  module _ {s₂ : Parser} {i : ℕ} (x : Read (RowAt StatementAt) l s₁ s₂ (here (goto (begin (row statement)))) i) where
    pub block_inside : Goes L r s₂ (here (goto (begin (a statement)))) (deeper (word (the_keyword End) λ _ _. done (block x.tree)))
    block_inside = goes_behind_deeper o.level tt x.goes block_begun

    pub block_read : {s₃ : Parser} → Expected (the_keyword End) tt s₂ s₃ → record { moves : Moves r s₃; reads : Read StatementAt L r s₃ (here (goto (begin (a statement)))) i }
    block_read {s₃} h =
        let m : Moves s₂ s₃ = moves_took s₂ s₃ (word_left (the_keyword End) tt s₂ h.is) h.took in
        let g = goes_closing h refl refl (λ d. refl) block_inside in
        record {
          moves = g.moves;
          reads = record {
            tree = block x.tree;
            below = omega (arith, x.below, m.more);
            held = statement_stays s₂ s₃ (moves_keep s₂ s₃ m) (block x.tree) i x.below (block_at (view s₂) x.tree i x.held);
            goes = g;
          };
        }
