-- The ways through the statements of one line.
use Rattle.std.proofs.Common.{◌≡◌, ℕ, ◌+◌, ◌<◌, true, List, [], ◌∷◌, length, Some, None, refl, ap, ◌∙◌, arith}
use Rattle.words.specs.declared.token.Mark.TheVariants.{Colon, Becomes, Into, OpenRound, CloseRound, OpenSquare, CloseSquare}
use Rattle.words.specs.declared.token.Keyword.TheVariants.{Go, To, In, Print, Stop}
use Rattle.words.specs.Token.{Word}
use Rattle.grammar.specs.Tree.{Exp, whole, indexed, assigned, switched, input, printed, stop}
use Rattle.grammar.specs.Classes.{heads, the_mark, the_keyword, a_name, found}
use Rattle.grammar.specs.Grammar.{Phrase, a, row, exp, variable, statement}
use Rattle.grammar.specs.Parser.{Script, begin, done, word, either, part, goto, named_script, indexed_assignment, jump_script, jump_rest, input_script, print_script}
use Rattle.grammar.proofs.Found.{none_some, found_to_is}
use Rattle.parser.specs.declared.node.Node.TheVariants.{Simple, Subscripted, Assigned, Go as GoNode, Switched, Input, Printed, Stop as StopNode}
use Rattle.parser.specs.declared.table.Parser.{Parser}
use Rattle.parser.specs.Records.{ahead, ExpAt, VariableAt, RowAt, StatementAt}
use Rattle.parser.specs.Promises.{Took, Made, Moves, place_of, here, deeper, Goes, Read, Passed}
use Rattle.parser.specs.Expecting.{Expected, NameExpected, Opened}
use Rattle.parser.specs.Pieces.{subscript_script, assigning}
use Rattle.parser.proofs.Tables.{word_left}
use Rattle.parser.proofs.Moving.{moves_none, moves_trans, moves_took}
use Rattle.parser.proofs.Going.{goes_start, goes_trans, goes_word, goes_done, goes_made}
use Rattle.parser.proofs.Holding.{exp_stays, made_node, moves_keep, row_stays}
use Rattle.parser.proofs.Naming.{next_place, next_named, NameTaken, name_taken}
use Rattle.parser.proofs.Standing.{variable_stays, stands, made_read}
use Rattle.parser.proofs.Stepping.{goes_first, goes_else, goes_not, goes_on, goes_closing, goes_opening, goes_behind, goes_behind_deeper}

-- A subscript: `[` opens a level, the expression is read, and `]` closes it.
module _ {p : Phrase} (f : Exp → Script p) {L : ℕ} {r s₁ : Parser} {l : ℕ} (e : heads (the_mark OpenSquare) (ahead r) ≡ Some tt) (o : Opened L r s₁ l) where
  pub subscript_opened : Goes L r s₁ (here (subscript_script f)) (deeper (part (begin (a exp)) λ i. word (the_mark CloseSquare) λ _ _. f i))
  subscript_opened = goes_opening e refl refl o goes_start

  module _ {s₂ : Parser} {i : ℕ} (x : Read ExpAt l s₁ s₂ (here (goto (begin (a exp)))) i) where
    pub subscript_inner : Goes L r s₂ (here (subscript_script f)) (deeper (word (the_mark CloseSquare) λ _ _. f x.tree))
    subscript_inner = goes_behind_deeper o.level tt x.goes subscript_opened

    pub subscript_read : {s₃ : Parser} → Expected (the_mark CloseSquare) tt s₂ s₃ → Passed ExpAt L r s₃ (here (subscript_script f)) (λ i. here (f i)) i
    subscript_read {s₃} h =
        let m : Moves s₂ s₃ = moves_took s₂ s₃ (word_left (the_mark CloseSquare) tt s₂ h.is) h.took in
        record { tree = x.tree; below = omega (arith, x.below, m.more); held = exp_stays s₂ s₃ (moves_keep s₂ s₃ m) x.tree i x.below x.held; goes = goes_closing h refl refl (λ d. refl) subscript_inner }

no_becomes : (ws : List Word) → heads (the_mark OpenSquare) ws ≡ Some tt → heads (the_mark Becomes) ws ≡ None
no_becomes [] e = none_some e
no_becomes (w ∷ ws) e = ap (λ t. found (the_mark Becomes) t) (found_to_is (the_mark OpenSquare) w.token tt e).0

-- The name of a variable that is assigned to was taken, and no colon comes.
module _ {L : ℕ} {r s₁ : Parser} {w : ℕ} (n : NameTaken r w) (t : Took true r s₁) (plain : heads (the_mark Colon) (ahead s₁) ≡ None) where
  target_begun : Goes L r s₁ (here (goto (begin (a statement))))
      (here (either (the_mark Becomes) (λ _ _. part (begin (a exp)) λ y. done (assigned (whole (next_named r n.letters)) y)) (word (the_mark OpenSquare) λ _ _. indexed_assignment (next_named r n.letters))))
  target_begun = goes_else plain refl (goes_word a_name n.letters s₁ (λ b. here (named_script (record { letters = n.letters; place = b }))) goes_start n.next t refl (λ d b k. refl))

  pub whole_target : (q : Parser) (m : ℕ) → heads (the_mark OpenSquare) (ahead s₁) ≡ None → Made (Simple w) m s₁ q
      → record { moves : Moves r q; reads : Passed VariableAt L r q (here (goto (begin (a statement)))) (λ v. here (assigning v)) m }
  whole_target q m e k =
      let paid : s₁.made < s₁.at = omega (arith, t.at, t.made, r.thrift) in
      let g = goes_made (Simple w) m q (goes_not e target_begun) paid (omega (arith, t.at, t.made)) k in
      record {
        moves = g.moves;
        reads = record {
          tree = whole (next_named r n.letters);
          below = omega (arith, k.place, k.made);
          held = (w, made_node (Simple w) m s₁ q paid k, n.named q g.moves.same.words);
          goes = g;
        };
      }

  module _ (e : heads (the_mark OpenSquare) (ahead s₁) ≡ Some tt) where
    pub target_subscript : Goes L r s₁ (here (goto (begin (a statement)))) (here (subscript_script λ i. assigning (indexed (next_named r n.letters) i)))
    target_subscript = goes_else (no_becomes (ahead s₁) e) refl target_begun

    pub indexed_target : (s₂ q : Parser) (i m : ℕ) → Passed ExpAt L s₁ s₂ (here (subscript_script λ i. assigning (indexed (next_named r n.letters) i))) (λ i. here (assigning (indexed (next_named r n.letters) i))) i → Made (Subscripted w i) m s₂ q
        → record { moves : Moves r q; reads : Passed VariableAt L r q (here (goto (begin (a statement)))) (λ v. here (assigning v)) m }
    indexed_target s₂ q i m x k =
        let g₂ = goes_trans target_subscript x.goes in
        let strict : s₂.made + r.at < r.made + s₂.at = omega (arith, t.at, t.made, x.goes.moves.thrift) in
        let paid : s₂.made < s₂.at = omega (arith, r.thrift) in
        let u = stands ExpAt exp_stays (Subscripted w i) m s₂ s₂ q (moves_none s₂) k x.tree i x.below x.held in
        let g = goes_made (Subscripted w i) m q g₂ paid strict k in
        record {
          moves = g.moves;
          reads = record {
            tree = indexed (next_named r n.letters) x.tree;
            below = omega (arith, k.place, k.made);
            held = (w, (i, made_node (Subscripted w i) m s₂ q paid k, u.below, u.held), n.named q g.moves.same.words);
            goes = g;
          };
        }

-- An assignment, behind its variable.
module _ {L : ℕ} {r s₁ s₂ : Parser} {i : ℕ} (x : Passed VariableAt L r s₁ (here (goto (begin (a statement)))) (λ v. here (assigning v)) i) (h : Expected (the_mark Becomes) tt s₁ s₂) where
  pub assignment_begun : Goes L r s₂ (here (goto (begin (a statement)))) (here (part (begin (a exp)) λ y. done (assigned x.tree y)))
  assignment_begun = goes_on h refl refl (λ d. refl) x.goes

  pub assignment_read : (s₃ q : Parser) (j m : ℕ) (y : Read ExpAt L s₂ s₃ (here (goto (begin (a exp)))) j) → Made (Assigned i j) m s₃ q
      → record { moves : Moves r q; reads : Read StatementAt L r q (here (goto (begin (a statement)))) m }
  assignment_read s₃ q j m y k =
      let m₁ : Moves s₁ s₃ = moves_trans s₁ s₂ s₃ (moves_took s₁ s₂ (word_left (the_mark Becomes) tt s₁ h.is) h.took) y.goes.moves in
      let u = stands VariableAt variable_stays (Assigned i j) m s₁ s₃ q m₁ k x.tree i x.below x.held in
      let v = stands ExpAt exp_stays (Assigned i j) m s₃ s₃ q (moves_none s₃) k y.tree j y.below y.held in
      made_read StatementAt (Assigned i j) m q (goes_behind tt y.goes assignment_begun)
      (omega (arith, x.goes.moves.thrift, h.took.at, h.took.made, y.goes.moves.thrift)) k (λ w. (i, j, w, u.below, v.below, u.held, v.held))

-- A go to: `go` was taken, then `to`, then a name.
module _ {L : ℕ} {r s₁ : Parser} (e₁ : heads (the_keyword Go) (ahead r) ≡ Some tt) (t₁ : Took true r s₁) where
  pub go_begun : Goes L r s₁ (here (goto (begin (a statement)))) (here (jump_script (next_place r)))
  go_begun = goes_word (the_keyword Go) tt s₁ (λ b. here (jump_script b)) goes_start e₁ t₁ refl (λ d b k. refl)

  module _ {s₂ : Parser} (h₂ : Expected (the_keyword To) tt s₁ s₂) where
    pub go_to : Goes L r s₂ (here (goto (begin (a statement)))) (here (word a_name λ n q. jump_rest (next_place r) (record { letters = n; place = q })))
    go_to = goes_on h₂ refl refl (λ d. refl) go_begun

    module _ {s₃ : Parser} {w : ℕ} (h₃ : NameExpected s₂ s₃ w) where
      pub go_named : Goes L r s₃ (here (goto (begin (a statement)))) (here (jump_rest (next_place r) (next_named s₂ (name_taken s₂ w h₃.is).letters)))
      go_named = goes_on (record { is = (name_taken s₂ w h₃.is).next; took = h₃.took }) refl refl (λ d. refl) go_to

      pub go_read : (q : Parser) (b m : ℕ) → heads (the_mark OpenSquare) (ahead s₃) ≡ None → b ≡ (next_place r) → Made (GoNode b w) m s₃ q
          → record { moves : Moves r q; reads : Read StatementAt L r q (here (goto (begin (a statement)))) m }
      go_read q b m e j k' =
          let k : Made (GoNode (next_place r) w) m s₃ q = rw j at k' in
          made_read StatementAt (GoNode (next_place r) w) m q (goes_done go_named e) (omega (arith, t₁.at, t₁.made, h₂.took.at, h₂.took.made, h₃.took.at, h₃.took.made)) k
          (λ v. (w, v, (name_taken s₂ w h₃.is).named q (k.same.words ∙ h₃.took.same.words)))

      module _ (e : heads (the_mark OpenSquare) (ahead s₃) ≡ Some tt) where
        pub switch_subscript : Goes L r s₃ (here (goto (begin (a statement)))) (here (subscript_script λ i. done (switched (next_place r) (next_named s₂ (name_taken s₂ w h₃.is).letters) i)))
        switch_subscript = goes_first e go_named

        pub switched_read : (s₄ q : Parser) (b i m : ℕ) (x : Passed {p = a statement} ExpAt L s₃ s₄ (here (subscript_script λ i. done (switched (next_place r) (next_named s₂ (name_taken s₂ w h₃.is).letters) i))) (λ i. here (done (switched (next_place r) (next_named s₂ (name_taken s₂ w h₃.is).letters) i))) i) → b ≡ (next_place r)
            → Made (Switched b w i) m s₄ q → record { moves : Moves r q; reads : Read StatementAt L r q (here (goto (begin (a statement)))) m }
        switched_read s₄ q b i m x j k' =
            let k : Made (Switched (next_place r) w i) m s₄ q = rw j at k' in
            let u = stands ExpAt exp_stays (Switched (next_place r) w i) m s₄ s₄ q (moves_none s₄) k x.tree i x.below x.held in
            made_read StatementAt (Switched (next_place r) w i) m q (goes_trans switch_subscript x.goes)
            (omega (arith, t₁.at, t₁.made, h₂.took.at, h₂.took.made, h₃.took.at, h₃.took.made, x.goes.moves.thrift)) k
            (λ v. (w, (i, v, u.below, u.held), (name_taken s₂ w h₃.is).named q (k.same.words ∙ (x.goes.moves.same.words ∙ h₃.took.same.words))))

-- in: `in` was taken, then `=:`, then `(` opened a level.
module _ {L : ℕ} {r s₁ : Parser} (e₁ : heads (the_keyword In) (ahead r) ≡ Some tt) (t₁ : Took true r s₁) where
  pub in_begun : Goes L r s₁ (here (goto (begin (a statement)))) (here (input_script (next_place r)))
  in_begun = goes_word (the_keyword In) tt s₁ (λ b. here (input_script b)) goes_start e₁ t₁ refl (λ d b k. refl)

  module _ {s₂ : Parser} (h₂ : Expected (the_mark Into) tt s₁ s₂) where
    pub in_into : Goes L r s₂ (here (goto (begin (a statement)))) (here (word (the_mark OpenRound) λ _ _. part (begin (a variable)) λ v. word (the_mark CloseRound) λ _ _. done (input (next_place r) v)))
    in_into = goes_on h₂ refl refl (λ d. refl) in_begun

    module _ {s₃ : Parser} {l : ℕ} (e₃ : heads (the_mark OpenRound) (ahead s₂) ≡ Some tt) (o : Opened L s₂ s₃ l) where
      pub in_opened : Goes L r s₃ (here (goto (begin (a statement)))) (deeper (part (begin (a variable)) λ v. word (the_mark CloseRound) λ _ _. done (input (next_place r) v)))
      in_opened = goes_opening e₃ refl refl o in_into

      module _ {s₄ : Parser} {i : ℕ} (x : Read VariableAt l s₃ s₄ (here (goto (begin (a variable)))) i) where
        pub in_inner : Goes L r s₄ (here (goto (begin (a statement)))) (deeper (word (the_mark CloseRound) λ _ _. done (input (next_place r) x.tree)))
        in_inner = goes_behind_deeper o.level tt x.goes in_opened

        pub input_read : (s₅ q : Parser) (b m : ℕ) → Expected (the_mark CloseRound) tt s₄ s₅ → b ≡ (next_place r) → Made (Input b i) m s₅ q
            → record { moves : Moves r q; reads : Read StatementAt L r q (here (goto (begin (a statement)))) m }
        input_read s₅ q b m h j k' =
            let k : Made (Input (next_place r) i) m s₅ q = rw j at k' in
            let m₄ : Moves s₄ s₅ = moves_took s₄ s₅ (word_left (the_mark CloseRound) tt s₄ h.is) h.took in
            let u = stands VariableAt variable_stays (Input (next_place r) i) m s₄ s₅ q m₄ k x.tree i x.below x.held in
            made_read StatementAt (Input (next_place r) i) m q (goes_closing h refl refl (λ d. refl) in_inner)
            (omega (arith, t₁.at, t₁.made, h₂.took.at, h₂.took.made, o.took.at, o.took.made, x.goes.moves.thrift, h.took.at, h.took.made)) k (λ w. (i, w, u.below, u.held))

-- print: `print` was taken, then `(` opened a level.
module _ {L : ℕ} {r s₁ : Parser} (e₁ : heads (the_keyword Print) (ahead r) ≡ Some tt) (t₁ : Took true r s₁) where
  pub print_begun : Goes L r s₁ (here (goto (begin (a statement)))) (here (print_script (next_place r)))
  print_begun = goes_word (the_keyword Print) tt s₁ (λ b. here (print_script b)) goes_start e₁ t₁ refl (λ d b k. refl)

  module _ {s₂ : Parser} {l : ℕ} (e₂ : heads (the_mark OpenRound) (ahead s₁) ≡ Some tt) (o : Opened L s₁ s₂ l) where
    pub print_opened : Goes L r s₂ (here (goto (begin (a statement)))) (deeper (part (begin (row exp)) λ xs. word (the_mark CloseRound) λ _ _. done (printed (next_place r) xs)))
    print_opened = goes_opening e₂ refl refl o print_begun

    module _ {s₃ : Parser} {i : ℕ} (x : Read (RowAt ExpAt) l s₂ s₃ (here (goto (begin (row exp)))) i) where
      pub print_inner : Goes L r s₃ (here (goto (begin (a statement)))) (deeper (word (the_mark CloseRound) λ _ _. done (printed (next_place r) x.tree)))
      print_inner = goes_behind_deeper o.level tt x.goes print_opened

      pub printed_read : (s₄ q : Parser) (b m : ℕ) → Expected (the_mark CloseRound) tt s₃ s₄ → b ≡ (next_place r) → Made (Printed b i) m s₄ q
          → record { moves : Moves r q; reads : Read StatementAt L r q (here (goto (begin (a statement)))) m }
      printed_read s₄ q b m h j k' =
          let k : Made (Printed (next_place r) i) m s₄ q = rw j at k' in
          let m₃ : Moves s₃ s₄ = moves_took s₃ s₄ (word_left (the_mark CloseRound) tt s₃ h.is) h.took in
          let u = stands (RowAt ExpAt) (row_stays exp ExpAt exp_stays) (Printed (next_place r) i) m s₃ s₄ q m₃ k x.tree i x.below x.held in
          made_read StatementAt (Printed (next_place r) i) m q (goes_closing h refl refl (λ d. refl) print_inner)
          (omega (arith, t₁.at, t₁.made, o.took.at, o.took.made, x.goes.moves.thrift, h.took.at, h.took.made)) k (λ w. (i, w, u.below, u.held))

-- stop.
pub stop_read : {L : ℕ} {r s₁ : Parser} (q : Parser) (b m : ℕ) → heads (the_keyword Stop) (ahead r) ≡ Some tt → Took true r s₁ → b ≡ place_of (length r.text.now) (ahead r) → Made (StopNode b) m s₁ q
    → record { moves : Moves r q; reads : Read StatementAt L r q (here (goto (begin (a statement)))) m }
stop_read {r = r} {s₁ = s₁} q b m e t j k' =
    let p = place_of (length r.text.now) (ahead r) in
    let k : Made (StopNode p) m s₁ q = rw j at k' in
    made_read StatementAt (StopNode p) m q (goes_word (the_keyword Stop) tt s₁ (λ b. here (done (stop b))) goes_start e t refl (λ d b k. refl)) (omega (arith, t.at, t.made)) k (λ w. w)
