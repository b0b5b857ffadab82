-- The ways through factors, variables and prefixes.
use Rattle.std.proofs.Common.{◌≡◌, ℕ, suc, ◌+◌, ◌<◌, true, List, [], ◌∷◌, length, Some, None, Ok, Err, Result, refl, ap, ◌∙◌, arith}
use Rattle.words.specs.declared.token.Mark.TheVariants.{OpenRound, CloseRound, OpenSquare, CloseSquare}
use Rattle.words.specs.Token.{Word}
use Rattle.grammar.specs.Tree.{Name, Exp, literal, prefixed, bracketed, compared, Variable, whole, indexed, value_of}
use Rattle.grammar.specs.Classes.{heads, prefix_rank, operand_rank, the_mark, a_name, a_number, a_relation, a_prefix, Content, found, opens, levels_after}
use Rattle.grammar.specs.Grammar.{a, ranked, factor, variable, exp}
use Rattle.grammar.specs.Parser.{begin, operators, done, word, part, goto, within, variable_script, variable_rest, variable_factor, comparison_script, bracket_rest, bracket_script, factor_script, prefix_script, behind_factor, Around, at, met, meets, after, moved, if_found, run, onward}
use Rattle.grammar.specs.declared.operator.Prefix.{Prefix}
use Rattle.grammar.proofs.Complete.{fresh, prefix_moves, prefix_opens}
use Rattle.grammar.proofs.Found.{token_of}
use Rattle.parser.specs.declared.node.Node.TheVariants.{Literal, Simple, Subscripted, Prefixed, Bracketed, Compared}
use Rattle.parser.specs.declared.refusal.Refusal.{Refusal}
use Rattle.parser.specs.declared.table.Parser.{Parser}
use Rattle.parser.specs.Records.{ahead, View, view, ExpAt, VariableAt}
use Rattle.parser.specs.Promises.{place_of, Took, Made, Moves, here, deeper, Goes, Fails, Read, Reads}
use Rattle.parser.specs.Expecting.{Expected, NameExpected, NotTaken, Opened}
use Rattle.parser.proofs.Tables.{word_left}
use Rattle.parser.proofs.Moving.{moves_none, moves_trans, moves_took, moves_left}
use Rattle.parser.proofs.Going.{goes_start, goes_alike, goes_word, goes_left, goes_done, goes_made, goes_part, fails_part}
use Rattle.parser.proofs.Holding.{made_keeps, exp_stays, made_node}
use Rattle.parser.proofs.Naming.{next_place, next_named, name_taken}
use Rattle.parser.proofs.Operators.{heads_rank}
use Rattle.parser.proofs.Standing.{stands, made_read}
use Rattle.parser.proofs.Stepping.{part_opened, goes_first, goes_else_deeper, goes_opening, goes_closing, goes_behind_deeper}

-- Where neither `(` nor a number comes, a factor is read as a variable; where no operator comes, an expression as a factor.
as_variable : (limit end : ℕ) (ws : List Word) (d : ℕ) (k : Around (a factor)) → heads (the_mark OpenRound) ws ≡ None → heads a_number ws ≡ None
    → run limit end ws (at d (goto (begin (a factor))) k) ≡ run limit end ws (at d (part (begin (a variable)) variable_factor) k)
as_variable limit end [] d k e f = refl
as_variable limit end (w ∷ ws) d k e f =
    ap (λ o. onward limit w.place (opens w.token) (λ q. run limit end ws q) (met d (levels_after w.token d) k (λ v. after k v w.token w.place)
    (if_found (λ x. bracket_script w.place) (if_found (λ n. done (literal n w.place)) (meets w.token w.place (within variable_script variable_factor)) (found a_number w.token)) o))) e
    ∙ ap (λ o. onward limit w.place (opens w.token) (λ q. run limit end ws q) (met d (levels_after w.token d) k (λ v. after k v w.token w.place)
    (if_found (λ n. done (literal n w.place)) (meets w.token w.place (within variable_script variable_factor)) o))) f

as_factor : (limit end rk : ℕ) (ws : List Word) (d : ℕ) (k : Around (a (ranked rk))) → heads (a_prefix rk) ws ≡ None
    → run limit end ws (at d (goto (begin (a (ranked rk)))) k) ≡ run limit end ws (at d (part (begin (a factor)) (behind_factor rk)) k)
as_factor limit end rk [] d k e = refl
as_factor limit end rk (w ∷ ws) d k e =
    ap (λ o. onward limit w.place (opens w.token) (λ q. run limit end ws q) (met d (levels_after w.token d) k (λ v. after k v w.token w.place)
    (if_found (λ o. prefix_script rk w.place o) (meets w.token w.place (within factor_script (behind_factor rk))) o))) e

module _ (L : ℕ) (r : Parser) where
  pub goes_as_variable : heads (the_mark OpenRound) (ahead r) ≡ None → heads a_number (ahead r) ≡ None → Goes L r r (here (goto (begin (a factor)))) (here (part (begin (a variable)) variable_factor))
  goes_as_variable e f = record { moves = moves_none r; leads = λ limit d k h. as_variable limit (length r.text.now) (ahead r) d k e f }

  pub goes_as_factor : (rk : ℕ) → heads (a_prefix rk) (ahead r) ≡ None → Goes L r r (here (goto (begin (a (ranked rk))))) (here (part (begin (a factor)) (behind_factor rk)))
  goes_as_factor rk e = record { moves = moves_none r; leads = λ limit d k h. as_factor limit (length r.text.now) rk (ahead r) d k e }

pub variable_value : (v : View) (x : Variable) (i : ℕ) → VariableAt v x i → ExpAt v (value_of x) i
variable_value v (whole x) i h = h
variable_value v (indexed x e) i h = h

-- What is read as a variable is a factor.
pub variable_reads : (L : ℕ) (r s q : Parser) (res : Result ℕ Refusal) → Goes L r s (here (goto (begin (a factor)))) (here (part (begin (a variable)) variable_factor))
    → Reads VariableAt L s q (here (goto (begin (a variable)))) res → Reads ExpAt L r q (here (goto (begin (a factor)))) res
variable_reads L r s q (Ok i) g x = record { tree = value_of x.tree; below = x.below; held = variable_value (view q) x.tree i x.held; goes = goes_part q i tt g x }
variable_reads L r s q (Err e) g f = fails_part e tt g f

-- A number.
pub number_read : (L : ℕ) (r s q : Parser) (n b m : ℕ) → heads a_number (ahead r) ≡ Some n → Took true r s → b ≡ place_of (length r.text.now) (ahead r) → Made (Literal n b) m s q
    → record { moves : Moves r q; reads : Read ExpAt L r q (here (goto (begin (a factor)))) m }
number_read L r s q n b m e t i k' =
    let k : Made (Literal n (place_of (length r.text.now) (ahead r))) m s q = rw i at k' in
    let p = place_of (length r.text.now) (ahead r) in
    let paid : s.made < s.at = omega (arith, t.at, t.made, r.thrift) in
    let m₁ : Moves r s = moves_took r s (word_left a_number n r e) t in
    let g = goes_made (Literal n p) m q (goes_word {L = L} a_number n s (λ c. here (done (literal n c))) goes_start e t refl (λ d c k. refl)) paid (omega (arith, t.at, t.made)) k in
    record { moves = g.moves; reads = record { tree = literal n p; below = omega (arith, k.place, k.made); held = made_node (Literal n p) m s q paid k; goes = g } }

-- A bracket: `(` opens a level, and an expression is read.
pub bracket_takes : (d b : ℕ) (k : Around (a factor)) → moved (at d (goto (begin (a factor))) k) (token_of (the_mark OpenRound) tt) b ≡ Some (at (suc d) (bracket_script b) k)
bracket_takes d b k = refl

module _ {L : ℕ} {r s₁ : Parser} {l : ℕ} (e : heads (the_mark OpenRound) (ahead r) ≡ Some tt) (o : Opened L r s₁ l) where
  pub bracket_opened : Goes L r s₁ (here (goto (begin (a factor)))) (deeper (bracket_script (next_place r)))
  bracket_opened = part_opened (the_mark OpenRound) tt bracket_script e bracket_takes o

  module _ {s₂ : Parser} {i : ℕ} (x : Read ExpAt l s₁ s₂ (here (goto (begin (a exp)))) i) where
    pub bracket_inside : Goes L r s₂ (here (goto (begin (a factor)))) (deeper (bracket_rest (next_place r) x.tree))
    bracket_inside = goes_behind_deeper o.level tt x.goes bracket_opened

    -- No relation comes, and `)` closes it.
    module _ {s₃ : Parser} (n : NotTaken a_relation s₂ s₃) where
      pub bracket_closing : Goes L r s₃ (here (goto (begin (a factor)))) (deeper (word (the_mark CloseRound) λ _ _. done (bracketed (next_place r) x.tree)))
      bracket_closing = goes_left s₃ (goes_else_deeper n.is refl bracket_inside) n.took

      pub bracket_read : (s₄ q : Parser) (b m : ℕ) → Expected (the_mark CloseRound) tt s₃ s₄ → b ≡ next_place r → Made (Bracketed b i) m s₄ q
          → record { moves : Moves r q; reads : Read ExpAt L r q (here (goto (begin (a factor)))) m }
      bracket_read s₄ q b m h j k' =
          let n₁ = Bracketed (next_place r) i in
          let k : Made n₁ m s₄ q = rw j at k' in
          let m₂ : Moves s₂ s₄ = moves_trans s₂ s₃ s₄ (moves_left s₂ s₃ n.took) (moves_took s₃ s₄ (word_left (the_mark CloseRound) tt s₃ h.is) h.took) in
          let u = stands ExpAt exp_stays n₁ m s₂ s₄ q m₂ k x.tree i x.below x.held in
          made_read ExpAt n₁ m q (goes_closing h refl refl (λ d. refl) bracket_closing)
          (omega (arith, o.took.at, o.took.made, x.goes.moves.thrift, n.took.at, n.took.made, h.took.at, h.took.made)) k (λ w. (i, w, u.below, u.held))

    -- A relation comes, and behind it another expression.
    module _ {s₃ : Parser} {rel : Content a_relation} (n : Expected a_relation rel s₂ s₃) where
      pub comparison_begun : Goes L r s₃ (here (goto (begin (a factor)))) (deeper (comparison_script (next_place r) x.tree rel))
      comparison_begun = goes_word a_relation rel s₃ (λ _. deeper (comparison_script (next_place r) x.tree rel)) bracket_inside n.is n.took refl (λ d b k. refl)

      module _ {s₄ : Parser} {j : ℕ} (y : Read ExpAt l s₃ s₄ (here (goto (begin (a exp)))) j) where
        pub comparison_inside : Goes L r s₄ (here (goto (begin (a factor)))) (deeper (word (the_mark CloseRound) λ _ _. done (compared rel (next_place r) x.tree y.tree)))
        comparison_inside = goes_behind_deeper o.level tt y.goes comparison_begun

        pub comparison_read : (s₅ q : Parser) (b m : ℕ) → Expected (the_mark CloseRound) tt s₄ s₅ → b ≡ next_place r → Made (Compared rel b i j) m s₅ q
            → record { moves : Moves r q; reads : Read ExpAt L r q (here (goto (begin (a factor)))) m }
        comparison_read s₅ q b m h e' k' =
            let n₁ = Compared rel (next_place r) i j in
            let k : Made n₁ m s₅ q = rw e' at k' in
            let m₄ : Moves s₄ s₅ = moves_took s₄ s₅ (word_left (the_mark CloseRound) tt s₄ h.is) h.took in
            let m₂ : Moves s₂ s₅ = moves_trans s₂ s₃ s₅ (moves_took s₂ s₃ (word_left a_relation rel s₂ n.is) n.took) (moves_trans s₃ s₄ s₅ y.goes.moves m₄) in
            let u = stands ExpAt exp_stays n₁ m s₂ s₅ q m₂ k x.tree i x.below x.held in
            let v = stands ExpAt exp_stays n₁ m s₄ s₅ q m₄ k y.tree j y.below y.held in
            made_read ExpAt n₁ m q (goes_closing h refl refl (λ d. refl) comparison_inside)
            (omega (arith, o.took.at, o.took.made, x.goes.moves.thrift, n.took.at, n.took.made, y.goes.moves.thrift, h.took.at, h.took.made)) k (λ w. (i, j, w, u.below, v.below, u.held, v.held))

-- An operator before its operand was taken.
module _ (L : ℕ) (r s : Parser) (rk : ℕ) (o : Prefix) (e : heads (a_prefix rk) (ahead r) ≡ Some o) (t : Took true r s) where
  abbrev prefix_place : ℕ
  prefix_place = place_of (length r.text.now) (ahead r)

  pub prefix_begun : Goes L r s (here (goto (begin (a (ranked rk))))) (here (prefix_script rk prefix_place o))
  prefix_begun = goes_word (a_prefix rk) o s (λ b. here (prefix_script rk b o)) goes_start e t (prefix_opens o) (λ d b k. prefix_moves rk o d b k (heads_rank (a_prefix rk) o (ahead r) e))

  pub prefix_fails : (n : ℕ) (u : Refusal) → n ≡ operand_rank o → Fails L s (here (goto (begin (a (ranked n))))) u → Fails L r (here (goto (begin (a (ranked rk))))) u
  prefix_fails n u i f = fails_part u (fresh (ranked (operand_rank o))) prefix_begun (rw i at f)

  pub record PrefixRead (q : Parser) (m h : ℕ) : Type 0 where
    pub tree : Exp
    pub held : ExpAt (view q) tree m
    pub goes : Goes L r q (here (goto (begin (a (ranked rk))))) (here (goto (operators rk h tree)))

  pub prefix_read : (s₂ q : Parser) (n i b m h : ℕ) → n ≡ operand_rank o → Read ExpAt L s s₂ (here (goto (begin (a (ranked n))))) i → b ≡ prefix_place → Made (Prefixed o b i) m s₂ q → h ≡ prefix_rank o → PrefixRead q m h
  prefix_read s₂ q n i b m h ni x' bi k' hi =
      let x : Read ExpAt L s s₂ (here (goto (begin (a (ranked (operand_rank o)))))) i = rw ni at x' in
      let k : Made (Prefixed o prefix_place i) m s₂ q = rw bi at k' in
      let g₂ = goes_part s₂ i (fresh (ranked (operand_rank o))) prefix_begun x in
      let strict : s₂.made + r.at < r.made + s₂.at = omega (arith, t.at, t.made, x.goes.moves.thrift) in
      let paid : s₂.made < s₂.at = omega (arith, r.thrift) in
      rw hi (record {
        tree = prefixed o prefix_place x.tree;
        held = (i, made_node (Prefixed o prefix_place i) m s₂ q paid k, omega (arith, x.below, k.place), exp_stays s₂ q (made_keeps (Prefixed o prefix_place i) m s₂ q k) x.tree i x.below x.held);
        goes = goes_made (Prefixed o prefix_place i) m q g₂ paid strict k;
      })

-- A variable begins with a name.
pub variable_begins : {L : ℕ} {r : Parser} → Goes L r r (here (goto (begin (a variable)))) (here variable_script)
variable_begins = goes_alike goes_start (λ d k t n. refl) (λ d k. refl)

-- The name that was taken.
abbrev variable_name : {r s : Parser} {w : ℕ} → NameExpected r s w → Name
variable_name {r} {s} {w} h = next_named r (name_taken r w h.is).letters

module _ {L : ℕ} {r s : Parser} {w : ℕ} (h : NameExpected r s w) where
  pub variable_begun : Goes L r s (here (goto (begin (a variable)))) (here (variable_rest (variable_name h)))
  variable_begun = goes_word a_name (name_taken r w h.is).letters s (λ b. here (variable_rest (record { letters = (name_taken r w h.is).letters; place = b }))) goes_start (name_taken r w h.is).next h.took refl (λ d b k. refl)

  pub whole_read : (q : Parser) (m : ℕ) → heads (the_mark OpenSquare) (ahead s) ≡ None → Made (Simple w) m s q → record { moves : Moves r q; reads : Read VariableAt L r q (here (goto (begin (a variable)))) m }
  whole_read q m e k =
      made_read VariableAt (Simple w) m q (goes_done variable_begun e) (omega (arith, h.took.at, h.took.made)) k (λ z. (w, z, (name_taken r w h.is).named q (k.same.words ∙ h.took.same.words)))

  -- `[` opens a level, and the subscript is read.
  module _ {s₁ : Parser} {l : ℕ} (e : heads (the_mark OpenSquare) (ahead s) ≡ Some tt) (o : Opened L s s₁ l) where
    pub subscript_begun : Goes L r s₁ (here (goto (begin (a variable)))) (deeper (part (begin (a exp)) λ i. word (the_mark CloseSquare) λ _ _. done (indexed (variable_name h) i)))
    subscript_begun = goes_opening e refl refl o (goes_first e variable_begun)

    module _ {s₂ : Parser} {i : ℕ} (x : Read ExpAt l s₁ s₂ (here (goto (begin (a exp)))) i) where
      pub subscript_inside : Goes L r s₂ (here (goto (begin (a variable)))) (deeper (word (the_mark CloseSquare) λ _ _. done (indexed (variable_name h) x.tree)))
      subscript_inside = goes_behind_deeper o.level tt x.goes subscript_begun

      pub indexed_read : (s₃ q : Parser) (m : ℕ) → Expected (the_mark CloseSquare) tt s₂ s₃ → Made (Subscripted w i) m s₃ q
          → record { moves : Moves r q; reads : Read VariableAt L r q (here (goto (begin (a variable)))) m }
      indexed_read s₃ q m h₃ k =
          let m₂ : Moves s₂ s₃ = moves_took s₂ s₃ (word_left (the_mark CloseSquare) tt s₂ h₃.is) h₃.took in
          let u = stands ExpAt exp_stays (Subscripted w i) m s₂ s₃ q m₂ k x.tree i x.below x.held in
          made_read VariableAt (Subscripted w i) m q (goes_closing h₃ refl refl (λ d. refl) subscript_inside)
          (omega (arith, h.took.at, h.took.made, o.took.at, o.took.made, x.goes.moves.thrift, h₃.took.at, h₃.took.made)) k
          (λ z. (w, (i, z, u.below, u.held), (name_taken r w h.is).named q (k.same.words ∙ (h₃.took.same.words ∙ (x.goes.moves.same.words ∙ (o.took.same.words ∙ h.took.same.words))))))
