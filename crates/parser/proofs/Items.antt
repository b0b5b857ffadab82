-- The ways through items, and the end of a program.
use Rattle.std.proofs.Common.{◌≡◌, ℕ, ◌<◌, true, false, List, [], ◌∷◌, length, Some, None, Ok, Err, Result, sym, refl, ap, ◌∙◌, arith}
use Rattle.words.specs.declared.token.Mark.TheVariants.{Becomes, OpenRound, CloseRound}
use Rattle.words.specs.declared.token.Keyword.{Keyword}
use Rattle.words.specs.declared.token.Keyword.TheVariants.{Comment, Integer, Boolean, Array, Switch}
use Rattle.words.specs.Token.{Word}
use Rattle.grammar.specs.declared.refusal.SentenceRefusal.TheVariants.{Unexpected}
use Rattle.grammar.specs.Tree.{Row, Name, Item, Program, comment, array, switch, action}
use Rattle.grammar.specs.Classes.{heads, the_mark, the_keyword, opens}
use Rattle.grammar.specs.Grammar.{a, row, identifier, group, statement, item}
use Rattle.grammar.specs.Parser.{begin, done, word, part, goto, item_script, names_script, arrays_script, switch_script, statement_item, nothing, Around, at, moved, run, tree, refused, parsed}
use Rattle.grammar.proofs.Found.{token_of}
use Rattle.parser.specs.declared.node.Node.TheVariants.{Comment as CommentNode, Array as ArrayNode, Switch as SwitchNode}
use Rattle.parser.specs.declared.node.Node.{Node}
use Rattle.parser.specs.declared.refusal.Refusal.{Refusal}
use Rattle.parser.specs.declared.table.Parser.{Parser}
use Rattle.parser.specs.Records.{ahead, view, One, NameAt, RowAt, GroupAt, StatementAt, ItemAt}
use Rattle.parser.specs.Promises.{Took, Made, Moves, place_of, here, deeper, Goes, Read, Reads, Passed}
use Rattle.parser.specs.Expecting.{Expected, NameExpected, Opened}
use Rattle.parser.specs.Whole.{ProgramRead}
use Rattle.parser.proofs.Tables.{word_left}
use Rattle.parser.proofs.Moving.{moves_none, moves_took}
use Rattle.parser.proofs.Going.{goes_start, goes_trans, goes_alike, goes_word}
use Rattle.parser.proofs.Holding.{name_stays, row_stays}
use Rattle.parser.proofs.Naming.{next_named, name_taken}
use Rattle.parser.proofs.Standing.{group_stays, stands, made_read}
use Rattle.parser.proofs.Stepping.{goes_else, goes_on, goes_closing, goes_opening, goes_behind, goes_behind_deeper, fails_behind}

-- A comment.
pub comment_read : (L : ℕ) (r s₁ q : Parser) (m : ℕ) → heads (the_keyword Comment) (ahead r) ≡ Some tt → Took true r s₁ → Made CommentNode m s₁ q
    → record { moves : Moves r q; reads : Read ItemAt L r q (here (goto (begin (a item)))) m }
comment_read L r s₁ q m e t k =
    made_read {L = L} ItemAt CommentNode m q (goes_word (the_keyword Comment) tt s₁ (λ _. here (done comment)) goes_start e t refl (λ d b k. refl)) (omega (arith, t.at, t.made)) k (λ w. w)

-- Integers or Booleans: the names in brackets were read.
module _ (w : Keyword) (f : Row Name → Item) (n : ℕ → Node) {L : ℕ} {r s₁ : Parser} (e : heads (the_keyword w) (ahead r) ≡ Some tt) (quiet : opens (token_of (the_keyword w) tt) ≡ false)
    (takes : (d b : ℕ) (k : Around (a item)) → moved (at d (goto (begin (a item))) k) (token_of (the_keyword w) tt) b ≡ Some (at d (names_script f) k)) (t : Took true r s₁) where
  pub names_item_begun : Goes L r s₁ (here (goto (begin (a item)))) (here (names_script f))
  names_item_begun = goes_word (the_keyword w) tt s₁ (λ _. here (names_script f)) goes_start e t quiet takes

  pub names_item_read : (s₂ q : Parser) (i m : ℕ) → Passed (RowAt NameAt) L s₁ s₂ (here (names_script f)) (λ xs. here (done (f xs))) i → Made (n i) m s₂ q
      → ((xs : Row Name) → One (view q) m n (λ p. RowAt NameAt (view q) xs p) → ItemAt (view q) (f xs) m)
      → record { moves : Moves r q; reads : Read ItemAt L r q (here (goto (begin (a item)))) m }
  names_item_read s₂ q i m x k stand =
      let u = stands (RowAt NameAt) (row_stays identifier NameAt name_stays) (n i) m s₂ s₂ q (moves_none s₂) k x.tree i x.below x.held in
      made_read ItemAt (n i) m q (goes_trans names_item_begun x.goes) (omega (arith, t.at, t.made, x.goes.moves.thrift)) k (λ z. stand x.tree (i, z, u.below, u.held))

-- Arrays: `(` opens a level, the groups are read, and `)` closes it.
module _ {L : ℕ} {r s₁ : Parser} (e₁ : heads (the_keyword Array) (ahead r) ≡ Some tt) (t₁ : Took true r s₁) where
  pub arrays_begun : Goes L r s₁ (here (goto (begin (a item)))) (here arrays_script)
  arrays_begun = goes_word (the_keyword Array) tt s₁ (λ _. here arrays_script) goes_start e₁ t₁ refl (λ d b k. refl)

  module _ {s₂ : Parser} {l : ℕ} (e₂ : heads (the_mark OpenRound) (ahead s₁) ≡ Some tt) (o : Opened L s₁ s₂ l) where
    pub arrays_opened : Goes L r s₂ (here (goto (begin (a item)))) (deeper (part (begin (row group)) λ gs. word (the_mark CloseRound) λ _ _. done (array gs)))
    arrays_opened = goes_opening e₂ refl refl o arrays_begun

    module _ {s₃ : Parser} {i : ℕ} (x : Read (RowAt GroupAt) l s₂ s₃ (here (goto (begin (row group)))) i) where
      pub arrays_inner : Goes L r s₃ (here (goto (begin (a item)))) (deeper (word (the_mark CloseRound) λ _ _. done (array x.tree)))
      arrays_inner = goes_behind_deeper o.level tt x.goes arrays_opened

      pub arrays_read : (s₄ q : Parser) (m : ℕ) → Expected (the_mark CloseRound) tt s₃ s₄ → Made (ArrayNode i) m s₄ q → record { moves : Moves r q; reads : Read ItemAt L r q (here (goto (begin (a item)))) m }
      arrays_read s₄ q m h k =
          let m₃ : Moves s₃ s₄ = moves_took s₃ s₄ (word_left (the_mark CloseRound) tt s₃ h.is) h.took in
          let u = stands (RowAt GroupAt) (row_stays group GroupAt group_stays) (ArrayNode i) m s₃ s₄ q m₃ k x.tree i x.below x.held in
          made_read ItemAt (ArrayNode i) m q (goes_closing h refl refl (λ d. refl) arrays_inner)
          (omega (arith, t₁.at, t₁.made, o.took.at, o.took.made, x.goes.moves.thrift, h.took.at, h.took.made)) k (λ w. (i, w, u.below, u.held))

-- A switch: a name, `:=`, and the labels in brackets.
module _ {L : ℕ} {r s₁ : Parser} (e₁ : heads (the_keyword Switch) (ahead r) ≡ Some tt) (t₁ : Took true r s₁) where
  pub switch_begun : Goes L r s₁ (here (goto (begin (a item)))) (here switch_script)
  switch_begun = goes_word (the_keyword Switch) tt s₁ (λ _. here switch_script) goes_start e₁ t₁ refl (λ d b k. refl)

  module _ {s₂ : Parser} {w : ℕ} (h₂ : NameExpected s₁ s₂ w) where
    pub switch_named : Goes L r s₂ (here (goto (begin (a item)))) (here (word (the_mark Becomes) λ _ _. names_script (switch (next_named s₁ (name_taken s₁ w h₂.is).letters))))
    switch_named = goes_on (record { is = (name_taken s₁ w h₂.is).next; took = h₂.took }) refl refl (λ d. refl) switch_begun

    module _ {s₃ : Parser} (h₃ : Expected (the_mark Becomes) tt s₂ s₃) where
      pub switch_becomes : Goes L r s₃ (here (goto (begin (a item)))) (here (names_script (switch (next_named s₁ (name_taken s₁ w h₂.is).letters))))
      switch_becomes = goes_on h₃ refl refl (λ d. refl) switch_named

      pub switch_read : (s₄ q : Parser) (i m : ℕ)
          → Passed (RowAt NameAt) L s₃ s₄ (here (names_script (switch (next_named s₁ (name_taken s₁ w h₂.is).letters)))) (λ xs. here (done (switch (next_named s₁ (name_taken s₁ w h₂.is).letters) xs))) i
          → Made (SwitchNode w i) m s₄ q → record { moves : Moves r q; reads : Read ItemAt L r q (here (goto (begin (a item)))) m }
      switch_read s₄ q i m x k =
          let u = stands (RowAt NameAt) (row_stays identifier NameAt name_stays) (SwitchNode w i) m s₄ s₄ q (moves_none s₄) k x.tree i x.below x.held in
          made_read ItemAt (SwitchNode w i) m q (goes_trans switch_becomes x.goes)
          (omega (arith, t₁.at, t₁.made, h₂.took.at, h₂.took.made, h₃.took.at, h₃.took.made, x.goes.moves.thrift)) k
          (λ z. (w, (i, z, u.below, u.held), (name_taken s₁ w h₂.is).named q (k.same.words ∙ (x.goes.moves.same.words ∙ (h₃.took.same.words ∙ h₂.took.same.words)))))

-- Where no other item begins, it is a statement.
pub action_reads : (L : ℕ) (r q : Parser) (res : Result ℕ Refusal) → heads (the_keyword Comment) (ahead r) ≡ None → heads (the_keyword Integer) (ahead r) ≡ None → heads (the_keyword Boolean) (ahead r) ≡ None
    → heads (the_keyword Array) (ahead r) ≡ None → heads (the_keyword Switch) (ahead r) ≡ None → Reads StatementAt L r q (here (goto (begin (a statement)))) res → Reads ItemAt L r q (here (goto (begin (a item)))) res
action_reads L r q res e₁ e₂ e₃ e₄ e₅ = by res
  where
    begun : Goes L r r (here (goto (begin (a item)))) (here (part (begin (a statement)) statement_item))
    begun =
        let g : Goes L r r (here (goto (begin (a item)))) (here item_script) = goes_alike goes_start (λ d k t n. refl) (λ d k. refl) in
        goes_alike (goes_else e₅ refl (goes_else e₄ refl (goes_else e₃ refl (goes_else e₂ refl (goes_else e₁ refl g))))) (λ d k t n. refl) (λ d k. refl)

    by : (res : Result ℕ Refusal) → Reads StatementAt L r q (here (goto (begin (a statement)))) res → Reads ItemAt L r q (here (goto (begin (a item)))) res
    by (Ok i) x = record { tree = action x.tree; below = x.below; held = x.held; goes = goes_behind tt x.goes begun }
    by (Err e) f = fails_behind e tt f begun

-- All items are read and no word is left, or one is.
ended_run : (limit end : ℕ) (ws : List Word) (t : Program) → ws ≡ [] → run limit end ws (at 0 (done t) nothing) ≡ tree t
ended_run limit end [] t e = refl
ended_run limit end (w ∷ ws) t e = let z : ◌≡◌ {A = ℕ} 0 1 = cc in absurd (omega arith)

more_run : (limit end : ℕ) (ws : List Word) (t : Program) → 0 < length ws → run limit end ws (at 0 (done t) nothing) ≡ refused Unexpected (place_of end ws)
more_run limit end [] t lt = absurd (omega arith)
more_run limit end (w ∷ ws) t lt = refl

module _ {L : ℕ} {r s : Parser} {i : ℕ} (x : Read (RowAt ItemAt) L r s (here (goto (begin (row item)))) i) where
  pub program_read : ahead s ≡ [] → ProgramRead L r s i
  program_read e = record {
    program = x.tree;
    below = x.below;
    held = x.held;
    outcome = x.goes.leads L 0 nothing (omega arith) ∙ ended_run L (length r.text.now) (ahead s) x.tree e;
  }

  pub program_refused : (e : Refusal) → 0 < length (ahead s) → e.reason ≡ Unexpected → e.place ≡ place_of (length s.text.now) (ahead s) → parsed L (length r.text.now) (ahead r) ≡ refused e.reason e.place
  program_refused e lt er ep =
      x.goes.leads L 0 nothing (omega arith)
      ∙ (more_run L (length r.text.now) (ahead s) x.tree lt
      ∙ sym (ap (λ z. refused z e.place) er ∙ ap (refused Unexpected) (ep ∙ ap (λ n. place_of n (ahead s)) (ap length x.goes.moves.same.text))))
