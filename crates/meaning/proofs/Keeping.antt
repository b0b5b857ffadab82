-- A cell that no statement of the text names keeps its figure.
use Rattle.std.proofs.Common.{◌≡◌, ℕ, zero, suc, List, [], ◌∷◌, length, set, Some, None, Option, refl, ap, ◌∙◌, subst, length-set}
use Rattle.grammar.specs.Tree.{Statement}
use Rattle.figures.specs.Kinds.{Kind}
use Rattle.rolls.specs.Contents.{Contents}
use Rattle.meaning.specs.Names.{Names}
use Rattle.meaning.specs.Expressions.{figure_in}
use Rattle.meaning.specs.Positions.{Continuation, Position, end, at_assignment, at_go, at_switch, at_if, at_input, at_print, at_stop, at_element, at_addition, at_test}
use Rattle.meaning.specs.Machine.{Memory, State, variable_name}
use Rattle.meaning.specs.Runs.{initial, Steps, no_step, and_step}
use Rattle.meaning.specs.Laws.{Stores, by_assignment, by_input, by_for, in_body, behind_label, behind_if, in_first, in_second, HasCell, NeverStored, CellsLaw}
use Rattle.meaning.proofs.Changing.{Change, unchanged, stored, taken, posted_one, StoredAt, step_changes}
use Rattle.meaning.proofs.Reaching.{PassesOn, At, OfText, beginning_keeps, run_keeps}

-- A cell other than the one stored in keeps its figure.
other_cell : {V : Type 0} (kind : Kind V) (cells : List V) (c d : ℕ) (v : V) → (d ≡ c → ⊥) → figure_in kind (set cells d v) c ≡ figure_in kind cells c
other_cell kind [] c d v h = refl
other_cell kind (x ∷ cells) zero zero v h = absurd (h refl)
other_cell kind (x ∷ cells) (suc c) zero v h = refl
other_cell kind (x ∷ cells) zero (suc d) v h = refl
other_cell kind (x ∷ cells) (suc c) (suc d) v h = other_cell kind cells c d v (λ e. h (ap suc e))

module _ {V : Type 0} (kind : Kind V) (names : Names) (text : Option Statement) (c : ℕ) where
  -- The statements that do not store in c.
  abbrev Spares : Continuation → Statement → Type 0
  Spares k s = (x : List ℕ) → Stores s x → HasCell names x c → ⊥

  spares_parts : PassesOn Spares
  spares_parts = record {
    labelled_part = λ h x a. h x (behind_label a);
    first_part = λ h x a. h x (in_first a);
    second_part = λ h x a. h x (in_second a);
    governed_part = λ h x a. h x (behind_if a);
    body_part = λ h e later x a. h x (in_body a);
  }

  not_this : (x : List ℕ) (d : ℕ) → (HasCell names x c → ⊥) → HasCell names x d → d ≡ c → ⊥
  not_this x d h i e = h (subst (HasCell names x) e i)

  stored_elsewhere : (p : Position) (d : ℕ) → At Spares p → StoredAt kind names text p d → d ≡ c → ⊥
  stored_elsewhere end d h i = absurd i
  stored_elsewhere (at_assignment v e k) d h i = not_this (variable_name v).letters d (h.0 (variable_name v).letters by_assignment) i
  stored_elsewhere (at_go p l k) d h i = absurd i
  stored_elsewhere (at_switch p x e k) d h i = absurd i
  stored_elsewhere (at_if p e s k) d h i = absurd i
  stored_elsewhere (at_input p v k) d h i = not_this (variable_name v).letters d (h.0 (variable_name v).letters by_input) i
  stored_elsewhere (at_print p e es k) d h i = absurd i
  stored_elsewhere (at_stop p) d h i = absurd i
  stored_elsewhere (at_element loop e es k) d h i = not_this loop.control.letters d (h.0.said loop.control.letters by_for) i
  stored_elsewhere (at_addition loop a s b es k) d h i = not_this loop.control.letters d (h.0.said loop.control.letters by_for) i
  stored_elsewhere (at_test loop a s b es k) d h i = absurd i

  change_keeps : (C : ℕ → Type 0) (m n : Memory V) → ((d : ℕ) → C d → d ≡ c → ⊥) → Change C m n → figure_in kind n.cells c ≡ figure_in kind m.cells c
  change_keeps C m n h unchanged = refl
  change_keeps C m n h (stored d v i) = other_cell kind m.cells c d v (h d i)
  change_keeps C m n h (taken d v w i f) = other_cell kind m.cells c d v (h d i)
  change_keeps C m n h (posted_one v) = refl

  cell_kept : {s t : State V} {n : ℕ} → OfText Spares text → At Spares s.position → Steps kind names text s n t
      → figure_in kind t.memory.cells c ≡ figure_in kind s.memory.cells c
  cell_kept i h no_step = refl
  cell_kept {t} i h (and_step {s = u} a e) =
      change_keeps (StoredAt kind names text u.position) u.memory t.memory
      (λ d j. stored_elsewhere u.position d (run_keeps Spares spares_parts kind names text i a h) j) (step_changes kind names text u.memory u.position t e)
      ∙ cell_kept i h a

  in_the_text : (o : Option Statement) → NeverStored names o c → OfText Spares o
  in_the_text None h = tt
  in_the_text (Some s) h = h

-- A step leaves as many cells as there were.
as_many_after : {V : Type 0} (C : ℕ → Type 0) (m n : Memory V) → Change C m n → length n.cells ≡ length m.cells
as_many_after C m n unchanged = refl
as_many_after C m n (stored d v i) = length-set m.cells d v
as_many_after C m n (taken d v w i f) = length-set m.cells d v
as_many_after C m n (posted_one v) = refl

module _ {V : Type 0} (kind : Kind V) (names : Names) (text : Option Statement) where
  as_many : {s t : State V} {n : ℕ} → Steps kind names text s n t → length t.memory.cells ≡ length s.memory.cells
  as_many no_step = refl
  as_many {t} (and_step {s = u} a e) =
      as_many_after (StoredAt kind names text u.position) u.memory t.memory (step_changes kind names text u.memory u.position t e) ∙ as_many a

  kept : (c : ℕ) → NeverStored names text c → (cells : List V) (roll : Contents V) (room n : ℕ) (t : State V)
      → Steps kind names text (initial text cells roll room) n t → figure_in kind t.memory.cells c ≡ figure_in kind cells c
  kept c h cells roll room n t a =
      let i = in_the_text kind names text c text h in
      cell_kept kind names text c i (beginning_keeps (Spares kind names text c) (spares_parts kind names text c) text i) a

  pub cells_law : CellsLaw kind names text
  cells_law = record { kept = kept; as_many = λ s t n a. as_many a }
