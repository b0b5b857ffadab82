-- Steps one after another, and the refusals of an advance.
use Rattle.std.proofs.Common.{◌≡◌, ℕ, zero, suc, ◌+◌, ◌-◌, ◌<◌, ◌≤◌, true, false, cond, eqb, leb, List, length, is_some, Some, None, Option, sym, refl, ap, ◌∙◌, arith}
use Rattle.std.specs.Option.{option_map}
use Rattle.figures.specs.Kinds.{Kind, value, refused}
use Rattle.rolls.specs.Contents.{Contents}
use Rattle.machine.specs.Machine.{Memory, ResultOf}
use Rattle.machine.specs.Runs.{Advanced, Progress, Run, advance_after, advance_answer, advance_refusal, at_step, came_to, ended, run, stepped}
use Rattle.machine.specs.Steps.{step}
use Rattle.machine.specs.Views.{memory}

-- Where what is mapped holds nothing, it is nothing.
pub none_mapped : {A B : Type 0} (f : A → B) (o : Option A) → is_some (option_map f o) ≡ false → option_map f o ≡ None
none_mapped f None e = refl
none_mapped f (Some x) e = let z : ◌≡◌ {A = ℕ} 0 1 = cc in absurd (omega arith)

-- The run of this progress over this memory.
abbrev run_with : {V : Type 0} → Progress → Memory V → Run V
run_with p m = record { progress = p; memory = m }

-- What is known of a run is known of one over the same cells, book and roll.
pub same_run : {R F V : Type 0} (means : F → V) (holds : R → Contents F) {p : Progress} {posted : ℕ} {cells book : List F} {roll : R} {s : Run V} (cells' book' : List F) (roll' : R) → cells ≡ cells' → book ≡ book' → roll ≡ roll' → run_with p (memory means posted cells' book' (holds roll')) ≡ s → run_with p (memory means posted cells book (holds roll)) ≡ s
same_run means holds {p} {posted} {cells} {book} {roll} cells' book' roll' a b c e =
    ap (λ xs. run_with p (memory means posted xs book (holds roll))) a
    ∙ ap (λ xs. run_with p (memory means posted cells' xs (holds roll))) b
    ∙ ap (λ l. run_with p (memory means posted cells' book' (holds l))) c
    ∙ e

module _ {V : Type 0} (kind : Kind V) where
  -- A step of a run that has not ended.
  pub stepped_to : (r : Run V) (o : ResultOf V) → ended r.progress ≡ false → step kind r.progress.code (at_step r) ≡ o → stepped kind r ≡ came_to r o
  unfolding stepped
  stepped_to r o e s = ap (λ b. cond b r (came_to r (step kind r.progress.code (at_step r)))) e ∙ ap (came_to r) s

  -- A run that has ended stays as it is.
  pub ended_steps : (r : Run V) → ended r.progress ≡ true → stepped kind r ≡ r
  unfolding stepped
  ended_steps r e = ap (λ b. cond b r (came_to r (step kind r.progress.code (at_step r)))) e

  pub ended_runs : (n : ℕ) (r : Run V) → ended r.progress ≡ true → run kind n r ≡ r
  unfolding run
  ended_runs zero r e = refl
  ended_runs (suc n) r e = ap (run kind n) (ended_steps r e) ∙ ended_runs n r e

  -- One step more, and none more.
  pub run_more : (n i : ℕ) (r s : Run V) → i < n → s ≡ stepped kind r → run kind (n - i) r ≡ run kind (n - (i + 1)) s
  unfolding run
  run_more n i r s l e = let q : n - i ≡ suc (n - (i + 1)) = omega arith in ap (λ k. run kind k r) q ∙ ap (run kind (n - (i + 1))) (sym e)

  pub run_none : (n i : ℕ) (r : Run V) → n ≤ i → run kind (n - i) r ≡ r
  unfolding run
  run_none n i r l = let q : n - i ≡ 0 = omega arith in ap (λ k. run kind k r) q

  -- An advance that is refused, and one that is not.
  module _ (steps room : ℕ) (r : Run V) where
    pub refuses : (n : ℕ) → advance_refusal steps room r ≡ Some n → Advanced kind steps room r (refused n) r
    refuses n e = record {
      answered = sym (ap (advance_answer r (run kind steps r)) e);
      leaves = sym (ap (advance_after r (run kind steps r)) e);
    }

    pub advances : (s : Run V) → advance_refusal steps room r ≡ None → run kind steps r ≡ s → Advanced kind steps room r (value (s.progress.count - r.progress.count)) s
    advances s e q = record {
      answered = ap (λ t. value (t.progress.count - r.progress.count)) (sym q) ∙ sym (ap (advance_answer r (run kind steps r)) e);
      leaves = sym q ∙ sym (ap (advance_after r (run kind steps r)) e);
    }

    pub refused_41 : eqb (length r.memory.cells) r.progress.code.sizes.cells ≡ false → advance_refusal steps room r ≡ Some 41
    refused_41 a = rw a

    pub refused_42 : eqb (length r.memory.cells) r.progress.code.sizes.cells ≡ true → leb r.progress.code.sizes.depth room ≡ false → advance_refusal steps room r ≡ Some 42
    refused_42 a b = rw (a, b)

    pub refused_44 : eqb (length r.memory.cells) r.progress.code.sizes.cells ≡ true → leb r.progress.code.sizes.depth room ≡ true → ended r.progress ≡ true → advance_refusal steps room r ≡ Some 44
    refused_44 a b c = rw (a, b, c)

    pub refused_45 : eqb (length r.memory.cells) r.progress.code.sizes.cells ≡ true → leb r.progress.code.sizes.depth room ≡ true → ended r.progress ≡ false → leb (r.progress.count + steps) 4000000000 ≡ false → advance_refusal steps room r ≡ Some 45
    refused_45 a b c d = rw (a, b, c, d)

    pub refused_46 : eqb (length r.memory.cells) r.progress.code.sizes.cells ≡ true → leb r.progress.code.sizes.depth room ≡ true → ended r.progress ≡ false → leb (r.progress.count + steps) 4000000000 ≡ true → leb r.memory.posted (length r.memory.book) ≡ false → advance_refusal steps room r ≡ Some 46
    refused_46 a b c d e = rw (a, b, c, d, e)

    pub goes_ahead : eqb (length r.memory.cells) r.progress.code.sizes.cells ≡ true → leb r.progress.code.sizes.depth room ≡ true → ended r.progress ≡ false → leb (r.progress.count + steps) 4000000000 ≡ true → leb r.memory.posted (length r.memory.book) ≡ true → advance_refusal steps room r ≡ None
    goes_ahead a b c d e = rw (a, b, c, d, e)
