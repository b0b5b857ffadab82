-- The law of runs holds over every sequence of calls on checked code.
use Rattle.std.proofs.Common.{◌≡◌, ℕ, zero, suc, ◌+◌, ◌-◌, ◌<◌, ◌≤◌, Bool, true, false, cond, eqb, leb, ◌⊎◌, List, [], ◌∷◌, length, is_some, Some, None, Option, sym, refl, ap, ◌∙◌, subst, inl, inr, ⊎_elim, arith}
use Rattle.std.proofs.lemmas.Bool.{eqb-true, or_parts}
use Rattle.figures.specs.Kinds.{Kind, Outcome, value, refused}
use Rattle.code.specs.Codes.{Code}
use Rattle.code.specs.WellFormed.{WellFormed}
use Rattle.machine.specs.Fits.{stands_at}
use Rattle.machine.specs.Histories.{History, started, advanced, asked, told, SoundHistories, Started, steps_in, total, tried}
use Rattle.machine.specs.Machine.{ResultOf, goes, faults, misses}
use Rattle.machine.specs.Runs.{Advanced, Run, advance_after, advance_answer, advance_refusal, at_halt, at_step, ended, run, stepped}
use Rattle.machine.specs.Steps.{step}
use Rattle.machine.proofs.Advancing.{ended_runs, stepped_to}
use Rattle.machine.proofs.Soundness.{Completes, step_completes}
use Rattle.machine.proofs.Standing.{ends_to_stands, first_stands, stands_to_mark}

-- A run of code that is well formed, between two steps.
pub record Between {V : Type 0} (r : Run V) : Type 0 where
  pub well : WellFormed r.progress.code
  pub stands : stands_at r.progress.code r.progress.place ≡ true

abbrev AllCells : {V : Type 0} → Run V → Type 0
AllCells r = length r.memory.cells ≡ r.progress.code.sizes.cells

-- One step: it is counted, or it ends the run.
data OneStep {V : Type 0} (r s : Run V) : Type 0 where
  counts : Between s → s.progress.code ≡ r.progress.code → AllCells s → s.progress.count ≡ r.progress.count + 1 → is_some s.progress.fault ≡ false → OneStep r s
  stops : Between s → s.progress.code ≡ r.progress.code → s.progress.count ≡ r.progress.count → ended s.progress ≡ true → is_some s.progress.fault ≡ true → OneStep r s

-- A run tried the steps that it counts, and one more if it has a fault.
no_fault_to_tried : {V : Type 0} (r : Run V) → is_some r.progress.fault ≡ false → tried r.progress ≡ r.progress.count
no_fault_to_tried r e = ap (λ b. cond b (suc r.progress.count) r.progress.count) e

fault_to_tried : {V : Type 0} (r : Run V) → is_some r.progress.fault ≡ true → tried r.progress ≡ suc r.progress.count
fault_to_tried r e = ap (λ b. cond b (suc r.progress.count) r.progress.count) e

-- So many steps: all are counted, or the run has ended; and they are no more than were tried.
record ManySteps {V : Type 0} (kind : Kind V) (r : Run V) (n : ℕ) (s : Run V) : Type 0 where
  between : Between s
  same : s.progress.code ≡ r.progress.code
  grows : r.progress.count ≤ s.progress.count
  full : (s.progress.count ≡ r.progress.count + n) ⊎ ((s.progress.count < r.progress.count + n) × (ended s.progress ≡ true))
  exact : (k : ℕ) × (s ≡ run kind k r) × (r.progress.count + k ≡ tried s.progress)

module _ {V : Type 0} (kind : Kind V) where
  one_step : (r : Run V) → Between r → AllCells r → ended r.progress ≡ false → OneStep r (stepped kind r)
  one_step r b wide e =
      let mark = stands_to_mark r.progress.code r.progress.place b.stands (or_parts (is_some r.progress.fault) (at_halt r.progress) e).1 in
      by_result (step kind r.progress.code (at_step r)) refl (step_completes kind r.progress.code b.well r.progress.place r.memory b.stands mark wide)
    where
      by_result : (o : ResultOf V) → step kind r.progress.code (at_step r) ≡ o → Completes kind r.progress.code b.well o → OneStep r (stepped kind r)
      by_result (goes t) q h =
          subst (λ (s : Run V). OneStep r s) (sym (stepped_to kind r (goes t) e q))
          (counts (record { well = b.well; stands = ends_to_stands h }) refl h.fits.wide refl refl)
      by_result (faults f m) q h =
          subst (λ (s : Run V). OneStep r s) (sym (stepped_to kind r (faults f m) e q))
          (stops (record { well = b.well; stands = b.stands }) refl refl refl refl)
      by_result (misses l) q h = absurd h

  many_steps : (n : ℕ) (r : Run V) → Between r → AllCells r → is_some r.progress.fault ≡ false → ManySteps kind r n (run kind n r)
  unfolding run
  many_steps zero r b wide going =
      let so_far = no_fault_to_tried r going in
      record { between = b; same = refl; grows = omega arith; full = inl (omega arith); exact = (0, refl, omega arith) }
  many_steps (suc n) r b wide going = by_end (ended r.progress) refl (λ s b' wide' going'. many_steps n s b' wide' going')
    where
      by_step : ((s : Run V) → Between s → AllCells s → is_some s.progress.fault ≡ false → ManySteps kind s n (run kind n s)) → OneStep r (stepped kind r) → ManySteps kind r (suc n) (run kind n (stepped kind r))
      by_step rest (counts b' same wide' q going') =
          let m = rest (stepped kind r) b' wide' going' in
          let up = m.grows in
          let more = m.exact.2 in
          record {
            between = m.between;
            same = m.same ∙ same;
            grows = omega arith;
            full = ⊎_elim (λ k. inl (omega arith)) (λ k. let l = k.0 in inr (omega arith, k.1)) m.full;
            exact = (suc m.exact.0, m.exact.1, omega arith);
          }
      by_step rest (stops b' same q e broke) =
          let all = fault_to_tried (stepped kind r) broke in
          subst (λ (s : Run V). ManySteps kind r (suc n) s) (sym (ended_runs kind n (stepped kind r) e))
          (record { between = b'; same = same; grows = omega arith; full = inr (omega arith, e); exact = (1, refl, omega arith) })

      by_end : (b : Bool) → ended r.progress ≡ b → ((s : Run V) → Between s → AllCells s → is_some s.progress.fault ≡ false → ManySteps kind s n (run kind n s)) → ManySteps kind r (suc n) (run kind n (stepped kind r))
      by_end true e rest =
          let so_far = no_fault_to_tried r going in
          subst (λ (s : Run V). ManySteps kind r (suc n) s) (sym (ended_runs kind (suc n) r e))
          (record { between = b; same = refl; grows = omega arith; full = inr (omega arith, e); exact = (0, refl, omega arith) })
      by_end false e rest = by_step rest (one_step r b wide e)

  -- Steps after steps are the steps of one run.
  run_run : (n m : ℕ) (r : Run V) → run kind m (run kind n r) ≡ run kind (n + m) r
  unfolding run
  run_run zero m r = let q : m ≡ 0 + m = omega arith in ap (λ k. run kind k r) q
  run_run (suc n) m r = let q : suc (n + m) ≡ suc n + m = omega arith in run_run n m (stepped kind r) ∙ ap (λ k. run kind k r) q

  -- What an advance leaves of a run: nothing is changed, or steps were made.
  record Made (steps : ℕ) (before after : Run V) (answer : Outcome ℕ) : Type 0 where
    many : ManySteps kind before steps after
    going : is_some before.progress.fault ≡ false
    tells : answer ≡ value (after.progress.count - before.progress.count)

  data Advance (steps : ℕ) (before after : Run V) (answer : Outcome ℕ) : Type 0 where
    refuses : {k : ℕ} → answer ≡ refused k → after ≡ before → Advance steps before after answer
    makes : Made steps before after answer → Advance steps before after answer

  all_cells : (steps room : ℕ) (r : Run V) → advance_refusal steps room r ≡ None → AllCells r
  all_cells steps room r e = by_test (eqb (length r.memory.cells) r.progress.code.sizes.cells) refl
    where
      by_test : (b : Bool) → eqb (length r.memory.cells) r.progress.code.sizes.cells ≡ b → AllCells r
      by_test true t = eqb-true _ _ t
      by_test false t = let q : ◌≡◌ {A = Option ℕ} (Some 41) None = rw t at e in let z : ◌≡◌ {A = ℕ} 0 1 = cc in absurd (omega arith)

  not_ended : (steps room : ℕ) (r : Run V) → advance_refusal steps room r ≡ None → ended r.progress ≡ false
  not_ended steps room r e =
      by_tests (eqb (length r.memory.cells) r.progress.code.sizes.cells) refl (leb r.progress.code.sizes.depth room) refl (ended r.progress) refl
    where
      by_tests : (a : Bool) → eqb (length r.memory.cells) r.progress.code.sizes.cells ≡ a → (b : Bool) → leb r.progress.code.sizes.depth room ≡ b
          → (c : Bool) → ended r.progress ≡ c → ended r.progress ≡ false
      by_tests false s b t c u = let q : ◌≡◌ {A = Option ℕ} (Some 41) None = rw s at e in let z : ◌≡◌ {A = ℕ} 0 1 = cc in absurd (omega arith)
      by_tests true s false t c u = let q : ◌≡◌ {A = Option ℕ} (Some 42) None = rw (s, t) at e in let z : ◌≡◌ {A = ℕ} 0 1 = cc in absurd (omega arith)
      by_tests true s true t true u = let q : ◌≡◌ {A = Option ℕ} (Some 44) None = rw (s, t, u) at e in let z : ◌≡◌ {A = ℕ} 0 1 = cc in absurd (omega arith)
      by_tests true s true t false u = u

  advance_is : (steps room : ℕ) (before after : Run V) (answer : Outcome ℕ) → Between before → Advanced kind steps room before answer after → Advance steps before after answer
  advance_is steps room before after answer b a = by_refusal (advance_refusal steps room before) refl
    where
      by_refusal : (o : Option ℕ) → advance_refusal steps room before ≡ o → Advance steps before after answer
      by_refusal (Some k) e =
          refuses (a.answered ∙ ap (advance_answer before (run kind steps before)) e) (a.leaves ∙ ap (advance_after before (run kind steps before)) e)
      by_refusal None e =
          let leads : after ≡ run kind steps before = a.leaves ∙ ap (advance_after before (run kind steps before)) e in
          let going = (or_parts (is_some before.progress.fault) (at_halt before.progress) (not_ended steps room before e)).0 in
          makes (record {
            many = subst (λ (s : Run V). ManySteps kind before steps s) (sym leads) (many_steps steps before b (all_cells steps room before e) going);
            going = going;
            tells = a.answered ∙ ap (advance_answer before (run kind steps before)) e ∙ ap (λ s. value (s.progress.count - before.progress.count)) (sym leads);
          })

  -- What every call keeps.
  record Kept (c : Code) (first : Run V) (answers : List ℕ) (now : Run V) : Type 0 where
    between : Between now
    same : now.progress.code ≡ c
    counted : now.progress.count ≡ total answers
    one_run : now ≡ run kind (tried now.progress) first

  module _ (c : Code) (w : WellFormed c) (first : Run V) (s : Started c first) where
    kept_first : Kept c first [] first
    unfolding run
    kept_first =
        let same : first.progress.code ≡ c = ap (λ p. p.code) s.progress in
        let at : first.progress.place ≡ 0 = ap (λ p. p.place) s.progress in
        let well = subst (λ (k : Code). WellFormed k) (sym same) w in
        record {
          between = record { well = well; stands = subst (λ (i : ℕ). stands_at first.progress.code i ≡ true) (sym at) (first_stands first.progress.code well) };
          same = same;
          counted = ap (λ p. p.count) s.progress;
          one_run = ap (λ p. run kind (tried p) first) (sym s.progress);
        }

    kept_advance : {answers : List ℕ} {before after : Run V} {steps : ℕ} {answer : Outcome ℕ} → Kept c first answers before → Advance steps before after answer → Kept c first (steps_in answer ∷ answers) after
    kept_advance {answers} {before} {after} {steps} {answer} k (refuses number stays) =
        let none = ap steps_in number in
        let had = k.counted in
        subst (λ (r : Run V). Kept c first (steps_in answer ∷ answers) r) (sym stays) (record { between = k.between; same = k.same; counted = omega arith; one_run = k.one_run })
    kept_advance {answers} {before} {after} {steps} k (makes m) =
        let some = ap steps_in m.tells in
        let had = k.counted in
        let up = m.many.grows in
        let some_more = m.many.exact.0 in
        let so_far = no_fault_to_tried before m.going in
        let sum = m.many.exact.2 in
        let all : tried before.progress + some_more ≡ tried after.progress = omega arith in
        record {
          between = m.many.between;
          same = m.many.same ∙ k.same;
          counted = omega arith;
          one_run = m.many.exact.1 ∙ ap (run kind some_more) k.one_run ∙ run_run (tried before.progress) some_more first ∙ ap (λ n. run kind n first) all;
        }

    kept : {answers : List ℕ} {now : Run V} → History kind first answers now → Kept c first answers now
    kept started = kept_first
    kept (advanced {before = before} {after = after} {steps = steps} {room = room} {answer = answer} h a) =
        let k = kept h in
        kept_advance k (advance_is steps room before after answer k.between a)
    kept (asked h a) = kept h
    kept (told h a) = kept h

  in_full : (steps n : ℕ) (before after : Run V) → Advance steps before after (value n) → (n ≡ steps) ⊎ ((n < steps) × (ended after.progress ≡ true))
  in_full steps n before after (refuses q stays) = let z : ◌≡◌ {A = ℕ} 0 1 = cc in absurd (omega arith)
  in_full steps n before after (makes m) =
      let some = ap steps_in m.tells in
      let up = m.many.grows in
      ⊎_elim (λ k. inl (omega arith)) (λ k. let l = k.0 in inr (omega arith, k.1)) m.many.full

  pub histories_sound : (c : Code) → WellFormed c → SoundHistories kind c
  histories_sound c w first now answers s h =
      let k = kept c w first s h in
      let b = k.between in
      record {
        same_code = k.same;
        counted = k.counted;
        one_run = (tried now.progress, k.one_run);
        exact_run = k.one_run;
        answers_in_full = λ steps room n after a. in_full steps n now after (advance_is steps room now after (value n) b a);
        lacks_nothing = λ wide e l q.
            let mark = stands_to_mark now.progress.code now.progress.place b.stands (or_parts (is_some now.progress.fault) (at_halt now.progress) e).1 in
            let full = step_completes kind now.progress.code b.well now.progress.place now.memory b.stands mark (wide ∙ ap (λ k. k.sizes.cells) (sym k.same)) in
            subst (λ (o : ResultOf V). Completes kind now.progress.code b.well o) (ap (λ k. step kind k (at_step now)) k.same ∙ q) full;
      }
