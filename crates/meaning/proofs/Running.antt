-- Runs: steps made one after the other against steps counted up to a limit.
use Rattle.std.proofs.Common.{◌≡◌, ℕ, zero, suc, ◌+◌, ◌-◌, ◌<◌, Option, sym, refl, ap, ◌∙◌, arith}
use Rattle.grammar.specs.Tree.{Statement}
use Rattle.figures.specs.Kinds.{Kind}
use Rattle.meaning.specs.Names.{Names}
use Rattle.meaning.specs.Machine.{State, Next, at_end, next, faults, step}
use Rattle.meaning.specs.Runs.{Final, ended, faulted, comes_to, over, Progress, Steps, no_step, and_step, Finishes, after_step, advance}
use Rattle.meaning.specs.Laws.{Determined, FaultsStay}

-- Progress with n steps more.
abbrev more_by : {V : Type 0} → ℕ → Progress V → Progress V
more_by n p = record { made = n + p.made; reached = p.reached; status = p.status }

abbrev with_made : {V : Type 0} → Progress V → ℕ → Progress V
with_made p n = record { made = n; reached = p.reached; status = p.status }

module _ {V : Type 0} (kind : Kind V) (names : Names) (text : Option Statement) where
  -- Two steps from one state lead to one state.
  same_next : (s t u : State V) → step kind names text s ≡ next t → step kind names text s ≡ next u → t ≡ u
  same_next s t u p q = cc

  one_state : {s t u : State V} {n : ℕ} → Steps kind names text s n t → Steps kind names text s n u → t ≡ u
  one_state no_step no_step = refl
  one_state {u = u} (and_step {s = s'} {t = t'} a p) (and_step {s = s''} b q) =
      same_next s' t' u p (ap (step kind names text) (one_state a b) ∙ q)

  -- A step before a run.
  step_before : {s t u : State V} {n : ℕ} → step kind names text s ≡ next t → Steps kind names text t n u → Steps kind names text s (suc n) u
  step_before p no_step = and_step no_step p
  step_before p (and_step a q) = and_step (step_before p a) q

  -- Counted steps are steps made.
  steps_made_after : (s : State V) (on : State V → Progress V) → ((t : State V) → Steps kind names text t (on t).made (on t).reached)
      → (x : Next V) → step kind names text s ≡ x → Steps kind names text s (after_step kind names text s on x).made (after_step kind names text s on x).reached
  steps_made_after s on h at_end e = no_step
  steps_made_after s on h (faults f) e = no_step
  steps_made_after s on h (next t) e = step_before e (h t)

  steps_made : (n : ℕ) (s : State V) → Steps kind names text s (advance kind names text n s).made (advance kind names text n s).reached
  steps_made zero s = no_step
  steps_made (suc n) s = steps_made_after s (λ t. advance kind names text n t) (λ t. steps_made n t) (step kind names text s) refl

  -- Steps made are counted, and counting goes on from there.
  counts_steps : {s t : State V} {n : ℕ} → Steps kind names text s n t → (k : ℕ) → advance kind names text (n + k) s ≡ more_by n (advance kind names text k t)
  counts_steps {s} no_step k =
      let z : 0 + k ≡ k = omega arith in
      let p : Progress V = advance kind names text k s in
      let y : p.made ≡ 0 + p.made = omega arith in
      ap (λ i. advance kind names text i s) z ∙ ap (with_made p) y
  counts_steps {s} {t} (and_step {n} {s = s'} a e) k =
      let z : suc n + k ≡ n + suc k = omega arith in
      let p : Progress V = advance kind names text k t in
      let y : n + suc p.made ≡ suc n + p.made = omega arith in
      ap (λ i. advance kind names text i s) z
      ∙ counts_steps a (suc k)
      ∙ ap (λ x. more_by n (after_step kind names text s' (λ u. advance kind names text k u) x)) e
      ∙ ap (with_made p) y

  over_at : (t : State V) (on : State V → Progress V) (f : Final) → after_step kind names text t on (comes_to f) ≡ record { made = 0; reached = t; status = over f }
  over_at t on ended = refl
  over_at t on (faulted f) = refl

  -- A run that is over is found so with any limit above its steps.
  finish_found : (n m : ℕ) (s t : State V) (f : Final) → Finishes kind names text s n t f → n < m
      → advance kind names text m s ≡ record { made = n; reached = t; status = over f }
  finish_found n m s t f h lt =
      let k : ℕ = m - suc n in
      let z : m ≡ n + suc (m - suc n) = omega arith in
      let y : n + 0 ≡ n = omega arith in
      ap (λ i. advance kind names text i s) z
      ∙ counts_steps h.steps (suc k)
      ∙ ap (λ x. more_by n (after_step kind names text t (λ u. advance kind names text k u) x)) h.over_there
      ∙ ap (more_by n) (over_at t (λ u. advance kind names text k u) f)
      ∙ ap (with_made (record { made = 0; reached = t; status = over f })) y

  over_same : (f g : Final) → over f ≡ over g → f ≡ g
  over_same f g e = cc

  one_finish : (s t u : State V) (n m : ℕ) (f g : Final) → Finishes kind names text s n t f → Finishes kind names text s m u g → (n ≡ m) × (t ≡ u) × (f ≡ g)
  one_finish s t u n m f g h j =
      let a = finish_found n (suc (n + m)) s t f h (omega arith) in
      let b = finish_found m (suc (n + m)) s u g j (omega arith) in
      let e = sym a ∙ b in
      (ap (λ p. p.made) e, ap (λ p. p.reached) e, over_same f g (ap (λ p. p.status) e))

  pub determined : Determined kind names text
  determined = record {
    one_state = λ s t u n a b. one_state a b;
    one_finish = one_finish;
    steps_made = steps_made;
    finish_found = finish_found;
  }

  pub faults_stay : FaultsStay kind names text
  faults_stay s f e n = ap (after_step kind names text s (λ t. advance kind names text n t)) e
