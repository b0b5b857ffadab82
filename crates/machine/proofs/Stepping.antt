-- Operations one after another, to the end of a step.
use Rattle.std.proofs.Common.{◌≡◌, ℕ, zero, suc, ◌-◌, ◌<◌, ◌≤◌, Bool, true, false, cond, ◌⊎◌, length, sym, refl, ap, ◌∙◌, inl, inr, arith}
use Rattle.figures.specs.Kinds.{Kind}
use Rattle.code.specs.Codes.{Code, operation_at}
use Rattle.machine.specs.Faults.{Fault}
use Rattle.machine.specs.Fits.{Fits, Follows, operations_left}
use Rattle.machine.specs.Machine.{Memory, State, ResultOf, goes, faults}
use Rattle.machine.specs.Steps.{ends_step_at, onward, performed, run_to_end}

abbrev ends_at : Code → ℕ → Bool
ends_at c p = ends_step_at (operation_at c.operations p)

-- An operation brings the end of the step nearer.
pub fewer_left : (c : Code) (p q d cells stack : ℕ) → p < length c.operations → ends_at c p ≡ false → Follows c p q d cells stack → operations_left c q < operations_left c p
fewer_left c p q d cells stack l e n = rw e (go n.on (ends_at c q) refl)
  where
    go : (p < q) ⊎ (ends_at c q ≡ true) → (b : Bool) → ends_at c q ≡ b → cond (ends_at c q) 1 (suc (length c.operations - q)) < suc (length c.operations - p)
    go w true f = rw f (omega arith)
    go (inl u) false f = rw f (omega arith)
    go (inr u) false f = let z : ◌≡◌ {A = ℕ} 0 1 = cc in absurd (omega arith)

-- The same over arrays of the same lengths.
pub fits_as : {c : Code} {p d m h n i : ℕ} → Fits c p d m h → m ≡ n → h ≡ i → Fits c p d n i
fits_as f e q = record { inside = f.inside; deep = f.deep; wide = sym e ∙ f.wide; tall = let t = f.tall in omega arith }

pub follows_as : {c : Code} {from p d m h n i : ℕ} → Follows c from p d m h → m ≡ n → h ≡ i → Follows c from p d n i
follows_as f e q = record { fits = fits_as f.fits e q; on = f.on }

module _ {V : Type 0} (kind : Kind V) (c : Code) (s : State V) where
  -- Where the step has ended, it stays.
  pub ended_stays : ends_at c s.place ≡ true → (k : ℕ) → operations_left c s.place ≤ k → run_to_end kind c k s ≡ goes s
  unfolding run_to_end
  ended_stays e zero l = let u : 1 ≤ 0 = rw e at l in absurd (omega arith)
  ended_stays e (suc k) l = ap (onward kind c s (performed kind c s) (λ t. run_to_end kind c k t)) e

  -- It goes on from what an operation came to.
  pub goes_on : (t : State V) (r : ResultOf V) → ends_at c s.place ≡ false → performed kind c s ≡ goes t → operations_left c t.place < operations_left c s.place → ((k : ℕ) → operations_left c t.place ≤ k → run_to_end kind c k t ≡ r) → (k : ℕ) → operations_left c s.place ≤ k → run_to_end kind c k s ≡ r
  unfolding run_to_end
  goes_on t r e p f h zero l = absurd (omega arith)
  goes_on t r e p f h (suc k) l =
      ap (onward kind c s (performed kind c s) (λ t. run_to_end kind c k t)) e
      ∙ ap (λ q. onward kind c s q (λ t. run_to_end kind c k t) false) p ∙ h k (omega arith)

  -- It ends at a fault.
  pub fault_ends : (f : Fault) (m : Memory V) → ends_at c s.place ≡ false → performed kind c s ≡ faults f m → (k : ℕ) → operations_left c s.place ≤ k → run_to_end kind c k s ≡ faults f m
  unfolding run_to_end
  fault_ends f m e p zero l = let u : suc (length c.operations - s.place) ≤ 0 = rw e at l in absurd (omega arith)
  fault_ends f m e p (suc k) l =
      ap (onward kind c s (performed kind c s) (λ t. run_to_end kind c k t)) e
      ∙ ap (λ q. onward kind c s q (λ t. run_to_end kind c k t) false) p

  -- One operation of the step, by what it came to.
  pub unrolled : (t : State V) (k : ℕ) → ends_at c s.place ≡ false → performed kind c s ≡ goes t → run_to_end kind c (suc k) s ≡ run_to_end kind c k t
  unfolding run_to_end
  unrolled t k e p =
      ap (onward kind c s (performed kind c s) (λ t. run_to_end kind c k t)) e
      ∙ ap (λ q. onward kind c s q (λ t. run_to_end kind c k t) false) p

  pub stopped : (f : Fault) (m : Memory V) (k : ℕ) → ends_at c s.place ≡ false → performed kind c s ≡ faults f m → run_to_end kind c (suc k) s ≡ faults f m
  unfolding run_to_end
  stopped f m k e p =
      ap (onward kind c s (performed kind c s) (λ t. run_to_end kind c k t)) e
      ∙ ap (λ q. onward kind c s q (λ t. run_to_end kind c k t) false) p
