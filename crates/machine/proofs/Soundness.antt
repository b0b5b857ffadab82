-- Checked code lacks nothing: an operation that finds the figures which the check counted goes on to a place where the
-- same holds, or faults.
use Rattle.std.proofs.Common.{◌≡◌, ℕ, zero, suc, ◌+◌, ◌-◌, ◌<◌, ◌≤◌, Bool, true, false, cond, ltb, List, [], ◌∷◌, length, get_or, set, ℤ, pos, negsuc, Some, Option, sym, refl, ap, subst, arith, length-set}
use Rattle.std.proofs.lemmas.Bool.{le-leb, lt-ltb, ltb-true}
use Rattle.std.specs.List.{slice_get}
use Rattle.figures.specs.Kinds.{Kind, Outcome, value, refused}
use Rattle.rolls.specs.Contents.{Contents, Taken, first, rest, took, refused as untaken, refused_at as untaken_at}
use Rattle.code.specs.declared.descriptor.Descriptor.{Descriptor}
use Rattle.code.specs.declared.operations.Operation.TheVariants as op
use Rattle.code.specs.Codes.{Code, operation_at}
use Rattle.code.specs.Descriptors.{unpacked}
use Rattle.code.specs.WellFormed.{WellFormed, NamesCells}
use Rattle.machine.specs.declared.instruction.Instruction.{Instruction}
use Rattle.machine.specs.declared.instruction.Instruction.TheVariants.{Halt, Pass, Calculate, Transfer, Go, Take, Post}
use Rattle.machine.specs.declared.instruction.Calculation.{Calculation}
use Rattle.machine.specs.declared.instruction.Calculation.TheVariants.{Constant, One, Two, Bounds}
use Rattle.machine.specs.declared.instruction.Transfer as transfers
use Rattle.machine.specs.declared.instruction.Transfer.TheVariants.{Load, Store, Get, Put}
use Rattle.machine.specs.declared.instruction.Branch.{Branch}
use Rattle.machine.specs.declared.instruction.Branch.TheVariants.{Always, IfFalse, ByTable}
use Rattle.machine.specs.declared.fault.RunFault.TheVariants.{BookFull, Subscript}
use Rattle.machine.specs.Faults.{fault_of}
use Rattle.machine.specs.Fits.{Ends, Fits, Follows, BranchOperand, operations_left, stands_at, calculation_takes, transfer_takes, transfer_leaves, TransferOperand, branch_takes}
use Rattle.machine.specs.Instructions.{instruction}
use Rattle.machine.specs.Machine
use Rattle.machine.specs.Machine.{Attempt, gives, fails, lacks, ◌>>=◌, calculation, loaded, found, stored, element, element_at, from_low, handed, calculated, transferred, gone, taken_into, posted_in, Memory, State, ResultOf, goes, faults, misses, effect, settled, of_one, of_two}
use Rattle.machine.specs.Steps.{ends_step_at, performed, run_to_end, step}
use Rattle.machine.proofs.Facts.{Facts, facts_at, follows_on}
use Rattle.machine.proofs.Performing.{performed_as, branch_low, branch_names, follows_branch}
use Rattle.machine.proofs.Standing.{stands_to_fits}
use Rattle.machine.proofs.Stepping.{fewer_left, ended_stays, unrolled, stopped}

-- An attempt gives what P says, or fails; it lacks nothing.
abbrev pub Tries : {X : Type 0} → (X → Type 0) → Attempt X → Type 0
Tries P (gives x) = P x
Tries P (fails f) = Unit {0}
Tries P (lacks l) = ⊥

tries_then : {X Y : Type 0} (P : X → Type 0) (Q : Y → Type 0) (a : Attempt X) (next : X → Attempt Y) → Tries P a → ((x : X) → P x → Tries Q (next x)) → Tries Q (a >>= next)
tries_then P Q (gives x) next t h = h x t
tries_then P Q (fails f) next t h = tt
tries_then P Q (lacks l) next t h = absurd t

-- A place within a list holds something.
nth_inside : {V : Type 0} (xs : List V) (i : ℕ) → i < length xs → (v : V) × (slice_get xs i ≡ Some v)
nth_inside [] i l = absurd (omega arith)
nth_inside (x ∷ xs) zero l = (x, refl)
nth_inside (x ∷ xs) (suc i) l = nth_inside xs i (omega arith)

load_tries : {V : Type 0} (xs : List V) (i : ℕ) → i < length xs → Tries (λ (v : V). Unit {0}) (loaded xs i)
load_tries xs i l = let n = nth_inside xs i l in subst (λ o. Tries (λ v. Unit {0}) (found o)) (sym n.1) tt

store_tries : {V : Type 0} (xs : List V) (i : ℕ) (v : V) → i < length xs → Tries (λ ys. length ys ≡ length xs) (stored xs i v)
store_tries xs i v l =
    subst (λ b. Tries (λ ys. length ys ≡ length xs) (cond b (gives (set xs i v)) (lacks Machine.cell))) (sym (lt-ltb i (length xs) l)) (length-set xs i v)

-- The cell that a subscript names is one of the array's.
element_at_tries : (d : Descriptor) (z : ℤ) → Tries (λ e. e < d.first + d.count) (element_at d z)
element_at_tries d (pos k) = by_test (ltb k d.count) refl
  where
    by_test : (b : Bool) → ltb k d.count ≡ b → Tries (λ e. e < d.first + d.count) (cond b (gives (d.first + k)) (fails (fault_of Subscript)))
    by_test true t = let l = ltb-true k d.count t in omega arith
    by_test false t = tt
element_at_tries d (negsuc k) = tt

module _ {V : Type 0} (kind : Kind V) where
  push_tries : (o : Outcome V) (ws : List V) (n : ℕ) → length ws + 1 ≡ n → Tries (λ us. length us ≡ n) (calculation o >>= λ v. gives (v ∷ ws))
  push_tries (value v) ws n e = omega arith
  push_tries (refused k) ws n e = tt

  calculated_tries : (f : Calculation) (x : ℕ) (vs : List V) → calculation_takes f ≤ length vs → Tries (λ us. length us ≡ (length vs - calculation_takes f) + 1) (calculated kind f x vs)
  calculated_tries Constant x vs l = push_tries (kind.of x) vs _ (omega arith)
  calculated_tries (One f) x [] l = absurd (omega arith)
  calculated_tries (One f) x (v ∷ vs) l = push_tries (of_one kind f v) vs _ (omega arith)
  calculated_tries (Two f) x [] l = absurd (omega arith)
  calculated_tries (Two f) x (v ∷ []) l = absurd (omega arith)
  calculated_tries (Two f) x (w ∷ v ∷ vs) l = push_tries (of_two kind f v w) vs _ (omega arith)
  calculated_tries Bounds x [] l = absurd (omega arith)
  calculated_tries Bounds x (v ∷ vs) l =
      tries_then (λ e. e < (unpacked x).first + (unpacked x).count) (λ us. length us ≡ (suc (length vs) - 1) + 1) (element kind x v) (λ e. gives (v ∷ vs)) (element_at_tries (unpacked x) (from_low (unpacked x) (kind.nearest v))) (λ e h. omega arith)

  abbrev Moved : ℕ → ℕ → List V × List V → Type 0
  Moved n m p = (length p.0 ≡ n) × (length p.1 ≡ m)

  transferred_tries : (f : transfers.Transfer) (x : ℕ) (vs cells : List V) → transfer_takes f ≤ length vs → TransferOperand f x (length cells) → Tries (Moved ((length vs - transfer_takes f) + transfer_leaves f) (length cells)) (transferred kind f x vs cells)
  transferred_tries Load x vs cells l h =
      tries_then (λ v. Unit {0}) (Moved ((length vs - 0) + 1) (length cells)) (loaded cells x) (λ v. gives (v ∷ vs, cells)) (load_tries cells x h) (λ v k. (omega arith, refl))
  transferred_tries Store x [] cells l h = absurd (omega arith)
  transferred_tries Store x (v ∷ vs) cells l h =
      tries_then (λ ys. length ys ≡ length cells) (Moved ((suc (length vs) - 1) + 0) (length cells)) (stored cells x v) (λ ys. gives (vs, ys)) (store_tries cells x v h) (λ ys k. (omega arith, k))
  transferred_tries Get x [] cells l h = absurd (omega arith)
  transferred_tries Get x (i ∷ vs) cells l h =
      tries_then (λ e. e < (unpacked x).first + (unpacked x).count) (Moved ((suc (length vs) - 1) + 1) (length cells)) (element kind x i) (λ e. loaded cells e >>= λ v. gives (v ∷ vs, cells)) (element_at_tries (unpacked x) (from_low (unpacked x) (kind.nearest i)))
      (λ e k. let below = h.below in tries_then (λ v. Unit {0}) (Moved ((suc (length vs) - 1) + 1) (length cells)) (loaded cells e) (λ v. gives (v ∷ vs, cells)) (load_tries cells e (omega arith)) (λ v u. (omega arith, refl)))
  transferred_tries Put x [] cells l h = absurd (omega arith)
  transferred_tries Put x (v ∷ []) cells l h = absurd (omega arith)
  transferred_tries Put x (v ∷ i ∷ vs) cells l h =
      tries_then (λ e. e < (unpacked x).first + (unpacked x).count) (Moved ((suc (suc (length vs)) - 2) + 0) (length cells)) (element kind x i) (λ e. stored cells e v >>= λ ys. gives (vs, ys)) (element_at_tries (unpacked x) (from_low (unpacked x) (kind.nearest i)))
      (λ e k. let below = h.below in tries_then (λ ys. length ys ≡ length cells) (Moved ((suc (suc (length vs)) - 2) + 0) (length cells)) (stored cells e v) (λ ys. gives (vs, ys)) (store_tries cells e v (omega arith)) (λ ys u. (omega arith, u)))

  gone_tries : (operands : List ℕ) (f : Branch) (x p : ℕ) (vs : List V) → branch_takes f ≤ length vs → BranchOperand f (length operands) (get_or operands x 0) x → Tries (λ (q : ℕ × List V). length q.1 ≡ length vs - branch_takes f) (gone kind operands f x p vs)
  gone_tries operands Always x p vs l h = omega arith
  gone_tries operands IfFalse x p [] l h = absurd (omega arith)
  gone_tries operands IfFalse x p (v ∷ vs) l h = omega arith
  gone_tries operands ByTable x p [] l h = absurd (omega arith)
  gone_tries operands ByTable x p (v ∷ vs) l h =
      let n = nth_inside operands x h.there in
      subst (λ (o : Option ℕ). Tries (λ (q : ℕ × List V). length q.1 ≡ suc (length vs) - 1) ((Machine.rows_at o >>= λ k. gives (Machine.row x k (p + 1) (kind.nearest v))) >>= λ to. gives (to, vs))) (sym n.1) (omega arith)

  handed_tries : (t : Taken V) → Tries (λ v. Unit {0}) (handed t)
  handed_tries (took v) = tt
  handed_tries (untaken n) = tt
  handed_tries (untaken_at n p) = tt

  taken_tries : (rounded : Bool) (x : ℕ) (i : V) (cells : List V) (roll : Contents V) → NamesCells (length cells) (unpacked x) → Tries (λ (p : List V × Contents V). length p.0 ≡ length cells) (taken_into kind rounded x i cells roll)
  taken_tries rounded x i cells roll h =
      tries_then (λ e. e < (unpacked x).first + (unpacked x).count) (λ (p : List V × Contents V). length p.0 ≡ length cells) (element kind x i)
      (λ e. handed (first roll) >>= λ v. stored cells e (cond rounded (kind.round v) v) >>= λ after. gives (after, rest roll))
      (element_at_tries (unpacked x) (from_low (unpacked x) (kind.nearest i)))
      (λ e k. tries_then (λ v. Unit {0}) (λ (p : List V × Contents V). length p.0 ≡ length cells) (handed (first roll)) (λ v. stored cells e (cond rounded (kind.round v) v) >>= λ after. gives (after, rest roll)) (handed_tries (first roll))
      (λ v u. let below = h.below in tries_then (λ ys. length ys ≡ length cells) (λ (p : List V × Contents V). length p.0 ≡ length cells) (stored cells e (cond rounded (kind.round v) v)) (λ after. gives (after, rest roll)) (store_tries cells e (cond rounded (kind.round v) v) (omega arith)) (λ ys z. z)))

  posted_tries : (book : List V) (posted : ℕ) (v : V) → Tries (λ b. Unit {0}) (posted_in book posted v)
  posted_tries book posted v = by_test (ltb posted (length book))
    where
      by_test : (b : Bool) → Tries (λ (bs : List V). Unit {0}) (cond b (gives (set book posted v)) (fails (fault_of BookFull)))
      by_test true = tt
      by_test false = tt

module _ {V : Type 0} (kind : Kind V) (c : Code) (w : WellFormed c) where
  abbrev at : ℕ → List V → Memory V → State V
  at p vs m = record { place = p; stack = vs; memory = m }

  -- From a place, a state follows in which the figures are those that the check counted.
  abbrev Next : ℕ → State V → Type 0
  Next from t = Follows c from t.place (length t.stack) (length t.memory.cells) c.sizes.depth

  next_with : (from : ℕ) (p e : ℕ) (n m : ℕ) → Follows c from p e m c.sizes.depth → n ≡ m → Follows c from p e n c.sizes.depth
  next_with from p e n m f q = subst (λ (k : ℕ). Follows c from p e k c.sizes.depth) (sym q) f

  effect_tries : (p : ℕ) (vs : List V) (m : Memory V) (f : Instruction) (x : ℕ) → Fits c p (length vs) (length m.cells) c.sizes.depth → Facts c p f x → ends_step_at (operation_at c.operations p) ≡ false → Tries (Next p) (effect kind c (at p vs m) f x)
  effect_tries p vs m Halt x fits h e = let t = ap ends_step_at h in let z : ◌≡◌ {A = ℕ} 0 1 = cc in absurd (omega arith)
  effect_tries p vs m Pass x fits h e = follows_on c w fits h (length vs) (omega arith)
  effect_tries p vs m (Calculate f) x fits h e =
      let enough = h.0.enough in
      let deep = fits.deep in
      tries_then (λ us. length us ≡ (length vs - calculation_takes f) + 1) (Next p) (calculated kind f x vs) (λ us. gives (at (p + 1) us m)) (calculated_tries kind f x vs (omega arith)) (λ us k. follows_on c w fits h.0 (length us) k)
  effect_tries p vs m (Transfer f) x fits h e =
      let enough = h.0.enough in
      let deep = fits.deep in
      let names = subst (λ (n : ℕ). TransferOperand f x n) (sym fits.wide) h.1 in
      tries_then (Moved kind ((length vs - transfer_takes f) + transfer_leaves f) (length m.cells)) (Next p) (transferred kind f x vs m.cells) (λ q. gives (at (p + 1) q.0 (Machine.with_cells m q.1))) (transferred_tries kind f x vs m.cells (omega arith) names)
      (λ q k. next_with p (p + 1) (length q.0) (length q.1) (length m.cells) (follows_on c w fits h.0 (length q.0) k.0) k.1)
  effect_tries p vs m (Go f) x fits h e =
      by_attempt (gone kind c.operands f x p vs) refl (gone_tries kind c.operands f x p vs (branch_low kind c w fits f x h) (branch_names kind c w fits f x h))
    where
      by_attempt : (a : Attempt (ℕ × List V)) → gone kind c.operands f x p vs ≡ a → Tries (λ (q : ℕ × List V). length q.1 ≡ length vs - branch_takes f) a → Tries (Next p) (a >>= λ q. gives (at q.0 q.1 m))
      by_attempt (gives q) g t = follows_branch kind c w fits f x h vs q.1 q.0 (length q.1) g t
      by_attempt (fails k) g t = tt
      by_attempt (lacks l) g t = absurd t
  effect_tries p [] m (Take r) x fits h e = let enough = h.0.enough in let deep = fits.deep in absurd (omega arith)
  effect_tries p (i ∷ vs) m (Take r) x fits h e =
      let names = subst (λ (n : ℕ). NamesCells n (unpacked x)) (sym fits.wide) h.1 in
      tries_then (λ (q : List V × Contents V). length q.0 ≡ length m.cells) (Next p) (taken_into kind r x i m.cells m.roll) (λ q. gives (at (p + 1) vs (Machine.with_taken m q.0 q.1))) (taken_tries kind r x i m.cells m.roll names)
      (λ q k. next_with p (p + 1) (length vs) (length q.0) (length m.cells) (follows_on c w fits h.0 (length vs) (omega arith)) k)
  effect_tries p [] m Post x fits h e = let enough = h.enough in let deep = fits.deep in absurd (omega arith)
  effect_tries p (v ∷ vs) m Post x fits h e =
      tries_then (λ (b : List V). Unit {0}) (Next p) (posted_in m.book m.posted v) (λ b. gives (at (p + 1) vs (Machine.with_posted m b))) (posted_tries kind m.book m.posted v) (λ b k. follows_on c w fits h (length vs) (omega arith))

  -- The same of what an operation comes to, and of a whole step: it misses nothing.
  abbrev Performs : ℕ → ResultOf V → Type 0
  Performs from (goes t) = Next from t
  Performs from (faults f m) = Unit {0}
  Performs from (misses l) = ⊥

  settled_performs : (s : State V) (from : ℕ) (a : Attempt (State V)) → Tries (Next from) a → Performs from (settled kind c s a)
  settled_performs s from (gives t) h =
      let inside = h.fits.inside in
      let long = w.operations_long in
      let deep = h.fits.deep in
      let found = (w.sound t.place (omega arith)).1.found in
      subst (λ (b : Bool). Performs from (cond b (goes t) (misses Machine.room))) (sym (le-leb (length t.stack) c.sizes.depth (omega arith))) h
  settled_performs s from (fails f) h = tt
  settled_performs s from (lacks l) h = absurd h

  performed_performs : (s : State V) → Fits c s.place (length s.stack) (length s.memory.cells) c.sizes.depth → ends_step_at (operation_at c.operations s.place) ≡ false → Performs s.place (performed kind c s)
  performed_performs s fits e =
      let inside = fits.inside in
      let long = w.operations_long in
      let o = w.sound s.place (omega arith) in
      let x = get_or c.operands s.place 0 in
      let at_o = o.1.stands in
      subst (λ (r : ResultOf V). Performs s.place r) (sym (performed_as kind c s o.0 (instruction o.0) x at_o refl refl))
      (settled_performs s s.place (effect kind c s (instruction o.0) x) (effect_tries s.place s.stack s.memory (instruction o.0) x fits (facts_at c w s.place o.0 (instruction o.0) x at_o refl refl) e))

  abbrev pub Completes : ResultOf V → Type 0
  Completes (goes t) = Ends c t.place (length t.stack) (length t.memory.cells) c.sizes.depth
  Completes (faults f m) = Unit {0}
  Completes (misses l) = ⊥

  some_left : (p : ℕ) → 1 ≤ operations_left c p
  some_left p = by_end (ends_step_at (operation_at c.operations p))
    where
      by_end : (b : Bool) → 1 ≤ cond b 1 (suc (length c.operations - p))
      by_end true = omega arith
      by_end false = omega arith

  run_completes : (k : ℕ) (s : State V) → Fits c s.place (length s.stack) (length s.memory.cells) c.sizes.depth → operations_left c s.place ≤ k → Completes (run_to_end kind c k s)
  run_completes zero s fits l = let some = some_left s.place in absurd (omega arith)
  run_completes (suc k) s fits l = by_end (ends_step_at (operation_at c.operations s.place)) refl (λ t f m. run_completes k t f m)
    where
      by_result : ends_step_at (operation_at c.operations s.place) ≡ false → ((t : State V) → Fits c t.place (length t.stack) (length t.memory.cells) c.sizes.depth → operations_left c t.place ≤ k → Completes (run_to_end kind c k t)) → (r : ResultOf V) → performed kind c s ≡ r → Performs s.place r → Completes (run_to_end kind c (suc k) s)
      by_result e rest (goes t) q h =
          let fewer = fewer_left c s.place t.place (length t.stack) (length t.memory.cells) c.sizes.depth fits.inside e h in
          subst (λ (r : ResultOf V). Completes r) (sym (unrolled kind c s t k e q)) (rest t h.fits (omega arith))
      by_result e rest (faults f m) q h = subst (λ (r : ResultOf V). Completes r) (sym (stopped kind c s f m k e q)) tt
      by_result e rest (misses b) q h = absurd h

      by_end : (b : Bool) → ends_step_at (operation_at c.operations s.place) ≡ b → ((t : State V) → Fits c t.place (length t.stack) (length t.memory.cells) c.sizes.depth → operations_left c t.place ≤ k → Completes (run_to_end kind c k t)) → Completes (run_to_end kind c (suc k) s)
      by_end true e rest = subst (λ (r : ResultOf V). Completes r) (sym (ended_stays kind c s e (suc k) l)) (record { fits = fits; ended = e })
      by_end false e rest = by_result e rest (performed kind c s) refl (performed_performs s fits e)

  left_at_most : (i : ℕ) → i + 1 < length c.operations → operations_left c (i + 1) ≤ length c.operations
  left_at_most i l = by_end (ends_step_at (operation_at c.operations (i + 1)))
    where
      by_end : (b : Bool) → cond b 1 (suc (length c.operations - (i + 1))) ≤ length c.operations
      by_end true = omega arith
      by_end false = omega arith

  -- A step from a MARK, over all cells, completes.
  pub step_completes : (i : ℕ) (m : Memory V) → stands_at c i ≡ true → operation_at c.operations i ≡ Some op.Mark → length m.cells ≡ c.sizes.cells → Completes (step kind c (at i [] m))
  step_completes i m s mark wide =
      let fits = stands_to_fits c i w (length m.cells) c.sizes.depth s wide (omega arith) in
      let next = follows_on c w fits (facts_at c w i op.Mark Pass (get_or c.operands i 0) mark refl refl) 0 (omega arith) in
      run_completes (length c.operations) (at (i + 1) [] m) next.fits (left_at_most i next.fits.inside)
