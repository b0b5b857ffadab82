-- The ends of steps that store a figure: it is made ready for its name, put into its cell, and what follows still stands.
use Rattle.std.proofs.Common.{◌≡◌, ℕ, zero, suc, ◌+◌, ◌<◌, ◌≤◌, Bool, true, false, ltb, List, [], ◌∷◌, ◌++◌, length, set, None, sym, refl, ap, ◌∙◌, append_assoc, arith, length-append, lt-ltb}
use lib.Seq.{set-append_left, set-append_seam}
use Rattle.std.specs.List.{slice_get}
use Rattle.symbols.specs.declared.value_type.ValueType.{ValueType}
use Rattle.symbols.specs.declared.value_type.ValueType.TheVariants.{Untyped, Integer, Boolean}
use Rattle.figures.specs.Kinds.{Kind}
use Rattle.code.specs.declared.operations.Operation.TheVariants.{Store, Put}
use Rattle.machine.specs.declared.instruction.Instruction.TheVariants.{Calculate, Transfer, Post}
use Rattle.machine.specs.declared.instruction.Calculation.TheVariants.{Bounds}
use Rattle.machine.specs.declared.instruction.Transfer.TheVariants as transfers
use Rattle.machine.specs.Faults.{Fault}
use Rattle.meaning.specs.Names.{Names}
use Rattle.meaning.specs.Expressions.{as_stored, is_true}
use Rattle.meaning.specs.Positions.{Continuation}
use Rattle.meaning.specs.Machine as statements
use Rattle.machine.specs.Machine.{Memory, ResultOf, faults, gives, fails, element, with_cells, with_posted}
use Rattle.translator.specs.Generator.{Entry, entry, ready_size, ready_code}
use Rattle.translator.specs.Running.{carried, follow, moved, runs}
use Rattle.translator.specs.Simulation.{spread}
use Rattle.translator.specs.Compiled.{Continues, ends, passes, goes, again}
use Rattle.translator.proofs.Expressions.{at_place, follow_same, truth_made}

-- Other cells keep their figures.
pub nth_set_other : {A : Type 0} (xs : List A) (i j : ℕ) (x : A) → (i ≡ j → ⊥) → slice_get (set xs i x) j ≡ slice_get xs j
nth_set_other [] i j x h = refl
nth_set_other (y ∷ xs) zero zero x h = absurd (h refl)
nth_set_other (y ∷ xs) zero (suc j) x h = refl
nth_set_other (y ∷ xs) (suc i) zero x h = refl
nth_set_other (y ∷ xs) (suc i) (suc j) x h = nth_set_other xs i j x (λ e. h (ap suc e))

module _ {V : Type 0} (kind : Kind V) (c : List Entry) where
  -- A figure made ready for a name is the figure that the statement machine stores under it.
  pub ready_runs : (t : ValueType) (pc q : ℕ) (r : List Entry) (y : V) (vs : List V) (M : Memory V) → pc + ready_size t ≡ q
      → runs kind c pc 0 (ready_code t r) (y ∷ vs) M ≡ follow M (as_stored kind y t) (λ w. runs kind c q 0 r (w ∷ vs) M)
  ready_runs Untyped pc q r y vs M e = at_place kind c pc q r (y ∷ vs) M (omega arith)
  ready_runs Integer pc q r y vs M e = at_place kind c (suc pc) q r (kind.round y ∷ vs) M (omega arith)
  ready_runs Boolean pc q r y vs M e =
      truth_made kind c pc r vs M (is_true kind y)
      ∙ follow_same kind c M (as_stored kind y Boolean) _ _ (λ w is. at_place kind c (suc pc) q r (w ∷ vs) M (omega arith))

  -- What STORE, PUT, TEST and POST come to, by what they meet.
  module _ (next : ℕ → List V → Memory V → ResultOf V) (pc x : ℕ) (M : Memory V) (vs : List V) where
    pub store_on : (w : V) → ltb x (length M.cells) ≡ true → carried next pc M (moved kind c (Transfer transfers.Store) x (w ∷ vs) M) ≡ next 0 vs (with_cells M (set M.cells x w))
    store_on w e = rw e

    put_on : (i w : V) (k : ℕ) → element kind x i ≡ gives k → ltb k (length M.cells) ≡ true
        → carried next pc M (moved kind c (Transfer transfers.Put) x (w ∷ i ∷ vs) M) ≡ next 0 vs (with_cells M (set M.cells k w))
    put_on i w k e f = rw (e, f)

    pub test_on : (i : V) (k : ℕ) → element kind x i ≡ gives k → carried next pc M (moved kind c (Calculate Bounds) x (i ∷ vs) M) ≡ next 0 (i ∷ vs) M
    test_on i k e = rw e

    pub test_fails : (i : V) (f : Fault) → element kind x i ≡ fails f → carried next pc M (moved kind c (Calculate Bounds) x (i ∷ vs) M) ≡ faults f M
    test_fails i f e = rw e

    pub post_on : (w : V) → ltb M.posted (length M.book) ≡ true → carried next pc M (moved kind c Post x (w ∷ vs) M) ≡ next 0 vs (with_posted M (set M.book M.posted w))
    post_on w e = rw e

    pub post_fails : (w : V) → ltb M.posted (length M.book) ≡ false
        → carried next pc M (moved kind c Post x (w ∷ vs) M) ≡ faults (record { number = 35; roll_place = None }) M
    post_fails w e = rw e

  module _ (pc : ℕ) (r : List Entry) (vs : List V) (m : statements.Memory V) (hidden unposted : List V) where
    there : (x : ℕ) → x < length m.cells → ltb x (length (m.cells ++ hidden)) ≡ true
    there x h = let lt : x < length (m.cells ++ hidden) = omega (arith, length-append m.cells hidden) in lt-ltb x (length (m.cells ++ hidden)) lt

    -- STORE and PUT into a named cell.
    pub store_runs : (x : ℕ) (w : V) → x < length m.cells
        → runs kind c pc 0 (entry Store x ∷ r) (w ∷ vs) (spread m hidden unposted) ≡ runs kind c (suc pc) 0 r vs (spread (statements.with_cell m x w) hidden unposted)
    store_runs x w h =
        store_on (λ j ws n. runs kind c (suc pc) j r ws n) pc x (spread m hidden unposted) vs w (there x h)
        ∙ ap (λ cells. runs kind c (suc pc) 0 r vs (with_cells (spread m hidden unposted) cells)) (set-append_left m.cells hidden x w h)

    pub put_runs : (d : ℕ) (i w : V) (k : ℕ) → element kind d i ≡ gives k → k < length m.cells
        → runs kind c pc 0 (entry Put d ∷ r) (w ∷ i ∷ vs) (spread m hidden unposted) ≡ runs kind c (suc pc) 0 r vs (spread (statements.with_cell m k w) hidden unposted)
    put_runs d i w k e h =
        put_on (λ j ws n. runs kind c (suc pc) j r ws n) pc d (spread m hidden unposted) vs i w k e (there k h)
        ∙ ap (λ cells. runs kind c (suc pc) 0 r vs (with_cells (spread m hidden unposted) cells)) (set-append_left m.cells hidden k w h)

-- A hidden cell keeps its figure where a named one changes.
pub named_set_keeps : {V : Type 0} (cells hidden : List V) (x : ℕ) (w : V) → x < length cells → (h : ℕ) → length cells ≤ h → slice_get (set cells x w ++ hidden) h ≡ slice_get (cells ++ hidden) h
named_set_keeps cells hidden x w lt h le =
    ap (λ l. slice_get l h) (sym (set-append_left cells hidden x w lt)) ∙ nth_set_other (cells ++ hidden) x h w (λ e. omega arith)

-- A figure posted behind those in the book takes the place of one that was not posted.
pub posted_behind : {V : Type 0} (posted unposted : List V) (y : V) → length posted < length (posted ++ unposted)
    → (us : List V) × (set (posted ++ unposted) (length posted) y ≡ (posted ++ y ∷ []) ++ us) × (suc (length us) ≡ length unposted)
posted_behind posted [] y h = absurd (omega (arith, length-append posted []))
posted_behind posted (u ∷ us) y h = (us, set-append_seam posted u us y ∙ sym (append_assoc posted (y ∷ []) us), refl)

pub posted_memory : {V : Type 0} (mem : statements.Memory V) (hidden unposted : List V) (y : V) (us : List V) → set (mem.posted ++ unposted) (length mem.posted) y ≡ (mem.posted ++ y ∷ []) ++ us
    → with_posted (spread mem hidden unposted) (set (mem.posted ++ unposted) (length mem.posted) y) ≡ spread (statements.with_posted mem y) hidden us
posted_memory mem hidden unposted y us e =
    let f : length mem.posted + 1 ≡ length (mem.posted ++ y ∷ []) = omega (arith, length-append mem.posted (y ∷ [])) in
    λ i. record { cells = mem.cells ++ hidden; book = e i; posted = f i; roll = mem.roll }

-- What comes after a statement still stands while the hidden cells of the fors around keep their figures.
module _ {V : Type 0} (kind : Kind V) (c : List Entry) (names : Names) (label_at table_at : List ℕ → ℕ) (halt_at v m : ℕ) (outer : List ℕ → Bool) where
  pub continues_kept : {cells cells' : List V} {seen : List ℕ → Bool} {hb a : ℕ} {k : Continuation}
      → ((h : ℕ) → v ≤ h → h < hb → slice_get cells' h ≡ slice_get cells h)
      → Continues kind c names label_at table_at halt_at v m outer cells seen hb a k → Continues kind c names label_at table_at halt_at v m outer cells' seen hb a k
  continues_kept f (ends e p) = ends e p
  continues_kept f (passes e q) = passes e (continues_kept f q)
  continues_kept f (goes h b p low q) = goes h b p low (continues_kept f q)
  continues_kept f (again around h hb' i a b o n is x held lt low q) =
      again around h hb' i a b o n is x (record { figure = held.figure; there = f h x.after_named lt ∙ held.there; is = held.is }) lt low
      (continues_kept (λ g v≤g lt'. f g v≤g (omega arith)) q)
