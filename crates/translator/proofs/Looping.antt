-- The steps of a for: the first step of an element stores its figure, then its number in the hidden cell, and goes to the
-- body; the second step of a progression adds to the variable.
use Rattle.std.proofs.Common.{◌≡◌, ℕ, zero, suc, ◌+◌, ◌-◌, ◌<◌, ◌≤◌, Bool, List, [], ◌∷◌, ◌++◌, length, drop, set, Some, sym, refl, ap, ◌∙◌, suc-add, zero-add, arith, length-append, length-set, lt-ltb}
use Rattle.std.specs.List.{slice_get}
use Rattle.grammar.specs.Tree.{Exp, Element, single, progression, Statement}
use Rattle.symbols.specs.declared.value_type.ValueType.{ValueType}
use Rattle.figures.specs.Kinds.{Kind, value, Counts}
use Rattle.code.specs.declared.operations.Operation.TheVariants.{Store, Const, Jump, Add}
use Rattle.meaning.specs.Names.{Names}
use Rattle.meaning.specs.Expressions.{and_then, both, as_stored, cell_of, figure, figure_in}
use Rattle.meaning.specs.Positions.{Loop, Continuation, turn, Position, at_element, at_addition, at_test, enter}
use Rattle.meaning.specs.Machine as statements
use Rattle.meaning.specs.Machine.{Next, on_to, worked_out, store}
use Rattle.machine.specs.Machine.{Memory, ResultOf, with_cells}
use Rattle.translator.specs.Generator.{Entry, entry, plain, exp_size, exp_code, cell_at, type_of, ready_size, ready_code, first_size, addition_size, down_size, element_size, first_code, addition_code, test_code, next_place, elements_code}
use Rattle.translator.specs.Fits.{ExpFits}
use Rattle.translator.specs.Running.{follow, runs}
use Rattle.translator.specs.Simulation.{spread}
use Rattle.translator.specs.Compiled.{Holds, again, AtLoop, Stands}
use Rattle.translator.specs.Agreement.{Valid, Setting, Agrees, moves, StepsAlike}
use Rattle.translator.proofs.Behind.{to as same_place, further, behind_first}
use Rattle.translator.proofs.Expressions.{cell_found, figure_made, loaded_on}
use Rattle.translator.proofs.Placing.{enter_stands}
use Rattle.translator.proofs.Resuming.{jump_rests, position_rests}
use Rattle.translator.proofs.Storing.{ready_runs, store_runs, store_on, named_set_keeps, nth_set_other, continues_kept}
use Rattle.translator.proofs.Stepping.{agrees_by, agrees_for, worked, worked_then, set_valid, evaluates}

-- A figure put into one of the cells behind the first ones.
set_behind : {A : Type 0} (xs ys : List A) (j : ℕ) (x : A) → set (xs ++ ys) (length xs + j) x ≡ xs ++ set ys j x
set_behind [] ys j x = rw zero-add
set_behind (y ∷ xs) ys j x = rw suc-add (ap (λ l. y ∷ l) (set_behind xs ys j x))

nth_behind : {A : Type 0} (xs ys : List A) (j : ℕ) (x : A) → j < length ys → slice_get (xs ++ set ys j x) (length xs + j) ≡ Some x
nth_behind [] [] j x h = absurd (omega arith)
nth_behind [] (y ∷ ys) zero x h = refl
nth_behind [] (y ∷ ys) (suc j) x h = let z : zero + suc j ≡ suc (zero + j) = omega arith in ap (λ n. slice_get (y ∷ set ys j x) n) z ∙ nth_behind [] ys j x (omega arith)
nth_behind (y ∷ xs) ys j x h = rw suc-add (nth_behind xs ys j x h)

module _ {V : Type 0} (kind : Kind V) (c : List Entry) (names : Names) (label_at table_at : List ℕ → ℕ) (halt_at v m : ℕ) (outer : List ℕ → Bool) (root : Statement)
    (setting : Setting kind c names label_at table_at halt_at v m outer root) (mem : statements.Memory V) (hidden unposted : List V) (val : Valid v m mem hidden unposted) where
  abbrev N : Memory V
  N = spread mem hidden unposted

  abbrev A : Memory V → ℕ → Next V → ResultOf V → Type 0
  A = Agrees kind c names label_at table_at halt_at v m outer

  abbrev S : List V → ℕ → Position → Type 0
  S = Stands kind c names label_at table_at halt_at v m outer

  abbrev Alike : ℕ → Next V → Type 0
  Alike = StepsAlike kind c names label_at table_at halt_at v m outer N

  -- The rest of an element's first step: its number into the hidden cell, and to the body.
  module _ (l : Loop) (e : Element) (es : List Element) (k : Continuation) (f : AtLoop kind c names label_at table_at halt_at v m outer (mem.cells ++ hidden) l e es k) (x : ℕ) (w : V) (below : x < v) where
    abbrev mem₁ : statements.Memory V
    mem₁ = statements.with_cell mem x w

    number : Counts kind f.i
    number = setting.counts f.i (omega (arith, f.placed.count, f.placed.few))

    abbrev j : ℕ
    j = f.h - v

    abbrev hidden₁ : List V
    hidden₁ = set hidden j number.figure

    h_is : f.h ≡ length mem₁.cells + j
    h_is = omega (arith, f.placed.after_named, length-set mem.cells x w, val.named)

    j_below : j < length hidden
    j_below = omega (arith, f.placed.after_named, f.placed.hidden, val.all)

    cells_are : set (mem₁.cells ++ hidden) f.h number.figure ≡ mem₁.cells ++ hidden₁
    cells_are = ap (λ n. set (mem₁.cells ++ hidden) n number.figure) h_is ∙ set_behind mem₁.cells hidden j number.figure

    holds : Holds kind c names label_at table_at halt_at v m outer (mem₁.cells ++ hidden₁) f.h f.i
    holds = record {
      figure = number.figure;
      there = ap (slice_get (mem₁.cells ++ hidden₁)) h_is ∙ nth_behind mem₁.cells hidden j number.figure j_below;
      is = number.nearest_is;
    }

    kept : (g : ℕ) → v ≤ g → g < f.hb → slice_get (mem₁.cells ++ hidden₁) g ≡ slice_get (mem.cells ++ hidden) g
    kept g low lt =
        ap (λ t. slice_get t g) (sym cells_are)
        ∙ nth_set_other (mem₁.cells ++ hidden) f.h g number.figure (λ is. omega (arith, f.low))
        ∙ named_set_keeps mem.cells hidden x w (omega (arith, val.named)) g (omega (arith, val.named))

    entered : S (mem₁.cells ++ hidden₁) f.b (enter l.body (turn l e es k))
    entered = enter_stands kind c names label_at table_at halt_at v m outer l.body {hb = suc f.h} f.placed.body (omega arith)
        (again f.seen f.h f.hb f.i f.a f.b f.o f.n refl f.placed holds (omega arith) f.low
        (continues_kept kind c names label_at table_at halt_at v m outer kept f.continues))

    valid₁ : Valid v m mem₁ hidden₁ unposted
    valid₁ =
        let g = set_valid kind c names label_at table_at halt_at v m outer x w mem hidden unposted val in
        record { named = g.named; all = omega (arith, length-set hidden j number.figure, g.all); room = g.room }

    numbered : (M₀ : Memory V) (p pc : ℕ) (r : List Entry) → drop (suc (suc (suc pc))) c ≡ r
        → A M₀ p (on_to (enter l.body (turn l e es k)) mem₁)
        (runs kind c pc 0 (entry Const f.i ∷ entry Store f.h ∷ entry Jump f.b ∷ r) [] (spread mem₁ hidden unposted))
    numbered M₀ p pc r behind =
        let M₁ = spread mem₁ hidden unposted in
        let inside : f.h < length (mem₁.cells ++ hidden) = omega (arith, length-append mem₁.cells hidden, h_is, j_below) in
        moves f.b hidden₁ unposted
        (figure_made kind c pc (entry Store f.h ∷ entry Jump f.b ∷ r) [] M₁ (kind.of f.i)
        ∙ ap (λ q. follow M₁ q (λ z. runs kind c (suc pc) 0 (entry Store f.h ∷ entry Jump f.b ∷ r) (z ∷ []) M₁)) number.given
        ∙ store_on kind c (λ u ws n. runs kind c (suc (suc pc)) u (entry Jump f.b ∷ r) ws n) (suc pc) f.h M₁ [] number.figure (lt-ltb f.h (length (mem₁.cells ++ hidden)) inside)
        ∙ ap (λ cells. runs kind c (suc (suc pc)) 0 (entry Jump f.b ∷ r) [] (with_cells M₁ cells)) cells_are
        ∙ jump_rests kind c (suc (suc pc)) f.b r [] (spread mem₁ hidden₁ unposted) (spread mem₁ hidden₁ unposted) behind
        (position_rests kind c names label_at table_at halt_at v m outer setting.laid_out.halts (mem₁.cells ++ hidden₁) f.b (enter l.body (turn l e es k)) entered))
        valid₁ entered

  -- The first step of an element, whose figure is that of y.
  first_step : (l : Loop) (e : Element) (es : List Element) (k : Continuation) (f : AtLoop kind c names label_at table_at halt_at v m outer (mem.cells ++ hidden) l e es k)
      (a : ℕ) (y : Exp) (r : List Entry) → ExpFits names v y → drop a c ≡ first_code names l.place l.control f.h f.b f.i y r
      → Alike a (worked_out l.place (on_to (enter l.body (turn l e es k))) (and_then (store kind names (Some root) mem l.control (cell_of kind names l.control)) (figure kind names mem.cells y)))
  first_step l e es k f a y r fits entries = record {
    text_place = l.place;
    rest = _;
    begins = entries;
    agrees =
        let p = l.place in
        let next = on_to (enter l.body (turn l e es k)) in
        let t = type_of names l.control in
        let cell = cell_at names l.control in
        let pc = suc a + exp_size y + ready_size t in
        agrees_for kind c names label_at table_at halt_at v m outer (worked_then kind c names label_at table_at halt_at v m outer p next (store kind names (Some root) mem l.control (cell_of kind names l.control)) (figure kind names mem.cells y))
        (evaluates kind c names label_at table_at halt_at v m outer root setting mem hidden unposted val y (suc a) p _ [] _ fits (λ z.
        agrees_for kind c names label_at table_at halt_at v m outer (worked_then kind c names label_at table_at halt_at v m outer p next (λ w. value (statements.with_cell mem cell w)) (as_stored kind z t))
        (agrees_by kind c names label_at table_at halt_at v m outer (ready_runs kind c t (suc a + exp_size y) pc _ z [] N refl)
        (worked kind c names label_at table_at halt_at v m outer N p (as_stored kind z t) _ _ (λ w is.
        agrees_by kind c names label_at table_at halt_at v m outer
        (store_runs kind c pc (entry Const f.i ∷ entry Store f.h ∷ entry Jump f.b ∷ r) [] mem hidden unposted cell w (omega (arith, f.placed.control_fits, val.named)))
        (numbered l e es k f cell w f.placed.control_fits N p (suc pc) r
        (further c a (first_size names t y) (suc (suc (suc (suc pc)))) _ entries (omega arith)
        ∙ behind_first names p l.control f.h f.b f.i y (first_size names t y) 0 r (omega arith))))))));
  }

  pub sim_element : (l : Loop) (e : Element) (es : List Element) (k : Continuation) (a : ℕ) → S (mem.cells ++ hidden) a (at_element l e es k)
      → Alike a (statements.step_at kind names (Some root) mem (at_element l e es k))
  sim_element l (single y) es k a q = first_step l (single y) es k q.0 a y _ q.0.placed.elements_fit.0 (same_place a q.0.a c q.1 ∙ q.0.placed.elements)
  sim_element l (progression y s u) es k a q = first_step l (progression y s u) es k q.0 a y _ q.0.placed.elements_fit.0.0 (same_place a q.0.a c q.1 ∙ q.0.placed.elements)

  -- The second step of a progression: the variable and the step are added, and the test follows.
  module _ (l : Loop) (y s u : Exp) (es : List Element) (k : Continuation) (a : ℕ) (q : S (mem.cells ++ hidden) a (at_addition l y s u es k)) where
    abbrev x : AtLoop kind c names label_at table_at halt_at v m outer (mem.cells ++ hidden) l (progression y s u) es k
    x = q.0

    abbrev t : ValueType
    t = type_of names l.control

    abbrev cell : ℕ
    cell = cell_at names l.control

    abbrev behind_here : ℕ
    behind_here = x.a + element_size names t (progression y s u)

    abbrev tests : List Entry
    tests = test_code names l.place l.control x.h x.b (next_place names l.place l.control x.h x.b x.o behind_here es)
        (x.a + first_size names t y + addition_size names t s + down_size names s u) s u
        (elements_code names l.place l.control x.h x.b x.o (suc x.i) behind_here es (drop x.b c))

    addition_entries : drop a c ≡ addition_code names l.place l.control x.h x.b s tests
    addition_entries =
        further c x.a (first_size names t y) a _ x.placed.elements q.2
        ∙ behind_first names l.place l.control x.h x.b x.i y (first_size names t y) 0 (addition_code names l.place l.control x.h x.b s tests) (omega arith)

    abbrev pc : ℕ
    pc = suc (suc (suc a) + exp_size s) + ready_size t

    inside : cell < length mem.cells
    inside = omega (arith, x.placed.control_fits, val.named)

    at_tests : (w : V) → S ((statements.with_cell mem cell w).cells ++ hidden) (suc pc) (at_test l y s u es k)
    at_tests w =
        let keeps : (g : ℕ) → v ≤ g → slice_get (set mem.cells cell w ++ hidden) g ≡ slice_get (mem.cells ++ hidden) g =
        λ g low. named_set_keeps mem.cells hidden cell w inside g (omega (arith, val.named)) in (
          record {
            seen = x.seen;
            h = x.h;
            hb = x.hb;
            i = x.i;
            a = x.a;
            b = x.b;
            d = x.d;
            o = x.o;
            n = x.n;
            placed = x.placed;
            low = x.low;
            continues = continues_kept kind c names label_at table_at halt_at v m outer (λ g low lt. keeps g low) x.continues;
          },
          record { figure = q.1.figure; there = keeps x.h x.placed.after_named ∙ q.1.there; is = q.1.is },
          omega (arith, q.2),
        )

    pub sim_addition : Alike a (statements.step_at kind names (Some root) mem (at_addition l y s u es k))
    sim_addition = record {
      text_place = l.place;
      rest = _;
      begins = addition_entries;
      agrees =
          let p = l.place in
          let next = on_to (at_test l y s u es k) in
          let g = cell_found kind mem.cells hidden cell inside in
          let added = figure kind names mem.cells s in
          let stores = store kind names (Some root) mem l.control (cell_of kind names l.control) in
          agrees_for kind c names label_at table_at halt_at v m outer
          (worked_then kind c names label_at table_at halt_at v m outer p next stores (both kind.add (figure_in kind mem.cells cell) added)
          ∙ ap (λ o. worked_out p (λ z. worked_out p next (stores z)) (both kind.add o added)) g.2
          ∙ worked_then kind c names label_at table_at halt_at v m outer p (λ z. worked_out p next (stores z)) (kind.add g.0) added)
          (agrees_by kind c names label_at table_at halt_at v m outer
          (loaded_on kind c (λ i ws n. runs kind c (suc (suc a)) i (exp_code names s (plain Add ∷ ready_code t (entry Store cell ∷ tests))) ws n) (suc a) cell N [] g.0 g.1)
          (evaluates kind c names label_at table_at halt_at v m outer root setting mem hidden unposted val s (suc (suc a)) p _ (g.0 ∷ []) _ x.placed.elements_fit.0.1 (λ z.
          agrees_by kind c names label_at table_at halt_at v m outer (figure_made kind c (suc (suc a) + exp_size s) (ready_code t (entry Store cell ∷ tests)) [] N (kind.add g.0 z))
          (worked kind c names label_at table_at halt_at v m outer N p (kind.add g.0 z) _ _ (λ sum is.
          agrees_for kind c names label_at table_at halt_at v m outer (worked_then kind c names label_at table_at halt_at v m outer p next (λ w. value (statements.with_cell mem cell w)) (as_stored kind sum t))
          (agrees_by kind c names label_at table_at halt_at v m outer (ready_runs kind c t (suc (suc (suc a) + exp_size s)) pc _ sum [] N refl)
          (worked kind c names label_at table_at halt_at v m outer N p (as_stored kind sum t) _ _ (λ w is'.
          agrees_by kind c names label_at table_at halt_at v m outer (store_runs kind c pc tests [] mem hidden unposted cell w inside)
          (moves (suc pc) hidden unposted refl (set_valid kind c names label_at table_at halt_at v m outer cell w mem hidden unposted val) (at_tests w))))))))));
    }
