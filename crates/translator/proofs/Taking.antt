-- The step of in: the subscript is tested, then a figure is taken from the roll and stored.
use Rattle.std.proofs.Common.{◌≡◌, ℕ, suc, ◌+◌, ◌<◌, Bool, true, false, cond, ltb, List, [], ◌∷◌, ◌++◌, length, drop, set, pos, ◌-ℤ◌, Some, None, refl, ap, ◌∙◌, arith, length-append, length-set, lt-ltb}
use lib.Seq.{set-append_left}
use Rattle.grammar.specs.Tree.{Name, Exp, whole, indexed, Statement}
use Rattle.symbols.specs.declared.value_type.ValueType.{ValueType}
use Rattle.symbols.specs.declared.value_type.ValueType.TheVariants.{Untyped, Integer, Boolean}
use Rattle.figures.specs.Kinds.{Kind, Outcome, value, refused, Counts}
use Rattle.rolls.specs.Contents.{Taken, took, refused as ended, refused_at as damaged, first as first_figure, rest as rest_of_roll}
use Rattle.machine.specs.declared.instruction.Instruction.TheVariants.{Take as Takes}
use Rattle.machine.specs.Faults.{Fault}
use Rattle.machine.specs.Machine.{gives, fails, calculation, element, Memory, ResultOf, faults as breaks, with_taken}
use Rattle.meaning.specs.Names.{Extent, Names}
use Rattle.meaning.specs.Expressions.{and_then, at_distance, element_cell, as_stored, figure, subscripted_cell}
use Rattle.meaning.specs.Positions.{Continuation, Position, at_input, leave}
use Rattle.meaning.specs.Machine as statements
use Rattle.meaning.specs.Machine.{Next, on_to, worked_out, received, store}
use Rattle.translator.specs.Generator.{Entry, entry, exp_size, cell_at, cells_at, type_of, take_operation}
use Rattle.translator.specs.Fits.{ExtentFits}
use Rattle.translator.specs.Running.{carried, follow, moved, runs}
use Rattle.translator.specs.Simulation.{spread}
use Rattle.translator.specs.Compiled.{Continues, Stands}
use Rattle.translator.specs.Agreement.{Valid, Setting, Agrees, faults, StepsAlike}
use Rattle.translator.proofs.Expressions.{at_place, element_agrees, element_below, figure_made}
use Rattle.translator.proofs.Storing.{named_set_keeps, continues_kept}
use Rattle.translator.proofs.Stepping.{agrees_by, agrees_for, worked_then, evaluates, leaves}

module _ {V : Type 0} (kind : Kind V) (c : List Entry) where
  -- What TAKE and TAKEW come to, by what they meet.
  module _ (next : ℕ → List V → Memory V → ResultOf V) (pc d : ℕ) (M : Memory V) (vs : List V) (rounded : Bool) (z : V) where
    take_on : (j : ℕ) (w : V) → element kind d z ≡ gives j → first_figure M.roll ≡ took w → ltb j (length M.cells) ≡ true
        → carried next pc M (moved kind c (Takes rounded) d (z ∷ vs) M) ≡ next 0 vs (with_taken M (set M.cells j (cond rounded (kind.round w) w)) (rest_of_roll M.roll))
    take_on j w e f g = rw (e, f, g)

    take_ended : (j n : ℕ) → element kind d z ≡ gives j → first_figure M.roll ≡ ended n
        → carried next pc M (moved kind c (Takes rounded) d (z ∷ vs) M) ≡ breaks (record { number = n; roll_place = None }) M
    take_ended j n e f = rw (e, f)

    take_damaged : (j n p : ℕ) → element kind d z ≡ gives j → first_figure M.roll ≡ damaged n p
        → carried next pc M (moved kind c (Takes rounded) d (z ∷ vs) M) ≡ breaks (record { number = n; roll_place = Some p }) M
    take_damaged j n p e f = rw (e, f)

    take_outside : (f : Fault) → element kind d z ≡ fails f → carried next pc M (moved kind c (Takes rounded) d (z ∷ vs) M) ≡ breaks f M
    take_outside f e = rw e

module _ {V : Type 0} (kind : Kind V) (c : List Entry) (names : Names) (label_at table_at : List ℕ → ℕ) (halt_at v m : ℕ) (outer : List ℕ → Bool) (root : Statement)
    (setting : Setting kind c names label_at table_at halt_at v m outer root) (mem : statements.Memory V) (hidden unposted : List V) (val : Valid v m mem hidden unposted) where
  abbrev N : Memory V
  N = spread mem hidden unposted

  abbrev A : Memory V → ℕ → Next V → ResultOf V → Type 0
  A = Agrees kind c names label_at table_at halt_at v m outer

  abbrev S : List V → ℕ → Position → Type 0
  S = Stands kind c names label_at table_at halt_at v m outer

  -- The memory after a figure is taken into a cell.
  abbrev taken : ℕ → V → statements.Memory V
  taken j w = statements.with_cell (statements.with_rest_of_roll mem) j w

  -- The subscript z has been worked out, and names the cell j.
  module _ (x : Name) (p pc b : ℕ) (k : Continuation) (d : ℕ) (z : V) (j : ℕ) (is : element kind d z ≡ gives j) (below : j < v) (next_place : suc pc ≡ b)
      {seen : List ℕ → Bool} {hb : ℕ} (q : Continues kind c names label_at table_at halt_at v m outer (mem.cells ++ hidden) seen hb b k) where
    abbrev onward : ℕ → List V → Memory V → ResultOf V
    onward i ws n = runs kind c (suc pc) i (drop b c) ws n

    inside : j < length mem.cells
    inside = omega (arith, val.named)

    there : ltb j (length (mem.cells ++ hidden)) ≡ true
    there = let lt : j < length (mem.cells ++ hidden) = omega (arith, length-append mem.cells hidden, inside) in lt-ltb j (length (mem.cells ++ hidden)) lt

    lands : (w : V) → A N p (on_to (leave k) (taken j w)) (runs kind c (suc pc) 0 (drop b c) [] (with_taken N (set (mem.cells ++ hidden) j w) (rest_of_roll mem.roll)))
    lands w =
        agrees_by kind c names label_at table_at halt_at v m outer
        (ap (λ cells. runs kind c (suc pc) 0 (drop b c) [] (with_taken N cells (rest_of_roll mem.roll))) (set-append_left mem.cells hidden j w inside)
        ∙ at_place kind c (suc pc) b (drop b c) [] (spread (taken j w) hidden unposted) next_place)
        (leaves kind c names label_at table_at halt_at v m outer root setting (taken j w) hidden unposted
        (record { named = length-set mem.cells j w ∙ val.named; all = val.all; room = val.room }) N p
        (continues_kept kind c names label_at table_at halt_at v m outer (λ h low lt. named_set_keeps mem.cells hidden j w inside h (omega (arith, val.named))) q))

    -- By what the roll hands over.
    by_roll : (t : ValueType) → (t ≡ Boolean → ⊥) → names.type x.letters ≡ t → (o : Taken V) → first_figure mem.roll ≡ o
        → A N p (received p (λ w. worked_out p (on_to (leave k)) (and_then (λ u. value (taken j u)) (as_stored kind w t))) o) (runs kind c pc 0 (entry (take_operation names t) d ∷ drop b c) (z ∷ []) N)
    by_roll Untyped typed e (took w) f = agrees_by kind c names label_at table_at halt_at v m outer (take_on kind c onward pc d N [] false z j w is f there) (lands w)
    by_roll Untyped typed e (ended n) f = agrees_by kind c names label_at table_at halt_at v m outer (take_ended kind c onward pc d N [] false z j n is f) (faults n None refl)
    by_roll Untyped typed e (damaged n r) f = agrees_by kind c names label_at table_at halt_at v m outer (take_damaged kind c onward pc d N [] false z j n r is f) (faults n (Some r) refl)
    by_roll Integer typed e (took w) f = agrees_by kind c names label_at table_at halt_at v m outer (take_on kind c onward pc d N [] true z j w is f there) (lands (kind.round w))
    by_roll Integer typed e (ended n) f = agrees_by kind c names label_at table_at halt_at v m outer (take_ended kind c onward pc d N [] true z j n is f) (faults n None refl)
    by_roll Integer typed e (damaged n r) f = agrees_by kind c names label_at table_at halt_at v m outer (take_damaged kind c onward pc d N [] true z j n r is f) (faults n (Some r) refl)
    by_roll Boolean typed e o f = absurd (typed refl)

  -- in into an element.
  pub sim_input_indexed : (p : ℕ) (x : Name) (i : Exp) (k : Continuation) (a : ℕ) → S (mem.cells ++ hidden) a (at_input p (indexed x i) k)
      → StepsAlike kind c names label_at table_at halt_at v m outer N a (statements.step_at kind names (Some root) mem (at_input p (indexed x i) k))
  sim_input_indexed p x i k a q = record {
    text_place = p;
    rest = _;
    begins = q.placed.entries;
    agrees =
        agrees_for kind c names label_at table_at halt_at v m outer
        (worked_then kind c names label_at table_at halt_at v m outer p next (subscripted_cell kind names x) (figure kind names mem.cells i))
        (evaluates kind c names label_at table_at halt_at v m outer root setting mem hidden unposted val i (suc a) p _ [] _ q.placed.fits.0.1 (λ z.
        tested z (element_cell ext (kind.nearest z)) refl));
  }
    where
      ext : Extent
      ext = names.extent x.letters

      t : ValueType
      t = type_of names x

      fits : ExtentFits v ext
      fits = q.placed.fits.0.0

      pc : ℕ
      pc = suc a + exp_size i

      next : ℕ → Next V
      next = λ j. received p (λ w. worked_out p (on_to (leave k)) (store kind names (Some root) (statements.with_rest_of_roll mem) x j w)) (first_figure mem.roll)

      outside : (t : ValueType) → (t ≡ Boolean → ⊥) → (z : V) (n : ℕ) → element kind (cells_at names x) z ≡ fails (record { number = n; roll_place = None })
          → runs kind c pc 0 (entry (take_operation names t) (cells_at names x) ∷ drop q.b c) (z ∷ []) N ≡ breaks (record { number = n; roll_place = None }) N
      outside Untyped typed z n e = take_outside kind c (λ u ws o. runs kind c (suc pc) u (drop q.b c) ws o) pc (cells_at names x) N [] false z _ e
      outside Integer typed z n e = take_outside kind c (λ u ws o. runs kind c (suc pc) u (drop q.b c) ws o) pc (cells_at names x) N [] true z _ e
      outside Boolean typed z n e = absurd (typed refl)

      tested : (z : V) (o : Outcome ℕ) → element_cell ext (kind.nearest z) ≡ o
          → A N p (worked_out p next o) (runs kind c pc 0 (entry (take_operation names t) (cells_at names x) ∷ drop q.b c) (z ∷ []) N)
      tested z (value j) is =
          by_roll x p pc q.b k (cells_at names x) z j (element_agrees v ext fits kind z ∙ ap calculation is) (element_below v ext fits (kind.nearest z) j is)
          (omega (arith, q.placed.long)) q.continues t q.placed.fits.1 refl (first_figure mem.roll) refl
      tested z (refused n) is =
          agrees_by kind c names label_at table_at halt_at v m outer (outside t q.placed.fits.1 z n (element_agrees v ext fits kind z ∙ ap calculation is)) (faults n None refl)

  -- in into a simple variable: the subscript is 0, and names its one cell.
  pub sim_input_whole : (p : ℕ) (x : Name) (k : Continuation) (a : ℕ) → S (mem.cells ++ hidden) a (at_input p (whole x) k)
      → StepsAlike kind c names label_at table_at halt_at v m outer N a (statements.step_at kind names (Some root) mem (at_input p (whole x) k))
  sim_input_whole p x k a q = record {
    text_place = p;
    rest = _;
    begins = q.placed.entries;
    agrees =
        agrees_by kind c names label_at table_at halt_at v m outer
        (figure_made kind c (suc a) (entry (take_operation names t) (cells_at names x) ∷ drop q.b c) [] N (kind.of 0)
        ∙ ap (λ o. follow N o (λ z. runs kind c (suc (suc a)) 0 (entry (take_operation names t) (cells_at names x) ∷ drop q.b c) (z ∷ []) N)) zero.given)
        (by_roll x p (suc (suc a)) q.b k (cells_at names x) zero.figure (cell_at names x) names_cell q.placed.fits.0.1
        (omega (arith, q.placed.long)) q.continues t q.placed.fits.1 refl (first_figure mem.roll) refl);
  }
    where
      ext : Extent
      ext = names.extent x.letters

      t : ValueType
      t = type_of names x

      zero : Counts kind 0
      zero = setting.counts 0 (omega arith)

      one_cell : (n : ℕ) → n ≡ 1 → cond (ltb 0 n) (value (ext.first + 0)) (refused 36) ≡ value ext.first
      one_cell n e = let z : ext.first + 0 ≡ ext.first = omega arith in ap (λ i. cond (ltb 0 i) (value (ext.first + 0)) (refused 36)) e ∙ ap value z

      at_zero : element_cell ext (kind.nearest zero.figure) ≡ value ext.first
      at_zero = ap (element_cell ext) zero.nearest_is ∙ ap (λ l. at_distance ext (pos 0 -ℤ l)) q.placed.fits.0.3 ∙ one_cell ext.count q.placed.fits.0.2

      names_cell : element kind (cells_at names x) zero.figure ≡ gives (cell_at names x)
      names_cell = element_agrees v ext q.placed.fits.0.0 kind zero.figure ∙ ap calculation at_zero
