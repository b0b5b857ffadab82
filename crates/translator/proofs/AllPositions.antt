-- The law of one step over all positions, from the laws of the kinds of steps.
use Rattle.std.proofs.Common.{◌≡◌, ℕ, suc, Bool, List, ◌∷◌, ◌++◌, drop, Some, refl, ap, ◌∙◌, arith}
use Rattle.grammar.specs.Tree.{Statement}
use Rattle.figures.specs.Kinds.{Kind}
use Rattle.code.specs.declared.operations.Operation.TheVariants.{Mark, Halt}
use Rattle.meaning.specs.Names.{Names}
use Rattle.meaning.specs.Positions.{Position, end, at_assignment, at_go, at_switch, at_if, at_input, at_print, at_stop, at_element, at_addition, at_test}
use Rattle.meaning.specs.Machine as statements
use Rattle.translator.specs.Generator.{Entry, entry, plain}
use Rattle.translator.specs.Simulation.{spread}
use Rattle.translator.specs.Compiled.{Stands}
use Rattle.translator.specs.Agreement.{Valid, Setting, StepsAgree, AgreesAt, both_end, both_step, SimulationLaw}
use Rattle.translator.proofs.Behind.{to as same_place}
use Rattle.translator.proofs.Resuming.{element_begins, addition_begins, test_begins}
use Rattle.translator.proofs.Steps.{step_law}

-- A place has no MARK and HALT at once.
mark_is_no_halt : {l r s : List Entry} {t : ℕ} → l ≡ entry Mark t ∷ s → l ≡ plain Halt ∷ r → ⊥
mark_is_no_halt {t = t} d e =
    let same : entry Mark t ≡ plain Halt = cc in
    let operations : Mark ≡ Halt = ap (λ x. x.operation) same in
    let z : ◌≡◌ {A = ℕ} 0 1 = cc in
    omega arith

module _ {V : Type 0} (kind : Kind V) (c : List Entry) (names : Names) (label_at table_at : List ℕ → ℕ) (halt_at v m : ℕ) (outer : List ℕ → Bool) where
  abbrev S : List V → ℕ → Position → Type 0
  S = Stands kind c names label_at table_at halt_at v m outer

  -- Every position but the end stands at a MARK.
  halt_is_end : (p : Position) (cells : List V) (a : ℕ) (r : List Entry) → S cells a p → drop a c ≡ plain Halt ∷ r → p ≡ end
  halt_is_end end cells a r q e = refl
  halt_is_end (at_assignment x y k) cells a r q e = absurd (mark_is_no_halt q.placed.entries e)
  halt_is_end (at_go p l k) cells a r q e = absurd (mark_is_no_halt q.placed.entries e)
  halt_is_end (at_switch p x y k) cells a r q e = absurd (mark_is_no_halt q.placed.entries e)
  halt_is_end (at_if p y s k) cells a r q e = absurd (mark_is_no_halt q.placed.entries e)
  halt_is_end (at_input p x k) cells a r q e = absurd (mark_is_no_halt q.placed.entries e)
  halt_is_end (at_print p y ys k) cells a r q e = absurd (mark_is_no_halt q.entries e)
  halt_is_end (at_stop p) cells a r q e = absurd (mark_is_no_halt (q) e)
  halt_is_end (at_element l y es k) cells a r q e =
      let g = element_begins kind c names label_at table_at halt_at v m outer y es q.0.placed in
      absurd (mark_is_no_halt (same_place a _ c q.1 ∙ g.2) e)
  halt_is_end (at_addition l f s u es k) cells a r q e =
      let g = addition_begins kind c names label_at table_at halt_at v m outer f s u es q.0.placed in
      absurd (mark_is_no_halt (same_place a _ c q.2 ∙ g.2) e)
  halt_is_end (at_test l f s u es k) cells a r q e =
      let g = test_begins kind c names label_at table_at halt_at v m outer f s u es q.0.placed in
      absurd (mark_is_no_halt (same_place a _ c q.2 ∙ g.2) e)

  module _ (root : Statement) (setting : Setting kind c names label_at table_at halt_at v m outer root) where
    -- The end stands at the HALT.
    end_has_halt : (cells : List V) (a : ℕ) → S cells a end → (r : List Entry) × (drop a c ≡ plain Halt ∷ r)
    end_has_halt cells a q = (drop (suc halt_at) c, same_place a halt_at c q ∙ setting.laid_out.halts)

    laws : StepsAgree kind c names label_at table_at halt_at v m outer root
    laws = step_law kind c names label_at table_at halt_at v m outer root setting

    agree : (p : Position) (memory : statements.Memory V) (hidden unposted : List V) (a : ℕ) → Valid v m memory hidden unposted → S (memory.cells ++ hidden) a p
        → AgreesAt kind c names label_at table_at halt_at v m outer (spread memory hidden unposted) a (statements.step_at kind names (Some root) memory p)
    agree end mem hidden unposted a val q = both_end (end_has_halt (mem.cells ++ hidden) a q).1
    agree (at_assignment x y k) mem hidden unposted a val q = both_step (laws.assignments x y k mem hidden unposted a val q)
    agree (at_go p l k) mem hidden unposted a val q = both_step (laws.gos p l k mem hidden unposted a val q)
    agree (at_switch p x y k) mem hidden unposted a val q = both_step (laws.switches p x y k mem hidden unposted a val q)
    agree (at_if p y s k) mem hidden unposted a val q = both_step (laws.ifs p y s k mem hidden unposted a val q)
    agree (at_input p x k) mem hidden unposted a val q = both_step (laws.inputs p x k mem hidden unposted a val q)
    agree (at_print p y ys k) mem hidden unposted a val q = both_step (laws.prints p y ys k mem hidden unposted a val q)
    agree (at_stop p) mem hidden unposted a val q = both_step (laws.stops p mem hidden unposted a val q)
    agree (at_element l y es k) mem hidden unposted a val q = both_step (laws.elements l y es k mem hidden unposted a val q)
    agree (at_addition l f s u es k) mem hidden unposted a val q = both_step (laws.additions l f s u es k mem hidden unposted a val q)
    agree (at_test l f s u es k) mem hidden unposted a val q = both_step (laws.tests l f s u es k mem hidden unposted a val q)

pub simulation_law : {V : Type 0} (kind : Kind V) → SimulationLaw kind
simulation_law kind c names label_at table_at halt_at v m outer root setting = record {
  agree = agree kind c names label_at table_at halt_at v m outer root setting;
  end_has_halt = end_has_halt kind c names label_at table_at halt_at v m outer root setting;
  halt_is_end = halt_is_end kind c names label_at table_at halt_at v m outer;
}
