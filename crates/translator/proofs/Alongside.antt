-- A run of the code beside a run of the text: after every step the place stands for the statement machine's position, over
-- the same memory; or the run has the fault that the statement machine's next step has.
use Rattle.std.proofs.Common.{◌≡◌, ℕ, zero, suc, ◌+◌, Bool, true, false, cond, List, ◌++◌, get_or, Some, None, Option, sym, refl, ap, ◌∙◌, subst, arith}
use Rattle.std.proofs.lemmas.Bool.{false≢true}
use Rattle.grammar.specs.Tree.{Statement}
use Rattle.figures.specs.Kinds.{Kind}
use Rattle.code.specs.declared.sizes.Sizes.{Sizes}
use Rattle.code.specs.WellFormed.{WellFormed}
use Rattle.meaning.specs.Names.{Names}
use Rattle.meaning.specs.Positions.{Position}
use Rattle.meaning.specs.Machine as statements
use Rattle.meaning.specs.Runs.{Steps, and_step}
use Rattle.machine.specs.Faults.{Fault}
use Rattle.machine.specs.Machine as stack
use Rattle.machine.specs.Runs as calls
use Rattle.machine.specs.Runs.{Run, at_step, ended, run, standing, stepped}
use Rattle.machine.specs.Steps.{halts, step}
use Rattle.machine.proofs.Advancing.{ended_steps, stepped_to}
use Rattle.translator.specs.Generator.{Entry}
use Rattle.translator.specs.Translation.{laid_out}
use Rattle.translator.specs.Simulation.{spread}
use Rattle.translator.specs.Compiled.{Stands}
use Rattle.translator.specs.Agreement.{Valid, Setting, Agrees, moves, faults, MachineAgreesAt, at_halt, at_mark}
use Rattle.translator.specs.Promise.{text_fault}
use Rattle.translator.proofs.MachineSteps.{machine_law}
use Rattle.translator.proofs.Telling.{Told, of_end, of_fault, of_going}

module _ {V : Type 0} (kind : Kind V) (c : List Entry) (names : Names) (label_at table_at : List ℕ → ℕ) (halt_at v m : ℕ) (outer : List ℕ → Bool) (root : Statement)
    (sizes : Sizes) (start : statements.State V) where
  -- A run of this code.
  abbrev pub run_at : ℕ → ℕ → Option Fault → stack.Memory V → Run V
  run_at place count fault memory = record { progress = record { code = laid_out sizes c; place = place; count = count; fault = fault }; memory = memory }

  -- A fault in the step at a place is the statement machine's.
  abbrev pub FaultKnown : ℕ → statements.Next V → Option Fault → Type 0
  FaultKnown place n None = Unit {0}
  FaultKnown place n (Some f) = n ≡ statements.faults (text_fault f (get_or (laid_out sizes c).operands place 0))

  -- The run r of the code is beside the text's run from the start.
  pub record Beside (r : Run V) : Type 0 where
    pub place : ℕ
    pub count : ℕ
    pub fault : Option Fault
    pub memory : statements.Memory V
    pub position : Position
    pub hidden : List V
    pub unposted : List V
    pub is : r ≡ run_at place count fault (spread memory hidden unposted)
    pub steps : Steps kind names (Some root) start count (statements.state memory position)
    pub valid : Valid v m memory hidden unposted
    pub stands : Stands kind c names label_at table_at halt_at v m outer (memory.cells ++ hidden) place position
    pub known : FaultKnown place (statements.step_at kind names (Some root) memory position) fault

  -- Where a step agrees, the statement machine is not at its end.
  not_end : (M : stack.Memory V) (p : ℕ) (n : statements.Next V) (o : stack.ResultOf V) → Agrees kind c names label_at table_at halt_at v m outer M p n o
      → n ≡ statements.at_end → ⊥
  not_end M p n o (moves at hidden unposted g valid stands) e = let z : ◌≡◌ {A = ℕ} 0 1 = cc in omega arith
  not_end M p n o (faults number roll_place g) e = let z : ◌≡◌ {A = ℕ} 0 1 = cc in omega arith

  module _ (setting : Setting kind c names label_at table_at halt_at v m outer root) (w : WellFormed (laid_out sizes c)) (wide : sizes.cells ≡ m) where
    module _ (place count : ℕ) (memory : statements.Memory V) (position : Position) (hidden unposted : List V)
        (made : Steps kind names (Some root) start count (statements.state memory position)) (valid : Valid v m memory hidden unposted)
        (stands : Stands kind c names label_at table_at halt_at v m outer (memory.cells ++ hidden) place position) where
      abbrev here : Run V
      here = run_at place count None (spread memory hidden unposted)

      abbrev next_of : statements.Next V
      next_of = statements.step_at kind names (Some root) memory position

      -- A step that agrees leads both on, or is the fault of both.
      agreeing_stays_beside : (n : statements.Next V) → next_of ≡ n → (p : ℕ) → get_or (laid_out sizes c).operands place 0 ≡ p → ended here.progress ≡ false
          → (o : stack.ResultOf V) → step kind (laid_out sizes c) (at_step here) ≡ o
          → Agrees kind c names label_at table_at halt_at v m outer (spread memory hidden unposted) p n o → Beside (stepped kind here)
      agreeing_stays_beside n e p q going o s (moves {memory = memory'} {position = position'} at hidden' unposted' g valid' stands') =
          let one_more : suc count ≡ count + 1 = omega arith in
          subst Beside (sym (stepped_to kind here _ going (s ∙ g)))
          (record {
            place = at;
            count = count + 1;
            fault = None;
            memory = memory';
            position = position';
            hidden = hidden';
            unposted = unposted';
            is = refl;
            steps = subst (λ (k : ℕ). Steps kind names (Some root) start k (statements.state memory' position')) one_more (and_step made e);
            valid = valid';
            stands = stands';
            known = tt;
          })
      agreeing_stays_beside n e p q going o s (faults number roll_place g) =
          subst Beside (sym (stepped_to kind here _ going (s ∙ g)))
          (record {
            place = place;
            count = count;
            fault = Some (record { number = number; roll_place = roll_place });
            memory = memory;
            position = position;
            hidden = hidden;
            unposted = unposted;
            is = refl;
            steps = made;
            valid = valid;
            stands = stands;
            known = e ∙ ap (λ k. statements.faults (text_fault (record { number = number; roll_place = roll_place }) k)) (sym q);
          })

      -- A run that has not ended is at a MARK, from where the step agrees.
      going_stays_beside : (n : statements.Next V) → next_of ≡ n → ended here.progress ≡ false
          → MachineAgreesAt kind c names label_at table_at halt_at v m outer sizes (spread memory hidden unposted) place n → Beside (stepped kind here)
      going_stays_beside n e going (at_halt h) = absurd (false≢true (sym going ∙ ap halts h))
      going_stays_beside n e going (at_mark p h q a) = agreeing_stays_beside n e p q going (step kind (laid_out sizes c) (at_step here)) refl a

      -- A step of a run without a fault; at the end there is none.
      faultless_stays_beside : (b : Bool) → ended here.progress ≡ b → Beside (stepped kind here)
      faultless_stays_beside true e =
          subst Beside (sym (ended_steps kind here e))
          (record { place = place; count = count; fault = None; memory = memory; position = position; hidden = hidden; unposted = unposted; is = refl; steps = made; valid = valid; stands = stands; known = tt })
      faultless_stays_beside false e =
          going_stays_beside next_of refl e (machine_law kind c names label_at table_at halt_at v m outer root setting sizes w wide position memory hidden unposted place valid stands)

      -- What status tells is so of the statement machine.
      told_without_fault : (n : statements.Next V) → next_of ≡ n → MachineAgreesAt kind c names label_at table_at halt_at v m outer sizes (spread memory hidden unposted) place n
          → Told (standing here.progress None) next_of
      told_without_fault n e (at_halt h) = of_end (ap (λ b. cond b calls.at_end calls.goes_on) (ap halts h)) e
      told_without_fault n e (at_mark p h q a) =
          of_going (ap (λ b. cond b calls.at_end calls.goes_on) (ap halts h))
          (λ z. not_end (spread memory hidden unposted) p n (step kind (laid_out sizes c) (at_step here)) a (sym e ∙ z))

      pub told_at : (fault : Option Fault) → FaultKnown place next_of fault → Told (standing (run_at place count fault (spread memory hidden unposted)).progress fault) next_of
      told_at None known =
          told_without_fault next_of refl (machine_law kind c names label_at table_at halt_at v m outer root setting sizes w wide position memory hidden unposted place valid stands)
      told_at (Some f) known = of_fault f (get_or (laid_out sizes c).operands place 0) refl known

    -- A step keeps the two runs beside each other; after a fault there is none.
    stepped_stays_beside : (r : Run V) (b : Beside r) (o : Option Fault) → b.fault ≡ o → Beside (stepped kind r)
    stepped_stays_beside r b None e =
        let same : r ≡ run_at b.place b.count None (spread b.memory b.hidden b.unposted) = b.is ∙ ap (λ o. run_at b.place b.count o (spread b.memory b.hidden b.unposted)) e in
        let here = run_at b.place b.count None (spread b.memory b.hidden b.unposted) in
        subst (λ (s : Run V). Beside (stepped kind s)) (sym same)
        (faultless_stays_beside b.place b.count b.memory b.position b.hidden b.unposted b.steps b.valid b.stands (ended here.progress) refl)
    stepped_stays_beside r b (Some f) e =
        let same : r ≡ run_at b.place b.count (Some f) (spread b.memory b.hidden b.unposted) = b.is ∙ ap (λ o. run_at b.place b.count o (spread b.memory b.hidden b.unposted)) e in
        subst Beside (sym (ended_steps kind r (ap (λ s. ended s.progress) same))) b

    -- So do any number of steps.
    pub runs_beside : (n : ℕ) (r : Run V) → Beside r → Beside (run kind n r)
    unfolding run
    runs_beside zero r b = b
    runs_beside (suc n) r b = runs_beside n (stepped kind r) (stepped_stays_beside r b b.fault refl)
