-- The run within a step, as a recursion on the code, is the stack machine's own step, in code that passes the check.
use Rattle.std.proofs.Common.{◌≡◌, ℕ, zero, suc, ◌+◌, ◌<◌, Bool, true, false, cond, ◌&&◌, leb, ◌⊎◌, List, [], ◌∷◌, map, length, get_or, drop, ℤ, pos, negsuc, Some, None, Option, sym, refl, ap, ◌∙◌, subst, inl, inr, arith}
use Rattle.std.specs.List.{slice_get}
use Rattle.figures.specs.Kinds.{Kind, is_zero}
use Rattle.code.specs.declared.operations.Operation.TheVariants.{Mark}
use Rattle.code.specs.declared.sizes.Sizes.{Sizes}
use Rattle.code.specs.Operations.{number}
use Rattle.code.specs.Codes.{Code, operation_at}
use Rattle.code.specs.WellFormed.{Lands, on_mark, on_later_here, on_later_halt, WellFormed}
use Rattle.machine.specs.declared.instruction.Instruction.{Instruction}
use Rattle.machine.specs.declared.instruction.Instruction.TheVariants.{Halt, Pass, Calculate, Transfer, Go, Take, Post}
use Rattle.machine.specs.declared.instruction.Branch.TheVariants.{Always, IfFalse, ByTable}
use Rattle.machine.specs.Instructions.{instruction}
use Rattle.machine.specs.Machine.{Attempt, gives, fails, lacks, ◌>>=◌, row, rows_at, calculated, transferred, taken_into, posted_in, Memory, State, ResultOf, goes, faults, misses, room, with_cells, with_taken, with_posted, effect, settled}
use Rattle.machine.specs.Steps.{ends_step, ends_step_at, performed, perform, run_to_end, onward as goes_on}
use Rattle.code.proofs.Targets.{stands_to_inside}
use Rattle.machine.proofs.Facts.{Facts, facts_at, operation_number}
use Rattle.machine.proofs.Performing.{performed_as}
use Rattle.machine.proofs.Soundness.{Completes, step_completes}
use Rattle.machine.proofs.Standing.{inside_ends_to_stands}
use Rattle.translator.specs.Generator.{Entry, entry}
use Rattle.translator.specs.Translation.{laid_out}
use Rattle.translator.specs.Running.{Move, on, to, state, by_row, carried, moved, runs}
use Rattle.translator.specs.Simulation.{StepsAreRuns}
use Rattle.translator.proofs.Behind.{further}
use Rattle.translator.proofs.Expressions.{onward}
use Rattle.translator.proofs.Resuming.{Rests, at_mark, rests, jump_on, jump_rests}

abbrev operations_of : List Entry → List ℕ
operations_of c = map (λ e. number e.operation) c

-- What the machine finds at a place of the code: the entry's operation and operand, and nothing past the end.
pub operation_there : (p : ℕ) (c : List Entry) (e : Entry) (r : List Entry) → drop p c ≡ e ∷ r → operation_at (operations_of c) p ≡ Some e.operation
unfolding operation_at
operation_there zero [] e r q = cc
operation_there (suc p) [] e r q = cc
operation_there zero (x ∷ c) e r q = let h : x ≡ e = cc in operation_number x.operation ∙ ap (λ y. Some y.operation) h
operation_there (suc p) (x ∷ c) e r q = operation_there p c e r q

pub operand_read : (p : ℕ) (c : List Entry) (e : Entry) (r : List Entry) → drop p c ≡ e ∷ r → get_or (map (λ x. x.operand) c) p 0 ≡ e.operand
operand_read zero [] e r q = cc
operand_read (suc p) [] e r q = cc
operand_read zero (x ∷ c) e r q = let h : x ≡ e = cc in ap (λ y. y.operand) h
operand_read (suc p) (x ∷ c) e r q = operand_read p c e r q

nothing_there : (p : ℕ) (c : List Entry) → drop p c ≡ [] → operation_at (operations_of c) p ≡ None
unfolding operation_at
nothing_there zero [] q = refl
nothing_there (suc p) [] q = refl
nothing_there zero (x ∷ c) q = cc
nothing_there (suc p) (x ∷ c) q = nothing_there p c q

-- Where the machine finds a MARK, a step ends.
mark_rests : (p : ℕ) (c : List Entry) → operation_at (operations_of c) p ≡ Some Mark → Rests c p
mark_rests p c q = by_entry (drop p c) refl
  where
    by_entry : (l : List Entry) → drop p c ≡ l → Rests c p
    by_entry [] e = let n = nothing_there p c e in let z : ◌≡◌ {A = ℕ} 0 1 = cc in absurd (omega arith)
    by_entry (x ∷ r) e =
        let there = operation_there p c x r e in
        let is : x.operation ≡ Mark = cc in
        let same : x ≡ entry Mark x.operand = λ i. record { operation = is i; operand = x.operand } in
        at_mark x.operand r (e ∙ ap (λ y. y ∷ r) same)

-- A jump leads further on, or to a MARK.
lands_further : (os : List ℕ) (i x : ℕ) → Lands os i x → (i < x) ⊎ (operation_at os x ≡ Some Mark)
lands_further os i x (on_mark e) = inr e
lands_further os i x (on_later_here l e) = inl l
lands_further os i x (on_later_halt l e) = inl l

module _ {V : Type 0} (kind : Kind V) (sizes : Sizes) (c : List Entry) where
  abbrev code : Code
  code = laid_out sizes c

  -- The state that a move from pc leads to.
  abbrev arrived : ℕ → Move V → State V
  arrived pc (on vs m) = state (pc + 1) vs m
  arrived pc (to p vs m) = state p vs m

  abbrev arrives : ℕ → Attempt (Move V) → Attempt (State V)
  arrives pc a = a >>= λ q. gives (arrived pc q)

  through : {X : Type 0} (pc : ℕ) (a : Attempt X) (f : X → Move V) → (a >>= λ x. gives (arrived pc (f x))) ≡ arrives pc (a >>= λ x. gives (f x))
  through pc (gives x) f = refl
  through pc (fails k) f = refl
  through pc (lacks l) f = refl

  -- The machine's operation is the move.
  effect_is : (i : Instruction) (x pc : ℕ) (vs : List V) (m : Memory V) → effect kind code (state pc vs m) i x ≡ arrives pc (moved kind c i x vs m)
  effect_is Halt x pc vs m = refl
  effect_is Pass x pc vs m = refl
  effect_is (Calculate f) x pc vs m = through pc (calculated kind f x vs) (λ ws. on ws m)
  effect_is (Transfer f) x pc vs m = through pc (transferred kind f x vs m.cells) (λ p. on p.0 (with_cells m p.1))
  effect_is (Go Always) x pc vs m = refl
  effect_is (Go IfFalse) x pc [] m = refl
  effect_is (Go IfFalse) x pc (v ∷ vs) m = by_test (is_zero kind v)
    where
      by_test : (b : Bool) → gives (state (cond b x (pc + 1)) vs m) ≡ gives (arrived pc (cond b (to x vs m) (on vs m)))
      by_test true = refl
      by_test false = refl
  effect_is (Go ByTable) x pc [] m = refl
  effect_is (Go ByTable) x pc (v ∷ vs) m = by_rows (slice_get (map (λ e. e.operand) c) x)
    where
      by_test : (n : ℕ) (b : Bool) → gives (state (cond b (x + n) (pc + 1)) vs m) ≡ gives (arrived pc (cond b (to (x + n) vs m) (on vs m)))
      by_test n true = refl
      by_test n false = refl

      by_number : (k : ℕ) (z : ℤ) → gives (state (row x k (pc + 1) z) vs m) ≡ gives (arrived pc (by_row x k z vs m))
      by_number k (pos n) = by_test n (leb 1 n && leb n k)
      by_number k (negsuc n) = refl

      by_rows : (o : Option ℕ)
          → ◌>>=◌ {X = ℕ × List V} ((rows_at o >>= λ k. gives (row x k (pc + 1) (kind.nearest v))) >>= λ p. gives (p, vs)) (λ q. gives (state q.0 q.1 m))
          ≡ arrives pc (rows_at o >>= λ k. gives (by_row x k (kind.nearest v) vs m))
      by_rows None = refl
      by_rows (Some k) = by_number k (kind.nearest v)
  effect_is (Take rounded) x pc [] m = refl
  effect_is (Take rounded) x pc (i ∷ vs) m = through pc (taken_into kind rounded x i m.cells m.roll) (λ p. on vs (with_taken m p.0 p.1))
  effect_is Post x pc [] m = refl
  effect_is Post x pc (v ∷ vs) m = through pc (posted_in m.book m.posted v) (λ book. on vs (with_posted m book))

  -- A move to a place leads further on, or to a MARK.
  module _ (p : ℕ) (ws : List V) (n : Memory V) where
    goes_nowhere : {X : Type 0} (a : Attempt X) (f : X → List V) (g : X → Memory V) → (a >>= λ x. gives (on (f x) (g x))) ≡ gives (to p ws n) → ⊥
    goes_nowhere (gives x) f g e = let z : ◌≡◌ {A = ℕ} 0 1 = cc in omega arith
    goes_nowhere (fails k) f g e = let z : ◌≡◌ {A = ℕ} 0 1 = cc in omega arith
    goes_nowhere (lacks l) f g e = let z : ◌≡◌ {A = ℕ} 0 1 = cc in omega arith

    abbrev Further : ℕ → ℕ → Type 0
    Further pc q = (pc < q) ⊎ (operation_at (operations_of c) q ≡ Some Mark)

    move_leads : (i : Instruction) (x pc : ℕ) (vs : List V) (m : Memory V) → Facts code pc i x → moved kind c i x vs m ≡ gives (to p ws n) → Further pc p
    move_leads Halt x pc vs m h e = let z : ◌≡◌ {A = ℕ} 0 1 = cc in absurd (omega arith)
    move_leads Pass x pc vs m h e = let z : ◌≡◌ {A = ℕ} 0 1 = cc in absurd (omega arith)
    move_leads (Calculate f) x pc vs m h e = absurd (goes_nowhere (calculated kind f x vs) (λ us. us) (λ us. m) e)
    move_leads (Transfer f) x pc vs m h e = absurd (goes_nowhere (transferred kind f x vs m.cells) (λ q. q.0) (λ q. with_cells m q.1) e)
    move_leads (Go Always) x pc vs m h e = let is : x ≡ p = cc in subst (Further pc) is (lands_further (operations_of c) pc x h.0)
    move_leads (Go IfFalse) x pc [] m h e = let z : ◌≡◌ {A = ℕ} 0 1 = cc in absurd (omega arith)
    move_leads (Go IfFalse) x pc (v ∷ vs) m h e = by_test (is_zero kind v) e
      where
        by_test : (b : Bool) → ◌≡◌ {A = Attempt (Move V)} (gives (cond b (to x vs m) (on vs m))) (gives (to p ws n)) → Further pc p
        by_test true e = let is : x ≡ p = cc in subst (Further pc) is (lands_further (operations_of c) pc x h.1)
        by_test false e = let z : ◌≡◌ {A = ℕ} 0 1 = cc in absurd (omega arith)
    move_leads (Go ByTable) x pc [] m h e = let z : ◌≡◌ {A = ℕ} 0 1 = cc in absurd (omega arith)
    move_leads (Go ByTable) x pc (v ∷ vs) m h e = by_rows (slice_get (map (λ e. e.operand) c) x) e
      where
        by_test : (j : ℕ) (b : Bool) → ◌≡◌ {A = Attempt (Move V)} (gives (cond b (to (x + j) vs m) (on vs m))) (gives (to p ws n)) → Further pc p
        by_test j true e = let is : x + j ≡ p = cc in let before = h.1 in inl (omega arith)
        by_test j false e = let z : ◌≡◌ {A = ℕ} 0 1 = cc in absurd (omega arith)

        by_number : (k : ℕ) (z : ℤ) → ◌≡◌ {A = Attempt (Move V)} (gives (by_row x k z vs m)) (gives (to p ws n)) → Further pc p
        by_number k (pos j) e = by_test j (leb 1 j && leb j k) e
        by_number k (negsuc j) e = let z : ◌≡◌ {A = ℕ} 0 1 = cc in absurd (omega arith)

        by_rows : (o : Option ℕ) → (rows_at o >>= λ k. gives (by_row x k (kind.nearest v) vs m)) ≡ gives (to p ws n) → Further pc p
        by_rows None e = let z : ◌≡◌ {A = ℕ} 0 1 = cc in absurd (omega arith)
        by_rows (Some k) e = by_number k (kind.nearest v) e
    move_leads (Take rounded) x pc [] m h e = let z : ◌≡◌ {A = ℕ} 0 1 = cc in absurd (omega arith)
    move_leads (Take rounded) x pc (i ∷ vs) m h e = absurd (goes_nowhere (taken_into kind rounded x i m.cells m.roll) (λ q. vs) (λ q. with_taken m q.0 q.1) e)
    move_leads Post x pc [] m h e = let z : ◌≡◌ {A = ℕ} 0 1 = cc in absurd (omega arith)
    move_leads Post x pc (v ∷ vs) m h e = absurd (goes_nowhere (posted_in m.book m.posted v) (λ q. vs) (λ q. with_posted m q) e)

  -- A result that misses nothing.
  abbrev Whole : ResultOf V → Type 0
  Whole (goes t) = Unit {0}
  Whole (faults f m) = Unit {0}
  Whole (misses l) = ⊥

  module _ (w : WellFormed code) where
    -- One operation, and then at most k more.
    module _ (k pc : ℕ) (vs : List V) (m : Memory V) where
      abbrev s : State V
      s = state pc vs m

      abbrev next : State V → ResultOf V
      next t = run_to_end kind code k t

      abbrev after : Attempt (Move V) → ResultOf V
      after a = goes_on kind code s (settled kind code s (arrives pc a)) next false

      has_room : (t : State V) (b : Bool) → Whole (goes_on kind code s (cond b (goes t) (misses room)) next false)
          → (goes_on kind code s (cond b (goes t) (misses room)) next false ≡ next t) × Whole (next t)
      has_room t true h = (refl, h)
      has_room t false h = absurd h

      module _ (e : Entry) (r : List Entry) (here : drop pc c ≡ e ∷ r) (rest : (q : ℕ) (ws : List V) (n : Memory V) → Whole (next (state q ws n)) → next (state q ws n) ≡ runs kind c q 0 (drop q c) ws n) where
        abbrev move : Attempt (Move V)
        move = moved kind c (instruction e.operation) e.operand vs m

        there : operation_at (operations_of c) pc ≡ Some e.operation
        there = operation_there pc c e r here

        behind : drop (suc pc) c ≡ r
        behind = further c pc 1 (suc pc) _ here (omega arith)

        facts : Facts code pc (instruction e.operation) e.operand
        facts = facts_at code w pc e.operation (instruction e.operation) e.operand there refl (sym (operand_read pc c e r here))

        by_move : (a : Attempt (Move V)) → move ≡ a → Whole (after a) → after a ≡ carried (onward kind c (suc pc) r) pc m a
        by_move (lacks l) is h = refl
        by_move (fails f) is h = refl
        by_move (gives (on ws n)) is h =
            let g = has_room (state (pc + 1) ws n) (leb (length ws) sizes.depth) h in
            let z : pc + 1 ≡ suc pc = omega arith in
            g.0 ∙ rest (pc + 1) ws n g.1 ∙ ap (λ q. runs kind c q 0 (drop q c) ws n) z ∙ ap (λ l. runs kind c (suc pc) 0 l ws n) behind
        by_move (gives (to p ws n)) is h =
            let g = has_room (state p ws n) (leb (length ws) sizes.depth) h in
            g.0 ∙ rest p ws n g.1 ∙ by_place (move_leads p ws n (instruction e.operation) e.operand pc vs m facts is)
          where
            by_place : (pc < p) ⊎ (operation_at (operations_of c) p ≡ Some Mark) → runs kind c p 0 (drop p c) ws n ≡ carried (onward kind c (suc pc) r) pc m (gives (to p ws n))
            by_place (inl lt) = sym (jump_on kind c pc p r ws m n behind lt)
            by_place (inr mark) = rests kind c p (mark_rests p c mark) ws n ∙ sym (jump_rests kind c pc p r ws m n behind (mark_rests p c mark))

        performed_is : performed kind code s ≡ settled kind code s (arrives pc move)
        performed_is =
            performed_as kind code s e.operation (instruction e.operation) e.operand there refl (sym (operand_read pc c e r here))
            ∙ ap (settled kind code s) (effect_is (instruction e.operation) e.operand pc vs m)

        by_end : (b : Bool) → ends_step e.operation ≡ b → Whole (run_to_end kind code (suc k) s)
            → run_to_end kind code (suc k) s ≡ cond b (goes s) (carried (onward kind c (suc pc) r) pc m move)
        unfolding run_to_end
        by_end true is h = ap (goes_on kind code s (performed kind code s) next) (ap ends_step_at there ∙ is)
        by_end false is h =
            let q : run_to_end kind code (suc k) s ≡ after move =
            ap (goes_on kind code s (performed kind code s) next) (ap ends_step_at there ∙ is) ∙ ap (λ x. goes_on kind code s x next false) performed_is in
            q ∙ by_move move refl (subst Whole q h)

      past_end : drop pc c ≡ [] → run_to_end kind code (suc k) s ≡ misses Rattle.machine.specs.Machine.operation
      unfolding run_to_end performed
      past_end e = let n = nothing_there pc c e in ap (λ o. goes_on kind code s (perform kind code s o) next (ends_step_at o)) n

    -- Where the machine's run misses nothing, it is the run on the code.
    run_is_runs : (k pc : ℕ) (vs : List V) (m : Memory V) → Whole (run_to_end kind code k (state pc vs m)) → run_to_end kind code k (state pc vs m) ≡ runs kind c pc 0 (drop pc c) vs m
    unfolding run_to_end
    run_is_runs zero pc vs m h = absurd h
    run_is_runs (suc k) pc vs m h = by_entry (drop pc c) refl (λ q ws n. run_is_runs k q ws n)
      where
        by_entry : (l : List Entry) → drop pc c ≡ l
            → ((q : ℕ) (ws : List V) (n : Memory V) → Whole (run_to_end kind code k (state q ws n)) → run_to_end kind code k (state q ws n) ≡ runs kind c q 0 (drop q c) ws n)
            → run_to_end kind code (suc k) (state pc vs m) ≡ runs kind c pc 0 l vs m
        by_entry [] e rest = past_end k pc vs m e
        by_entry (x ∷ r) e rest = by_end k pc vs m x r e rest (ends_step x.operation) refl h

    completes_whole : (r : ResultOf V) → Completes kind code w r → Whole r
    completes_whole (goes t) h = tt
    completes_whole (faults f m) h = tt
    completes_whole (misses l) h = h

pub steps_are_runs : {V : Type 0} (kind : Kind V) → StepsAreRuns kind
steps_are_runs kind sizes c w a p r M e wide =
    let code = laid_out sizes c in
    let mark = operation_there a c (entry Mark p) r e in
    let stands = inside_ends_to_stands code a (stands_to_inside (operations_of c) a Mark mark) (ap ends_step_at mark) in
    let z : a + 1 ≡ suc a = omega arith in
    run_is_runs kind sizes c w (length (operations_of c)) (a + 1) [] M (completes_whole kind sizes c w _ (step_completes kind code w a M stands mark wide))
    ∙ ap (λ q. runs kind c q 0 (drop q c) [] M) z
    ∙ ap (λ l. runs kind c (suc a) 0 l [] M) (further c a 1 (suc a) _ e (omega arith))
