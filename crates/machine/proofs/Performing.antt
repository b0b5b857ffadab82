-- What an operation comes to, once what its work gives is known, and where control goes from a jump.
use Rattle.std.proofs.Common.{◌≡◌, ℕ, ◌+◌, ◌-◌, ◌≤◌, Bool, true, false, cond, ◌&&◌, leb, List, [], ◌∷◌, length, get_or, ℤ, pos, negsuc, Some, sym, refl, ap, ◌∙◌, subst, ap₂, arith}
use Rattle.std.proofs.lemmas.Option.{slice_get-get_or}
use Rattle.std.proofs.lemmas.Bool.{le-leb, leb-true, and_parts}
use Rattle.figures.specs.Kinds.{Kind, is_zero}
use Rattle.rolls.specs.Contents.{Contents}
use Rattle.code.specs.declared.operations.Operation.{Operation}
use Rattle.code.specs.declared.operations.Operation.TheVariants as op
use Rattle.code.specs.Codes.{Code, operation_at}
use Rattle.code.specs.WellFormed.{WellFormed}
use Rattle.machine.specs.declared.instruction.Instruction.{Instruction}
use Rattle.machine.specs.declared.instruction.Instruction.TheVariants.{Pass, Calculate, Transfer, Go, Take, Post}
use Rattle.machine.specs.declared.instruction.Calculation.{Calculation}
use Rattle.machine.specs.declared.instruction.Transfer as transfers
use Rattle.machine.specs.declared.instruction.Branch.{Branch}
use Rattle.machine.specs.declared.instruction.Branch.TheVariants.{Always, IfFalse, ByTable}
use Rattle.machine.specs.Faults.{Fault}
use Rattle.machine.specs.Fits.{Fits, Follows, BranchOperand, branch_takes}
use Rattle.machine.specs.Instructions.{instruction}
use Rattle.machine.specs.Machine.{Attempt, gives, fails, lacks, Lack, figure, ◌>>=◌, one, calculated, transferred, gone, row, rows_at, taken_into, posted_in, Memory, State, goes, faults, with_cells, with_taken, with_posted, effect, settled}
use Rattle.machine.specs.Steps.{perform, performed}
use Rattle.code.proofs.Targets.{stands_to_inside}
use Rattle.machine.proofs.Facts.{Facts, follows_on, follows_jump, follows_row, operands_as_long, rows_within}

module _ {V : Type 0} (kind : Kind V) (c : Code) (s : State V) where
  pub performed_as : (o : Operation) (f : Instruction) (x : ℕ) → operation_at c.operations s.place ≡ Some o → f ≡ instruction o → x ≡ get_or c.operands s.place 0 → performed kind c s ≡ settled kind c s (effect kind c s f x)
  unfolding performed
  performed_as o f x e p q = ap (perform kind c s) e ∙ ap₂ (λ g y. settled kind c s (effect kind c s g y)) (sym p) (sym q)

  pub settled_goes : (a : Attempt (State V)) (t : State V) → a ≡ gives t → length t.stack ≤ c.sizes.depth → settled kind c s a ≡ goes t
  settled_goes a t e l = let b = le-leb (length t.stack) c.sizes.depth l in ap (settled kind c s) e ∙ rw b

  pub settled_fails : (a : Attempt (State V)) (f : Fault) → a ≡ fails f → settled kind c s a ≡ faults f s.memory
  settled_fails a f e = ap (settled kind c s) e

  abbrev to : ℕ → List V → Memory V → State V
  to p vs m = record { place = p; stack = vs; memory = m }

  -- What each form comes to, by the work that it does.
  module _ (o : Operation) (x : ℕ) (there : operation_at c.operations s.place ≡ Some o) (named : x ≡ get_or c.operands s.place 0) where
    pub pass_goes : Pass ≡ instruction o → length s.stack ≤ c.sizes.depth → performed kind c s ≡ goes (to (s.place + 1) s.stack s.memory)
    pass_goes is l =
        performed_as o Pass x there is named
        ∙ settled_goes (effect kind c s Pass x) (to (s.place + 1) s.stack s.memory) refl l

    module _ (f : Calculation) (is : Calculate f ≡ instruction o) where
      pub calculate_goes : (vs : List V) → gives vs ≡ calculated kind f x s.stack → length vs ≤ c.sizes.depth → performed kind c s ≡ goes (to (s.place + 1) vs s.memory)
      calculate_goes vs e l =
          performed_as o (Calculate f) x there is named
          ∙ settled_goes (effect kind c s (Calculate f) x) (to (s.place + 1) vs s.memory) (ap (λ a. a >>= λ vs. gives (to (s.place + 1) vs s.memory)) (sym e)) l

      pub calculate_fails : (k : Fault) → fails k ≡ calculated kind f x s.stack → performed kind c s ≡ faults k s.memory
      calculate_fails k e =
          performed_as o (Calculate f) x there is named
          ∙ settled_fails (effect kind c s (Calculate f) x) k (ap (λ a. a >>= λ vs. gives (to (s.place + 1) vs s.memory)) (sym e))

    module _ (f : transfers.Transfer) (is : Transfer f ≡ instruction o) where
      pub transfer_goes : (vs cells : List V) → gives (vs, cells) ≡ transferred kind f x s.stack s.memory.cells → length vs ≤ c.sizes.depth → performed kind c s ≡ goes (to (s.place + 1) vs (with_cells s.memory cells))
      transfer_goes vs cells e l =
          performed_as o (Transfer f) x there is named
          ∙ settled_goes (effect kind c s (Transfer f) x) (to (s.place + 1) vs (with_cells s.memory cells)) (ap (λ a. a >>= λ p. gives (to (s.place + 1) p.0 (with_cells s.memory p.1))) (sym e)) l

      pub transfer_fails : (k : Fault) → fails k ≡ transferred kind f x s.stack s.memory.cells → performed kind c s ≡ faults k s.memory
      transfer_fails k e =
          performed_as o (Transfer f) x there is named
          ∙ settled_fails (effect kind c s (Transfer f) x) k (ap (λ a. a >>= λ p. gives (to (s.place + 1) p.0 (with_cells s.memory p.1))) (sym e))

    pub go_goes : (f : Branch) → Go f ≡ instruction o → (p : ℕ) (vs : List V) → gone kind c.operands f x s.place s.stack ≡ gives (p, vs) → length vs ≤ c.sizes.depth → performed kind c s ≡ goes (to p vs s.memory)
    go_goes f is p vs e l =
        performed_as o (Go f) x there is named
        ∙ settled_goes (effect kind c s (Go f) x) (to p vs s.memory) (ap (λ a. a >>= λ p. gives (to p.0 p.1 s.memory)) e) l

    module _ (r : Bool) (is : Take r ≡ instruction o) (i : V) (vs : List V) (top : s.stack ≡ i ∷ vs) where
      take_effect : (a : Attempt (List V × Contents V)) → a ≡ taken_into kind r x i s.memory.cells s.memory.roll → effect kind c s (Take r) x ≡ (a >>= λ p. gives (to (s.place + 1) vs (with_taken s.memory p.0 p.1)))
      take_effect a e =
          ap (λ ws. one ws (λ i vs. taken_into kind r x i s.memory.cells s.memory.roll >>= λ p. gives (to (s.place + 1) vs (with_taken s.memory p.0 p.1)))) top
          ∙ ap (λ a. a >>= λ p. gives (to (s.place + 1) vs (with_taken s.memory p.0 p.1))) (sym e)

      pub take_goes : (cells : List V) (roll : Contents V) → gives (cells, roll) ≡ taken_into kind r x i s.memory.cells s.memory.roll → length vs ≤ c.sizes.depth → performed kind c s ≡ goes (to (s.place + 1) vs (with_taken s.memory cells roll))
      take_goes cells roll e l =
          performed_as o (Take r) x there is named
          ∙ settled_goes (effect kind c s (Take r) x) (to (s.place + 1) vs (with_taken s.memory cells roll)) (take_effect (gives (cells, roll)) e) l

      pub take_fails : (k : Fault) → fails k ≡ taken_into kind r x i s.memory.cells s.memory.roll → performed kind c s ≡ faults k s.memory
      take_fails k e = performed_as o (Take r) x there is named ∙ settled_fails (effect kind c s (Take r) x) k (take_effect (fails k) e)

    module _ (is : Post ≡ instruction o) (v : V) (vs : List V) (top : s.stack ≡ v ∷ vs) where
      post_effect : (a : Attempt (List V)) → a ≡ posted_in s.memory.book s.memory.posted v → effect kind c s Post x ≡ (a >>= λ book. gives (to (s.place + 1) vs (with_posted s.memory book)))
      post_effect a e =
          ap (λ ws. one ws (λ v vs. posted_in s.memory.book s.memory.posted v >>= λ book. gives (to (s.place + 1) vs (with_posted s.memory book)))) top
          ∙ ap (λ a. a >>= λ book. gives (to (s.place + 1) vs (with_posted s.memory book))) (sym e)

      pub post_goes : (book : List V) → gives book ≡ posted_in s.memory.book s.memory.posted v → length vs ≤ c.sizes.depth → performed kind c s ≡ goes (to (s.place + 1) vs (with_posted s.memory book))
      post_goes book e l =
          performed_as o Post x there is named
          ∙ settled_goes (effect kind c s Post x) (to (s.place + 1) vs (with_posted s.memory book)) (post_effect (gives book) e) l

      pub post_fails : (k : Fault) → fails k ≡ posted_in s.memory.book s.memory.posted v → performed kind c s ≡ faults k s.memory
      post_fails k e = performed_as o Post x there is named ∙ settled_fails (effect kind c s Post x) k (post_effect (fails k) e)

-- Where control goes from a jump: to the next place, or to where it lands.
abbrev place_in : {V : Type 0} → Attempt (ℕ × List V) → ℕ
place_in (gives p) = p.0
place_in (fails f) = 0
place_in (lacks l) = 0

nowhere : {V A : Type 0} (l : Lack) (p : ℕ × List V) → lacks l ≡ gives p → A
nowhere l p e = let z : ◌≡◌ {A = ℕ} 0 1 = cc in absurd (omega arith)

module _ {V : Type 0} (kind : Kind V) (c : Code) (w : WellFormed c) {i d cells stack : ℕ} (fits : Fits c i d cells stack) where
  -- There are figures enough for a jump, and its operand names what it has to.
  pub branch_low : (f : Branch) (x : ℕ) → Facts c i (Go f) x → branch_takes f ≤ d
  branch_low Always x h = omega arith
  branch_low IfFalse x h = let a = h.0.enough in let deep = fits.deep in omega arith
  branch_low ByTable x h = let a = h.0.enough in let deep = fits.deep in omega arith

  pub branch_names : (f : Branch) (x : ℕ) → Facts c i (Go f) x → BranchOperand f (length c.operands) (get_or c.operands x 0) x
  branch_names Always x h = tt
  branch_names IfFalse x h = tt
  branch_names ByTable x h = rows_within c w x (get_or c.operands x 0) refl h.2

  same_place : {x p e : ℕ} → Follows c i x e cells stack → x ≡ p → Follows c i p e cells stack
  same_place {e = e} f q = subst (λ (p : ℕ). Follows c i p e cells stack) q f

  pub follows_branch : (f : Branch) (x : ℕ) → Facts c i (Go f) x → (vs ws : List V) (p e : ℕ) → gone kind c.operands f x i vs ≡ gives (p, ws) → e ≡ d - branch_takes f → Follows c i p e cells stack
  follows_branch Always x h vs ws p e g q =
      let k = h.1 in
      let deep = fits.deep in
      same_place (follows_jump c w fits x h.0 e (omega arith)) (ap place_in g)
  follows_branch IfFalse x h [] ws p e g q = nowhere figure (p, ws) g
  follows_branch IfFalse x h (v ∷ vs) ws p e g q = by_test (is_zero kind v) (ap place_in g)
    where
      by_test : (b : Bool) → cond b x (i + 1) ≡ p → Follows c i p e cells stack
      by_test true at =
          let z = h.2 in
          let a = h.0.after in
          let deep = fits.deep in
          same_place (follows_jump c w fits x h.1 e (omega arith)) at
      by_test false at = same_place (follows_on c w fits h.0 e (omega arith)) at
  follows_branch ByTable x h [] ws p e g q = nowhere figure (p, ws) g
  follows_branch ByTable x h (v ∷ vs) ws p e g q =
      let inside = stands_to_inside c.operations x op.Rows h.2 in
      let long = operands_as_long c w in
      let rows = slice_get-get_or c.operands x 0 (omega arith) in
      let there = sym (ap (λ o. (rows_at o >>= λ k. gives (row x k (i + 1) (kind.nearest v))) >>= λ q. gives (q, vs)) rows) ∙ g in
      by_number (kind.nearest v) (ap place_in there)
    where
      on : i + 1 ≡ p → Follows c i p e cells stack
      on at = same_place (follows_on c w fits h.0 e (omega arith)) at

      by_test : (n : ℕ) (b : Bool) → (leb 1 n && leb n (get_or c.operands x 0)) ≡ b → cond b (x + n) (i + 1) ≡ p → Follows c i p e cells stack
      by_test n true t at =
          let z = h.3 in
          let a = h.0.after in
          let deep = fits.deep in
          let both = and_parts (leb 1 n) (leb n (get_or c.operands x 0)) t in
          same_place (follows_row c w fits x n (get_or c.operands x 0) refl h.1 h.2 (leb-true 1 n both.0) (leb-true n (get_or c.operands x 0) both.1) e (omega arith)) at
      by_test n false t at = on at

      by_number : (n : ℤ) → row x (get_or c.operands x 0) (i + 1) n ≡ p → Follows c i p e cells stack
      by_number (pos n) at = by_test n (leb 1 n && leb n (get_or c.operands x 0)) refl at
      by_number (negsuc n) at = on at
