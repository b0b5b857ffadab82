-- The run within a step as a recursion on the code that is left to run, which no fuel bounds: an operation goes on to the
-- next one, or jumps, further on by passing over operations, or back to where a step ends. Nobody has to believe this file:
-- it is tied to the machine's own definition.
use Rattle.std.specs.Prelude.{ℕ, zero, suc, ◌+◌, ◌-◌, cond, ◌&&◌, List, [], ◌∷◌, map, ℤ, pos, negsuc, None, nat_le, nat_lt}
use Rattle.std.specs.List.{slice_get}
use Rattle.figures.specs.Kinds.{Kind, Outcome, value, refused, is_zero}
use Rattle.machine.specs.declared.instruction.Instruction.{Instruction}
use Rattle.machine.specs.declared.instruction.Instruction.TheVariants.{Halt, Pass, Calculate, Transfer, Go, Take, Post}
use Rattle.machine.specs.declared.instruction.Branch.TheVariants.{Always, IfFalse, ByTable}
use Rattle.machine.specs.Instructions.{instruction}
use Rattle.machine.specs.Machine.{operation, Attempt, gives, fails, lacks, ◌>>=◌, one, rows_at, calculated, transferred, taken_into, posted_in, Memory, State, ResultOf, goes, faults, misses, with_cells, with_taken, with_posted}
use Rattle.machine.specs.Steps.{ends_step}
use Rattle.translator.specs.Generator.{Entry}

-- Where an operation leads, with the stack and the memory after it: on to the next one, or to a place.
pub data Move (V : Type 0) : Type 0 where
  on : List V → Memory V → Move V
  to : ℕ → List V → Memory V → Move V

abbrev pub state : {V : Type 0} → ℕ → List V → Memory V → State V
state pc vs m = record { place = pc; stack = vs; memory = m }

-- The row of the table at p with k rows that a number names.
abbrev pub by_row : {V : Type 0} → ℕ → ℕ → ℤ → List V → Memory V → Move V
by_row p k (pos n) vs m = cond (nat_le 1 n && nat_le n k) (to (p + n) vs m) (on vs m)
by_row p k (negsuc n) vs m = on vs m

-- What comes of a move from pc: `next j` goes on past the next j operations. A fault leaves the memory.
abbrev pub carried : {V : Type 0} → (ℕ → List V → Memory V → ResultOf V) → ℕ → Memory V → Attempt (Move V) → ResultOf V
carried next pc m (gives (on vs n)) = next 0 vs n
carried next pc m (gives (to p vs n)) = cond (nat_lt pc p) (next (p - suc pc) vs n) (goes (state p vs n))
carried next pc m (fails f) = faults f m
carried next pc m (lacks l) = misses l

-- What follows what was worked out; a fault leaves the memory.
abbrev pub follow : {V A : Type 0} → Memory V → Outcome A → (A → ResultOf V) → ResultOf V
follow m (value x) f = f x
follow m (refused n) f = faults (record { number = n; roll_place = None }) m

module _ {V : Type 0} (kind : Kind V) (c : List Entry) where
  abbrev pub moved : Instruction → ℕ → List V → Memory V → Attempt (Move V)
  moved Halt x vs m = lacks operation
  moved Pass x vs m = gives (on vs m)
  moved (Calculate f) x vs m = calculated kind f x vs >>= λ ws. gives (on ws m)
  moved (Transfer f) x vs m = transferred kind f x vs m.cells >>= λ p. gives (on p.0 (with_cells m p.1))
  moved (Go Always) x vs m = gives (to x vs m)
  moved (Go IfFalse) x vs m = one vs (λ v ws. gives (cond (is_zero kind v) (to x ws m) (on ws m)))
  moved (Go ByTable) x vs m = one vs (λ v ws. rows_at (slice_get (map (λ e. e.operand) c) x) >>= λ k. gives (by_row x k (kind.nearest v) ws m))
  moved (Take rounded) x vs m =
      one vs (λ i ws. taken_into kind rounded x i m.cells m.roll >>= λ p. gives (on ws (with_taken m p.0 p.1)))
  moved Post x vs m = one vs (λ v ws. posted_in m.book m.posted v >>= λ book. gives (on ws (with_posted m book)))

  -- What the operations from place pc on come to, past the first j: the next MARK or HALT, or a fault.
  abbrev pub runs : ℕ → ℕ → List Entry → List V → Memory V → ResultOf V
  runs pc j [] vs m = misses operation
  runs pc (suc j) (e ∷ r) vs m = runs (suc pc) j r vs m
  runs pc zero (e ∷ r) vs m =
      cond (ends_step e.operation) (goes (state pc vs m))
      (carried (λ j ws n. runs (suc pc) j r ws n) pc m (moved (instruction e.operation) e.operand vs m))
