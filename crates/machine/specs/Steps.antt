-- A step: from a MARK to the next MARK or HALT. Jumps within a step go forward, so a step takes at most as many operations
-- as the code has; an operation that faults ends it, and those before it in the step stand.
use Rattle.std.specs.Prelude.{ℕ, zero, suc, ◌+◌, Bool, true, false, length, Some, None, Option, slice_index}
use Rattle.figures.specs.Kinds.{Kind}
use Rattle.code.specs.Codes.{Code, operation_at}
use Rattle.code.specs.Operations.{role}
use Rattle.code.specs.declared.operations.Operation.{Operation}
use Rattle.code.specs.declared.operations.Role.{Role}
use Rattle.code.specs.declared.operations.Role.TheVariants.{End, Step, Label, Goto, Branch, Switch, JumpTable, Straight}
use Rattle.machine.specs.Instructions.{instruction}
use Rattle.machine.specs.Machine.{State, ResultOf, goes, faults, misses, operation, end, effect, settled}

-- A step ends before a MARK or a HALT, and a run at a HALT.
abbrev pub role_ends : Role → Bool
role_ends End = true
role_ends Step = true
role_ends Label = false
role_ends Goto = false
role_ends Branch = false
role_ends Switch = false
role_ends JumpTable = false
role_ends Straight = false

abbrev role_halts : Role → Bool
role_halts End = true
role_halts Step = false
role_halts Label = false
role_halts Goto = false
role_halts Branch = false
role_halts Switch = false
role_halts JumpTable = false
role_halts Straight = false

abbrev pub ends_step : Operation → Bool
ends_step o = role_ends (role o)

abbrev pub ends_step_at : Option Operation → Bool
ends_step_at None = false
ends_step_at (Some o) = ends_step o

abbrev pub halts : Option Operation → Bool
halts None = false
halts (Some o) = role_halts (role o)

module _ {V : Type 0} (kind : Kind V) (c : Code) where
  -- The operation at the state's place, with its operand.
  abbrev pub perform : State V → Option Operation → ResultOf V
  perform s None = misses operation
  perform s (Some o) = settled kind c s (effect kind c s (instruction o) (slice_index c.operands s.place))

  unfoldable pub performed : State V → ResultOf V
  performed s = perform s (operation_at c.operations s.place)

  -- Where a step has ended it stays; else it goes on from what came of an operation.
  abbrev pub onward : State V → ResultOf V → (State V → ResultOf V) → Bool → ResultOf V
  onward s r next true = goes s
  onward s (goes t) next false = next t
  onward s (faults f m) next false = faults f m
  onward s (misses l) next false = misses l

  -- Operations until the step ends, at most k.
  unfoldable pub run_to_end : ℕ → State V → ResultOf V
  run_to_end zero s = misses end
  run_to_end (suc k) s = onward s (performed s) (λ t. run_to_end k t) (ends_step_at (operation_at c.operations s.place))

  -- The step from a MARK.
  abbrev pub step : State V → ResultOf V
  step s = run_to_end (length c.operations) (record { place = s.place + 1; stack = s.stack; memory = s.memory })
