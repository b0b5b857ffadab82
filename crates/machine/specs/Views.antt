-- What the machine's answers and arrays are to its definition.
use Rattle.std.specs.Prelude.{ℕ, List, map, reverse, take, Ok, Err, Result}
use Rattle.rolls.specs.Contents.{Contents}
use Rattle.machine.specs.declared.fault.RunFault.{RunFault}
use Rattle.machine.specs.declared.operands.OperandStack.{OperandStack}
use Rattle.machine.specs.declared.state.State.{State as Held}
use Rattle.machine.specs.Faults.{fault_of}
use Rattle.machine.specs.Machine.{Attempt, gives, fails, Memory, State, ResultOf, goes, faults}

-- The values of a roll's figures.
abbrev pub valued : {F V : Type 0} → (F → V) → Contents F → Contents V
valued means c = record { figures = map means c.figures; ending = c.ending }

-- The operand stack: the first d figures of its array, top first.
abbrev pub operands : {F V : Type 0} → (F → V) → ℕ → List F → List V
operands means d xs = map means (reverse (take d xs))

abbrev pub memory : {F V : Type 0} → (F → V) → ℕ → List F → List F → Contents F → Memory V
memory means posted cells book roll = record { cells = map means cells; book = map means book; posted = posted; roll = valued means roll }

-- The figures on an operand stack, top first.
abbrev pub laid : {F V : Type 0} → (F → V) → OperandStack F → List V
laid means s = operands means s.depth s.figures.now

-- The definition's state, by the machine's state and stack.
abbrev pub state : {R F V : Type 0} → (F → V) → (R → Contents F) → OperandStack F → Held R F → State V
state means holds stack s = record {
  place = s.place;
  stack = laid means stack;
  memory = memory means s.posted s.cells.now s.book.now (holds s.roll.now);
}

-- What an answer says, by what is found afterwards.
abbrev pub attempt : {X Y : Type 0} → Result X RunFault → (X → Y) → Attempt Y
attempt (Ok x) f = gives (f x)
attempt (Err e) f = fails (fault_of e)

abbrev pub result : {X V : Type 0} → Result X RunFault → State V → ResultOf V
result (Ok x) after = goes after
result (Err e) after = faults (fault_of e) after.memory
