-- Where a state stands, and what the inner functions keep of what the caller lends. Nobody has to believe this file.
use Rattle.std.specs.Prelude.{◌≡◌, ℕ, length}
use Rattle.code.specs.Codes.{Code}
use Rattle.machine.specs.declared.operands.OperandStack.{OperandStack}
use Rattle.machine.specs.declared.state.State.{State}
use Rattle.machine.specs.Fits.{Ends, Fits, Follows}

-- The state works on the same cells, the same book and the same roll.
pub record SameLoans {R F : Type 0} (r s : State R F) : Type 0 where
  pub cells : s.cells.ghost_name ≡ r.cells.ghost_name
  pub book : s.book.ghost_name ≡ r.book.ghost_name
  pub roll : s.roll.ghost_name ≡ r.roll.ghost_name

-- The state stands where the check of the code counted the stack's figures, over all cells and room enough on the stack.
abbrev pub Stands : {R F : Type 0} → Code → OperandStack F → State R F → Type 0
Stands c stack s = Fits c s.place stack.depth (length s.cells.now) (length stack.figures.now)

-- The same after an operation at a place.
abbrev pub GoesOn : {R F : Type 0} → Code → ℕ → OperandStack F → State R F → Type 0
GoesOn c from stack s = Follows c from s.place stack.depth (length s.cells.now) (length stack.figures.now)

-- The same where a step has ended.
abbrev pub StandsAtEnd : {R F : Type 0} → Code → OperandStack F → State R F → Type 0
StandsAtEnd c stack s = Ends c s.place stack.depth (length s.cells.now) (length stack.figures.now)
