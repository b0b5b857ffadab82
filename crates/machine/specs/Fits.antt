-- Where a run of checked code may be, as the contracts of the inner functions say it. Nobody has to believe this file.
use Rattle.std.specs.Prelude.{◌≡◌, ℕ, suc, ◌+◌, ◌-◌, ◌^◌, ◌<◌, ◌≤◌, Bool, true, cond, ◌&&◌, ◌⊎◌, length, nat_lt}
use Rattle.code.specs.Codes.{Code, operation_at}
use Rattle.code.specs.Descriptors.{unpacked}
use Rattle.code.specs.WellFormed.{depth_at, NamesCells}
use Rattle.machine.specs.declared.instruction.Calculation.{Calculation}
use Rattle.machine.specs.declared.instruction.Calculation.TheVariants.{Constant, One, Two, Bounds}
use Rattle.machine.specs.declared.instruction.Transfer.{Transfer}
use Rattle.machine.specs.declared.instruction.Transfer.TheVariants.{Load, Store, Get, Put}
use Rattle.machine.specs.declared.instruction.Branch.{Branch}
use Rattle.machine.specs.declared.instruction.Branch.TheVariants.{Always, IfFalse, ByTable}
use Rattle.machine.specs.Steps.{ends_step_at}

-- The run stands before the operation at a place with the figures that the check counted there, over all cells and room
-- enough on the stack.
pub record Fits (c : Code) (place depth cells stack : ℕ) : Type 0 where
  pub inside : place < length c.operations
  pub deep : depth ≡ depth_at c.operations place
  pub wide : cells ≡ c.sizes.cells
  pub tall : c.sizes.depth ≤ stack

-- The same after an operation, which went further on or to where a step ends.
pub record Follows (c : Code) (from place depth cells stack : ℕ) : Type 0 where
  pub fits : Fits c place depth cells stack
  pub on : (from < place) ⊎ (ends_step_at (operation_at c.operations place) ≡ true)

-- The same where a step has ended.
pub record Ends (c : Code) (place depth cells stack : ℕ) : Type 0 where
  pub fits : Fits c place depth cells stack
  pub ended : ends_step_at (operation_at c.operations place) ≡ true

-- So many operations are enough from a place to the end of the step.
abbrev pub operations_left : Code → ℕ → ℕ
operations_left c place = cond (ends_step_at (operation_at c.operations place)) 1 (suc (length c.operations - place))

-- A run between two steps stands where a step ends.
abbrev pub stands_at : Code → ℕ → Bool
stands_at c place = nat_lt place (length c.operations) && ends_step_at (operation_at c.operations place)

-- The figures that each form takes and leaves, and what its operand names.
abbrev pub calculation_takes : Calculation → ℕ
calculation_takes Constant = 0
calculation_takes (One f) = 1
calculation_takes (Two f) = 2
calculation_takes Bounds = 1

abbrev pub CalculationOperand : Calculation → ℕ → Type 0
CalculationOperand Constant x = x < 2 ^ 32
CalculationOperand (One f) x = Unit {0}
CalculationOperand (Two f) x = Unit {0}
CalculationOperand Bounds x = Unit {0}

abbrev pub transfer_takes : Transfer → ℕ
transfer_takes Load = 0
transfer_takes Store = 1
transfer_takes Get = 1
transfer_takes Put = 2

abbrev pub transfer_leaves : Transfer → ℕ
transfer_leaves Load = 1
transfer_leaves Store = 0
transfer_leaves Get = 1
transfer_leaves Put = 0

abbrev pub TransferOperand : Transfer → ℕ → ℕ → Type 0
TransferOperand Load x m = x < m
TransferOperand Store x m = x < m
TransferOperand Get x m = NamesCells m (unpacked x)
TransferOperand Put x m = NamesCells m (unpacked x)

abbrev pub branch_takes : Branch → ℕ
branch_takes Always = 0
branch_takes IfFalse = 1
branch_takes ByTable = 1

-- The rows of the table at a place lie below 4,096.
pub record RowsWithin (numbers : ℕ) (k x : ℕ) : Type 0 where
  pub there : x < numbers
  pub within : (j : ℕ) → 1 ≤ j → j ≤ k → x + j < 4096

abbrev pub BranchOperand : Branch → ℕ → ℕ → ℕ → Type 0
BranchOperand Always numbers k x = Unit {0}
BranchOperand IfFalse numbers k x = Unit {0}
BranchOperand ByTable numbers k x = RowsWithin numbers k x
