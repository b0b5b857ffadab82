-- What it means that code passes the check, in the machine's own terms: the depth of the stack at each place, where each
-- operation leads, which cells it names. `PassingIsWellFormed` says that the check passes just such code, so a machine
-- that runs it needs no test of its own.
use Rattle.std.specs.Prelude.{◌≡◌, ℕ, zero, suc, ◌+◌, ◌<◌, ◌≤◌, true, ◌⊎◌, List, length, Some, None, Option, slice_index}
use Rattle.code.specs.declared.operations.Operation.{Operation}
use Rattle.code.specs.declared.operations.Operation.TheVariants.{Halt, Mark, Jump, Rows, Here}
use Rattle.code.specs.declared.operations.Operand.{Operand}
use Rattle.code.specs.declared.operations.Operand.TheVariants.{Unused, TextPlace, Constant, Cell, CellRange, Target, RowCount}
use Rattle.code.specs.declared.operations.Role.{Role}
use Rattle.code.specs.declared.operations.Role.TheVariants.{End, Step, Label, Goto, Branch, Switch, JumpTable, Straight}
use Rattle.code.specs.declared.descriptor.Descriptor.{Descriptor}
use Rattle.code.specs.declared.sizes.Sizes.{Sizes}
use Rattle.code.specs.Operations.{operand, role, taken}
use Rattle.code.specs.Descriptors.{unpacked}
use Rattle.code.specs.Codes.{Code, operation_at}
use Rattle.code.specs.Check.{check, passes, depth_after, empty_before, empty_after}

-- The figures on the stack before the operation at a place, counted in code order from place 0.
abbrev pub depth_past : Option Operation → ℕ → ℕ
depth_past None d = d
depth_past (Some o) d = depth_after o d

unfoldable pub depth_at : List ℕ → ℕ → ℕ
depth_at os zero = 0
depth_at os (suc i) = depth_past (operation_at os i) (depth_at os i)

-- What an operand names is there.
pub record NamesCells (m : ℕ) (d : Descriptor) : Type 0 where
  pub some : 1 ≤ d.count
  pub below : d.first + d.count ≤ m
  pub low_from : 1 ≤ d.biased_low
  pub low_to : d.biased_low ≤ 19999

abbrev pub Names : Sizes → Operand → ℕ → Type 0
Names s Unused x = x ≡ 0
Names s TextPlace x = x ≤ 8191
Names s Constant x = x ≤ 999999999
Names s Cell x = x < s.cells
Names s CellRange x = NamesCells s.cells (unpacked x)
Names s Target x = x < s.operations
Names s RowCount x = 1 ≤ x

-- A jump from i to x lands on a MARK, or on a HERE or HALT further on.
pub data Lands (os : List ℕ) (i x : ℕ) : Type 0 where
  on_mark : operation_at os x ≡ Some Mark → Lands os i x
  on_later_here : i < x → operation_at os x ≡ Some Here → Lands os i x
  on_later_halt : i < x → operation_at os x ≡ Some Halt → Lands os i x

-- Nothing comes to place i from the place before it.
pub data CutOff (os : List ℕ) : ℕ → Type 0 where
  behind_halt : {k : ℕ} → operation_at os k ≡ Some Halt → CutOff os (suc k)
  behind_jump : {k : ℕ} → operation_at os k ≡ Some Jump → CutOff os (suc k)

-- The rows of a ROWS k at i: the k operations behind it are JUMPs.
pub record HasRows (os : List ℕ) (i k : ℕ) : Type 0 where
  pub cut_off : CutOff os i
  pub row : (j : ℕ) → j < k → operation_at os (suc i + j) ≡ Some Jump

-- Where control may go from an operation at i with operand x: to the next place, to a target, or nowhere.
abbrev pub Leads : List ℕ → ℕ → Role → ℕ → Type 0
Leads os i End x = Unit {0}
Leads os i Step x = suc i < length os
Leads os i Label x = suc i < length os
Leads os i Goto x = Lands os i x
Leads os i Branch x = Lands os i x × (suc i < length os)
Leads os i Switch x = (i < x) × (operation_at os x ≡ Some Rows) × (suc i < length os)
Leads os i JumpTable x = HasRows os i x × (suc i < length os)
Leads os i Straight x = suc i < length os

-- The operation o at a place: it finds enough figures, leaves room, and leads to a place of the code.
pub record SoundAt (c : Code) (i : ℕ) (o : Operation) : Type 0 where
  pub stands : operation_at c.operations i ≡ Some o
  pub names : Names c.sizes (operand o) (slice_index c.operands i)
  pub enough : taken o ≤ depth_at c.operations i
  pub found : depth_at c.operations i ≤ c.sizes.depth
  pub left : depth_at c.operations (suc i) ≤ c.sizes.depth
  pub none_before : empty_before (role o) ≡ true → depth_at c.operations i ≡ 0
  pub none_after : empty_after (role o) ≡ true → depth_at c.operations (suc i) ≡ 0
  pub leads : Leads c.operations i (role o) (slice_index c.operands i)

pub record WellFormed (c : Code) : Type 0 where
  pub some_operation : 1 ≤ c.sizes.operations
  pub few_operations : c.sizes.operations ≤ 4096
  pub few_named : c.sizes.named ≤ c.sizes.cells
  pub few_cells : c.sizes.cells ≤ 2048
  pub shallow : c.sizes.depth ≤ 256
  pub operations_long : length c.operations ≡ c.sizes.operations
  pub operands_long : length c.operands ≡ c.sizes.operations
  pub opens : (operation_at c.operations 0 ≡ Some Mark) ⊎ (operation_at c.operations 0 ≡ Some Halt)
  pub sound : (i : ℕ) → i < c.sizes.operations → (o : Operation) × SoundAt c i o

abbrev pub PassingIsWellFormed : Type 0
PassingIsWellFormed = (c : Code) → (check c ≡ passes → WellFormed c) × (WellFormed c → check c ≡ passes)

-- Where a jump from i to x leads in well-formed code: to a place of the code at which no figures lie on the stack, and
-- further on unless a step begins there. The same holds of the JUMPs of a ROWS.
pub record Reaches (c : Code) (i x : ℕ) : Type 0 where
  pub inside : x < c.sizes.operations
  pub empty : depth_at c.operations x ≡ 0
  pub onward : (i < x) ⊎ (operation_at c.operations x ≡ Some Mark)

pub record JumpsReach : Type 0 where
  pub jump : (c : Code) → WellFormed c → (i x : ℕ) → Lands c.operations i x → Reaches c i x
  pub row : (c : Code) → WellFormed c → (i : ℕ) → operation_at c.operations i ≡ Some Rows
      → (j : ℕ) → j < slice_index c.operands i → Reaches c (suc i + j) (slice_index c.operands (suc i + j))
