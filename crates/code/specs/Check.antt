-- The check of code: the verdict on a whole code, operation by operation in their order.
-- Each rule is a test with the number that refuses it; an operation is held to the rules 22 to 26 in this order,
-- and the first operation that breaks one decides.
use Rattle.std.specs.Prelude.{ℕ, ◌+◌, ◌-◌, Bool, true, false, cond, ◌&&◌, List, [], ◌∷◌, length, drop, Some, None, Option, ◌==◌, nat_eq, nat_le, nat_lt, slice_index}
use Rattle.std.specs.List.{prefix_len}
use Rattle.code.specs.declared.operations.Operation.{Operation}
use Rattle.code.specs.declared.operations.Operation.TheVariants.{Jump}
use Rattle.code.specs.declared.operations.Operand.{Operand}
use Rattle.code.specs.declared.operations.Operand.TheVariants.{Unused, TextPlace, Constant, Cell, CellRange, Target, RowCount}
use Rattle.code.specs.declared.operations.Role.{Role}
use Rattle.code.specs.declared.operations.Role.TheVariants.{End, Step, Label, Goto, Branch, Switch, JumpTable, Straight}
use Rattle.code.specs.declared.sizes.Sizes.{Sizes}
use Rattle.code.specs.Operations.{operation, number, operand, role, taken, left}
use Rattle.code.specs.Descriptors.{unpacked, range_ok}
use Rattle.code.specs.Codes.{Code, role_at}

-- The whole code passes, or is refused by a number, from 22 on at an operation.
pub data Verdict : Type 0 where
  passes : Verdict
  refused : ℕ → Option ℕ → Verdict

abbrev pub passed : Verdict → Bool
passed passes = true
passed (refused k i) = false

-- 21: the sizes are within their limits, and there is an entry for each operation in both arrays that are lent;
-- code has just these entries.
abbrev pub limits_ok : Sizes → Bool
limits_ok s =
    nat_le 1 s.operations && (nat_le s.operations 4096 && (nat_le s.named s.cells && (nat_le s.cells 2048 && nat_le s.depth 256)))

abbrev pub lent_ok : Sizes → ℕ → ℕ → Bool
lent_ok s a b = limits_ok s && (nat_le s.operations a && nat_le s.operations b)

abbrev pub sizes_ok : Code → Bool
sizes_ok c =
    limits_ok c.sizes && (length c.operations == c.sizes.operations && length c.operands == c.sizes.operations)

-- 23: the operand keeps its rule.
abbrev pub operand_ok : Sizes → Operand → ℕ → Bool
operand_ok s Unused x = x == 0
operand_ok s TextPlace x = nat_le x 8191
operand_ok s Constant x = nat_le x 999999999
operand_ok s Cell x = nat_lt x s.cells
operand_ok s CellRange x = range_ok s.cells (unpacked x)
operand_ok s Target x = nat_lt x s.operations
operand_ok s RowCount x = nat_le 1 x

-- 24: there are figures enough to take, room for those left, and none on the stack where none may be.
abbrev pub depth_after : Operation → ℕ → ℕ
depth_after o d = (d - taken o) + left o

abbrev pub empty_before : Role → Bool
empty_before End = true
empty_before Step = true
empty_before Label = true
empty_before Goto = false
empty_before Branch = false
empty_before Switch = false
empty_before JumpTable = true
empty_before Straight = false

abbrev pub empty_after : Role → Bool
empty_after End = false
empty_after Step = false
empty_after Label = false
empty_after Goto = true
empty_after Branch = true
empty_after Switch = true
empty_after JumpTable = false
empty_after Straight = false

abbrev pub depth_ok : Sizes → Operation → ℕ → Bool
depth_ok s o d =
    nat_le (taken o) d && (nat_le (depth_after o d) s.depth
    && (cond (empty_before (role o)) (d == 0) true && cond (empty_after (role o)) (depth_after o d == 0) true))

-- 25: place 0 is MARK or HALT; a jump goes to a MARK, or to a HERE or HALT further on; TABLE goes to a ROWS further on;
-- a ROWS follows HALT or JUMP and has its JUMPs behind it.
abbrev pub opens : Role → Bool
opens End = true
opens Step = true
opens Label = false
opens Goto = false
opens Branch = false
opens Switch = false
opens JumpTable = false
opens Straight = false

abbrev pub may_land : Option Role → Bool → Bool
may_land None further = false
may_land (Some End) further = further
may_land (Some Step) further = true
may_land (Some Label) further = further
may_land (Some Goto) further = false
may_land (Some Branch) further = false
may_land (Some Switch) further = false
may_land (Some JumpTable) further = false
may_land (Some Straight) further = false

abbrev pub is_jump_table : Option Role → Bool
is_jump_table None = false
is_jump_table (Some End) = false
is_jump_table (Some Step) = false
is_jump_table (Some Label) = false
is_jump_table (Some Goto) = false
is_jump_table (Some Branch) = false
is_jump_table (Some Switch) = false
is_jump_table (Some JumpTable) = true
is_jump_table (Some Straight) = false

-- nothing goes on from it to the next place
abbrev pub closes : Role → Bool
closes End = true
closes Step = false
closes Label = false
closes Goto = true
closes Branch = false
closes Switch = false
closes JumpTable = false
closes Straight = false

abbrev pub closed : Option Role → Bool
closed None = false
closed (Some r) = closes r

-- how many JUMPs stand at the front
abbrev pub leading_jumps : List ℕ → ℕ
leading_jumps bs = prefix_len (λ b. nat_eq b (number Jump)) bs

abbrev pub target_ok : List ℕ → ℕ → Role → ℕ → Bool
target_ok os i End x = true
target_ok os i Step x = true
target_ok os i Label x = true
target_ok os i Goto x = may_land (role_at os x) (nat_lt i x)
target_ok os i Branch x = may_land (role_at os x) (nat_lt i x)
target_ok os i Switch x = nat_lt i x && is_jump_table (role_at os x)
target_ok os i JumpTable x = closed (role_at os (i - 1)) && nat_le x (leading_jumps (drop (i + 1) os))
target_ok os i Straight x = true

abbrev pub place_ok : List ℕ → ℕ → Role → ℕ → Bool
place_ok os i r x = cond (i == 0) (opens r) true && target_ok os i r x

-- 26: the last operation is HALT or JUMP.
abbrev pub last_ok : List ℕ → ℕ → Role → Bool
last_ok os i r = cond (i + 1 == length os) (closes r) true

-- One operation, at place i with operand x, which finds d figures: how many it leaves, or the first rule that it breaks.
pub data Ruling : Type 0 where
  goes_on : ℕ → Ruling
  breaks : ℕ → Ruling

abbrev pub ruling : Sizes → List ℕ → ℕ → ℕ → ℕ → Option Operation → Ruling
ruling s os i x d None = breaks 22
ruling s os i x d (Some o) =
    cond (operand_ok s (operand o) x)
    (cond (depth_ok s o d)
    (cond (place_ok os i (role o) x)
    (cond (last_ok os i (role o)) (goes_on (depth_after o d)) (breaks 26)) (breaks 25)) (breaks 24)) (breaks 23)

-- The operations from place i on, of which the first finds d figures.
abbrev pub check_from : Code → List ℕ → ℕ → ℕ → Verdict
check_from c [] i d = passes
check_from c (b ∷ bs) i d =
    elim (ruling c.sizes c.operations i (slice_index c.operands i) d (operation b))
    [ goes_on e ↦ check_from c bs (i + 1) e | breaks k ↦ refused k (Some i) ]

unfoldable pub check : Code → Verdict
check c = cond (sizes_ok c) (check_from c c.operations 0 0) (refused 21 None)
