-- Code: its sizes, and two parallel lists, the bytes of its operations and their operands.
-- Arrays that are lent with sizes mean their first n entries.
use Rattle.std.specs.Prelude.{ℕ, List, map, take, None, Option, slice_index_or}
use Rattle.std.specs.Option.{option_map}
use Rattle.code.specs.declared.operations.Operation.{Operation}
use Rattle.code.specs.declared.operations.Role.{Role}
use Rattle.code.specs.declared.sizes.Sizes.{Sizes}
use Rattle.code.specs.Operations.{operation, role}

pub record Code : Type 0 where
  pub sizes : Sizes
  pub operations : List ℕ
  pub operands : List ℕ

abbrev pub code_of : Sizes → List ℕ → List ℕ → Code
code_of s os xs = record { sizes = s; operations = take s.operations os; operands = take s.operations xs }

-- The operation at a place: none past the end, and none at a byte that is no operation's number.
unfoldable pub operation_at : List ℕ → ℕ → Option Operation
operation_at os i = slice_index_or (map operation os) i None

abbrev pub role_at : List ℕ → ℕ → Option Role
role_at os i = option_map role (operation_at os i)
