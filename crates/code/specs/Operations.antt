-- The thirty operations, a line each: number, role in the flow of control, operand, figures taken and left.
-- A reader compares the table with docs/code.md; everything else about an operation is read off its line.
use Rattle.std.specs.Prelude.{◌≡◌, ℕ, List, [], ◌∷◌, map, Some, None, Option, Result, MatchResult, slice_index_or}
use Rattle.std.specs.Result.{result_ok}
use Rattle.code.specs.declared.operations.Operation.{Operation}
use Rattle.code.specs.declared.operations.Operation.TheVariants.{Halt, Mark, Const, Load, Store, Get, Put, Test, Round, Truth, Add, Sub, Mul, Div, Neg, Less, Same, More, Not, And, Or, Eqv, Jump, False, Table, Rows, Here, Take, TakeW, Post}
use Rattle.code.specs.declared.operations.Operand.{Operand}
use Rattle.code.specs.declared.operations.Operand.TheVariants.{Unused, TextPlace, Constant, Cell, CellRange, Target, RowCount}
use Rattle.code.specs.declared.operations.Role.{Role}
use Rattle.code.specs.declared.operations.UnknownOperation.{UnknownOperation}
use Rattle.code.specs.declared.operations.Role.TheVariants.{End, Step, Label, Goto, Branch, Switch, JumpTable, Straight}

-- One line of the table.
pub record Line : Type 0 where
  pub number : ℕ
  pub role : Role
  pub operand : Operand
  pub taken : ℕ
  pub left : ℕ

abbrev line : ℕ → Role → Operand → ℕ → ℕ → Line
line k r o t l = record { number = k; role = r; operand = o; taken = t; left = l }

abbrev pub line_of : Operation → Line
line_of Halt = line 0 End Unused 0 0
line_of Mark = line 1 Step TextPlace 0 0
line_of Const = line 2 Straight Constant 0 1
line_of Load = line 3 Straight Cell 0 1
line_of Store = line 4 Straight Cell 1 0
line_of Get = line 5 Straight CellRange 1 1
line_of Put = line 6 Straight CellRange 2 0
line_of Test = line 7 Straight CellRange 1 1
line_of Round = line 8 Straight Unused 1 1
line_of Truth = line 9 Straight Unused 1 1
line_of Add = line 10 Straight Unused 2 1
line_of Sub = line 11 Straight Unused 2 1
line_of Mul = line 12 Straight Unused 2 1
line_of Div = line 13 Straight Unused 2 1
line_of Neg = line 14 Straight Unused 1 1
line_of Less = line 15 Straight Unused 2 1
line_of Same = line 16 Straight Unused 2 1
line_of More = line 17 Straight Unused 2 1
line_of Not = line 18 Straight Unused 1 1
line_of And = line 19 Straight Unused 2 1
line_of Or = line 20 Straight Unused 2 1
line_of Eqv = line 21 Straight Unused 2 1
line_of Jump = line 22 Goto Target 0 0
line_of False = line 23 Branch Target 1 0
line_of Table = line 24 Switch Target 1 0
line_of Rows = line 25 JumpTable RowCount 0 0
line_of Here = line 26 Label Unused 0 0
line_of Take = line 27 Straight CellRange 1 0
line_of TakeW = line 28 Straight CellRange 1 0
line_of Post = line 29 Straight Unused 1 0

abbrev pub number : Operation → ℕ
number o = (line_of o).number

abbrev pub role : Operation → Role
role o = (line_of o).role

abbrev pub operand : Operation → Operand
operand o = (line_of o).operand

abbrev pub taken : Operation → ℕ
taken o = (line_of o).taken

abbrev pub left : Operation → ℕ
left o = (line_of o).left

-- The operations in the order of their numbers, and the operation that a byte is the number of.
abbrev pub all_operations : List Operation
all_operations =
    Halt ∷ Mark ∷ Const ∷ Load ∷ Store ∷ Get ∷ Put ∷ Test ∷ Round ∷ Truth ∷ Add ∷ Sub ∷ Mul ∷ Div ∷ Neg ∷ Less ∷ Same ∷ More
    ∷ Not ∷ And ∷ Or ∷ Eqv ∷ Jump ∷ False ∷ Table ∷ Rows ∷ Here ∷ Take ∷ TakeW ∷ Post ∷ []

unfoldable pub operation : ℕ → Option Operation
operation b = slice_index_or (map Some all_operations) b None

-- The answer is the byte's operation, which has the byte for its number, or an error that names the byte.
pub record Decodes (byte : ℕ) (r : Result Operation UnknownOperation) : Type 0 where
  pub value : result_ok r ≡ operation byte
  pub numbered : MatchResult r (λ o. number o ≡ byte) (λ e. e.0 ≡ byte)
