-- What each of the thirty operations does, a line each, in the forms of which `Machine` says the effect.
use Rattle.std.specs.Prelude.{true, false}
use Rattle.code.specs.declared.operations.Operation.{Operation}
use Rattle.code.specs.declared.operations.Operation.TheVariants as op
use Rattle.machine.specs.declared.instruction.Instruction.{Instruction}
use Rattle.machine.specs.declared.instruction.Instruction.TheVariants.{Halt, Pass, Calculate, Transfer, Go, Take, Post}
use Rattle.machine.specs.declared.instruction.Calculation.TheVariants.{Constant, One, Two, Bounds}
use Rattle.machine.specs.declared.instruction.Unary.TheVariants as unary
use Rattle.machine.specs.declared.instruction.Binary.TheVariants as binary
use Rattle.machine.specs.declared.instruction.Transfer.TheVariants as cells
use Rattle.machine.specs.declared.instruction.Branch.TheVariants.{Always, IfFalse, ByTable}

abbrev pub instruction : Operation → Instruction
instruction op.Halt = Halt
instruction op.Mark = Pass
instruction op.Const = Calculate Constant
instruction op.Load = Transfer cells.Load
instruction op.Store = Transfer cells.Store
instruction op.Get = Transfer cells.Get
instruction op.Put = Transfer cells.Put
instruction op.Test = Calculate Bounds
instruction op.Round = Calculate (One unary.Round)
instruction op.Truth = Calculate (One unary.Truth)
instruction op.Add = Calculate (Two binary.Add)
instruction op.Sub = Calculate (Two binary.Subtract)
instruction op.Mul = Calculate (Two binary.Multiply)
instruction op.Div = Calculate (Two binary.Divide)
instruction op.Neg = Calculate (One unary.Negate)
instruction op.Less = Calculate (Two binary.Less)
instruction op.Same = Calculate (Two binary.Same)
instruction op.More = Calculate (Two binary.More)
instruction op.Not = Calculate (One unary.Deny)
instruction op.And = Calculate (Two binary.And)
instruction op.Or = Calculate (Two binary.Or)
instruction op.Eqv = Calculate (Two binary.Alike)
instruction op.Jump = Go Always
instruction op.False = Go IfFalse
instruction op.Table = Go ByTable
instruction op.Rows = Pass
instruction op.Here = Pass
instruction op.Take = Take false
instruction op.TakeW = Take true
instruction op.Post = Post
