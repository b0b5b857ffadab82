use Rattle.std.proofs.Common.{◌≡◌, ◌++◌, map, take, drop}
use Rattle.code.specs.Files.{number_of}
use Rattle.code.proofs.stored.read_operands.Given as goal

-- The operands so far stand in the array, and what lies behind them is as it was.
abbrev pub invariant-loop-place : goal.invariant-loop-place
invariant-loop-place l = l.operands ≡ map number_of (take l.place l.words) ++ drop l.place l.initial.operands
