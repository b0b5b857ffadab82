use Rattle.std.proofs.Common.{◌≡◌, ◌+◌, ◌*◌, ◌++◌, take, drop}
use Rattle.std.specs.List.{flat_map}
use Rattle.code.specs.Files.{bytes_of}
use Rattle.code.proofs.stored.write_operands.Given as goal

-- The operands so far stand in the buffer, and what lies behind them is as it was.
abbrev pub invariant-loop-i : goal.invariant-loop-i
invariant-loop-i l =
    (take (l.at + 8 * l.i) l.buffer ≡ take l.at l.initial.buffer ++ flat_map (bytes_of 8) (take l.i l.operands))
    × (drop (l.at + 8 * l.i) l.buffer ≡ drop (l.at + 8 * l.i) l.initial.buffer)
