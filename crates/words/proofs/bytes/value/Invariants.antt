use Rattle.std.proofs.Common.{◌≡◌, ◌+◌, ◌^◌, ◌≤◌, drop}
use Rattle.words.specs.Spelling.{value_after, value_of}
use Rattle.words.proofs.bytes.value.Given as goal

abbrev pub invariant-loop-b : goal.invariant-loop-b
invariant-loop-b l = (value_after l.v (drop l.b-index l.digits) ≡ value_of l.digits) × (l.v + 1 ≤ 10 ^ l.b-index)
