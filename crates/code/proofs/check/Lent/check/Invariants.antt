use Rattle.std.proofs.Common.{◌≡◌, ◌≤◌, drop}
use Rattle.code.specs.Check.{check_from}
use Rattle.code.specs.Codes.{Code}
use Rattle.code.proofs.check.Lent.check.Given as goal

-- The depth is within its limit, and the check of the whole code comes to that of what is left from here.
abbrev pub invariant-loop-place : goal.invariant-loop-place
invariant-loop-place l =
    let c : Code = record { sizes = l.self.sizes; operations = l.self.operations.now; operands = l.self.operands.now } in
    (l.depth ≤ l.self.sizes.depth) × (check_from c l.self.operations.now 0 0 ≡ check_from c (drop l.place l.self.operations.now) l.place l.depth)
