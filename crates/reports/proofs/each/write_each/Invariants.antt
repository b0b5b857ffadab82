use Rattle.std.proofs.Common.{◌≡◌, ℕ, List, Some, take}
use Rattle.std.specs.Fmt.{HasWritten, IsPlainFormatter}
use Rattle.std.specs.List.{flat_map}
use Rattle.reports.proofs.each.write_each.Given as goal

-- The bytes so far are written.
abbrev pub invariant-loop-byte : goal.invariant-loop-byte
invariant-loop-byte g l =
    goal.F-IsAlwaysCallable g l.show
    × ((shown : ℕ → List ℕ) → ((b : ℕ) (d : _) → goal.F-post g l.show b d → g.D.Display.output d ≡ Some (shown b))
    → IsPlainFormatter l.initial.f → HasWritten g.W.Write.write_str_gives l.initial.f (flat_map shown (take l.byte-index l.bytes)) l.f)
