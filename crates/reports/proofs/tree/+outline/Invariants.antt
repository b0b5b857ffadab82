use Rattle.std.proofs.Common.{◌≡◌, ◌++◌, take}
use Rattle.std.specs.List.{flat_map}
use Rattle.std.specs.String.{string_bytes}
use Rattle.reports.specs.Outlines.{part_outline}
use Rattle.reports.proofs.OutlineSteps.{of_some}
use Rattle.reports.proofs.tree.+outline.Given as goal

abbrev pub decreases-outline : goal.decreases-outline
decreases-outline l = l.i

-- The lines of the parts so far.
abbrev pub invariant-loop-part : goal.invariant-loop-part
invariant-loop-part l = string_bytes l.out ≡ string_bytes l.initial.out ++ flat_map (of_some (part_outline l.source.text.now l.source.records.now l.below l.i)) (take l.part-index l.part-items)
