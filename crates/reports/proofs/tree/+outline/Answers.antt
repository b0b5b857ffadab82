use Rattle.std.proofs.Common.{◌≡◌, ℕ, ◌≤◌, ◌++◌, List, Option, length, arith, sym, ap, ◌∙◌}
use Rattle.std.specs.String.{string_bytes}
use Rattle.std.proofs.lemmas.List.{take_all, append-nil}
use Rattle.std.specs.List.{flat_map}
use Rattle.reports.specs.Captions.{node_shown}
use Rattle.reports.specs.Outlines.{part_outline, own_line, depth_below, outline_line}
use Rattle.reports.proofs.OutlineSteps.{of_some, outlined, row_is_silent, others_tell}
use Rattle.reports.proofs.tree.+outline.Goals as goal
use Rattle.reports.proofs.tree.+outline.Goals.{in-More, in_default+in_ok-writeln-in_default}

pub returns-clause-lines : goal.returns-clause-lines
returns-clause-lines t c =
    let text = c.args.source.text.now in
    let rs = c.args.source.records.now in
    let n = c.node_of-node.result in
    let d = c.args.depth in
    let items = c.parts-part-items.result in
    let own : (string_bytes c.match-node.out ≡ string_bytes c.args.out.now ++ own_line text rs d n) × (c.match-node.below ≡ depth_below d n) =
    elim c.match-node.branch [
      | in-More w ↦
          (let r = row_is_silent text rs d w.in-More.field-0 w.in-More.field-1 n w.in-More.is in (
            ap string_bytes w.out-is ∙ sym (append-nil (string_bytes c.args.out.now)) ∙ ap (λ (x : List ℕ). string_bytes c.args.out.now ++ x) (sym r.0),
            w.below-is ∙ sym r.1,
          ))
      | in_default+in_ok-writeln-in_default w ↦
          (let o = others_tell text rs d n w.in_default.not-More in (
            ap string_bytes w.out-is ∙ (let e : string_bytes w.writeln.new.self ≡ string_bytes c.args.out.now ++ outline_line d (node_shown text rs n) = w.in_ok-writeln-in_default.ensures.bytes in e) ∙ sym (ap (λ (x : List ℕ). string_bytes c.args.out.now ++ x) o.0),
            w.below-is ∙ w.saturating_add-below.ensures ∙ sym o.1,
          ))
    ] in
    let full : length items ≤ c.loop-part.part-index = omega (arith, c.parts-part-items.ensures.places) in
    let all : string_bytes c.loop-part.out ≡ string_bytes c.match-node.out ++ flat_map (of_some (part_outline text rs c.match-node.below c.args.i)) items =
    c.loop-part.invariant ∙ ap (λ (os : List (Option ℕ)). string_bytes c.match-node.out ++ flat_map (of_some (part_outline text rs c.match-node.below c.args.i)) os) (take_all c.loop-part.part-index items full) in
    outlined text rs d c.args.i c.match-node.below n (string_bytes c.args.out.now) (string_bytes c.match-node.out) (string_bytes c.loop-part.out) items
    c.node_of-node.ensures own.0 own.1 all c.parts-part-items.ensures.parts
