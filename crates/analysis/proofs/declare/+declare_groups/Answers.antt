use Rattle.std.proofs.Common.{◌≡◌, ℕ, sym, ◌∙◌, arith}
use Rattle.parser.specs.declared.node.Node.TheVariants.{More}
use Rattle.parser.specs.Records.{node, GroupAt}
use Rattle.symbols.specs.Occurrences.{as_array, in_group}
use Rattle.analysis.proofs.Heeded.{heeds_as}
use Rattle.analysis.proofs.Found.{groups_are}
use Rattle.analysis.proofs.RowsAt.{row_joined, row_single, group_never_joins, group_role, group_row}
use Rattle.analysis.proofs.declare.+declare_groups.Goals as goal

pub returns-in-More : goal.returns-in-More
returns-in-More g t c = λ v ns whole gs numbered h.
    let n : node v c.args.i ≡ More c.in-More.before c.in-More.last = groups_are _ v c.args.i _ numbered.nodes c.in-More.ensures.is gs h in
    heeds_as c.earlier.ensures
    (row_joined GroupAt v c.args.i c.in-More.before c.in-More.last n (group_never_joins v c.args.i c.in-More.before c.in-More.last n) in_group
    (λ hs k. c.declare_groups-a.ensures v ns whole hs numbered k) (λ hs k. c.declare_groups-b.ensures v ns whole hs numbered k) gs h)

pub returns-in-Group : goal.returns-in-Group
returns-in-Group g t c = λ v ns whole gs numbered h.
    let n = groups_are _ v c.args.i _ numbered.nodes c.in-Group.ensures.is gs h in
    row_single GroupAt v c.args.i (λ a b m. let z : ◌≡◌ {A = ℕ} 0 1 = cc in omega arith) in_group
    (λ g k. c.declare_row.ensures v ns whole g.names (as_array g.low g.high) numbered (group_role v c.args.i _ _ _ _ n g k) (group_row v c.args.i _ _ _ _ n g k)) gs h

pub returns-in_default : goal.returns-in_default
returns-in_default g t c = λ v ns whole gs numbered h.
    let n : node v c.args.i ≡ c.ordered_node.result = groups_are _ v c.args.i _ numbered.nodes c.ordered_node.ensures.is gs h in
    row_single GroupAt v c.args.i (λ a b m. c.in_default.not-More a b (sym n ∙ m)) in_group
    (λ g k. absurd (c.in_default.not-Group _ _ _ _ (sym n ∙ k.2.1))) gs h
