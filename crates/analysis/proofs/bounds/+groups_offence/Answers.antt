use Rattle.std.proofs.Common.{◌≡◌, sym, ◌∙◌}
use Rattle.parser.specs.declared.node.Node.TheVariants.{More}
use Rattle.parser.specs.Records.{node}
use Rattle.symbols.specs.Rules.{group_bounds}
use Rattle.analysis.proofs.Found.{groups_are}
use Rattle.analysis.proofs.Rows.{groups_joined, groups_single}
use Rattle.analysis.proofs.bounds.+groups_offence.Goals as goal

pub returns-in-More : goal.returns-in-More
returns-in-More t c = λ v gs e h.
    let n : node v c.args.i ≡ More c.in-More.before c.in-More.last = groups_are _ v c.args.i _ e c.in-More.ensures.is gs h in
    c.earlier.ensures
    ∙ groups_joined v c.args.i c.in-More.before c.in-More.last n group_bounds c.groups_offence.result c.group_offence.result
    (λ hs k. c.groups_offence.ensures v hs e k) (λ g k. c.group_offence.ensures v g e k) gs h

pub returns-in_default : goal.returns-in_default
returns-in_default t c = λ v gs e h.
    let n : node v c.args.i ≡ c.ordered_node.result = groups_are _ v c.args.i _ e c.ordered_node.ensures.is gs h in
    groups_single v c.args.i (λ a b m. c.in_default.not-More a b (sym n ∙ m)) group_bounds c.group_offence-in_default.result
    (λ g k. c.group_offence-in_default.ensures v g e k) gs h
