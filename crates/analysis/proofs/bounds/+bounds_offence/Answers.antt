use Rattle.std.proofs.Common.{◌≡◌, sym, ◌∙◌}
use Rattle.parser.specs.declared.node.Node.TheVariants.{More, Array}
use Rattle.parser.specs.Records.{node}
use Rattle.analysis.proofs.Found.{items_are}
use Rattle.analysis.proofs.Rows.{items_at, items_joined, items_arrays, items_plain}
use Rattle.analysis.proofs.bounds.+bounds_offence.Goals as goal

pub returns-in-More : goal.returns-in-More
returns-in-More t c = λ v u e h.
    let n : node v c.args.i ≡ More c.in-More.before c.in-More.last = items_are _ v c.args.i _ e c.in-More.ensures.is u h in
    c.earlier.ensures
    ∙ items_joined v c.args.i c.in-More.before c.in-More.last n c.bounds_offence.result c.bounds_offence-in-More.result
    (λ w k. c.bounds_offence.ensures v w e k) (λ w k. c.bounds_offence-in-More.ensures v w e k) (items_at v c.args.i u h)

pub returns-in-Array : goal.returns-in-Array
returns-in-Array t c = λ v u e h.
    let n : node v c.args.i ≡ Array c.in-Array.groups = items_are _ v c.args.i _ e c.in-Array.ensures.is u h in
    items_arrays v c.args.i c.in-Array.groups n c.groups_offence.result (λ gs k. c.groups_offence.ensures v gs e k) (items_at v c.args.i u h)

pub returns-in_default : goal.returns-in_default
returns-in_default t c = λ v u e h.
    let n : node v c.args.i ≡ c.ordered_node.result = items_are _ v c.args.i _ e c.ordered_node.ensures.is u h in
    items_plain v c.args.i (λ a b m. c.in_default.not-More a b (sym n ∙ m)) (λ g m. c.in_default.not-Array g (sym n ∙ m)) (items_at v c.args.i u h)
