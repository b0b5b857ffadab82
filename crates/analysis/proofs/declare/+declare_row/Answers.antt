use Rattle.std.proofs.Common.{◌≡◌, ℕ, [], ◌∷◌, sym, ◌∙◌, arith}
use Rattle.grammar.specs.Tree.{Name}
use Rattle.parser.specs.declared.node.Node.TheVariants.{More, Simple}
use Rattle.parser.specs.Records.{node, NameAt}
use Rattle.symbols.specs.Occurrences.{at}
use Rattle.analysis.proofs.Heeded.{heeds_as}
use Rattle.analysis.proofs.Found.{names_are}
use Rattle.analysis.proofs.RowsAt.{row_joined, row_single, name_never_joins, name_word}
use Rattle.analysis.proofs.declare.+declare_row.Goals as goal

pub returns-in-More : goal.returns-in-More
returns-in-More g t c = λ v ns whole xs role numbered at_role h.
    let n : node v c.args.i ≡ More c.in-More.before c.in-More.last = names_are _ v c.args.i _ numbered.nodes c.in-More.ensures.is xs h in
    heeds_as c.earlier.ensures
    (row_joined NameAt v c.args.i c.in-More.before c.in-More.last n (name_never_joins v c.args.i c.in-More.before c.in-More.last n) (λ (x : Name). at role x ∷ [])
    (λ ys k. c.declare_row-a.ensures v ns whole ys role numbered at_role k) (λ ys k. c.declare_row-b.ensures v ns whole ys role numbered at_role k) xs h)

pub returns-in-Simple : goal.returns-in-Simple
returns-in-Simple g t c = λ v ns whole xs role numbered at_role h.
    let n : node v c.args.i ≡ Simple c.in-Simple.w = names_are _ v c.args.i _ numbered.nodes c.in-Simple.ensures.is xs h in
    row_single NameAt v c.args.i (λ a b m. let z : ◌≡◌ {A = ℕ} 0 1 = cc in omega arith) (λ (x : Name). at role x ∷ [])
    (λ x k. c.declare.ensures v ns whole x role numbered at_role (name_word v c.args.i c.in-Simple.w n x k)) xs h

pub returns-in_default : goal.returns-in_default
returns-in_default g t c = λ v ns whole xs role numbered at_role h.
    let n : node v c.args.i ≡ c.ordered_node.result = names_are _ v c.args.i _ numbered.nodes c.ordered_node.ensures.is xs h in
    row_single NameAt v c.args.i (λ a b m. c.in_default.not-More a b (sym n ∙ m)) (λ (x : Name). at role x ∷ [])
    (λ x k. absurd (c.in_default.not-Simple k.0 (sym n ∙ k.1))) xs h
