use Rattle.std.proofs.Common.{rules, ◌≡◌, ◌∙◌}
use Rattle.std.specs.Option.{option_map_or}
use Rattle.parser.specs.declared.node.Node.TheVariants.{Empty}
use Rattle.analysis.proofs.Nodes.{read_or, node_within, node_past}
use Rattle.analysis.proofs.tree.node_of.Goals as goal

pub returns : goal.returns
returns c =
    let read : c.map_or.result ≡ option_map_or (λ x. x.now.node) c.get.result Empty = search rules in
    let (is, held, there, cases, value) = c.get.ensures.lookup in
    let rs = c.args.records.now in
    read ∙ read_or (λ r. r.node) rs c.args.i Empty _ c.get.result cases held (λ d h. node_within rs c.args.i d h) (λ h. node_past rs c.args.i h)
