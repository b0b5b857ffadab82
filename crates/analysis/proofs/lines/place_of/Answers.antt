use Rattle.std.proofs.Common.{rules, ◌≡◌, ◌∙◌}
use Rattle.std.specs.Option.{option_map_or}
use Rattle.analysis.proofs.NameLines.{place_within, place_past}
use Rattle.analysis.proofs.Nodes.{read_or}
use Rattle.analysis.proofs.lines.place_of.Goals as goal

pub returns : goal.returns
returns c =
    let read : c.map_or.result ≡ option_map_or (λ x. x.now.word.place) c.get.result 0 = search rules in
    let (is, held, there, cases, value) = c.get.ensures.lookup in
    let rs = c.args.records.now in
    read ∙ read_or (λ r. r.word.place) rs c.args.w 0 _ c.get.result cases held (λ d h. place_within rs c.args.w d h) (λ h. place_past rs c.args.w h)
