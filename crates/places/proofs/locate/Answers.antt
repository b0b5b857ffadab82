use Rattle.std.proofs.Common.{◌≡◌, ◌==◌, rules, arith}
use Rattle.std.specs.List.{count_by}
use Rattle.places.proofs.Ends.{counted_ends}
use Rattle.places.proofs.locate.Goals as goal

pub returns : goal.returns
returns c =
    let counted : c.count.result ≡ count_by (λ b. b == 10) c.split_at.result.0.now = search rules in
    let lines = counted_ends c.split_at.result.0.now in
    let e1 = c.split_at.ensures.front in
    let e2 = c.split_at.ensures.front_len in
    let e3 = c.split_at.ensures.back in
    let e4 = c.min.ensures in
    grind (arith, lines, e1, e2, e3, e4)
