use Rattle.std.proofs.Common.{◌≡◌, ℕ, ◌+◌, ◌<◌, ◌≤◌, ◌&&◌, ltb, leb, length, ap, ◌∙◌, arith}
use Rattle.symbols.specs.Types.{told}
use Rattle.analysis.specs.Earliest.{earliest_of}
use Rattle.analysis.proofs.PlacedCells.{one_placed, all_placed}
use Rattle.analysis.proofs.cells.place_cells.Goals as goal

pub loop-line-preserved : goal.loop-line-preserved
loop-line-preserved c =
    let kept : length c.loop-line.names ≡ length c.args.names.now = c.loop-line.auto.names in
    let test = c.loop-line-test.true in
    let inv = c.loop-line.invariant.1 in
    let small = c.cells-n.ensures.small in
    let l : c.loop-line.line-index < length c.loop-line.names = omega arith in
    let m : c.loop-line.line-index < length c.args.names.now = omega arith in (
      one_placed c.args.records.now c.args.names.now c.loop-line.names c.loop-line.line-index c.loop-line.c c.loop-line.offence _ l m c.loop-line.invariant.0
          c.cells-n.result c.cells-n.ensures.count
          c.passing.result (c.passing.ensures ∙ ap (λ (q : ℕ). earliest_of (told (leb c.loop-line.c 2048 && ltb 2048 (c.loop-line.c + c.cells-n.result)) q)) c.place_of.ensures)
          c.earlier-offence.result c.earlier-offence.ensures,
      omega arith,
    )

pub returns : goal.returns
returns c =
    let kept : length c.loop-line.names ≡ length c.args.names.now = c.loop-line.auto.names in
    let test = c.loop-line-test.false in
    let l : length c.loop-line.names ≤ c.loop-line.line-index = omega arith in
    let m : length c.args.names.now ≤ c.loop-line.line-index = omega arith in
    all_placed c.args.records.now c.args.names.now c.loop-line.names c.loop-line.line-index c.loop-line.c c.loop-line.offence l m c.loop-line.invariant.0
