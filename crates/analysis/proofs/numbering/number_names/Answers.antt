use Rattle.std.proofs.Common.{◌≡◌, ◌<◌, ◌≤◌, min, [], length, refl, ◌∙◌, arith}
use Rattle.analysis.specs.Numbering.{view_of, names_in}
use Rattle.analysis.proofs.EnteredWords.{inside_view, words_of_view, none_entered, all_entered}
use Rattle.analysis.proofs.numbering.number_names.Goals as goal

pub loop-w-init : goal.loop-w-init
loop-w-init c = (refl, refl, omega arith, λ fits. ([], none_entered c.args.text.now c.args.records.now c.args.count c.args.names.now))

pub loop-w-preserved : goal.loop-w-preserved
loop-w-preserved c =
    let i = c.loop-w.invariant in
    let e = c.number_word-n.ensures in
    let end = c.min-end.ensures in
    let test = c.loop-w-test.true in
    let w : c.loop-w.w < min c.args.count (length c.args.records.now) = omega arith in (
      e.words ∙ i.0,
      e.nodes ∙ i.1,
      e.room,
      λ f.
          let k : length c.loop-w.names ≡ length c.args.names.now = c.loop-w.auto.names in
          let fits : length (names_in (view_of c.args.text.now c.args.records.now c.args.count)) ≤ length c.loop-w.names = omega arith in
          let before = i.3 f in
          e.entered (view_of c.args.text.now c.args.records.now c.args.count) before.0
          (words_of_view c.args.text.now c.args.records.now c.args.count c.loop-w.records i.0) fits
          (inside_view c.args.text.now c.args.records.now c.args.count c.loop-w.w w) before.1,
    )

pub number_word-n-requires : goal.number_word-n-requires
number_word-n-requires c =
    let r : length c.loop-w.records ≡ length c.args.records.now = c.loop-w.auto.records in
    let end = c.min-end.ensures in
    let l = c.loop-w-test.true in
    (omega arith, c.loop-w.invariant.2)

pub returns : goal.returns
returns c =
    let i = c.loop-w.invariant in
    let end = c.min-end.ensures in
    let test = c.loop-w-test.false in
    let past : min c.args.count (length c.args.records.now) ≤ c.loop-w.w = omega arith in
    record {
      words = i.0;
      nodes = i.1;
      room = i.2;
      entered = λ f.
          let all = i.3 f in
          all_entered c.args.text.now c.args.records.now c.args.count c.loop-w.records all.0 c.loop-w.n c.loop-w.w c.loop-w.names i.0 i.1 past all.1;
    }
