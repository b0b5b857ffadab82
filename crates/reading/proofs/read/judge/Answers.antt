use Rattle.std.proofs.Common.{rules, ◌≡◌, ℕ, ◌-◌, List, take, sym, ap, ◌∙◌, arith}
use Rattle.symbols.specs.Texts.{refused}
use Rattle.reading.specs.declared.refusal.TextRefusal.{TextRefusal}
use Rattle.reading.specs.declared.refusal.TextRefusal.TheVariants.{Names}
use Rattle.reading.specs.Refusal.{number, place}
use Rattle.analysis.specs.declared.symbol.NameRecord.{NameRecord}
use Rattle.analysis.specs.Verdicts.{OffencesOf}
use Rattle.reading.proofs.Judging.{offences_are, refuses, accepts}
use Rattle.reading.proofs.read.judge.Goals as goal

pub returns-in-Some : goal.returns-in-Some
returns-in-Some c = λ before room r.
    let named : c.into.result ≡ Names c.in-Some.broken = search rules in
    let n : List NameRecord = c.fill_names-filled.new.names in
    let e : c.min-used.result - 0 ≡ c.min-used.result = omega arith in
    let f = c.fill_names-filled.ensures in
    let o : OffencesOf r.program c.offences_of-offences.result =
    offences_are c.args.text.now before c.args.table.now c.fill_names-filled.new.records c.args.names.now n c.args.sentence c.fill_names-filled.result f room r
    c.min-used.result c.min-used.ensures _ (ap (λ (k : ℕ). take k n) e) c.offences_of-offences.result c.offences_of-offences.ensures in
    refuses c.args.text.now before c.args.table.now c.fill_names-filled.new.records c.args.names.now n c.args.sentence c.fill_names-filled.result f room r
    c.in-Some.broken (c.in-Some.ensures r.program o)
    ∙ sym (ap (λ (u : TextRefusal). refused (number u) (place u)) named)

pub returns-in-None : goal.returns-in-None
returns-in-None c = λ before room r.
    let n : List NameRecord = c.fill_names-filled.new.names in
    let e : c.min-used.result - 0 ≡ c.min-used.result = omega arith in
    let f = c.fill_names-filled.ensures in
    let o : OffencesOf r.program c.offences_of-offences.result =
    offences_are c.args.text.now before c.args.table.now c.fill_names-filled.new.records c.args.names.now n c.args.sentence c.fill_names-filled.result f room r
    c.min-used.result c.min-used.ensures _ (ap (λ (k : ℕ). take k n) e) c.offences_of-offences.result c.offences_of-offences.ensures in
    accepts c.args.text.now before c.args.table.now c.fill_names-filled.new.records c.args.names.now n c.args.sentence c.fill_names-filled.result f room r
    c.saturating_sub.result c.saturating_sub.ensures (c.in-None.ensures r.program o)
