use Rattle.std.proofs.Common.{◌<◌, ◌≤◌, ℕ, List, Ok, length, refl, ap, arith}
use Rattle.std.specs.List.{flat_map}
use Rattle.std.proofs.lemmas.List.{take_all}
use Rattle.std.proofs.Output.{has_written_of_eq}
use Rattle.reports.proofs.Writing.{written_more}
use Rattle.reports.proofs.each.write_each.Goals as goal

pub loop-byte-preserved : goal.loop-byte-preserved
loop-byte-preserved g c = (
  c.loop-byte.invariant.0,
  λ shown h plain.
      let l : c.loop-byte.byte-index < length c.args.bytes.now = omega arith in
      written_more _ _ _ _ shown c.args.bytes.now c.loop-byte.byte-index _ _ (Ok c.in_ok-write.field-0) l
      (c.loop-byte.invariant.1 shown h plain) (h _ _ c.show-value.ensures) refl c.in_ok-write.ensures.writes,
)

pub returns : goal.returns
returns g c = λ shown h plain ok.
    let l : length c.args.bytes.now ≤ c.loop-byte.byte-index = omega arith in
    has_written_of_eq _ _ _ _ _ (ap (λ (ys : List ℕ). flat_map shown ys) (take_all c.loop-byte.byte-index c.args.bytes.now l)) (c.loop-byte.invariant.1 shown h plain)
