use Rattle.std.proofs.Common.{◌+◌, ◌*◌, drop, sym, ap, ◌∙◌, arith}
use Rattle.std.proofs.lemmas.List.{at_drop_more, at_drop_all}
use Rattle.words.specs.Spelling.{value_after}
use Rattle.words.proofs.Digits.{digits_to_range, ten_to_next, ten_to_at_most_8}
use Rattle.words.proofs.bytes.value.Goals as goal

pub overflow_mul-v : goal.overflow_mul-v
overflow_mul-v c = omega (arith, ten_to_at_most_8 c.loop-b.b-index (omega arith), c.loop-b.invariant.1)

pub overflow_sub-b : goal.overflow_sub-b
overflow_sub-b c = (digits_to_range c.args.digits.now c.loop-b.b-index c.loop-b-test.true c.requires.digits).0

pub overflow_add-v : goal.overflow_add-v
overflow_add-v c =
    let d = digits_to_range c.args.digits.now c.loop-b.b-index c.loop-b-test.true c.requires.digits in
    omega (arith, ten_to_at_most_8 c.loop-b.b-index (omega arith), c.loop-b.invariant.1, d.1)

pub loop-b-preserved : goal.loop-b-preserved
loop-b-preserved c =
    let e = at_drop_more (value_after c.loop-b.v) c.args.digits.now c.loop-b.b-index 0 c.loop-b-test.true in
    let d = digits_to_range c.args.digits.now c.loop-b.b-index c.loop-b-test.true c.requires.digits in
    let digit = ap (λ d. value_after (c.loop-b.v * 10 + d) (drop (c.loop-b.b-index + 1) c.args.digits.now)) c.from.ensures in
    (digit ∙ sym e ∙ c.loop-b.invariant.0, rw (ten_to_next c.loop-b.b-index) (omega (arith, c.loop-b.invariant.1, d.1)))

pub returns : goal.returns
returns c = sym (at_drop_all (value_after c.loop-b.v) c.args.digits.now c.loop-b.b-index c.loop-b-test.false) ∙ c.loop-b.invariant.0
