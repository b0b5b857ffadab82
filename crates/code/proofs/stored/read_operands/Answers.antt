use Rattle.std.proofs.Common.{sym, ◌∙◌, arith}
use Rattle.code.proofs.Bytes.{number_of_8, numbers_step}
use Rattle.code.proofs.stored.read_operands.Goals as goal

pub loop-place-preserved : goal.loop-place-preserved
loop-place-preserved c =
    let i = c.loop-place.place in
    let word = c.from_le_bytes.ensures ∙ sym (number_of_8 _ (c.told-words i c.loop-place-test.true)) in
    numbers_step i _ c.args.words.now c.args.operands.now c.loop-place-test.true (omega arith) c.loop-place.invariant word
