use Rattle.std.proofs.Common.{◌≡◌, ◌+◌, ◌*◌, ◌++◌, length, get_or, take, drop, sym, ap, ◌∙◌, arith}
use Rattle.std.proofs.lemmas.List.{take_all}
use Rattle.std.specs.List.{flat_map}
use Rattle.code.specs.Files.{bytes_of}
use Rattle.code.proofs.Bytes.{bytes_of_8, drop_beyond, joined_step, written_front, written_rest}
use Rattle.code.proofs.stored.write_operands.Goals as goal

pub loop-i-preserved : goal.loop-i-preserved
loop-i-preserved c =
    let step : c.args.at + 8 * (c.loop-i.i + 1) ≡ c.args.at + 8 * c.loop-i.i + 8 = omega arith in
    let here = c.args.at + 8 * c.loop-i.i in
    let x = get_or c.args.operands.now c.loop-i.i 0 in
    let word = c.to_le_bytes.ensures ∙ bytes_of_8 x in
    let rest = written_rest here 8 x _ _ word c.write.ensures.rest ∙ drop_beyond here (here + 8) c.args.buffer.now c.loop-i.buffer (omega arith) c.loop-i.invariant.1 in (
      joined_step c.args.at c.loop-i.i c.args.operands.now (take c.args.at c.args.buffer.now) c.loop-i.buffer _ c.loop-i-test.true c.loop-i.invariant.0 (written_front here 8 x _ _ word c.write.ensures.front),
      ap (λ n. drop n c.write.new.buffer) step ∙ rest ∙ ap (λ n. drop n c.args.buffer.now) (sym step),
    )

pub returns : goal.returns
returns c =
    let all : c.loop-i.i ≡ length c.args.operands.now = omega arith in
    let front = take c.args.at c.args.buffer.now in
    record {
      front =
          ap (λ n. take (c.args.at + 8 * n) c.loop-i.buffer) (sym all) ∙ c.loop-i.invariant.0
          ∙ ap (λ t. front ++ flat_map (bytes_of 8) t) (take_all c.loop-i.i c.args.operands.now c.loop-i-test.false);
      rest = ap (λ n. drop (c.args.at + 8 * n) c.loop-i.buffer) (sym all) ∙ c.loop-i.invariant.1 ∙ ap (λ n. drop (c.args.at + 8 * n) c.args.buffer.now) all;
    }
