use Rattle.std.proofs.Common.{◌≡◌, ◌+◌, ◌-◌, length, take, drop, sym, ap, ◌∙◌, arith}
use Rattle.std.proofs.lemmas.List.{length-take, length-drop}
use Rattle.code.proofs.Bytes.{numbers_read}
use Rattle.code.proofs.RoundTrip.{loaded_to_file}
use Rattle.code.proofs.Storing.{load_short, load_done, loaded_operations}
use Rattle.code.proofs.stored.load.Goals as goal

pub returns-then-bytes-lt-HEADER : goal.returns-then-bytes-lt-HEADER
returns-then-bytes-lt-HEADER c =
    record { answer = load_short c.args.bytes.now c.args.operations.now c.args.operands.now c.if-bytes-lt-HEADER.true; restores = tt }

pub returns : goal.returns
returns c =
    let s = c.read_sizes-sizes.result in
    let bs = c.args.bytes.now in
    let good = sym c.are_lent_sizes_ok.ensures ∙ c.if-not-are_lent_sizes_ok.false in
    let size : (16 + s.operations) - 16 ≡ s.operations = omega arith in
    let part = take ((16 + s.operations) - 16) (drop 16 bs) in
    let long : length part ≡ s.operations = simp (length-take, length-drop) (omega arith) in
    let ops = loaded_operations s.operations bs part c.args.operations.now c.write.new.buffer (ap (λ k. take k (drop 16 bs)) size) long c.write.ensures.front c.write.ensures.rest in
    let os = c.args.operations.now in
    let xs = c.args.operands.now in
    let os' = c.write.new.buffer in
    let xs' = c.read_operands.new.operands in
    let nums = numbers_read s.operations (16 + s.operations) bs xs xs' c.as_chunks.result.0.now (omega arith) c.as_chunks.ensures.front c.read_operands.ensures in
    record {
      answer = load_done s bs os xs os' xs' c.read_sizes-sizes.ensures c.if-bytes-count.false good ops nums;
      restores = loaded_to_file bs (λ i. (c.type_inv.bytes i).fits) s os xs os' xs' c.read_sizes-sizes.ensures c.if-bytes-count.false ops nums;
    }
