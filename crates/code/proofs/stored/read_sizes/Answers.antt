use Rattle.std.proofs.Common.{arith}
use Rattle.code.proofs.Bytes.{word_at}
use Rattle.code.proofs.stored.read_sizes.Goals as goal

pub returns : goal.returns
returns c =
    let bs = c.args.bytes.now in
    let words = c.as_chunks.ensures.front in
    let n = word_at _ bs 0 0 _ words (omega arith) (omega arith) c.from_le_bytes.ensures in
    let v = word_at _ bs 1 4 _ words (omega arith) (omega arith) c.from_le_bytes-2.ensures in
    let m = word_at _ bs 2 8 _ words (omega arith) (omega arith) c.from_le_bytes-3.ensures in
    let d = word_at _ bs 3 12 _ words (omega arith) (omega arith) c.from_le_bytes-4.ensures in
    cc
