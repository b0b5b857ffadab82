use Rattle.std.proofs.Common.{◌≡◌, ◌++◌, take, ap, ◌∙◌, append_assoc, arith}
use Rattle.code.specs.Files.{bytes_of}
use Rattle.code.proofs.Bytes.{bytes_of_4, drop_beyond, written_front, written_rest}
use Rattle.code.proofs.stored.write_header.Goals as goal

pub returns : goal.returns
returns c =
    let s = c.args.sizes in
    let a = c.args.buffer.now in
    let b₁ = c.write.new.buffer in
    let b₂ = c.write-2.new.buffer in
    let b₃ = c.write-3.new.buffer in
    let b₄ = c.write-4.new.buffer in
    let n = c.to_le_bytes.ensures ∙ bytes_of_4 s.operations in
    let v = c.to_le_bytes-2.ensures ∙ bytes_of_4 s.named in
    let m = c.to_le_bytes-3.ensures ∙ bytes_of_4 s.cells in
    let d = c.to_le_bytes-4.ensures ∙ bytes_of_4 s.depth in
    let one : take 4 b₁ ≡ bytes_of 4 s.operations = written_front 0 4 s.operations a b₁ n c.write.ensures.front in
    let two : take 8 b₂ ≡ bytes_of 4 s.operations ++ bytes_of 4 s.named = written_front 4 4 s.named b₁ b₂ v c.write-2.ensures.front ∙ ap (λ t. t ++ bytes_of 4 s.named) one in
    let three : take 12 b₃ ≡ bytes_of 4 s.operations ++ bytes_of 4 s.named ++ bytes_of 4 s.cells = written_front 8 4 s.cells b₂ b₃ m c.write-3.ensures.front ∙ ap (λ t. t ++ bytes_of 4 s.cells) two in
    let four : take 16 b₄ ≡ bytes_of 4 s.operations ++ bytes_of 4 s.named ++ bytes_of 4 s.cells ++ bytes_of 4 s.depth = written_front 12 4 s.depth b₃ b₄ d c.write-4.ensures.front ∙ ap (λ t. t ++ bytes_of 4 s.depth) three in
    record {
      front = four ∙ simp append_assoc;
      rest =
          written_rest 12 4 s.depth b₃ b₄ d c.write-4.ensures.rest
          ∙ drop_beyond 12 16 b₂ b₃ (omega arith) (written_rest 8 4 s.cells b₂ b₃ m c.write-3.ensures.rest)
          ∙ drop_beyond 8 16 b₁ b₂ (omega arith) (written_rest 4 4 s.named b₁ b₂ v c.write-2.ensures.rest)
          ∙ drop_beyond 4 16 a b₁ (omega arith) (written_rest 0 4 s.operations a b₁ n c.write.ensures.rest);
    }
