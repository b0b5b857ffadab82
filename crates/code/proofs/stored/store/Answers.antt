use Rattle.std.proofs.Common.{ap}
use Rattle.std.proofs.lemmas.Result.{err_from_is_err_and}
use Rattle.code.specs.Codes.{Code}
use Rattle.code.proofs.RoundTrip.{stored_to_reloads}
use Rattle.code.proofs.Storing.{stored_buffer, store_done, store_refused}
use Rattle.code.proofs.stored.store.Goals as goal

pub returns-in_err-code : goal.returns-in_err-code
returns-in_err-code c =
    let p = err_from_is_err_and c.from_residual.result c.from_residual.ensures.1 in
    let e = c.in_err-code.ensures in
    rw (p.1, p.2) (record { answer = store_refused c.args.sizes c.args.operations.now c.args.operands.now c.args.buffer.now _ e.decided e.cut; reloads = tt })

pub returns : goal.returns
returns c =
    let s = c.args.sizes in
    let os = c.args.operations.now in
    let xs = c.args.operands.now in
    let before = c.args.buffer.now in
    let after = c.write_operands.new.buffer in
    let good = c.in_ok-code.ensures.decided in
    let code = c.in_ok-code.code in
    let cut = c.in_ok-code.ensures.cut in
    let filled = stored_buffer s os xs good code.operations.now code.operands.now before c.write_header.new.buffer c.write.new.buffer after
    (ap (λ (c : Code). c.operations) cut) (ap (λ (c : Code). c.operands) cut)
    c.write_header.ensures.front c.write_header.ensures.rest c.write.ensures.front c.write.ensures.rest
    c.write_operands.ensures.front c.write_operands.ensures.rest in
    record {
      answer = store_done s os xs before after good c.if-buffer-length.false filled;
      reloads = stored_to_reloads s os xs before after good (λ i. (c.type_inv.operands i).fits) filled;
    }
