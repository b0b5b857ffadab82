use Rattle.std.proofs.Common.{ℕ, refl}
use Rattle.std.proofs.lemmas.Result.{err_from_is_err_and}
use Rattle.parser.proofs.Moving.{moves_trans}
use Rattle.parser.proofs.Stepping.{goes_on, fails_missing}
use Rattle.parser.proofs.Groups.{sign_read}
use Rattle.parser.proofs.table.Parser.bound.Goals as goal

pub returns-in_err-size : goal.returns-in_err-size
returns-in_err-size c =
    let p = err_from_is_err_and c.from_residual.result c.from_residual.ensures.1 in
    let g = λ (l : ℕ). sign_read {L = l} c.take.new.self c.take.result c.take.ensures in
    record {
      moves = moves_trans c.args.self.now c.take.new.self c.expect.new.self (g 0).moves c.expect.ensures.moves;
      reads = λ l. rw (p.1, p.2) (fails_missing _ c.in_err-size.ensures.took (g l));
    }

pub returns : goal.returns
returns c =
    let g = λ (l : ℕ). goes_on c.in_ok-size.ensures.took refl refl (λ d. refl) (sign_read {L = l} c.take.new.self c.take.result c.take.ensures) in
    rw c.unwrap_or-sign.ensures (record { moves = (g 0).moves; reads = λ l. g l })
