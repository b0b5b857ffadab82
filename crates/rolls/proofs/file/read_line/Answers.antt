use Rattle.std.proofs.Common.{◌≡◌, get_or, pos, ◌-ℤ◌, neg_ℤ, rules, arith, w32, to_z, of_z}
use Rattle.std.proofs.lemmas.Int.{ints}
use Rattle.rolls.proofs.Signs.{minus_found, minus_none}
use Rattle.rolls.proofs.file.read_line.Goals as goal

pub returns-in_err-number : goal.returns-in_err-number
returns-in_err-number g c =
    let bytes = c.args.bytes.now in
    let minus : get_or bytes 0 0 ≡ 45 = search rules in
    rw c.from_residual.ensures (minus_none g.F.LineFigures.unsigned bytes (omega arith) minus c.in_err-number.ensures.line)

pub returns-in-45 : goal.returns-in-45
returns-in-45 g c =
    let bytes = c.args.bytes.now in
    let n = c.in_ok-number.number in
    let minus : get_or bytes 0 0 ≡ 45 = search rules in
    let line = c.in_ok-number.ensures.line in
    let small = c.in_ok-number.ensures.small in
    let figure : to_z w32 (of_z w32 (pos 0 -ℤ to_z w32 n)) ≡ neg_ℤ (pos n) = omega (arith, ints) in
    minus_found g.F.LineFigures.unsigned bytes (omega arith) minus n _ c.in_ok-number.rest.now figure line
