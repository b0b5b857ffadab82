use Rattle.std.proofs.Common.{◌≡◌, ℕ, ◌<◌, length, get_or, sym, rules}
use Rattle.rolls.specs.AmountLaws.{amount_line_no_end}
use Rattle.rolls.specs.Amounts.{amount}
use Rattle.rolls.proofs.LineEnds.{no_line, row_line, row_none}
use Rattle.rolls.proofs.amounts.HundredthsLineFigures.read_unsigned.Goals as goal

pub returns-in_err-end-clause-line : goal.returns-in_err-end-clause-line
returns-in_err-end-clause-line c =
    let bytes = c.args.bytes.now in
    let none : (k : ℕ) → k < length bytes → get_or bytes k 0 ≡ 10 → ⊥ = search rules in
    rw c.from_residual.ensures (no_line amount bytes none)

pub returns-in_err-number-clause-line : goal.returns-in_err-number-clause-line
returns-in_err-number-clause-line c =
    let bytes = c.args.bytes.now in
    let end = c.in_ok-end.end in
    let inside : end < length bytes = search rules in
    let is : get_or bytes end 0 ≡ 10 = search rules in
    let none : (k : ℕ) → k < end → get_or bytes k 0 ≡ 10 → ⊥ = search rules in
    rw c.from_residual-in_err-number.ensures
    (row_none amount amount_line_no_end bytes end inside is none (sym c.in_err-number.ensures.value))

pub returns-clause-line : goal.returns-clause-line
returns-clause-line c =
    let bytes = c.args.bytes.now in
    let end = c.in_ok-end.end in
    let inside : end < length bytes = search rules in
    let is : get_or bytes end 0 ≡ 10 = search rules in
    let none : (k : ℕ) → k < end → get_or bytes k 0 ≡ 10 → ⊥ = search rules in
    row_line amount amount_line_no_end bytes end inside is none c.in_ok-number.number (sym c.in_ok-number.ensures.value)
