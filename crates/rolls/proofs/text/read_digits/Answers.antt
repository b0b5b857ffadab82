use Rattle.std.proofs.Common.{◌≡◌, ◌+◌, ◌-◌, ◌*◌, ◌<◌, ◌≤◌, true, length, get_or, take, sym, ap, ◌∙◌, arith, length-take}
use Rattle.std.proofs.lemmas.List.{get_or-take, take_more}
use Rattle.rolls.specs.Lines.{all_digits, digits_value, is_digit}
use Rattle.rolls.specs.LineLaws.{digit_from_bounds}
use Rattle.rolls.proofs.Digits.{all_digits_push, digits_value_push, ten_digits_below}
use Rattle.rolls.proofs.text.read_digits.Goals as goal

-- The value before a turn has at most ten digits.
pub overflow_mul-value : goal.overflow_mul-value
overflow_mul-value c =
    let front = length-take c.min.result c.args.bytes.now in
    let ds = take c.loop-i.i c.args.bytes.now in
    let short : length ds ≤ 10 = simp length-take (omega arith) in
    let below = ten_digits_below ds c.loop-i.invariant.0 short in
    omega (arith, c.loop-i.invariant.1)

pub overflow_add-value : goal.overflow_add-value
overflow_add-value c =
    let front = length-take c.min.result c.args.bytes.now in
    let ds = take c.loop-i.i c.args.bytes.now in
    let short : length ds ≤ 10 = simp length-take (omega arith) in
    let below = ten_digits_below ds c.loop-i.invariant.0 short in
    let digit = c.if-not-is_ascii_digit.ensures.cases in
    omega (arith, c.loop-i.invariant.1)

pub loop-i-preserved : goal.loop-i-preserved
loop-i-preserved c =
    let bytes = c.args.bytes.now in
    let i = c.loop-i.i in
    let b = get_or bytes i 0 in
    let ds = take i bytes in
    let front = length-take c.min.result bytes in
    let within : i < length bytes = omega arith in
    let same : get_or (take c.min.result bytes) i 0 ≡ b = get_or-take c.min.result bytes i 0 (omega arith) in
    let more = take_more bytes i 0 within in
    let ascii = c.if-not-is_ascii_digit.ensures.cases in
    let digit : is_digit b ≡ true = digit_from_bounds b (omega arith) (omega arith) in
    let value : 10 * c.loop-i.value + c.from.result ≡ 10 * digits_value 0 ds + (b - 48) = omega (arith, c.loop-i.invariant.1) in (
      ap all_digits more ∙ all_digits_push ds b c.loop-i.invariant.0 digit,
      value ∙ sym (ap (digits_value 0) more ∙ digits_value_push 0 ds b),
    )
