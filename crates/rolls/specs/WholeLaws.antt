-- The laws of whole figures in files: a line that writes a number has no byte 10 inside, and the line of a written
-- number holds it.
use Rattle.std.proofs.Common.{◌≡◌, ℕ, suc, ◌^◌, ◌<◌, ◌≤◌, true, false, leb, List, [], ◌∷◌, length, ℤ, pos, negsuc, ◌≤ℤ◌, Some, None, decimal, ap, ◌∙◌, ⊎_elim, arith, leb→le}
use Rattle.std.proofs.lemmas.Fmt.{decimal_nonempty, digits_decimal, length-decimal-le, digits_value-decimal}
use Rattle.std.proofs.lemmas.Bool.{and_from, and_parts, cases_Bool, cond-false, cond-true, le-leb, leb-true}
use Rattle.std.specs.Fmt.{signed_decimal}
use Rattle.figures.specs.Range.{low, high}
use Rattle.rolls.specs.Lines.{all_digits, digits_value, is_digit, is_magnitude, line_figure, magnitude, no_end, with_sign}
use Rattle.rolls.specs.LineLaws.{digits_no_end, negative, own, plain_line}

-- A line with a magnitude has no byte 10 inside.
pub magnitude_no_end : (ds : List ℕ) (n : ℕ) → magnitude ds ≡ Some n → no_end ds ≡ true
magnitude_no_end ds n writes =
    ⊎_elim
    (λ (passes : is_magnitude ds ≡ true). digits_no_end ds (and_parts (all_digits ds) _ passes).0)
    (λ (fails : is_magnitude ds ≡ false).
    let none = cond-false (is_magnitude ds) (Some (digits_value 0 ds)) None fails in
    cc)
    (cases_Bool (is_magnitude ds))

-- A line that writes a magnitude begins with a digit, so it holds that number.
pub magnitude_figure : (line : List ℕ) (n : ℕ) → magnitude line ≡ Some n → line_figure line ≡ Some (pos n)
magnitude_figure [] n writes = cc
magnitude_figure (b ∷ bytes) n writes =
    ⊎_elim
    (λ (passes : is_magnitude (b ∷ bytes) ≡ true).
    let digits = (and_parts (all_digits (b ∷ bytes)) _ passes).0 in
    let digit = (and_parts (is_digit b) (all_digits bytes) digits).0 in
    let at_least : 48 ≤ b = leb-true 48 b (and_parts (leb 48 b) (leb b 57) digit).0 in
    plain_line magnitude (b ∷ bytes) (λ e. omega arith) (λ e. omega arith) ∙ ap (with_sign pos) writes)
    (λ (fails : is_magnitude (b ∷ bytes) ≡ false).
    let none = cond-false (is_magnitude (b ∷ bytes)) (Some (digits_value 0 (b ∷ bytes))) None fails in
    cc)
    (cases_Bool (is_magnitude (b ∷ bytes)))

-- A number of the range, written out, is read as that number.
decimal_magnitude : (n : ℕ) → n ≤ 2000000000 → magnitude (decimal n) ≡ Some n
decimal_magnitude n small =
    let ds = decimal n in
    let wide : n < 2 ^ 64 = omega arith in
    let value : digits_value 0 ds ≡ n = digits_value-decimal own n wide in
    let passes : is_magnitude ds ≡ true =
    and_from (all_digits ds) _ (digits_decimal own n wide)
    (and_from (leb 1 (length ds)) _ (le-leb 1 (length ds) (decimal_nonempty n wide))
    (and_from (leb (length ds) 10) _ (le-leb (length ds) 10 (length-decimal-le 10 n (omega arith) (omega arith) wide))
    (le-leb (digits_value 0 ds) 2000000000 (omega arith))))
    in
    cond-true (is_magnitude ds) (Some (digits_value 0 ds)) None passes ∙ ap Some value

-- A figure's line holds it.
pub signed_figure : (z : ℤ) → low ≤ℤ z → z ≤ℤ high → line_figure (signed_decimal z) ≡ Some z
signed_figure (pos n) above below = magnitude_figure (decimal n) n (decimal_magnitude n (leb→le n 2000000000 below.le))
signed_figure (negsuc n) above below =
    let least : n ≤ 1999999999 = leb→le n 1999999999 above.le in
    ap (with_sign negative) (decimal_magnitude (suc n) (omega arith))
