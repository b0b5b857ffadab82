-- The laws of amounts in files: a line that writes an amount has no byte 10 inside, and the line of a written amount
-- holds it.
use Rattle.std.proofs.Common.{◌≡◌, ℕ, suc, ◌+◌, ◌-◌, ◌*◌, ◌/◌, ◌%◌, ◌^◌, ◌<◌, ◌≤◌, true, false, leb, List, [], ◌∷◌, ◌++◌, length, get_or, take, drop, ℤ, pos, negsuc, ◌≤ℤ◌, Some, None, decimal, Option, sym, refl, ap, ◌∙◌, ap₂, ⊎_elim, arith, leb→le}
use Rattle.std.proofs.lemmas.Fmt.{decimal_nonempty, digits_decimal, length-decimal-le, digits_value-decimal}
use Rattle.std.proofs.lemmas.List.{append_assoc, drop_at, drop_more, get_or_append_left, get_or_at, length-append, length_push, take_at, take-append-drop}
use Rattle.std.proofs.lemmas.Bool.{and_from, and_parts, cases_Bool, cond-false, cond-true, eq-eqb, eqb-true, le-leb, leb-true}
use Rattle.figures.specs.Range.{low, high}
use Rattle.rolls.specs.Amounts.{amount, amount_digits, amount_figure, amount_text, digits_number, has_point, in_hundredths, is_number}
use Rattle.rolls.specs.Lines.{all_digits, digits_value, is_digit, no_end, with_sign}
use Rattle.rolls.specs.LineLaws.{digit_from_bounds, digits_no_end, negative, no_end_append, own, plain_line}

-- A row that fails a test writes no number.
pub number_none : (ds : List ℕ) → is_number ds ≡ false → digits_number ds ≡ None
number_none ds fails = cond-false (is_number ds) (Some (digits_value 0 ds)) None fails

module _ (line : List ℕ) where
  -- What a line with a point writes.
  pub point_amount : 3 ≤ length line → get_or line (length line - 3) 0 ≡ 46 → amount line ≡ in_hundredths (digits_number (take (length line - 3) line)) (digits_number (drop (length line - 2) line))
  point_amount long point =
      cond-true (has_point line) _ (in_hundredths (digits_number line) (Some 0))
      (and_from (leb 3 (length line)) _ (le-leb 3 (length line) long) (eq-eqb (get_or line (length line - 3) 0) 46 point))

-- A row that writes a number has no byte 10 inside.
number_no_end : (ds : List ℕ) (n : ℕ) → digits_number ds ≡ Some n → no_end ds ≡ true
number_no_end ds n writes =
    ⊎_elim
    (λ (passes : is_number ds ≡ true). digits_no_end ds (and_parts (all_digits ds) _ passes).0)
    (λ (fails : is_number ds ≡ false).
    let none = number_none ds fails in
    cc)
    (cases_Bool (is_number ds))

-- An amount has both its parts.
both_parts : (whole part : Option ℕ) (n : ℕ) → in_hundredths whole part ≡ Some n → ((w : ℕ) × (whole ≡ Some w)) × ((p : ℕ) × (part ≡ Some p))
both_parts (Some w) (Some p) n h = ((w, refl), (p, refl))
both_parts (Some w) None n h = cc
both_parts None part n h = cc

-- A line that writes an amount has no byte 10 inside.
pub amount_line_no_end : (line : List ℕ) (n : ℕ) → amount line ≡ Some n → no_end line ≡ true
amount_line_no_end line n writes =
    ⊎_elim
    (λ (point : has_point line ≡ true).
    let tests = and_parts (leb 3 (length line)) _ point in
    let long : 3 ≤ length line = leb-true 3 (length line) tests.0 in
    let is : get_or line (length line - 3) 0 ≡ 46 = eqb-true (get_or line (length line - 3) 0) 46 tests.1 in
    let both = both_parts (digits_number (take (length line - 3) line)) (digits_number (drop (length line - 2) line)) n (sym (point_amount line long is) ∙ writes) in
    let inside : length line - 3 < length line = omega arith in
    let behind : length line - 3 + 1 ≡ length line - 2 = omega arith in
    let tail : drop (length line - 3) line ≡ 46 ∷ drop (length line - 2) line = drop_more line (length line - 3) 0 inside ∙ ap₂ (λ b k. b ∷ drop k line) is behind in
    sym (ap no_end (sym (ap (λ t. take (length line - 3) line ++ t) tail) ∙ take-append-drop (length line - 3) line))
    ∙ no_end_append (take (length line - 3) line) (46 ∷ drop (length line - 2) line) (number_no_end (take (length line - 3) line) both.0.0 both.0.1) (number_no_end (drop (length line - 2) line) both.1.0 both.1.1))
    (λ (plain : has_point line ≡ false).
    let both = both_parts (digits_number line) (Some 0) n (sym (cond-false (has_point line) _ (in_hundredths (digits_number line) (Some 0)) plain) ∙ writes) in
    number_no_end line both.0.0 both.0.1)
    (cases_Bool (has_point line))

-- The first of some digits is at least 48.
first_digit : (ds : List ℕ) → all_digits ds ≡ true → 0 < length ds → 48 ≤ get_or ds 0 0
first_digit [] digits some = absurd (omega arith)
first_digit (d ∷ ds) digits some =
    let digit = (and_parts (is_digit d) (all_digits ds) digits).0 in
    leb-true 48 d (and_parts (leb 48 d) (leb d 57) digit).0

module _ (n : ℕ) (small : n ≤ 2000000000) where
  -- The digits of the units of an amount of n hundredths.
  abbrev units : List ℕ
  units = decimal (n / 100)

  -- The first digit behind the point.
  abbrev tenths : ℕ
  tenths = 48 + n % 100 / 10

  -- The second digit behind the point.
  abbrev last : ℕ
  last = 48 + n % 10

  -- The units are a number of 64 bits.
  wide : n / 100 < 2 ^ 64
  wide = omega arith

  -- The digits of the units are digits.
  units_digits : all_digits units ≡ true
  units_digits = digits_decimal own (n / 100) wide

  -- They write the units.
  units_number : digits_number units ≡ Some (n / 100)
  units_number =
      let passes : is_number units ≡ true =
      and_from (all_digits units) _ units_digits
      (and_from (leb 1 (length units)) _ (le-leb 1 (length units) (decimal_nonempty (n / 100) wide))
      (le-leb (length units) 10 (length-decimal-le 10 (n / 100) (omega arith) (omega arith) wide)))
      in
      cond-true (is_number units) (Some (digits_value 0 units)) None passes ∙ ap Some (digits_value-decimal own (n / 100) wide)

  -- The two digits behind the point write the hundredths.
  hundredths_number : digits_number (tenths ∷ last ∷ []) ≡ Some (n % 100)
  hundredths_number =
      let row = tenths ∷ last ∷ [] in
      let first : is_digit tenths ≡ true = digit_from_bounds tenths (omega arith) (omega arith) in
      let second : is_digit last ≡ true = digit_from_bounds last (omega arith) (omega arith) in
      let digits : all_digits row ≡ true = and_from (is_digit tenths) _ first (and_from (is_digit last) true second refl) in
      let value : digits_value 0 row ≡ n % 100 = omega arith in
      cond-true (is_number row) (Some (digits_value 0 row)) None (and_from (all_digits row) _ digits refl) ∙ ap Some value

  -- The digits of an amount write it.
  digits_amount : amount (amount_digits n) ≡ Some n
  digits_amount =
      let line = amount_digits n in
      let total : length line ≡ length units + 3 = length-append units (46 ∷ tenths ∷ last ∷ []) in
      let long : 3 ≤ length line = omega arith in
      let there : length units ≡ length line - 3 = omega arith in
      let point : get_or line (length line - 3) 0 ≡ 46 = get_or_at units 46 (tenths ∷ last ∷ []) 0 (length line - 3) there in
      let front : take (length line - 3) line ≡ units = take_at units (46 ∷ tenths ∷ last ∷ []) (length line - 3) there in
      let pushed = length_push units 46 in
      let behind : length (units ++ 46 ∷ []) ≡ length line - 2 = omega arith in
      let back : drop (length line - 2) line ≡ tenths ∷ last ∷ [] =
      ap (drop (length line - 2)) (sym (append_assoc units (46 ∷ []) (tenths ∷ last ∷ [])))
      ∙ drop_at (units ++ 46 ∷ []) (tenths ∷ last ∷ []) (length line - 2) behind
      in
      let same : 100 * (n / 100) + n % 100 ≡ n = omega arith in
      point_amount line long point
      ∙ ap₂ in_hundredths (ap digits_number front ∙ units_number) (ap digits_number back ∙ hundredths_number)
      ∙ cond-true (leb (100 * (n / 100) + n % 100) 2000000000) (Some (100 * (n / 100) + n % 100)) None (le-leb (100 * (n / 100) + n % 100) 2000000000 (omega arith))
      ∙ ap Some same

  -- They begin with a digit, so that their line holds the amount as it is.
  digits_figure : amount_figure (amount_digits n) ≡ Some (pos n)
  digits_figure =
      let line = amount_digits n in
      let some = decimal_nonempty (n / 100) wide in
      let total : length line ≡ length units + 3 = length-append units (46 ∷ tenths ∷ last ∷ []) in
      let first : get_or line 0 0 ≡ get_or units 0 0 = get_or_append_left units (46 ∷ tenths ∷ last ∷ []) 0 0 some in
      let large = first_digit units units_digits some in
      plain_line amount line (λ e. omega arith) (λ e. omega arith) ∙ ap (with_sign pos) digits_amount

-- An amount's line holds it.
pub written_amount : (z : ℤ) → low ≤ℤ z → z ≤ℤ high → amount_figure (amount_text z) ≡ Some z
written_amount (pos n) above below = digits_figure n (leb→le n 2000000000 below.le)
written_amount (negsuc n) above below =
    let least : n ≤ 1999999999 = leb→le n 1999999999 above.le in
    ap (with_sign negative) (digits_amount (suc n) (omega arith))
