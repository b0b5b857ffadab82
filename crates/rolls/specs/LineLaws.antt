-- Lemmas for the laws of the kinds of figures that stand in files: rows of digits, line ends and signs.
use Rattle.std.proofs.Common.{◌≡◌, ℕ, ◌≤◌, true, false, not, eqb, leb, List, [], ◌∷◌, ◌++◌, length, get_or, ℤ, pos, neg_ℤ, Option, refl, ap, arith, rules}
use Rattle.std.proofs.lemmas.Str.Parse.{IsNumeralModel, numerals_by_fold}
use Rattle.std.proofs.lemmas.Bool.{and_from, and_parts, cond-false, le-leb, leb-true, ne_eqb}
use Rattle.rolls.specs.Lines.{all_digits, digits_value, is_digit, no_end, signed_line, with_sign}

-- Digits and the number they write are here what std means by them.
pub own : IsNumeralModel (λ ds. all_digits ds ≡ true) (digits_value 0)
own = numerals_by_fold _ (search rules) digits_value (search rules)

-- A byte from 48 to 57 is a digit.
pub digit_from_bounds : (b : ℕ) → 48 ≤ b → b ≤ 57 → is_digit b ≡ true
digit_from_bounds b low high = and_from (leb 48 b) (leb b 57) (le-leb 48 b low) (le-leb b 57 high)

-- One byte more that ends no line.
pub not_end : (b : ℕ) → eqb b 10 ≡ false → (bytes : List ℕ) → no_end bytes ≡ true → no_end (b ∷ bytes) ≡ true
not_end b other bytes h = and_from (not (eqb b 10)) (no_end bytes) (ap not other) h

-- A digit ends no line.
digit_is_no_end : (b : ℕ) → is_digit b ≡ true → eqb b 10 ≡ false
digit_is_no_end b digit =
    let at_least : 48 ≤ b = leb-true 48 b (and_parts (leb 48 b) (leb b 57) digit).0 in
    ne_eqb b 10 (λ e. omega arith)

-- Digits have no byte 10 among them.
pub digits_no_end : (ds : List ℕ) → all_digits ds ≡ true → no_end ds ≡ true
digits_no_end [] digits = refl
digits_no_end (d ∷ ds) digits =
    let parts = and_parts (is_digit d) (all_digits ds) digits in
    not_end d (digit_is_no_end d parts.0) ds (digits_no_end ds parts.1)

-- Two rows without a byte 10, one behind the other, have none.
pub no_end_append : (xs ys : List ℕ) → no_end xs ≡ true → no_end ys ≡ true → no_end (xs ++ ys) ≡ true
no_end_append [] ys p q = q
no_end_append (x ∷ xs) ys p q =
    let parts = and_parts (not (eqb x 10)) (no_end xs) p in
    and_from (not (eqb x 10)) (no_end (xs ++ ys)) parts.0 (no_end_append xs ys parts.1 q)

-- The number of this size behind a minus sign.
abbrev pub negative : ℕ → ℤ
negative n = neg_ℤ (pos n)

-- A line that begins with another byte than a minus sign.
pub plain_line : (writes : List ℕ → Option ℕ) (line : List ℕ) → (length line ≡ 0 → ⊥) → (get_or line 0 0 ≡ 45 → ⊥) → signed_line writes line ≡ with_sign pos (writes line)
plain_line writes [] some plain = absurd (some refl)
plain_line writes (b ∷ bytes) some plain =
    cond-false (eqb b 45) (with_sign negative (writes bytes)) (with_sign pos (writes (b ∷ bytes))) (ne_eqb b 45 plain)
