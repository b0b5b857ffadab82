-- Digits and the values they write: n digits write a number below 10 to the n.
use Rattle.std.proofs.Common.{◌≡◌, ℕ, ◌+◌, ◌*◌, ◌^◌, ◌<◌, ◌≤◌, true, List, length, get_or, ap, ◌∙◌, pow-suc, add-one, arith}
use native.Mathlib.Nat.{pow-le-pow_right}
use Rattle.std.specs.Char.{is_ascii_digit}
use Rattle.std.proofs.lemmas.Bool.Decides.{nat_tests}
use Rattle.std.proofs.ByRecursion.{All-get_or}
use Rattle.words.specs.Spelling.{MadeOf}

-- A digit is byte 48 to 57.
pub digit_to_range : (b : ℕ) → is_ascii_digit b ≡ true → (48 ≤ b) × (b ≤ 57)
digit_to_range b h = (grind (arith, nat_tests), grind (arith, nat_tests))

pub digits_to_range : (s : List ℕ) (i : ℕ) → i < length s → MadeOf is_ascii_digit s → (48 ≤ get_or s i 0) × (get_or s i 0 ≤ 57)
digits_to_range s i lt m = digit_to_range (get_or s i 0) (All-get_or (λ b. is_ascii_digit b ≡ true) s i 0 lt m)

-- Ten to a power, one further and bounded.
pub ten_to_next : (i : ℕ) → 10 ^ (i + 1) ≡ 10 ^ i * 10
ten_to_next i = ap (λ n. 10 ^ n) (add-one i) ∙ pow-suc 10 i

pub ten_to_at_most_8 : (i : ℕ) → i ≤ 8 → 10 ^ i ≤ 100000000
ten_to_at_most_8 i h = pow-le-pow_right {n = 10} (omega arith) {i = i} {j = 8} h
