-- Rows of digits: one digit more at the end, and how large a number ten digits can write.
use Rattle.std.proofs.Common.{◌≡◌, ℕ, ◌+◌, ◌-◌, ◌*◌, ◌<◌, ◌≤◌, true, List, [], ◌∷◌, ◌++◌, length, refl}
use Rattle.std.proofs.lemmas.Str.Parse.{digits_value_short}
use Rattle.std.proofs.lemmas.Bool.{and_parts, and_from}
use Rattle.rolls.specs.LineLaws.{own}
use Rattle.rolls.specs.Lines.{all_digits, digits_value, is_digit}

pub digits_value_push : (n : ℕ) (ds : List ℕ) (b : ℕ) → digits_value n (ds ++ b ∷ []) ≡ 10 * digits_value n ds + (b - 48)
digits_value_push n [] b = refl
digits_value_push n (d ∷ ds) b = digits_value_push (10 * n + (d - 48)) ds b

pub all_digits_push : (ds : List ℕ) (b : ℕ) → all_digits ds ≡ true → is_digit b ≡ true → all_digits (ds ++ b ∷ []) ≡ true
all_digits_push [] b p q = and_from (is_digit b) true q refl
all_digits_push (d ∷ ds) b p q =
    let both = and_parts (is_digit d) (all_digits ds) p in
    and_from (is_digit d) (all_digits (ds ++ b ∷ [])) both.0 (all_digits_push ds b both.1 q)

-- Ten digits write a number below 10,000,000,000.
pub ten_digits_below : (ds : List ℕ) → all_digits ds ≡ true → length ds ≤ 10 → digits_value 0 ds < 10000000000
ten_digits_below ds digits short = digits_value_short own ds 10 digits short
