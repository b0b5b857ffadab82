-- Two digits, as a format writes them.
use Rattle.std.proofs.Common.{◌≡◌, ℕ, ◌+◌, ◌-◌, ◌/◌, ◌%◌, ◌^◌, ◌<◌, false, [], ◌∷◌, arith, ⊎_elim}
use Rattle.std.specs.Fmt.{decimal, format_spec, padded_integral, char_count}
use Rattle.std.proofs.lemmas.Bool.{cases_lt}
use Rattle.std.proofs.lemmas.Fmt.{decimal_digit, decimal_step}

-- What `{:02}` writes of a number below 100.
pub two_digits : (n : ℕ) → n < 100 → padded_integral (format_spec 32 0 4 2 (2 ^ 64 - 1)) false [] (decimal n) ≡ (48 + n / 10) ∷ (48 + n % 10) ∷ []
unfolding padded_integral char_count
two_digits n small = ⊎_elim
    (λ one. let high : n / 10 ≡ 0 = omega arith in let low : n % 10 ≡ n = omega arith in rw (decimal_digit n one, high, low))
    (λ two. rw (decimal_step n two (omega arith), decimal_digit (n / 10) (omega arith)))
    (cases_lt n 10)
