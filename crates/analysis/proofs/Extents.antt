-- How many subscripts lie between two bounds of 32 bits.
use Rattle.std.proofs.Common.{◌≡◌, ℕ, ◌<◌, ℤ, pos, negsuc, ◌+ℤ◌, ◌-ℤ◌, neg_ℤ, nat_abs, ◌≤ℤ◌, Result, refl, ap, ◌∙◌, arith}
use Rattle.std.specs.Prelude.{Ok, Err}
use Rattle.std.specs.Int.{FitsUnsignedBits}
use Rattle.std.specs.Result.{OkIff, result_unwrap_or}
use Rattle.std.proofs.lemmas.Int.{ints}
use Rattle.words.specs.declared.token.Sign.{Sign}
use Rattle.words.specs.declared.token.Sign.TheVariants.{Plus, Minus}
use Rattle.symbols.specs.Symbols.{signed, at_least_zero, extent}

-- A bound of 32 bits.
pub record InRange (z : ℤ) : Type 0 where
  pub low : neg_ℤ (pos 4294967295) ≤ℤ z
  pub high : z ≤ℤ pos 4294967295

pub bound_range : (s : Sign) (n : ℕ) → n < 4294967296 → InRange (signed s n)
bound_range Plus n h = record { low = omega (arith, ints); high = omega (arith, ints) }
bound_range Minus n h = record { low = omega (arith, ints); high = omega (arith, ints) }

-- A number that is taken as it is from 0 on, and else as 0, is at least 0.
taken_is : {E : Type 0} (z : ℤ) (r : Result ℕ E) → OkIff r (FitsUnsignedBits 64 z) (nat_abs z) → z ≤ℤ pos 8589934592 → result_unwrap_or r 0 ≡ at_least_zero z
taken_is (pos n) (Ok x) (p, e) l = e
taken_is (pos n) (Err d) h l = absurd (h (omega (arith, ints)))
taken_is (negsuc n) (Ok x) (p, e) l = absurd p
taken_is (negsuc n) (Err d) h l = refl

module _ (a b z : ℤ) (is : z ≡ b -ℤ a +ℤ pos 1) (p : InRange a) (q : InRange b) where
  near : z ≤ℤ pos 8589934592
  near = let u = p.low in let v = q.high in omega (arith, ints)

  pub extent_is : {E : Type 0} (r : Result ℕ E) → OkIff r (FitsUnsignedBits 64 z) (nat_abs z) → result_unwrap_or r 0 ≡ extent a b
  extent_is r h = taken_is z r h near ∙ ap at_least_zero is
