-- Results of 64 bits, found from two numbers of the range.
use Rattle.std.proofs.Common.{◌≡◌, ℤ, pos, ◌+ℤ◌, ◌-ℤ◌, ◌*ℤ◌, ap, ap₂, ◌∙◌, arith, w64, SFits, to_z, of_z, rules, lit<}
use lib.Signed.{quot_z}
use Rattle.std.proofs.lemmas.Int.{fits_signed_mul, ints, to_z-of_z}
use Rattle.figures.specs.Range.{Within, quotient}

-- A number as 64 bits hold it.
abbrev pub held : ℤ → ℤ
held z = to_z w64 (of_z w64 z)

module _ {a b x y : ℤ} (first : Within a) (second : Within b) (is_first : a ≡ x) (is_second : b ≡ y) where
  -- No sum, difference or product of two such numbers loses anything, and no hundredth part of a product.
  pub sum_held : held (held a +ℤ held b) ≡ x +ℤ y
  sum_held =
      let exact : held (held a +ℤ held b) ≡ a +ℤ b = omega (arith, ints) in
      exact ∙ ap₂ (λ p q. p +ℤ q) is_first is_second

  pub difference_held : held (held a -ℤ held b) ≡ x -ℤ y
  difference_held =
      let exact : held (held a -ℤ held b) ≡ a -ℤ b = omega (arith, ints) in
      exact ∙ ap₂ (λ p q. p -ℤ q) is_first is_second

  -- The product fits 64 bits.
  product_fits : SFits w64 (a *ℤ b)
  product_fits =
      fits_signed_mul w64 a b 2000000000 2000000000 (omega (arith, ints, first.0, first.1)) (omega (arith, ints, second.0, second.1)) (lit< tt)

  pub product_held : held (held a *ℤ held b) ≡ x *ℤ y
  product_held =
      let a64 : SFits w64 a = search rules in
      let b64 : SFits w64 b = search rules in
      let whole = product_fits in
      let exact : held (held a *ℤ held b) ≡ a *ℤ b = simp to_z-of_z in
      exact ∙ ap₂ (λ p q. p *ℤ q) is_first is_second

  pub part_held : held (quot_z (held (held a *ℤ held b)) (pos 100)) ≡ quot_z (x *ℤ y) (pos 100)
  part_held =
      let a64 : SFits w64 a = search rules in
      let b64 : SFits w64 b = search rules in
      let whole = product_fits in
      let part : SFits w64 (quot_z (a *ℤ b) (pos 100)) = omega (arith, ints) in
      let exact : held (quot_z (held (held a *ℤ held b)) (pos 100)) ≡ quot_z (a *ℤ b) (pos 100) = simp to_z-of_z in
      exact ∙ ap₂ (λ p q. quot_z (p *ℤ q) (pos 100)) is_first is_second

  -- The quotient of a hundred times the one by the other.
  pub scaled_quotient_held : quotient (held (pos 100 *ℤ held a)) (held b) ≡ quotient (pos 100 *ℤ x) y
  scaled_quotient_held =
      let dividend : held (pos 100 *ℤ held a) ≡ pos 100 *ℤ a = omega (arith, ints) in
      let divisor : held b ≡ b = omega (arith, ints) in
      ap₂ quotient (dividend ∙ ap (λ p. pos 100 *ℤ p) is_first) (divisor ∙ is_second)
