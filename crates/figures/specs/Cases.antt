-- Worked cases of both kinds, each by computation from the definitions.
use Rattle.std.specs.Prelude.{◌≡◌, false, ℤ, pos, negsuc}
use Rattle.figures.specs.Kinds.{Outcome, value, refused}
use Rattle.figures.specs.Whole.{whole}
use Rattle.figures.specs.Hundredths.{hundredths}

-- The sum of an outcome and a value, where there is one.
abbrev pub plus : Outcome ℤ → ℤ → Outcome ℤ
plus (value a) b = whole.add a b
plus (refused n) b = refused n

pub record WholeCases : Type 0 where
  -- 7 / 2 is 3 and -7 / 2 is -3
  pub seven_halves : whole.divide (pos 7) (pos 2) ≡ value (pos 3)
  pub minus_seven_halves : whole.divide (negsuc 6) (pos 2) ≡ value (negsuc 2)
  pub by_zero : whole.divide (pos 7) (pos 0) ≡ refused 32
  -- 999,999,999 + 999,999,999 + 2 fits, and + 3 does not
  pub sum_fits : plus (whole.add (pos 999999999) (pos 999999999)) (pos 2) ≡ value (pos 2000000000)
  pub sum_over : plus (whole.add (pos 999999999) (pos 999999999)) (pos 3) ≡ refused 31
  pub largest_number : whole.of 999999999 ≡ value (pos 999999999)
  pub number_over : whole.of 1000000000 ≡ refused 31

pub record HundredthsCases : Type 0 where
  -- 7 / 2 is 3.50, which rounds to 4.00; -3.50 rounds to -3.00
  pub seven_halves : hundredths.divide (pos 700) (pos 200) ≡ value (pos 350)
  pub half_goes_up : hundredths.round (pos 350) ≡ pos 400
  pub minus_half_goes_up : hundredths.round (negsuc 349) ≡ negsuc 299
  pub nearest_below_zero : hundredths.nearest (negsuc 350) ≡ negsuc 3
  -- 0.33 × 0.33 is 0.1089, cut to 0.10; -0.33 × 0.33 is cut to -0.10
  pub product_cut : hundredths.multiply (pos 33) (pos 33) ≡ value (pos 10)
  pub minus_product_cut : hundredths.multiply (negsuc 32) (pos 33) ≡ value (negsuc 9)
  pub largest_number : hundredths.of 20000000 ≡ value (pos 2000000000)
  pub number_over : hundredths.of 20000001 ≡ refused 31
  pub of_one : hundredths.same (pos 100) (pos 0) ≡ false

pub record WorkedCases : Type 0 where
  pub of_whole : WholeCases
  pub of_hundredths : HundredthsCases
