-- Figures in hundredths: a value is h hundredths, h a whole number of the range. A product is h × k / 100 hundredths
-- and a quotient 100 × h / k, each cut toward zero before the range is tested.
use Rattle.std.specs.Prelude.{not, ◌||◌, ℤ, pos, ◌+ℤ◌, ◌-ℤ◌, ◌*ℤ◌, neg_ℤ, ◌≤ℤ◌, ◌<ℤ◌, int_div, int_lt}
use Rattle.std.specs.Int.Signed.{shr_z}
use Rattle.figures.specs.declared.hundredths.Hundredths.{Hundredths}
use Rattle.figures.specs.Kinds.{Kind}
use Rattle.figures.specs.Range.{clamped, counted, in_range, quotient}

-- What the stored number means.
abbrev pub hundredths_value : Hundredths → ℤ
hundredths_value x = clamped x.hundredths

-- The whole number nearest to h hundredths, a half going up: (h + 50) / 100, cut downward.
abbrev pub nearest_whole : ℤ → ℤ
nearest_whole h = shr_z (h +ℤ pos 50) 100

-- n is nearest to h hundredths: n - 1/2 ≤ h/100 < n + 1/2.
pub record Nearest (h n : ℤ) : Type 0 where
  pub above : ((pos 100 *ℤ n) -ℤ pos 50) ≤ℤ h
  pub below : h <ℤ ((pos 100 *ℤ n) +ℤ pos 50)

abbrev pub hundredths : Kind ℤ
hundredths = record {
  of = counted 100;
  add = λ h k. in_range (h +ℤ k);
  subtract = λ h k. in_range (h -ℤ k);
  multiply = λ h k. in_range (int_div (h *ℤ k) (pos 100));
  divide = λ h k. quotient (pos 100 *ℤ h) k;
  negate = neg_ℤ;
  round = λ h. pos 100 *ℤ nearest_whole h;
  nearest = nearest_whole;
  less = int_lt;
  same = λ h k. not (int_lt h k || int_lt k h);
}
