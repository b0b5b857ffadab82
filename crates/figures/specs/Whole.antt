-- Whole figures: the whole numbers of the range. Division drops the fraction; rounding changes nothing.
use Rattle.std.specs.Prelude.{not, ◌||◌, ℤ, ◌+ℤ◌, ◌-ℤ◌, ◌*ℤ◌, neg_ℤ, int_lt}
use Rattle.figures.specs.declared.whole.Whole.{Whole}
use Rattle.figures.specs.Kinds.{Kind}
use Rattle.figures.specs.Range.{clamped, counted, in_range, quotient}

-- What the stored number means.
abbrev pub whole_value : Whole → ℤ
whole_value w = clamped w.units

abbrev pub whole : Kind ℤ
whole = record {
  of = counted 1;
  add = λ a b. in_range (a +ℤ b);
  subtract = λ a b. in_range (a -ℤ b);
  multiply = λ a b. in_range (a *ℤ b);
  divide = quotient;
  negate = neg_ℤ;
  round = λ a. a;
  nearest = λ a. a;
  less = int_lt;
  same = λ a b. not (int_lt a b || int_lt b a);
}
