-- A kind of figures: a set V of values with the functions that rules calculate with. Everything above the figures is
-- proved for every kind, from these functions and the two laws alone.
use Rattle.std.specs.Prelude.{◌≡◌, ℕ, Bool, true, false, ℤ, pos}

-- A value, or the number of the refusal.
pub data Outcome (V : Type 0) : Type 0 where
  value : V → Outcome V
  refused : ℕ → Outcome V

pub record Kind (V : Type 0) : Type 0 where
  -- the value that stands for the whole number n
  pub of : ℕ → Outcome V
  pub add : V → V → Outcome V
  pub subtract : V → V → Outcome V
  pub multiply : V → V → Outcome V
  pub divide : V → V → Outcome V
  pub negate : V → V
  pub round : V → V
  -- the whole number nearest to a value
  pub nearest : V → ℤ
  pub less : V → V → Bool
  pub same : V → V → Bool

-- The first law of a kind, at n: n has a value, and the whole number nearest to it is n.
pub record Counts {V : Type 0} (kind : Kind V) (n : ℕ) : Type 0 where
  pub figure : V
  pub given : kind.of n ≡ value figure
  pub nearest_is : kind.nearest figure ≡ pos n

-- The second law of a kind: of(0) is same as of(0), and of(1) is not.
pub record Tells {V : Type 0} (kind : Kind V) : Type 0 where
  pub zero : V
  pub one : V
  pub of_zero : kind.of 0 ≡ value zero
  pub of_one : kind.of 1 ≡ value one
  pub zero_is_zero : kind.same zero zero ≡ true
  pub one_is_not : kind.same one zero ≡ false

-- Whether a value is same as the outcome of of(0).
abbrev pub same_as : {V : Type 0} → Kind V → V → Outcome V → Bool
same_as kind v (value zero) = kind.same v zero
same_as kind v (refused n) = false

-- Whether a value is same as of(0): a false condition, a member who has left.
abbrev pub is_zero : {V : Type 0} → Kind V → V → Bool
is_zero kind v = same_as kind v (kind.of 0)

-- Whether a figure stands for a value that is same as of(0).
abbrev pub stands_for_zero : {F V : Type 0} → Kind V → (F → V) → F → Bool
stands_for_zero kind means x = is_zero kind (means x)
