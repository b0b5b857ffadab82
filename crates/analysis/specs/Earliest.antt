-- The earliest of some places, if there are any.
use Rattle.std.specs.Prelude.{ℕ, min, List, [], ◌∷◌, Some, None, Option}
use Rattle.symbols.specs.Rules.{earliest}

abbrev pub earliest_of : List ℕ → Option ℕ
earliest_of [] = None
earliest_of (p ∷ ps) = Some (earliest p ps)

-- The earlier of two.
abbrev pub earlier_of : Option ℕ → Option ℕ → Option ℕ
earlier_of None b = b
earlier_of (Some p) None = Some p
earlier_of (Some p) (Some q) = Some (min p q)
