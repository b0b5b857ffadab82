-- What the names of an accepted tree give the translation: every name that is used has its cells among the named ones, and
-- its low bound can be packed into a descriptor. v is the number of named cells.
use Rattle.std.specs.Prelude.{◌≡◌, ℕ, ◌+◌, ◌<◌, ◌≤◌, pos, ◌+ℤ◌}
use Rattle.grammar.specs.Tree.{Exp, literal, simple, subscripted, prefixed, joined, bracketed, compared}
use Rattle.meaning.specs.Names.{Extent, Names}
use Rattle.translator.specs.Generator.{cell_at}

pub record ExtentFits (v : ℕ) (e : Extent) : Type 0 where
  pub few : v ≤ 2048
  pub below : e.first + e.count ≤ v
  pub bias : ℕ
  pub biased : e.low +ℤ pos 10000 ≡ pos bias

abbrev pub ExpFits : Names → ℕ → Exp → Type 0
ExpFits names v (literal n p) = Unit {0}
ExpFits names v (simple x) = cell_at names x < v
ExpFits names v (subscripted x e) = ExtentFits v (names.extent x.letters) × ExpFits names v e
ExpFits names v (prefixed o p e) = ExpFits names v e
ExpFits names v (joined o a b) = ExpFits names v a × ExpFits names v b
ExpFits names v (bracketed p e) = ExpFits names v e
ExpFits names v (compared c p a b) = ExpFits names v a × ExpFits names v b
