-- Rows of expressions as rows of elements.
use Rattle.std.proofs.Common.{◌≡◌, ℕ, List, ◌++◌, refl, ap}
use Rattle.grammar.specs.Tree.{Row, one, more, Exp, Element, single}
use Rattle.parser.specs.Records.{View, ExpAt, ElementAt, RowAt}
use Rattle.symbols.specs.Occurrences.{each}

-- A row of expressions is one of single elements.
abbrev pub singles : Row Exp → Row Element
singles (one e) = one (single e)
singles (more es e) = more (singles es) (single e)

pub singles_at : (v : View) (es : Row Exp) (i : ℕ) → RowAt ExpAt v es i → RowAt ElementAt v (singles es) i
singles_at v (one e) i h = h
singles_at v (more es e) i h = (h.0, h.1, h.2, h.3, h.4, singles_at v es h.0 h.5, h.6)

pub each_single : {B : Type 0} (f : Element → List B) (es : Row Exp) → each f (singles es) ≡ each (λ e. f (single e)) es
each_single f (one e) = refl
each_single {B} f (more es e) = ap (λ (l : List B). l ++ f (single e)) (each_single f es)
