-- How expressions are worked out: to a figure, or to the number of a fault. A truth value is the figure of(1) or of(0);
-- wherever a truth value is wanted, every figure counts as true but those same as of(0).
use Rattle.std.specs.Prelude.{ℕ, zero, suc, ◌+◌, Bool, true, false, cond, not, ◌&&◌, ◌||◌, List, [], ◌∷◌, ℤ, pos, negsuc, ◌-ℤ◌, nat_lt}
use Rattle.words.specs.declared.token.Sign.TheVariants.{Plus, Minus}
use Rattle.words.specs.declared.token.Scaling.TheVariants.{Times, Over}
use Rattle.words.specs.declared.token.Relation.{Relation}
use Rattle.words.specs.declared.token.Relation.TheVariants.{Less, AtMost, Equal, Unequal, AtLeast, More}
use Rattle.grammar.specs.declared.operator.Operator.{Operator}
use Rattle.grammar.specs.declared.operator.Operator.TheVariants.{Equivalence, Disjunction, Conjunction, Additive, Multiplicative}
use Rattle.grammar.specs.declared.operator.Prefix.{Prefix}
use Rattle.grammar.specs.declared.operator.Prefix.TheVariants.{Negation, Signed}
use Rattle.grammar.specs.Tree.{Name, Exp, literal, simple, subscripted, prefixed, joined, bracketed, compared}
use Rattle.figures.specs.Kinds.{Outcome, value, refused, Kind, is_zero}
use Rattle.symbols.specs.declared.value_type.ValueType.{ValueType}
use Rattle.symbols.specs.declared.value_type.ValueType.TheVariants.{Untyped, Integer, Boolean}
use Rattle.meaning.specs.Names.{Names, Extent}

-- What is worked out next, from what was worked out before; the first fault stays.
abbrev pub and_then : {A B : Type 0} → (A → Outcome B) → Outcome A → Outcome B
and_then f (value a) = f a
and_then f (refused n) = refused n

-- Two operands: the left is worked out first, and always both.
abbrev pub both : {A B C : Type 0} → (A → B → Outcome C) → Outcome A → Outcome B → Outcome C
both f left right = and_then (λ a. and_then (f a) right) left

-- The cell at a distance from the first; 36 where the array has none there.
abbrev pub at_distance : Extent → ℤ → Outcome ℕ
at_distance extent (pos d) = cond (nat_lt d extent.count) (value (extent.first + d)) (refused 36)
at_distance extent (negsuc d) = refused 36

-- The cell of the element with subscript k.
abbrev pub element_cell : Extent → ℤ → Outcome ℕ
element_cell extent k = at_distance extent (k -ℤ extent.low)

-- Are both true, or both false?
abbrev pub same_truth : Bool → Bool → Bool
same_truth true b = b
same_truth false b = not b

module _ {V : Type 0} (kind : Kind V) where
  -- A figure is true unless it is same as of(0); the figure of a truth value is of(1) or of(0).
  abbrev pub is_true : V → Bool
  is_true v = not (is_zero kind v)

  abbrev pub truth_figure : Bool → Outcome V
  truth_figure true = kind.of 1
  truth_figure false = kind.of 0

  -- a > b is b less a; <=, >= and /= deny >, < and =.
  abbrev pub stands_in : Relation → V → V → Bool
  stands_in Less a b = kind.less a b
  stands_in More a b = kind.less b a
  stands_in AtMost a b = not (kind.less b a)
  stands_in AtLeast a b = not (kind.less a b)
  stands_in Equal a b = kind.same a b
  stands_in Unequal a b = not (kind.same a b)

  abbrev pub operation : Operator → V → V → Outcome V
  operation (Additive Plus) a b = kind.add a b
  operation (Additive Minus) a b = kind.subtract a b
  operation (Multiplicative Times) a b = kind.multiply a b
  operation (Multiplicative Over) a b = kind.divide a b
  operation Conjunction a b = truth_figure (is_true a && is_true b)
  operation Disjunction a b = truth_figure (is_true a || is_true b)
  operation Equivalence a b = truth_figure (same_truth (is_true a) (is_true b))

  abbrev pub prefix_operation : Prefix → V → Outcome V
  prefix_operation (Signed Plus) a = value a
  prefix_operation (Signed Minus) a = value (kind.negate a)
  prefix_operation Negation a = truth_figure (not (is_true a))

  -- How a figure is stored under a name: rounded for an integer name, of(1) or of(0) for a Boolean one, else as it is.
  abbrev pub as_stored : V → ValueType → Outcome V
  as_stored v Untyped = value v
  as_stored v Integer = value (kind.round v)
  as_stored v Boolean = truth_figure (is_true v)

  -- The figure in a cell. Every cell of an accepted text is there; past the last one stands of(0).
  abbrev pub figure_in : List V → ℕ → Outcome V
  figure_in [] c = kind.of 0
  figure_in (v ∷ cells) zero = value v
  figure_in (v ∷ cells) (suc c) = figure_in cells c

  module _ (names : Names) where
    -- The first cell of a name, which a simple variable has alone.
    abbrev pub cell_of : Name → ℕ
    cell_of x = (names.extent x.letters).first

    -- The cell of an array's element, by the figure that its subscript was worked out to.
    abbrev pub subscripted_cell : Name → V → Outcome ℕ
    subscripted_cell x v = element_cell (names.extent x.letters) (kind.nearest v)

    module _ (cells : List V) where
      abbrev pub figure : Exp → Outcome V
      figure (literal n p) = kind.of n
      figure (simple x) = figure_in cells (cell_of x)
      figure (subscripted x e) = and_then (figure_in cells) (and_then (subscripted_cell x) (figure e))
      figure (prefixed o p e) = and_then (prefix_operation o) (figure e)
      figure (joined o a b) = both (operation o) (figure a) (figure b)
      figure (bracketed p e) = figure e
      figure (compared r p a b) = both (λ x y. truth_figure (stands_in r x y)) (figure a) (figure b)
