-- The code of expressions passes the check: each operation finds its figures, and no more lie on the stack than are counted.
use Rattle.std.proofs.Common.{◌≡◌, ℕ, suc, ◌+◌, ◌*◌, ◌/◌, ◌%◌, ◌<◌, ◌≤◌, List, ◌∷◌, length, pos, ◌+ℤ◌, sym, refl, ap, ◌∙◌, subst, arith}
use Rattle.words.specs.declared.token.Sign.TheVariants.{Plus, Minus}
use Rattle.words.specs.declared.token.Scaling.TheVariants.{Times, Over}
use Rattle.words.specs.declared.token.Relation.{Relation}
use Rattle.words.specs.declared.token.Relation.TheVariants as relation
use Rattle.grammar.specs.declared.operator.Operator.{Operator}
use Rattle.grammar.specs.declared.operator.Operator.TheVariants.{Equivalence, Disjunction, Conjunction, Additive, Multiplicative}
use Rattle.grammar.specs.declared.operator.Prefix.{Prefix}
use Rattle.grammar.specs.declared.operator.Prefix.TheVariants.{Negation, Signed}
use Rattle.grammar.specs.Tree.{Name, Exp, literal, simple, subscripted, prefixed, joined, bracketed, compared}
use Rattle.symbols.specs.declared.value_type.ValueType.{ValueType}
use Rattle.symbols.specs.declared.value_type.ValueType.TheVariants.{Untyped, Integer, Boolean}
use Rattle.symbols.specs.Occurrences.{Role, as_label, as_switch, as_array, of_type, in_switch, as_target, as_selector, as_variable, as_element, Occurrence, at, in_exp}
use Rattle.symbols.specs.Symbols.{at_least_zero}
use Rattle.symbols.specs.Laws.{In, here, later}
use Rattle.symbols.proofs.Lists.{in_left, in_right}
use Rattle.meaning.specs.Names.{Extent, Names}
use Rattle.code.specs.declared.operations.Operation.TheVariants.{Const, Load, Get, Round, Truth, Add, Neg, Less, Same, More, Not}
use Rattle.code.specs.declared.sizes.Sizes.{Sizes}
use Rattle.code.specs.declared.descriptor.Descriptor.{Descriptor}
use Rattle.code.specs.Descriptors.{unpacked}
use Rattle.code.specs.WellFormed.{NamesCells}
use Rattle.translator.specs.Generator.{Entry, descriptor, ready_size, ready_code, prefix_size, prefix_code, operator_code, relation_size, relation_code, exp_size, exp_depth, cell_at, cells_at, exp_code}
use Rattle.translator.specs.Fits.{ExtentFits, ExpFits}
use Rattle.translator.specs.Limits.{ExpSmall}
use Rattle.translator.proofs.Resuming.{Begins}
use Rattle.translator.proofs.Passing.{Passes, Calculates, at_place, straight, binary, unary}

-- Cells that a descriptor may name: at least one, with a low bound within 9,999 of 0.
pub record Packs (e : Extent) : Type 0 where
  pub some : 1 ≤ e.count
  pub bias : ℕ
  pub biased : e.low +ℤ pos 10000 ≡ pos bias
  pub low_from : 1 ≤ bias
  pub low_to : bias ≤ 19999

-- What the uses of names in a text ask for: a target of a go to stands at a MARK, a variable's cells can be named.
abbrev pub Use : List Entry → Names → (List ℕ → ℕ) → Role → Name → Type 0
Use c names label_at as_label x = Unit {0}
Use c names label_at (as_switch xs) x = Unit {0}
Use c names label_at (as_array l h) x = Unit {0}
Use c names label_at (of_type t) x = Unit {0}
Use c names label_at in_switch x = Begins c (label_at x.letters)
Use c names label_at as_target x = Begins c (label_at x.letters)
Use c names label_at as_selector x = Unit {0}
Use c names label_at as_variable x = Packs (names.extent x.letters)
Use c names label_at as_element x = Packs (names.extent x.letters)

abbrev pub Uses : List Entry → Names → (List ℕ → ℕ) → List Occurrence → Type 0
Uses c names label_at os = (o : Occurrence) → In o os → Use c names label_at o.role o.name

-- A descriptor has the parts that it was made of, so it names the cells.
parts : (f n b : ℕ) → f < 4096 → n < 4096 → unpacked (f + 4096 * n + 16777216 * b) ≡ record { first = f; count = n; biased_low = b }
parts f n b hf hn =
    let x = f + 4096 * n + 16777216 * b in
    let e₁ : x % 4096 ≡ f = omega arith in
    let d : x / 4096 ≡ n + 4096 * b = omega arith in
    let e₂ : x / 4096 % 4096 ≡ n = ap (λ k. k % 4096) d ∙ omega arith in
    let e₃ : x / 16777216 ≡ b = omega arith in
    λ i. record { first = e₁ i; count = e₂ i; biased_low = e₃ i }

pub descriptor_names : (v m : ℕ) (x : Extent) → ExtentFits v x → Packs x → v ≤ m → NamesCells m (unpacked (descriptor x))
descriptor_names v m x fits p le =
    let few = fits.few in
    let below = fits.below in
    let is : unpacked (descriptor x) ≡ record { first = x.first; count = x.count; biased_low = p.bias } =
    ap (λ b. unpacked (x.first + 4096 * x.count + 16777216 * b)) (ap at_least_zero p.biased) ∙ parts x.first x.count p.bias (omega arith) (omega arith) in
    subst (λ (d : Descriptor). NamesCells m d) (sym is) (record { some = p.some; below = omega arith; low_from = p.low_from; low_to = p.low_to })

operator_calculates : (o : Operator) → Calculates 2 (operator_code o)
operator_calculates (Additive Plus) = record { straight = refl; unused = refl; takes = refl; leaves = refl }
operator_calculates (Additive Minus) = record { straight = refl; unused = refl; takes = refl; leaves = refl }
operator_calculates (Multiplicative Times) = record { straight = refl; unused = refl; takes = refl; leaves = refl }
operator_calculates (Multiplicative Over) = record { straight = refl; unused = refl; takes = refl; leaves = refl }
operator_calculates Conjunction = record { straight = refl; unused = refl; takes = refl; leaves = refl }
operator_calculates Disjunction = record { straight = refl; unused = refl; takes = refl; leaves = refl }
operator_calculates Equivalence = record { straight = refl; unused = refl; takes = refl; leaves = refl }

pub less_calculates : Calculates 2 Less
less_calculates = record { straight = refl; unused = refl; takes = refl; leaves = refl }

pub more_calculates : Calculates 2 More
more_calculates = record { straight = refl; unused = refl; takes = refl; leaves = refl }

same_calculates : Calculates 2 Same
same_calculates = record { straight = refl; unused = refl; takes = refl; leaves = refl }

pub add_calculates : Calculates 2 Add
add_calculates = record { straight = refl; unused = refl; takes = refl; leaves = refl }

not_calculates : Calculates 1 Not
not_calculates = record { straight = refl; unused = refl; takes = refl; leaves = refl }

-- An expression leaves a figure.
pub some_figure : (e : Exp) → 1 ≤ exp_depth e
some_figure (literal n p) = omega arith
some_figure (simple x) = omega arith
some_figure (subscripted x e) = some_figure e
some_figure (prefixed o p e) = some_figure e
some_figure (joined o a b) = omega (arith, some_figure a)
some_figure (bracketed p e) = some_figure e
some_figure (compared o p a b) = omega (arith, some_figure a)

module _ (c : List Entry) (names : Names) (label_at : List ℕ → ℕ) (sizes : Sizes) (os : List ℕ) (v halt_at : ℕ) (few : v ≤ sizes.cells) (room : (i : ℕ) → i < halt_at → suc i < length os) where
  abbrev T : ℕ → ℕ → List Entry → Type 0
  T = Passes sizes os

  prefix_passes : (o : Prefix) (pc q d : ℕ) (r : List Entry) → pc + prefix_size o ≡ q → q ≤ halt_at → suc d ≤ sizes.depth → T q (suc d) r → T pc (suc d) (prefix_code o r)
  prefix_passes (Signed Plus) pc q d r to le deep rest = at_place sizes os (omega arith) rest
  prefix_passes (Signed Minus) pc q d r to le deep rest =
      unary sizes os Neg (record { straight = refl; unused = refl; takes = refl; leaves = refl }) pc q d deep (room pc (omega arith)) (omega arith) rest
  prefix_passes Negation pc q d r to le deep rest = unary sizes os Not not_calculates pc q d deep (room pc (omega arith)) (omega arith) rest

  pub ready_passes : (t : ValueType) (pc q d : ℕ) (r : List Entry) → pc + ready_size t ≡ q → q ≤ halt_at → suc d ≤ sizes.depth → T q (suc d) r → T pc (suc d) (ready_code t r)
  ready_passes Untyped pc q d r to le deep rest = at_place sizes os (omega arith) rest
  ready_passes Integer pc q d r to le deep rest =
      unary sizes os Round (record { straight = refl; unused = refl; takes = refl; leaves = refl }) pc q d deep (room pc (omega arith)) (omega arith) rest
  ready_passes Boolean pc q d r to le deep rest =
      unary sizes os Truth (record { straight = refl; unused = refl; takes = refl; leaves = refl }) pc q d deep (room pc (omega arith)) (omega arith) rest

  relation_passes : (o : Relation) (pc q d : ℕ) (r : List Entry) → pc + relation_size o ≡ q → q ≤ halt_at → suc d ≤ sizes.depth → T q (suc d) r → T pc (suc (suc d)) (relation_code o r)
  relation_passes relation.Less pc q d r to le deep rest = binary sizes os Less less_calculates pc q d deep (room pc (omega arith)) (omega arith) rest
  relation_passes relation.More pc q d r to le deep rest = binary sizes os More more_calculates pc q d deep (room pc (omega arith)) (omega arith) rest
  relation_passes relation.Equal pc q d r to le deep rest = binary sizes os Same same_calculates pc q d deep (room pc (omega arith)) (omega arith) rest
  relation_passes relation.AtMost pc q d r to le deep rest =
      binary sizes os More more_calculates pc (suc pc) d deep (room pc (omega arith)) refl (unary sizes os Not not_calculates (suc pc) q d deep (room (suc pc) (omega arith)) (omega arith) rest)
  relation_passes relation.AtLeast pc q d r to le deep rest =
      binary sizes os Less less_calculates pc (suc pc) d deep (room pc (omega arith)) refl (unary sizes os Not not_calculates (suc pc) q d deep (room (suc pc) (omega arith)) (omega arith) rest)
  relation_passes relation.Unequal pc q d r to le deep rest =
      binary sizes os Same same_calculates pc (suc pc) d deep (room pc (omega arith)) refl (unary sizes os Not not_calculates (suc pc) q d deep (room (suc pc) (omega arith)) (omega arith) rest)

  -- What loads a cell, and what an expression leaves: one figure more.
  pub load_passes : (x pc q d : ℕ) (r : List Entry) → x < sizes.cells → suc pc ≡ q → q ≤ halt_at → suc d ≤ sizes.depth → T q (suc d) r → T pc d (record { operation = Load; operand = x } ∷ r)
  load_passes x pc q d r below to le deep rest = straight sizes os Load x pc q d (suc d) refl below (omega arith) (omega arith) deep (room pc (omega arith)) to rest

  pub const_passes : (n pc q d : ℕ) (r : List Entry) → n ≤ 999999999 → suc pc ≡ q → q ≤ halt_at → suc d ≤ sizes.depth → T q (suc d) r → T pc d (record { operation = Const; operand = n } ∷ r)
  const_passes n pc q d r small to le deep rest = straight sizes os Const n pc q d (suc d) refl small (omega arith) (omega arith) deep (room pc (omega arith)) to rest

  pub exp_passes : (e : Exp) (pc q d : ℕ) (r : List Entry) → ExpFits names v e → ExpSmall e → Uses c names label_at (in_exp e)
      → pc + exp_size e ≡ q → q ≤ halt_at → d + exp_depth e ≤ sizes.depth → T q (suc d) r → T pc d (exp_code names e r)
  exp_passes (literal n p) pc q d r fits small uses to le deep rest = const_passes n pc q d r small (omega arith) le (omega arith) rest
  exp_passes (simple x) pc q d r fits small uses to le deep rest = load_passes (cell_at names x) pc q d r (omega (arith, fits)) (omega arith) le (omega arith) rest
  exp_passes (subscripted x e) pc q d r fits small uses to le deep rest =
      let some = some_figure e in
      exp_passes e pc (pc + exp_size e) d _ fits.1 small (λ o i. uses o (later i)) refl (omega arith) deep
      (straight sizes os Get (cells_at names x) (pc + exp_size e) q (suc d) (suc d) refl
      (descriptor_names v sizes.cells (names.extent x.letters) fits.0 (uses (at as_element x) here) few)
      (omega arith) (omega arith) (omega arith) (room (pc + exp_size e) (omega arith)) (omega arith) rest)
  exp_passes (prefixed o p e) pc q d r fits small uses to le deep rest =
      let some = some_figure e in
      exp_passes e pc (pc + exp_size e) d _ fits small uses refl (omega arith) deep (prefix_passes o (pc + exp_size e) q d r (omega arith) le (omega arith) rest)
  exp_passes (joined o a b) pc q d r fits small uses to le deep rest =
      let some = some_figure b in
      exp_passes a pc (pc + exp_size a) d _ fits.0 small.0 (λ x i. uses x (in_left x (in_exp a) (in_exp b) i)) refl (omega arith) (omega arith)
      (exp_passes b (pc + exp_size a) (pc + exp_size a + exp_size b) (suc d) _ fits.1 small.1 (λ x i. uses x (in_right x (in_exp a) (in_exp b) i)) refl (omega arith) (omega arith)
      (binary sizes os (operator_code o) (operator_calculates o) (pc + exp_size a + exp_size b) q d (omega arith) (room (pc + exp_size a + exp_size b) (omega arith)) (omega arith) rest))
  exp_passes (bracketed p e) pc q d r fits small uses to le deep rest = exp_passes e pc q d r fits small uses to le deep rest
  exp_passes (compared o p a b) pc q d r fits small uses to le deep rest =
      let some = some_figure b in
      exp_passes a pc (pc + exp_size a) d _ fits.0 small.0 (λ x i. uses x (in_left x (in_exp a) (in_exp b) i)) refl (omega arith) (omega arith)
      (exp_passes b (pc + exp_size a) (pc + exp_size a + exp_size b) (suc d) _ fits.1 small.1 (λ x i. uses x (in_right x (in_exp a) (in_exp b) i)) refl (omega arith) (omega arith)
      (relation_passes o (pc + exp_size a + exp_size b) q d r (omega arith) le (omega arith) rest))
