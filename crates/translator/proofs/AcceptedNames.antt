-- The names of an accepted text: each variable and each array has its cells among the named ones, and a low bound that can
-- be packed; a switch has a label; a name that is arithmetic is not Boolean.
use Rattle.std.proofs.Common.{◌≡◌, ℕ, zero, suc, ◌+◌, ◌-◌, ◌≤◌, true, false, List, [], ◌∷◌, ◌++◌, length, pos, ◌+ℤ◌, Some, None, Option, sym, refl, ap, ◌∙◌, subst, arith}
use Rattle.std.proofs.lemmas.Int.{ints}
use Rattle.words.specs.declared.token.Sign.{Sign}
use Rattle.words.specs.declared.token.Sign.TheVariants.{Plus, Minus}
use Rattle.grammar.specs.Tree.{Row, one, more, Name, Bound, Program}
use Rattle.symbols.specs.declared.value_type.ValueType.{ValueType}
use Rattle.symbols.specs.declared.value_type.ValueType.TheVariants.{Boolean}
use Rattle.symbols.specs.Occurrences.{Role, as_label, as_switch, as_array, of_type, in_switch, as_target, as_selector, as_variable, as_element, at, occurrences}
use Rattle.symbols.specs.Symbols.{Kind, a_label, a_switch, an_array, a_variable, definition, first_said, or_variable, signed, cells, low_bound, symbols, kind_in, named_cells}
use Rattle.symbols.specs.Types.{arithmetic, part_type, differs}
use Rattle.symbols.specs.Rules.{is_array, is_variable, accepted, verdict}
use Rattle.symbols.specs.Laws.{In}
use Rattle.symbols.proofs.Names.{names_agree}
use Rattle.symbols.proofs.Table.{name_said}
use Rattle.symbols.proofs.Cells.{enough_cells}
use Rattle.symbols.proofs.Bounds.{bounds_in_range}
use Rattle.meaning.specs.Names.{names_in, labels_of}
use Rattle.meaning.proofs.Jumping.{true_is_not_false}
use Rattle.meaning.proofs.Switches.{from_is_switch, said_by}
use Rattle.meaning.proofs.Storing.{cells_end}
use Rattle.translator.specs.Fits.{ExtentFits}

-- What is asked for as a variable, or as an array, is one.
pub from_is_variable : (k : Kind) → is_variable k ≡ true → k ≡ a_variable
from_is_variable a_label e = absurd (true_is_not_false (sym e))
from_is_variable (a_switch ls) e = absurd (true_is_not_false (sym e))
from_is_variable (an_array l h) e = absurd (true_is_not_false (sym e))
from_is_variable a_variable e = refl

pub from_is_array : (k : Kind) → is_array k ≡ true → (l : Bound) × (h : Bound) × (k ≡ an_array l h)
from_is_array a_label e = absurd (true_is_not_false (sym e))
from_is_array (a_switch ls) e = absurd (true_is_not_false (sym e))
from_is_array (an_array l h) e = (l, h, refl)
from_is_array a_variable e = absurd (true_is_not_false (sym e))

-- Only an array declaration defines an array.
pub array_role : (r : Role) (l h : Bound) → definition r ≡ Some (an_array l h) → r ≡ as_array l h
array_role as_label l h e = absurd (let z : ◌≡◌ {A = ℕ} 0 1 = cc in omega arith)
array_role (as_switch xs) l h e = absurd (let z : ◌≡◌ {A = ℕ} 0 1 = cc in omega arith)
array_role (as_array a b) l h e = let p : a ≡ l = cc in let q : b ≡ h = cc in cc
array_role (of_type y) l h e = absurd (let z : ◌≡◌ {A = ℕ} 0 1 = cc in omega arith)
array_role in_switch l h e = absurd (let z : ◌≡◌ {A = ℕ} 0 1 = cc in omega arith)
array_role as_target l h e = absurd (let z : ◌≡◌ {A = ℕ} 0 1 = cc in omega arith)
array_role as_selector l h e = absurd (let z : ◌≡◌ {A = ℕ} 0 1 = cc in omega arith)
array_role as_variable l h e = absurd (let z : ◌≡◌ {A = ℕ} 0 1 = cc in omega arith)
array_role as_element l h e = absurd (let z : ◌≡◌ {A = ℕ} 0 1 = cc in omega arith)

defined_array : (k : Option Kind) (l h : Bound) → or_variable k ≡ an_array l h → k ≡ Some (an_array l h)
defined_array (Some k) l h e = ap Some e
defined_array None l h e = absurd (let z : ◌≡◌ {A = ℕ} 0 1 = cc in omega arith)

-- A bound within 9,999 either way is not below -10,000.
biased : (s : Sign) (n : ℕ) → n ≤ 9999 → (b : ℕ) × (signed s n +ℤ pos 10000 ≡ pos b)
biased Plus n h = (n + 10000, refl)
biased Minus zero h = (10000, refl)
biased Minus (suc n) h = (9999 - n, omega (arith, ints))

-- A row of labels has one.
longer : {A : Type 0} (xs ys : List A) → 1 ≤ length xs → 1 ≤ length (xs ++ ys)
longer [] ys h = absurd (omega arith)
longer (x ∷ xs) ys h = omega arith

row_has_label : (ls : Row Name) → 1 ≤ length (labels_of (a_switch ls))
row_has_label (one x) = omega arith
row_has_label (more xs x) = longer (labels_of (a_switch xs)) (x.letters ∷ []) (row_has_label xs)

-- A name that is arithmetic is not Boolean.
pub not_boolean : (y : ValueType) → differs arithmetic (part_type y) ≡ false → y ≡ Boolean → ⊥
not_boolean y e b = true_is_not_false (ap (λ z. differs arithmetic (part_type z)) (sym b) ∙ e)

module _ (t : Program) (ok : verdict t ≡ accepted) where
  -- The named cells are within the limit on cells.
  few_cells : named_cells (symbols t) ≤ 2048
  few_cells = let h = enough_cells t ok in omega (arith, h)

  -- What stands as a variable is a simple variable.
  variable_kind : (x : Name) → In (at as_variable x) (occurrences t) → kind_in (symbols t) x.letters ≡ a_variable
  variable_kind x i = from_is_variable (kind_in (symbols t) x.letters) ((names_agree t ok).uses_suit (at as_variable x) i)

  -- A simple variable has one cell, told by the subscript 0.
  pub variable_count : (x : Name) → In (at as_variable x) (occurrences t) → cells (kind_in (symbols t) x.letters) ≡ 1
  variable_count x i = ap cells (variable_kind x i)

  pub variable_low : (x : Name) → In (at as_variable x) (occurrences t) → low_bound (kind_in (symbols t) x.letters) ≡ pos 0
  variable_low x i = ap low_bound (variable_kind x i)

  pub variable_extent : (x : Name) → In (at as_variable x) (occurrences t) → ExtentFits (named_cells (symbols t)) ((names_in (symbols t)).extent x.letters)
  variable_extent x i = record {
    few = few_cells;
    below = cells_end t (at as_variable x) i;
    bias = 10000;
    biased = ap (λ z. z +ℤ pos 10000) (variable_low x i);
  }

  -- An array's low bound is near enough to 0.
  array_bias : (x : Name) → In (at as_element x) (occurrences t) → (b : ℕ) × (low_bound (kind_in (symbols t) x.letters) +ℤ pos 10000 ≡ pos b)
  array_bias x i =
      let a = from_is_array (kind_in (symbols t) x.letters) ((names_agree t ok).uses_suit (at as_element x) i) in
      let l = a.0 in
      let h = a.1 in
      let said = defined_array (first_said definition (occurrences t) x.letters) l h (sym (name_said t (at as_element x) i).0 ∙ a.2) in
      let by = said_by (occurrences t) x.letters (an_array l h) said in
      let range = bounds_in_range t ok by.occurrence l h by.stands (array_role by.occurrence.role l h by.says) in
      let b = biased l.sign l.size range.low_near in
      (b.0, ap (λ k. low_bound k +ℤ pos 10000) a.2 ∙ b.1)

  -- An array has its cells among the named ones.
  pub array_extent : (x : Name) → In (at as_element x) (occurrences t) → ExtentFits (named_cells (symbols t)) ((names_in (symbols t)).extent x.letters)
  array_extent x i = record {
    few = few_cells;
    below = cells_end t (at as_element x) i;
    bias = (array_bias x i).0;
    biased = (array_bias x i).1;
  }

  -- A switch that a go to names has a label.
  pub switch_has_label : (x : Name) → In (at as_selector x) (occurrences t) → 1 ≤ length (labels_of (kind_in (symbols t) x.letters))
  switch_has_label x i =
      let s = from_is_switch (kind_in (symbols t) x.letters) ((names_agree t ok).uses_suit (at as_selector x) i) in
      subst (λ k. 1 ≤ length (labels_of k)) (sym s.1) (row_has_label s.0)
