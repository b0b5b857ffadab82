-- The code of an expression leaves its figure on the stack, or ends in its fault.
use Rattle.std.proofs.Common.{◌≡◌, ℕ, zero, suc, ◌+◌, ◌*◌, ◌/◌, ◌%◌, ◌<◌, Bool, true, false, cond, not, ◌&&◌, ◌||◌, ltb, List, [], ◌∷◌, ◌++◌, length, ℤ, pos, negsuc, ◌+ℤ◌, ◌-ℤ◌, Some, None, sym, refl, ap, ◌∙◌, arith, ltb-true}
use Rattle.std.proofs.lemmas.Int.{ints}
use Rattle.std.specs.List.{slice_get}
use Rattle.words.specs.declared.token.Sign.TheVariants.{Plus, Minus}
use Rattle.words.specs.declared.token.Scaling.TheVariants.{Times, Over}
use Rattle.words.specs.declared.token.Relation.{Relation}
use Rattle.words.specs.declared.token.Relation.TheVariants as relation
use Rattle.grammar.specs.declared.operator.Operator.{Operator}
use Rattle.grammar.specs.declared.operator.Operator.TheVariants.{Equivalence, Disjunction, Conjunction, Additive, Multiplicative}
use Rattle.grammar.specs.declared.operator.Prefix.{Prefix}
use Rattle.grammar.specs.declared.operator.Prefix.TheVariants.{Negation, Signed}
use Rattle.grammar.specs.Tree.{Name, Exp, literal, simple, subscripted, prefixed, joined, bracketed, compared}
use Rattle.figures.specs.Kinds.{Kind, Outcome, value, refused, Tells, same_as, is_zero}
use Rattle.code.specs.Descriptors.{unpacked}
use Rattle.meaning.specs.Names.{Extent, Names}
use Rattle.meaning.specs.Expressions.{and_then, both, at_distance, element_cell, same_truth, is_true, truth_figure, stands_in, operation, prefix_operation, figure_in, subscripted_cell, figure}
use Rattle.meaning.specs.Machine as statements
use Rattle.symbols.specs.Symbols.{at_least_zero}
use Rattle.code.specs.declared.operations.Operation.TheVariants.{Get, Not}
use Rattle.machine.specs.declared.instruction.Instruction.TheVariants.{Transfer}
use Rattle.machine.specs.declared.instruction.Transfer.TheVariants as transfers
use Rattle.machine.specs.Faults.{Fault}
use Rattle.machine.specs.Machine.{gives, fails, ◌>>=◌, calculation, element_at, from_low, truth, element, Memory, ResultOf, faults}
use Rattle.translator.specs.Generator.{Entry, entry, plain, descriptor, exp_size, prefix_size, prefix_code, operator_code, relation_size, relation_code, cell_at, cells_at, exp_code}
use Rattle.translator.specs.Fits.{ExtentFits, ExpFits}
use Rattle.translator.specs.Running.{on, carried, follow, moved, runs}
use Rattle.translator.specs.Simulation.{spread, ExpressionsRun}

-- A cell among the first ones is there in a longer list too, with the figure that the statement machine finds.
pub cell_found : {V : Type 0} (kind : Kind V) (cells hidden : List V) (c : ℕ) → c < length cells → (v : V) × (slice_get (cells ++ hidden) c ≡ Some v) × (figure_in kind cells c ≡ value v)
cell_found kind [] hidden c h = absurd (omega arith)
cell_found kind (v ∷ cells) hidden zero h = (v, refl, refl)
cell_found kind (v ∷ cells) hidden (suc c) h = cell_found kind cells hidden c (omega arith)

-- A descriptor has the parts that it was made of.
module _ (v : ℕ) (x : Extent) (fits : ExtentFits v x) where
  bias_is : at_least_zero (x.low +ℤ pos 10000) ≡ fits.bias
  bias_is = ap at_least_zero fits.biased

  parts : (f n b : ℕ) → f < 4096 → n < 4096 → unpacked (f + 4096 * n + 16777216 * b) ≡ record { first = f; count = n; biased_low = b }
  parts f n b hf hn =
      let x = f + 4096 * n + 16777216 * b in
      let e₁ : x % 4096 ≡ f = omega arith in
      let d : x / 4096 ≡ n + 4096 * b = omega arith in
      let e₂ : x / 4096 % 4096 ≡ n = ap (λ k. k % 4096) d ∙ omega arith in
      let e₃ : x / 16777216 ≡ b = omega arith in
      λ i. record { first = e₁ i; count = e₂ i; biased_low = e₃ i }

  unpacked_is : unpacked (descriptor x) ≡ record { first = x.first; count = x.count; biased_low = fits.bias }
  unpacked_is =
      ap (λ b. unpacked (x.first + 4096 * x.count + 16777216 * b)) bias_is
      ∙ parts x.first x.count fits.bias (omega (arith, fits.few, fits.below)) (omega (arith, fits.few, fits.below))

  -- The distance from the low bound is the same.
  distance_is : (n : ℤ) → (n +ℤ pos 10000) -ℤ pos fits.bias ≡ n -ℤ x.low
  distance_is n = ap (λ z. (n +ℤ pos 10000) -ℤ z) (sym fits.biased) ∙ omega (arith, ints)

  distance_agrees : (z : ℤ) → element_at (record { first = x.first; count = x.count; biased_low = fits.bias }) z ≡ calculation (at_distance x z)
  distance_agrees (pos d) = go (ltb d x.count)
    where
      go : (b : Bool) → cond b (gives (x.first + d)) (fails (record { number = 36; roll_place = None })) ≡ calculation (cond b (value (x.first + d)) (refused 36))
      go true = refl
      go false = refl
  distance_agrees (negsuc d) = refl

  -- Both machines find the same cell for a subscript, or the same fault.
  pub element_agrees : {V : Type 0} (kind : Kind V) (i : V) → element kind (descriptor x) i ≡ calculation (element_cell x (kind.nearest i))
  element_agrees kind i =
      ap (λ d. element_at d (from_low d (kind.nearest i))) unpacked_is
      ∙ ap (element_at (record { first = x.first; count = x.count; biased_low = fits.bias })) (distance_is (kind.nearest i))
      ∙ distance_agrees (kind.nearest i -ℤ x.low)

  -- The cell that a subscript names is a named one.
  pub element_below : (k : ℤ) (c : ℕ) → element_cell x k ≡ value c → c < v
  element_below k c e = at (k -ℤ x.low) e
    where
      go : (d : ℕ) (b : Bool) → ltb d x.count ≡ b → cond b (value (x.first + d)) (refused 36) ≡ value c → c < v
      go d true h e = let is : x.first + d ≡ c = cc in let lt = ltb-true d x.count h in omega (arith, fits.below)
      go d false h e = let z : ◌≡◌ {A = ℕ} 0 1 = cc in absurd (omega arith)

      at : (z : ℤ) → at_distance x z ≡ value c → c < v
      at (pos d) e = go d (ltb d x.count) refl e
      at (negsuc d) e = let z : ◌≡◌ {A = ℕ} 0 1 = cc in absurd (omega arith)

module _ {V : Type 0} (kind : Kind V) (c : List Entry) where
  -- Laws of what follows.
  pub follow_then : {A B : Type 0} (m : Memory V) (q : Outcome A) (g : A → Outcome B) (f : B → ResultOf V)
      → follow m (and_then g q) f ≡ follow m q (λ x. follow m (g x) f)
  follow_then m (value x) g f = refl
  follow_then m (refused n) g f = refl

  pub follow_same : {A : Type 0} (m : Memory V) (q : Outcome A) (f g : A → ResultOf V) → ((x : A) → q ≡ value x → f x ≡ g x) → follow m q f ≡ follow m q g
  follow_same m (value x) f g h = h x refl
  follow_same m (refused n) f g h = refl

  pub at_place : (p q : ℕ) (r : List Entry) (vs : List V) (m : Memory V) → p ≡ q → runs kind c p 0 r vs m ≡ runs kind c q 0 r vs m
  at_place p q r vs m e = ap (λ n. runs kind c n 0 r vs m) e

  -- A calculation that leaves one figure.
  pub calculation_carried : (next : ℕ → List V → Memory V → ResultOf V) (pc : ℕ) (m : Memory V) (q : Outcome V) (f : V → List V)
      → carried next pc m ((calculation q >>= λ v. gives (f v)) >>= λ ws. gives (on ws m)) ≡ follow m q (λ v. next 0 (f v) m)
  calculation_carried next pc m (value x) f = refl
  calculation_carried next pc m (refused n) f = refl

  -- Both machines write a truth value the same way.
  truth_is : (b : Bool) → truth kind b ≡ truth_figure kind b
  truth_is true = refl
  truth_is false = refl

  alike_is : (a b : Bool) → cond a b (not b) ≡ same_truth a b
  alike_is true b = refl
  alike_is false b = refl

  -- The run from a place on, as `carried` takes it.
  abbrev pub onward : ℕ → List Entry → ℕ → List V → Memory V → ResultOf V
  onward pc r j vs m = runs kind c pc j r vs m

  -- An operation that makes one figure of what lies on the stack, and one that makes a truth value.
  module _ (pc : ℕ) (r : List Entry) (vs : List V) (m : Memory V) where
    pub figure_made : (q : Outcome V)
        → carried (onward (suc pc) r) pc m ((calculation q >>= λ v. gives (v ∷ vs)) >>= λ ws. gives (on ws m)) ≡ follow m q (λ z. runs kind c (suc pc) 0 r (z ∷ vs) m)
    figure_made q = calculation_carried (onward (suc pc) r) pc m q (λ z. z ∷ vs)

    pub truth_made : (b : Bool)
        → carried (onward (suc pc) r) pc m ((calculation (truth kind b) >>= λ v. gives (v ∷ vs)) >>= λ ws. gives (on ws m))
        ≡ follow m (truth_figure kind b) (λ z. runs kind c (suc pc) 0 r (z ∷ vs) m)
    truth_made b = figure_made (truth kind b) ∙ ap (λ q. follow m q (λ z. runs kind c (suc pc) 0 r (z ∷ vs) m)) (truth_is b)

  -- One operator, over its two figures.
  operator_runs : (o : Operator) (pc : ℕ) (r : List Entry) (x y : V) (vs : List V) (m : Memory V)
      → runs kind c pc 0 (plain (operator_code o) ∷ r) (y ∷ x ∷ vs) m ≡ follow m (operation kind o x y) (λ z. runs kind c (suc pc) 0 r (z ∷ vs) m)
  operator_runs (Additive Plus) pc r x y vs m = figure_made pc r vs m (kind.add x y)
  operator_runs (Additive Minus) pc r x y vs m = figure_made pc r vs m (kind.subtract x y)
  operator_runs (Multiplicative Times) pc r x y vs m = figure_made pc r vs m (kind.multiply x y)
  operator_runs (Multiplicative Over) pc r x y vs m = figure_made pc r vs m (kind.divide x y)
  operator_runs Conjunction pc r x y vs m = truth_made pc r vs m (is_true kind x && is_true kind y)
  operator_runs Disjunction pc r x y vs m = truth_made pc r vs m (is_true kind x || is_true kind y)
  operator_runs Equivalence pc r x y vs m =
      truth_made pc r vs m (cond (is_true kind x) (is_true kind y) (not (is_true kind y)))
      ∙ ap (λ b. follow m (truth_figure kind b) (λ z. runs kind c (suc pc) 0 r (z ∷ vs) m)) (alike_is (is_true kind x) (is_true kind y))

  -- A cell is looked up; an element is, or its subscript faults.
  module _ (next : ℕ → List V → Memory V → ResultOf V) (pc x : ℕ) (m : Memory V) (vs : List V) where
    pub loaded_on : (v : V) → slice_get m.cells x ≡ Some v → carried next pc m (moved kind c (Transfer transfers.Load) x vs m) ≡ next 0 (v ∷ vs) m
    loaded_on v e = rw e

    pub element_on : (i : V) (k : ℕ) (v : V) → element kind x i ≡ gives k → slice_get m.cells k ≡ Some v
        → carried next pc m (moved kind c (Transfer transfers.Get) x (i ∷ vs) m) ≡ next 0 (v ∷ vs) m
    element_on i k v e f = rw (e, f)

    pub element_fails : (i : V) (f : Fault) → element kind x i ≡ fails f → carried next pc m (moved kind c (Transfer transfers.Get) x (i ∷ vs) m) ≡ faults f m
    element_fails i f e = rw e

  module _ (tells : Tells kind) where
    pub one_is_true : is_zero kind tells.one ≡ false
    one_is_true = ap (same_as kind tells.one) tells.of_zero ∙ tells.one_is_not

    pub zero_is_false : is_zero kind tells.zero ≡ true
    zero_is_false = ap (same_as kind tells.zero) tells.of_zero ∙ tells.zero_is_zero

    -- A truth value that is written and then denied.
    denied : (m : Memory V) (b : Bool) (f : V → ResultOf V) → follow m (truth kind b) (λ z. follow m (truth kind (not (not (is_zero kind z)))) f) ≡ follow m (truth_figure kind (not b)) f
    denied m true f =
        ap (λ q. follow m q (λ z. follow m (truth kind (not (not (is_zero kind z)))) f)) tells.of_one
        ∙ ap (λ b. follow m (truth kind (not (not b))) f) one_is_true
    denied m false f =
        ap (λ q. follow m q (λ z. follow m (truth kind (not (not (is_zero kind z)))) f)) tells.of_zero
        ∙ ap (λ b. follow m (truth kind (not (not b))) f) zero_is_false

    -- A relation, over its two figures: one operation, or one and a denial.
    module _ (pc : ℕ) (r : List Entry) (x y : V) (vs : List V) (m : Memory V) where
      stated : (q : ℕ) (b : Bool) → suc pc ≡ q
          → follow m (truth kind b) (λ z. runs kind c (suc pc) 0 r (z ∷ vs) m) ≡ follow m (truth_figure kind b) (λ z. runs kind c q 0 r (z ∷ vs) m)
      stated q b e =
          ap (λ o. follow m o (λ z. runs kind c (suc pc) 0 r (z ∷ vs) m)) (truth_is b)
          ∙ follow_same m (truth_figure kind b) _ _ (λ z is. at_place (suc pc) q r (z ∷ vs) m e)

      stated_denied : (q : ℕ) (b : Bool) → suc (suc pc) ≡ q
          → follow m (truth kind b) (λ z. runs kind c (suc pc) 0 (plain Not ∷ r) (z ∷ vs) m)
          ≡ follow m (truth_figure kind (not b)) (λ z. runs kind c q 0 r (z ∷ vs) m)
      stated_denied q b e =
          follow_same m (truth kind b) _ _ (λ z is. figure_made (suc pc) r vs m (truth kind (not (not (is_zero kind z)))))
          ∙ denied m b (λ z. runs kind c (suc (suc pc)) 0 r (z ∷ vs) m)
          ∙ follow_same m (truth_figure kind (not b)) _ _ (λ z is. at_place (suc (suc pc)) q r (z ∷ vs) m e)

      relation_runs : (o : Relation) (q : ℕ) → pc + relation_size o ≡ q
          → runs kind c pc 0 (relation_code o r) (y ∷ x ∷ vs) m ≡ follow m (truth_figure kind (stands_in kind o x y)) (λ z. runs kind c q 0 r (z ∷ vs) m)
      relation_runs relation.Less q e = figure_made pc r vs m (truth kind (kind.less x y)) ∙ stated q (kind.less x y) (omega arith)
      relation_runs relation.More q e = figure_made pc r vs m (truth kind (kind.less y x)) ∙ stated q (kind.less y x) (omega arith)
      relation_runs relation.Equal q e = figure_made pc r vs m (truth kind (kind.same x y)) ∙ stated q (kind.same x y) (omega arith)
      relation_runs relation.AtMost q e = figure_made pc (plain Not ∷ r) vs m (truth kind (kind.less y x)) ∙ stated_denied q (kind.less y x) (omega arith)
      relation_runs relation.AtLeast q e = figure_made pc (plain Not ∷ r) vs m (truth kind (kind.less x y)) ∙ stated_denied q (kind.less x y) (omega arith)
      relation_runs relation.Unequal q e = figure_made pc (plain Not ∷ r) vs m (truth kind (kind.same x y)) ∙ stated_denied q (kind.same x y) (omega arith)

    -- A sign or a not, over its figure.
    prefix_runs : (o : Prefix) (pc q : ℕ) (r : List Entry) (x : V) (vs : List V) (m : Memory V) → pc + prefix_size o ≡ q
        → runs kind c pc 0 (prefix_code o r) (x ∷ vs) m ≡ follow m (prefix_operation kind o x) (λ z. runs kind c q 0 r (z ∷ vs) m)
    prefix_runs (Signed Plus) pc q r x vs m e = at_place pc q r (x ∷ vs) m (omega arith)
    prefix_runs (Signed Minus) pc q r x vs m e = at_place (suc pc) q r (kind.negate x ∷ vs) m (omega arith)
    prefix_runs Negation pc q r x vs m e = figure_made pc r vs m (truth kind (not (is_true kind x))) ∙ stated pc r x x vs m q (not (is_true kind x)) (omega arith)

    module _ (names : Names) (m : statements.Memory V) (hidden unposted : List V) where
      abbrev M : Memory V
      M = spread m hidden unposted

      abbrev value_of : Exp → Outcome V
      value_of e = figure kind names m.cells e

      -- The figure of an element, by its subscript's.
      get_runs : (x : Name) (i : V) (pc q : ℕ) (r : List Entry) (vs : List V) → ExtentFits (length m.cells) (names.extent x.letters) → suc pc ≡ q
          → runs kind c pc 0 (entry Get (cells_at names x) ∷ r) (i ∷ vs) M
          ≡ follow M (element_cell (names.extent x.letters) (kind.nearest i)) (λ k. follow M (figure_in kind m.cells k) (λ v. runs kind c q 0 r (v ∷ vs) M))
      get_runs x i pc q r vs fits at = go (element_cell ext (kind.nearest i)) refl
        where
          ext : Extent
          ext = names.extent x.letters

          next : ℕ → List V → Memory V → ResultOf V
          next = λ j ws n. runs kind c (suc pc) j r ws n

          go : (o : Outcome ℕ) → element_cell ext (kind.nearest i) ≡ o
              → carried next pc M (moved kind c (Transfer transfers.Get) (cells_at names x) (i ∷ vs) M)
              ≡ follow M o (λ k. follow M (figure_in kind m.cells k) (λ v. runs kind c q 0 r (v ∷ vs) M))
          go (value k) is =
              let f = cell_found kind m.cells hidden k (element_below (length m.cells) ext fits (kind.nearest i) k is) in
              element_on next pc (cells_at names x) M vs i k f.0 (element_agrees (length m.cells) ext fits kind i ∙ ap calculation is) f.1
              ∙ at_place (suc pc) q r (f.0 ∷ vs) M at
              ∙ ap (λ o. follow M o (λ v. runs kind c q 0 r (v ∷ vs) M)) (sym f.2)
          go (refused n) is =
              element_fails next pc (cells_at names x) M vs i _ (element_agrees (length m.cells) ext fits kind i ∙ ap calculation is)

      -- Two operands, the left one first, and then what is made of them.
      pair_runs : (a b : Exp) (pc q : ℕ) (r : List Entry) (vs : List V) (f : V → V → Outcome V) (k : V → ResultOf V)
          → runs kind c pc 0 (exp_code names a (exp_code names b r)) vs M ≡ follow M (value_of a) (λ x. runs kind c (pc + exp_size a) 0 (exp_code names b r) (x ∷ vs) M)
          → ((x : V) → runs kind c (pc + exp_size a) 0 (exp_code names b r) (x ∷ vs) M ≡ follow M (value_of b) (λ y. runs kind c q 0 r (y ∷ x ∷ vs) M))
          → ((x y : V) → runs kind c q 0 r (y ∷ x ∷ vs) M ≡ follow M (f x y) k)
          → runs kind c pc 0 (exp_code names a (exp_code names b r)) vs M ≡ follow M (both f (value_of a) (value_of b)) k
      pair_runs a b pc q r vs f k left right then =
          left
          ∙ follow_same M (value_of a) _ _ (λ x is.
          right x
          ∙ follow_same M (value_of b) _ _ (λ y is. then x y)
          ∙ sym (follow_then M (value_of b) (f x) k))
          ∙ sym (follow_then M (value_of a) (λ x. and_then (f x) (value_of b)) k)

      pub exp_runs : (e : Exp) (pc q : ℕ) (r : List Entry) (vs : List V) → ExpFits names (length m.cells) e → pc + exp_size e ≡ q
          → runs kind c pc 0 (exp_code names e r) vs M ≡ follow M (value_of e) (λ v. runs kind c q 0 r (v ∷ vs) M)
      exp_runs (literal n p) pc q r vs fits at =
          figure_made pc r vs M (kind.of n)
          ∙ follow_same M (kind.of n) _ _ (λ z is. at_place (suc pc) q r (z ∷ vs) M (omega arith))
      exp_runs (simple x) pc q r vs fits at =
          let f = cell_found kind m.cells hidden (cell_at names x) fits in
          loaded_on (λ j ws n. runs kind c (suc pc) j r ws n) pc (cell_at names x) M vs f.0 f.1
          ∙ at_place (suc pc) q r (f.0 ∷ vs) M (omega arith)
          ∙ ap (λ o. follow M o (λ v. runs kind c q 0 r (v ∷ vs) M)) (sym f.2)
      exp_runs (subscripted x e) pc q r vs fits at =
          exp_runs e pc (pc + exp_size e) _ vs fits.1 refl
          ∙ follow_same M (value_of e) _ _ (λ i is. get_runs x i (pc + exp_size e) q r vs fits.0 (omega arith))
          ∙ sym (follow_then M (value_of e) (subscripted_cell kind names x) (λ k. follow M (figure_in kind m.cells k) (λ v. runs kind c q 0 r (v ∷ vs) M)))
          ∙ sym (follow_then M (and_then (subscripted_cell kind names x) (value_of e)) (figure_in kind m.cells) (λ v. runs kind c q 0 r (v ∷ vs) M))
      exp_runs (prefixed o p e) pc q r vs fits at =
          exp_runs e pc (pc + exp_size e) _ vs fits refl
          ∙ follow_same M (value_of e) _ _ (λ x is. prefix_runs o (pc + exp_size e) q r x vs M (omega arith))
          ∙ sym (follow_then M (value_of e) (prefix_operation kind o) (λ v. runs kind c q 0 r (v ∷ vs) M))
      exp_runs (joined o a b) pc q r vs fits at =
          pair_runs a b pc (pc + exp_size a + exp_size b) _ vs (operation kind o) (λ v. runs kind c q 0 r (v ∷ vs) M)
          (exp_runs a pc (pc + exp_size a) _ vs fits.0 refl)
          (λ x. exp_runs b (pc + exp_size a) (pc + exp_size a + exp_size b) _ (x ∷ vs) fits.1 refl)
          (λ x y. operator_runs o (pc + exp_size a + exp_size b) r x y vs M
          ∙ follow_same M (operation kind o x y) _ _ (λ z is. at_place (suc (pc + exp_size a + exp_size b)) q r (z ∷ vs) M (omega arith)))
      exp_runs (bracketed p e) pc q r vs fits at = exp_runs e pc q r vs fits at
      exp_runs (compared o p a b) pc q r vs fits at =
          pair_runs a b pc (pc + exp_size a + exp_size b) _ vs (λ x y. truth_figure kind (stands_in kind o x y)) (λ v. runs kind c q 0 r (v ∷ vs) M)
          (exp_runs a pc (pc + exp_size a) _ vs fits.0 refl)
          (λ x. exp_runs b (pc + exp_size a) (pc + exp_size a + exp_size b) _ (x ∷ vs) fits.1 refl)
          (λ x y. relation_runs (pc + exp_size a + exp_size b) r x y vs M o q (omega arith))

pub expressions_run : {V : Type 0} (kind : Kind V) → Tells kind → ExpressionsRun kind
expressions_run kind tells c names m hidden unposted e pc q r vs fits at = exp_runs kind c tells names m hidden unposted e pc q r vs fits at
