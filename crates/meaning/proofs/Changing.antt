-- What one step may do to the memory: nothing, or store one figure in a cell of a name that its statement names, with or
-- without taking a figure from the roll, or post one figure. The laws on book and roll follow by counting steps.
use Rattle.std.proofs.Common.{◌≡◌, ℕ, suc, ◌+◌, Bool, true, false, cond, ltb, List, [], ◌∷◌, ◌++◌, length, ℤ, pos, negsuc, ◌-ℤ◌, Option, sym, refl, ap, ◌∙◌, subst, append_assoc, append-nil, arith, length-append, ltb-true}
use Rattle.grammar.specs.Tree.{Name, Exp, Variable, whole, indexed, progression, Statement}
use Rattle.figures.specs.Kinds.{Kind, Outcome, value, refused}
use Rattle.rolls.specs.Contents.{HowItEnds, ends, damaged_at, Taken, took, refused as roll_refused, refused_at, first_of, rest_of, first as first_figure}
use Rattle.meaning.specs.Names.{Names}
use Rattle.meaning.specs.Expressions.{and_then, is_true, as_stored, at_distance, subscripted_cell}
use Rattle.meaning.specs.Positions.{Position, end, at_assignment, at_go, at_switch, at_if, at_input, at_print, at_stop, at_element, at_addition, at_test, turn, enter, leave, next_print, destination}
use Rattle.meaning.specs.Machine.{Memory, State, Fault, Next, at_end, next, faults, state, on_to, with_cell, with_rest_of_roll, with_posted, worked_out, received, post_if, post, variable_place, variable_name, figure_of, target, store, assign, from, increased, test_step, after_test, after_if, after_switch, step_at}
use Rattle.meaning.specs.Runs.{Steps, no_step, and_step}
use Rattle.meaning.specs.Laws.{HasCell, the_first, an_element, BookGrows, RollShrinks, BookLaw, RollLaw}

-- Where an outcome is a value, so was what it came from.
pub record Came {A B : Type 0} (f : A → Outcome B) (o : Outcome A) (b : B) : Type 0 where
  pub from : A
  pub was : o ≡ value from
  pub then : f from ≡ value b

pub no_value : {A : Type 0} (n : ℕ) (a : A) → refused n ≡ value a → ⊥
no_value n a e = let z : ◌≡◌ {A = ℕ} 0 1 = cc in omega arith

pub same_value : {A : Type 0} (a b : A) → value a ≡ value b → a ≡ b
same_value a b e = cc

came : {A B : Type 0} (f : A → Outcome B) (o : Outcome A) (b : B) → and_then f o ≡ value b → Came f o b
came f (value a) b e = record { from = a; was = refl; then = e }
came f (refused n) b e = absurd (no_value n b e)

-- Where a step is made, what it needs was worked out.
pub record Worked {A V : Type 0} (f : A → Next V) (o : Outcome A) (t : State V) : Type 0 where
  pub result : A
  pub was : o ≡ value result
  pub goes_on : f result ≡ next t

no_next : {V : Type 0} (f : Fault) (t : State V) → faults f ≡ next t → ⊥
no_next f t e = let z : ◌≡◌ {A = ℕ} 0 1 = cc in omega arith

pub worked : {A V : Type 0} (p : ℕ) (f : A → Next V) (o : Outcome A) (t : State V) → worked_out p f o ≡ next t → Worked f o t
worked p f (value a) t e = record { result = a; was = refl; goes_on = e }
worked p f (refused n) t e = absurd (no_next _ t e)

pub record Received {V : Type 0} (f : V → Next V) (o : Taken V) (t : State V) : Type 0 where
  pub figure : V
  pub was : o ≡ took figure
  pub goes_on : f figure ≡ next t

pub figure_received : {V : Type 0} (p : ℕ) (f : V → Next V) (o : Taken V) (t : State V) → received p f o ≡ next t → Received f o t
figure_received p f (took v) t e = record { figure = v; was = refl; goes_on = e }
figure_received p f (roll_refused n) t e = absurd (no_next _ t e)
figure_received p f (refused_at n q) t e = absurd (no_next _ t e)

pub end_is_no_next : {V : Type 0} (t : State V) → at_end ≡ next t → ⊥
end_is_no_next t e = let z : ◌≡◌ {A = ℕ} 0 1 = cc in omega arith

same_took : {V : Type 0} (v w : V) → took v ≡ took w → v ≡ w
same_took v w e = cc

pub same_next : {V : Type 0} (s t : State V) → next s ≡ next t → s ≡ t
same_next s t e = cc

module _ {V : Type 0} where
  -- What a step changes; a cell is stored in only if C says so.
  pub data Change (C : ℕ → Type 0) (m : Memory V) : Memory V → Type 0 where
    unchanged : Change C m m
    stored : (c : ℕ) (v : V) → C c → Change C m (with_cell m c v)
    taken : (c : ℕ) (v w : V) → C c → first_figure m.roll ≡ took w → Change C m (with_cell (with_rest_of_roll m) c v)
    posted_one : (v : V) → Change C m (with_posted m v)

module _ {V : Type 0} (kind : Kind V) (names : Names) (text : Option Statement) where
  -- The cells of the name that the step at a position stores in.
  abbrev pub StoredAt : Position → ℕ → Type 0
  StoredAt end = λ c. ⊥
  StoredAt (at_assignment v e k) = HasCell names (variable_name v).letters
  StoredAt (at_go p l k) = λ c. ⊥
  StoredAt (at_switch p x e k) = λ c. ⊥
  StoredAt (at_if p e s k) = λ c. ⊥
  StoredAt (at_input p v k) = HasCell names (variable_name v).letters
  StoredAt (at_print p e es k) = λ c. ⊥
  StoredAt (at_stop p) = λ c. ⊥
  StoredAt (at_element loop e es k) = HasCell names loop.control.letters
  StoredAt (at_addition loop a s b es k) = HasCell names loop.control.letters
  StoredAt (at_test loop a s b es k) = λ c. ⊥

  -- A cell that a test let pass is one of the array's.
  within_test : (x : List ℕ) (d c : ℕ) (b : Bool) → ltb d (names.extent x).count ≡ b
      → cond b (value ((names.extent x).first + d)) (refused 36) ≡ value c → HasCell names x c
  within_test x d c true h e = subst (HasCell names x) (same_value _ c e) (an_element d (ltb-true d (names.extent x).count h))
  within_test x d c false h e = absurd (no_value 36 c e)

  at_distance_is_cell : (x : List ℕ) (z : ℤ) (c : ℕ) → at_distance (names.extent x) z ≡ value c → HasCell names x c
  at_distance_is_cell x (pos d) c e = within_test x d c (ltb d (names.extent x).count) refl e
  at_distance_is_cell x (negsuc d) c e = absurd (no_value 36 c e)

  target_is_cell : (m : Memory V) (v : Variable) (c : ℕ) → target kind names text m v ≡ value c → HasCell names (variable_name v).letters c
  target_is_cell m (whole x) c e = subst (HasCell names x.letters) (same_value _ c e) the_first
  target_is_cell m (indexed x i) c e =
      let h = came (subscripted_cell kind names x) (figure_of kind names text m i) c e in
      at_distance_is_cell x.letters (kind.nearest h.from -ℤ (names.extent x.letters).low) c h.then

  -- Storing changes one cell.
  store_sets : (m n : Memory V) (x : Name) (c : ℕ) (v : V) → store kind names text m x c v ≡ value n → (w : V) × (with_cell m c w ≡ n)
  store_sets m n x c v e =
      let h = came (λ w. value (with_cell m c w)) (as_stored kind v (names.type x.letters)) n e in
      (h.from, same_value _ n h.then)

  store_changes : (C : ℕ → Type 0) (m n : Memory V) (x : Name) (c : ℕ) (v : V) → C c → store kind names text m x c v ≡ value n → Change C m n
  store_changes C m n x c v h e = let s = store_sets m n x c v e in subst (Change C m) s.1 (stored c s.0 h)

  take_changes : (C : ℕ → Type 0) (m n : Memory V) (x : Name) (c : ℕ) (v : V) → C c → first_figure m.roll ≡ took v
      → store kind names text (with_rest_of_roll m) x c v ≡ value n → Change C m n
  take_changes C m n x c v h f e = let s = store_sets (with_rest_of_roll m) n x c v e in subst (Change C m) s.1 (taken c s.0 v h f)

  post_changes : (C : ℕ → Type 0) (m n : Memory V) (v : V) (b : Bool) → post_if m v b ≡ value n → Change C m n
  post_changes C m n v true e = subst (Change C m) (same_value _ n e) (posted_one v)
  post_changes C m n v false e = absurd (no_value 35 n e)

  -- The memory after a step that leads on to q.
  reached : (C : ℕ → Type 0) (m n : Memory V) (q : Position) (t : State V) → on_to q n ≡ next t → Change C m n → Change C m t.memory
  reached C m n q t e h = subst (λ u. Change C m u.memory) (same_next (state n q) t e) h

  -- An assignment changes one cell of its name.
  assign_changes : (m n : Memory V) (v : Variable) (x : Exp) → assign kind names text m v x ≡ value n → Change (HasCell names (variable_name v).letters) m n
  assign_changes m n v x e =
      let y = variable_name v in
      let a = came (λ c. and_then (store kind names text m y c) (figure_of kind names text m x)) (target kind names text m v) n e in
      let b = came (store kind names text m y a.from) (figure_of kind names text m x) n a.then in
      store_changes (HasCell names y.letters) m n y a.from b.from (target_is_cell m v a.from a.was) b.then

  assignment_step : (p : ℕ) (q : Position) (m : Memory V) (v : Variable) (x : Exp) (t : State V) → worked_out p (on_to q) (assign kind names text m v x) ≡ next t
      → Change (HasCell names (variable_name v).letters) m t.memory
  assignment_step p q m v x t e =
      let w = worked p (on_to q) (assign kind names text m v x) t e in
      reached (HasCell names (variable_name v).letters) m w.result q t w.goes_on (assign_changes m w.result v x w.was)

  pub step_changes : (m : Memory V) (p : Position) (t : State V) → step_at kind names text m p ≡ next t → Change (StoredAt p) m t.memory
  step_changes m end t e = absurd (end_is_no_next t e)
  step_changes m (at_assignment v x k) t e = assignment_step (variable_place v) (leave k) m v x t e
  step_changes m (at_go p l k) t e = reached (λ c. ⊥) m m (destination text l.letters k) t e unchanged
  step_changes m (at_switch p x i k) t e =
      let w = worked p (λ v. on_to (after_switch kind names text x k v) m) (figure_of kind names text m i) t e in
      reached (λ c. ⊥) m m (after_switch kind names text x k w.result) t w.goes_on unchanged
  step_changes m (at_if p x s k) t e =
      let w = worked p (λ v. on_to (after_if kind names text s k (is_true kind v)) m) (figure_of kind names text m x) t e in
      reached (λ c. ⊥) m m (after_if kind names text s k (is_true kind w.result)) t w.goes_on unchanged
  step_changes m (at_input p v k) t e =
      let y = variable_name v in
      let C : ℕ → Type 0 = HasCell names y.letters in
      let put : ℕ → V → Next V = λ c f. worked_out p (on_to (leave k)) (store kind names text (with_rest_of_roll m) y c f) in
      let w = worked p (λ c. received p (put c) (first_figure m.roll)) (target kind names text m v) t e in
      let r = figure_received p (put w.result) (first_figure m.roll) t w.goes_on in
      let u = worked p (on_to (leave k)) (store kind names text (with_rest_of_roll m) y w.result r.figure) t r.goes_on in
      reached C m u.result (leave k) t u.goes_on
      (take_changes C m u.result y w.result r.figure (target_is_cell m v w.result w.was) r.was u.was)
  step_changes m (at_print p x es k) t e =
      let w = worked p (on_to (next_print p k es)) (and_then (post m) (figure_of kind names text m x)) t e in
      let n : Memory V = w.result in
      let a = came (post m) (figure_of kind names text m x) n w.was in
      reached (λ c. ⊥) m n (next_print p k es) t w.goes_on (post_changes (λ c. ⊥) m n a.from (ltb (length m.posted) m.book_length) a.then)
  step_changes m (at_stop p) t e = reached (λ c. ⊥) m m end t e unchanged
  step_changes m (at_element loop x es k) t e =
      assignment_step loop.place (enter loop.body (turn loop x es k)) m (whole loop.control) (from kind names text x) t e
  step_changes m (at_addition loop a s b es k) t e =
      assignment_step loop.place (at_test loop a s b es k) m (whole loop.control) (increased kind names text loop s) t e
  step_changes m (at_test loop a s b es k) t e =
      let go : Bool → Position = after_test kind names text loop (progression a s b) es k in
      let w = worked loop.place (λ past. on_to (go past) m) (test_step kind names text m loop s b) t e in
      reached (λ c. ⊥) m m (go w.result) t w.goes_on unchanged

  -- One step, then n steps before it: the book.
  book_one : (C : ℕ → Type 0) (m n : Memory V) → Change C m n → BookGrows 1 m n
  book_one C m n unchanged = record { added = []; few = omega arith; at_the_end = sym (append-nil m.posted); same_length = refl }
  book_one C m n (stored c v h) = record { added = []; few = omega arith; at_the_end = sym (append-nil m.posted); same_length = refl }
  book_one C m n (taken c v w h f) = record { added = []; few = omega arith; at_the_end = sym (append-nil m.posted); same_length = refl }
  book_one C m n (posted_one v) = record { added = v ∷ []; few = omega arith; at_the_end = refl; same_length = refl }

  book_more : (n : ℕ) (a b c : Memory V) → BookGrows n a b → BookGrows 1 b c → BookGrows (suc n) a c
  book_more n a b c h j = record {
    added = h.added ++ j.added;
    few = simp length-append (omega (arith, h.few, j.few));
    at_the_end = j.at_the_end ∙ ap (λ l. l ++ j.added) h.at_the_end ∙ append_assoc a.posted h.added j.added;
    same_length = j.same_length ∙ h.same_length;
  }

  book_steps : {s t : State V} {n : ℕ} → Steps kind names text s n t → BookGrows n s.memory t.memory
  book_steps {s} no_step = record { added = []; few = omega arith; at_the_end = sym (append-nil s.memory.posted); same_length = refl }
  book_steps {s} {t} (and_step {n} {s = u} a e) =
      book_more n s.memory u.memory t.memory (book_steps a)
      (book_one (StoredAt u.position) u.memory t.memory (step_changes u.memory u.position t e))

  pub book_law : BookLaw kind names text
  book_law s t n a = book_steps a

  -- The same for the roll.
  took_first : (ending : HowItEnds) (xs : List V) (w : V) → first_of ending xs ≡ took w → xs ≡ (w ∷ []) ++ rest_of xs
  took_first ends [] w e = absurd (let z : ◌≡◌ {A = ℕ} 0 1 = cc in omega arith)
  took_first (damaged_at p) [] w e = absurd (let z : ◌≡◌ {A = ℕ} 0 1 = cc in omega arith)
  took_first ending (x ∷ xs) w e = ap (λ y. y ∷ xs) (same_took x w e)

  roll_one : (C : ℕ → Type 0) (m n : Memory V) → Change C m n → RollShrinks 1 m n
  roll_one C m n unchanged = record { taken = []; few = omega arith; from_the_front = refl; same_ending = refl }
  roll_one C m n (stored c v h) = record { taken = []; few = omega arith; from_the_front = refl; same_ending = refl }
  roll_one C m n (taken c v w h f) =
      record { taken = w ∷ []; few = omega arith; from_the_front = took_first m.roll.ending m.roll.figures w f; same_ending = refl }
  roll_one C m n (posted_one v) = record { taken = []; few = omega arith; from_the_front = refl; same_ending = refl }

  roll_more : (n : ℕ) (a b c : Memory V) → RollShrinks n a b → RollShrinks 1 b c → RollShrinks (suc n) a c
  roll_more n a b c h j = record {
    taken = h.taken ++ j.taken;
    few = simp length-append (omega (arith, h.few, j.few));
    from_the_front = h.from_the_front ∙ ap (λ l. h.taken ++ l) j.from_the_front ∙ sym (append_assoc h.taken j.taken c.roll.figures);
    same_ending = j.same_ending ∙ h.same_ending;
  }

  roll_steps : {s t : State V} {n : ℕ} → Steps kind names text s n t → RollShrinks n s.memory t.memory
  roll_steps no_step = record { taken = []; few = omega arith; from_the_front = refl; same_ending = refl }
  roll_steps {s} {t} (and_step {n} {s = u} a e) =
      roll_more n s.memory u.memory t.memory (roll_steps a)
      (roll_one (StoredAt u.position) u.memory t.memory (step_changes u.memory u.position t e))

  pub roll_law : RollLaw kind names text
  roll_law s t n a = roll_steps a
