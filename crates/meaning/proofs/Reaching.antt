-- The positions that a run comes to hold statements of the text alone. S k s says something of a statement s before the
-- continuation k; if it passes on to the parts of s, and holds of the text, it holds of all that a position holds.
use Rattle.std.proofs.Common.{◌≡◌, ℕ, Bool, true, false, cond, List, [], ◌∷◌, Some, None, Option, subst}
use Rattle.std.specs.Str.{bytes_eq}
use Rattle.grammar.specs.Tree.{Row, Name, Exp, Element, single, progression, Statement, labelled, conditional, repeated, assigned, go, switched, input, printed, stop, sequence}
use Rattle.figures.specs.Kinds.{Kind}
use Rattle.rolls.specs.Contents.{first as first_figure}
use Rattle.meaning.specs.Names.{Names}
use Rattle.meaning.specs.Expressions.{and_then, is_true}
use Rattle.meaning.specs.Positions.{Loop, Continuation, nothing, rest, turn, Position, end, at_assignment, at_go, at_switch, at_if, at_input, at_print, at_stop, at_element, at_addition, at_test, enter, leave, next_element, next_print, find, find_in_text, destination, kth, beginning}
use Rattle.meaning.specs.Machine.{Memory, State, Next, next, state, on_to, worked_out, received, with_rest_of_roll, post, variable_place, variable_name, figure_of, target, store, assign, assign_control, from, increased, test_step, after_test, after_if, go_or_leave, after_switch, step_at}
use Rattle.meaning.specs.Runs.{Steps, no_step, and_step}
use Rattle.meaning.proofs.Changing.{worked, figure_received, same_next, end_is_no_next}

-- What is said of a statement is said of its parts.
pub record PassesOn (S : Continuation → Statement → Type 0) : Type 0 where
  pub labelled_part : {k : Continuation} {l : Name} {s : Statement} → S k (labelled l s) → S k s
  pub first_part : {k : Continuation} {a b : Statement} → S k (sequence a b) → S (rest b k) a
  pub second_part : {k : Continuation} {a b : Statement} → S k (sequence a b) → S k b
  pub governed_part : {k : Continuation} {p : ℕ} {e : Exp} {s : Statement} → S k (conditional p e s) → S k s
  pub body_part : {k : Continuation} {p : ℕ} {x : Name} {es : Row Element} {s : Statement} → S k (repeated p x es s)
      → (e : Element) (later : List Element) → S (turn (record { place = p; control = x; body = s }) e later k) s

module _ (S : Continuation → Statement → Type 0) where
  -- The for that a loop comes from.
  pub record For (k : Continuation) (loop : Loop) : Type 0 where
    pub elements : Row Element
    pub said : S k (repeated loop.place loop.control elements loop.body)

  pub data After : Continuation → Type 0 where
    at_nothing : After nothing
    at_rest : {s : Statement} {k : Continuation} → S k s → After k → After (rest s k)
    at_turn : {loop : Loop} {e : Element} {es : List Element} {k : Continuation} → For k loop → After k → After (turn loop e es k)

  abbrev pub At : Position → Type 0
  At end = Unit {0}
  At (at_assignment v e k) = S k (assigned v e) × After k
  At (at_go p l k) = S k (go p l) × After k
  At (at_switch p x e k) = S k (switched p x e) × After k
  At (at_if p e s k) = S k (conditional p e s) × After k
  At (at_input p v k) = S k (input p v) × After k
  At (at_print p e es k) = After k
  At (at_stop p) = Unit {0}
  At (at_element loop e es k) = For k loop × After k
  At (at_addition loop a s b es k) = For k loop × After k
  At (at_test loop a s b es k) = For k loop × After k

  abbrev pub OfText : Option Statement → Type 0
  OfText None = Unit {0}
  OfText (Some s) = S nothing s

  module _ (on : PassesOn S) where
    enter_keeps : (s : Statement) (k : Continuation) → S k s → After k → At (enter s k)
    enter_keeps (labelled l s) k h j = enter_keeps s k (on.labelled_part h) j
    enter_keeps (sequence a b) k h j = enter_keeps a (rest b k) (on.first_part h) (at_rest (on.second_part h) j)
    enter_keeps (assigned v e) k h j = (h, j)
    enter_keeps (go p l) k h j = (h, j)
    enter_keeps (switched p x e) k h j = (h, j)
    enter_keeps (conditional p e s) k h j = (h, j)
    enter_keeps (input p v) k h j = (h, j)
    enter_keeps (printed p es) k h j = j
    enter_keeps (stop p) k h j = tt
    enter_keeps (repeated p x es s) k h j = (record { elements = es; said = h }, j)

    body_keeps : (loop : Loop) (e : Element) (es : List Element) (k : Continuation) → For k loop → After k → At (enter loop.body (turn loop e es k))
    body_keeps loop e es k h j = enter_keeps loop.body (turn loop e es k) (on.body_part h.said e es) (at_turn h j)

    next_element_keeps : (loop : Loop) (k : Continuation) (o : Position) (es : List Element) → For k loop → After k → At o → At (next_element loop k o es)
    next_element_keeps loop k o [] h j i = i
    next_element_keeps loop k o (e ∷ es) h j i = (h, j)

    turn_keeps : (loop : Loop) (e : Element) (es : List Element) (k : Continuation) → For k loop → After k → At (leave k) → At (leave (turn loop e es k))
    turn_keeps loop (single x) es k h j i = next_element_keeps loop k (leave k) es h j i
    turn_keeps loop (progression a s b) es k h j i = (h, j)

    leave_keeps : {k : Continuation} → After k → At (leave k)
    leave_keeps at_nothing = tt
    leave_keeps (at_rest {s} {k} h j) = enter_keeps s k h j
    leave_keeps (at_turn {loop} {e} {es} {k} h j) = turn_keeps loop e es k h j (leave_keeps j)

    either_keeps : (b : Bool) (p q : Position) → At p → At q → At (cond b p q)
    either_keeps true p q h j = h
    either_keeps false p q h j = j

    find_keeps : (l : List ℕ) (s : Statement) (k : Continuation) (o : Position) → S k s → After k → At o → At (find l s k o)
    find_keeps l (labelled m s) k o h j i =
        either_keeps (bytes_eq l m.letters) (enter s k) (find l s k o) (enter_keeps s k (on.labelled_part h) j)
        (find_keeps l s k o (on.labelled_part h) j i)
    find_keeps l (sequence a b) k o h j i =
        find_keeps l a (rest b k) (find l b k o) (on.first_part h) (at_rest (on.second_part h) j) (find_keeps l b k o (on.second_part h) j i)
    find_keeps l (conditional p e s) k o h j i = find_keeps l s k o (on.governed_part h) j i
    find_keeps l (repeated p x es s) k o h j i = i
    find_keeps l (assigned v e) k o h j i = i
    find_keeps l (go p m) k o h j i = i
    find_keeps l (switched p x e) k o h j i = i
    find_keeps l (input p v) k o h j i = i
    find_keeps l (printed p es) k o h j i = i
    find_keeps l (stop p) k o h j i = i

    text_keeps : (l : List ℕ) (text : Option Statement) → OfText text → At (find_in_text l text)
    text_keeps l None h = tt
    text_keeps l (Some s) h = find_keeps l s nothing end h at_nothing tt

    destination_keeps : (text : Option Statement) (l : List ℕ) {k : Continuation} → OfText text → After k → At (destination text l k)
    destination_keeps text l h at_nothing = text_keeps l text h
    destination_keeps text l h (at_rest a j) = destination_keeps text l h j
    destination_keeps text l h (at_turn {loop} {e} {es} {k} a j) =
        find_keeps l loop.body (turn loop e es k) (destination text l k) (on.body_part a.said e es) (at_turn a j) (destination_keeps text l h j)

    pub beginning_keeps : (text : Option Statement) → OfText text → At (beginning text)
    beginning_keeps None h = tt
    beginning_keeps (Some s) h = enter_keeps s nothing h at_nothing

    print_keeps : (p : ℕ) (k : Continuation) (es : List Exp) → After k → At (next_print p k es)
    print_keeps p k [] j = leave_keeps j
    print_keeps p k (e ∷ es) j = j

    module _ {V : Type 0} (kind : Kind V) (names : Names) (text : Option Statement) (in_text : OfText text) where
      switch_keeps : (k : Continuation) (o : Option (List ℕ)) → After k → At (go_or_leave kind names text k o)
      switch_keeps k None j = leave_keeps j
      switch_keeps k (Some l) j = destination_keeps text l in_text j

      if_keeps : (p : ℕ) (e : Exp) (s : Statement) (k : Continuation) (b : Bool) → S k (conditional p e s) → After k → At (after_if kind names text s k b)
      if_keeps p e s k true h j = enter_keeps s k (on.governed_part h) j
      if_keeps p e s k false h j = leave_keeps j

      test_keeps : (loop : Loop) (e : Element) (es : List Element) (k : Continuation) (b : Bool) → For k loop → After k → At (after_test kind names text loop e es k b)
      test_keeps loop e es k true h j = next_element_keeps loop k (leave k) es h j (leave_keeps j)
      test_keeps loop e es k false h j = body_keeps loop e es k h j

      arrived : (n : Memory V) (q : Position) (t : State V) → on_to q n ≡ next t → At q → At t.position
      arrived n q t e h = subst (λ u. At u.position) (same_next (state n q) t e) h

      -- A step, and a run, keep to the text.
      step_keeps : (m : Memory V) (p : Position) (t : State V) → step_at kind names text m p ≡ next t → At p → At t.position
      step_keeps m end t e h = absurd (end_is_no_next t e)
      step_keeps m (at_assignment v x k) t e h =
          let w = worked (variable_place v) (on_to (leave k)) (assign kind names text m v x) t e in
          arrived w.result (leave k) t w.goes_on (leave_keeps h.1)
      step_keeps m (at_go p l k) t e h = arrived m (destination text l.letters k) t e (destination_keeps text l.letters in_text h.1)
      step_keeps m (at_switch p x i k) t e h =
          let w = worked p (λ v. on_to (after_switch kind names text x k v) m) (figure_of kind names text m i) t e in
          let o : Option (List ℕ) = kth (names.labels x.letters) (kind.nearest w.result) in
          arrived m (go_or_leave kind names text k o) t w.goes_on (switch_keeps k o h.1)
      step_keeps m (at_if p x s k) t e h =
          let w = worked p (λ v. on_to (after_if kind names text s k (is_true kind v)) m) (figure_of kind names text m x) t e in
          let b : Bool = is_true kind w.result in
          arrived m (after_if kind names text s k b) t w.goes_on (if_keeps p x s k b h.0 h.1)
      step_keeps m (at_input p v k) t e h =
          let put : ℕ → V → Next V = λ c f. worked_out p (on_to (leave k)) (store kind names text (with_rest_of_roll m) (variable_name v) c f) in
          let w = worked p (λ c. received p (put c) (first_figure m.roll)) (target kind names text m v) t e in
          let r = figure_received p (put w.result) (first_figure m.roll) t w.goes_on in
          let u = worked p (on_to (leave k)) (store kind names text (with_rest_of_roll m) (variable_name v) w.result r.figure) t r.goes_on in
          arrived u.result (leave k) t u.goes_on (leave_keeps h.1)
      step_keeps m (at_print p x es k) t e h =
          let w = worked p (on_to (next_print p k es)) (and_then (post m) (figure_of kind names text m x)) t e in
          arrived w.result (next_print p k es) t w.goes_on (print_keeps p k es h)
      step_keeps m (at_stop p) t e h = arrived m end t e tt
      step_keeps m (at_element loop x es k) t e h =
          let q : Position = enter loop.body (turn loop x es k) in
          let w = worked loop.place (on_to q) (assign_control kind names text m loop (from kind names text x)) t e in
          arrived w.result q t w.goes_on (body_keeps loop x es k h.0 h.1)
      step_keeps m (at_addition loop a s b es k) t e h =
          let w = worked loop.place (on_to (at_test loop a s b es k)) (assign_control kind names text m loop (increased kind names text loop s)) t e in
          arrived w.result (at_test loop a s b es k) t w.goes_on h
      step_keeps m (at_test loop a s b es k) t e h =
          let go : Bool → Position = after_test kind names text loop (progression a s b) es k in
          let w = worked loop.place (λ past. on_to (go past) m) (test_step kind names text m loop s b) t e in
          arrived m (go w.result) t w.goes_on (test_keeps loop (progression a s b) es k w.result h.0 h.1)

      pub run_keeps : {s t : State V} {n : ℕ} → Steps kind names text s n t → At s.position → At t.position
      run_keeps no_step h = h
      run_keeps {t} (and_step {s = u} a e) h = step_keeps u.memory u.position t e (run_keeps a h)
