-- Where switches and go tos lead.
use Rattle.std.proofs.Common.{◌≡◌, ℕ, Bool, true, false, cond, ◌||◌, List, [], ◌∷◌, ◌++◌, Some, None, Option, sym, refl, ap, ◌∙◌, arith}
use Rattle.std.specs.Str.{bytes_eq}
use Rattle.grammar.specs.Tree.{Name, Exp, Statement, labelled, conditional, repeated, assigned, go, switched, input, printed, stop, sequence}
use Rattle.figures.specs.Kinds.{Kind, value}
use Rattle.symbols.specs.Jumps.{open_labels, is_among}
use Rattle.meaning.specs.Names.{Names}
use Rattle.meaning.specs.Positions.{Continuation, rest, turn, Position, at_go, at_switch, enter, leave, find, destination, kth}
use Rattle.meaning.specs.Machine.{Memory, next, state, on_to, worked_out, figure_of, go_or_leave, after_switch, step}
use Rattle.meaning.specs.Laws.{has_label, OutOf, out, of_block, of_for, SwitchLaw, JumpLaw}

pub true_is_not_false : true ≡ false → ⊥
true_is_not_false e = let z : ◌≡◌ {A = ℕ} 0 1 = cc in omega arith

or_assoc : (a b c : Bool) → (a || (b || c)) ≡ ((a || b) || c)
or_assoc true b c = refl
or_assoc false b c = refl

-- A disjunction that is false has two false parts.
pub neither : (a b : Bool) → (a || b) ≡ false → (a ≡ false) × (b ≡ false)
neither true b e = absurd (true_is_not_false e)
neither false b e = (refl, e)

-- Letters among two lists are among one of them.
pub among_both : (xs ys : List (List ℕ)) (l : List ℕ) → is_among (xs ++ ys) l ≡ (is_among xs l || is_among ys l)
among_both [] ys l = refl
among_both (x ∷ xs) ys l = ap (λ b. bytes_eq l x || b) (among_both xs ys l) ∙ or_assoc (bytes_eq l x) (is_among xs l) (is_among ys l)

pub among_neither : (xs ys : List (List ℕ)) (l : List ℕ) → is_among (xs ++ ys) l ≡ false → (is_among xs l ≡ false) × (is_among ys l ≡ false)
among_neither xs ys l e = neither (is_among xs l) (is_among ys l) (sym (among_both xs ys l) ∙ e)

-- What `find` makes of a labelled statement whose label is not the one looked for.
unlabelled : (b : Bool) (r q : Position) → b ≡ false → cond b r q ≡ q
unlabelled true r q e = absurd (true_is_not_false e)
unlabelled false r q e = refl

-- Where the label is missing, `find` gives what it was to give otherwise.
pub find_misses : (l : List ℕ) (s : Statement) (k : Continuation) (o : Position) → has_label l s ≡ false → find l s k o ≡ o
find_misses l (labelled m s) k o e =
    let h = neither (bytes_eq l m.letters) (has_label l s) e in
    unlabelled (bytes_eq l m.letters) (enter s k) (find l s k o) h.0 ∙ find_misses l s k o h.1
find_misses l (sequence a b) k o e =
    let h = among_neither (open_labels a) (open_labels b) l e in
    find_misses l a (rest b k) (find l b k o) h.0 ∙ find_misses l b k o h.1
find_misses l (conditional p x s) k o e = find_misses l s k o e
find_misses l (repeated p x es s) k o e = refl
find_misses l (assigned v x) k o e = refl
find_misses l (go p m) k o e = refl
find_misses l (switched p x y) k o e = refl
find_misses l (input p v) k o e = refl
find_misses l (printed p es) k o e = refl
find_misses l (stop p) k o e = refl

-- A label is looked for outside of all that a go to leaves.
destination_outside : (text : Option Statement) (l : List ℕ) {j k : Continuation} → OutOf l j k → destination text l k ≡ destination text l j
destination_outside text l out = refl
destination_outside text l (of_block h) = destination_outside text l h
destination_outside text l (of_for {loop} {e} {es} {k} m h) =
    find_misses l loop.body (turn loop e es k) (destination text l k) m ∙ destination_outside text l h

module _ {V : Type 0} (kind : Kind V) (names : Names) (text : Option Statement) where
  goes_on : (m : Memory V) (p : ℕ) (x : Name) (e : Exp) (k : Continuation) (v : V) → figure_of kind names text m e ≡ value v
      → kth (names.labels x.letters) (kind.nearest v) ≡ None
      → step kind names text (state m (enter (switched p x e) k)) ≡ next (state m (leave k))
  goes_on m p x e k v h n =
      ap (worked_out p (λ w. on_to (after_switch kind names text x k w) m)) h ∙ ap (λ o. on_to (go_or_leave kind names text k o) m) n

  pub switch_law : SwitchLaw kind names text
  switch_law = record {
    goes_on = goes_on;
    as_without = λ m p x e s k v h n. goes_on m p x e (rest s k) v h n;
  }

  from_outside : (m : Memory V) (p : ℕ) (l : Name) (j k : Continuation) → OutOf l.letters j k
      → step kind names text (state m (at_go p l k)) ≡ step kind names text (state m (at_go p l j))
  from_outside m p l j k h = ap (λ q. on_to q m) (destination_outside text l.letters h)

  switch_goes : (m : Memory V) (p : ℕ) (x : Name) (e : Exp) (k : Continuation) (v : V) (l : List ℕ) → figure_of kind names text m e ≡ value v
      → kth (names.labels x.letters) (kind.nearest v) ≡ Some l → step kind names text (state m (at_switch p x e k)) ≡ next (state m (destination text l k))
  switch_goes m p x e k v l h n =
      ap (worked_out p (λ w. on_to (after_switch kind names text x k w) m)) h ∙ ap (λ o. on_to (go_or_leave kind names text k o) m) n

  pub jump_law : JumpLaw kind names text
  jump_law = record {
    as_from_outside = from_outside;
    switched_as_from_outside = λ m p x e v l j k h n o.
        switch_goes m p x e k v l h n ∙ ap (λ q. on_to q m) (destination_outside text l o) ∙ sym (switch_goes m p x e j v l h n);
    whichever_element = λ m p l loop d e ds es k h.
        from_outside m p l k (turn loop d ds k) (of_for h out) ∙ sym (from_outside m p l k (turn loop e es k) (of_for h out));
  }
