-- What the refusals mean.
use Rattle.std.proofs.Common.{◌≡◌, ℕ, ◌+◌, ◌-◌, ◌<◌, ◌≤◌, Bool, true, false, cond, leb, ◌⊎◌, List, [], ◌∷◌, ◌++◌, Some, None, Option, sym, refl, ap, ◌∙◌, inl, inr, append_assoc, arith, le-leb, leb-false, leb-true}
use borrow.Author.Tests.{lt-leb}
use Rattle.words.specs.Token.{Word}
use Rattle.grammar.specs.declared.refusal.SentenceRefusal.{SentenceRefusal}
use Rattle.grammar.specs.declared.refusal.SentenceRefusal.TheVariants.{Unexpected, TooDeep}
use Rattle.grammar.specs.Tree.{Program}
use Rattle.grammar.specs.Classes.{opens}
use Rattle.grammar.specs.Parser.{State, moved, finished, Outcome, tree, refused, early_or, levels, onward, run, initial, parsed}
use Rattle.grammar.specs.Meaning.{Sentence, Begins, Impossible, Unfinished, IsTooDeep}
use Rattle.grammar.proofs.Sound.{At, moved_at, run_at}
use Rattle.grammar.proofs.Complete.{sentence_read}
use Rattle.grammar.proofs.Completion.{state_words}

-- From s the words lead to q, within the limit.
pub data Steps (limit : ℕ) : State → List Word → State → Type 0 where
  none : {s : State} → Steps limit s [] s
  step : {s r q : State} {ws : List Word} (w : Word) → moved s w.token w.place ≡ Some r → (opens w.token ≡ true → levels r ≤ limit) → Steps limit r ws q → Steps limit s (w ∷ ws) q

steps_up : {limit l : ℕ} {s q : State} {ws : List Word} → limit ≤ l → Steps limit s ws q → Steps l s ws q
steps_up h none = none
steps_up h (step w m o x) = step w m (λ e. omega (arith, o e)) (steps_up h x)

steps_more : {limit : ℕ} {s q r : State} {ws : List Word} (w : Word) → Steps limit s ws q → moved q w.token w.place ≡ Some r → (opens w.token ≡ true → levels r ≤ limit) → Steps limit s (ws ++ w ∷ []) r
steps_more w none m o = step w m o none
steps_more w (step v n p x) m o = step v n p (steps_more w x m o)

onward_go : (limit b : ℕ) (o : Bool) (next : State → Outcome) (q : State) → (o ≡ true → levels q ≤ limit) → onward limit b o next (Some q) ≡ next q
onward_go limit b true next q h = ap (λ x. cond x (next q) (refused TooDeep b)) (le-leb (levels q) limit (h refl))
onward_go limit b false next q h = refl

-- A run follows the steps.
run_steps : {limit : ℕ} {s q : State} {ws : List Word} (end : ℕ) (more : List Word) → Steps limit s ws q → run limit end (ws ++ more) s ≡ run limit end more q
run_steps end more none = refl
run_steps {limit} end more (step {r = r} {ws = ws} w m o x) =
    ap (λ y. onward limit w.place (opens w.token) (λ z. run limit end (ws ++ more) z) y) m
    ∙ (onward_go limit w.place (opens w.token) (λ z. run limit end (ws ++ more) z) r o ∙ run_steps end more x)

-- What the state promises holds along the steps.
steps_at : {limit : ℕ} {s q : State} {ws : List Word} (all more : List Word) → Steps limit s ws q → At limit all s (ws ++ more) → At limit all q more
steps_at all more none h = h
steps_at {limit} {s} all more (step {r = r} {ws = ws} w m o x) h = steps_at all more x (moved_at limit all w (ws ++ more) r o s h m)

-- Words that the machine takes begin a sentence.
pub steps_begin : {limit : ℕ} {q : State} {ws : List Word} → Steps limit initial ws q → Begins ws
steps_begin {limit} {q} {ws} x =
    let c = state_words q in
    let l = limit + c.levels in
    let z : l - 0 ≡ l = omega arith in
    let at_start : At l (ws ++ c.words) initial (ws ++ c.words) = λ rs v h. rw z at h in
    (l, c.words, c.tree, c.derives l (ws ++ c.words) (omega arith) (steps_at (ws ++ c.words) c.words (steps_up (omega arith) x) at_start))

-- Why a run was refused: at a word that has no move, at a word that opens a level too many, or at the end.
pub data Reason (limit end : ℕ) (s : State) : List Word → SentenceRefusal → ℕ → Type 0 where
  no_move : (before after : List Word) (w : Word) (q : State) → Steps limit s before q → moved q w.token w.place ≡ None → Reason limit end s (before ++ w ∷ after) Unexpected w.place
  no_level : (before after : List Word) (w : Word) (q r : State) → Steps limit s before q → moved q w.token w.place ≡ Some r → opens w.token ≡ true → limit < levels r
      → Reason limit end s (before ++ w ∷ after) TooDeep w.place
  no_end : (ws : List Word) (q : State) → Steps limit s ws q → finished q ≡ None → Reason limit end s ws Unexpected end

reason_step : {limit end : ℕ} {s r : State} {ws : List Word} {n : SentenceRefusal} {p : ℕ} (w : Word) → moved s w.token w.place ≡ Some r → (opens w.token ≡ true → levels r ≤ limit) → Reason limit end r ws n p → Reason limit end s (w ∷ ws) n p
reason_step w m o (no_move before after v q x e) = no_move (w ∷ before) after v q (step w m o x) e
reason_step w m o (no_level before after v q r x e f h) = no_level (w ∷ before) after v q r (step w m o x) e f h
reason_step w m o (no_end ws q x e) = no_end (w ∷ ws) q (step w m o x) e

pub data Answer (limit end : ℕ) (s : State) (ws : List Word) : Outcome → Type 0 where
  read : (t : Program) → Answer limit end s ws (tree t)
  refusal : (n : SentenceRefusal) (p : ℕ) → Reason limit end s ws n p → Answer limit end s ws (refused n p)

answer_step : {limit end : ℕ} {s r : State} {ws : List Word} {o : Outcome} (w : Word) → moved s w.token w.place ≡ Some r → (opens w.token ≡ true → levels r ≤ limit) → Answer limit end r ws o → Answer limit end s (w ∷ ws) o
answer_step w m o (read t) = read t
answer_step w m o (refusal n p x) = refusal n p (reason_step w m o x)

-- Every run is read or refused, and for a reason.
module _ (limit end : ℕ) where
  at_end : (s : State) (o : Option Program) → finished s ≡ o → Answer limit end s [] (early_or end o)
  at_end s None e = refusal Unexpected end (no_end [] s none e)
  at_end s (Some t) e = read t

  false_true : {A : Type 0} {b : Bool} → b ≡ false → b ≡ true → A
  false_true {A} {b} e f = let y : ◌≡◌ {A = ℕ} 0 1 = sym (ap {B = ℕ} (λ x. cond x 1 0) e) ∙ ap {B = ℕ} (λ x. cond x 1 0) f in absurd (omega arith)

  pub answered : (ws : List Word) (s : State) → Answer limit end s ws (run limit end ws s)
  answered [] s = at_end s (finished s) refl
  answered (w ∷ ws) s = next (moved s w.token w.place) refl (λ q. answered ws q)
    where
      checked : (o l : Bool) (q : State) → opens w.token ≡ o → leb (levels q) limit ≡ l → moved s w.token w.place ≡ Some q → Answer limit end q ws (run limit end ws q)
          → Answer limit end s (w ∷ ws) (cond o (cond l (run limit end ws q) (refused TooDeep w.place)) (run limit end ws q))
      checked true true q i j m rec = answer_step w m (λ _. leb-true (levels q) limit j) rec
      checked true false q i j m rec = refusal TooDeep w.place (no_level [] ws w s q none m i (leb-false (levels q) limit j))
      checked false l q i j m rec = answer_step w m (λ o. false_true i o) rec

      next : (o : Option State) → moved s w.token w.place ≡ o → ((q : State) → Answer limit end q ws (run limit end ws q)) → Answer limit end s (w ∷ ws) (onward limit w.place (opens w.token) (λ q. run limit end ws q) o)
      next None m rec = refusal Unexpected w.place (no_move [] ws w s none m)
      next (Some q) m rec = checked (opens w.token) (leb (levels q) limit) q refl refl m (rec q)

tree_refused : {A : Type 0} {t : Program} {n : SentenceRefusal} {p : ℕ} {o : Outcome} → o ≡ tree t → o ≡ refused n p → A
tree_refused e h = let z : ◌≡◌ {A = ℕ} 0 1 = cc in absurd (omega arith)

-- No sentence begins with words that end in one without a move.
pub no_move_first : {limit : ℕ} {q : State} (before : List Word) (w : Word) → Steps limit initial before q → moved q w.token w.place ≡ None → Begins (before ++ w ∷ []) → ⊥
no_move_first {limit} {q} before w x m b =
    let l = limit + b.0 in
    let all = (before ++ w ∷ []) ++ b.1 in
    let r = sentence_read l 0 b.0 all b.2 (omega arith) b.3 in
    let same : all ≡ before ++ (w ∷ b.1) = append_assoc before (w ∷ []) b.1 in
    let u = run_steps 0 (w ∷ b.1) (steps_up {l = l} (omega arith) x) in
    let g : run l 0 (w ∷ b.1) q ≡ refused Unexpected w.place = ap (λ y. onward l w.place (opens w.token) (λ z. run l 0 b.1 z) y) m in
    tree_refused r (ap (λ z. run l 0 z initial) same ∙ (u ∙ g))

pub no_end_unfinished : {limit : ℕ} {q : State} (ws : List Word) → Steps limit initial ws q → finished q ≡ None → (l : ℕ) (t : Program) → Sentence l ws t → ⊥
no_end_unfinished {limit} {q} ws x e l t y =
    let m = limit + l in
    let r = sentence_read m 0 l ws t (omega arith) y in
    let same : ws ++ [] ≡ ws = append_nil ws in
    let u = run_steps 0 [] (steps_up {l = m} (omega arith) x) in
    tree_refused r (ap (λ z. run m 0 z initial) (sym same) ∙ (u ∙ ap (λ o. early_or 0 o) e))
  where
    append_nil : (ws : List Word) → ws ++ [] ≡ ws
    append_nil [] = refl
    append_nil (w ∷ ws) = ap (λ z. w ∷ z) (append_nil ws)

other : {A : Type 0} → TooDeep ≡ Unexpected → A
other e = let z : ◌≡◌ {A = ℕ} 0 1 = cc in absurd (omega arith)

pub five : {limit end : ℕ} {ws : List Word} {n : SentenceRefusal} {p : ℕ} → n ≡ Unexpected → Reason limit end initial ws n p → Impossible ws p ⊎ ((p ≡ end) × Unfinished ws)
five e (no_move before after w q x m) = inl (record { before = before; word = w; after = after; whole = refl; place = refl; possible = steps_begin x; first = no_move_first before w x m })
five e (no_level before after w q r x m o h) = other e
five e (no_end ws q x f) = inr (refl, record { possible = steps_begin x; unfinished = no_end_unfinished ws x f })

no_level_deep : {limit : ℕ} {q r : State} (before : List Word) (w : Word) → Steps limit initial before q → moved q w.token w.place ≡ Some r → opens w.token ≡ true → limit < levels r
    → (more : List Word) (t : Program) → Sentence limit ((before ++ w ∷ []) ++ more) t → ⊥
no_level_deep {limit} {q} {r} before w x m o h more t y =
    let all = (before ++ w ∷ []) ++ more in
    let d = sentence_read limit 0 limit all t (omega arith) y in
    let same : all ≡ before ++ (w ∷ more) = append_assoc before (w ∷ []) more in
    let u = run_steps 0 (w ∷ more) x in
    let g : run limit 0 (w ∷ more) q ≡ refused TooDeep w.place =
    ap (λ y. onward limit w.place (opens w.token) (λ z. run limit 0 more z) y) m
    ∙ (ap (λ b. cond b (cond (leb (levels r) limit) (run limit 0 more r) (refused TooDeep w.place)) (run limit 0 more r)) o
    ∙ ap (λ b. cond b (run limit 0 more r) (refused TooDeep w.place)) (lt-leb (levels r) limit h)) in
    tree_refused d (ap (λ z. run limit 0 z initial) same ∙ (u ∙ g))

pub six : {limit end : ℕ} {ws : List Word} {n : SentenceRefusal} {p : ℕ} → n ≡ TooDeep → Reason limit end initial ws n p → IsTooDeep limit ws p
six e (no_move before after w q x m) = other (sym e)
six {limit} e (no_level before after w q r x m o h) = record {
  before = before;
  word = w;
  after = after;
  whole = refl;
  place = refl;
  opening = o;
  possible = steps_begin (steps_more {limit = limit + levels r} w (steps_up (omega arith) x) m (λ _. omega arith));
  deep = no_level_deep before w x m o h;
}
six e (no_end ws q x f) = other (sym e)

-- What begins a sentence begins it with each of its first words.
begins_before : (before after : List Word) (w : Word) → Begins (before ++ w ∷ after) → Begins (before ++ w ∷ [])
begins_before before after w b =
    let i : (before ++ w ∷ after) ++ b.1 ≡ before ++ (w ∷ (after ++ b.1)) = append_assoc before (w ∷ after) b.1 in
    let j : (before ++ w ∷ []) ++ (after ++ b.1) ≡ before ++ (w ∷ (after ++ b.1)) = append_assoc before (w ∷ []) (after ++ b.1) in
    (b.0, after ++ b.1, b.2, rw (i ∙ sym j) at b.3)

early_reason : {limit end : ℕ} {ws : List Word} {n : SentenceRefusal} {p : ℕ} {o : Outcome} → Unfinished ws → o ≡ refused n p → Reason limit end initial ws n p → (o ≡ refused Unexpected end) ⊎ ((b : ℕ) × (o ≡ refused TooDeep b))
early_reason u e (no_move before after w q x m) = absurd (no_move_first before w x m (begins_before before after w u.possible))
early_reason u e (no_level before after w q r x m o h) = inr (w.place, e)
early_reason u e (no_end ws q x f) = inl e

pub early : (limit end : ℕ) (ws : List Word) → Unfinished ws → (parsed limit end ws ≡ refused Unexpected end) ⊎ ((p : ℕ) × (parsed limit end ws ≡ refused TooDeep p))
early limit end ws u = by (parsed limit end ws) refl (answered limit end ws initial)
  where
    z : limit - 0 ≡ limit
    z = omega arith

    by : (o : Outcome) → parsed limit end ws ≡ o → Answer limit end initial ws o → (parsed limit end ws ≡ refused Unexpected end) ⊎ ((p : ℕ) × (parsed limit end ws ≡ refused TooDeep p))
    by o e (read t) = absurd (u.unfinished limit t (run_at limit ws t end ws initial (λ rs v h. rw z at h) e))
    by o e (refusal n p x) = early_reason u e x

refused_same : {n m : SentenceRefusal} {p q : ℕ} → refused n p ≡ refused m q → (n ≡ m) × (p ≡ q)
refused_same e = (cc, cc)

refused_tree : {A : Type 0} {n : SentenceRefusal} {p : ℕ} {t : Program} → tree t ≡ refused n p → A
refused_tree e = let z : ◌≡◌ {A = ℕ} 0 1 = cc in absurd (omega arith)

-- The reason of a refusal.
pub reason_of : (limit end : ℕ) (ws : List Word) (n : SentenceRefusal) (p : ℕ) → parsed limit end ws ≡ refused n p → Reason limit end initial ws n p
reason_of limit end ws n p e = by (parsed limit end ws) e (answered limit end ws initial)
  where
    by : (o : Outcome) → o ≡ refused n p → Answer limit end initial ws o → Reason limit end initial ws n p
    by o e (read t) = refused_tree e
    by o e (refusal m q x) = let h = refused_same e in rw (h.0, h.1) at x
