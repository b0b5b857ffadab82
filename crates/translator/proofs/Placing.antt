-- The parts of a statement's code stand where they are counted to stand; so a statement that is entered, and a label that is
-- looked for, stands at the place that the code has for it.
use Rattle.std.proofs.Common.{◌≡◌, ℕ, suc, ◌+◌, ◌≤◌, Bool, true, false, cond, ◌||◌, List, ◌∷◌, length, drop, sym, refl, ap, ◌∙◌, subst, arith}
use Rattle.std.specs.Str.{bytes_eq}
use Rattle.std.proofs.lemmas.Slice.Eq.{bytes_eq-Decides}
use Rattle.grammar.specs.Tree.{Row, Name, Exp, Element, Statement, labelled, conditional, repeated, assigned, go, switched, input, printed, stop, sequence}
use Rattle.figures.specs.Kinds.{Kind}
use Rattle.code.specs.declared.operations.Operation.TheVariants.{Mark, Load, Jump, Table, Rows, Here}
use Rattle.meaning.specs.Names.{Names}
use Rattle.meaning.specs.Positions.{first, later, Loop, Continuation, rest, Position, enter, find}
use Rattle.symbols.specs.Jumps.{open_labels}
use Rattle.meaning.specs.Laws.{has_label}
use Rattle.meaning.proofs.Jumping.{among_both}
use Rattle.translator.specs.Generator.{Entry, entry, plain, all_of, exp_size, type_of, elements_size, elements_code, turns_code, size, loops, code}
use Rattle.translator.specs.Compiled.{Placed, LoopPlaced, Continues, passes, goes, Stands}
use Rattle.translator.specs.Simulation.{PlacingLaw}
use Rattle.translator.proofs.Behind.{to, further, behind_exp, behind_elements, behind_turns, behind}

-- A label that does not stand in a statement is not found there.
pub find_none : (l : List ℕ) (s : Statement) (k : Continuation) (o : Position) → has_label l s ≡ false → find l s k o ≡ o
find_none l (labelled x s) k o e = go_on (bytes_eq l x.letters) e (find_none l s k o)
  where
    go_on : (b : Bool) → (b || has_label l s) ≡ false → (has_label l s ≡ false → find l s k o ≡ o) → cond b (enter s k) (find l s k o) ≡ o
    go_on true e f = cc
    go_on false e f = f e
find_none l (conditional p x s) k o e = find_none l s k o e
find_none l (repeated p x es s) k o e = refl
find_none l (assigned x y) k o e = refl
find_none l (go p x) k o e = refl
find_none l (switched p x y) k o e = refl
find_none l (input p x) k o e = refl
find_none l (printed p es) k o e = refl
find_none l (stop p) k o e = refl
find_none l (sequence s t) k o e = go_on (has_label l s) refl (sym (among_both (open_labels s) (open_labels t) l) ∙ e) (find_none l s (rest t k) (find l t k o)) (find_none l t k o)
  where
    go_on : (b : Bool) → has_label l s ≡ b → (b || has_label l t) ≡ false
        → (has_label l s ≡ false → find l s (rest t k) (find l t k o) ≡ find l t k o) → (has_label l t ≡ false → find l t k o ≡ o)
        → find l s (rest t k) (find l t k o) ≡ o
    go_on true h e f g = cc
    go_on false h e f g = f h ∙ g e

module _ {V : Type 0} (kind : Kind V) (c : List Entry) (names : Names) (label_at table_at : List ℕ → ℕ) (halt_at v m : ℕ) (outer : List ℕ → Bool) where
  abbrev P : (List ℕ → Bool) → ℕ → ℕ → Statement → ℕ → Type 0
  P = Placed kind c names label_at table_at halt_at v m outer

  abbrev K : List V → (List ℕ → Bool) → ℕ → ℕ → Continuation → Type 0
  K = Continues kind c names label_at table_at halt_at v m outer

  abbrev S : List V → ℕ → Position → Type 0
  S = Stands kind c names label_at table_at halt_at v m outer

  abbrev code_of : ℕ → ℕ → Statement → List Entry → List Entry
  code_of = code names label_at table_at halt_at

  -- Two statements, one after the other.
  pub second : {seen : List ℕ → Bool} {h a b : ℕ} {s t : Statement} → P seen h a (sequence s t) b → P seen (h + loops names s) (a + size names s) t b
  second {seen} {h} {a} {b} {s} {t} p = record {
    entries = further c a (size names s) (a + size names s) _ p.entries refl ∙ behind names label_at table_at halt_at s h a (size names s) 0 _ (omega arith);
    long = omega (arith, p.long);
    before = p.before;
    fits = p.fits.1;
    after_named = omega (arith, p.after_named);
    hidden = omega (arith, p.hidden);
    labels = p.labels.1;
    sees = p.sees.1;
  }

  pub first_of : {seen : List ℕ → Bool} {h a b : ℕ} {s t : Statement} → P seen h a (sequence s t) b → P seen h a s (a + size names s)
  first_of {seen} {h} {a} {b} {s} {t} p = record {
    entries = p.entries ∙ ap (code_of h a s) (sym (second p).entries);
    long = refl;
    before = omega (arith, p.long, p.before);
    fits = p.fits.0;
    after_named = p.after_named;
    hidden = omega (arith, p.hidden);
    labels = p.labels.0;
    sees = p.sees.0;
  }

  -- The statement behind a label.
  pub labelled_part : {seen : List ℕ → Bool} {h a b : ℕ} {l : Name} {s : Statement} → P seen h a (labelled l s) b → P seen h a s b
  labelled_part p = record { entries = p.entries; long = p.long; before = p.before; fits = p.fits; after_named = p.after_named; hidden = p.hidden; labels = p.labels.1; sees = p.sees }

  -- The statement that an if governs, and the HERE behind it.
  pub behind_if : {seen : List ℕ → Bool} {h a b p : ℕ} {e : Exp} {s : Statement} → P seen h a (conditional p e s) b
      → (drop (a + (exp_size e + 2) + size names s) c ≡ plain Here ∷ drop b c) × (a + (exp_size e + 2) + size names s + 1 ≡ b)
  behind_if {seen} {h} {a} {b} {p} {e} {s} x = (
    further c a (suc (exp_size e + suc (size names s))) (a + (exp_size e + 2) + size names s) _ x.entries (omega arith)
        ∙ behind_exp names e (exp_size e + suc (size names s)) (suc (size names s)) _ refl
        ∙ behind names label_at table_at halt_at s h (a + (exp_size e + 2)) (size names s) 0 _ (omega arith),
    omega (arith, x.long),
  )

  pub governed : {seen : List ℕ → Bool} {h a b p : ℕ} {e : Exp} {s : Statement} → P seen h a (conditional p e s) b
      → P seen h (a + (exp_size e + 2)) s (a + (exp_size e + 2) + size names s)
  governed {seen} {h} {a} {b} {p} {e} {s} x = record {
    entries =
        further c a (suc (exp_size e + 1)) (a + (exp_size e + 2)) _ x.entries (omega arith)
        ∙ behind_exp names e (exp_size e + 1) 1 _ refl
        ∙ ap (code_of h (a + (exp_size e + 2)) s) (sym (behind_if x).0);
    long = refl;
    before = omega (arith, (behind_if x).1, x.before);
    fits = x.fits.1;
    after_named = x.after_named;
    hidden = x.hidden;
    labels = x.labels;
    sees = x.sees;
  }

  pub continues_behind_if : {cells : List V} {seen : List ℕ → Bool} {hb h a b p : ℕ} {e : Exp} {s : Statement} {k : Continuation} → P seen h a (conditional p e s) b
      → K cells seen hb b k → K cells seen hb (a + (exp_size e + 2) + size names s) k
  continues_behind_if {cells} {seen} {hb} {h} {a} {b} {p} {e} {s} {k} x q =
      let same : b ≡ suc (a + (exp_size e + 2) + size names s) = omega (arith, (behind_if x).1) in
      passes ((behind_if x).0 ∙ ap (λ n. plain Here ∷ drop n c) same) (subst (λ n. K cells seen hb n k) same q)

  -- A for, from its first element on.
  abbrev loop_of : ℕ → Name → Statement → Loop
  loop_of p x s = record { place = p; control = x; body = s }

  pub loop_placed : {seen : List ℕ → Bool} {h a f p : ℕ} {x : Name} {es : Row Element} {s : Statement} → P seen h a (repeated p x es s) f
      → let b = a + elements_size names (type_of names x) (all_of es) in
      let d = b + size names s in
      let n = length (all_of es) in
      LoopPlaced kind c names label_at table_at halt_at v m outer seen h (loop_of p x s) 1 (first es) (later es) a b d (d + 4 + n) n × (suc (d + 4 + n) ≡ f)
  loop_placed {seen} {h} {a} {f} {p} {x} {es} {s} q =
      let els = all_of es in
      let t = type_of names x in
      let b = a + elements_size names t els in
      let d = b + size names s in
      let n = length els in
      let o = d + 4 + n in
      let end : suc o ≡ f = omega (arith, q.long) in
      let out : drop o c ≡ plain Here ∷ drop (suc o) c =
      further c a (elements_size names t els + (size names s + suc (suc (suc (suc n))))) o _ q.entries (omega arith)
      ∙ behind_elements names p x h b o 1 a els _ (size names s + suc (suc (suc (suc n)))) _ refl
      ∙ behind names label_at table_at halt_at s (suc h) b _ (suc (suc (suc (suc n)))) _ refl
      ∙ behind_turns names p x h b o a els n 0 _ (omega arith)
      ∙ ap (λ i. plain Here ∷ drop i c) (sym end) in
      let here : plain Here ∷ drop f c ≡ drop o c = ap (λ i. plain Here ∷ drop i c) (sym end) ∙ sym out in
      let rows : drop (d + 4) c ≡ turns_code names p x h b o a els (drop o c) =
      further c a (elements_size names t els + (size names s + 4)) (d + 4) _ q.entries (omega arith)
      ∙ behind_elements names p x h b o 1 a els _ (size names s + 4) _ refl
      ∙ behind names label_at table_at halt_at s (suc h) b _ 4 _ refl
      ∙ ap (turns_code names p x h b o a els) here in
      let tail : (entry Load h ∷ entry Table (d + 3) ∷ entry Jump o ∷ entry Rows n ∷ turns_code names p x h b o a els (plain Here ∷ drop f c))
      ≡ (entry Load h ∷ entry Table (d + 3) ∷ entry Jump o ∷ entry Rows n ∷ drop (d + 4) c) =
      ap (λ i. entry Load h ∷ entry Table (d + 3) ∷ entry Jump o ∷ entry Rows n ∷ i) (ap (turns_code names p x h b o a els) here ∙ sym rows) in
      let after : drop d c ≡ entry Load h ∷ entry Table (d + 3) ∷ entry Jump o ∷ entry Rows n ∷ drop (d + 4) c =
      further c a (elements_size names t els + size names s) d _ q.entries (omega arith)
      ∙ behind_elements names p x h b o 1 a els _ (size names s) _ refl
      ∙ behind names label_at table_at halt_at s (suc h) b _ 0 _ (omega arith)
      ∙ tail in
      let body : drop b c ≡ code_of (suc h) b s (drop d c) =
      further c a (elements_size names t els) b _ q.entries refl
      ∙ behind_elements names p x h b o 1 a els _ 0 _ (omega arith)
      ∙ ap (code_of (suc h) b s) (tail ∙ sym after) in (
        record {
          elements = q.entries ∙ ap (elements_code names p x h b o 1 a els) (ap (code_of (suc h) b s) (tail ∙ sym after) ∙ sym body);
          long = refl;
          body = record { entries = body; long = refl; before = omega (arith, end, q.before); fits = q.fits.2; after_named = omega (arith, q.after_named); hidden = omega (arith, q.hidden); labels = q.labels; sees = q.sees };
          behind = after;
          rows = to (d + 3 + 1) (d + 4) c (omega arith) ∙ rows;
          over = refl;
          out = out;
          count = omega arith;
          some = omega arith;
          few = q.fits.3;
          control_fits = q.fits.0;
          elements_fit = q.fits.1;
          after_named = q.after_named;
          hidden = omega (arith, q.hidden);
        },
        end,
      )

  -- The first step of a statement stands where its code begins.
  pub enter_stands : (s : Statement) {cells : List V} {seen : List ℕ → Bool} {hb h a b : ℕ} {k : Continuation}
      → P seen h a s b → hb ≤ h → K cells seen hb b k → S cells a (enter s k)
  enter_stands (labelled l s) p low q = enter_stands s (labelled_part p) low q
  enter_stands (conditional p e s) x low q = record { seen = _; h = _; hb = _; b = _; placed = x; low = low; continues = q }
  enter_stands (repeated p y es s) {cells} {seen} {hb} {h} {a} {b} {k} x low q = (
    record {
      seen = seen;
      h = h;
      hb = hb;
      i = 1;
      a = _;
      b = _;
      d = _;
      o = _;
      n = _;
      placed = (loop_placed x).0;
      low = low;
      continues = subst (λ n. K cells seen hb n k) (sym (loop_placed x).1) q;
    },
    refl,
  )
  enter_stands (assigned y e) x low q = record { seen = _; h = _; hb = _; b = _; placed = x; low = low; continues = q }
  enter_stands (go p l) x low q = record { seen = _; h = _; hb = _; b = _; placed = x; low = low; continues = q }
  enter_stands (switched p y e) x low q = record { seen = _; h = _; hb = _; b = _; placed = x; low = low; continues = q }
  enter_stands (input p y) x low q = record { seen = _; h = _; hb = _; b = _; placed = x; low = low; continues = q }
  enter_stands (printed p es) x low q = record { seen = _; hb = _; b = _; entries = x.entries; long = x.long; fits = x.fits; continues = q }
  enter_stands (stop p) {a = a} x low q = x.entries ∙ ap (λ n. entry Mark p ∷ entry Jump halt_at ∷ drop n c) (sym x.long)
  enter_stands (sequence s t) {h = h} {b = b} x low q = enter_stands s (first_of x) low (goes (h + loops names s) b (second x) (omega arith) q)

  -- A label of a statement, outside of the bodies of its fors, stands where it is looked for.
  pub find_stands : (l : List ℕ) (s : Statement) {cells : List V} {seen : List ℕ → Bool} {hb h a b : ℕ} {k : Continuation} (o : Position)
      → P seen h a s b → hb ≤ h → K cells seen hb b k → has_label l s ≡ true → S cells (label_at l) (find l s k o)
  find_stands l (labelled x s) {cells} {a = a} {k = k} o p low q e =
      pick (bytes_eq l x.letters) refl e (λ h. find_stands l s o (labelled_part p) low q h)
    where
      pick : (b : Bool) → bytes_eq l x.letters ≡ b → (b || has_label l s) ≡ true → (has_label l s ≡ true → S cells (label_at l) (find l s k o))
          → S cells (label_at l) (cond b (enter s k) (find l s k o))
      pick true h e f =
          subst (λ n. S cells n (enter s k)) (sym (ap label_at ((bytes_eq-Decides l x.letters).0 h) ∙ p.labels.0)) (enter_stands s (labelled_part p) low q)
      pick false h e f = f e
  find_stands l (conditional p x s) o y low q e = find_stands l s o (governed y) low (continues_behind_if y q) e
  find_stands l (repeated p x es s) o y low q e = let z : ◌≡◌ {A = ℕ} 0 1 = cc in absurd (omega arith)
  find_stands l (assigned x y) o z low q e = let z : ◌≡◌ {A = ℕ} 0 1 = cc in absurd (omega arith)
  find_stands l (go p x) o y low q e = let z : ◌≡◌ {A = ℕ} 0 1 = cc in absurd (omega arith)
  find_stands l (switched p x y) o w low q e = let z : ◌≡◌ {A = ℕ} 0 1 = cc in absurd (omega arith)
  find_stands l (input p x) o y low q e = let z : ◌≡◌ {A = ℕ} 0 1 = cc in absurd (omega arith)
  find_stands l (printed p es) o y low q e = let z : ◌≡◌ {A = ℕ} 0 1 = cc in absurd (omega arith)
  find_stands l (stop p) o y low q e = let z : ◌≡◌ {A = ℕ} 0 1 = cc in absurd (omega arith)
  find_stands l (sequence s t) {cells} {seen} {hb} {h} {a} {b} {k} o p low q e =
      pick (has_label l s) refl (sym (among_both (open_labels s) (open_labels t) l) ∙ e)
      (λ g. find_stands l s (find l t k o) (first_of p) low (goes (h + loops names s) b (second p) (omega arith) q) g)
      (λ g. find_stands l t o (second p) (omega arith) q g)
    where
      pick : (x : Bool) → has_label l s ≡ x → (x || has_label l t) ≡ true
          → (has_label l s ≡ true → S cells (label_at l) (find l s (rest t k) (find l t k o)))
          → (has_label l t ≡ true → S cells (label_at l) (find l t k o))
          → S cells (label_at l) (find l s (rest t k) (find l t k o))
      pick true g e x y = x g
      pick false g e x y = subst (S cells (label_at l)) (sym (find_none l s (rest t k) (find l t k o) g)) (y e)

pub placing_law : {V : Type 0} (kind : Kind V) → PlacingLaw kind
placing_law kind = record {
  enters = λ c names label_at table_at halt_at v m outer s p low q. enter_stands kind c names label_at table_at halt_at v m outer s p low q;
  finds = λ c names label_at table_at halt_at v m outer l s o p low q e. find_stands kind c names label_at table_at halt_at v m outer l s o p low q e;
}
