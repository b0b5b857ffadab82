-- Where the run comes to rest after a statement: at the next step of what comes after it.
use Rattle.std.proofs.Common.{◌≡◌, ℕ, zero, suc, ◌+◌, ◌-◌, ◌<◌, ◌≤◌, Bool, true, false, cond, ◌&&◌, ◌||◌, ltb, leb, List, [], ◌∷◌, map, drop, pos, Some, sym, refl, ap, ◌∙◌, subst, arith, ltb-true, lt-ltb, le-leb}
use Rattle.std.specs.List.{slice_get}
use Rattle.grammar.specs.Tree.{Exp, Element, single, progression, Statement}
use Rattle.figures.specs.Kinds.{Kind}
use Rattle.code.specs.declared.operations.Operation.TheVariants.{Halt, Mark, Jump, Table, Rows}
use Rattle.machine.specs.declared.instruction.Instruction.TheVariants.{Go}
use Rattle.machine.specs.declared.instruction.Branch.TheVariants.{ByTable}
use Rattle.machine.specs.Machine.{gives, ◌>>=◌, rows_at, Memory, ResultOf, goes as comes_to}
use Rattle.meaning.specs.Names.{Names}
use Rattle.meaning.specs.Positions.{Loop, Continuation, turn, Position, end, at_assignment, at_go, at_switch, at_if, at_input, at_print, at_stop, at_element, at_addition, at_test, enter, next_element, leave, find, destination}
use Rattle.meaning.specs.Laws.{has_label}
use Rattle.translator.specs.Generator.{Entry, entry, plain, type_of, first_size, addition_size, element_size, next_place, turn_place, turns_code}
use Rattle.translator.specs.Running.{on, to, state, by_row, carried, moved, runs}
use Rattle.translator.specs.Compiled.{Placed, LoopPlaced, Holds, Continues, ends, passes, goes, again, Stands}
use Rattle.translator.specs.Simulation.{FlowLaw}
use Rattle.translator.proofs.Behind.{to as same_place, further, behind_first, behind_addition, behind_element}
use Rattle.translator.proofs.Placing.{enter_stands, find_none, find_stands}
use Rattle.translator.proofs.Expressions.{onward, loaded_on}

-- The operand of the entry at a place.
pub operand_there : (p : ℕ) (l : List Entry) (e : Entry) (r : List Entry) → drop p l ≡ e ∷ r → slice_get (map (λ x. x.operand) l) p ≡ Some e.operand
operand_there zero [] e r q = cc
operand_there (suc p) [] e r q = cc
operand_there zero (x ∷ l) e r q = let h : x ≡ e = cc in ap (λ y. Some y.operand) h
operand_there (suc p) (x ∷ l) e r q = operand_there p l e r q

-- A place where a step begins, and one where a step ends.
abbrev pub Begins : List Entry → ℕ → Type 0
Begins c a = (t : ℕ) × (r : List Entry) × (drop a c ≡ entry Mark t ∷ r)

pub data Rests (c : List Entry) (a : ℕ) : Type 0 where
  at_mark : (t : ℕ) (r : List Entry) → drop a c ≡ entry Mark t ∷ r → Rests c a
  at_halt : (r : List Entry) → drop a c ≡ plain Halt ∷ r → Rests c a

pub marked : {c : List Entry} {a : ℕ} → Begins c a → Rests c a
marked b = at_mark b.0 b.1 b.2

module _ {V : Type 0} (kind : Kind V) (c : List Entry) where
  skip : (pc j : ℕ) (r : List Entry) (vs : List V) (m : Memory V) → runs kind c pc j r vs m ≡ runs kind c (pc + j) 0 (drop j r) vs m
  skip pc zero [] vs m = refl
  skip pc (suc j) [] vs m = refl
  skip pc zero (e ∷ r) vs m = let z : pc ≡ pc + 0 = omega arith in ap (λ n. runs kind c n 0 (e ∷ r) vs m) z
  skip pc (suc j) (e ∷ r) vs m = let z : suc pc + j ≡ pc + suc j = omega arith in skip (suc pc) j r vs m ∙ ap (λ n. runs kind c n 0 (drop j r) vs m) z

  pub rests : (a : ℕ) → Rests c a → (vs : List V) (m : Memory V) → runs kind c a 0 (drop a c) vs m ≡ comes_to (state a vs m)
  rests a (at_mark t r e) vs m = ap (λ l. runs kind c a 0 l vs m) e
  rests a (at_halt r e) vs m = ap (λ l. runs kind c a 0 l vs m) e

  module _ (pc p : ℕ) (r : List Entry) (vs : List V) (m n : Memory V) (behind : drop (suc pc) c ≡ r) where
    far : pc < p → runs kind c (suc pc) (p - suc pc) r vs n ≡ runs kind c p 0 (drop p c) vs n
    far lt =
        let z : suc pc + (p - suc pc) ≡ p = omega arith in
        skip (suc pc) (p - suc pc) r vs n
        ∙ ap (λ l. runs kind c (suc pc + (p - suc pc)) 0 l vs n) (sym (further c (suc pc) (p - suc pc) p r behind (omega arith)))
        ∙ ap (λ i. runs kind c i 0 (drop p c) vs n) z

    -- A jump further on goes on there.
    pub jump_on : pc < p → carried (onward kind c (suc pc) r) pc m (gives (to p vs n)) ≡ runs kind c p 0 (drop p c) vs n
    jump_on lt = ap (λ b. cond b (runs kind c (suc pc) (p - suc pc) r vs n) (comes_to (state p vs n))) (lt-ltb pc p lt) ∙ far lt

    -- A jump to where a step ends, further on or back, ends the step there.
    pub jump_rests : Rests c p → carried (onward kind c (suc pc) r) pc m (gives (to p vs n)) ≡ comes_to (state p vs n)
    jump_rests b = pick (ltb pc p) refl
      where
        pick : (x : Bool) → ltb pc p ≡ x → cond x (runs kind c (suc pc) (p - suc pc) r vs n) (comes_to (state p vs n)) ≡ comes_to (state p vs n)
        pick true h = far (ltb-true pc p h) ∙ rests p b vs n
        pick false h = refl

module _ {V : Type 0} (kind : Kind V) (c : List Entry) (names : Names) (label_at table_at : List ℕ → ℕ) (halt_at v m : ℕ) (outer : List ℕ → Bool) where
  abbrev L : (List ℕ → Bool) → ℕ → Loop → ℕ → Element → List Element → ℕ → ℕ → ℕ → ℕ → ℕ → Type 0
  L = LoopPlaced kind c names label_at table_at halt_at v m outer

  abbrev K : List V → (List ℕ → Bool) → ℕ → ℕ → Continuation → Type 0
  K = Continues kind c names label_at table_at halt_at v m outer

  abbrev S : List V → ℕ → Position → Type 0
  S = Stands kind c names label_at table_at halt_at v m outer

  module _ {seen : List ℕ → Bool} {h : ℕ} {l : Loop} {i a b d o n : ℕ} where
    -- The steps of an element begin where they are counted to begin.
    pub element_begins : (e : Element) (es : List Element) → L seen h l i e es a b d o n → Begins c a
    element_begins (single e) es x = (l.place, _, x.elements)
    element_begins (progression f s u) es x = (l.place, _, x.elements)

    pub addition_begins : (f s u : Exp) (es : List Element) → L seen h l i (progression f s u) es a b d o n → Begins c (a + first_size names (type_of names l.control) f)
    addition_begins f s u es x = (
      l.place,
      _,
      further c a (first_size names (type_of names l.control) f) (a + first_size names (type_of names l.control) f) _ x.elements refl
          ∙ behind_first names l.place l.control h b i f (first_size names (type_of names l.control) f) 0 _ (omega arith),
    )

    pub test_begins : (f s u : Exp) (es : List Element) → L seen h l i (progression f s u) es a b d o n
        → Begins c (a + first_size names (type_of names l.control) f + addition_size names (type_of names l.control) s)
    test_begins f s u es x =
        let t = type_of names l.control in (
          l.place,
          _,
          further c a (first_size names t f + addition_size names t s) (a + first_size names t f + addition_size names t s) _ x.elements (omega arith)
              ∙ behind_first names l.place l.control h b i f (first_size names t f + addition_size names t s) (addition_size names t s) _ refl
              ∙ behind_addition names l.place l.control h b s (addition_size names t s) 0 _ (omega arith),
        )

    -- The for from its next element on.
    pub next_placed : (e e' : Element) (es : List Element) → L seen h l i e (e' ∷ es) a b d o n
        → L seen h l (suc i) e' es (a + element_size names (type_of names l.control) e) b d o n
    next_placed e e' es x = record {
      elements =
          further c a (element_size names (type_of names l.control) e) (a + element_size names (type_of names l.control) e) _ x.elements refl
          ∙ behind_element names l.place l.control h b i _ a e (element_size names (type_of names l.control) e) 0 _ (omega arith);
      long = omega (arith, x.long);
      body = x.body;
      behind = x.behind;
      rows = further c (d + 3 + i) 1 (d + 3 + suc i) _ x.rows (omega arith);
      over = x.over;
      out = x.out;
      count = omega (arith, x.count);
      some = omega arith;
      few = x.few;
      control_fits = x.control_fits;
      elements_fit = x.elements_fit.1;
      after_named = x.after_named;
      hidden = x.hidden;
    }

  -- Every position stands at a MARK or at the HALT.
  pub position_rests : drop halt_at c ≡ plain Halt ∷ drop (suc halt_at) c → (cells : List V) (a : ℕ) (p : Position) → S cells a p → Rests c a
  position_rests z cells a end q = at_halt _ (same_place a halt_at c q ∙ z)
  position_rests z cells a (at_assignment x e k) q = at_mark _ _ q.placed.entries
  position_rests z cells a (at_go p l k) q = at_mark _ _ q.placed.entries
  position_rests z cells a (at_switch p x e k) q = at_mark _ _ q.placed.entries
  position_rests z cells a (at_if p e s k) q = at_mark _ _ q.placed.entries
  position_rests z cells a (at_input p x k) q = at_mark _ _ q.placed.entries
  position_rests z cells a (at_print p e es k) q = at_mark _ _ q.entries
  position_rests z cells a (at_stop p) q = at_mark _ _ q
  position_rests z cells a (at_element l e es k) q = let g = element_begins e es q.0.placed in at_mark g.0 g.1 (same_place a _ c q.1 ∙ g.2)
  position_rests z cells a (at_addition l f s u es k) q = let g = addition_begins f s u es q.0.placed in at_mark g.0 g.1 (same_place a _ c q.2 ∙ g.2)
  position_rests z cells a (at_test l f s u es k) q = let g = test_begins f s u es q.0.placed in at_mark g.0 g.1 (same_place a _ c q.2 ∙ g.2)

  -- The run from a place comes to rest at a position.
  pub record Resumes (cells : List V) (r : ResultOf V) (p : Position) (M : Memory V) : Type 0 where
    pub at : ℕ
    pub is : r ≡ comes_to (state at [] M)
    pub stands : S cells at p

  module _ (z : drop halt_at c ≡ plain Halt ∷ drop (suc halt_at) c) (M : Memory V) where
    -- The jump behind an element, to the next one or out.
    pub next_resumes : {seen : List ℕ → Bool} {hb h : ℕ} {l : Loop} {i a b d o n : ℕ} {k : Continuation} (e : Element) (es : List Element)
        → L seen h l i e es a b d o n → hb ≤ h → K M.cells seen hb (suc o) k
        → Resumes M.cells (runs kind c (suc o) 0 (drop (suc o) c) [] M) (leave k) M
        → (pc : ℕ) (r : List Entry) (N : Memory V) → drop (suc pc) c ≡ r → pc < o
        → Resumes M.cells
        (carried (onward kind c (suc pc) r) pc N (gives (to (next_place names l.place l.control h b o (a + element_size names (type_of names l.control) e) es) [] M)))
        (next_element l k (leave k) es) M
    next_resumes {o = o} e [] x low q after pc r N behind lt = record {
      at = after.at;
      is = jump_on kind c pc o r [] N M behind lt ∙ ap (λ t. runs kind c o 0 t [] M) x.out ∙ after.is;
      stands = after.stands;
    }
    next_resumes {seen} {hb} {h} {l} {a = a} e (e' ∷ es) x low q after pc r N behind lt = record {
      at = a + element_size names (type_of names l.control) e;
      is = jump_rests kind c pc (a + element_size names (type_of names l.control) e) r [] N M behind (marked (element_begins e' es (next_placed e e' es x)));
      stands = (
        record { seen = seen; h = h; hb = hb; i = _; a = _; b = _; d = _; o = _; n = _; placed = next_placed e e' es x; low = low; continues = q },
        refl,
      );
    }

    -- A table with k rows picks the i-th.
    table_picks : (next : ℕ → List V → Memory V → ResultOf V) (pc p k i : ℕ) (w : V) → slice_get (map (λ x. x.operand) c) p ≡ Some k → kind.nearest w ≡ pos i → 1 ≤ i → i ≤ k
        → carried next pc M (moved kind c (Go ByTable) p (w ∷ []) M) ≡ carried next pc M (gives (to (p + i) [] M))
    table_picks next pc p k i w rows is from below =
        ap (λ o. carried next pc M (rows_at o >>= λ k. gives (by_row p k (kind.nearest w) [] M))) rows
        ∙ ap (λ y. carried next pc M (gives (by_row p k y [] M))) is
        ∙ ap (λ t. carried next pc M (gives (cond t (to (p + i) [] M) (on [] M)))) (ap (λ t. t && leb i k) (le-leb 1 i from) ∙ le-leb i k below)

    -- Behind a body, the hidden cell picks the row of the element in use.
    module _ {seen : List ℕ → Bool} {h : ℕ} {l : Loop} {i a b d o n : ℕ} (e : Element) (es : List Element) (x : L seen h l i e es a b d o n) where
      abbrev following : List Entry
      following = turns_code names l.place l.control h b o (a + element_size names (type_of names l.control) e) es (drop o c)

      abbrev next : ℕ
      next = next_place names l.place l.control h b o (a + element_size names (type_of names l.control) e) es

      pub behind_row : drop (suc (d + 3 + i)) c ≡ following
      behind_row = further c (d + 3 + i) 1 (suc (d + 3 + i)) _ x.rows (omega arith)

      pub row_before_out : d + 3 + i < o
      row_before_out = omega (arith, x.over, x.count)

      pub dispatch : Holds kind c names label_at table_at halt_at v m outer M.cells h i
          → runs kind c d 0 (drop d c) [] M
          ≡ carried (onward kind c (suc (d + 3 + i)) following) (d + 3 + i) M (gives (to (turn_place names l.place l.control h b e a next) [] M))
      dispatch held =
          let tail : List Entry = entry Jump o ∷ entry Rows n ∷ drop (d + 4) c in
          ap (λ t. runs kind c d 0 t [] M) x.behind
          ∙ loaded_on kind c (λ j ws k. runs kind c (suc d) j (entry Table (d + 3) ∷ tail) ws k) d h M [] held.figure held.there
          ∙ table_picks (onward kind c (suc (suc d)) tail) (suc d) (d + 3) n i held.figure
          (operand_there (d + 3) c (entry Rows n) (drop (d + 4) c) (further c d 3 (d + 3) _ x.behind refl)) held.is x.some (omega (arith, x.count))
          ∙ jump_on kind c (suc d) (d + 3 + i) tail [] M M (further c d 2 (suc (suc d)) _ x.behind (omega arith)) (omega (arith, x.some))
          ∙ ap (λ t. runs kind c (d + 3 + i) 0 t [] M) x.rows

    -- After a statement, the run comes to rest at the next step.
    pub resume : {seen : List ℕ → Bool} {hb a : ℕ} {k : Continuation} → K M.cells seen hb a k → Resumes M.cells (runs kind c a 0 (drop a c) [] M) (leave k) M
    resume {a = a} (ends e p) = record { at = a; is = rests kind c a (at_halt _ (same_place a halt_at c p ∙ z)) [] M; stands = p }
    resume {a = a} (passes e q) = let g = resume q in record { at = g.at; is = ap (λ t. runs kind c a 0 t [] M) e ∙ g.is; stands = g.stands }
    resume {a = a} (goes {s = s} {k = k} h b p low q) =
        let g : S M.cells a (enter s k) = enter_stands kind c names label_at table_at halt_at v m outer s p low q in
        record { at = a; is = rests kind c a (position_rests z M.cells a (enter s k) g) [] M; stands = g }
    resume (again {d = d} {l = l} {e = single y} {es = es} {k = k} around h hb' i a b o n is x held lt low q) =
        let g = next_resumes (single y) es x low q (resume q) (d + 3 + i) (following (single y) es x) M (behind_row (single y) es x) (row_before_out (single y) es x) in
        record { at = g.at; is = dispatch (single y) es x held ∙ g.is; stands = g.stands }
    resume (again {d = d} {l = l} {e = progression f s u} {es = es} {k = k} around h hb' i a b o n is x held lt low q) = record {
      at = a + first_size names (type_of names l.control) f;
      is =
          dispatch (progression f s u) es x held
          ∙ jump_rests kind c (d + 3 + i) (a + first_size names (type_of names l.control) f) (following (progression f s u) es x) [] M M (behind_row (progression f s u) es x) (marked (addition_begins f s u es x));
      stands = (
        record { seen = around; h = h; hb = hb'; i = i; a = a; b = b; d = d; o = o; n = n; placed = x; low = low; continues = q },
        held,
        refl,
      );
    }

  -- A label that a go to sees stands where the code has it; the fors around keep their elements.
  pub destination_stands : (root : Statement) (whole : Placed kind c names label_at table_at halt_at v m outer outer v 0 root halt_at) → ((l : List ℕ) → outer l ≡ has_label l root)
      → (l : List ℕ) {cells : List V} {seen : List ℕ → Bool} {hb a : ℕ} {k : Continuation} → K cells seen hb a k → seen l ≡ true
      → S cells (label_at l) (destination (Some root) l k)
  destination_stands root whole is l (ends e p) sees =
      find_stands kind c names label_at table_at halt_at v m outer l root {hb = v} end whole (omega arith) (ends refl refl) (sym (is l) ∙ ap (λ f. f l) (sym e) ∙ sees)
  destination_stands root whole is l (passes e q) sees = destination_stands root whole is l q sees
  destination_stands root whole is l (goes h b p low q) sees = destination_stands root whole is l q sees
  destination_stands root whole is l {cells} (again {l = loop} {e = e} {es = es} {k = k} around h hb' i a b o n same x held lt low q) sees =
      pick (has_label l loop.body) refl (sym (ap (λ f. f l) same) ∙ sees) (λ g. destination_stands root whole is l q g)
    where
      pick : (t : Bool) → has_label l loop.body ≡ t → (t || around l) ≡ true → (around l ≡ true → S cells (label_at l) (destination (Some root) l k))
          → S cells (label_at l) (find l loop.body (turn loop e es k) (destination (Some root) l k))
      pick true g y f =
          find_stands kind c names label_at table_at halt_at v m outer l loop.body {hb = suc h} (destination (Some root) l k) x.body (omega arith)
          (again around h hb' i a b o n refl x held (omega arith) low q) g
      pick false g y f = subst (S cells (label_at l)) (sym (find_none l loop.body (turn loop e es k) (destination (Some root) l k) g)) (f y)

pub flow_law : {V : Type 0} (kind : Kind V) → FlowLaw kind
flow_law kind = record {
  resumes = λ c names label_at table_at halt_at v m outer z M q.
      let g = resume kind c names label_at table_at halt_at v m outer z M q in (g.at, g.is, g.stands);
  destinations = λ c names label_at table_at halt_at v m outer root whole is l q sees.
      destination_stands kind c names label_at table_at halt_at v m outer root whole is l q sees;
}
