-- One lemma for each kind of position: the code's step from where the position stands is the statement machine's step.
use Rattle.std.proofs.Common.{◌≡◌, ℕ, suc, ◌+◌, ◌<◌, Bool, true, false, cond, not, ltb, List, [], ◌∷◌, ◌++◌, length, drop, Some, None, sym, refl, ap, ◌∙◌, subst, arith, length-append, length-set, ltb-true}
use Rattle.grammar.specs.Tree.{Name, Exp, whole, indexed, Statement}
use Rattle.symbols.specs.declared.value_type.ValueType.{ValueType}
use Rattle.figures.specs.Kinds.{Kind, Outcome, value, refused, is_zero}
use Rattle.code.specs.declared.operations.Operation.TheVariants.{Halt, Here, Test, Put, Post}
use Rattle.meaning.specs.Names.{Extent, Names}
use Rattle.meaning.specs.Expressions.{and_then, element_cell, as_stored, figure, subscripted_cell}
use Rattle.meaning.specs.Positions.{Continuation, Position, at_assignment, at_go, at_if, at_print, at_stop, enter, leave, next_print, destination}
use Rattle.meaning.specs.Machine as statements
use Rattle.meaning.specs.Machine.{Next, on_to, worked_out, after_if, store, post, post_if}
use Rattle.machine.specs.Machine.{gives, calculation, Memory, ResultOf}
use Rattle.translator.specs.Generator.{Entry, entry, plain, exp_size, cell_at, cells_at, type_of, ready_size, ready_code, exp_code, posts_size, posts_code, size, code}
use Rattle.translator.specs.Fits.{ExpFits, ExtentFits}
use Rattle.translator.specs.Running.{to, on, carried, follow, runs}
use Rattle.translator.specs.Simulation.{spread}
use Rattle.translator.specs.Compiled.{ExpsFit, Continues, Stands}
use Rattle.translator.specs.Agreement.{Valid, Setting, Agrees, moves, faults, StepsAlike}
use Rattle.translator.proofs.Behind.{further, behind_exp}
use Rattle.translator.proofs.Expressions.{onward, at_place, element_agrees, element_below, exp_runs}
use Rattle.translator.proofs.Placing.{governed, continues_behind_if, enter_stands}
use Rattle.translator.proofs.Resuming.{at_halt, rests, jump_on, jump_rests, position_rests, resume, destination_stands}
use Rattle.translator.proofs.Storing.{ready_runs, store_runs, put_runs, test_on, test_fails, post_on, post_fails, posted_behind, posted_memory, named_set_keeps, continues_kept}

module _ {V : Type 0} (kind : Kind V) (c : List Entry) (names : Names) (label_at table_at : List ℕ → ℕ) (halt_at v m : ℕ) (outer : List ℕ → Bool) where
  abbrev A : Memory V → ℕ → Next V → ResultOf V → Type 0
  A = Agrees kind c names label_at table_at halt_at v m outer

  abbrev K : List V → (List ℕ → Bool) → ℕ → ℕ → Continuation → Type 0
  K = Continues kind c names label_at table_at halt_at v m outer

  abbrev S : List V → ℕ → Position → Type 0
  S = Stands kind c names label_at table_at halt_at v m outer

  -- Laws of agreement.
  pub agrees_by : {M : Memory V} {p : ℕ} {n : Next V} {r r' : ResultOf V} → r ≡ r' → A M p n r' → A M p n r
  agrees_by {M} {p} {n} e x = subst (A M p n) (sym e) x

  pub agrees_for : {M : Memory V} {p : ℕ} {n n' : Next V} {r : ResultOf V} → n ≡ n' → A M p n' r → A M p n r
  agrees_for {M} {p} {r = r} e x = subst (λ n. A M p n r) (sym e) x

  pub worked : {X : Type 0} (M : Memory V) (p : ℕ) (q : Outcome X) (f : X → Next V) (g : X → ResultOf V)
      → ((x : X) → q ≡ value x → A M p (f x) (g x)) → A M p (worked_out p f q) (follow M q g)
  worked M p (value x) f g h = h x refl
  worked M p (refused n) f g h = faults n None refl

  pub worked_then : {X Y : Type 0} (p : ℕ) (f : Y → Next V) (g : X → Outcome Y) (q : Outcome X) → worked_out p f (and_then g q) ≡ worked_out p (λ x. worked_out p f (g x)) q
  worked_then p f g (value x) = refl
  worked_then p f g (refused n) = refl

  -- A cell set in memory leaves it valid.
  pub set_valid : (x : ℕ) (w : V) (mem : statements.Memory V) (hidden unposted : List V) → Valid v m mem hidden unposted → Valid v m (statements.with_cell mem x w) hidden unposted
  set_valid x w mem hidden unposted val = record { named = length-set mem.cells x w ∙ val.named; all = val.all; room = val.room }

  module _ (root : Statement) (setting : Setting kind c names label_at table_at halt_at v m outer root) where
    halts : drop halt_at c ≡ plain Halt ∷ drop (suc halt_at) c
    halts = setting.laid_out.halts

    module _ (mem : statements.Memory V) (hidden unposted : List V) (val : Valid v m mem hidden unposted) where
      abbrev M : Memory V
      M = spread mem hidden unposted

      fits_here : (e : Exp) → ExpFits names v e → ExpFits names (length mem.cells) e
      fits_here e f = subst (λ n. ExpFits names n e) (sym val.named) f

      -- A step that begins by working out an expression.
      pub evaluates : (e : Exp) (pc p : ℕ) (r : List Entry) (vs : List V) (f : V → Next V) → ExpFits names v e
          → ((y : V) → A M p (f y) (runs kind c (pc + exp_size e) 0 r (y ∷ vs) M))
          → A M p (worked_out p f (figure kind names mem.cells e)) (runs kind c pc 0 (exp_code names e r) vs M)
      evaluates e pc p r vs f fits h =
          agrees_by (exp_runs kind c setting.tells names mem hidden unposted e pc (pc + exp_size e) r vs (fits_here e fits) refl)
          (worked M p (figure kind names mem.cells e) f _ (λ y is. h y))

      -- A step that ends behind a statement.
      pub leaves : (M₀ : Memory V) (p : ℕ) {seen : List ℕ → Bool} {hb b : ℕ} {k : Continuation} → K (mem.cells ++ hidden) seen hb b k
          → A M₀ p (on_to (leave k) mem) (runs kind c b 0 (drop b c) [] M)
      leaves M₀ p q =
          let g = resume kind c names label_at table_at halt_at v m outer halts M q in
          moves g.at hidden unposted g.is val g.stands

    -- The end of an assignment to a cell: the figure is made ready and stored.
    module _ (mem : statements.Memory V) (hidden unposted : List V) (val : Valid v m mem hidden unposted) where
      abbrev N : Memory V
      N = spread mem hidden unposted

      stored_leaves : (x : ℕ) (w : V) (p : ℕ) {seen : List ℕ → Bool} {hb b : ℕ} {k : Continuation} → x < v → K (mem.cells ++ hidden) seen hb b k
          → A N p (on_to (leave k) (statements.with_cell mem x w)) (runs kind c b 0 (drop b c) [] (spread (statements.with_cell mem x w) hidden unposted))
      stored_leaves x w p lt q =
          let inside : x < length mem.cells = omega (arith, val.named) in
          leaves (statements.with_cell mem x w) hidden unposted (set_valid x w mem hidden unposted val) N p
          (continues_kept kind c names label_at table_at halt_at v m outer
          (λ h low lt'. named_set_keeps mem.cells hidden x w inside h (omega (arith, val.named))) q)

      pub sim_assign_whole : (x : Name) (e : Exp) (k : Continuation) (a : ℕ) → S (mem.cells ++ hidden) a (at_assignment (whole x) e k)
          → StepsAlike kind c names label_at table_at halt_at v m outer N a (statements.step_at kind names (Some root) mem (at_assignment (whole x) e k))
      sim_assign_whole x e k a q = record {
        text_place = x.place;
        rest = _;
        begins = q.placed.entries;
        agrees =
            let cell = cell_at names x in
            let t = type_of names x in
            agrees_for (worked_then x.place (on_to (leave k)) (store kind names (Some root) mem x cell) (figure kind names mem.cells e))
            (evaluates mem hidden unposted val e (suc a) x.place _ [] _ q.placed.fits.1 (λ y.
            agrees_for (worked_then x.place (on_to (leave k)) (λ w. value (statements.with_cell mem cell w)) (as_stored kind y t))
            (agrees_by (ready_runs kind c t (suc a + exp_size e) (suc a + exp_size e + ready_size t) _ y [] N refl)
            (worked N x.place (as_stored kind y t) _ _ (λ w is.
            agrees_by
            (store_runs kind c (suc a + exp_size e + ready_size t) (drop q.b c) [] mem hidden unposted cell w (omega (arith, q.placed.fits.0.1, val.named))
            ∙ at_place kind c (suc (suc a + exp_size e + ready_size t)) q.b (drop q.b c) [] (spread (statements.with_cell mem cell w) hidden unposted) (omega (arith, q.placed.long)))
            (stored_leaves cell w x.place q.placed.fits.0.1 q.continues))))));
      }

      -- go to a label.
      pub sim_go : (p : ℕ) (l : Name) (k : Continuation) (a : ℕ) → S (mem.cells ++ hidden) a (at_go p l k)
          → StepsAlike kind c names label_at table_at halt_at v m outer N a (statements.step_at kind names (Some root) mem (at_go p l k))
      sim_go p l k a q = record {
        text_place = p;
        rest = _;
        begins = q.placed.entries;
        agrees =
            let at = label_at l.letters in
            let g = destination_stands kind c names label_at table_at halt_at v m outer root setting.whole setting.outer_is l.letters q.continues q.placed.sees in
            moves at hidden unposted
            (jump_rests kind c (suc a) at (drop q.b c) [] N N (further c a 2 (suc (suc a)) _ q.placed.entries (omega arith))
            (position_rests kind c names label_at table_at halt_at v m outer halts (mem.cells ++ hidden) at (destination (Some root) l.letters k) g))
            val g;
      }

      pub sim_stop : (p a : ℕ) → S (mem.cells ++ hidden) a (at_stop p)
          → StepsAlike kind c names label_at table_at halt_at v m outer N a (statements.step_at kind names (Some root) mem (at_stop p))
      sim_stop p a q = record {
        text_place = p;
        rest = _;
        begins = q;
        agrees =
            moves halt_at hidden unposted
            (jump_rests kind c (suc a) halt_at (drop (a + 2) c) [] N N (further c a 2 (suc (suc a)) _ q (omega arith)) (at_halt _ halts))
            val refl;
      }

      -- if: the governed statement, or what stands after it.
      pub sim_if : (p : ℕ) (e : Exp) (s : Statement) (k : Continuation) (a : ℕ) → S (mem.cells ++ hidden) a (at_if p e s k)
          → StepsAlike kind c names label_at table_at halt_at v m outer N a (statements.step_at kind names (Some root) mem (at_if p e s k))
      sim_if p e s k a q = record {
        text_place = p;
        rest = _;
        begins = q.placed.entries;
        agrees = evaluates mem hidden unposted val e (suc a) p _ [] _ q.placed.fits.0 (λ y. way (is_zero kind y));
      }
        where
          body : ℕ
          body = a + (exp_size e + 2)

          out : ℕ
          out = a + (exp_size e + 2) + size names s

          r : List Entry
          r = code names label_at table_at halt_at q.h (a + (exp_size e + 2)) s (plain Here ∷ drop q.b c)

          behind : drop (suc (suc a + exp_size e)) c ≡ r
          behind = further c a (suc (exp_size e + 1)) (suc (suc a + exp_size e)) _ q.placed.entries (omega arith) ∙ behind_exp names e (exp_size e + 1) 1 _ refl

          entered : S (mem.cells ++ hidden) (a + (exp_size e + 2)) (enter s k)
          entered = enter_stands kind c names label_at table_at halt_at v m outer s (governed kind c names label_at table_at halt_at v m outer q.placed) q.low
              (continues_behind_if kind c names label_at table_at halt_at v m outer q.placed q.continues)

          way : (b : Bool) → A N p (on_to (after_if kind names (Some root) s k (not b)) mem)
              (carried (onward kind c (suc (suc a + exp_size e)) r) (suc a + exp_size e) N (gives (cond b (to (a + (exp_size e + 2) + size names s) [] N) (on [] N))))
          way true =
              agrees_by (jump_on kind c (suc a + exp_size e) (a + (exp_size e + 2) + size names s) r [] N N behind (omega arith))
              (leaves mem hidden unposted val N p (continues_behind_if kind c names label_at table_at halt_at v m outer q.placed q.continues))
          way false =
              let z : suc (suc a + exp_size e) ≡ a + (exp_size e + 2) = omega arith in
              moves (a + (exp_size e + 2)) hidden unposted
              (ap (λ t. runs kind c (suc (suc a + exp_size e)) 0 t [] N) (sym behind)
              ∙ ap (λ n. runs kind c n 0 (drop n c) [] N) z
              ∙ rests kind c (a + (exp_size e + 2)) (position_rests kind c names label_at table_at halt_at v m outer halts (mem.cells ++ hidden) (a + (exp_size e + 2)) (enter s k) entered) [] N)
              val entered

      -- An element of an array: the subscript is worked out and tested before the right side.
      pub sim_assign_indexed : (x : Name) (i e : Exp) (k : Continuation) (a : ℕ) → S (mem.cells ++ hidden) a (at_assignment (indexed x i) e k)
          → StepsAlike kind c names label_at table_at halt_at v m outer N a (statements.step_at kind names (Some root) mem (at_assignment (indexed x i) e k))
      sim_assign_indexed x i e k a q = record {
        text_place = x.place;
        rest = _;
        begins = q.placed.entries;
        agrees =
            agrees_for
            (worked_then x.place (on_to (leave k)) (λ j. and_then (stores j) (right e)) (and_then (subscripted_cell kind names x) (right i))
            ∙ worked_then x.place (λ j. worked_out x.place (on_to (leave k)) (and_then (stores j) (right e))) (subscripted_cell kind names x) (right i))
            (evaluates mem hidden unposted val i (suc a) x.place _ [] _ q.placed.fits.0.1 (λ z. tested z (element_cell ext (kind.nearest z)) refl));
      }
        where
          ext : Extent
          ext = names.extent x.letters

          t : ValueType
          t = type_of names x

          right : Exp → Outcome V
          right f = figure kind names mem.cells f

          stores : ℕ → V → Outcome (statements.Memory V)
          stores j = store kind names (Some root) mem x j

          fits : ExtentFits v ext
          fits = q.placed.fits.0.0

          put : ℕ
          put = suc (suc a + exp_size i) + exp_size e + ready_size t

          rest_of : List Entry
          rest_of = exp_code names e (ready_code t (entry Put (cells_at names x) ∷ drop q.b c))

          tested : (z : V) (o : Outcome ℕ) → element_cell ext (kind.nearest z) ≡ o
              → A N x.place (worked_out x.place (λ j. worked_out x.place (on_to (leave k)) (and_then (stores j) (right e))) o)
              (runs kind c (suc a + exp_size i) 0 (entry Test (cells_at names x) ∷ rest_of) (z ∷ []) N)
          tested z (value j) is =
              agrees_by (test_on kind c (λ u ws n. runs kind c (suc (suc a + exp_size i)) u rest_of ws n) (suc a + exp_size i) (cells_at names x) N [] z j (element_agrees v ext fits kind z ∙ ap calculation is))
              (agrees_for (worked_then x.place (on_to (leave k)) (stores j) (right e))
              (evaluates mem hidden unposted val e (suc (suc a + exp_size i)) x.place _ (z ∷ []) _ q.placed.fits.1 (λ y.
              agrees_for (worked_then x.place (on_to (leave k)) (λ w. value (statements.with_cell mem j w)) (as_stored kind y t))
              (agrees_by (ready_runs kind c t (suc (suc a + exp_size i) + exp_size e) put _ y (z ∷ []) N refl)
              (worked N x.place (as_stored kind y t) _ _ (λ w is'.
              let below : j < v = element_below v ext fits (kind.nearest z) j is in
              agrees_by
              (put_runs kind c put (drop q.b c) [] mem hidden unposted (cells_at names x) z w j (element_agrees v ext fits kind z ∙ ap calculation is) (omega (arith, val.named))
              ∙ at_place kind c (suc put) q.b (drop q.b c) [] (spread (statements.with_cell mem j w) hidden unposted) (omega (arith, q.placed.long)))
              (stored_leaves j w x.place below q.continues)))))))
          tested z (refused n) is =
              agrees_by (test_fails kind c (λ u ws n. runs kind c (suc (suc a + exp_size i)) u rest_of ws n) (suc a + exp_size i) (cells_at names x) N [] z _ (element_agrees v ext fits kind z ∙ ap calculation is))
              (faults n None refl)

      -- print posts a figure; a full book is 35.
      pub sim_print : (p : ℕ) (e : Exp) (es : List Exp) (k : Continuation) (a : ℕ) → S (mem.cells ++ hidden) a (at_print p e es k)
          → StepsAlike kind c names label_at table_at halt_at v m outer N a (statements.step_at kind names (Some root) mem (at_print p e es k))
      sim_print p e es k a q = record {
        text_place = p;
        rest = _;
        begins = q.entries;
        agrees =
            agrees_for (worked_then p (on_to (next_print p k es)) (post mem) (figure kind names mem.cells e))
            (evaluates mem hidden unposted val e (suc a) p _ [] _ q.fits.0 (λ y. posting y (ltb (length mem.posted) mem.book_length) refl));
      }
        where
          pc : ℕ
          pc = suc a + exp_size e

          tail : List Entry
          tail = posts_code names p es (drop q.b c)

          long : length (mem.posted ++ unposted) ≡ mem.book_length
          long = length-append mem.posted unposted ∙ val.room

          at_next : drop (suc pc) c ≡ tail
          at_next = further c a (suc (exp_size e + 1)) (suc pc) _ q.entries (omega arith) ∙ behind_exp names e (exp_size e + 1) 1 _ refl

          goes_on : (es : List Exp) (mem' : statements.Memory V) (us : List V) → Valid v m mem' hidden us → mem'.cells ≡ mem.cells
              → drop (suc pc) c ≡ posts_code names p es (drop q.b c) → suc pc + posts_size names es ≡ q.b → ExpsFit names v es
              → A N p (on_to (next_print p k es) mem') (runs kind c (suc pc) 0 (posts_code names p es (drop q.b c)) [] (spread mem' hidden us))
          goes_on [] mem' us val' same at is fits =
              agrees_by (at_place kind c (suc pc) q.b (drop q.b c) [] (spread mem' hidden us) (omega arith))
              (leaves mem' hidden us val' N p (subst (λ cells. K (cells ++ hidden) q.seen q.hb q.b k) (sym same) q.continues))
          goes_on (f ∷ fs) mem' us val' same at is fits =
              moves (suc pc) hidden us refl val'
              (record {
                seen = q.seen;
                hb = q.hb;
                b = q.b;
                entries = at;
                long = is;
                fits = fits;
                continues = subst (λ cells. K (cells ++ hidden) q.seen q.hb q.b k) (sym same) q.continues;
              })

          posting : (y : V) (t : Bool) → ltb (length mem.posted) mem.book_length ≡ t
              → A N p (worked_out p (on_to (next_print p k es)) (post_if mem y t)) (runs kind c pc 0 (plain Post ∷ tail) (y ∷ []) N)
          posting y true is =
              let lt = ltb-true (length mem.posted) mem.book_length is in
              let g = posted_behind mem.posted unposted y (omega (arith, long)) in
              agrees_by
              (post_on kind c (λ u ws n. runs kind c (suc pc) u tail ws n) pc 0 N [] y (ap (ltb (length mem.posted)) long ∙ is)
              ∙ ap (λ M. runs kind c (suc pc) 0 tail [] M) (posted_memory mem hidden unposted y g.0 g.1))
              (goes_on es (statements.with_posted mem y) g.0
              (record { named = val.named; all = val.all; room = omega (arith, length-append mem.posted (y ∷ []), g.2, val.room) })
              refl at_next (omega (arith, q.long)) q.fits.1)
          posting y false is =
              agrees_by (post_fails kind c (λ u ws n. runs kind c (suc pc) u tail ws n) pc 0 N [] y (ap (ltb (length mem.posted)) long ∙ is)) (faults 35 None refl)
