-- The third step of a progression, its test: the sign of the step says which way the variable goes; if the variable is not
-- past the limit the body comes again, else the next element, or what stands behind the for.
use Rattle.std.proofs.Common.{◌≡◌, ℕ, suc, ◌+◌, ◌<◌, ◌≤◌, Bool, true, false, cond, List, [], ◌∷◌, ◌++◌, length, drop, Some, refl, ap, ◌∙◌, arith}
use Rattle.grammar.specs.Tree.{Exp, Element, progression, Statement}
use Rattle.symbols.specs.declared.value_type.ValueType.{ValueType}
use Rattle.figures.specs.Kinds.{Kind, Outcome, value}
use Rattle.code.specs.declared.operations.Operation.{Operation}
use Rattle.code.specs.declared.operations.Operation.TheVariants.{Load, Less, More, Jump, False}
use Rattle.meaning.specs.Names.{Names}
use Rattle.meaning.specs.Expressions.{and_then, both, figure, figure_in}
use Rattle.meaning.specs.Positions.{Loop, Continuation, turn, Position, at_test, enter}
use Rattle.meaning.specs.Machine as statements
use Rattle.meaning.specs.Machine.{Next, on_to, worked_out, is_past, after_test, goes_down}
use Rattle.machine.specs.Machine.{gives, truth, Memory, ResultOf}
use Rattle.translator.specs.Generator.{Entry, entry, plain, exp_size, exp_code, cell_at, type_of, first_size, addition_size, down_size, up_size, element_size, up_code, test_code, next_place, elements_code}
use Rattle.translator.specs.Running.{to, on, carried, follow, runs}
use Rattle.translator.specs.Simulation.{spread}
use Rattle.translator.specs.Compiled.{again, AtLoop, Stands}
use Rattle.translator.specs.Agreement.{Valid, Setting, Agrees, moves, StepsAlike}
use Rattle.translator.proofs.Behind.{further, behind_exp, behind_first, behind_addition, behind_down}
use Rattle.translator.proofs.Expressions.{onward, cell_found, figure_made, loaded_on, one_is_true, zero_is_false}
use Rattle.translator.proofs.Placing.{enter_stands}
use Rattle.translator.proofs.Resuming.{jump_on, jump_rests, position_rests, next_resumes, resume}
use Rattle.translator.proofs.Stepping.{agrees_by, agrees_for, worked_then, evaluates}

-- The operation that tells whether the variable is past the limit, for a step that goes down and for one that does not.
abbrev comparison : Bool → Operation
comparison true = Less
comparison false = More

module _ {V : Type 0} (kind : Kind V) (c : List Entry) (names : Names) (label_at table_at : List ℕ → ℕ) (halt_at v m : ℕ) (outer : List ℕ → Bool) (root : Statement)
    (setting : Setting kind c names label_at table_at halt_at v m outer root) (mem : statements.Memory V) (hidden unposted : List V) (val : Valid v m mem hidden unposted) where
  abbrev N : Memory V
  N = spread mem hidden unposted

  abbrev A : Memory V → ℕ → Next V → ResultOf V → Type 0
  A = Agrees kind c names label_at table_at halt_at v m outer

  abbrev S : List V → ℕ → Position → Type 0
  S = Stands kind c names label_at table_at halt_at v m outer

  module _ (l : Loop) (y s u : Exp) (es : List Element) (k : Continuation) (a : ℕ) (q : S (mem.cells ++ hidden) a (at_test l y s u es k)) where
    abbrev x : AtLoop kind c names label_at table_at halt_at v m outer (mem.cells ++ hidden) l (progression y s u) es k
    x = q.0

    abbrev t : ValueType
    t = type_of names l.control

    abbrev cell : ℕ
    cell = cell_at names l.control

    abbrev behind_here : ℕ
    behind_here = x.a + element_size names t (progression y s u)

    abbrev next : ℕ
    next = next_place names l.place l.control x.h x.b x.o behind_here es

    abbrev up : ℕ
    up = x.a + first_size names t y + addition_size names t s + down_size names s u

    abbrev others : List Entry
    others = elements_code names l.place l.control x.h x.b x.o (suc x.i) behind_here es (drop x.b c)

    test_entries : drop a c ≡ test_code names l.place l.control x.h x.b next up s u others
    test_entries =
        further c x.a (first_size names t y + addition_size names t s) a _ x.placed.elements (omega (arith, q.2))
        ∙ behind_first names l.place l.control x.h x.b x.i y (first_size names t y + addition_size names t s) (addition_size names t s) _ refl
        ∙ behind_addition names l.place l.control x.h x.b s (addition_size names t s) 0 (test_code names l.place l.control x.h x.b next up s u others) (omega arith)

    up_entries : drop up c ≡ up_code names l.place l.control x.h x.b next u others
    up_entries =
        further c a (down_size names s u) up _ test_entries (omega (arith, q.2))
        ∙ behind_down names l.place l.control x.h x.b next up s u (down_size names s u) 0 others (omega arith)

    -- Both ways of the test stand before the way out.
    before_out : up + up_size names u ≤ x.o
    before_out = omega (arith, x.placed.long, x.placed.over, x.placed.body.long)

    inside : cell < length mem.cells
    inside = omega (arith, x.placed.control_fits, val.named)

    abbrev after : Bool → Next V
    after past = on_to (after_test kind names (Some root) l (progression y s u) es k past) mem

    -- The body stands where it begins, with this element in use.
    entered : S (mem.cells ++ hidden) x.b (enter l.body (turn l (progression y s u) es k))
    entered = enter_stands kind c names label_at table_at halt_at v m outer l.body {hb = suc x.h} x.placed.body (omega arith)
        (again x.seen x.h x.hb x.i x.a x.b x.o x.n refl x.placed q.1 (omega arith) x.low x.continues)

    -- The end of the test: the body again, or on.
    decides : (pc : ℕ) (r : List Entry) (past : Bool) → drop (suc pc) c ≡ entry Jump next ∷ r → suc pc < x.o
        → A N l.place (after past) (follow N (truth kind past) (λ z. runs kind c pc 0 (entry False x.b ∷ entry Jump next ∷ r) (z ∷ []) N))
    decides pc r true behind lt =
        let halts = setting.laid_out.halts in
        let g = next_resumes kind c names label_at table_at halt_at v m outer halts N (progression y s u) es x.placed x.low x.continues
        (resume kind c names label_at table_at halt_at v m outer halts N x.continues)
        (suc pc) r N (further c (suc pc) 1 (suc (suc pc)) _ behind (omega arith)) lt in
        moves g.at hidden unposted
        (ap (λ o. follow N o (λ z. runs kind c pc 0 (entry False x.b ∷ entry Jump next ∷ r) (z ∷ []) N)) setting.tells.of_one
        ∙ ap (λ b. carried (onward kind c (suc pc) (entry Jump next ∷ r)) pc N (gives (cond b (to x.b [] N) (on [] N)))) (one_is_true kind c setting.tells)
        ∙ g.is)
        val g.stands
    decides pc r false behind lt =
        moves x.b hidden unposted
        (ap (λ o. follow N o (λ z. runs kind c pc 0 (entry False x.b ∷ entry Jump next ∷ r) (z ∷ []) N)) setting.tells.of_zero
        ∙ ap (λ b. carried (onward kind c (suc pc) (entry Jump next ∷ r)) pc N (gives (cond b (to x.b [] N) (on [] N)))) (zero_is_false kind c setting.tells)
        ∙ jump_rests kind c pc x.b (entry Jump next ∷ r) [] N N behind
        (position_rests kind c names label_at table_at halt_at v m outer setting.laid_out.halts (mem.cells ++ hidden) x.b (enter l.body (turn l (progression y s u) es k)) entered))
        val entered

    -- The comparison tells whether the variable's figure is past the limit's.
    compares : (down : Bool) (pc : ℕ) (r : List Entry) (w limit : V)
        → runs kind c pc 0 (plain (comparison down) ∷ r) (limit ∷ w ∷ []) N
        ≡ follow N (truth kind (is_past kind names (Some root) w limit down)) (λ z. runs kind c (suc pc) 0 r (z ∷ []) N)
    compares true pc r w limit = figure_made kind c pc r [] N (truth kind (kind.less w limit))
    compares false pc r w limit = figure_made kind c pc r [] N (truth kind (kind.less limit w))

    -- What the test does once the sign of the step is known.
    abbrev past_limit : Bool → Outcome Bool
    past_limit down = both (λ w limit. value (is_past kind names (Some root) w limit down)) (figure_in kind mem.cells cell) (figure kind names mem.cells u)

    abbrev limit_code : Bool → List Entry → List Entry
    limit_code down r = entry Load cell ∷ exp_code names u (plain (comparison down) ∷ entry False x.b ∷ entry Jump next ∷ r)

    limit_tested : (down : Bool) (pc : ℕ) (r : List Entry) → drop pc c ≡ limit_code down r → suc (suc (suc pc + exp_size u)) < x.o
        → A N l.place (worked_out l.place after (past_limit down)) (runs kind c pc 0 (limit_code down r) [] N)
    limit_tested down pc r entries lt =
        let p = l.place in
        let g = cell_found kind mem.cells hidden cell inside in
        let limit = figure kind names mem.cells u in
        let tells_past : V → V → Outcome Bool = λ w z. value (is_past kind names (Some root) w z down) in
        agrees_for kind c names label_at table_at halt_at v m outer
        (ap (λ o. worked_out p after (both tells_past o limit)) g.2
        ∙ worked_then kind c names label_at table_at halt_at v m outer p after (tells_past g.0) limit)
        (agrees_by kind c names label_at table_at halt_at v m outer
        (loaded_on kind c (λ i ws n. runs kind c (suc pc) i (exp_code names u (plain (comparison down) ∷ entry False x.b ∷ entry Jump next ∷ r)) ws n) pc cell N [] g.0 g.1)
        (evaluates kind c names label_at table_at halt_at v m outer root setting mem hidden unposted val u (suc pc) p _ (g.0 ∷ []) _ x.placed.elements_fit.0.2 (λ z.
        agrees_by kind c names label_at table_at halt_at v m outer (compares down (suc pc + exp_size u) (entry False x.b ∷ entry Jump next ∷ r) g.0 z)
        (decides (suc (suc pc + exp_size u)) r (is_past kind names (Some root) g.0 z down)
        (further c pc (suc (exp_size u + 2)) (suc (suc (suc pc + exp_size u))) _ entries (omega arith) ∙ behind_exp names u (exp_size u + 2) 2 _ refl)
        lt))))

    -- The place of the FALSE that branches on the sign of the step, and the way down behind it.
    abbrev branch : ℕ
    branch = suc (suc (suc a + exp_size s))

    abbrev downs : List Entry
    downs = limit_code true (up_code names l.place l.control x.h x.b next u others)

    behind_branch : drop (suc branch) c ≡ downs
    behind_branch = further c a (suc (exp_size s + 3)) (suc branch) _ test_entries (omega arith) ∙ behind_exp names s (exp_size s + 3) 3 _ refl

    way : (down : Bool) → A N l.place (worked_out l.place after (past_limit down)) (follow N (truth kind down) (λ z. runs kind c branch 0 (entry False up ∷ downs) (z ∷ []) N))
    way true =
        agrees_by kind c names label_at table_at halt_at v m outer
        (ap (λ o. follow N o (λ z. runs kind c branch 0 (entry False up ∷ downs) (z ∷ []) N)) setting.tells.of_one
        ∙ ap (λ b. carried (onward kind c (suc branch) downs) branch N (gives (cond b (to up [] N) (on [] N)))) (one_is_true kind c setting.tells))
        (limit_tested true (suc branch) _ behind_branch (omega (arith, q.2, before_out)))
    way false =
        agrees_by kind c names label_at table_at halt_at v m outer
        (ap (λ o. follow N o (λ z. runs kind c branch 0 (entry False up ∷ downs) (z ∷ []) N)) setting.tells.of_zero
        ∙ ap (λ b. carried (onward kind c (suc branch) downs) branch N (gives (cond b (to up [] N) (on [] N)))) (zero_is_false kind c setting.tells)
        ∙ jump_on kind c branch up downs [] N N behind_branch (omega (arith, q.2))
        ∙ ap (λ r. runs kind c up 0 r [] N) up_entries)
        (limit_tested false (suc up) others (further c up 1 (suc up) _ up_entries (omega arith)) (omega (arith, before_out)))

    pub sim_test : StepsAlike kind c names label_at table_at halt_at v m outer N a (statements.step_at kind names (Some root) mem (at_test l y s u es k))
    sim_test = record {
      text_place = l.place;
      rest = _;
      begins = test_entries;
      agrees =
          let p = l.place in
          let step = figure kind names mem.cells s in
          let tested : Bool → Next V = λ down. worked_out p after (past_limit down) in
          let sign : V → V → Outcome Bool = λ w zero. value (kind.less w zero) in
          let none = setting.tells.zero in
          agrees_for kind c names label_at table_at halt_at v m outer
          (worked_then kind c names label_at table_at halt_at v m outer p after past_limit (goes_down kind names (Some root) mem s)
          ∙ worked_then kind c names label_at table_at halt_at v m outer p tested (λ w. and_then (sign w) (kind.of 0)) step)
          (evaluates kind c names label_at table_at halt_at v m outer root setting mem hidden unposted val s (suc a) p _ [] _ x.placed.elements_fit.0.1 (λ z.
          agrees_for kind c names label_at table_at halt_at v m outer (ap (λ o. worked_out p tested (and_then (sign z) o)) setting.tells.of_zero)
          (agrees_by kind c names label_at table_at halt_at v m outer
          (figure_made kind c (suc a + exp_size s) (plain Less ∷ entry False up ∷ downs) (z ∷ []) N (kind.of 0)
          ∙ ap (λ o. follow N o (λ w. runs kind c (suc (suc a + exp_size s)) 0 (plain Less ∷ entry False up ∷ downs) (w ∷ z ∷ []) N)) setting.tells.of_zero
          ∙ figure_made kind c (suc (suc a + exp_size s)) (entry False up ∷ downs) [] N (truth kind (kind.less z none)))
          (way (kind.less z none)))));
    }
