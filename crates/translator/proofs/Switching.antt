-- The step of a go to by a switch: the table picks the k-th label's row, or the flow goes on.
use Rattle.std.proofs.Common.{◌≡◌, ℕ, zero, suc, ◌+◌, ◌<◌, ◌≤◌, Bool, true, cond, ◌&&◌, leb, List, [], ◌∷◌, ◌++◌, map, length, drop, ℤ, pos, negsuc, Some, None, Option, sym, refl, ap, ◌∙◌, arith, le-leb}
use borrow.Author.Tests.{lt-leb}
use Rattle.std.specs.List as maps
use Rattle.grammar.specs.Tree.{Name, Exp, Statement}
use Rattle.figures.specs.Kinds.{Kind}
use Rattle.code.specs.declared.operations.Operation.TheVariants.{Jump, Rows}
use Rattle.machine.specs.Machine.{gives, ◌>>=◌, rows_at, Memory, ResultOf}
use Rattle.meaning.specs.Names.{Names}
use Rattle.meaning.specs.Positions.{Continuation, at_switch, nth, kth, destination}
use Rattle.meaning.specs.Machine as statements
use Rattle.meaning.specs.Machine.{Next, on_to, go_or_leave}
use Rattle.translator.specs.Generator.{Entry, entry, exp_size}
use Rattle.translator.specs.Translation.{rows_code, table_code}
use Rattle.translator.specs.Running.{to, on, by_row, carried, runs}
use Rattle.translator.specs.Simulation.{spread}
use Rattle.translator.specs.Compiled.{AllSeen, Stands}
use Rattle.translator.specs.Agreement.{Valid, Setting, Agrees, moves, StepsAlike}
use Rattle.translator.proofs.Behind.{further, behind_exp}
use Rattle.translator.proofs.Expressions.{onward, at_place}
use Rattle.translator.proofs.Resuming.{operand_there, jump_on, jump_rests, position_rests, destination_stands}
use Rattle.translator.proofs.Stepping.{agrees_by, evaluates, leaves}

-- The j-th label's row, and that it is seen.
row_there : (label_at : List ℕ → ℕ) (seen : List ℕ → Bool) (ls : List (List ℕ)) (j : ℕ) (l : List ℕ) (r : List Entry) → nth ls j ≡ Some l → AllSeen seen ls
    → (t : List Entry) × (drop j (rows_code label_at ls r) ≡ entry Jump (label_at l) ∷ t) × (seen l ≡ true) × (j < length ls)
row_there label_at seen [] j l r e s = let z : ◌≡◌ {A = ℕ} 0 1 = cc in absurd (omega arith)
row_there label_at seen (x ∷ ls) zero l r e s = let is : x ≡ l = cc in (rows_code label_at ls r, ap (λ y. entry Jump (label_at y) ∷ rows_code label_at ls r) is, ap seen (sym is) ∙ s.0, omega arith)
row_there label_at seen (x ∷ ls) (suc j) l r e s = let g = row_there label_at seen ls j l r e s.1 in (g.0, g.1, g.2, omega (arith, g.3))

no_row : (ls : List (List ℕ)) (j : ℕ) → nth ls j ≡ None → length ls ≤ j
no_row [] j e = omega arith
no_row (x ∷ ls) zero e = let z : ◌≡◌ {A = ℕ} 0 1 = cc in absurd (omega arith)
no_row (x ∷ ls) (suc j) e = let g = no_row ls j e in omega arith

module _ {V : Type 0} (kind : Kind V) (c : List Entry) (names : Names) (label_at table_at : List ℕ → ℕ) (halt_at v m : ℕ) (outer : List ℕ → Bool) (root : Statement)
    (setting : Setting kind c names label_at table_at halt_at v m outer root) (mem : statements.Memory V) (hidden unposted : List V) (val : Valid v m mem hidden unposted) where
  abbrev N : Memory V
  N = spread mem hidden unposted

  abbrev A : Memory V → ℕ → Next V → ResultOf V → Type 0
  A = Agrees kind c names label_at table_at halt_at v m outer

  pub sim_switch : (p : ℕ) (x : Name) (e : Exp) (k : Continuation) (a : ℕ) → Stands kind c names label_at table_at halt_at v m outer (mem.cells ++ hidden) a (at_switch p x e k)
      → StepsAlike kind c names label_at table_at halt_at v m outer N a (statements.step_at kind names (Some root) mem (at_switch p x e k))
  sim_switch p x e k a q = record {
    text_place = p;
    rest = _;
    begins = q.placed.entries;
    agrees = evaluates kind c names label_at table_at halt_at v m outer root setting mem hidden unposted val e (suc a) p _ [] _ q.placed.fits.0 (λ y.
        let g = setting.laid_out.tables x.letters q.placed.fits.1 in
        picks (names.labels x.letters) g.0 g.1 g.2 q.placed.fits.1 q.placed.sees (kind.nearest y));
  }
    where
      T : ℕ
      T = table_at x.letters

      pc : ℕ
      pc = suc a + exp_size e

      behind : drop (suc pc) c ≡ drop q.b c
      behind = further c a (suc (exp_size e + 1)) (suc pc) _ q.placed.entries (omega arith) ∙ behind_exp names e (exp_size e + 1) 1 _ refl

      goes_on : A N p (on_to (go_or_leave kind names (Some root) k None) mem) (runs kind c (suc pc) 0 (drop q.b c) [] N)
      goes_on =
          agrees_by kind c names label_at table_at halt_at v m outer (at_place kind c (suc pc) q.b (drop q.b c) [] N (omega (arith, q.placed.long)))
          (leaves kind c names label_at table_at halt_at v m outer root setting mem hidden unposted val N p q.continues)

      picks : (ls : List (List ℕ)) (r : List Entry) → drop T c ≡ table_code label_at ls r → halt_at < T → 1 ≤ length ls → AllSeen q.seen ls → (z : ℤ)
          → A N p (on_to (go_or_leave kind names (Some root) k (kth ls z)) mem)
          (carried (onward kind c (suc pc) (drop q.b c)) pc N (rows_at (maps.slice_get (map (λ i. i.operand) c) T) >>= λ n. gives (by_row T n z [] N)))
      picks [] r at far some sees z = absurd (omega arith)
      picks (l ∷ ls) r at far some sees z =
          agrees_by kind c names label_at table_at halt_at v m outer
          (ap (λ o. carried (onward kind c (suc pc) (drop q.b c)) pc N (rows_at o >>= λ n. gives (by_row T n z [] N))) (operand_there T c (entry Rows (length (l ∷ ls))) _ at))
          (by_number z)
        where
          by_label : (j : ℕ) (o : Option (List ℕ)) → nth (l ∷ ls) j ≡ o
              → A N p (on_to (go_or_leave kind names (Some root) k o) mem)
              (carried (onward kind c (suc pc) (drop q.b c)) pc N (gives (cond (leb 1 (suc j) && leb (suc j) (length (l ∷ ls))) (to (T + suc j) [] N) (on [] N))))
          by_label j None is =
              agrees_by kind c names label_at table_at halt_at v m outer
              (ap (λ b. carried (onward kind c (suc pc) (drop q.b c)) pc N (gives (cond b (to (T + suc j) [] N) (on [] N))))
              (ap (λ b. b && leb (suc j) (length (l ∷ ls))) (le-leb 1 (suc j) (omega arith)) ∙ lt-leb (suc j) (length (l ∷ ls)) (omega (arith, no_row (l ∷ ls) j is))))
              goes_on
          by_label j (Some t) is =
              let g = row_there label_at q.seen (l ∷ ls) j t r is sees in
              let s = destination_stands kind c names label_at table_at halt_at v m outer root setting.whole setting.outer_is t q.continues g.2 in
              let row : drop (T + suc j) c ≡ entry Jump (label_at t) ∷ g.0 = further c T (suc j) (T + suc j) _ at refl ∙ g.1 in
              moves (label_at t) hidden unposted
              (ap (λ b. carried (onward kind c (suc pc) (drop q.b c)) pc N (gives (cond b (to (T + suc j) [] N) (on [] N))))
              (ap (λ b. b && leb (suc j) (length (l ∷ ls))) (le-leb 1 (suc j) (omega arith)) ∙ le-leb (suc j) (length (l ∷ ls)) (omega (arith, g.3)))
              ∙ jump_on kind c pc (T + suc j) (drop q.b c) [] N N behind (omega (arith, q.placed.long, q.placed.before, far))
              ∙ ap (λ i. runs kind c (T + suc j) 0 i [] N) row
              ∙ jump_rests kind c (T + suc j) (label_at t) g.0 [] N N (further c (T + suc j) 1 (suc (T + suc j)) _ row (omega arith))
              (position_rests kind c names label_at table_at halt_at v m outer setting.laid_out.halts (mem.cells ++ hidden) (label_at t) (destination (Some root) t k) s))
              val s

          by_number : (z : ℤ) → A N p (on_to (go_or_leave kind names (Some root) k (kth (l ∷ ls) z)) mem)
              (carried (onward kind c (suc pc) (drop q.b c)) pc N (gives (by_row T (length (l ∷ ls)) z [] N)))
          by_number (pos zero) = goes_on
          by_number (pos (suc j)) = by_label j (nth (l ∷ ls) j) refl
          by_number (negsuc n) = goes_on
