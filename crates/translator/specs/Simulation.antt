-- What is proved of the code of a tree, for every kind of figures.
use Rattle.std.specs.Prelude.{◌≡◌, ℕ, suc, ◌+◌, ◌≤◌, Bool, true, List, [], ◌∷◌, ◌++◌, length, drop, Some}
use Rattle.grammar.specs.Tree.{Exp, Statement}
use Rattle.code.specs.declared.operations.Operation.TheVariants.{Halt, Mark}
use Rattle.code.specs.declared.sizes.Sizes.{Sizes}
use Rattle.code.specs.WellFormed.{WellFormed}
use Rattle.figures.specs.Kinds.{Kind}
use Rattle.meaning.specs.Names.{Names}
use Rattle.meaning.specs.Expressions.{figure}
use Rattle.meaning.specs.Positions.{Continuation, Position, enter, leave, find, destination}
use Rattle.meaning.specs.Laws.{has_label}
use Rattle.meaning.specs.Machine as statements
use Rattle.machine.specs.Machine as stack
use Rattle.machine.specs.Steps.{step}
use Rattle.translator.specs.Generator.{Entry, entry, plain, exp_size, exp_code, size, code}
use Rattle.translator.specs.Translation.{laid_out}
use Rattle.translator.specs.Fits.{ExpFits}
use Rattle.translator.specs.Running.{state, runs, follow}
use Rattle.translator.specs.Compiled.{Placed, Continues, Stands}

-- The stack machine's memory over the statement machine's: hidden cells behind the named ones, and a book whose first
-- figures are those posted.
abbrev pub spread : {V : Type 0} → statements.Memory V → List V → List V → stack.Memory V
spread m hidden unposted = record {
  cells = m.cells ++ hidden;
  book = m.posted ++ unposted;
  posted = length m.posted;
  roll = m.roll;
}

-- The code of an expression, at pc, leaves the figure of the expression on the stack and goes on behind itself, at q; or it
-- ends in the expression's fault, and nothing has changed.
abbrev pub ExpressionsRun : {V : Type 0} → Kind V → Type 0
ExpressionsRun {V} kind =
    (c : List Entry) (names : Names) (m : statements.Memory V) (hidden unposted : List V) (e : Exp) (pc q : ℕ) (r : List Entry) (vs : List V)
    → ExpFits names (length m.cells) e → pc + exp_size e ≡ q
    → runs kind c pc 0 (exp_code names e r) vs (spread m hidden unposted)
    ≡ follow (spread m hidden unposted) (figure kind names m.cells e) (λ v. runs kind c q 0 r (v ∷ vs) (spread m hidden unposted))

-- To drop as many entries as a statement's code has is to drop that code.
abbrev pub SizesAreRight : Type 0
SizesAreRight =
    (names : Names) (label_at table_at : List ℕ → ℕ) (halt_at h a : ℕ) (s : Statement) (r : List Entry)
    → drop (size names s) (code names label_at table_at halt_at h a s r) ≡ r

-- A statement that is entered stands where its code begins, and a label that is found stands where the code has it.
pub record PlacingLaw {V : Type 0} (kind : Kind V) : Type 0 where
  pub enters : (c : List Entry) (names : Names) (label_at table_at : List ℕ → ℕ) (halt_at v m : ℕ) (outer : List ℕ → Bool) (s : Statement)
      {cells : List V} {seen : List ℕ → Bool} {hb h a b : ℕ} {k : Continuation}
      → Placed kind c names label_at table_at halt_at v m outer seen h a s b → hb ≤ h
      → Continues kind c names label_at table_at halt_at v m outer cells seen hb b k
      → Stands kind c names label_at table_at halt_at v m outer cells a (enter s k)
  pub finds : (c : List Entry) (names : Names) (label_at table_at : List ℕ → ℕ) (halt_at v m : ℕ) (outer : List ℕ → Bool) (l : List ℕ) (s : Statement)
      {cells : List V} {seen : List ℕ → Bool} {hb h a b : ℕ} {k : Continuation} (o : Position)
      → Placed kind c names label_at table_at halt_at v m outer seen h a s b → hb ≤ h
      → Continues kind c names label_at table_at halt_at v m outer cells seen hb b k → has_label l s ≡ true
      → Stands kind c names label_at table_at halt_at v m outer cells (label_at l) (find l s k o)

-- After a statement, the run within the step goes on to the next step of the continuation and rests there; and a label that
-- a go to sees stands where the code has it, with the elements in use of the fors around it.
pub record FlowLaw {V : Type 0} (kind : Kind V) : Type 0 where
  pub resumes : (c : List Entry) (names : Names) (label_at table_at : List ℕ → ℕ) (halt_at v m : ℕ) (outer : List ℕ → Bool)
      → drop halt_at c ≡ plain Halt ∷ drop (suc halt_at) c → (M : stack.Memory V)
      → {seen : List ℕ → Bool} {hb a : ℕ} {k : Continuation}
      → Continues kind c names label_at table_at halt_at v m outer M.cells seen hb a k
      → (at : ℕ) × (runs kind c a 0 (drop a c) [] M ≡ stack.goes (state at [] M)) × Stands kind c names label_at table_at halt_at v m outer M.cells at (leave k)
  pub destinations : (c : List Entry) (names : Names) (label_at table_at : List ℕ → ℕ) (halt_at v m : ℕ) (outer : List ℕ → Bool)
      (root : Statement) → Placed kind c names label_at table_at halt_at v m outer outer v 0 root halt_at → ((l : List ℕ) → outer l ≡ has_label l root)
      → (l : List ℕ) {cells : List V} {seen : List ℕ → Bool} {hb a : ℕ} {k : Continuation}
      → Continues kind c names label_at table_at halt_at v m outer cells seen hb a k → seen l ≡ true
      → Stands kind c names label_at table_at halt_at v m outer cells (label_at l) (destination (Some root) l k)

-- In code that passes the check, the stack machine's step from a MARK is the run on the code behind it.
abbrev pub StepsAreRuns : {V : Type 0} → Kind V → Type 0
StepsAreRuns {V} kind =
    (sizes : Sizes) (c : List Entry) → WellFormed (laid_out sizes c) → (a p : ℕ) (r : List Entry) (M : stack.Memory V)
    → drop a c ≡ entry Mark p ∷ r → length M.cells ≡ sizes.cells
    → step kind (laid_out sizes c) (state a [] M) ≡ runs kind c (suc a) 0 r [] M
