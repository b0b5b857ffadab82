-- What it means that a step of the code is the statement machine's step: it leads to a position that the next place stands
-- for, over the same named cells, posted figures and roll; or it faults with the same number, text place and roll place, and
-- leaves the memory as it was.
use Rattle.std.specs.Prelude.{◌≡◌, ℕ, suc, ◌+◌, ◌≤◌, Bool, List, [], ◌∷◌, ◌++◌, length, drop, Some, Option, slice_index}
use Rattle.grammar.specs.Tree.{Name, Exp, Variable, Element, Statement}
use Rattle.figures.specs.Kinds.{Kind, Counts, Tells}
use Rattle.code.specs.declared.operations.Operation.TheVariants.{Mark, Halt}
use Rattle.code.specs.declared.sizes.Sizes.{Sizes}
use Rattle.code.specs.Codes.{operation_at}
use Rattle.code.specs.WellFormed.{WellFormed}
use Rattle.meaning.specs.Names.{Names}
use Rattle.meaning.specs.Positions.{Loop, Continuation, Position, at_assignment, at_go, at_if, at_print, at_stop, at_element, at_addition, at_test, at_input, at_switch, end}
use Rattle.meaning.specs.Laws.{has_label}
use Rattle.meaning.specs.Machine as statements
use Rattle.machine.specs.Machine as stack
use Rattle.machine.specs.Steps.{step}
use Rattle.translator.specs.Generator.{Entry, entry, plain}
use Rattle.translator.specs.Translation.{laid_out}
use Rattle.translator.specs.Running.{state, runs}
use Rattle.translator.specs.Simulation.{spread}
use Rattle.translator.specs.Compiled.{Placed, Stands, LaidOut}

-- There are v named cells and m in all, and the book has the caller's length.
pub record Valid {V : Type 0} (v m : ℕ) (memory : statements.Memory V) (hidden unposted : List V) : Type 0 where
  pub named : length memory.cells ≡ v
  pub all : v + length hidden ≡ m
  pub room : length memory.posted + length unposted ≡ memory.book_length

-- The code of a text whose statement is root, over a kind of figures with its two laws.
pub record Setting {V : Type 0} (kind : Kind V) (c : List Entry) (names : Names) (label_at table_at : List ℕ → ℕ) (halt_at v m : ℕ) (outer : List ℕ → Bool) (root : Statement) : Type 0 where
  pub counts : (n : ℕ) → n ≤ 2048 → Counts kind n
  pub tells : Tells kind
  pub laid_out : LaidOut c names label_at table_at halt_at
  pub whole : Placed kind c names label_at table_at halt_at v m outer outer v 0 root halt_at
  pub outer_is : (l : List ℕ) → outer l ≡ has_label l root

module _ {V : Type 0} (kind : Kind V) (c : List Entry) (names : Names) (label_at table_at : List ℕ → ℕ) (halt_at v m : ℕ) (outer : List ℕ → Bool) where
  -- The statement machine's next, at text place p, and what the run within the step comes to over the memory M.
  pub data Agrees (M : stack.Memory V) (p : ℕ) : statements.Next V → stack.ResultOf V → Type 0 where
    moves : {r : stack.ResultOf V} {memory : statements.Memory V} {position : Position} (at : ℕ) (hidden unposted : List V)
        → r ≡ stack.goes (state at [] (spread memory hidden unposted)) → Valid v m memory hidden unposted
        → Stands kind c names label_at table_at halt_at v m outer (memory.cells ++ hidden) at position
        → Agrees M p (statements.next (record { memory = memory; position = position })) r
    faults : {r : stack.ResultOf V} (n : ℕ) (q : Option ℕ)
        → r ≡ stack.faults (record { number = n; roll_place = q }) M → Agrees M p (statements.faults (record { number = n; place = p; roll_place = q })) r

  -- At place a begins a step that agrees.
  pub record StepsAlike (M : stack.Memory V) (a : ℕ) (n : statements.Next V) : Type 0 where
    pub text_place : ℕ
    pub rest : List Entry
    pub begins : drop a c ≡ entry Mark text_place ∷ rest
    pub agrees : Agrees M text_place n (runs kind c (suc a) 0 rest [] M)

  -- Every step from this position is the code's step from where the position stands.
  abbrev pub Simulates : Statement → Position → Type 0
  Simulates root position = (memory : statements.Memory V) (hidden unposted : List V) (a : ℕ) → Valid v m memory hidden unposted
      → Stands kind c names label_at table_at halt_at v m outer (memory.cells ++ hidden) a position
      → StepsAlike (spread memory hidden unposted) a (statements.step_at kind names (Some root) memory position)

  -- Both machines are at the end at place a, the code at its HALT; or both make the same step from there.
  pub data AgreesAt (M : stack.Memory V) (a : ℕ) : statements.Next V → Type 0 where
    both_end : {rest : List Entry} → drop a c ≡ plain Halt ∷ rest → AgreesAt M a statements.at_end
    both_step : {n : statements.Next V} → StepsAlike M a n → AgreesAt M a n

  -- The same of the stack machine's own step: it is at a HALT; or it is at a MARK, whose operand is the text place of faults.
  pub data MachineAgreesAt (sizes : Sizes) (M : stack.Memory V) (a : ℕ) : statements.Next V → Type 0 where
    at_halt : operation_at (laid_out sizes c).operations a ≡ Some Halt → MachineAgreesAt sizes M a statements.at_end
    at_mark : {n : statements.Next V} (p : ℕ) → operation_at (laid_out sizes c).operations a ≡ Some Mark → slice_index (laid_out sizes c).operands a ≡ p
        → Agrees M p n (step kind (laid_out sizes c) (state a [] M)) → MachineAgreesAt sizes M a n

-- The steps that are shown to agree.
pub record StepsAgree {V : Type 0} (kind : Kind V) (c : List Entry) (names : Names) (label_at table_at : List ℕ → ℕ) (halt_at v m : ℕ) (outer : List ℕ → Bool) (root : Statement) : Type 0 where
  pub assignments : (x : Variable) (e : Exp) (k : Continuation) → Simulates kind c names label_at table_at halt_at v m outer root (at_assignment x e k)
  pub gos : (p : ℕ) (l : Name) (k : Continuation) → Simulates kind c names label_at table_at halt_at v m outer root (at_go p l k)
  pub ifs : (p : ℕ) (e : Exp) (s : Statement) (k : Continuation) → Simulates kind c names label_at table_at halt_at v m outer root (at_if p e s k)
  pub prints : (p : ℕ) (e : Exp) (es : List Exp) (k : Continuation) → Simulates kind c names label_at table_at halt_at v m outer root (at_print p e es k)
  pub elements : (l : Loop) (e : Element) (es : List Element) (k : Continuation) → Simulates kind c names label_at table_at halt_at v m outer root (at_element l e es k)
  pub additions : (l : Loop) (f s b : Exp) (es : List Element) (k : Continuation) → Simulates kind c names label_at table_at halt_at v m outer root (at_addition l f s b es k)
  pub tests : (l : Loop) (f s b : Exp) (es : List Element) (k : Continuation) → Simulates kind c names label_at table_at halt_at v m outer root (at_test l f s b es k)
  pub inputs : (p : ℕ) (x : Variable) (k : Continuation) → Simulates kind c names label_at table_at halt_at v m outer root (at_input p x k)
  pub switches : (p : ℕ) (x : Name) (e : Exp) (k : Continuation) → Simulates kind c names label_at table_at halt_at v m outer root (at_switch p x e k)
  pub stops : (p : ℕ) → Simulates kind c names label_at table_at halt_at v m outer root (at_stop p)

abbrev pub StepLaw : {V : Type 0} → Kind V → Type 0
StepLaw {V} kind =
    (c : List Entry) (names : Names) (label_at table_at : List ℕ → ℕ) (halt_at v m : ℕ) (outer : List ℕ → Bool) (root : Statement)
    → Setting kind c names label_at table_at halt_at v m outer root → StepsAgree kind c names label_at table_at halt_at v m outer root

-- The law of one step, whatever the position: where it stands, the two machines agree; and the statement machine is at the
-- end exactly where the code has its HALT.
pub record Simulation {V : Type 0} (kind : Kind V) (c : List Entry) (names : Names) (label_at table_at : List ℕ → ℕ) (halt_at v m : ℕ) (outer : List ℕ → Bool) (root : Statement) : Type 0 where
  pub agree : (position : Position) (memory : statements.Memory V) (hidden unposted : List V) (a : ℕ) → Valid v m memory hidden unposted
      → Stands kind c names label_at table_at halt_at v m outer (memory.cells ++ hidden) a position
      → AgreesAt kind c names label_at table_at halt_at v m outer (spread memory hidden unposted) a (statements.step_at kind names (Some root) memory position)
  pub end_has_halt : (cells : List V) (a : ℕ) → Stands kind c names label_at table_at halt_at v m outer cells a end → (rest : List Entry) × (drop a c ≡ plain Halt ∷ rest)
  pub halt_is_end : (position : Position) (cells : List V) (a : ℕ) (rest : List Entry) → Stands kind c names label_at table_at halt_at v m outer cells a position
      → drop a c ≡ plain Halt ∷ rest → position ≡ end

abbrev pub SimulationLaw : {V : Type 0} → Kind V → Type 0
SimulationLaw {V} kind =
    (c : List Entry) (names : Names) (label_at table_at : List ℕ → ℕ) (halt_at v m : ℕ) (outer : List ℕ → Bool) (root : Statement)
    → Setting kind c names label_at table_at halt_at v m outer root → Simulation kind c names label_at table_at halt_at v m outer root

-- The law of one step between the two machines, in code that passes the check and has the setting's cells.
abbrev pub MachineLaw : {V : Type 0} → Kind V → Type 0
MachineLaw {V} kind =
    (c : List Entry) (names : Names) (label_at table_at : List ℕ → ℕ) (halt_at v m : ℕ) (outer : List ℕ → Bool) (root : Statement)
    → Setting kind c names label_at table_at halt_at v m outer root → (sizes : Sizes) → WellFormed (laid_out sizes c) → sizes.cells ≡ m
    → (position : Position) (memory : statements.Memory V) (hidden unposted : List V) (a : ℕ) → Valid v m memory hidden unposted
    → Stands kind c names label_at table_at halt_at v m outer (memory.cells ++ hidden) a position
    → MachineAgreesAt kind c names label_at table_at halt_at v m outer sizes (spread memory hidden unposted) a (statements.step_at kind names (Some root) memory position)
