-- The machine, over the values of any kind of figures: what each form of operation does to the operand stack, the cells,
-- the book and the roll. Lists are what the arrays hold, the stack top first. A reader must believe this file,
-- `Instructions` and `Steps`.
use Rattle.std.specs.Prelude.{ℕ, ◌+◌, Bool, cond, not, ◌&&◌, ◌||◌, List, [], ◌∷◌, length, ℤ, pos, negsuc, ◌+ℤ◌, ◌-ℤ◌, Some, None, Option, nat_le, nat_lt, slice_set}
use Rattle.std.specs.List.{slice_get}
use Rattle.figures.specs.Kinds.{Kind, Outcome, value, refused, is_zero}
use Rattle.rolls.specs.Contents.{Contents, Taken, first, rest, took, refused as untaken, refused_at as untaken_at}
use Rattle.code.specs.Codes.{Code}
use Rattle.code.specs.Descriptors.{unpacked}
use Rattle.code.specs.declared.descriptor.Descriptor.{Descriptor}
use Rattle.machine.specs.declared.fault.RunFault.TheVariants.{BookFull, Subscript}
use Rattle.machine.specs.declared.instruction.Instruction.{Instruction}
use Rattle.machine.specs.declared.instruction.Instruction.TheVariants.{Halt, Pass, Calculate, Transfer, Go, Take, Post}
use Rattle.machine.specs.declared.instruction.Calculation.{Calculation}
use Rattle.machine.specs.declared.instruction.Calculation.TheVariants.{Constant, One, Two, Bounds}
use Rattle.machine.specs.declared.instruction.Unary.{Unary}
use Rattle.machine.specs.declared.instruction.Unary.TheVariants.{Round, Truth, Negate, Deny}
use Rattle.machine.specs.declared.instruction.Binary.{Binary}
use Rattle.machine.specs.declared.instruction.Binary.TheVariants.{Add, Subtract, Multiply, Divide, Less, Same, More, And, Or, Alike}
use Rattle.machine.specs.declared.instruction.Transfer as transfers
use Rattle.machine.specs.declared.instruction.Transfer.TheVariants.{Load, Store, Get, Put}
use Rattle.machine.specs.declared.instruction.Branch.{Branch}
use Rattle.machine.specs.declared.instruction.Branch.TheVariants.{Always, IfFalse, ByTable}
use Rattle.machine.specs.Faults.{Fault, fault_of}

-- What code that did not pass the check may miss.
pub data Lack : Type 0 where
  -- a figure that an operation takes, and room on the stack for one that it leaves
  figure : Lack
  room : Lack
  -- a cell from m on, an operation from n on
  cell : Lack
  operation : Lack
  -- a step that does not end
  end : Lack

-- What an operation tries: it gives something, ends the run by a fault, or lacks something.
pub data Attempt (X : Type 0) : Type 0 where
  gives : X → Attempt X
  fails : Fault → Attempt X
  lacks : Lack → Attempt X

infixl 20 ◌>>=◌
abbrev pub ◌>>=◌ : {X Y : Type 0} → Attempt X → (X → Attempt Y) → Attempt Y
gives x >>= next = next x
fails f >>= next = fails f
lacks l >>= next = lacks l

-- The value of a calculation, or its fault.
abbrev pub calculation : {V : Type 0} → Outcome V → Attempt V
calculation (value v) = gives v
calculation (refused n) = fails (record { number = n; roll_place = None })

-- The figure on top of the stack, and the two on top, the left operand lower.
abbrev pub one : {V Y : Type 0} → List V → (V → List V → Attempt Y) → Attempt Y
one [] next = lacks figure
one (v ∷ vs) next = next v vs

abbrev pub two : {V Y : Type 0} → List V → (V → V → List V → Attempt Y) → Attempt Y
two [] next = lacks figure
two (w ∷ []) next = lacks figure
two (w ∷ v ∷ vs) next = next v w vs

-- What a cell holds, and the cells once a value is stored in one.
abbrev pub found : {V : Type 0} → Option V → Attempt V
found None = lacks cell
found (Some v) = gives v

abbrev pub loaded : {V : Type 0} → List V → ℕ → Attempt V
loaded cells i = found (slice_get cells i)

abbrev pub stored : {V : Type 0} → List V → ℕ → V → Attempt (List V)
stored cells i v = cond (nat_lt i (length cells)) (gives (slice_set cells i v)) (lacks cell)

-- The cell of the array's element that is so far from the low bound.
abbrev pub element_at : Descriptor → ℤ → Attempt ℕ
element_at d (pos k) = cond (nat_lt k d.count) (gives (d.first + k)) (fails (fault_of Subscript))
element_at d (negsuc k) = fails (fault_of Subscript)

-- The low bound is 10,000 less than the descriptor has it.
abbrev pub from_low : Descriptor → ℤ → ℤ
from_low d n = (n +ℤ pos 10000) -ℤ pos d.biased_low

-- Where a table at place p with k rows leads: to the JUMP that the number names, or on.
abbrev pub row : ℕ → ℕ → ℕ → ℤ → ℕ
row p k on (pos n) = cond (nat_le 1 n && nat_le n k) (p + n) on
row p k on (negsuc n) = on

abbrev pub rows_at : Option ℕ → Attempt ℕ
rows_at None = lacks operation
rows_at (Some k) = gives k

abbrev pub tabled : List ℕ → ℕ → ℕ → ℤ → Attempt ℕ
tabled operands p on n = rows_at (slice_get operands p) >>= λ k. gives (row p k on n)

-- What taking from a roll hands over, or its fault.
abbrev pub handed : {V : Type 0} → Taken V → Attempt V
handed (took v) = gives v
handed (untaken n) = fails (record { number = n; roll_place = None })
handed (untaken_at n place) = fails (record { number = n; roll_place = Some place })

module _ {V : Type 0} (kind : Kind V) where
  -- All but figures same as of(0) are true; an answer is of(1) or of(0).
  abbrev pub is_true : V → Bool
  is_true v = not (is_zero kind v)

  abbrev pub truth : Bool → Outcome V
  truth b = kind.of (cond b 1 0)

  abbrev pub of_one : Unary → V → Outcome V
  of_one Round v = value (kind.round v)
  of_one Truth v = truth (is_true v)
  of_one Negate v = value (kind.negate v)
  of_one Deny v = truth (not (is_true v))

  abbrev pub of_two : Binary → V → V → Outcome V
  of_two Add a b = kind.add a b
  of_two Subtract a b = kind.subtract a b
  of_two Multiply a b = kind.multiply a b
  of_two Divide a b = kind.divide a b
  of_two Less a b = truth (kind.less a b)
  of_two Same a b = truth (kind.same a b)
  of_two More a b = truth (kind.less b a)
  of_two And a b = truth (is_true a && is_true b)
  of_two Or a b = truth (is_true a || is_true b)
  of_two Alike a b = truth (cond (is_true a) (is_true b) (not (is_true b)))

  -- The cell that a subscript names, by its nearest whole number; 36 outside the bounds.
  abbrev pub element : ℕ → V → Attempt ℕ
  element x i = element_at (unpacked x) (from_low (unpacked x) (kind.nearest i))

  -- The stack after work on the stack alone.
  abbrev pub calculated : Calculation → ℕ → List V → Attempt (List V)
  calculated Constant x vs = calculation (kind.of x) >>= λ v. gives (v ∷ vs)
  calculated (One f) x vs = one vs (λ v ws. calculation (of_one f v) >>= λ w. gives (w ∷ ws))
  calculated (Two f) x vs = two vs (λ a b ws. calculation (of_two f a b) >>= λ w. gives (w ∷ ws))
  calculated Bounds x vs = one vs (λ i ws. element x i >>= λ e. gives vs)

  -- The stack and the cells after work on both.
  abbrev pub transferred : transfers.Transfer → ℕ → List V → List V → Attempt (List V × List V)
  transferred Load x vs cells = loaded cells x >>= λ v. gives (v ∷ vs, cells)
  transferred Store x vs cells = one vs (λ v ws. stored cells x v >>= λ after. gives (ws, after))
  transferred Get x vs cells = one vs (λ i ws. element x i >>= λ e. loaded cells e >>= λ v. gives (v ∷ ws, cells))
  transferred Put x vs cells = two vs (λ i v ws. element x i >>= λ e. stored cells e v >>= λ after. gives (ws, after))

  -- The next place and the stack after a jump from p; a table's rows are told by the operand where it stands.
  abbrev pub gone : List ℕ → Branch → ℕ → ℕ → List V → Attempt (ℕ × List V)
  gone operands Always x p vs = gives (x, vs)
  gone operands IfFalse x p vs = one vs (λ v ws. gives (cond (is_zero kind v) x (p + 1), ws))
  gone operands ByTable x p vs = one vs (λ v ws. tabled operands x (p + 1) (kind.nearest v) >>= λ to. gives (to, ws))

  -- The cells and the roll once a figure is taken into the cell that the subscript names, rounded or as it is.
  abbrev pub taken_into : Bool → ℕ → V → List V → Contents V → Attempt (List V × Contents V)
  taken_into rounded x i cells roll =
      element x i >>= λ e. handed (first roll)
      >>= λ v. stored cells e (cond rounded (kind.round v) v)
      >>= λ after. gives (after, rest roll)

-- The book once a figure is posted in it behind so many; 35 where it is full.
abbrev pub posted_in : {V : Type 0} → List V → ℕ → V → Attempt (List V)
posted_in book posted v = cond (nat_lt posted (length book)) (gives (slice_set book posted v)) (fails (fault_of BookFull))

-- What lasts from step to step, beside the place: the cells, the book with so many figures posted, and the roll.
pub record Memory (V : Type 0) : Type 0 where
  pub cells : List V
  pub book : List V
  pub posted : ℕ
  pub roll : Contents V

pub record State (V : Type 0) : Type 0 where
  pub place : ℕ
  pub stack : List V
  pub memory : Memory V

-- What comes of an operation, and of a step: it goes to a state; or a fault leaves the memory; or something lacks.
pub data ResultOf (V : Type 0) : Type 0 where
  goes : State V → ResultOf V
  faults : Fault → Memory V → ResultOf V
  misses : Lack → ResultOf V

abbrev pub with_cells : {V : Type 0} → Memory V → List V → Memory V
with_cells m cells = record { cells = cells; book = m.book; posted = m.posted; roll = m.roll }

abbrev pub with_taken : {V : Type 0} → Memory V → List V → Contents V → Memory V
with_taken m cells roll = record { cells = cells; book = m.book; posted = m.posted; roll = roll }

abbrev pub with_posted : {V : Type 0} → Memory V → List V → Memory V
with_posted m book = record { cells = m.cells; book = book; posted = m.posted + 1; roll = m.roll }

module _ {V : Type 0} (kind : Kind V) (c : Code) (s : State V) where
  abbrev at_next : List V → Memory V → State V
  at_next vs m = record { place = s.place + 1; stack = vs; memory = m }

  -- The effect of an operation with operand x.
  abbrev pub effect : Instruction → ℕ → Attempt (State V)
  effect Halt x = lacks operation
  effect Pass x = gives (at_next s.stack s.memory)
  effect (Calculate f) x = calculated kind f x s.stack >>= λ vs. gives (at_next vs s.memory)
  effect (Transfer f) x = transferred kind f x s.stack s.memory.cells >>= λ p. gives (at_next p.0 (with_cells s.memory p.1))
  effect (Go f) x = gone kind c.operands f x s.place s.stack >>= λ p. gives (record { place = p.0; stack = p.1; memory = s.memory })
  effect (Take rounded) x = one s.stack (λ i vs. taken_into kind rounded x i s.memory.cells s.memory.roll >>= λ p. gives (at_next vs (with_taken s.memory p.0 p.1)))
  effect Post x = one s.stack (λ v vs. posted_in s.memory.book s.memory.posted v >>= λ book. gives (at_next vs (with_posted s.memory book)))

  -- An operation that faults moves nothing; the stack has room for D figures.
  abbrev pub settled : Attempt (State V) → ResultOf V
  settled (gives t) = cond (nat_le (length t.stack) c.sizes.depth) (goes t) (misses room)
  settled (fails f) = faults f s.memory
  settled (lacks l) = misses l
