-- The statement machine: its state, and the rule of each step. A step gives the next state, or a fault and no state.
-- Everything is said for any kind of figures, for the names of a text and for its statements.
use Rattle.std.specs.Prelude.{ℕ, Bool, true, false, List, [], ◌∷◌, ◌++◌, length, Some, None, Option, nat_lt, slice_set}
use Rattle.words.specs.declared.token.Sign.TheVariants.{Plus}
use Rattle.grammar.specs.declared.operator.Operator.TheVariants.{Additive}
use Rattle.grammar.specs.Tree.{Name, Exp, simple, joined, Variable, whole, indexed, Element, single, progression, Statement}
use Rattle.figures.specs.Kinds.{Outcome, value, refused, Kind}
use Rattle.rolls.specs.Contents.{Contents, Taken, took, refused as roll_refused, refused_at, first as first_figure, rest as rest_of_roll}
use Rattle.meaning.specs.Names.{Names}
use Rattle.meaning.specs.Expressions.{and_then, both, is_true, as_stored, cell_of, subscripted_cell, figure}
use Rattle.meaning.specs.Positions.{Loop, Continuation, turn, Position, end, at_assignment, at_go, at_switch, at_if, at_input, at_print, at_stop, at_element, at_addition, at_test, enter, leave, next_element, next_print, destination, kth}

-- What steps change: the named cells, the roll, and the book. A book has the length that the caller gave it, and holds
-- the figures posted so far.
pub record Memory (V : Type 0) : Type 0 where
  pub cells : List V
  pub roll : Contents V
  pub posted : List V
  pub book_length : ℕ

pub record State (V : Type 0) : Type 0 where
  pub memory : Memory V
  pub position : Position

-- A fault: its number, the place of the statement, and for a damaged roll the roll's own place.
pub record Fault : Type 0 where
  pub number : ℕ
  pub place : ℕ
  pub roll_place : Option ℕ

-- What a step comes to.
pub data Next (V : Type 0) : Type 0 where
  at_end : Next V
  next : State V → Next V
  faults : Fault → Next V

-- The place of a step: the first byte of its statement, after labels.
abbrev pub variable_place : Variable → ℕ
variable_place (whole x) = x.place
variable_place (indexed x e) = x.place

abbrev pub variable_name : Variable → Name
variable_name (whole x) = x
variable_name (indexed x e) = x

module _ {V : Type 0} where
  abbrev pub state : Memory V → Position → State V
  state m p = record { memory = m; position = p }

  abbrev pub on_to : Position → Memory V → Next V
  on_to p m = next (state m p)

  -- A figure into a cell; the roll without its first figure; a figure at the end of the book.
  abbrev pub with_cell : Memory V → ℕ → V → Memory V
  with_cell m c v = record { cells = slice_set m.cells c v; roll = m.roll; posted = m.posted; book_length = m.book_length }

  abbrev pub with_rest_of_roll : Memory V → Memory V
  with_rest_of_roll m = record { cells = m.cells; roll = rest_of_roll m.roll; posted = m.posted; book_length = m.book_length }

  abbrev pub with_posted : Memory V → V → Memory V
  with_posted m v = record { cells = m.cells; roll = m.roll; posted = m.posted ++ (v ∷ []); book_length = m.book_length }

  -- A step at a place is made with what was worked out, or is the fault met on the way.
  abbrev pub worked_out : {A : Type 0} → ℕ → (A → Next V) → Outcome A → Next V
  worked_out p f (value a) = f a
  worked_out p f (refused n) = faults (record { number = n; place = p; roll_place = None })

  abbrev pub received : ℕ → (V → Next V) → Taken V → Next V
  received p f (took v) = f v
  received p f (roll_refused n) = faults (record { number = n; place = p; roll_place = None })
  received p f (refused_at n q) = faults (record { number = n; place = p; roll_place = Some q })

  -- A posted figure; 35 where the book is full.
  abbrev pub post_if : Memory V → V → Bool → Outcome (Memory V)
  post_if m v true = value (with_posted m v)
  post_if m v false = refused 35

  abbrev pub post : Memory V → V → Outcome (Memory V)
  post m v = post_if m v (nat_lt (length m.posted) m.book_length)

module _ {V : Type 0} (kind : Kind V) (names : Names) (text : Option Statement) where
  -- An expression's figure.
  abbrev pub figure_of : Memory V → Exp → Outcome V
  figure_of m e = figure kind names m.cells e

  -- The cell of a place: that of a simple variable, or that of an element, its subscript worked out and tested.
  abbrev pub target : Memory V → Variable → Outcome ℕ
  target m (whole x) = value (cell_of kind names x)
  target m (indexed x e) = and_then (subscripted_cell kind names x) (figure_of m e)

  -- The memory with a figure stored in a cell of the name x, in the way that its declaration asks for.
  abbrev pub store : Memory V → Name → ℕ → V → Outcome (Memory V)
  store m x c v = and_then (λ w. value (with_cell m c w)) (as_stored kind v (names.type x.letters))

  -- place := exp. First the cell, then the right side.
  abbrev pub assign : Memory V → Variable → Exp → Outcome (Memory V)
  assign m v e = both (store m (variable_name v)) (target m v) (figure_of m e)

  -- The first figure of an element.
  abbrev pub from : Element → Exp
  from (single e) = e
  from (progression a s b) = a

  -- V := E, for the control variable V of a for.
  abbrev pub assign_control : Memory V → Loop → Exp → Outcome (Memory V)
  assign_control m loop e = assign m (whole loop.control) e

  -- V + S.
  abbrev pub increased : Loop → Exp → Exp
  increased loop s = joined (Additive Plus) (simple loop.control) s

  -- Is v past the limit b? Going down, where v is less than b; going up, where b is less than v.
  abbrev pub is_past : V → V → Bool → Bool
  is_past v b true = kind.less v b
  is_past v b false = kind.less b v

  -- Does the step S go down? S is worked out anew each time.
  abbrev pub goes_down : Memory V → Exp → Outcome Bool
  goes_down m s = both (λ step zero. value (kind.less step zero)) (figure_of m s) (kind.of 0)

  -- The test of a progression: the step S, its sign, then the limit B. Is V past the limit?
  abbrev pub test_step : Memory V → Loop → Exp → Exp → Outcome Bool
  test_step m loop s b =
      and_then (λ down. both (λ v limit. value (is_past v limit down)) (figure_of m (simple loop.control)) (figure_of m b)) (goes_down m s)

  -- After the test, the body comes again, or the next element.
  abbrev pub after_test : Loop → Element → List Element → Continuation → Bool → Position
  after_test loop e es k true = next_element loop k (leave k) es
  after_test loop e es k false = enter loop.body (turn loop e es k)

  -- if: the governed statement follows, or what stands after it.
  abbrev pub after_if : Statement → Continuation → Bool → Position
  after_if s k true = enter s k
  after_if s k false = leave k

  -- go to s[E]: the k-th label, k nearest to E; without a k-th, what stands after it.
  abbrev pub go_or_leave : Continuation → Option (List ℕ) → Position
  go_or_leave k (Some l) = destination text l k
  go_or_leave k None = leave k

  abbrev pub after_switch : Name → Continuation → V → Position
  after_switch x k v = go_or_leave k (kth (names.labels x.letters) (kind.nearest v))

  -- The rules of the steps.
  abbrev pub step_at : Memory V → Position → Next V
  step_at m end = at_end
  step_at m (at_assignment v e k) = worked_out (variable_place v) (on_to (leave k)) (assign m v e)
  step_at m (at_go p l k) = on_to (destination text l.letters k) m
  step_at m (at_switch p x e k) = worked_out p (λ v. on_to (after_switch x k v) m) (figure_of m e)
  step_at m (at_if p e s k) = worked_out p (λ v. on_to (after_if s k (is_true kind v)) m) (figure_of m e)
  step_at m (at_input p v k) =
      worked_out p (λ c. received p (λ w. worked_out p (on_to (leave k)) (store (with_rest_of_roll m) (variable_name v) c w)) (first_figure m.roll))
      (target m v)
  step_at m (at_print p e es k) = worked_out p (on_to (next_print p k es)) (and_then (post m) (figure_of m e))
  step_at m (at_stop p) = on_to end m
  step_at m (at_element loop e es k) =
      worked_out loop.place (on_to (enter loop.body (turn loop e es k))) (assign_control m loop (from e))
  step_at m (at_addition loop a s b es k) = worked_out loop.place (on_to (at_test loop a s b es k)) (assign_control m loop (increased loop s))
  step_at m (at_test loop a s b es k) =
      worked_out loop.place (λ past. on_to (after_test loop (progression a s b) es k past) m) (test_step m loop s b)

  abbrev pub step : State V → Next V
  step s = step_at s.memory s.position
