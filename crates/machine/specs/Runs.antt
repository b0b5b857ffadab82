-- A run of code: its steps one after another, and what the calls on it answer and leave. A reader must believe this file.
use Rattle.std.specs.Prelude.{◌≡◌, ℕ, zero, suc, ◌+◌, ◌-◌, Bool, cond, ◌||◌, List, [], length, replicate, is_some, Some, None, Option, ◌==◌, nat_le, nat_lt, slice_index, slice_set}
use Rattle.std.specs.List.{slice_get}
use Rattle.figures.specs.Kinds.{Kind, Outcome, value, refused}
use Rattle.code.specs.Codes.{Code, operation_at}
use Rattle.machine.specs.Faults.{Fault}
use Rattle.machine.specs.Machine.{Memory, State, ResultOf, goes, faults, misses}
use Rattle.machine.specs.Steps.{halts, step}

-- How far a run of code has come: the place where its next step begins, the steps made, and the fault that ended it.
pub record Progress : Type 0 where
  pub code : Code
  pub place : ℕ
  pub count : ℕ
  pub fault : Option Fault

-- A run between two steps: its progress, and the arrays and the roll beside it.
pub record Run (V : Type 0) : Type 0 where
  pub progress : Progress
  pub memory : Memory V

-- A run has ended at a HALT or by a fault.
abbrev pub at_halt : Progress → Bool
at_halt p = halts (operation_at p.code.operations p.place)

abbrev pub ended : Progress → Bool
ended p = is_some p.fault || at_halt p

-- A step that is made is counted; one that faults is not, and the run stays where it began.
abbrev pub made : Progress → ℕ → Progress
made p to = record { code = p.code; place = to; count = p.count + 1; fault = None }

abbrev pub broken : Progress → Fault → Progress
broken p f = record { code = p.code; place = p.place; count = p.count; fault = Some f }

abbrev pub came_to : {V : Type 0} → Run V → ResultOf V → Run V
came_to r (goes s) = record { progress = made r.progress s.place; memory = s.memory }
came_to r (faults f m) = record { progress = broken r.progress f; memory = m }
came_to r (misses l) = r

abbrev pub at_step : {V : Type 0} → Run V → State V
at_step r = record { place = r.progress.place; stack = []; memory = r.memory }

module _ {V : Type 0} (kind : Kind V) where
  -- The next step, if there is one.
  unfoldable pub stepped : Run V → Run V
  stepped r = cond (ended r.progress) r (came_to r (step kind r.progress.code (at_step r)))

  -- So many steps, fewer where the run ends.
  unfoldable pub run : ℕ → Run V → Run V
  run zero r = r
  run (suc n) r = run n (stepped r)

-- The number that refuses an advance by so many steps with room for so many figures on the stack: the least that holds.
abbrev pub advance_refusal : {V : Type 0} → ℕ → ℕ → Run V → Option ℕ
advance_refusal steps room r =
    cond (length r.memory.cells == r.progress.code.sizes.cells)
    (cond (nat_le r.progress.code.sizes.depth room)
    (cond (ended r.progress) (Some 44)
    (cond (nat_le (r.progress.count + steps) 4000000000)
    (cond (nat_le r.memory.posted (length r.memory.book)) None (Some 46))
    (Some 45)))
    (Some 42))
    (Some 41)

abbrev pub advance_answer : {V : Type 0} → Run V → Run V → Option ℕ → Outcome ℕ
advance_answer before after (Some n) = refused n
advance_answer before after None = value (after.progress.count - before.progress.count)

abbrev pub advance_after : {V : Type 0} → Run V → Run V → Option ℕ → Run V
advance_after before after (Some n) = before
advance_after before after None = after

-- What an advance answers, the steps made or a refusal, and what it leaves: a refused call changes nothing.
pub record Advanced {V : Type 0} (kind : Kind V) (steps room : ℕ) (before : Run V) (answer : Outcome ℕ) (after : Run V) : Type 0 where
  pub answered : answer ≡ advance_answer before (run kind steps before) (advance_refusal steps room before)
  pub leaves : after ≡ advance_after before (run kind steps before) (advance_refusal steps room before)

-- Prepare: every cell holds of(0), and the ready run is tied to the code.
abbrev pub cells_refusal : {V : Type 0} → Code → List V → Option ℕ
cells_refusal c cells = cond (length cells == c.sizes.cells) None (Some 41)

abbrev pub filled : {V : Type 0} → ℕ → List V → Outcome V → List V
filled n before (value v) = replicate n v
filled n before (refused k) = before

abbrev pub unless : {X : Type 0} → X → X → Option ℕ → X
unless before after (Some n) = before
unless before after None = after

abbrev pub answer_unless : {X : Type 0} → X → Option ℕ → Outcome X
answer_unless x (Some n) = refused n
answer_unless x None = value x

pub record Prepared {V : Type 0} (kind : Kind V) (c place : Code) (cells : List V) (answer : Outcome (Unit {0})) (place' : Code) (cells' : List V) : Type 0 where
  pub answered : answer ≡ answer_unless tt (cells_refusal c cells)
  pub tied : place' ≡ unless place c (cells_refusal c cells)
  pub fills : cells' ≡ unless cells (filled (length cells) cells (kind.of 0)) (cells_refusal c cells)

-- Enter and ask: named cells are the first v.
abbrev pub named_refusal : {V : Type 0} → Code → List V → ℕ → Option ℕ
named_refusal c cells i =
    cond (length cells == c.sizes.cells) (cond (nat_lt i c.sizes.named) None (Some 43)) (Some 41)

pub record Entered {V : Type 0} (c : Code) (cells : List V) (i : ℕ) (v : V) (answer : Outcome (Unit {0})) (cells' : List V) : Type 0 where
  pub answered : answer ≡ answer_unless tt (named_refusal c cells i)
  pub enters : cells' ≡ unless cells (slice_set cells i v) (named_refusal c cells i)

abbrev pub asked : {V : Type 0} → Option V → Option ℕ → Outcome V
asked held (Some n) = refused n
asked None None = refused 43
asked (Some v) None = value v

pub record Asked {V : Type 0} (c : Code) (cells : List V) (i : ℕ) (answer : Outcome V) : Type 0 where
  pub answered : answer ≡ asked (slice_get cells i) (named_refusal c cells i)

-- Start: a run at the first operation of its code, with nothing made or posted.
abbrev pub first_progress : Code → Progress
first_progress c = record { code = c; place = 0; count = 0; fault = None }

-- Status: going, at its end, or a fault in the step of the statement at a text place.
pub data HowItStands : Type 0 where
  goes_on : HowItStands
  at_end : HowItStands
  failed : Fault → ℕ → HowItStands

pub record Report : Type 0 where
  pub count : ℕ
  pub posted : ℕ
  pub standing : HowItStands

abbrev pub standing : Progress → Option Fault → HowItStands
standing p None = cond (at_halt p) at_end goes_on
standing p (Some f) = failed f (slice_index p.code.operands p.place)

abbrev pub report : Progress → ℕ → Report
report p posted = record { count = p.count; posted = posted; standing = standing p p.fault }
