-- Runs of the statement machine: a number of steps made one after the other, and what a run comes to.
use Rattle.std.specs.Prelude.{◌≡◌, ℕ, zero, suc, List, [], Option}
use Rattle.grammar.specs.Tree.{Statement}
use Rattle.figures.specs.Kinds.{Kind}
use Rattle.rolls.specs.Contents.{Contents}
use Rattle.meaning.specs.Names.{Names}
use Rattle.meaning.specs.Positions.{beginning}
use Rattle.meaning.specs.Machine.{State, Fault, Next, at_end, next, faults, state, step}

-- The first state: cells and roll as they are found, and an empty book of the caller's length.
abbrev pub initial : {V : Type 0} → Option Statement → List V → Contents V → ℕ → State V
initial text cells roll length = state (record { cells = cells; roll = roll; posted = []; book_length = length }) (beginning text)

-- How a run can be over: at the end, or by a fault.
pub data Final : Type 0 where
  ended : Final
  faulted : Fault → Final

abbrev pub comes_to : {V : Type 0} → Final → Next V
comes_to ended = at_end
comes_to (faulted f) = faults f

-- What so many steps at most come to: the steps made, the state after them, and whether the run goes on or is over.
pub data Status : Type 0 where
  going : Status
  over : Final → Status

pub record Progress (V : Type 0) : Type 0 where
  pub made : ℕ
  pub reached : State V
  pub status : Status

module _ {V : Type 0} (kind : Kind V) (names : Names) (text : Option Statement) where
  -- n steps lead from one state to another.
  pub data Steps (start : State V) : ℕ → State V → Type 0 where
    no_step : Steps start 0 start
    and_step : {n : ℕ} {s t : State V} → Steps start n s → step kind names text s ≡ next t → Steps start (suc n) t

  -- A run from a state is over after n steps: there, the next step is none, or faults.
  pub record Finishes (start : State V) (n : ℕ) (last : State V) (how : Final) : Type 0 where
    pub steps : Steps start n last
    pub over_there : step kind names text last ≡ comes_to how

  abbrev pub one_step_more : Progress V → Progress V
  one_step_more p = record { made = suc p.made; reached = p.reached; status = p.status }

  abbrev pub after_step : State V → (State V → Progress V) → Next V → Progress V
  after_step s on at_end = record { made = 0; reached = s; status = over ended }
  after_step s on (faults f) = record { made = 0; reached = s; status = over (faulted f) }
  after_step s on (next t) = one_step_more (on t)

  -- At most so many steps. A step is counted if it is made.
  abbrev pub advance : ℕ → State V → Progress V
  advance zero s = record { made = 0; reached = s; status = going }
  advance (suc n) s = after_step s (λ t. advance n t) (step kind names text s)
