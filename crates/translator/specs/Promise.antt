-- The promise over whole runs. A text is translated, a run of its code is started over cells, a book and a roll, and then
-- meets calls of any kind in any order, accepted or refused. What the calls tell and leave is what the statement machine says
-- of the text. A reader must believe this file; which texts are accepted (`Texts` of crate symbols); what a text means (`Machine` and `Runs` of crate meaning); and what a call
-- does and a sequence of calls is (`Runs` and `Histories` of crate machine). Nobody has to believe how code is made, or what
-- an operation does. It is told in docs/promise.md.
use Rattle.std.specs.Prelude.{◌≡◌, ℕ, ◌<◌, true, ◌⊎◌, List, length, take, Some, ◌≢◌}
use Rattle.std.specs.List.{slice_get}
use Rattle.grammar.specs.Tree.{Program}
use Rattle.symbols.specs.Symbols.{symbols, named_cells}
use Rattle.symbols.specs.Texts.{accepted, answer}
use Rattle.rolls.specs.Contents.{Contents}
use Rattle.figures.specs.Kinds.{Kind, value}
use Rattle.code.specs.Codes.{Code}
use Rattle.code.specs.Check.{check, passes}
use Rattle.meaning.specs.Names.{names_of}
use Rattle.meaning.specs.Positions.{statements}
use Rattle.meaning.specs.Machine.{State, Fault, Next, at_end, faults, step}
use Rattle.meaning.specs.Runs.{initial, Steps}
use Rattle.machine.specs.Faults as code
use Rattle.machine.specs.Histories.{History, Started, SoundHistories, total}
use Rattle.machine.specs.Runs as calls
use Rattle.machine.specs.Runs.{Advanced, Asked, Report, Run, ended, goes_on, failed, report}
use Rattle.translator.specs.Translation.{translated}

-- What a caller sees of a run: the named cells of the text, which come first; the figures posted, with which the book begins;
-- and what is left of the roll.
abbrev pub named_figures : {V : Type 0} → Program → Run V → List V
named_figures t r = take (named_cells (symbols t)) r.memory.cells

abbrev pub posted_figures : {V : Type 0} → Run V → List V
posted_figures r = take r.memory.posted r.memory.book

abbrev pub roll_left : {V : Type 0} → Run V → Contents V
roll_left r = r.memory.roll

-- What status tells of it: the count, how many figures are posted, and how the run stands.
abbrev pub told : {V : Type 0} → Run V → Report
told r = report r.progress r.memory.posted

-- The fault that a status names, as the statement machine has it: its number, the place in the text, the place in the roll.
abbrev pub text_fault : code.Fault → ℕ → Fault
text_fault f place = record { number = f.number; place = place; roll_place = f.roll_place }

module _ {V : Type 0} (kind : Kind V) (t : Program) where
  -- The statement machine as a run finds it when it starts: the same named cells and roll, and an empty book of the same length.
  abbrev pub text_start : Run V → State V
  text_start first = initial (statements t) (named_figures t first) (roll_left first) (length first.memory.book)

  -- The statement machine makes exactly so many steps from there.
  abbrev pub TextSteps : Run V → ℕ → State V → Type 0
  TextSteps first n s = Steps kind (names_of t) (statements t) (text_start first) n s

  -- What its next step comes to: none at the end, a step, or a fault.
  abbrev pub text_next : State V → Next V
  text_next s = step kind (names_of t) (statements t) s

  -- What is promised of a run now, after calls that answered so.
  pub record Promise (first : Run V) (answers : List ℕ) (now : Run V) : Type 0 where
    -- the count is the sum of the answers to advance
    pub counted : (told now).count ≡ total answers
    -- an advance answers the number of steps asked for, or fewer only where the run then has ended
    pub answers_in_full : (steps room n : ℕ) (after : Run V) → Advanced kind steps room now (value n) after
        → (n ≡ steps) ⊎ ((n < steps) × (ended after.progress ≡ true))
    -- the statement machine makes exactly as many steps as are counted, and then is in this state
    pub state : State V
    pub steps : TextSteps first (told now).count state
    -- the named cells, the posted figures and their number, and the roll are that state's
    pub same_cells : named_figures t now ≡ state.memory.cells
    pub same_posted : posted_figures now ≡ state.memory.posted
    pub posted_told : (told now).posted ≡ length state.memory.posted
    pub same_roll : roll_left now ≡ state.memory.roll
    -- an ask that is not refused answers with the figure that the state has in that cell
    pub asks_alike : (cell : ℕ) (v : V) → Asked now.progress.code now.memory.cells cell (value v) → slice_get state.memory.cells cell ≡ Some v
    -- status says end where the statement machine is at its end, and only there
    pub end_told : text_next state ≡ at_end → (told now).standing ≡ calls.at_end
    pub told_end : (told now).standing ≡ calls.at_end → text_next state ≡ at_end
    -- status names a fault only if the statement machine's next step has that fault
    pub told_fault : (f : code.Fault) (place : ℕ) → (told now).standing ≡ failed f place → text_next state ≡ faults (text_fault f place)
    -- status says that the run goes on only where the statement machine is not at its end
    pub told_going : (told now).standing ≡ goes_on → text_next state ≢ at_end

  -- The promise for a tree: over whatever cells, as many as the code has, whatever book and roll, and whatever calls.
  abbrev pub KeepsPromise : Type 0
  KeepsPromise =
      (first now : Run V) (answers : List ℕ) → Started (translated t) first → length first.memory.cells ≡ (translated t).sizes.cells
      → History kind first answers now → Promise first answers now

-- The whole promise for a kind of figures.
pub record PromiseLaw {V : Type 0} (kind : Kind V) : Type 0 where
  -- the code of every accepted text passes the check
  pub code_passes : (text : List ℕ) (t : Program) → answer text ≡ accepted t → check (translated t) ≡ passes
  -- and its runs keep the promise
  pub texts : (text : List ℕ) (t : Program) → answer text ≡ accepted t → KeepsPromise kind t
  -- checked code of any origin, in any run and call, never lacks a figure on the stack, never passes its stated depth, never
  -- meets a missing cell or operation
  pub any_code : (c : Code) → check c ≡ passes → SoundHistories kind c
