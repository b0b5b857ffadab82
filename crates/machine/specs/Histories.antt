-- Every sequence of calls on a run since it was started. A history says only that each call found what the one before it
-- left; each call is known by the very statement that its contract makes. `SoundHistories` is what is promised of them for
-- checked code. The steps asked for, the room on the stack and the cell asked for are each call's own.
use Rattle.std.specs.Prelude.{◌≡◌, ℕ, suc, ◌+◌, ◌<◌, true, false, cond, ◌⊎◌, List, [], ◌∷◌, length, is_some, ◌≢◌}
use Rattle.figures.specs.Kinds.{Kind, Outcome, value, refused}
use Rattle.code.specs.Codes.{Code}
use Rattle.machine.specs.Machine.{Lack, misses}
use Rattle.machine.specs.Runs.{Advanced, Asked, Progress, Report, Run, at_step, ended, first_progress, report, run}
use Rattle.machine.specs.Steps.{step}

-- The run as start leaves it, with the cells, the book and the roll as it finds them.
pub record Started {V : Type 0} (c : Code) (first : Run V) : Type 0 where
  pub progress : first.progress ≡ first_progress c
  pub posted : first.memory.posted ≡ 0

-- The steps that an answer tells, and their sum.
abbrev pub steps_in : Outcome ℕ → ℕ
steps_in (value n) = n
steps_in (refused k) = 0

abbrev pub total : List ℕ → ℕ
total [] = 0
total (n ∷ ns) = n + total ns

pub data History {V : Type 0} (kind : Kind V) (first : Run V) : List ℕ → Run V → Type 0 where
  started : History kind first [] first
  advanced : {answers : List ℕ} {before after : Run V} {steps room : ℕ} {answer : Outcome ℕ} → History kind first answers before → Advanced kind steps room before answer after → History kind first (steps_in answer ∷ answers) after
  asked : {answers : List ℕ} {now : Run V} {cell : ℕ} {answer : Outcome V} → History kind first answers now → Asked now.progress.code now.memory.cells cell answer → History kind first answers now
  told : {answers : List ℕ} {now : Run V} {r : Report} → History kind first answers now → r ≡ report now.progress now.memory.posted → History kind first answers now

-- The steps tried: those made, which are counted, and after them the one that faulted, if one did.
abbrev pub tried : Progress → ℕ
tried p = cond (is_some p.fault) (suc p.count) p.count

-- What holds of a run after any such calls, for code c.
pub record Sound {V : Type 0} (kind : Kind V) (c : Code) (first : Run V) (answers : List ℕ) (now : Run V) : Type 0 where
  -- the run is of this code, and its count is the sum of the answers
  pub same_code : now.progress.code ≡ c
  pub counted : now.progress.count ≡ total answers
  -- the calls made the steps of one run, one after another
  pub one_run : (n : ℕ) × (now ≡ run kind n first)
  -- and they are as many as are counted, and then the one that faulted, if one did
  pub exact_run : now ≡ run kind (tried now.progress) first
  -- an answer is what was asked, or fewer only where the run then has ended
  pub answers_in_full : (steps room n : ℕ) (after : Run V) → Advanced kind steps room now (value n) after → (n ≡ steps) ⊎ ((n < steps) × (ended after.progress ≡ true))
  -- the next step lacks no figure, passes the stated depth nowhere, meets no cell from m on and no operation from n on, and ends
  pub lacks_nothing : length now.memory.cells ≡ c.sizes.cells → ended now.progress ≡ false → (l : Lack) → step kind c (at_step now) ≢ misses l

abbrev pub SoundHistories : {V : Type 0} → Kind V → Code → Type 0
SoundHistories {V} kind c =
    (first now : Run V) (answers : List ℕ) → Started c first → History kind first answers now → Sound kind c first answers now
