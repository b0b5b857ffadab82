-- What a case tells: how a run of its code stands in the end, or why there is no run.
use Rattle.std.specs.Prelude.{◌≡◌, ℕ, cond, List, Ok, Err, Result, nat_lt}
use Rattle.figures.specs.Kinds.{Kind}
use Rattle.code.specs.declared.sizes.Sizes.{Sizes}
use Rattle.code.specs.Answers.{number, told_at}
use Rattle.code.specs.Check.{Verdict, passes, refused}
use Rattle.code.specs.Codes.{Code}
use Rattle.machine.specs.declared.status.Status.{Status}
use Rattle.machine.specs.Histories.{History, Started}
use Rattle.machine.specs.Machine.{Memory}
use Rattle.machine.specs.Runs as calls
use Rattle.machine.specs.RunViews.{report_of}
use Rattle.machine_cases.specs.declared.runner.CaseRefusal.{CaseRefusal}
use Rattle.machine_cases.specs.declared.runner.CaseRefusal.TheVariants.{Check, Run}

-- The sizes under which a case runs code of n operations: eight cells, all of them named, and depth four.
abbrev pub case_sizes : ℕ → Sizes
case_sizes n = record { operations = cond (nat_lt 4096 n) 0 n; named = 8; cells = 8; depth = 4 }

-- What the check said of the code, by what a case tells.
abbrev pub check_said : Result Status CaseRefusal → Verdict
check_said (Ok s) = passes
check_said (Err (Check e)) = refused (number e) (told_at e)
check_said (Err (Run e)) = passes

-- Calls since start, in any order, lead a run of the code to here.
pub record Reached {V : Type 0} (kind : Kind V) (c : Code) (now : calls.Run V) : Type 0 where
  pub first : calls.Run V
  pub answers : List ℕ
  pub started : Started c first
  pub history : History kind first answers now

-- They lead to a run whose report is the status, over this memory.
pub record CameTo {V : Type 0} (kind : Kind V) (c : Code) (s : Status) (m : Memory V) : Type 0 where
  pub now : calls.Run V
  pub reached : Reached kind c now
  pub report : report_of s ≡ calls.report now.progress now.memory.posted
  pub memory : now.memory ≡ m
