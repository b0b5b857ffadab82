-- What a run's value is to the definition of runs.
use Rattle.std.specs.Prelude.{List}
use Rattle.std.specs.Option.{option_map}
use Rattle.rolls.specs.Contents.{Contents}
use Rattle.code.specs.CheckedCode.{code_in}
use Rattle.code.specs.Codes.{Code}
use Rattle.machine.specs.declared.ready.Ready.{Ready}
use Rattle.machine.specs.declared.running.Running.{Running}
use Rattle.machine.specs.declared.status.Standing.{Standing}
use Rattle.machine.specs.declared.status.Standing.TheVariants.{Going, End, Fault}
use Rattle.machine.specs.declared.status.Status.{Status}
use Rattle.machine.specs.Faults.{fault_of}
use Rattle.machine.specs.Runs.{HowItStands, goes_on, at_end, failed, Progress, Report, Run}
use Rattle.machine.specs.Views.{memory}

abbrev pub ready_code : Ready → Code
ready_code r = code_in r.code

abbrev pub progress_of : Running → Progress
progress_of r = record { code = code_in r.code; place = r.place; count = r.count; fault = option_map fault_of r.fault }

-- The run with the caller's cells, book and roll.
abbrev pub run_of : {F V : Type 0} → (F → V) → Running → List F → List F → Contents F → Run V
run_of means r cells book roll = record { progress = progress_of r; memory = memory means r.posted cells book roll }

abbrev pub standing_of : Standing → HowItStands
standing_of Going = goes_on
standing_of End = at_end
standing_of (Fault f place) = failed (fault_of f) place

abbrev pub report_of : Status → Report
report_of s = record { count = s.count; posted = s.posted; standing = standing_of s.standing }
