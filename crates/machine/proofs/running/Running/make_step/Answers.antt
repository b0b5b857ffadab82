use Rattle.std.proofs.Common.{◌+◌, is_some, Option, sym, ap, ◌∙◌, rules}
use Rattle.std.proofs.lemmas.Bool.{or_parts}
use Rattle.std.specs.Option.{option_map}
use Rattle.code.specs.CheckedCode.{code_in}
use Rattle.machine.specs.Faults.{Fault, fault_of}
use Rattle.machine.specs.Runs.{at_halt}
use Rattle.machine.specs.RunViews.{progress_of, run_of}
use Rattle.machine.specs.Views.{memory}
use Rattle.machine.proofs.Advancing.{none_mapped, same_run, stepped_to}
use Rattle.code.proofs.Targets.{passed_to_well_formed}
use Rattle.machine.proofs.Standing.{stands_to_fits, stands_to_mark}
use Rattle.machine.proofs.running.Running.make_step.Goals as goal

pub step-requires : goal.step-requires
step-requires g c =
    let r = c.args.self.now in
    let code = code_in r.code in
    let w = passed_to_well_formed code r.code.passes in
    let parts = or_parts (is_some (option_map fault_of r.fault)) (at_halt (progress_of r)) c.requires.going in
    record {
      fits = stands_to_fits code r.place w _ _ r.stands c.requires.wide c.requires.tall;
      mark = stands_to_mark code r.place r.stands parts.1;
    }

pub returns-in-Ok-clause-run : goal.returns-in-Ok-clause-run
returns-in-Ok-clause-run g c =
    let kind = g.R.Figure.Figures.kind in
    let means = g.R.Figure.Figures.means in
    let r = c.args.self.now in
    let before = run_of means r c.args.cells.now c.args.book.now (g.R.Roll.holds c.args.roll.now) in
    let n = c.step.new.self in
    let parts = or_parts (is_some (option_map fault_of r.fault)) (at_halt (progress_of r)) c.requires.going in
    let none = none_mapped fault_of r.fault parts.0 in
    let e = c.in-Ok.ensures in
    same_run means g.R.Roll.holds n.cells.now n.book.now n.roll.now (search rules) (search rules) (search rules) (
    ap (λ (f : Option Fault). record { progress = record { code = code_in r.code; place = n.place; count = r.count + 1; fault = f }; memory = memory means n.posted n.cells.now n.book.now (g.R.Roll.holds n.roll.now) }) none
    ∙ sym (stepped_to kind before _ c.requires.going e.done))

pub returns-in-Err-clause-run : goal.returns-in-Err-clause-run
returns-in-Err-clause-run g c =
    let kind = g.R.Figure.Figures.kind in
    let means = g.R.Figure.Figures.means in
    let r = c.args.self.now in
    let before = run_of means r c.args.cells.now c.args.book.now (g.R.Roll.holds c.args.roll.now) in
    let n = c.step.new.self in
    let e = c.in-Err.ensures in
    same_run means g.R.Roll.holds n.cells.now n.book.now n.roll.now (search rules) (search rules) (search rules) (sym (stepped_to kind before _ c.requires.going e.done))
