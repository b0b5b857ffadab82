use Rattle.std.proofs.Common.{refl, arith}
use Rattle.code.specs.CheckedCode.{code_in}
use Rattle.code.specs.declared.operations.Operation.TheVariants.{Mark}
use Rattle.machine.specs.declared.instruction.Instruction.TheVariants.{Pass}
use Rattle.code.proofs.Targets.{passed_to_well_formed}
use Rattle.machine.proofs.Facts.{facts_at, follows_on}
use Rattle.machine.proofs.state.State.step.Goals as goal

pub run_to_end-requires : goal.run_to_end-requires
run_to_end-requires g c =
    let code = code_in c.args.code.now in
    let w = passed_to_well_formed code c.args.code.now.passes in
    let s = c.args.self.now in
    (follows_on code w c.requires.fits (facts_at code w s.place Mark Pass _ c.requires.mark refl refl) c.args.stack.now.depth (omega arith)).fits
