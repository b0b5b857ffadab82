use Rattle.std.proofs.Common.{arith}
use Rattle.code.specs.CheckedCode.{code_in}
use Rattle.code.proofs.Targets.{passed_to_well_formed}
use Rattle.machine.proofs.Standing.{first_stands}
use Rattle.machine.proofs.ready.Ready.start.Goals as goal

pub invariant_of-result : goal.invariant_of-result
invariant_of-result c =
    let code = code_in c.args.self.code in
    record { stands = first_stands code (passed_to_well_formed code c.args.self.code.passes); few = omega arith }
