use Rattle.std.proofs.Common.{pos, ◌≤ℤ◌, ◌<ℤ◌, sym, ap, arith}
use Rattle.std.proofs.lemmas.Int.{ints}
use Rattle.code.specs.Descriptors.{unpacked}
use Rattle.machine.specs.Machine.{from_low}
use Rattle.machine.proofs.Subscripts.{above_fails, below_fails}
use Rattle.machine.proofs.calculate.element.Goals as goal
use Rattle.machine.proofs.calculate.element.Goals.{then-offset-lt0-via-then-offset-lt0, then-offset-lt0-via-else-offset-lt0+then-offset-array}

pub returns-then-offset-lt0 : goal.returns-then-offset-lt0
returns-then-offset-lt0 g c =
    let d = unpacked c.args.operand in
    let same = c.from-array.ensures.value in
    let biased = ap (λ a. a.biased_low) same in
    let count = ap (λ a. a.count) same in
    let number = c.nearest.ensures.value in
    let z = from_low d (g.F.Figures.kind.nearest (g.F.Figures.means c.args.subscript)) in
    elim c.then-offset-lt0.branch [
      | then-offset-lt0-via-then-offset-lt0 w ↦
          record { cell = sym (below_fails d z (let h : z <ℤ pos 0 = omega (arith, ints, w.if-offset-lt0.true, number, biased) in h)); below = tt }
      | then-offset-lt0-via-else-offset-lt0+then-offset-array w ↦
          record { cell = sym (above_fails d z (let h : pos d.count ≤ℤ z = omega (arith, ints, w.if-offset-array.true, number, biased, count) in h)); below = tt }
    ]
