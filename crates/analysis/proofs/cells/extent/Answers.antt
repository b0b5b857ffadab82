use Rattle.std.proofs.Common.{◌≡◌, ◌<◌, ℤ, pos, ◌+ℤ◌, ◌-ℤ◌, arith, w64, to_z, of_z, rules, ◌∙◌}
use Rattle.std.specs.Result.{result_unwrap_or}
use Rattle.std.proofs.lemmas.Int.{ints}
use Rattle.parser.specs.Records.{bound_in}
use Rattle.symbols.specs.Symbols.{bound_value}
use Rattle.analysis.proofs.Extents.{InRange, bound_range, extent_is}
use Rattle.analysis.proofs.cells.extent.Goals as goal

pub returns-clause-count : goal.returns-clause-count
returns-clause-count c =
    let p : c.args.low.size < 4294967296 = search rules in
    let q : c.args.high.size < 4294967296 = search rules in
    let a : ℤ = bound_value (bound_in c.args.low) in
    let b : ℤ = bound_value (bound_in c.args.high) in
    let r : InRange a = bound_range c.args.low.sign c.args.low.size p in
    let s : InRange b = bound_range c.args.high.sign c.args.high.size q in
    let r₁ = r.low in
    let r₂ = r.high in
    let s₁ = s.low in
    let s₂ = s.high in
    let e : c.value.result ≡ b = c.value.ensures in
    let f : c.value-2.result ≡ a = c.value-2.ensures in
    let z : ℤ = to_z w64 (of_z w64 (to_z w64 (of_z w64 (to_z w64 (of_z w64 c.value.result) -ℤ to_z w64 (of_z w64 c.value-2.result))) +ℤ pos 1)) in
    let is : z ≡ b -ℤ a +ℤ pos 1 = omega (arith, ints) in
    let read : c.unwrap_or.result ≡ result_unwrap_or c.try_from.result 0 = search rules in
    read ∙ extent_is a b z is r s c.try_from.result c.try_from.ensures
