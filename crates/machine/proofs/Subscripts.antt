-- Subscripts outside the bounds of an array fault.
use Rattle.std.proofs.Common.{◌≡◌, ◌+◌, ltb, ℤ, pos, negsuc, ◌≤ℤ◌, ◌<ℤ◌, refl, arith, ltb→lt, leb→le}
use Rattle.std.proofs.lemmas.Bool.{cond-false, le-ltb}
use Rattle.code.specs.declared.descriptor.Descriptor.{Descriptor}
use Rattle.machine.specs.Faults.{fault_of}
use Rattle.machine.specs.Machine.{element_at, fails, gives}
use Rattle.machine.specs.declared.fault.RunFault.TheVariants.{Subscript}

-- Below the low bound.
pub below_fails : (d : Descriptor) (z : ℤ) → z <ℤ pos 0 → element_at d z ≡ fails (fault_of Subscript)
below_fails d (pos k) below = let h = ltb→lt k 0 below.lt in absurd (omega arith)
below_fails d (negsuc k) below = refl

-- Past the last one.
pub above_fails : (d : Descriptor) (z : ℤ) → pos d.count ≤ℤ z → element_at d z ≡ fails (fault_of Subscript)
above_fails d (pos k) above = cond-false (ltb k d.count) (gives (d.first + k)) (fails (fault_of Subscript)) (le-ltb k d.count (leb→le d.count k above.le))
above_fails d (negsuc k) above = absurd above.le
