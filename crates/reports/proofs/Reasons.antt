-- The reasons past the last one.
use Rattle.std.proofs.Common.{◌≡◌, ℕ, zero, suc, ◌≤◌, sym, refl, arith}
use Rattle.std.proofs.lemmas.List.{get_or_past}
use Rattle.reports.specs.Reasons.{reasons, no_reason, reason_of}

-- No number but 1 to 13 has a reason.
pub other_numbers_have_none : (n : ℕ) → (1 ≤ n → 14 ≤ n) → no_reason ≡ reason_of n
other_numbers_have_none zero h = refl
other_numbers_have_none (suc n) h = let l : 14 ≤ suc n = h (omega arith) in sym (get_or_past reasons (suc n) no_reason l)
