-- What is kept by one function after another.
use Rattle.std.proofs.Common.{◌∙◌}
use Rattle.machine.specs.declared.state.State.{State}
use Rattle.machine.specs.Loans.{SameLoans}

-- What one function keeps and then the next, both keep.
pub same_trans : {R F : Type 0} {r s t : State R F} → SameLoans r s → SameLoans s t → SameLoans r t
same_trans a b = record { cells = b.cells ∙ a.cells; book = b.book ∙ a.book; roll = b.roll ∙ a.roll }
