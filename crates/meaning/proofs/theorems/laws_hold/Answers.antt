use Rattle.meaning.proofs.theorems.laws_hold.Goals as goal
use Rattle.meaning.proofs.Running.{determined, faults_stay}
use Rattle.meaning.proofs.Jumping.{switch_law, jump_law}
use Rattle.meaning.proofs.Changing.{book_law, roll_law}
use Rattle.meaning.proofs.Keeping.{cells_law}

pub returns : goal.returns
returns g c = record {
  determined = determined g.F.Figures.kind;
  faults_stay = faults_stay g.F.Figures.kind;
  book = book_law g.F.Figures.kind;
  roll = roll_law g.F.Figures.kind;
  switch = switch_law g.F.Figures.kind;
  jump = jump_law g.F.Figures.kind;
  cells = cells_law g.F.Figures.kind;
}
