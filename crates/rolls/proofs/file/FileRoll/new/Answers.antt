use Rattle.rolls.specs.Lines.{signed_line}
use Rattle.rolls.proofs.WholeLines.{figure_no_end, reading}
use Rattle.rolls.proofs.Written.{reads_back}
use Rattle.rolls.proofs.file.FileRoll.new.Goals as goal

pub returns-clause-read_back : goal.returns-clause-read_back
returns-clause-read_back g c =
    let kind = g.F.LineFigures in
    let laws = g.met.F.LineFigures in
    reads_back (signed_line kind.unsigned) (figure_no_end kind.unsigned laws.one_line) kind.written laws.reads_written c.args.bytes.now

pub returns-clause-lines : goal.returns-clause-lines
returns-clause-lines g c =
    let kind = g.F.LineFigures in
    let laws = g.met.F.LineFigures in
    reading (signed_line kind.unsigned) (figure_no_end kind.unsigned laws.one_line) c.args.bytes.now
