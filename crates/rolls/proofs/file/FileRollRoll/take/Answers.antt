use Rattle.std.proofs.Common.{◌≡◌, ◌<◌, [], length, sym, ap, ◌∙◌, rules, arith, w32, to_z, of_z}
use Rattle.std.proofs.lemmas.Int.{ints}
use Rattle.std.proofs.lemmas.Result.{err_from_is_err_and}
use Rattle.rolls.specs.Contents.{damaged_at, first, made_of, rest, took}
use Rattle.rolls.specs.declared.roll.Ending.TheVariants.{Damaged}
use Rattle.rolls.specs.Endings.{stopped}
use Rattle.rolls.specs.Lines.{read_as, signed_line}
use Rattle.rolls.proofs.LineEnds.{damage_read, line_read}
use Rattle.rolls.proofs.WholeLines.{figure_no_end}
use Rattle.rolls.proofs.file.FileRollRoll.take.Given.{Over}
use Rattle.rolls.proofs.file.FileRollRoll.take.Goals as goal

-- A line without a figure damages the roll.
damage : (g : Over) (c : goal.After-from_residual g) → read_as (signed_line g.F.LineFigures.unsigned) c.args.self.now.at c.args.self.now.rest.now ≡ record { figures = []; ending = damaged_at c.args.self.now.at }
damage g c =
    let some : 0 < length c.args.self.now.rest.now = search rules in
    let none = rw c.in_err-number.ensures.ok_part at c.read_line.ensures in
    damage_read (signed_line g.F.LineFigures.unsigned) c.args.self.now.at c.args.self.now.rest.now some none

pub returns-in_err-number-clause-answer : goal.returns-in_err-number-clause-answer
returns-in_err-number-clause-answer g c =
    let p = err_from_is_err_and c.from_residual.result c.from_residual.ensures.1 in
    let told = rw c.in_err-number.ensures.ok_part at c.in_err-number.ensures.value in
    let is : c.in_err-number.field-0.0 ≡ Damaged c.args.self.now.at = cc in
    rw (p.1, p.2) (ap (stopped {F = g.row.F.Denot}) is ∙ sym (ap (λ k. first (made_of g.F.LineFigures.made k)) (damage g c)))

pub returns-in_err-number-clause-left : goal.returns-in_err-number-clause-left
returns-in_err-number-clause-left g c =
    ap (made_of g.F.LineFigures.made) (damage g c) ∙ sym (ap (λ k. rest (made_of g.F.LineFigures.made k)) (damage g c))

pub returns-clause-answer : goal.returns-clause-answer
returns-clause-answer g c =
    let kind = g.F.LineFigures in
    let number = c.in_ok-number.number in
    let line = rw c.in_ok-number.ensures.ok_part at c.read_line.ensures in
    let read = line_read (signed_line kind.unsigned) c.args.self.now.at c.args.self.now.rest.now (figure_no_end kind.unsigned g.met.F.LineFigures.one_line) number c.in_ok-number.rest.now line in
    let stored : to_z w32 (of_z w32 number) ≡ number = omega (arith, ints) in
    ap took (c.of_number.ensures ∙ ap kind.made stored) ∙ sym (ap (λ k. first (made_of kind.made k)) read)

pub returns-clause-left : goal.returns-clause-left
returns-clause-left g c =
    let kind = g.F.LineFigures in
    let number = c.in_ok-number.number in
    let line = rw c.in_ok-number.ensures.ok_part at c.read_line.ensures in
    let read = line_read (signed_line kind.unsigned) c.args.self.now.at c.args.self.now.rest.now (figure_no_end kind.unsigned g.met.F.LineFigures.one_line) number c.in_ok-number.rest.now line in
    sym (ap (λ k. rest (made_of kind.made k)) read)
