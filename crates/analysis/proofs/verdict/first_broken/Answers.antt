use Rattle.symbols.specs.declared.refusal.NameRefusal.TheVariants.{SecondDefinition, MisusedName, WrongType, JumpIntoFor, WrongBounds, TooManyCells}
use Rattle.symbols.specs.Rules.{offences, verdict}
use Rattle.analysis.proofs.FirstBroken.{one_tells, both_tell, all_told}
use Rattle.analysis.proofs.verdict.first_broken.Goals as goal

pub returns : goal.returns
unfolding verdict
returns c = λ t of.
    let o = c.args.o in
    all_told c.or-5.result _
    (both_tell c.or-4.result c.broken-6.result _ _ _ c.or-5.ensures
    (both_tell c.or-3.result c.broken-5.result _ _ _ c.or-4.ensures
    (both_tell c.or-2.result c.broken-4.result _ _ _ c.or-3.ensures
    (both_tell c.or.result c.broken-3.result _ _ _ c.or-2.ensures
    (both_tell c.broken.result c.broken-2.result _ _ _ c.or.ensures
    (one_tells SecondDefinition (offences t SecondDefinition) o.second_definition of.second_definition c.broken.result c.broken.ensures)
    (one_tells MisusedName (offences t MisusedName) o.misused_name of.misused_name c.broken-2.result c.broken-2.ensures))
    (one_tells WrongType (offences t WrongType) o.wrong_type of.wrong_type c.broken-3.result c.broken-3.ensures))
    (one_tells JumpIntoFor (offences t JumpIntoFor) o.jump_into_for of.jump_into_for c.broken-4.result c.broken-4.ensures))
    (one_tells WrongBounds (offences t WrongBounds) o.wrong_bounds of.wrong_bounds c.broken-5.result c.broken-5.ensures))
    (one_tells TooManyCells (offences t TooManyCells) o.too_many_cells of.too_many_cells c.broken-6.result c.broken-6.ensures))
