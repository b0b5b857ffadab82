use Rattle.parser.proofs.Tables.{word_left}
use Rattle.parser.proofs.Moving.{moves_took, moves_left}
use Rattle.parser.proofs.Taking.{missed}
use Rattle.parser.proofs.table.Parser.expect.Goals as goal

pub returns-in-Some : goal.returns-in-Some
returns-in-Some g c =
    let r = c.args.self.now in
    let h = c.in-Some.ensures in
    record { moves = moves_took r c.take.new.self (word_left (g.C.WordClass.class c.args.class) _ r h.is) h.took; took = h }

pub returns-in-None : goal.returns-in-None
returns-in-None g c =
    let r = c.args.self.now in
    let h = c.in-None.ensures in
    record { moves = moves_left r c.take.new.self h.took; took = missed (g.C.WordClass.class c.args.class) r c.take.new.self c.refuse.result h c.refuse.ensures.reason c.refuse.ensures.place }
