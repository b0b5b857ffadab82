use Rattle.std.proofs.Common.{map, length, refl, ap}
use Rattle.std.proofs.lemmas.List.{length-map}
use Rattle.std.proofs.lemmas.Bool.{lt-ltb, le-ltb}
use Rattle.machine.specs.Machine.{gives}
use Rattle.machine.proofs.transfer.post.Goals as goal

pub returns-then-posted-book : goal.returns-then-posted-book
returns-then-posted-book g c =
    let book = map g.F.Figures.means c.args.book.now in
    let full = le-ltb c.args.posted (length book) (simp length-map c.if-posted-book.true) in
    record { work = rw full; kept = refl }

pub returns : goal.returns
returns g c =
    let book = map g.F.Figures.means c.args.book.now in
    let room = lt-ltb c.args.posted (length book) (simp length-map c.if-posted-book.false) in
    record { work = rw room (ap gives c.put.ensures.set); kept = c.if-posted-book.false }
