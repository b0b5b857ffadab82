use Rattle.std.proofs.Common.{length, ap, arith}
use Rattle.std.proofs.lemmas.Result.{err_from_is_err_and}
use Rattle.words.specs.declared.token.Token.TheVariants.{Name}
use Rattle.parser.specs.declared.node.Node.TheVariants.{Empty}
use Rattle.grammar.specs.Parser.{nothing}
use Rattle.parser.proofs.Tables.{ahead_cons, ahead_nil}
use Rattle.parser.proofs.Items.{program_read, program_refused}
use Rattle.parser.proofs.table.Parser.program.Goals as goal

pub returns-in_err-root : goal.returns-in_err-root
returns-in_err-root c =
    let p = err_from_is_err_and c.from_residual.result c.from_residual.ensures.1 in
    record { moves = c.row.ensures.moves; reads = rw (p.1, p.2) (c.in_err-root.ensures.reads c.args.levels 0 nothing (omega arith)) }

pub returns-then-self : goal.returns-then-self
returns-then-self c =
    let s = c.row.new.self in
    let more = ap length (ahead_cons s.text.now s.count s.at s.table.now (record { word = record { token = Name 0; place = 0 }; symbol = 0; node = Empty }) (omega arith) s.room) in
    record {
      moves = c.row.ensures.moves;
      reads = program_refused c.in_ok-root.ensures.reads c.refuse.result (omega (arith, more)) c.refuse.ensures.reason c.refuse.ensures.place;
    }

pub returns : goal.returns
returns c =
    let s = c.row.new.self in
    record {
      moves = c.row.ensures.moves;
      reads = program_read c.in_ok-root.ensures.reads (ahead_nil s.text.now s.count s.at s.table.now (omega arith));
    }
