use Rattle.std.proofs.Common.{rules, ◌≡◌, None}
use Rattle.words.specs.declared.token.Keyword.TheVariants.{Comment, Integer, Boolean, Array, Switch}
use Rattle.grammar.specs.Classes.{heads, the_keyword}
use Rattle.parser.specs.Records.{ahead}
use Rattle.parser.proofs.Items.{action_reads}
use Rattle.parser.proofs.table.Parser.item.Goals as goal

pub returns-in_default-clause-reads : goal.returns-in_default-clause-reads
returns-in_default-clause-reads c =
    let r = c.args.self.now in
    let e₁ : heads (the_keyword Comment) (ahead r) ≡ None = search rules in
    let e₂ : heads (the_keyword Integer) (ahead r) ≡ None = search rules in
    let e₃ : heads (the_keyword Boolean) (ahead r) ≡ None = search rules in
    let e₄ : heads (the_keyword Array) (ahead r) ≡ None = search rules in
    let e₅ : heads (the_keyword Switch) (ahead r) ≡ None = search rules in
    action_reads c.args.levels r c.statement.new.self c.statement.result e₁ e₂ e₃ e₄ e₅ c.statement.ensures.reads
