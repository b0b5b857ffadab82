use Rattle.std.proofs.Common.{Bool, not, ◌&&◌, sym, ap, ◌∙◌}
use Rattle.symbols.specs.Symbols.{kind_in}
use Rattle.symbols.specs.Jumps.{is_label, is_among}
use Rattle.analysis.specs.declared.name_use.NameUse.TheVariants.{AsTarget}
use Rattle.analysis.proofs.NameLines.{numbered_by}
use Rattle.analysis.proofs.Misuses.{suits_alike}
use Rattle.analysis.proofs.JumpOffences.{both_agree}
use Rattle.analysis.proofs.tables.Tables.does_lead_inside.Goals as goal

pub returns-then-label : goal.returns-then-label
returns-then-label c = λ v ss labels x h sees n.
    ap (λ (t : Bool). t && not c.contains-visible.result) (sym c.if-label.true)
    ∙ both_agree {c = is_label (kind_in ss x.letters)} {d = is_among labels x.letters}
    (c.does_suit-label.ensures ∙ suits_alike (c.kind_of.ensures v ss x h n) AsTarget)
    (c.contains-visible.ensures ∙ sees x.letters c.number_of.result (numbered_by v c.args.self.now.records.now c.args.self.now.names.now ss c.args.w x h n c.number_of.result c.number_of.ensures))

pub returns-else-label : goal.returns-else-label
returns-else-label c = λ v ss labels x h sees n.
    c.if-label.false
    ∙ (ap (λ (t : Bool). t && not c.contains-visible.result) (sym c.if-label.false)
    ∙ both_agree {c = is_label (kind_in ss x.letters)} {d = is_among labels x.letters}
    (c.does_suit-label.ensures ∙ suits_alike (c.kind_of.ensures v ss x h n) AsTarget)
    (c.contains-visible.ensures ∙ sees x.letters c.number_of.result (numbered_by v c.args.self.now.records.now c.args.self.now.names.now ss c.args.w x h n c.number_of.result c.number_of.ensures)))
