use Rattle.symbols.specs.Jumps.{leads_inside}
use Rattle.analysis.proofs.JumpOffences.{switch_held, no_switch}
use Rattle.analysis.proofs.tables.Tables.does_switch_lead_inside.Goals as goal

pub returns-in-Switch : goal.returns-in-Switch
returns-in-Switch c = λ v ss labels x h sees n.
    switch_held (c.in-Switch.ensures v ss x h n) (leads_inside ss labels) c.does_any_lead_inside.result
    (λ xs k. c.does_any_lead_inside.ensures v ss labels xs h sees k)

pub returns-in_default : goal.returns-in_default
returns-in_default c = λ v ss labels x h sees n. no_switch (c.kind_of.ensures v ss x h n) c.in_default.not-Switch (leads_inside ss labels)
