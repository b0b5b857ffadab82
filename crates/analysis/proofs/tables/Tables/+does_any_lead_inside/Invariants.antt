use Rattle.analysis.proofs.tables.Tables.+does_any_lead_inside.Given as goal

abbrev pub decreases-does_any_lead_inside : goal.decreases-does_any_lead_inside
decreases-does_any_lead_inside l = l.i
