use Rattle.std.proofs.Common.{◌≡◌, ℕ, List, ◌++◌, Option, refl, ◌∙◌}
use Rattle.grammar.specs.Tree.{Row, Item}
use Rattle.symbols.specs.Occurrences.{each}
use Rattle.symbols.specs.Symbols.{Symbol}
use Rattle.symbols.specs.Jumps.{open_labels, item_jumps}
use Rattle.analysis.specs.Earliest.{earliest_of}
use Rattle.analysis.proofs.EarlierPlace.{told_same}
use Rattle.analysis.proofs.ItemNodes.{act, items_node, earliest_joined, from_labelled, from_conditional, from_repeated, from_go, from_switched}
use Rattle.analysis.proofs.JumpOffences.{no_jump}
use Rattle.analysis.proofs.tables.Tables.+jump_offence_seeing.Goals as goal

-- The answer given is that for the items.
abbrev At : List Symbol → List (List ℕ) → Option ℕ → Row Item → Type 0
At ss labels r t = r ≡ earliest_of (each (item_jumps ss labels) t)

pub returns-in-More : goal.returns-in-More
returns-in-More t c = λ v ss labels u h p small sees k.
    c.earlier.ensures
    ∙ earliest_joined (item_jumps ss labels) (λ _ _. refl) c.jump_offence_seeing-before.result c.jump_offence_seeing-last.result
    (items_node c.args.self.now.records.now v c.args.i _ h.nodes c.in-More.ensures.is u k)
    (λ y l. c.jump_offence_seeing-before.ensures v ss labels y h p small sees l) (λ y l. c.jump_offence_seeing-last.ensures v ss labels y h p small sees l)

pub returns-in-Labelled : goal.returns-in-Labelled
returns-in-Labelled t c = λ v ss labels u h p small sees k.
    from_labelled (At ss labels c.jump_offence_seeing.result) (items_node c.args.self.now.records.now v c.args.i _ h.nodes c.in-Labelled.ensures.is u k)
    (λ x s n l. c.jump_offence_seeing.ensures v ss labels (act s) h p small sees l)

pub returns-in-Conditional : goal.returns-in-Conditional
returns-in-Conditional t c = λ v ss labels u h p small sees k.
    from_conditional (At ss labels c.jump_offence_seeing-in-Conditional.result) (items_node c.args.self.now.records.now v c.args.i _ h.nodes c.in-Conditional.ensures.is u k)
    (λ e s l m. c.jump_offence_seeing-in-Conditional.ensures v ss labels (act s) h p small sees m)

pub returns-in-Repeated : goal.returns-in-Repeated
returns-in-Repeated t c = λ v ss labels u h p small sees k.
    from_repeated (At ss labels c.jump_offence_seeing-in-Repeated.result) (items_node c.args.self.now.records.now v c.args.i _ h.nodes c.in-Repeated.ensures.is u k)
    (λ x es s n l m. c.jump_offence_seeing-in-Repeated.ensures v ss (open_labels s ++ labels) (act s) h p small
    (c.insert_open.ensures v c.args.self.now.names.now ss labels (act s) h small sees m) m)

pub returns-in-Go : goal.returns-in-Go
returns-in-Go t c = λ v ss labels u h p small sees k.
    from_go (At ss labels c.told.result) (items_node c.args.self.now.records.now v c.args.i _ h.nodes c.in-Go.ensures.is u k)
    (λ x n. told_same c.told.ensures (c.does_lead_inside-leads.ensures v ss labels x h sees n) (c.place_of.ensures ∙ p c.in-Go.w x n))

pub returns-in-Switched : goal.returns-in-Switched
returns-in-Switched t c = λ v ss labels u h p small sees k.
    from_switched (At ss labels c.told-in-Switched.result) (items_node c.args.self.now.records.now v c.args.i _ h.nodes c.in-Switched.ensures.is u k)
    (λ x e n l. told_same c.told-in-Switched.ensures (c.does_switch_lead_inside-leads.ensures v ss labels x h sees n) (c.place_of-in-Switched.ensures ∙ p c.in-Switched.w x n))

pub returns-in_default : goal.returns-in_default
returns-in_default t c = λ v ss labels u h p small sees k.
    no_jump ss labels (items_node c.args.self.now.records.now v c.args.i c.ordered_node.result h.nodes c.ordered_node.ensures.is u k)
    c.in_default.not-More c.in_default.not-Labelled c.in_default.not-Conditional c.in_default.not-Repeated c.in_default.not-Go c.in_default.not-Switched
