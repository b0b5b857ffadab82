use Rattle.std.proofs.Common.{◌≡◌, ℕ, not, List, ◌++◌, Option, ap, ◌∙◌}
use Rattle.grammar.specs.Tree.{Row, one, value_of, Item}
use Rattle.symbols.specs.Occurrences.{Occurrence, as_target, as_selector, as_variable, at, each, in_exp, in_element, in_statement, in_item}
use Rattle.symbols.specs.Symbols.{Symbol, kind_in}
use Rattle.symbols.specs.Types.{told}
use Rattle.symbols.specs.Rules.{suits, misused_names}
use Rattle.analysis.specs.Earliest.{earliest_of}
use Rattle.analysis.proofs.EarlierPlace.{both}
use Rattle.analysis.proofs.ItemNodes.{act, items_node, from_joined, from_labelled, from_conditional, from_repeated, from_assigned, from_go, from_switched, from_input, from_printed, from_switch}
use Rattle.parser.proofs.Factors.{variable_value}
use Rattle.analysis.proofs.ExpRows.{singles, singles_at, each_single}
use Rattle.analysis.proofs.Misuses.{earliest_misused, one_misused, no_use}
use Rattle.analysis.proofs.tables.Tables.+misuse_offence.Goals as goal

-- The answer given is that for the items.
abbrev At : List Symbol → Option ℕ → Row Item → Type 0
At ss r t = r ≡ earliest_of (misused_names ss (each in_item t))

pub returns-in-More : goal.returns-in-More
returns-in-More t c = λ v ss u h p k.
    from_joined (At ss c.earlier.result) (items_node c.args.self.now.records.now v c.args.i _ h.nodes c.in-More.ensures.is u k)
    (λ ts x l m. c.earlier.ensures
    ∙ earliest_misused ss c.misuse_offence-before.result c.misuse_offence-last.result (each in_item ts) (in_item x)
    (c.misuse_offence-before.ensures v ss ts h p l) (c.misuse_offence-last.ensures v ss (one x) h p m))
    (λ s y l m. c.earlier.ensures
    ∙ earliest_misused ss c.misuse_offence-before.result c.misuse_offence-last.result (in_statement s) (in_statement y)
    (c.misuse_offence-before.ensures v ss (act s) h p l) (c.misuse_offence-last.ensures v ss (act y) h p m))

pub returns-in-Labelled : goal.returns-in-Labelled
returns-in-Labelled t c = λ v ss u h p k.
    from_labelled (At ss c.misuse_offence.result) (items_node c.args.self.now.records.now v c.args.i _ h.nodes c.in-Labelled.ensures.is u k)
    (λ x s n l. c.misuse_offence.ensures v ss (act s) h p l)

pub returns-in-Conditional : goal.returns-in-Conditional
returns-in-Conditional t c = λ v ss u h p k.
    from_conditional (At ss c.earlier-in-Conditional.result) (items_node c.args.self.now.records.now v c.args.i _ h.nodes c.in-Conditional.ensures.is u k)
    (λ e s l m. c.earlier-in-Conditional.ensures
    ∙ earliest_misused ss c.exp_misuse-test.result c.misuse_offence-governed.result (in_exp e) (in_statement s)
    (c.exp_misuse-test.ensures v ss e h p l) (c.misuse_offence-governed.ensures v ss (act s) h p m))

pub returns-in-Repeated : goal.returns-in-Repeated
returns-in-Repeated t c = λ v ss u h p k.
    from_repeated (At ss c.earlier-in-Repeated.result) (items_node c.args.self.now.records.now v c.args.i _ h.nodes c.in-Repeated.ensures.is u k)
    (λ x es s n l m. c.earlier-in-Repeated.ensures
    ∙ both c.name_misuse-variable.result c.earlier-rest.result (told (not (suits (kind_in ss x.letters) as_variable)) x.place) (misused_names ss (each in_element es ++ in_statement s))
    (c.name_misuse-variable.ensures v ss x h p n)
    (c.earlier-rest.ensures
    ∙ earliest_misused ss c.elements_misuse-listed.result c.misuse_offence-body.result (each in_element es) (in_statement s)
    (c.elements_misuse-listed.ensures v ss es h p l) (c.misuse_offence-body.ensures v ss (act s) h p m)))

pub returns-in-Assigned : goal.returns-in-Assigned
returns-in-Assigned t c = λ v ss u h p k.
    from_assigned (At ss c.earlier-in-Assigned.result) (items_node c.args.self.now.records.now v c.args.i _ h.nodes c.in-Assigned.ensures.is u k)
    (λ y e l m. c.earlier-in-Assigned.ensures
    ∙ earliest_misused ss c.exp_misuse-left.result c.exp_misuse-right.result (in_exp (value_of y)) (in_exp e)
    (c.exp_misuse-left.ensures v ss (value_of y) h p (variable_value v y c.in-Assigned.a l)) (c.exp_misuse-right.ensures v ss e h p m))

pub returns-in-Go : goal.returns-in-Go
returns-in-Go t c = λ v ss u h p k.
    from_go (At ss c.name_misuse.result) (items_node c.args.self.now.records.now v c.args.i _ h.nodes c.in-Go.ensures.is u k)
    (λ x n. one_misused ss c.name_misuse.result (at as_target x) (c.name_misuse.ensures v ss x h p n))

pub returns-in-Switched : goal.returns-in-Switched
returns-in-Switched t c = λ v ss u h p k.
    from_switched (At ss c.earlier-in-Switched.result) (items_node c.args.self.now.records.now v c.args.i _ h.nodes c.in-Switched.ensures.is u k)
    (λ x e n l. c.earlier-in-Switched.ensures
    ∙ both c.name_misuse-selector.result c.exp_misuse-subscript.result (told (not (suits (kind_in ss x.letters) as_selector)) x.place) (misused_names ss (in_exp e))
    (c.name_misuse-selector.ensures v ss x h p n) (c.exp_misuse-subscript.ensures v ss e h p l))

pub returns-in-Input : goal.returns-in-Input
returns-in-Input t c = λ v ss u h p k.
    from_input (At ss c.exp_misuse.result) (items_node c.args.self.now.records.now v c.args.i _ h.nodes c.in-Input.ensures.is u k)
    (λ y l. c.exp_misuse.ensures v ss (value_of y) h p (variable_value v y c.in-Input.a l))

pub returns-in-Printed : goal.returns-in-Printed
returns-in-Printed t c = λ v ss u h p k.
    from_printed (At ss c.elements_misuse.result) (items_node c.args.self.now.records.now v c.args.i _ h.nodes c.in-Printed.ensures.is u k)
    (λ es l. c.elements_misuse.ensures v ss (singles es) h p (singles_at v es c.in-Printed.es l)
    ∙ ap (λ (os : List Occurrence). earliest_of (misused_names ss os)) (each_single in_element es))

pub returns-in-Switch : goal.returns-in-Switch
returns-in-Switch t c = λ v ss u h p k.
    from_switch (At ss c.labels_misuse.result) (items_node c.args.self.now.records.now v c.args.i _ h.nodes c.in-Switch.ensures.is u k)
    (λ x xs n l. c.labels_misuse.ensures v ss xs h p l)

pub returns-in_default : goal.returns-in_default
returns-in_default t c = λ v ss u h p k.
    no_use ss (items_node c.args.self.now.records.now v c.args.i c.ordered_node.result h.nodes c.ordered_node.ensures.is u k)
    c.in_default.not-More c.in_default.not-Labelled c.in_default.not-Conditional c.in_default.not-Repeated c.in_default.not-Assigned c.in_default.not-Go c.in_default.not-Switched c.in_default.not-Input c.in_default.not-Printed c.in_default.not-Switch
