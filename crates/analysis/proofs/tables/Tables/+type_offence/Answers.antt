use Rattle.std.proofs.Common.{◌≡◌, ℕ, List, ◌++◌, Option, refl, ap, ◌∙◌}
use Rattle.grammar.specs.Tree.{Row, simple, value_of, Item}
use Rattle.symbols.specs.Occurrences.{each}
use Rattle.symbols.specs.Symbols.{Symbol}
use Rattle.symbols.specs.Types.{arithmetic, truth_value, exp_offences, variable_type, element_offences, statement_offences, item_offences}
use Rattle.analysis.specs.Earliest.{earliest_of}
use Rattle.analysis.proofs.EarlierPlace.{both}
use Rattle.analysis.proofs.ItemNodes.{act, items_node, earliest_joined, from_labelled, from_conditional, from_repeated, from_assigned, from_switched, from_input, from_printed}
use Rattle.parser.proofs.Factors.{variable_value}
use Rattle.analysis.proofs.ExpRows.{singles, singles_at, each_single}
use Rattle.analysis.proofs.TypeOffences.{retyped, no_typed_part}
use Rattle.analysis.proofs.tables.Tables.+type_offence.Goals as goal

-- The answer given is that for the items.
abbrev At : List Symbol → Option ℕ → Row Item → Type 0
At ss r t = r ≡ earliest_of (each (item_offences ss) t)

pub returns-in-More : goal.returns-in-More
returns-in-More t c = λ v ss u h p k.
    c.earlier.ensures
    ∙ earliest_joined (item_offences ss) (λ _ _. refl) c.type_offence-before.result c.type_offence-last.result
    (items_node c.args.self.now.records.now v c.args.i _ h.nodes c.in-More.ensures.is u k)
    (λ y l. c.type_offence-before.ensures v ss y h p l) (λ y l. c.type_offence-last.ensures v ss y h p l)

pub returns-in-Labelled : goal.returns-in-Labelled
returns-in-Labelled t c = λ v ss u h p k.
    from_labelled (At ss c.type_offence.result) (items_node c.args.self.now.records.now v c.args.i _ h.nodes c.in-Labelled.ensures.is u k)
    (λ x s n l. c.type_offence.ensures v ss (act s) h p l)

pub returns-in-Conditional : goal.returns-in-Conditional
returns-in-Conditional t c = λ v ss u h p k.
    from_conditional (At ss c.earlier-in-Conditional.result) (items_node c.args.self.now.records.now v c.args.i _ h.nodes c.in-Conditional.ensures.is u k)
    (λ e s l m. c.earlier-in-Conditional.ensures
    ∙ both c.exp_offence-test.result c.type_offence-governed.result (exp_offences ss truth_value e) (statement_offences ss s)
    (c.exp_offence-test.ensures v ss e h p l) (c.type_offence-governed.ensures v ss (act s) h p m))

pub returns-in-Repeated : goal.returns-in-Repeated
returns-in-Repeated t c = λ v ss u h p k.
    from_repeated (At ss c.earlier-in-Repeated.result) (items_node c.args.self.now.records.now v c.args.i _ h.nodes c.in-Repeated.ensures.is u k)
    (λ x es s n l m. c.earlier-in-Repeated.ensures
    ∙ both c.name_offence-variable.result c.earlier-rest.result (exp_offences ss arithmetic (simple x)) (each (element_offences ss) es ++ statement_offences ss s)
    (c.name_offence-variable.ensures v ss x h p n)
    (c.earlier-rest.ensures
    ∙ both c.elements_offence-listed.result c.type_offence-body.result (each (element_offences ss) es) (statement_offences ss s)
    (c.elements_offence-listed.ensures v ss es h p l) (c.type_offence-body.ensures v ss (act s) h p m)))

pub returns-in-Assigned : goal.returns-in-Assigned
returns-in-Assigned t c = λ v ss u h p k.
    from_assigned (At ss c.earlier-in-Assigned.result) (items_node c.args.self.now.records.now v c.args.i _ h.nodes c.in-Assigned.ensures.is u k)
    (λ y e l m. c.earlier-in-Assigned.ensures
    ∙ both c.exp_offence-left.result c.exp_offence-right.result (exp_offences ss (variable_type ss y) (value_of y)) (exp_offences ss (variable_type ss y) e)
    (retyped ss (value_of y) (c.exp_offence-left.ensures v ss (value_of y) h p (variable_value v y c.in-Assigned.a l)) (c.variable_type-t.ensures v ss y h l))
    (retyped ss e (c.exp_offence-right.ensures v ss e h p m) (c.variable_type-t.ensures v ss y h l)))

pub returns-in-Switched : goal.returns-in-Switched
returns-in-Switched t c = λ v ss u h p k.
    from_switched (At ss c.exp_offence.result) (items_node c.args.self.now.records.now v c.args.i _ h.nodes c.in-Switched.ensures.is u k)
    (λ x e n l. c.exp_offence.ensures v ss e h p l)

pub returns-in-Input : goal.returns-in-Input
returns-in-Input t c = λ v ss u h p k.
    from_input (At ss c.exp_offence-in-Input.result) (items_node c.args.self.now.records.now v c.args.i _ h.nodes c.in-Input.ensures.is u k)
    (λ y l. c.exp_offence-in-Input.ensures v ss (value_of y) h p (variable_value v y c.in-Input.a l))

pub returns-in-Printed : goal.returns-in-Printed
returns-in-Printed t c = λ v ss u h p k.
    from_printed (At ss c.elements_offence.result) (items_node c.args.self.now.records.now v c.args.i _ h.nodes c.in-Printed.ensures.is u k)
    (λ es l. c.elements_offence.ensures v ss (singles es) h p (singles_at v es c.in-Printed.es l) ∙ ap earliest_of (each_single (element_offences ss) es))

pub returns-in_default : goal.returns-in_default
returns-in_default t c = λ v ss u h p k.
    no_typed_part ss (items_node c.args.self.now.records.now v c.args.i c.ordered_node.result h.nodes c.ordered_node.ensures.is u k)
    c.in_default.not-More c.in_default.not-Labelled c.in_default.not-Conditional c.in_default.not-Repeated c.in_default.not-Assigned c.in_default.not-Switched c.in_default.not-Input c.in_default.not-Printed
