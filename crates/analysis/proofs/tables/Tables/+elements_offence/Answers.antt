use Rattle.std.proofs.Common.{◌≡◌, ℕ, List, ◌++◌, Option, ◌∙◌}
use Rattle.grammar.specs.Tree.{Row, one, Element}
use Rattle.symbols.specs.Occurrences.{each}
use Rattle.symbols.specs.Symbols.{Symbol}
use Rattle.symbols.specs.Types.{arithmetic, exp_offences, element_offences}
use Rattle.analysis.specs.Earliest.{earliest_of}
use Rattle.analysis.proofs.EarlierPlace.{both}
use Rattle.analysis.proofs.ExpNodes.{elements_node, from_more, from_progression, from_single}
use Rattle.analysis.proofs.tables.Tables.+elements_offence.Goals as goal

-- The answer given is that for the elements.
abbrev At : List Symbol → Option ℕ → Row Element → Type 0
At ss r es = r ≡ earliest_of (each (element_offences ss) es)

pub returns-in-More : goal.returns-in-More
returns-in-More t c = λ v ss es h p k.
    from_more (At ss c.earlier.result) (elements_node c.args.self.now.records.now v c.args.i _ h.nodes c.in-More.ensures.is es k)
    (λ fs f l m. c.earlier.ensures
    ∙ both c.elements_offence-before.result c.elements_offence-last.result (each (element_offences ss) fs) (element_offences ss f)
    (c.elements_offence-before.ensures v ss fs h p l) (c.elements_offence-last.ensures v ss (one f) h p m))

pub returns-in-Progression : goal.returns-in-Progression
returns-in-Progression t c = λ v ss es h p k.
    from_progression (At ss c.earlier-in-Progression.result) (elements_node c.args.self.now.records.now v c.args.i _ h.nodes c.in-Progression.ensures.is es k)
    (λ e f g l m n. c.earlier-in-Progression.ensures
    ∙ both c.exp_offence-from.result c.earlier-rest.result (exp_offences ss arithmetic e) (exp_offences ss arithmetic f ++ exp_offences ss arithmetic g)
    (c.exp_offence-from.ensures v ss e h p l)
    (c.earlier-rest.ensures
    ∙ both c.exp_offence-step.result c.exp_offence-limit.result (exp_offences ss arithmetic f) (exp_offences ss arithmetic g)
    (c.exp_offence-step.ensures v ss f h p m) (c.exp_offence-limit.ensures v ss g h p n)))

pub returns-in_default : goal.returns-in_default
returns-in_default t c = λ v ss es h p k.
    from_single (At ss c.exp_offence.result) (elements_node c.args.self.now.records.now v c.args.i c.ordered_node.result h.nodes c.ordered_node.ensures.is es k)
    c.in_default.not-More c.in_default.not-Progression (λ e l. c.exp_offence.ensures v ss e h p l)
