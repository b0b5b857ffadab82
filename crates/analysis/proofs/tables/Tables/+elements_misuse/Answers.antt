use Rattle.std.proofs.Common.{◌≡◌, ℕ, List, ◌++◌, Option, ◌∙◌}
use Rattle.grammar.specs.Tree.{Row, one, Element}
use Rattle.symbols.specs.Occurrences.{each, in_exp, in_element}
use Rattle.symbols.specs.Symbols.{Symbol}
use Rattle.symbols.specs.Rules.{misused_names}
use Rattle.analysis.specs.Earliest.{earliest_of}
use Rattle.analysis.proofs.ExpNodes.{elements_node, from_more, from_progression, from_single}
use Rattle.analysis.proofs.Misuses.{earliest_misused}
use Rattle.analysis.proofs.tables.Tables.+elements_misuse.Goals as goal

-- The answer given is that for the elements.
abbrev At : List Symbol → Option ℕ → Row Element → Type 0
At ss r es = r ≡ earliest_of (misused_names ss (each in_element es))

pub returns-in-More : goal.returns-in-More
returns-in-More t c = λ v ss es h p k.
    from_more (At ss c.earlier.result) (elements_node c.args.self.now.records.now v c.args.i _ h.nodes c.in-More.ensures.is es k)
    (λ fs f l m. c.earlier.ensures
    ∙ earliest_misused ss c.elements_misuse-before.result c.elements_misuse-last.result (each in_element fs) (in_element f)
    (c.elements_misuse-before.ensures v ss fs h p l) (c.elements_misuse-last.ensures v ss (one f) h p m))

pub returns-in-Progression : goal.returns-in-Progression
returns-in-Progression t c = λ v ss es h p k.
    from_progression (At ss c.earlier-in-Progression.result) (elements_node c.args.self.now.records.now v c.args.i _ h.nodes c.in-Progression.ensures.is es k)
    (λ e f g l m n. c.earlier-in-Progression.ensures
    ∙ earliest_misused ss c.exp_misuse-from.result c.earlier-rest.result (in_exp e) (in_exp f ++ in_exp g)
    (c.exp_misuse-from.ensures v ss e h p l)
    (c.earlier-rest.ensures
    ∙ earliest_misused ss c.exp_misuse-step.result c.exp_misuse-limit.result (in_exp f) (in_exp g)
    (c.exp_misuse-step.ensures v ss f h p m) (c.exp_misuse-limit.ensures v ss g h p n)))

pub returns-in_default : goal.returns-in_default
returns-in_default t c = λ v ss es h p k.
    from_single (At ss c.exp_misuse.result) (elements_node c.args.self.now.records.now v c.args.i c.ordered_node.result h.nodes c.ordered_node.ensures.is es k)
    c.in_default.not-More c.in_default.not-Progression (λ e l. c.exp_misuse.ensures v ss e h p l)
