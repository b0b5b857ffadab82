use Rattle.std.proofs.Common.{◌≡◌, ℕ, not, List, None, Option, refl, ◌∙◌}
use Rattle.grammar.specs.Tree.{Exp}
use Rattle.symbols.specs.Occurrences.{as_variable, as_element, at, in_exp}
use Rattle.symbols.specs.Symbols.{Symbol, kind_in}
use Rattle.symbols.specs.Types.{told}
use Rattle.symbols.specs.Rules.{suits, misused_names}
use Rattle.analysis.specs.Earliest.{earliest_of}
use Rattle.analysis.proofs.EarlierPlace.{both}
use Rattle.analysis.proofs.ExpNodes.{exp_node, from_literal, from_simple, from_subscripted, from_prefixed, from_joined, from_bracketed, from_compared, no_exp}
use Rattle.analysis.proofs.Misuses.{earliest_misused, one_misused}
use Rattle.analysis.proofs.tables.Tables.+exp_misuse.Goals as goal

-- The answer given is that for the expression.
abbrev At : List Symbol → Option ℕ → Exp → Type 0
At ss r e = r ≡ earliest_of (misused_names ss (in_exp e))

pub returns-in-Literal : goal.returns-in-Literal
returns-in-Literal t c = λ v ss e h p k. from_literal (At ss None) (exp_node c.args.self.now.records.now v c.args.i _ h.nodes c.in-Literal.ensures.is e k) refl

pub returns-in-Simple : goal.returns-in-Simple
returns-in-Simple t c = λ v ss e h p k.
    from_simple (At ss c.name_misuse.result) (exp_node c.args.self.now.records.now v c.args.i _ h.nodes c.in-Simple.ensures.is e k)
    (λ x n. one_misused ss c.name_misuse.result (at as_variable x) (c.name_misuse.ensures v ss x h p n))

pub returns-in-Subscripted : goal.returns-in-Subscripted
returns-in-Subscripted t c = λ v ss e h p k.
    from_subscripted (At ss c.earlier.result) (exp_node c.args.self.now.records.now v c.args.i _ h.nodes c.in-Subscripted.ensures.is e k)
    (λ x g n l. c.earlier.ensures
    ∙ both c.name_misuse-array.result c.exp_misuse-subscript.result (told (not (suits (kind_in ss x.letters) as_element)) x.place) (misused_names ss (in_exp g))
    (c.name_misuse-array.ensures v ss x h p n) (c.exp_misuse-subscript.ensures v ss g h p l))

pub returns-in-Prefixed : goal.returns-in-Prefixed
returns-in-Prefixed t c = λ v ss e h p k.
    from_prefixed (At ss c.exp_misuse.result) (exp_node c.args.self.now.records.now v c.args.i _ h.nodes c.in-Prefixed.ensures.is e k)
    (λ g l. c.exp_misuse.ensures v ss g h p l)

pub returns-in-Joined : goal.returns-in-Joined
returns-in-Joined t c = λ v ss e h p k.
    from_joined (At ss c.earlier-in-Joined.result) (exp_node c.args.self.now.records.now v c.args.i _ h.nodes c.in-Joined.ensures.is e k)
    (λ g j l m. c.earlier-in-Joined.ensures
    ∙ earliest_misused ss c.exp_misuse-left.result c.exp_misuse-right.result (in_exp g) (in_exp j)
    (c.exp_misuse-left.ensures v ss g h p l) (c.exp_misuse-right.ensures v ss j h p m))

pub returns-in-Bracketed : goal.returns-in-Bracketed
returns-in-Bracketed t c = λ v ss e h p k.
    from_bracketed (At ss c.exp_misuse-in-Bracketed.result) (exp_node c.args.self.now.records.now v c.args.i _ h.nodes c.in-Bracketed.ensures.is e k)
    (λ g l. c.exp_misuse-in-Bracketed.ensures v ss g h p l)

pub returns-in-Compared : goal.returns-in-Compared
returns-in-Compared t c = λ v ss e h p k.
    from_compared (At ss c.earlier-in-Compared.result) (exp_node c.args.self.now.records.now v c.args.i _ h.nodes c.in-Compared.ensures.is e k)
    (λ g j l m. c.earlier-in-Compared.ensures
    ∙ earliest_misused ss c.exp_misuse-first.result c.exp_misuse-second.result (in_exp g) (in_exp j)
    (c.exp_misuse-first.ensures v ss g h p l) (c.exp_misuse-second.ensures v ss j h p m))

pub returns-in_default : goal.returns-in_default
returns-in_default t c = λ v ss e h p k.
    absurd (no_exp (exp_node c.args.self.now.records.now v c.args.i c.ordered_node.result h.nodes c.ordered_node.ensures.is e k)
    c.in_default.not-Literal c.in_default.not-Simple c.in_default.not-Subscripted c.in_default.not-Prefixed c.in_default.not-Joined c.in_default.not-Bracketed c.in_default.not-Compared)
