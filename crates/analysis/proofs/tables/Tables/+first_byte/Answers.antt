use Rattle.std.proofs.Common.{◌≡◌, ℕ, refl, ◌∙◌}
use Rattle.grammar.specs.Tree.{Exp, first_byte}
use Rattle.analysis.proofs.ExpNodes.{exp_node, from_literal, from_simple, from_subscripted, from_prefixed, from_joined, from_bracketed, from_compared, no_exp}
use Rattle.analysis.proofs.tables.Tables.+first_byte.Goals as goal

-- The place given is that of the expression's first byte.
abbrev At : ℕ → Exp → Type 0
At r e = r ≡ first_byte e

pub returns-in-Literal : goal.returns-in-Literal
returns-in-Literal t c = λ v e held p h.
    from_literal (At c.in-Literal.p) (exp_node c.args.self.now.records.now v c.args.i _ held c.in-Literal.ensures.is e h) refl

pub returns-in-Simple : goal.returns-in-Simple
returns-in-Simple t c = λ v e held p h.
    from_simple (At c.place_of.result) (exp_node c.args.self.now.records.now v c.args.i _ held c.in-Simple.ensures.is e h)
    (λ x n. c.place_of.ensures ∙ p c.in-Simple.w x n)

pub returns-in-Subscripted : goal.returns-in-Subscripted
returns-in-Subscripted t c = λ v e held p h.
    from_subscripted (At c.place_of-in-Subscripted.result) (exp_node c.args.self.now.records.now v c.args.i _ held c.in-Subscripted.ensures.is e h)
    (λ x g n k. c.place_of-in-Subscripted.ensures ∙ p c.in-Subscripted.w x n)

pub returns-in-Prefixed : goal.returns-in-Prefixed
returns-in-Prefixed t c = λ v e held p h.
    from_prefixed (At c.in-Prefixed.p) (exp_node c.args.self.now.records.now v c.args.i _ held c.in-Prefixed.ensures.is e h) (λ g k. refl)

pub returns-in-Joined : goal.returns-in-Joined
returns-in-Joined t c = λ v e held p h.
    from_joined (At c.first_byte.result) (exp_node c.args.self.now.records.now v c.args.i _ held c.in-Joined.ensures.is e h)
    (λ g k l m. c.first_byte.ensures v g held p l)

pub returns-in-Bracketed : goal.returns-in-Bracketed
returns-in-Bracketed t c = λ v e held p h.
    from_bracketed (At c.in-Bracketed.p) (exp_node c.args.self.now.records.now v c.args.i _ held c.in-Bracketed.ensures.is e h) (λ g k. refl)

pub returns-in-Compared : goal.returns-in-Compared
returns-in-Compared t c = λ v e held p h.
    from_compared (At c.in-Compared.p) (exp_node c.args.self.now.records.now v c.args.i _ held c.in-Compared.ensures.is e h) (λ g k l m. refl)

pub returns-in_default : goal.returns-in_default
returns-in_default t c = λ v e held p h.
    absurd (no_exp (exp_node c.args.self.now.records.now v c.args.i c.ordered_node.result held c.ordered_node.ensures.is e h)
    c.in_default.not-Literal c.in_default.not-Simple c.in_default.not-Subscripted c.in_default.not-Prefixed c.in_default.not-Joined c.in_default.not-Bracketed c.in_default.not-Compared)
