use Rattle.std.proofs.Common.{◌≡◌, ℕ, List, ◌++◌, Option, refl, ap, ◌∙◌}
use Rattle.grammar.specs.Tree.{Exp, first_byte}
use Rattle.symbols.specs.Symbols.{Symbol}
use Rattle.symbols.specs.Types.{PartType, arithmetic, truth_value, told, differs, name_type, prefix_type, operator_type, exp_offences}
use Rattle.analysis.specs.PartTypes.{part_in}
use Rattle.analysis.specs.Earliest.{earliest_of}
use Rattle.analysis.proofs.EarlierPlace.{both, told_same}
use Rattle.analysis.proofs.ExpNodes.{exp_node, from_literal, from_simple, from_subscripted, from_prefixed, from_joined, from_bracketed, from_compared, no_exp}
use Rattle.analysis.proofs.TypeOffences.{retyped}
use Rattle.analysis.proofs.tables.Tables.+exp_offence.Goals as goal

-- The answer given is that for the expression, where the type w is wanted.
abbrev At : List Symbol → PartType → Option ℕ → Exp → Type 0
At ss w r e = r ≡ earliest_of (exp_offences ss w e)

pub returns-in-Literal : goal.returns-in-Literal
returns-in-Literal t c = λ v ss e h p k.
    from_literal (At ss (part_in c.args.want) c.told.result) (exp_node c.args.self.now.records.now v c.args.i _ h.nodes c.in-Literal.ensures.is e k)
    (told_same c.told.ensures c.does_number_differ.ensures refl)

pub returns-in-Simple : goal.returns-in-Simple
returns-in-Simple t c = λ v ss e h p k.
    from_simple (At ss (part_in c.args.want) c.name_offence.result) (exp_node c.args.self.now.records.now v c.args.i _ h.nodes c.in-Simple.ensures.is e k)
    (λ x n. c.name_offence.ensures v ss x h p n)

pub returns-in-Subscripted : goal.returns-in-Subscripted
returns-in-Subscripted t c = λ v ss e h p k.
    from_subscripted (At ss (part_in c.args.want) c.earlier.result) (exp_node c.args.self.now.records.now v c.args.i _ h.nodes c.in-Subscripted.ensures.is e k)
    (λ x g n l. c.earlier.ensures
    ∙ both c.name_offence-array.result c.exp_offence-subscript.result (told (differs (part_in c.args.want) (name_type ss x)) x.place) (exp_offences ss arithmetic g)
    (c.name_offence-array.ensures v ss x h p n) (c.exp_offence-subscript.ensures v ss g h p l))

pub returns-in-Prefixed : goal.returns-in-Prefixed
returns-in-Prefixed t c = λ v ss e h p k.
    from_prefixed (At ss (part_in c.args.want) c.earlier-in-Prefixed.result) (exp_node c.args.self.now.records.now v c.args.i _ h.nodes c.in-Prefixed.ensures.is e k)
    (λ g l. c.earlier-in-Prefixed.ensures
    ∙ both c.told-sign.result c.exp_offence-operand.result (told (differs (part_in c.args.want) (prefix_type c.in-Prefixed.o)) c.in-Prefixed.p) (exp_offences ss (prefix_type c.in-Prefixed.o) g)
    (told_same c.told-sign.ensures (c.differs.ensures ∙ ap (λ (z : PartType). differs (part_in c.args.want) z) c.from-t.ensures) refl)
    (retyped ss g (c.exp_offence-operand.ensures v ss g h p l) c.from-t.ensures))

pub returns-in-Joined : goal.returns-in-Joined
returns-in-Joined t c = λ v ss e h p k.
    from_joined (At ss (part_in c.args.want) c.earlier-in-Joined.result) (exp_node c.args.self.now.records.now v c.args.i _ h.nodes c.in-Joined.ensures.is e k)
    (λ g j l m. c.earlier-in-Joined.ensures
    ∙ both c.told_at_first_byte-row.result c.earlier-operands.result (told (differs (part_in c.args.want) (operator_type c.in-Joined.o)) (first_byte g)) (exp_offences ss (operator_type c.in-Joined.o) g ++ exp_offences ss (operator_type c.in-Joined.o) j)
    (told_same (c.told_at_first_byte-row.ensures v g h.nodes p l) (c.differs-in-Joined.ensures ∙ ap (λ (z : PartType). differs (part_in c.args.want) z) c.from-u.ensures) refl)
    (c.earlier-operands.ensures
    ∙ both c.exp_offence-left.result c.exp_offence-right.result (exp_offences ss (operator_type c.in-Joined.o) g) (exp_offences ss (operator_type c.in-Joined.o) j)
    (retyped ss g (c.exp_offence-left.ensures v ss g h p l) c.from-u.ensures)
    (retyped ss j (c.exp_offence-right.ensures v ss j h p m) c.from-u.ensures)))

pub returns-in-Bracketed : goal.returns-in-Bracketed
returns-in-Bracketed t c = λ v ss e h p k.
    from_bracketed (At ss (part_in c.args.want) c.exp_offence.result) (exp_node c.args.self.now.records.now v c.args.i _ h.nodes c.in-Bracketed.ensures.is e k)
    (λ g l. c.exp_offence.ensures v ss g h p l)

pub returns-in-Compared : goal.returns-in-Compared
returns-in-Compared t c = λ v ss e h p k.
    from_compared (At ss (part_in c.args.want) c.earlier-in-Compared.result) (exp_node c.args.self.now.records.now v c.args.i _ h.nodes c.in-Compared.ensures.is e k)
    (λ g j l m. c.earlier-in-Compared.ensures
    ∙ both c.told-bracket.result c.earlier-sides.result (told (differs (part_in c.args.want) truth_value) c.in-Compared.p) (exp_offences ss arithmetic g ++ exp_offences ss arithmetic j)
    (told_same c.told-bracket.ensures c.differs-in-Compared.ensures refl)
    (c.earlier-sides.ensures
    ∙ both c.exp_offence-first.result c.exp_offence-second.result (exp_offences ss arithmetic g) (exp_offences ss arithmetic j)
    (c.exp_offence-first.ensures v ss g h p l) (c.exp_offence-second.ensures v ss j h p m)))

pub returns-in_default : goal.returns-in_default
returns-in_default t c = λ v ss e h p k.
    absurd (no_exp (exp_node c.args.self.now.records.now v c.args.i c.ordered_node.result h.nodes c.ordered_node.ensures.is e k)
    c.in_default.not-Literal c.in_default.not-Simple c.in_default.not-Subscripted c.in_default.not-Prefixed c.in_default.not-Joined c.in_default.not-Bracketed c.in_default.not-Compared)
