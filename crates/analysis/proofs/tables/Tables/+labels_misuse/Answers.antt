use Rattle.std.proofs.Common.{◌≡◌, ℕ, List, [], ◌∷◌, Option, ◌∙◌}
use Rattle.grammar.specs.Tree.{Row, one, Name}
use Rattle.symbols.specs.Occurrences.{in_switch, at, all_at}
use Rattle.symbols.specs.Symbols.{Symbol}
use Rattle.symbols.specs.Rules.{misused_names}
use Rattle.analysis.specs.Earliest.{earliest_of}
use Rattle.analysis.proofs.NameNodes.{names_node, from_name, from_names, no_names}
use Rattle.analysis.proofs.Misuses.{earliest_misused, one_misused}
use Rattle.analysis.proofs.tables.Tables.+labels_misuse.Goals as goal

-- The answer given is that for the list of labels.
abbrev At : List Symbol → Option ℕ → Row Name → Type 0
At ss r xs = r ≡ earliest_of (misused_names ss (all_at in_switch xs))

pub returns-in-More : goal.returns-in-More
returns-in-More t c = λ v ss xs h p k.
    from_names (At ss c.earlier.result) (names_node c.args.self.now.records.now v c.args.i _ h.nodes c.in-More.ensures.is xs k)
    (λ ys x l m. c.earlier.ensures
    ∙ earliest_misused ss c.labels_misuse-before.result c.labels_misuse-last.result (all_at in_switch ys) (at in_switch x ∷ [])
    (c.labels_misuse-before.ensures v ss ys h p l) (c.labels_misuse-last.ensures v ss (one x) h p m))

pub returns-in-Simple : goal.returns-in-Simple
returns-in-Simple t c = λ v ss xs h p k.
    from_name (At ss c.name_misuse.result) (names_node c.args.self.now.records.now v c.args.i _ h.nodes c.in-Simple.ensures.is xs k)
    (λ x n. one_misused ss c.name_misuse.result (at in_switch x) (c.name_misuse.ensures v ss x h p n))

pub returns-in_default : goal.returns-in_default
returns-in_default t c = λ v ss xs h p k.
    absurd (no_names (names_node c.args.self.now.records.now v c.args.i c.ordered_node.result h.nodes c.ordered_node.ensures.is xs k) c.in_default.not-More c.in_default.not-Simple)
