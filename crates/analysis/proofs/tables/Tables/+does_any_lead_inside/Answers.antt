use Rattle.std.proofs.Common.{◌≡◌, ℕ, Bool, ◌||◌, List, sym, ap, ◌∙◌}
use Rattle.grammar.specs.Tree.{Row, one, Name}
use Rattle.symbols.specs.Symbols.{Symbol}
use Rattle.symbols.specs.Jumps.{leads_inside, some_name}
use Rattle.analysis.proofs.NameNodes.{names_node, from_name, from_names, no_names}
use Rattle.analysis.proofs.JumpOffences.{either_agrees}
use Rattle.analysis.proofs.tables.Tables.+does_any_lead_inside.Goals as goal

-- The answer given is that for the names.
abbrev At : List Symbol → List (List ℕ) → Bool → Row Name → Type 0
At ss labels r xs = r ≡ some_name (leads_inside ss labels) xs

pub returns-then-before : goal.returns-then-before
returns-then-before t c = λ v ss labels xs h sees k.
    from_names (At ss labels c.does_any_lead_inside-before.result) (names_node c.args.self.now.records.now v c.args.i _ h.nodes c.in-More.ensures.is xs k)
    (λ ys x l m. c.if-before.true
    ∙ (ap (λ (b : Bool). b || c.does_any_lead_inside-last.result) (sym c.if-before.true)
    ∙ either_agrees (c.does_any_lead_inside-before.ensures v ss labels ys h sees l) (c.does_any_lead_inside-last.ensures v ss labels (one x) h sees m)))

pub returns-else-before : goal.returns-else-before
returns-else-before t c = λ v ss labels xs h sees k.
    from_names (At ss labels c.does_any_lead_inside-last.result) (names_node c.args.self.now.records.now v c.args.i _ h.nodes c.in-More.ensures.is xs k)
    (λ ys x l m. ap (λ (b : Bool). b || c.does_any_lead_inside-last.result) (sym c.if-before.false)
    ∙ either_agrees (c.does_any_lead_inside-before.ensures v ss labels ys h sees l) (c.does_any_lead_inside-last.ensures v ss labels (one x) h sees m))

pub returns-in-Simple : goal.returns-in-Simple
returns-in-Simple t c = λ v ss labels xs h sees k.
    from_name (At ss labels c.does_lead_inside.result) (names_node c.args.self.now.records.now v c.args.i _ h.nodes c.in-Simple.ensures.is xs k)
    (λ x n. c.does_lead_inside.ensures v ss labels x h sees n)

pub returns-in_default : goal.returns-in_default
returns-in_default t c = λ v ss labels xs h sees k.
    absurd (no_names (names_node c.args.self.now.records.now v c.args.i c.ordered_node.result h.nodes c.ordered_node.ensures.is xs k) c.in_default.not-More c.in_default.not-Simple)
