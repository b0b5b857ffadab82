use Rattle.std.proofs.Common.{ℕ, Bool, List, ◌++◌, sym, subst, append_assoc}
use Rattle.grammar.specs.Tree.{Row, one, Item}
use Rattle.symbols.specs.Occurrences.{each}
use Rattle.symbols.specs.Symbols.{Symbol}
use Rattle.symbols.specs.Jumps.{open_labels, item_labels}
use Rattle.analysis.specs.LabelSets.{Sees}
use Rattle.analysis.proofs.ItemNodes.{act, items_node, from_joined, from_labelled, from_conditional}
use Rattle.analysis.proofs.NameLines.{numbered_by}
use Rattle.analysis.proofs.LabelSets.{sees_more}
use Rattle.analysis.proofs.JumpOffences.{no_open_label}
use Rattle.analysis.proofs.labels.Labels.+insert_open.Goals as goal

-- The set given sees the labels of the items too.
abbrev At : List Symbol → List (List ℕ) → List Bool → Row Item → Type 0
At ss labels lines t = Sees ss lines (each item_labels t ++ labels)

pub returns-in-More : goal.returns-in-More
returns-in-More t c = λ v ns ss labels u h small sees k.
    let lines : List Bool = c.insert_open-in-More.new.self.lines in
    let P : List (List ℕ) → Type 0 = λ l. Sees ss lines l in
    from_joined (At ss labels lines) (items_node c.args.records.now v c.args.i _ h.nodes c.in-More.ensures.is u k)
    (λ ts x l m. subst P (sym (append_assoc (each item_labels ts) (item_labels x) labels))
    (c.insert_open-in-More.ensures v ns ss (item_labels x ++ labels) ts h small (c.insert_open.ensures v ns ss labels (one x) h small sees m) l))
    (λ s y l m. subst P (sym (append_assoc (open_labels s) (open_labels y) labels))
    (c.insert_open-in-More.ensures v ns ss (open_labels y ++ labels) (act s) h small (c.insert_open.ensures v ns ss labels (act y) h small sees m) l))

pub returns-in-Labelled : goal.returns-in-Labelled
returns-in-Labelled t c = λ v ns ss labels u h small sees k.
    from_labelled (At ss labels c.insert.new.self.lines) (items_node c.args.records.now v c.args.i _ h.nodes c.in-Labelled.ensures.is u k)
    (λ x s n l. sees_more ss small c.insert_open-in-Labelled.new.self.lines c.insert.new.self.lines (open_labels s ++ labels) x.letters c.number_of.result
    (numbered_by v c.args.records.now ns ss c.in-Labelled.w x h n c.number_of.result c.number_of.ensures)
    (c.insert_open-in-Labelled.ensures v ns ss labels (act s) h small sees l) c.insert.ensures.added c.insert.ensures.kept)

pub returns-in-Conditional : goal.returns-in-Conditional
returns-in-Conditional t c = λ v ns ss labels u h small sees k.
    from_conditional (At ss labels c.insert_open-in-Conditional.new.self.lines) (items_node c.args.records.now v c.args.i _ h.nodes c.in-Conditional.ensures.is u k)
    (λ e s l m. c.insert_open-in-Conditional.ensures v ns ss labels (act s) h small sees m)

pub returns-in_default : goal.returns-in_default
returns-in_default t c = λ v ns ss labels u h small sees k.
    let P : List (List ℕ) → Type 0 = λ l. Sees ss c.args.self.now.lines (l ++ labels) in
    subst P (no_open_label (items_node c.args.records.now v c.args.i c.ordered_node.result h.nodes c.ordered_node.ensures.is u k)
    c.in_default.not-More c.in_default.not-Labelled c.in_default.not-Conditional) sees
