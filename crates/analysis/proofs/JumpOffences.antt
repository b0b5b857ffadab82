-- Go tos into a for's body: what a walk of the code meets.
use Rattle.std.proofs.Common.{◌≡◌, ℕ, Bool, false, not, ◌&&◌, ◌||◌, List, [], None, refl, ap, ◌∙◌}
use Rattle.grammar.specs.Tree.{Row, Name, Item}
use Rattle.parser.specs.declared.node.Node.{Node}
use Rattle.parser.specs.declared.node.Node.TheVariants.{More, Labelled, Conditional, Repeated, Go, Switched}
use Rattle.parser.specs.Records.{View, NameAt, RowAt}
use Rattle.symbols.specs.Occurrences.{each}
use Rattle.symbols.specs.Symbols.{Kind, Symbol}
use Rattle.symbols.specs.Jumps.{some_name, switch_leads, item_labels, item_jumps}
use Rattle.analysis.specs.declared.symbol.NameKind.{NameKind}
use Rattle.analysis.specs.declared.symbol.NameKind.TheVariants.{Switch}
use Rattle.analysis.specs.SymbolTable.{KindAt, label, switch, array, variable}
use Rattle.analysis.specs.Earliest.{earliest_of}
use Rattle.analysis.proofs.ItemNodes.{ItemsNode, row_at, sequence_at, labelled_at, conditional_at, repeated_at, assigned_at, go_at, switched_at, input_at, printed_at, stop_at, comment_at, integer_at, boolean_at, array_at, switch_at}

-- Tests that agree part by part agree.
pub both_agree : {a b c d : Bool} → a ≡ c → b ≡ d → (a && not b) ≡ (c && not d)
both_agree {b = b} {c = c} e f = ap (λ (t : Bool). t && not b) e ∙ ap (λ (t : Bool). c && not t) f

pub either_agrees : {a b c d : Bool} → a ≡ c → b ≡ d → (a || b) ≡ (c || d)
either_agrees {b = b} {c = c} e f = ap (λ (t : Bool). t || b) e ∙ ap (λ (t : Bool). c || t) f

-- A switch's list stands at the node that its record has; what is no switch leads nowhere.
pub switch_held : {v : View} {i : ℕ} {k : Kind} → KindAt v (Switch i) k → (f : Name → Bool) (r : Bool) → ((xs : Row Name) → RowAt NameAt v xs i → r ≡ some_name f xs) → r ≡ switch_leads f k
switch_held (switch {xs = xs} h) f r g = g xs h

pub no_switch : {v : View} {n : NameKind} {k : Kind} → KindAt v n k → ((i : ℕ) → n ≡ Switch i → ⊥) → (f : Name → Bool) → false ≡ switch_leads f k
no_switch label n f = refl
no_switch (switch {i = i} h) n f = absurd (n i refl)
no_switch array n f = refl
no_switch variable n f = refl

-- Items at a node of no other sort have no open labels.
pub no_open_label : {v : View} {n : Node} {t : Row Item} → ItemsNode v n t
    → ((a b : ℕ) → n ≡ More a b → ⊥) → ((w a : ℕ) → n ≡ Labelled w a → ⊥) → ((p a b : ℕ) → n ≡ Conditional p a b → ⊥)
    → [] ≡ each item_labels t
no_open_label (row_at {a = a} {b = b} h k) m l c = absurd (m a b refl)
no_open_label (sequence_at {a = a} {b = b} h k) m l c = absurd (m a b refl)
no_open_label (labelled_at {w = w} {a = a} n h) m l c = absurd (l w a refl)
no_open_label (conditional_at {p = q} {a = a} {b = b} h k) m l c = absurd (c q a b refl)
no_open_label (repeated_at n h k) m l c = refl
no_open_label (assigned_at h k) m l c = refl
no_open_label (go_at n) m l c = refl
no_open_label (switched_at n h) m l c = refl
no_open_label (input_at h) m l c = refl
no_open_label (printed_at h) m l c = refl
no_open_label stop_at m l c = refl
no_open_label comment_at m l c = refl
no_open_label integer_at m l c = refl
no_open_label boolean_at m l c = refl
no_open_label array_at m l c = refl
no_open_label (switch_at n h) m l c = refl

-- Nor do they jump.
pub no_jump : (ss : List Symbol) (labels : List (List ℕ)) {v : View} {n : Node} {t : Row Item} → ItemsNode v n t
    → ((a b : ℕ) → n ≡ More a b → ⊥) → ((w a : ℕ) → n ≡ Labelled w a → ⊥) → ((p a b : ℕ) → n ≡ Conditional p a b → ⊥)
    → ((p w a b : ℕ) → n ≡ Repeated p w a b → ⊥) → ((p w : ℕ) → n ≡ Go p w → ⊥) → ((p w a : ℕ) → n ≡ Switched p w a → ⊥)
    → None ≡ earliest_of (each (item_jumps ss labels) t)
no_jump ss s (row_at {a = a} {b = b} h k) m l c r g z = absurd (m a b refl)
no_jump ss s (sequence_at {a = a} {b = b} h k) m l c r g z = absurd (m a b refl)
no_jump ss s (labelled_at {w = w} {a = a} n h) m l c r g z = absurd (l w a refl)
no_jump ss s (conditional_at {p = q} {a = a} {b = b} h k) m l c r g z = absurd (c q a b refl)
no_jump ss s (repeated_at {p = q} {w = w} {a = a} {b = b} n h k) m l c r g z = absurd (r q w a b refl)
no_jump ss s (assigned_at h k) m l c r g z = refl
no_jump ss s (go_at {p = q} {w = w} n) m l c r g z = absurd (g q w refl)
no_jump ss s (switched_at {p = q} {w = w} {a = a} n h) m l c r g z = absurd (z q w a refl)
no_jump ss s (input_at h) m l c r g z = refl
no_jump ss s (printed_at h) m l c r g z = refl
no_jump ss s stop_at m l c r g z = refl
no_jump ss s comment_at m l c r g z = refl
no_jump ss s integer_at m l c r g z = refl
no_jump ss s boolean_at m l c r g z = refl
no_jump ss s array_at m l c r g z = refl
no_jump ss s (switch_at n h) m l c r g z = refl
