-- Offences against the rule on types: what a walk of the code meets.
use Rattle.std.proofs.Common.{◌≡◌, ℕ, List, None, Option, refl, ap, ◌∙◌}
use Rattle.grammar.specs.Tree.{Row, Exp, Item}
use Rattle.parser.specs.declared.node.Node.{Node}
use Rattle.parser.specs.declared.node.Node.TheVariants.{More, Labelled, Conditional, Repeated, Assigned, Switched, Input, Printed}
use Rattle.parser.specs.Records.{View}
use Rattle.symbols.specs.Occurrences.{each}
use Rattle.symbols.specs.Symbols.{Symbol}
use Rattle.symbols.specs.Types.{PartType, exp_offences, item_offences}
use Rattle.analysis.specs.Earliest.{earliest_of}
use Rattle.analysis.proofs.ItemNodes.{ItemsNode, row_at, sequence_at, labelled_at, conditional_at, repeated_at, assigned_at, go_at, switched_at, input_at, printed_at, stop_at, comment_at, integer_at, boolean_at, array_at, switch_at}

-- The wanted type in the code's words and in those of the definition.
pub retyped : (ss : List Symbol) (e : Exp) {r : Option ℕ} {s t : PartType} → r ≡ earliest_of (exp_offences ss s e) → s ≡ t → r ≡ earliest_of (exp_offences ss t e)
retyped ss e h q = h ∙ ap (λ (w : PartType). earliest_of (exp_offences ss w e)) q

-- Items at a node of no other sort have no parts with a type.
pub no_typed_part : (ss : List Symbol) {v : View} {n : Node} {t : Row Item} → ItemsNode v n t
    → ((a b : ℕ) → n ≡ More a b → ⊥) → ((w a : ℕ) → n ≡ Labelled w a → ⊥) → ((p a b : ℕ) → n ≡ Conditional p a b → ⊥)
    → ((p w a b : ℕ) → n ≡ Repeated p w a b → ⊥) → ((a b : ℕ) → n ≡ Assigned a b → ⊥) → ((p w a : ℕ) → n ≡ Switched p w a → ⊥)
    → ((p a : ℕ) → n ≡ Input p a → ⊥) → ((p a : ℕ) → n ≡ Printed p a → ⊥)
    → None ≡ earliest_of (each (item_offences ss) t)
no_typed_part ss (row_at {a = a} {b = b} h k) m l c r y z j p = absurd (m a b refl)
no_typed_part ss (sequence_at {a = a} {b = b} h k) m l c r y z j p = absurd (m a b refl)
no_typed_part ss (labelled_at {w = w} {a = a} n h) m l c r y z j p = absurd (l w a refl)
no_typed_part ss (conditional_at {p = q} {a = a} {b = b} h k) m l c r y z j p = absurd (c q a b refl)
no_typed_part ss (repeated_at {p = q} {w = w} {a = a} {b = b} n h k) m l c r y z j p = absurd (r q w a b refl)
no_typed_part ss (assigned_at {a = a} {b = b} h k) m l c r y z j p = absurd (y a b refl)
no_typed_part ss (go_at n) m l c r y z j p = refl
no_typed_part ss (switched_at {p = q} {w = w} {a = a} n h) m l c r y z j p = absurd (z q w a refl)
no_typed_part ss (input_at {p = q} {a = a} h) m l c r y z j p = absurd (j q a refl)
no_typed_part ss (printed_at {p = q} {a = a} h) m l c r y z j p = absurd (p q a refl)
no_typed_part ss stop_at m l c r y z j p = refl
no_typed_part ss comment_at m l c r y z j p = refl
no_typed_part ss integer_at m l c r y z j p = refl
no_typed_part ss boolean_at m l c r y z j p = refl
no_typed_part ss array_at m l c r y z j p = refl
no_typed_part ss (switch_at n h) m l c r y z j p = refl
