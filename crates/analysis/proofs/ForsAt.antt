-- The fors of items at a node, by what the node is.
use Rattle.std.proofs.Common.{◌≡◌, ℕ, min, [], ◌∷◌, None, Option, refl}
use Rattle.parser.specs.declared.node.Node.{Node}
use Rattle.parser.specs.declared.node.Node.TheVariants.{More, Labelled, Conditional, Repeated}
use Rattle.parser.specs.Records.{View, RowAt, ItemAt}
use Rattle.grammar.specs.Tree.{Row, one, Item, action}
use Rattle.symbols.specs.Occurrences.{each, item_fors}
use Rattle.analysis.specs.declared.cell_count.CellCount.{CellCount}
use Rattle.analysis.specs.Earliest.{earlier_of}
use Rattle.analysis.specs.Counting.{Counts}
use Rattle.analysis.proofs.Claims.{counts_none, counts_two}
use Rattle.analysis.proofs.Standing.{Stands, a_row, a_sequence, a_label, a_condition, a_repetition, an_assignment, a_jump, a_choice, an_input, a_print, a_stop, a_comment, integers, booleans, arrays, a_switch}

-- What is counted in all items that can stand at a node.
abbrev Counted : View → ℕ → ℕ → CellCount → Type 0
Counted v a c r = (t : Row Item) → RowAt ItemAt v t a → Counts c (each item_fors t) r

module _ {v : View} {i c : ℕ} where
  pub counts_joined : {a b : ℕ} {t : Row Item} {r s : CellCount} {o : Option ℕ} → Counted v a c r → Counted v b r.cells s → o ≡ earlier_of r.offence s.offence → Stands v i (More a b) t → Counts c (each item_fors t) (record { cells = s.cells; offence = o })
  counts_joined left right e (a_row {ts} {x} l m h k) = counts_two (left ts h) (right (one x) k) e
  counts_joined left right e (a_sequence {s} {u} l m h k) = counts_two (left (one (action s)) h) (right (one (action u)) k) e

  pub counts_labelled : {w a : ℕ} {t : Row Item} {r : CellCount} → Counted v a c r → Stands v i (Labelled w a) t → Counts c (each item_fors t) r
  counts_labelled body (a_label {s = s} n l h) = body (one (action s)) h

  pub counts_condition : {p a b : ℕ} {t : Row Item} {r : CellCount} → Counted v b c r → Stands v i (Conditional p a b) t → Counts c (each item_fors t) r
  counts_condition body (a_condition {s = s} l h) = body (one (action s)) h

  pub counts_repetition : {p w a b : ℕ} {t : Row Item} {r s : CellCount} {o : Option ℕ} → Counts c (p ∷ []) r → Counted v b r.cells s → o ≡ earlier_of r.offence s.offence → Stands v i (Repeated p w a b) t → Counts c (each item_fors t) (record { cells = s.cells; offence = o })
  counts_repetition head body e (a_repetition {s = s} l h) = counts_two head (body (one (action s)) h) e

  -- All other nodes hold no for.
  pub counts_rest : {n : Node} {t : Row Item} {r : CellCount} → ((a b : ℕ) → n ≡ More a b → ⊥) → ((w a : ℕ) → n ≡ Labelled w a → ⊥) → ((q a b : ℕ) → n ≡ Conditional q a b → ⊥) → ((q w a b : ℕ) → n ≡ Repeated q w a b → ⊥)
      → r.cells ≡ min c 2049 → r.offence ≡ None → Stands v i n t → Counts c (each item_fors t) r
  counts_rest m l d f e o (a_row u w h k) = absurd (m _ _ refl)
  counts_rest m l d f e o (a_sequence u w h k) = absurd (m _ _ refl)
  counts_rest m l d f e o (a_label u w h) = absurd (l _ _ refl)
  counts_rest m l d f e o (a_condition u h) = absurd (d _ _ _ refl)
  counts_rest m l d f e o (a_repetition u h) = absurd (f _ _ _ _ refl)
  counts_rest {r = r} m l d f e o an_assignment = counts_none c r e o
  counts_rest {r = r} m l d f e o a_jump = counts_none c r e o
  counts_rest {r = r} m l d f e o a_choice = counts_none c r e o
  counts_rest {r = r} m l d f e o an_input = counts_none c r e o
  counts_rest {r = r} m l d f e o a_print = counts_none c r e o
  counts_rest {r = r} m l d f e o a_stop = counts_none c r e o
  counts_rest {r = r} m l d f e o a_comment = counts_none c r e o
  counts_rest {r = r} m l d f e o (integers h) = counts_none c r e o
  counts_rest {r = r} m l d f e o (booleans h) = counts_none c r e o
  counts_rest {r = r} m l d f e o (arrays h) = counts_none c r e o
  counts_rest {r = r} m l d f e o (a_switch u h) = counts_none c r e o
