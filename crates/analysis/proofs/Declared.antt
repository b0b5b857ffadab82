-- Heeding the declarations of items at a node, by what the node is.
use Rattle.std.proofs.Common.{◌≡◌, ℕ, List, [], ◌∷◌, None, Option, refl}
use Rattle.symbols.specs.declared.value_type.ValueType.TheVariants.{Integer as IntegerType, Boolean as BooleanType}
use Rattle.parser.specs.declared.node.Node.{Node}
use Rattle.parser.specs.declared.node.Node.TheVariants.{More, Labelled, Conditional, Repeated, Integer, Boolean, Array, Switch}
use Rattle.parser.specs.Records.{View, Named, NameAt, GroupAt, RowAt, ItemAt}
use Rattle.grammar.specs.Tree.{Row, one, Name, Group, value_of, Item, action}
use Rattle.symbols.specs.Occurrences.{as_label, as_switch, of_type, in_switch, as_variable, Occurrence, at, each, all_at, in_exp, in_element, in_group, in_item}
use Rattle.analysis.specs.declared.symbol.NameRecord.{NameRecord}
use Rattle.analysis.specs.Heeding.{Pass}
use Rattle.analysis.specs.Earliest.{earlier_of}
use Rattle.analysis.specs.Heeding.{Heeds}
use Rattle.analysis.proofs.Said.{Silent}
use Rattle.analysis.proofs.Silence.{silent_append, silent_each, silent_exp, silent_element, silent_in_switch}
use Rattle.analysis.proofs.Heeded.{heeds_silent, heeds_two, heeds_first}
use Rattle.analysis.proofs.Standing.{Stands, a_row, a_sequence, a_label, a_condition, a_repetition, an_assignment, a_jump, a_choice, an_input, a_print, a_stop, a_comment, integers, booleans, arrays, a_switch}

-- What is heeded in all items that can stand at a node.
abbrev Heeded : Pass → View → List Name → List Occurrence → ℕ → List NameRecord → List NameRecord → Option ℕ → Type 0
Heeded p v ns whole a lines lines' r = (t : Row Item) → RowAt ItemAt v t a → Heeds p v ns whole (each in_item t) lines lines' r

module _ {p : Pass} {v : View} {ns : List Name} {whole : List Occurrence} {i : ℕ} where
  pub heeds_joined : {a b : ℕ} {t : Row Item} {lines lines' lines'' : List NameRecord} {r s : Option ℕ} → Heeded p v ns whole a lines lines' r → Heeded p v ns whole b lines' lines'' s → Stands v i (More a b) t → Heeds p v ns whole (each in_item t) lines lines'' (earlier_of r s)
  heeds_joined left right (a_row {ts} {x} l m h k) = heeds_two (left ts h) (right (one x) k)
  heeds_joined left right (a_sequence {s} {u} l m h k) = heeds_two (left (one (action s)) h) (right (one (action u)) k)

  pub heeds_labelled : {w a : ℕ} {t : Row Item} {lines lines' lines'' : List NameRecord} {r s : Option ℕ} → ((x : Name) → Named v w x → Heeds p v ns whole (at as_label x ∷ []) lines lines' r) → Heeded p v ns whole a lines' lines'' s → Stands v i (Labelled w a) t → Heeds p v ns whole (each in_item t) lines lines'' (earlier_of r s)
  heeds_labelled label body (a_label {x} {s} n l h) = heeds_two (label x n) (body (one (action s)) h)

  pub heeds_condition : {q a b : ℕ} {t : Row Item} {lines lines' : List NameRecord} {r : Option ℕ} → Heeded p v ns whole b lines lines' r → Stands v i (Conditional q a b) t → Heeds p v ns whole (each in_item t) lines lines' r
  heeds_condition body (a_condition {e = e} {s} l h) = heeds_two (heeds_silent (silent_exp e)) (body (one (action s)) h)

  pub heeds_repetition : {q w a b : ℕ} {t : Row Item} {lines lines' : List NameRecord} {r : Option ℕ} → Heeded p v ns whole b lines lines' r → Stands v i (Repeated q w a b) t → Heeds p v ns whole (each in_item t) lines lines' r
  heeds_repetition {lines = lines} body (a_repetition {x = x} {es} {s = u} l h) =
      let s : Silent (at as_variable x ∷ each in_element es) = (refl, silent_each in_element silent_element es) in
      heeds_two {os = at as_variable x ∷ each in_element es} (heeds_silent s) (body (one (action u)) h)

  pub heeds_arrays : {a : ℕ} {t : Row Item} {lines lines' : List NameRecord} {r : Option ℕ} → ((gs : Row Group) → RowAt GroupAt v gs a → Heeds p v ns whole (each in_group gs) lines lines' r) → Stands v i (Array a) t → Heeds p v ns whole (each in_item t) lines lines' r
  heeds_arrays groups (arrays {gs} h) = groups gs h

  pub heeds_integers : {a : ℕ} {t : Row Item} {lines lines' : List NameRecord} {r : Option ℕ} → ((xs : Row Name) → RowAt NameAt v xs a → Heeds p v ns whole (all_at (of_type IntegerType) xs) lines lines' r) → Stands v i (Integer a) t → Heeds p v ns whole (each in_item t) lines lines' r
  heeds_integers row (integers {xs} h) = row xs h

  pub heeds_booleans : {a : ℕ} {t : Row Item} {lines lines' : List NameRecord} {r : Option ℕ} → ((xs : Row Name) → RowAt NameAt v xs a → Heeds p v ns whole (all_at (of_type BooleanType) xs) lines lines' r) → Stands v i (Boolean a) t → Heeds p v ns whole (each in_item t) lines lines' r
  heeds_booleans row (booleans {xs} h) = row xs h

  pub heeds_switch : {w a : ℕ} {t : Row Item} {lines lines' : List NameRecord} {r : Option ℕ} → ((x : Name) (xs : Row Name) → Named v w x → RowAt NameAt v xs a → Heeds p v ns whole (at (as_switch xs) x ∷ []) lines lines' r) → Stands v i (Switch w a) t → Heeds p v ns whole (each in_item t) lines lines' r
  heeds_switch head (a_switch {x} {xs} n h) = heeds_first (all_at in_switch xs) (head x xs n h) (silent_in_switch xs)

  -- All other nodes declare nothing.
  pub heeds_rest : {n : Node} {t : Row Item} {lines : List NameRecord}
      → ((a b : ℕ) → n ≡ More a b → ⊥) → ((w a : ℕ) → n ≡ Labelled w a → ⊥) → ((q a b : ℕ) → n ≡ Conditional q a b → ⊥) → ((q w a b : ℕ) → n ≡ Repeated q w a b → ⊥)
      → ((a : ℕ) → n ≡ Array a → ⊥) → ((w a : ℕ) → n ≡ Switch w a → ⊥) → ((a : ℕ) → n ≡ Integer a → ⊥) → ((a : ℕ) → n ≡ Boolean a → ⊥)
      → Stands v i n t → Heeds p v ns whole (each in_item t) lines lines None
  heeds_rest m l c f y z e b (a_row u w h k) = absurd (m _ _ refl)
  heeds_rest m l c f y z e b (a_sequence u w h k) = absurd (m _ _ refl)
  heeds_rest m l c f y z e b (a_label u w h) = absurd (l _ _ refl)
  heeds_rest m l c f y z e b (a_condition u h) = absurd (c _ _ _ refl)
  heeds_rest m l c f y z e b (a_repetition u h) = absurd (f _ _ _ _ refl)
  heeds_rest m l c f y z e b (an_assignment {y = q} {e = d}) = heeds_silent (silent_append (in_exp (value_of q)) (in_exp d) (silent_exp (value_of q)) (silent_exp d))
  heeds_rest m l c f y z e b a_jump = heeds_silent (refl, tt)
  heeds_rest m l c f y z e b (a_choice {e = d}) = heeds_silent (refl, silent_exp d)
  heeds_rest m l c f y z e b (an_input {y = q}) = heeds_silent (silent_exp (value_of q))
  heeds_rest m l c f y z e b (a_print {es = es}) = heeds_silent (silent_each in_exp silent_exp es)
  heeds_rest m l c f y z e b a_stop = heeds_silent tt
  heeds_rest m l c f y z e b a_comment = heeds_silent tt
  heeds_rest m l c f y z e b (integers h) = absurd (e _ refl)
  heeds_rest m l c f y z e b (booleans h) = absurd (b _ refl)
  heeds_rest m l c f y z e b (arrays h) = absurd (y _ refl)
  heeds_rest m l c f y z e b (a_switch u h) = absurd (z _ _ refl)
