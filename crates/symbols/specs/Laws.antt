-- What the answer for a tree means, in words that do not speak of how it is computed: that a refusal is the least broken
-- rule at its earliest place, and what an accepted tree has.
use Rattle.std.specs.Prelude.{◌≡◌, ℕ, ◌+◌, ◌<◌, ◌≤◌, true, List, [], ◌∷◌, ◌++◌, pos, ◌+ℤ◌, ◌-ℤ◌, ◌≤ℤ◌, Some, Option, ◌≢◌}
use Rattle.grammar.specs.Tree.{Row, Name, Bound, Program}
use Rattle.symbols.specs.declared.value_type.ValueType.{ValueType}
use Rattle.symbols.specs.declared.refusal.NameRefusal.{NameRefusal}
use Rattle.symbols.specs.Refusal.{number}
use Rattle.symbols.specs.Occurrences.{Role, as_label, as_switch, as_array, of_type, in_switch, as_target, as_selector, as_variable, as_element, Occurrence, occurrences}
use Rattle.symbols.specs.Symbols.{Kind, a_label, a_switch, an_array, a_variable, definition, declared_type, bound_value, cells, Symbol, count, symbols, kind_in, type_in, named_cells, hidden_cells}
use Rattle.symbols.specs.Rules.{target, is_some, suits, offences, accepted, refused, verdict}

-- x stands in a list.
pub data In {A : Type 0} (x : A) : List A → Type 0 where
  here : {xs : List A} → In x (x ∷ xs)
  later : {y : A} {xs : List A} → In x xs → In x (y ∷ xs)

-- A rule that is broken at place p, no earlier, while those of lesser number are kept.
pub record FirstBroken (t : Program) (r : NameRefusal) (p : ℕ) : Type 0 where
  pub offends : In p (offences t r)
  pub earliest : (q : ℕ) → In q (offences t r) → p ≤ q
  pub least : (q : NameRefusal) → number q < number r → offences t q ≡ []

abbrev pub KeepsAll : Program → Type 0
KeepsAll t = (r : NameRefusal) → offences t r ≡ []

-- A tree is accepted only if it keeps all rules, and refused only for the least that it breaks.
pub record VerdictLaw : Type 0 where
  pub accepts : (t : Program) → verdict t ≡ accepted → KeepsAll t
  pub refuses : (t : Program) (r : NameRefusal) (p : ℕ) → verdict t ≡ refused r p → FirstBroken t r p

-- The cells of the names: they lie one behind the other in the order of the table, and fill the numbers from 0 on.
pub record CellsInOrder (ss : List Symbol) : Type 0 where
  pub apart : (before between after : List Symbol) (s s' : Symbol) → ss ≡ before ++ s ∷ (between ++ s' ∷ after) → s.first + count s ≤ s'.first
  pub within : (s : Symbol) → In s ss → s.first + count s ≤ named_cells ss
  pub filled : (c : ℕ) → c < named_cells ss → (s : Symbol) × In s ss × (s.first ≤ c) × (c < s.first + count s)

-- No two lines of the table have the same letters.
abbrev pub LinesDiffer : List Symbol → Type 0
LinesDiffer ss = (before between after : List Symbol) (s s' : Symbol) → ss ≡ before ++ s ∷ (between ++ s' ∷ after) → s.name.letters ≢ s'.name.letters

-- Of every tree: each name that stands in it has a line of its own, and cells of its own.
pub record TableLaw : Type 0 where
  pub line : (t : Program) (o : Occurrence) → In o (occurrences t) → (s : Symbol) × In s (symbols t) × (s.name.letters ≡ o.name.letters)
  pub lines_differ : (t : Program) → LinesDiffer (symbols t)
  pub cells : (t : Program) → CellsInOrder (symbols t)

abbrev pub EnoughCells : Type 0
EnoughCells = (t : Program) → verdict t ≡ accepted → named_cells (symbols t) + hidden_cells t ≤ 2048

-- Two occurrences of the same letters, one before the other.
pub record Twice (os : List Occurrence) (o o' : Occurrence) : Type 0 where
  pub before : List Occurrence
  pub between : List Occurrence
  pub after : List Occurrence
  pub whole : os ≡ before ++ o ∷ (between ++ o' ∷ after)
  pub same : o'.name.letters ≡ o.name.letters

abbrev pub Says : {A : Type 0} → (Role → Option A) → Occurrence → Type 0
Says f o = is_some (f o.role) ≡ true

-- What each use wants of what its name is: a switch's list and a go to want a label, a go to with a subscript a switch,
-- a variable a simple variable, and a variable with a subscript an array. A definition and a type's list want nothing.
abbrev pub Wants : Role → Kind → Type 0
Wants as_label k = Unit {0}
Wants (as_switch xs) k = Unit {0}
Wants (as_array l h) k = Unit {0}
Wants (of_type t) k = Unit {0}
Wants in_switch k = k ≡ a_label
Wants as_target k = k ≡ a_label
Wants as_selector k = (xs : Row Name) × (k ≡ a_switch xs)
Wants as_variable k = k ≡ a_variable
Wants as_element k = (l h : Bound) × (k ≡ an_array l h)

-- Of an accepted tree: a name is defined once at most and typed once at most, labels and switches have no type, the
-- table has the one definition and the one type, and every use agrees with it.
pub record NamesAgree (t : Program) : Type 0 where
  pub defined_once : (o o' : Occurrence) → Twice (occurrences t) o o' → Says definition o → Says definition o' → ⊥
  pub typed_once : (o o' : Occurrence) → Twice (occurrences t) o o' → Says declared_type o → Says declared_type o' → ⊥
  pub targets_untyped : (o o' : Occurrence) → In o (occurrences t) → In o' (occurrences t) → o'.name.letters ≡ o.name.letters → Says declared_type o → Says target o' → ⊥
  pub kind_is : (o : Occurrence) (k : Kind) → In o (occurrences t) → definition o.role ≡ Some k → kind_in (symbols t) o.name.letters ≡ k
  pub type_is : (o : Occurrence) (y : ValueType) → In o (occurrences t) → declared_type o.role ≡ Some y → type_in (symbols t) o.name.letters ≡ y
  pub uses_suit : (o : Occurrence) → In o (occurrences t) → suits (kind_in (symbols t) o.name.letters) o.role ≡ true
  pub uses_want : (o : Occurrence) → In o (occurrences t) → Wants o.role (kind_in (symbols t) o.name.letters)

-- An array's bounds are in order and near enough to 0, and its cells are as many as its subscripts, at least one.
pub record BoundsInRange (l h : Bound) : Type 0 where
  pub in_order : bound_value l ≤ℤ bound_value h
  pub low_near : l.size ≤ 9999
  pub high_near : h.size ≤ 9999
  pub as_many : pos (cells (an_array l h)) ≡ bound_value h -ℤ bound_value l +ℤ pos 1
  pub at_least_one : 1 ≤ cells (an_array l h)

abbrev pub BoundsLaw : Type 0
BoundsLaw = (t : Program) → verdict t ≡ accepted → (o : Occurrence) (l h : Bound) → In o (occurrences t) → o.role ≡ as_array l h → BoundsInRange l h

abbrev pub NamesLaw : Type 0
NamesLaw = (t : Program) → verdict t ≡ accepted → NamesAgree t
