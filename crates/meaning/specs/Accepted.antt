-- What the rules on names and jumps give to the runs of an accepted text: each go to leads to the statement behind its
-- label, so that no run ends for want of one; and every cell that the text names is among the named cells.
use Rattle.std.specs.Prelude.{◌≡◌, ℕ, ◌<◌, List, ℤ, Some, None, Option}
use Rattle.grammar.specs.Tree.{Row, Name, Exp, Element, Statement, labelled, conditional, repeated, sequence, Program}
use Rattle.symbols.specs.Occurrences.{as_variable, as_element, at, occurrences}
use Rattle.symbols.specs.Symbols.{symbols, named_cells}
use Rattle.symbols.specs.Rules.{accepted, verdict}
use Rattle.symbols.specs.Laws.{In}
use Rattle.figures.specs.Kinds.{Kind, value}
use Rattle.rolls.specs.Contents.{Contents}
use Rattle.meaning.specs.Names.{names_of}
use Rattle.meaning.specs.Expressions.{element_cell}
use Rattle.meaning.specs.Positions.{Continuation, Position, at_go, at_switch, enter, destination, statements}
use Rattle.meaning.specs.Machine.{State}
use Rattle.meaning.specs.Runs.{initial, Steps}

-- The statement s stands behind the label l in another statement, at whatever depth.
pub data Stands (l : List ℕ) (s : Statement) : Statement → Type 0 where
  label_here : {m : Name} → l ≡ m.letters → Stands l s (labelled m s)
  past_label : {m : Name} {r : Statement} → Stands l s r → Stands l s (labelled m r)
  past_if : {p : ℕ} {e : Exp} {r : Statement} → Stands l s r → Stands l s (conditional p e r)
  past_for : {p : ℕ} {x : Name} {es : Row Element} {r : Statement} → Stands l s r → Stands l s (repeated p x es r)
  in_front : {a b : Statement} → Stands l s a → Stands l s (sequence a b)
  at_back : {a b : Statement} → Stands l s b → Stands l s (sequence a b)

abbrev pub StandsInText : List ℕ → Statement → Option Statement → Type 0
StandsInText l s None = ⊥
StandsInText l s (Some r) = Stands l s r

-- A position is the first step of a statement behind the label l.
pub record Lands (text : Option Statement) (l : List ℕ) (p : Position) : Type 0 where
  pub statement : Statement
  pub surroundings : Continuation
  pub stands : StandsInText l statement text
  pub lands : p ≡ enter statement surroundings

-- The state u is reached by a run of the accepted text t.
pub record Reached {V : Type 0} (kind : Kind V) (t : Program) (u : State V) : Type 0 where
  pub is_accepted : verdict t ≡ accepted
  pub cells : List V
  pub roll : Contents V
  pub book_length : ℕ
  pub count : ℕ
  pub steps : Steps kind (names_of t) (statements t) (initial (statements t) cells roll book_length) count u

-- Wherever a run of an accepted text comes to a go to, its label is found, and so is every label of its switch.
pub record LandingLaw {V : Type 0} (kind : Kind V) : Type 0 where
  pub go_lands : (t : Program) (u : State V) → Reached kind t u → (p : ℕ) (l : Name) (k : Continuation) → u.position ≡ at_go p l k
      → Lands (statements t) l.letters (destination (statements t) l.letters k)
  pub switch_lands : (t : Program) (u : State V) → Reached kind t u → (p : ℕ) (x : Name) (e : Exp) (k : Continuation) → u.position ≡ at_switch p x e k
      → (l : List ℕ) → In l ((names_of t).labels x.letters) → Lands (statements t) l (destination (statements t) l k)

-- The cell of a simple variable, and that of an element whose subscript passes the test, is one of the named cells.
pub record CellsThere (t : Program) : Type 0 where
  pub simple : (x : Name) → In (at as_variable x) (occurrences t) → ((names_of t).extent x.letters).first < named_cells (symbols t)
  pub element : (x : Name) (k : ℤ) (c : ℕ) → In (at as_element x) (occurrences t) → element_cell ((names_of t).extent x.letters) k ≡ value c
      → c < named_cells (symbols t)

abbrev pub StorageLaw : Type 0
StorageLaw = (t : Program) → verdict t ≡ accepted → CellsThere t
