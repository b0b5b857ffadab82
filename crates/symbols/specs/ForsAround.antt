-- Which fors stand around each label and each go to, and the law of rule 10 in these words: in an accepted tree every for
-- around a label stands around each go to that can lead there, so that a for's body is entered by its for alone.
use Rattle.std.specs.Prelude.{◌≡◌, ℕ, List, [], ◌∷◌, ◌++◌}
use Rattle.grammar.specs.Tree.{Row, Name, Statement, labelled, conditional, repeated, assigned, go, switched, input, printed, stop, sequence, Item, comment, integer, boolean, array, switch, action, Program}
use Rattle.symbols.specs.Occurrences.{each}
use Rattle.symbols.specs.Symbols.{a_label, a_switch, Symbol, symbols, kind_in}
use Rattle.symbols.specs.Rules.{accepted, verdict}
use Rattle.symbols.specs.Laws.{In}

-- A label by its letters, with the fors around it by their places, innermost first.
pub record Label : Type 0 where
  pub letters : List ℕ
  pub fors : List ℕ

abbrev pub labels_in : List ℕ → Statement → List Label
labels_in fs (labelled x s) = record { letters = x.letters; fors = fs } ∷ labels_in fs s
labels_in fs (conditional p a s) = labels_in fs s
labels_in fs (repeated p x es s) = labels_in (p ∷ fs) s
labels_in fs (assigned v a) = []
labels_in fs (go p x) = []
labels_in fs (switched p x i) = []
labels_in fs (input p v) = []
labels_in fs (printed p xs) = []
labels_in fs (stop p) = []
labels_in fs (sequence s t) = labels_in fs s ++ labels_in fs t

-- A go to by the name that it goes to, with the fors around it.
pub record Jump : Type 0 where
  pub name : Name
  pub fors : List ℕ

abbrev pub jumps_in : List ℕ → Statement → List Jump
jumps_in fs (labelled x s) = jumps_in fs s
jumps_in fs (conditional p a s) = jumps_in fs s
jumps_in fs (repeated p x es s) = jumps_in (p ∷ fs) s
jumps_in fs (assigned v a) = []
jumps_in fs (go p x) = record { name = x; fors = fs } ∷ []
jumps_in fs (switched p x i) = record { name = x; fors = fs } ∷ []
jumps_in fs (input p v) = []
jumps_in fs (printed p xs) = []
jumps_in fs (stop p) = []
jumps_in fs (sequence s t) = jumps_in fs s ++ jumps_in fs t

-- What comes of an item that is a statement.
abbrev pub of_statement : {A : Type 0} → (Statement → List A) → Item → List A
of_statement f comment = []
of_statement f (integer xs) = []
of_statement f (boolean xs) = []
of_statement f (array gs) = []
of_statement f (switch x xs) = []
of_statement f (action s) = f s

abbrev pub labels : Program → List Label
labels t = each (of_statement (labels_in [])) t

abbrev pub jumps : Program → List Jump
jumps t = each (of_statement (jumps_in [])) t

-- A go to of this name can lead to the label: it names the label, or a switch whose list has it.
pub data Leads (ss : List Symbol) (x : Name) : List ℕ → Type 0 where
  straight : kind_in ss x.letters ≡ a_label → Leads ss x x.letters
  by_switch : (xs : Row Name) (y : Name) → kind_in ss x.letters ≡ a_switch xs → In y (each (λ z. z ∷ []) xs) → Leads ss x y.letters

-- The fors gs are around: to the fors fs come at most some further in.
abbrev pub AllAround : List ℕ → List ℕ → Type 0
AllAround gs fs = (further : List ℕ) × (fs ≡ further ++ gs)

abbrev pub JumpsLaw : Type 0
JumpsLaw = (t : Program) → verdict t ≡ accepted → (j : Jump) → In j (jumps t) → (l : Label) → In l (labels t) → Leads (symbols t) j.name l.letters → AllAround l.fors j.fors
