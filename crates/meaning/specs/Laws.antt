-- Laws of the statement machine, in the words of those who rely on it, for every kind of figures, every table of names and
-- every text. Rolls come in as what they mean, a list of figures and an ending.
use Rattle.std.specs.Prelude.{◌≡◌, ℕ, suc, ◌+◌, ◌<◌, ◌≤◌, Bool, false, List, ◌++◌, length, Some, None, Option}
use Rattle.grammar.specs.Tree.{Row, Name, Exp, Variable, Element, Statement, labelled, conditional, repeated, assigned, switched, input, sequence}
use Rattle.figures.specs.Kinds.{Kind, value}
use Rattle.symbols.specs.Jumps.{open_labels, is_among}
use Rattle.rolls.specs.Contents.{Contents}
use Rattle.meaning.specs.Names.{Names}
use Rattle.meaning.specs.Expressions.{figure_in}
use Rattle.meaning.specs.Positions.{Loop, Continuation, rest, turn, at_go, at_switch, enter, leave, kth}
use Rattle.meaning.specs.Machine.{Memory, State, Fault, next, faults, state, variable_name, figure_of, step}
use Rattle.meaning.specs.Runs.{initial, Final, faulted, over, Steps, Finishes, advance}

-- The names in which a statement, or a statement inside it, stores figures: as the place of an assignment or of an `in`,
-- or as the control variable of a for.
pub data Stores : Statement → List ℕ → Type 0 where
  by_assignment : {v : Variable} {e : Exp} → Stores (assigned v e) (variable_name v).letters
  by_input : {p : ℕ} {v : Variable} → Stores (input p v) (variable_name v).letters
  by_for : {p : ℕ} {x : Name} {es : Row Element} {s : Statement} → Stores (repeated p x es s) x.letters
  in_body : {p : ℕ} {y : Name} {es : Row Element} {s : Statement} {x : List ℕ} → Stores s x → Stores (repeated p y es s) x
  behind_label : {l : Name} {s : Statement} {x : List ℕ} → Stores s x → Stores (labelled l s) x
  behind_if : {p : ℕ} {e : Exp} {s : Statement} {x : List ℕ} → Stores s x → Stores (conditional p e s) x
  in_first : {a b : Statement} {x : List ℕ} → Stores a x → Stores (sequence a b) x
  in_second : {a b : Statement} {x : List ℕ} → Stores b x → Stores (sequence a b) x

-- The cells of a name.
pub data HasCell (names : Names) (x : List ℕ) : ℕ → Type 0 where
  the_first : HasCell names x (names.extent x).first
  an_element : (d : ℕ) → d < (names.extent x).count → HasCell names x ((names.extent x).first + d)

-- No statement of the text names the cell c as a place, control variable or `in`.
abbrev pub NeverStored : Names → Option Statement → ℕ → Type 0
NeverStored names None c = Unit {0}
NeverStored names (Some s) c = (x : List ℕ) → Stores s x → HasCell names x c → ⊥

-- Does a label stand in a statement, outside of the bodies of its fors?
abbrev pub has_label : List ℕ → Statement → Bool
has_label l s = is_among (open_labels s) l

-- From the surroundings k out to the surroundings j: rests of blocks are passed, and fors whose bodies have no label l.
pub data OutOf (l : List ℕ) (j : Continuation) : Continuation → Type 0 where
  out : OutOf l j j
  of_block : {s : Statement} {k : Continuation} → OutOf l j k → OutOf l j (rest s k)
  of_for : {loop : Loop} {e : Element} {es : List Element} {k : Continuation}
      → has_label l loop.body ≡ false → OutOf l j k → OutOf l j (turn loop e es k)

-- What n steps may do to the book: so many figures more, at its end.
pub record BookGrows {V : Type 0} (n : ℕ) (before after : Memory V) : Type 0 where
  pub added : List V
  pub few : length added ≤ n
  pub at_the_end : after.posted ≡ before.posted ++ added
  pub same_length : after.book_length ≡ before.book_length

-- What n steps may do to the roll: so many figures fewer, from its front; its ending stays.
pub record RollShrinks {V : Type 0} (n : ℕ) (before after : Memory V) : Type 0 where
  pub taken : List V
  pub few : length taken ≤ n
  pub from_the_front : before.roll.figures ≡ taken ++ after.roll.figures
  pub same_ending : after.roll.ending ≡ before.roll.ending

module _ {V : Type 0} (kind : Kind V) (names : Names) (text : Option Statement) where
  -- A run is determined by its start: so many steps lead to one state, and a run is over in one way, after one number of
  -- steps. Counting steps up to a limit finds just these.
  pub record Determined : Type 0 where
    pub one_state : (s t u : State V) (n : ℕ) → Steps kind names text s n t → Steps kind names text s n u → t ≡ u
    pub one_finish : (s t u : State V) (n m : ℕ) (f g : Final) → Finishes kind names text s n t f → Finishes kind names text s m u g
        → (n ≡ m) × (t ≡ u) × (f ≡ g)
    pub steps_made : (n : ℕ) (s : State V) → Steps kind names text s (advance kind names text n s).made (advance kind names text n s).reached
    pub finish_found : (n m : ℕ) (s t : State V) (f : Final) → Finishes kind names text s n t f → n < m
        → advance kind names text m s ≡ record { made = n; reached = t; status = over f }

  -- A step that faults changes nothing, and faults again in the same way however often it is tried.
  abbrev pub FaultsStay : Type 0
  FaultsStay = (s : State V) (f : Fault) → step kind names text s ≡ faults f
      → (n : ℕ) → advance kind names text (suc n) s ≡ record { made = 0; reached = s; status = over (faulted f) }

  -- The book only grows, at its end, and by one figure a step at most.
  abbrev pub BookLaw : Type 0
  BookLaw = (s t : State V) (n : ℕ) → Steps kind names text s n t → BookGrows n s.memory t.memory

  -- The roll only loses figures, from its front, and one a step at most.
  abbrev pub RollLaw : Type 0
  RollLaw = (s t : State V) (n : ℕ) → Steps kind names text s n t → RollShrinks n s.memory t.memory

  -- A switch without a k-th label leads to where the run would be with no go to there at all: before another statement of
  -- the same block, to that statement; else to what stands after the go to.
  pub record SwitchLaw : Type 0 where
    pub goes_on : (m : Memory V) (p : ℕ) (x : Name) (e : Exp) (k : Continuation) (v : V) → figure_of kind names text m e ≡ value v
        → kth (names.labels x.letters) (kind.nearest v) ≡ None
        → step kind names text (state m (enter (switched p x e) k)) ≡ next (state m (leave k))
    pub as_without : (m : Memory V) (p : ℕ) (x : Name) (e : Exp) (s : Statement) (k : Continuation) (v : V) → figure_of kind names text m e ≡ value v
        → kth (names.labels x.letters) (kind.nearest v) ≡ None
        → step kind names text (state m (enter (sequence (switched p x e) s) k)) ≡ next (state m (enter s k))

  -- A go to out of a loop leaves nothing of the loop behind: it leads where a go to outside of the loop would lead, so
  -- to the same state whichever list elements were in use.
  pub record JumpLaw : Type 0 where
    pub as_from_outside : (m : Memory V) (p : ℕ) (l : Name) (j k : Continuation) → OutOf l.letters j k
        → step kind names text (state m (at_go p l k)) ≡ step kind names text (state m (at_go p l j))
    pub switched_as_from_outside : (m : Memory V) (p : ℕ) (x : Name) (e : Exp) (v : V) (l : List ℕ) (j k : Continuation) → figure_of kind names text m e ≡ value v
        → kth (names.labels x.letters) (kind.nearest v) ≡ Some l → OutOf l j k
        → step kind names text (state m (at_switch p x e k)) ≡ step kind names text (state m (at_switch p x e j))
    pub whichever_element : (m : Memory V) (p : ℕ) (l : Name) (loop : Loop) (d e : Element) (ds es : List Element) (k : Continuation)
        → has_label l.letters loop.body ≡ false
        → step kind names text (state m (at_go p l (turn loop d ds k))) ≡ step kind names text (state m (at_go p l (turn loop e es k)))

  -- A cell that no statement names as a place, control variable or `in` keeps its figure through every run of the text;
  -- and there are as many cells as before.
  pub record CellsLaw : Type 0 where
    pub kept : (c : ℕ) → NeverStored names text c → (cells : List V) (roll : Contents V) (room n : ℕ) (t : State V)
        → Steps kind names text (initial text cells roll room) n t → figure_in kind t.memory.cells c ≡ figure_in kind cells c
    pub as_many : (s t : State V) (n : ℕ) → Steps kind names text s n t → length t.memory.cells ≡ length s.memory.cells

-- All laws, for one kind of figures.
pub record Laws {V : Type 0} (kind : Kind V) : Type 0 where
  pub determined : (names : Names) (text : Option Statement) → Determined kind names text
  pub faults_stay : (names : Names) (text : Option Statement) → FaultsStay kind names text
  pub book : (names : Names) (text : Option Statement) → BookLaw kind names text
  pub roll : (names : Names) (text : Option Statement) → RollLaw kind names text
  pub switch : (names : Names) (text : Option Statement) → SwitchLaw kind names text
  pub jump : (names : Names) (text : Option Statement) → JumpLaw kind names text
  pub cells : (names : Names) (text : Option Statement) → CellsLaw kind names text
