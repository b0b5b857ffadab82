-- Where a run stands: at the end, or before a step, with all that comes after it. A continuation says what comes after a
-- statement, from the inside out; that is where the list element in use of each for around it is kept.
use Rattle.std.specs.Prelude.{ℕ, zero, suc, cond, List, [], ◌∷◌, ◌++◌, ℤ, pos, negsuc, Some, None, Option}
use Rattle.std.specs.Str.{bytes_eq}
use Rattle.grammar.specs.Tree.{Row, one, more, Name, Exp, Variable, Element, single, progression, Statement, labelled, conditional, repeated, assigned, go, switched, input, printed, stop, sequence, Item, comment, integer, boolean, array, switch, action, Program}

-- The first of a row, and those after it.
abbrev pub first : {A : Type 0} → Row A → A
first (one x) = x
first (more xs x) = first xs

abbrev pub later : {A : Type 0} → Row A → List A
later (one x) = []
later (more xs x) = later xs ++ (x ∷ [])

-- What stays the same through all turns of a for: its place, its control variable, and the statement that it repeats.
pub record Loop : Type 0 where
  pub place : ℕ
  pub control : Name
  pub body : Statement

-- What comes after a statement: nothing; another statement of its block; or, after the body of a for, that for's next
-- step, with the list element in use and those after it.
pub data Continuation : Type 0 where
  nothing : Continuation
  rest : Statement → Continuation → Continuation
  turn : Loop → Element → List Element → Continuation → Continuation

-- A position: the end, or one constructor for each kind of step. A number is the place of the statement. Of a print the
-- expression to post now comes first, then those after it. A for has three kinds of steps: the first assignment for an
-- element; for a progression, of which from, step and limit stand there, the addition and the test.
pub data Position : Type 0 where
  end : Position
  at_assignment : Variable → Exp → Continuation → Position
  at_go : ℕ → Name → Continuation → Position
  at_switch : ℕ → Name → Exp → Continuation → Position
  at_if : ℕ → Exp → Statement → Continuation → Position
  at_input : ℕ → Variable → Continuation → Position
  at_print : ℕ → Exp → List Exp → Continuation → Position
  at_stop : ℕ → Position
  at_element : Loop → Element → List Element → Continuation → Position
  at_addition : Loop → Exp → Exp → Exp → List Element → Continuation → Position
  at_test : Loop → Exp → Exp → Exp → List Element → Continuation → Position

-- The first step of a statement. Labels and begin cost no step.
abbrev pub enter : Statement → Continuation → Position
enter (labelled l s) k = enter s k
enter (sequence a b) k = enter a (rest b k)
enter (assigned v e) k = at_assignment v e k
enter (go p l) k = at_go p l k
enter (switched p x e) k = at_switch p x e k
enter (conditional p e s) k = at_if p e s k
enter (input p v) k = at_input p v k
enter (printed p es) k = at_print p (first es) (later es) k
enter (stop p) k = at_stop p
enter (repeated p x es s) k = at_element (record { place = p; control = x; body = s }) (first es) (later es) k

-- The next of a for's elements, or what comes after the last.
abbrev pub next_element : Loop → Continuation → Position → List Element → Position
next_element loop k out [] = out
next_element loop k out (e ∷ es) = at_element loop e es k

-- The step after a statement. After the body of a for, a single figure is used up; a progression is added to.
abbrev pub leave : Continuation → Position
leave nothing = end
leave (rest s k) = enter s k
leave (turn loop (single e) es k) = next_element loop k (leave k) es
leave (turn loop (progression a s b) es k) = at_addition loop a s b es k

-- The next figure of a print, or what comes after the last.
abbrev pub next_print : ℕ → Continuation → List Exp → Position
next_print p k [] = leave k
next_print p k (e ∷ es) = at_print p e es k

-- The statement that the label l names inside a statement, but not inside the bodies of its fors; else o.
abbrev pub find : List ℕ → Statement → Continuation → Position → Position
find l (labelled m s) k o = cond (bytes_eq l m.letters) (enter s k) (find l s k o)
find l (sequence a b) k o = find l a (rest b k) (find l b k o)
find l (conditional p e s) k o = find l s k o
find l (repeated p x es s) k o = o
find l (assigned v e) k o = o
find l (go p m) k o = o
find l (switched p x e) k o = o
find l (input p v) k o = o
find l (printed p es) k o = o
find l (stop p) k o = o

abbrev pub find_in_text : List ℕ → Option Statement → Position
find_in_text l None = end
find_in_text l (Some s) = find l s nothing end

-- Where go to l leads. A label inside the body of a for is named from inside that body only; so it is looked for in the
-- bodies around, the nearest first, and then in the whole text. The fors around it keep their elements.
abbrev pub destination : Option Statement → List ℕ → Continuation → Position
destination text l nothing = find_in_text l text
destination text l (rest s k) = destination text l k
destination text l (turn loop e es k) = find l loop.body (turn loop e es k) (destination text l k)

-- The k-th of a list, k from 1, where there is one.
abbrev pub nth : {A : Type 0} → List A → ℕ → Option A
nth [] n = None
nth (x ∷ xs) zero = Some x
nth (x ∷ xs) (suc n) = nth xs n

abbrev pub kth : {A : Type 0} → List A → ℤ → Option A
kth xs (pos zero) = None
kth xs (pos (suc n)) = nth xs n
kth xs (negsuc n) = None

-- The statements of a text, one after the other, where it has any. Declarations and comments cost no step.
abbrev pub statement_of : Item → Option Statement
statement_of (action s) = Some s
statement_of comment = None
statement_of (integer xs) = None
statement_of (boolean xs) = None
statement_of (array gs) = None
statement_of (switch x ls) = None

abbrev pub followed_by : Option Statement → Option Statement → Option Statement
followed_by None b = b
followed_by (Some a) None = Some a
followed_by (Some a) (Some b) = Some (sequence a b)

abbrev pub statements : Program → Option Statement
statements (one i) = statement_of i
statements (more is i) = followed_by (statements is) (statement_of i)

-- A run begins at the first statement, or at the end without one.
abbrev pub beginning : Option Statement → Position
beginning None = end
beginning (Some s) = enter s nothing
