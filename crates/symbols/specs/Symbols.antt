-- The symbol table of a text: what each of its names is, its type and its cells. Declarations are heeded wherever they
-- stand in the text, since every question is put to the list of all occurrences. A reader must believe what a name's
-- definition is, and how cells are numbered.
use Rattle.std.specs.Prelude.{ℕ, ◌+◌, Bool, true, false, cond, List, [], ◌∷◌, ◌++◌, length, ℤ, pos, negsuc, ◌+ℤ◌, ◌-ℤ◌, neg_ℤ, Some, None, Option}
use Rattle.std.specs.Str.{bytes_eq}
use Rattle.words.specs.declared.token.Sign.{Sign}
use Rattle.words.specs.declared.token.Sign.TheVariants.{Plus, Minus}
use Rattle.grammar.specs.Tree.{Row, Name, Bound, Program}
use Rattle.symbols.specs.declared.value_type.ValueType.{ValueType}
use Rattle.symbols.specs.declared.value_type.ValueType.TheVariants.{Untyped}
use Rattle.symbols.specs.Occurrences.{Role, as_label, as_switch, as_array, of_type, in_switch, as_target, as_selector, as_variable, as_element, Occurrence, occurrences, fors}

-- What a name is: a label, a switch with its list of labels, an array with its lower and upper bound, or a simple
-- variable.
pub data Kind : Type 0 where
  a_label : Kind
  a_switch : Row Name → Kind
  an_array : Bound → Bound → Kind
  a_variable : Kind

-- A name before a colon is defined as a label, switch and array declarations define theirs; nothing else defines.
abbrev pub definition : Role → Option Kind
definition as_label = Some a_label
definition (as_switch xs) = Some (a_switch xs)
definition (as_array l h) = Some (an_array l h)
definition (of_type t) = None
definition in_switch = None
definition as_target = None
definition as_selector = None
definition as_variable = None
definition as_element = None

-- A type's list gives its names their type.
abbrev pub declared_type : Role → Option ValueType
declared_type as_label = None
declared_type (as_switch xs) = None
declared_type (as_array l h) = None
declared_type (of_type t) = Some t
declared_type in_switch = None
declared_type as_target = None
declared_type as_selector = None
declared_type as_variable = None
declared_type as_element = None

-- What the first occurrence of these letters that says anything says of them.
abbrev pub or_else : {A : Type 0} → Option A → Option A → Option A
or_else (Some x) o = Some x
or_else None o = o

abbrev pub first_said : {A : Type 0} → (Role → Option A) → List Occurrence → List ℕ → Option A
first_said f [] x = None
first_said f (o ∷ os) x = cond (bytes_eq x o.name.letters) (or_else (f o.role) (first_said f os x)) (first_said f os x)

-- A name that is not defined is a simple variable, and one in no type's list has no type.
abbrev pub or_variable : Option Kind → Kind
or_variable (Some k) = k
or_variable None = a_variable

abbrev pub or_untyped : Option ValueType → ValueType
or_untyped (Some t) = t
or_untyped None = Untyped

abbrev pub kind_of : List Occurrence → List ℕ → Kind
kind_of os x = or_variable (first_said definition os x)

abbrev pub type_of : List Occurrence → List ℕ → ValueType
type_of os x = or_untyped (first_said declared_type os x)

-- The number that a bound is, and how many subscripts lie between two.
abbrev pub signed : Sign → ℕ → ℤ
signed Plus n = pos n
signed Minus n = neg_ℤ (pos n)

abbrev pub bound_value : Bound → ℤ
bound_value b = signed b.sign b.size

abbrev pub at_least_zero : ℤ → ℕ
at_least_zero (pos n) = n
at_least_zero (negsuc n) = 0

abbrev pub extent : ℤ → ℤ → ℕ
extent l h = at_least_zero (h -ℤ l +ℤ pos 1)

-- A simple variable has one cell, an array one for each subscript, labels and switches have none.
abbrev pub cells : Kind → ℕ
cells a_label = 0
cells (a_switch xs) = 0
cells (an_array l h) = extent (bound_value l) (bound_value h)
cells a_variable = 1

-- The lowest subscript; a simple variable is told by the subscript 0.
abbrev pub low_bound : Kind → ℤ
low_bound a_label = pos 0
low_bound (a_switch xs) = pos 0
low_bound (an_array l h) = bound_value l
low_bound a_variable = pos 0

-- A line of the table: the name where it first appears, what it is, its type, and its first cell. An array's lowest
-- subscript has the first cell.
pub record Symbol : Type 0 where
  pub name : Name
  pub kind : Kind
  pub type : ValueType
  pub first : ℕ

abbrev pub count : Symbol → ℕ
count s = cells s.kind

-- The names of some occurrences, each where it first appears.
abbrev pub has_name : List Name → List ℕ → Bool
has_name [] x = false
has_name (n ∷ ns) x = cond (bytes_eq x n.letters) true (has_name ns x)

abbrev pub with_name : List Name → Name → List Name
with_name ns n = cond (has_name ns n.letters) ns (ns ++ n ∷ [])

abbrev pub names_from : List Name → List Occurrence → List Name
names_from ns [] = ns
names_from ns (o ∷ os) = names_from (with_name ns o.name) os

abbrev pub names : Program → List Name
names t = names_from [] (occurrences t)

-- A name's line, if its cells begin at c. The cells of the names follow one another in the order of first appearance.
abbrev pub line : List Occurrence → ℕ → Name → Symbol
line os c n = record { name = n; kind = kind_of os n.letters; type = type_of os n.letters; first = c }

abbrev pub numbered : List Occurrence → ℕ → List Name → List Symbol
numbered os c [] = []
numbered os c (n ∷ ns) = line os c n ∷ numbered os (c + cells (kind_of os n.letters)) ns

abbrev pub symbols : Program → List Symbol
symbols t = numbered (occurrences t) 0 (names t)

-- The line of these letters.
abbrev pub lookup : List Symbol → List ℕ → Option Symbol
lookup [] x = None
lookup (s ∷ ss) x = cond (bytes_eq x s.name.letters) (Some s) (lookup ss x)

-- What the table says of these letters. Those of no line would be a simple variable with no type, at cell 0.
abbrev pub said : {A : Type 0} → (Symbol → A) → A → Option Symbol → A
said f d (Some s) = f s
said f d None = d

abbrev pub kind_in : List Symbol → List ℕ → Kind
kind_in ss x = said (λ s. s.kind) a_variable (lookup ss x)

abbrev pub type_in : List Symbol → List ℕ → ValueType
type_in ss x = said (λ s. s.type) Untyped (lookup ss x)

abbrev pub first_cell : List Symbol → List ℕ → ℕ
first_cell ss x = said (λ s. s.first) 0 (lookup ss x)

-- Named cells come first, from 0 on; then one hidden cell for each for, in the order of the text.
abbrev pub named_cells : List Symbol → ℕ
named_cells [] = 0
named_cells (s ∷ ss) = count s + named_cells ss

abbrev pub hidden_cells : Program → ℕ
hidden_cells t = length (fors t)
