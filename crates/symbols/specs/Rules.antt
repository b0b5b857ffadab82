-- The rules on names and cells, each as the list of its offences by their places, and the answer for a tree: the rule
-- of the least number that is broken, told at its earliest offence. Rules 9 and 10 stand in files of their own.
use Rattle.std.specs.Prelude.{ℕ, ◌+◌, min, Bool, true, false, not, ◌&&◌, ◌||◌, List, [], ◌∷◌, ◌++◌, map, Some, None, Option, int_le, nat_le, nat_lt}
use Rattle.grammar.specs.Tree.{Bound, Group, Item, comment, integer, boolean, array, switch, action, Program}
use Rattle.symbols.specs.declared.refusal.NameRefusal.{NameRefusal}
use Rattle.symbols.specs.declared.refusal.NameRefusal.TheVariants.{SecondDefinition, MisusedName, WrongType, JumpIntoFor, WrongBounds, TooManyCells}
use Rattle.symbols.specs.Occurrences.{Role, as_label, as_switch, as_array, of_type, in_switch, as_target, as_selector, as_variable, as_element, Occurrence, each, occurrences, fors}
use Rattle.symbols.specs.Symbols.{Kind, a_label, a_switch, an_array, a_variable, definition, declared_type, first_said, Symbol, count, symbols, kind_in, bound_value}
use Rattle.symbols.specs.Types.{told, wrong_types}
use Rattle.symbols.specs.Jumps.{is_label, wrong_jumps}

-- Does any of these occurrences say something of the letters?
abbrev pub is_some : {A : Type 0} → Option A → Bool
is_some (Some x) = true
is_some None = false

abbrev pub is_defined : List Occurrence → List ℕ → Bool
is_defined os x = is_some (first_said definition os x)

abbrev pub is_typed : List Occurrence → List ℕ → Bool
is_typed os x = is_some (first_said declared_type os x)

-- Labels and switches, to which control goes.
abbrev pub target : Role → Option Role
target as_label = Some as_label
target (as_switch xs) = Some (as_switch xs)
target (as_array l h) = None
target (of_type t) = None
target in_switch = None
target as_target = None
target as_selector = None
target as_variable = None
target as_element = None

abbrev pub is_target : List Occurrence → List ℕ → Bool
is_target os x = is_some (first_said target os x)

-- Rule 7: a definition of a name that is defined before it; a name in a type's list that has a type before it, or that
-- is a label or a switch anywhere in the text.
abbrev pub defines_again : (whole before : List Occurrence) → List ℕ → Role → Bool
defines_again whole before x as_label = is_defined before x
defines_again whole before x (as_switch xs) = is_defined before x
defines_again whole before x (as_array l h) = is_defined before x
defines_again whole before x (of_type t) = is_typed before x || is_target whole x
defines_again whole before x in_switch = false
defines_again whole before x as_target = false
defines_again whole before x as_selector = false
defines_again whole before x as_variable = false
defines_again whole before x as_element = false

abbrev pub second_definitions : (whole before rest : List Occurrence) → List ℕ
second_definitions whole before [] = []
second_definitions whole before (o ∷ os) =
    told (defines_again whole before o.name.letters o.role) o.name.place
    ++ second_definitions whole (before ++ o ∷ []) os

-- Rule 8: a name used against what it is. A switch's list and a go to want a label, a go to with a subscript a switch;
-- as variables stand only simple variables, and with a subscript only arrays.
abbrev pub is_switch : Kind → Bool
is_switch a_label = false
is_switch (a_switch xs) = true
is_switch (an_array l h) = false
is_switch a_variable = false

abbrev pub is_array : Kind → Bool
is_array a_label = false
is_array (a_switch xs) = false
is_array (an_array l h) = true
is_array a_variable = false

abbrev pub is_variable : Kind → Bool
is_variable a_label = false
is_variable (a_switch xs) = false
is_variable (an_array l h) = false
is_variable a_variable = true

abbrev pub suits : Kind → Role → Bool
suits k as_label = true
suits k (as_switch xs) = true
suits k (as_array l h) = true
suits k (of_type t) = true
suits k in_switch = is_label k
suits k as_target = is_label k
suits k as_selector = is_switch k
suits k as_variable = is_variable k
suits k as_element = is_array k

abbrev pub misused_names : List Symbol → List Occurrence → List ℕ
misused_names ss [] = []
misused_names ss (o ∷ os) = told (not (suits (kind_in ss o.name.letters) o.role)) o.name.place ++ misused_names ss os

-- Rule 11: bounds that are reversed, or of which one lies beyond 9,999 either way, told at their `[`.
abbrev pub bounds_ok : Bound → Bound → Bool
bounds_ok l h = int_le (bound_value l) (bound_value h) && (nat_le l.size 9999 && nat_le h.size 9999)

abbrev pub group_bounds : Group → List ℕ
group_bounds g = told (not (bounds_ok g.low g.high)) g.bracket

abbrev pub item_bounds : Item → List ℕ
item_bounds comment = []
item_bounds (integer xs) = []
item_bounds (boolean xs) = []
item_bounds (array gs) = each group_bounds gs
item_bounds (switch x xs) = []
item_bounds (action s) = []

abbrev pub wrong_bounds : Program → List ℕ
wrong_bounds t = each item_bounds t

-- Rule 12: what takes the count of cells past 2,048. Cells are counted as they are numbered: those of the names, each
-- told at its first appearance, then one for each for.
pub record Claim : Type 0 where
  pub place : ℕ
  pub cells : ℕ

abbrev pub claims : List Symbol → List ℕ → List Claim
claims ss ps = map (λ s. record { place = s.name.place; cells = count s }) ss ++ map (λ p. record { place = p; cells = 1 }) ps

abbrev pub most_cells : ℕ
most_cells = 2048

abbrev pub passing_claims : ℕ → List Claim → List ℕ
passing_claims c [] = []
passing_claims c (k ∷ ks) =
    told (nat_le c most_cells && nat_lt most_cells (c + k.cells)) k.place ++ passing_claims (c + k.cells) ks

-- The offences against each rule.
abbrev pub offences : Program → NameRefusal → List ℕ
offences t SecondDefinition = second_definitions (occurrences t) [] (occurrences t)
offences t MisusedName = misused_names (symbols t) (occurrences t)
offences t WrongType = wrong_types (symbols t) t
offences t JumpIntoFor = wrong_jumps (symbols t) t
offences t WrongBounds = wrong_bounds t
offences t TooManyCells = passing_claims 0 (claims (symbols t) (fors t))

-- What is told of a tree: nothing, or the rule that it breaks and the place.
pub data Verdict : Type 0 where
  accepted : Verdict
  refused : NameRefusal → ℕ → Verdict

abbrev pub earliest : ℕ → List ℕ → ℕ
earliest p [] = p
earliest p (q ∷ qs) = earliest (min p q) qs

-- A rule that is broken is told at its earliest offence, one that is kept leaves the word to the next.
abbrev pub or_next : NameRefusal → List ℕ → Verdict → Verdict
or_next r [] next = next
or_next r (p ∷ ps) next = refused r (earliest p ps)

abbrev pub first_broken : Program → List NameRefusal → Verdict
first_broken t [] = accepted
first_broken t (r ∷ rs) = or_next r (offences t r) (first_broken t rs)

-- The rules by their numbers, and the answer.
abbrev pub rules : List NameRefusal
rules = SecondDefinition ∷ (MisusedName ∷ (WrongType ∷ (JumpIntoFor ∷ (WrongBounds ∷ (TooManyCells ∷ [])))))

unfoldable pub verdict : Program → Verdict
verdict t = first_broken t rules
