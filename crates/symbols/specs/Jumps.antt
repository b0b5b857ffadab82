-- The rule that no go to leads into a for's body from outside. A go to sees the labels that stand in the bodies of the
-- fors around it or outside all fors, and not in a body further in; a label that it does not see stands in the body of
-- a for that is not around it.
use Rattle.std.specs.Prelude.{ℕ, Bool, true, false, not, ◌&&◌, ◌||◌, List, [], ◌∷◌, ◌++◌}
use Rattle.std.specs.Str.{bytes_eq}
use Rattle.grammar.specs.Tree.{Row, one, more, Name, Statement, labelled, conditional, repeated, assigned, go, switched, input, printed, stop, sequence, Item, comment, integer, boolean, array, switch, action, Program}
use Rattle.symbols.specs.Occurrences.{each}
use Rattle.symbols.specs.Symbols.{Kind, a_label, a_switch, an_array, a_variable, Symbol, kind_in}
use Rattle.symbols.specs.Types.{told}

-- The labels of a statement that stand in no for's body within it.
abbrev pub open_labels : Statement → List (List ℕ)
open_labels (labelled x s) = x.letters ∷ open_labels s
open_labels (conditional p a s) = open_labels s
open_labels (repeated p x es s) = []
open_labels (assigned v a) = []
open_labels (go p x) = []
open_labels (switched p x i) = []
open_labels (input p v) = []
open_labels (printed p xs) = []
open_labels (stop p) = []
open_labels (sequence s t) = open_labels s ++ open_labels t

abbrev pub item_labels : Item → List (List ℕ)
item_labels comment = []
item_labels (integer xs) = []
item_labels (boolean xs) = []
item_labels (array gs) = []
item_labels (switch x xs) = []
item_labels (action s) = open_labels s

abbrev pub outer_labels : Program → List (List ℕ)
outer_labels t = each item_labels t

abbrev pub is_among : List (List ℕ) → List ℕ → Bool
is_among [] x = false
is_among (y ∷ ys) x = bytes_eq x y || is_among ys x

abbrev pub is_label : Kind → Bool
is_label a_label = true
is_label (a_switch xs) = false
is_label (an_array l h) = false
is_label a_variable = false

-- A label that a go to does not see: to go there leads into a for's body from outside.
abbrev pub leads_inside : List Symbol → List (List ℕ) → Name → Bool
leads_inside ss seen x = is_label (kind_in ss x.letters) && not (is_among seen x.letters)

abbrev pub some_name : (Name → Bool) → Row Name → Bool
some_name f (one x) = f x
some_name f (more xs x) = some_name f xs || f x

-- A switch leads there if any of its labels does.
abbrev pub switch_leads : (Name → Bool) → Kind → Bool
switch_leads f a_label = false
switch_leads f (a_switch xs) = some_name f xs
switch_leads f (an_array l h) = false
switch_leads f a_variable = false

-- The offences of a statement, where the labels given are seen; in a for's body its own are seen too.
abbrev pub jump_offences : List Symbol → List (List ℕ) → Statement → List ℕ
jump_offences ss seen (labelled x s) = jump_offences ss seen s
jump_offences ss seen (conditional p a s) = jump_offences ss seen s
jump_offences ss seen (repeated p x es s) = jump_offences ss (open_labels s ++ seen) s
jump_offences ss seen (assigned v a) = []
jump_offences ss seen (go p x) = told (leads_inside ss seen x) x.place
jump_offences ss seen (switched p x i) = told (switch_leads (leads_inside ss seen) (kind_in ss x.letters)) x.place
jump_offences ss seen (input p v) = []
jump_offences ss seen (printed p xs) = []
jump_offences ss seen (stop p) = []
jump_offences ss seen (sequence s t) = jump_offences ss seen s ++ jump_offences ss seen t

abbrev pub item_jumps : List Symbol → List (List ℕ) → Item → List ℕ
item_jumps ss seen comment = []
item_jumps ss seen (integer xs) = []
item_jumps ss seen (boolean xs) = []
item_jumps ss seen (array gs) = []
item_jumps ss seen (switch x xs) = []
item_jumps ss seen (action s) = jump_offences ss seen s

-- Rule 10: the go tos into a for's body from outside, told at their label or switch.
abbrev pub wrong_jumps : List Symbol → Program → List ℕ
wrong_jumps ss t = each (item_jumps ss (outer_labels t)) t
