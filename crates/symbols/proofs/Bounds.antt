-- The bounds of the arrays of a tree that keeps rule 11.
use Rattle.std.proofs.Common.{◌≡◌, ℕ, zero, suc, ◌-◌, ◌≤◌, Bool, true, false, not, ◌&&◌, T, leb, List, [], ◌∷◌, ◌++◌, ℤ, pos, negsuc, ◌+ℤ◌, ◌-ℤ◌, refl, subst, arith}
use lib.IntN.{sub_ℕ}
use lib.Signed.{le_z, le_z_yes}
use Rattle.std.specs.List.{AllByRecursion as All}
use Rattle.std.proofs.ByRecursion.{All-append}
use Rattle.std.proofs.lemmas.Bool.{both_ways, not-false, and_parts, leb-true, le-ltb}
use Rattle.grammar.specs.Tree.{Row, one, more, Name, Exp, literal, simple, subscripted, prefixed, joined, bracketed, compared, value_of, Element, single, progression, Statement, labelled, conditional, repeated, assigned, go, switched, input, printed, stop, sequence, Bound, Group, Item, comment, integer, boolean, array, switch, action, Program}
use Rattle.symbols.specs.declared.value_type.ValueType.TheVariants.{Integer, Boolean}
use Rattle.symbols.specs.declared.refusal.NameRefusal.TheVariants.{WrongBounds}
use Rattle.symbols.specs.Occurrences.{Role, as_label, as_switch, as_array, of_type, in_switch, as_target, as_selector, as_variable, as_element, Occurrence, at, all_at, each, in_exp, in_element, in_statement, in_group, in_item, occurrences}
use Rattle.symbols.specs.Symbols.{bound_value, extent}
use Rattle.symbols.specs.Rules.{bounds_ok, group_bounds, item_bounds, accepted, verdict}
use Rattle.symbols.specs.Laws.{In, here, later, BoundsInRange}
use Rattle.symbols.proofs.Offences.{empty_left, empty_right, nothing_told, accepted_to_keeps_all}

-- What holds of all holds of each.
pub all_in : {A : Type 0} (P : A → Type 0) (x : A) (xs : List A) → All P xs → In x xs → P x
all_in P x [] h i = elim i [ ]
all_in P x (y ∷ xs) h here = h.0
all_in P x (y ∷ xs) h (later i) = all_in P x xs h.1 i

-- What holds of all that comes of each part holds of all that comes of the row.
pub each_all : {A B : Type 0} (P : B → Type 0) (f : A → List B) → ((x : A) → All P (f x)) → (xs : Row A) → All P (each f xs)
each_all P f h (one x) = h x
each_all P f h (more xs x) = All-append P (each f xs) (f x) (each_all P f h xs) (h x)

each_all_if : {A B : Type 0} (P : B → Type 0) (g : A → List ℕ) (f : A → List B) → ((x : A) → g x ≡ [] → All P (f x)) → (xs : Row A) → each g xs ≡ [] → All P (each f xs)
each_all_if P g f h (one x) e = h x e
each_all_if P g f h (more xs x) e = All-append P (each f xs) (f x) (each_all_if P g f h xs (empty_left (each g xs) (g x) e)) (h x (empty_right (each g xs) (g x) e))

-- Bounds, where an occurrence has some, pass the test.
abbrev Bounded : Role → Type 0
Bounded as_label = Unit {0}
Bounded (as_switch xs) = Unit {0}
Bounded (as_array l h) = bounds_ok l h ≡ true
Bounded (of_type t) = Unit {0}
Bounded in_switch = Unit {0}
Bounded as_target = Unit {0}
Bounded as_selector = Unit {0}
Bounded as_variable = Unit {0}
Bounded as_element = Unit {0}

abbrev Passes : Occurrence → Type 0
Passes o = Bounded o.role

exp_passes : (a : Exp) → All Passes (in_exp a)
exp_passes (literal n p) = tt
exp_passes (simple x) = (tt, tt)
exp_passes (subscripted x i) = (tt, exp_passes i)
exp_passes (prefixed o p a) = exp_passes a
exp_passes (joined o a b) = All-append Passes (in_exp a) (in_exp b) (exp_passes a) (exp_passes b)
exp_passes (bracketed p a) = exp_passes a
exp_passes (compared r p a b) = All-append Passes (in_exp a) (in_exp b) (exp_passes a) (exp_passes b)

element_passes : (x : Element) → All Passes (in_element x)
element_passes (single a) = exp_passes a
element_passes (progression a b c) = All-append Passes (in_exp a) (in_exp b ++ in_exp c) (exp_passes a) (All-append Passes (in_exp b) (in_exp c) (exp_passes b) (exp_passes c))

statement_passes : (s : Statement) → All Passes (in_statement s)
statement_passes (labelled x s) = (tt, statement_passes s)
statement_passes (conditional p a s) = All-append Passes (in_exp a) (in_statement s) (exp_passes a) (statement_passes s)
statement_passes (repeated p x es s) = (tt, All-append Passes (each in_element es) (in_statement s) (each_all Passes in_element element_passes es) (statement_passes s))
statement_passes (assigned v a) = All-append Passes (in_exp (value_of v)) (in_exp a) (exp_passes (value_of v)) (exp_passes a)
statement_passes (go p x) = (tt, tt)
statement_passes (switched p x i) = (tt, exp_passes i)
statement_passes (input p v) = exp_passes (value_of v)
statement_passes (printed p xs) = each_all Passes in_exp exp_passes xs
statement_passes (stop p) = tt
statement_passes (sequence s t) = All-append Passes (in_statement s) (in_statement t) (statement_passes s) (statement_passes t)

all_at_passes : (r : Role) → Bounded r → (xs : Row Name) → All Passes (all_at r xs)
all_at_passes r h xs = each_all Passes (λ x. at r x ∷ []) (λ x. (h, tt)) xs

group_passes : (g : Group) → group_bounds g ≡ [] → All Passes (in_group g)
group_passes g e = all_at_passes (as_array g.low g.high) (not-false (bounds_ok g.low g.high) (nothing_told (not (bounds_ok g.low g.high)) g.bracket e)) g.names

item_passes : (x : Item) → item_bounds x ≡ [] → All Passes (in_item x)
item_passes comment e = tt
item_passes (integer xs) e = all_at_passes (of_type Integer) tt xs
item_passes (boolean xs) e = all_at_passes (of_type Boolean) tt xs
item_passes (array gs) e = each_all_if Passes group_bounds in_group group_passes gs e
item_passes (switch x xs) e = (tt, all_at_passes in_switch tt xs)
item_passes (action s) e = statement_passes s

-- Where bounds are in order, the count of subscripts is what subtraction gives.
not_below : (a b : ℕ) → b ≤ a → sub_ℕ a b ≡ pos (a - b)
not_below a b h = rw (le-ltb a b h)

pub extent_is : (l h : ℤ) → le_z l h ≡ true → (pos (extent l h) ≡ h -ℤ l +ℤ pos 1) × (1 ≤ extent l h)
extent_is (pos zero) (pos b) e = (refl, omega arith)
extent_is (pos (suc a)) (pos b) e = rw (not_below b (suc a) (leb-true (suc a) b e)) (refl, omega arith)
extent_is (pos a) (negsuc b) e = absurd (both_ways false refl e)
extent_is (negsuc a) (pos b) e = (refl, omega arith)
extent_is (negsuc a) (negsuc b) e = let h : b ≤ a = leb-true b a e in rw (not_below (suc a) (suc b) (omega arith)) (refl, omega arith)

is_true : (b : Bool) → b ≡ true → T b
is_true true e = tt
is_true false e = absurd (both_ways false refl e)

in_range : (l h : Bound) → bounds_ok l h ≡ true → BoundsInRange l h
in_range l h e =
    let a = and_parts (le_z (bound_value l) (bound_value h)) (leb l.size 9999 && leb h.size 9999) e in
    let b = and_parts (leb l.size 9999) (leb h.size 9999) a.1 in
    let c = extent_is (bound_value l) (bound_value h) a.0 in
    record {
      in_order = le_z_yes (is_true (le_z (bound_value l) (bound_value h)) a.0);
      low_near = leb-true l.size 9999 b.0;
      high_near = leb-true h.size 9999 b.1;
      as_many = c.0;
      at_least_one = c.1;
    }

pub bounds_in_range : (t : Program) → verdict t ≡ accepted → (o : Occurrence) (l h : Bound) → In o (occurrences t) → o.role ≡ as_array l h → BoundsInRange l h
bounds_in_range t e o l h i r =
    let a : All Passes (occurrences t) = each_all_if Passes item_bounds in_item item_passes t (accepted_to_keeps_all t e WrongBounds) in
    in_range l h (subst Bounded r (all_in Passes o (occurrences t) a i))
