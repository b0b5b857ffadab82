-- The labels of a switch: the table has them from the switch's declaration, where each of them stands.
use Rattle.std.proofs.Common.{◌≡◌, ℕ, Bool, true, false, cond, List, [], ◌∷◌, ◌++◌, Some, None, Option, sym, refl, ap, ◌∙◌, subst, arith}
use Rattle.std.specs.Str.{bytes_eq}
use Rattle.grammar.specs.Tree.{Row, one, more, Name, Exp, literal, simple, subscripted, prefixed, joined, bracketed, compared, value_of, Element, single, progression, Statement, labelled, conditional, repeated, assigned, go, switched, input, printed, stop, sequence, Item, comment, integer, boolean, array, switch, action, Program}
use Rattle.symbols.specs.declared.value_type.ValueType.TheVariants.{Integer, Boolean}
use Rattle.symbols.specs.Occurrences.{Role, as_label, as_switch, as_array, of_type, in_switch, as_target, as_selector, as_variable, as_element, Occurrence, at, each, all_at, in_exp, in_element, in_statement, in_group, in_item, occurrences}
use Rattle.symbols.specs.Symbols.{Kind, a_label, a_switch, an_array, a_variable, definition, or_else, first_said, or_variable, kind_of}
use Rattle.symbols.specs.Jumps.{some_name}
use Rattle.symbols.specs.Rules.{is_switch}
use Rattle.symbols.specs.Laws.{In, here, later}
use Rattle.symbols.proofs.Lists.{in_left, in_right}
use Rattle.meaning.specs.Names.{labels_of}
use Rattle.meaning.proofs.Jumping.{true_is_not_false, neither}

-- An element of two lists is an element of one.
pub in_cases : {A : Type 0} (x : A) (xs ys : List A) (P : Type 0) → (In x xs → P) → (In x ys → P) → In x (xs ++ ys) → P
in_cases x [] ys P f g h = g h
in_cases x (y ∷ xs) ys P f g here = f here
in_cases x (y ∷ xs) ys P f g (later h) = in_cases x xs ys P (λ i. f (later i)) g h

pub from_is_switch : (k : Kind) → is_switch k ≡ true → (ls : Row Name) × (k ≡ a_switch ls)
from_is_switch a_label e = absurd (true_is_not_false (sym e))
from_is_switch (a_switch ls) e = (ls, refl)
from_is_switch (an_array l h) e = absurd (true_is_not_false (sym e))
from_is_switch a_variable e = absurd (true_is_not_false (sym e))

-- A name of a switch's list, by its letters: it stands in the list, and what no name of the list meets it does not meet.
pub record Named (l : List ℕ) (ls : Row Name) : Type 0 where
  pub name : Name
  pub spelled : name.letters ≡ l
  pub listed : In (at in_switch name) (all_at in_switch ls)
  pub not_said : (f : Name → Bool) → some_name f ls ≡ false → f name ≡ false

label_one : (l : List ℕ) (x : Name) → In l (x.letters ∷ []) → x.letters ≡ l
label_one l x here = refl
label_one l x (later i) = elim i [ ]

pub label_named : (l : List ℕ) (ls : Row Name) → In l (labels_of (a_switch ls)) → Named l ls
label_named l (one x) i = record { name = x; spelled = label_one l x i; listed = here; not_said = λ f e. e }
label_named l (more xs x) i =
    in_cases l (labels_of (a_switch xs)) (x.letters ∷ []) (Named l (more xs x)) (λ j. earlier (label_named l xs j))
    (λ j. record { name = x; spelled = label_one l x j; listed = in_right (at in_switch x) (all_at in_switch xs) (at in_switch x ∷ []) here; not_said = λ f e. (neither (some_name f xs) (f x) e).1 })
    i
  where
    earlier : Named l xs → Named l (more xs x)
    earlier n = record {
      name = n.name;
      spelled = n.spelled;
      listed = in_left (at in_switch n.name) (all_at in_switch xs) (at in_switch x ∷ []) n.listed;
      not_said = λ f e. n.not_said f (neither (some_name f xs) (f x) e).0;
    }

-- Is it the head of a switch declaration? Nothing but that declaration has such a name.
abbrev heads_switch : Role → Bool
heads_switch as_label = false
heads_switch (as_switch ls) = true
heads_switch (as_array l h) = false
heads_switch (of_type y) = false
heads_switch in_switch = false
heads_switch as_target = false
heads_switch as_selector = false
heads_switch as_variable = false
heads_switch as_element = false

abbrev NoHead : List Occurrence → Type 0
NoHead os = (o : Occurrence) → In o os → heads_switch o.role ≡ false

no_head_none : NoHead []
no_head_none o i = elim i [ ]

no_head_one : (o : Occurrence) (os : List Occurrence) → heads_switch o.role ≡ false → NoHead os → NoHead (o ∷ os)
no_head_one o os e h p here = e
no_head_one o os e h p (later i) = h p i

no_head_both : (os ps : List Occurrence) → NoHead os → NoHead ps → NoHead (os ++ ps)
no_head_both os ps h j o i = in_cases o os ps (heads_switch o.role ≡ false) (h o) (j o) i

no_head_each : {A : Type 0} (f : A → List Occurrence) → ((a : A) → NoHead (f a)) → (row : Row A) → NoHead (each f row)
no_head_each f h (one a) = h a
no_head_each f h (more row a) = no_head_both (each f row) (f a) (no_head_each f h row) (h a)

no_head_all : (r : Role) → heads_switch r ≡ false → (xs : Row Name) → NoHead (all_at r xs)
no_head_all r e xs = no_head_each (λ x. at r x ∷ []) (λ x. no_head_one (at r x) [] e no_head_none) xs

exp_no_head : (e : Exp) → NoHead (in_exp e)
exp_no_head (literal n p) = no_head_none
exp_no_head (simple x) = no_head_one (at as_variable x) [] refl no_head_none
exp_no_head (subscripted x i) = no_head_one (at as_element x) (in_exp i) refl (exp_no_head i)
exp_no_head (prefixed o p a) = exp_no_head a
exp_no_head (joined o a b) = no_head_both (in_exp a) (in_exp b) (exp_no_head a) (exp_no_head b)
exp_no_head (bracketed p a) = exp_no_head a
exp_no_head (compared r p a b) = no_head_both (in_exp a) (in_exp b) (exp_no_head a) (exp_no_head b)

element_no_head : (e : Element) → NoHead (in_element e)
element_no_head (single a) = exp_no_head a
element_no_head (progression a b c) =
    no_head_both (in_exp a) (in_exp b ++ in_exp c) (exp_no_head a) (no_head_both (in_exp b) (in_exp c) (exp_no_head b) (exp_no_head c))

statement_no_head : (s : Statement) → NoHead (in_statement s)
statement_no_head (labelled x s) = no_head_one (at as_label x) (in_statement s) refl (statement_no_head s)
statement_no_head (conditional p a s) = no_head_both (in_exp a) (in_statement s) (exp_no_head a) (statement_no_head s)
statement_no_head (repeated p x es s) =
    no_head_one (at as_variable x) (each in_element es ++ in_statement s) refl
    (no_head_both (each in_element es) (in_statement s) (no_head_each in_element element_no_head es) (statement_no_head s))
statement_no_head (assigned v a) = no_head_both (in_exp (value_of v)) (in_exp a) (exp_no_head (value_of v)) (exp_no_head a)
statement_no_head (go p x) = no_head_one (at as_target x) [] refl no_head_none
statement_no_head (switched p x i) = no_head_one (at as_selector x) (in_exp i) refl (exp_no_head i)
statement_no_head (input p v) = exp_no_head (value_of v)
statement_no_head (printed p xs) = no_head_each in_exp exp_no_head xs
statement_no_head (stop p) = no_head_none
statement_no_head (sequence s t) = no_head_both (in_statement s) (in_statement t) (statement_no_head s) (statement_no_head t)

-- Where a switch's head stands in a list, its labels stand there too.
abbrev WithLabels : List Occurrence → Type 0
WithLabels os = (o : Occurrence) (ls : Row Name) → In o os → o.role ≡ as_switch ls → (p : Occurrence) → In p (all_at in_switch ls) → In p os

headless : (os : List Occurrence) → NoHead os → WithLabels os
headless os h o ls i e = absurd (true_is_not_false (sym (ap heads_switch e) ∙ h o i))

same_list : (xs ls : Row Name) → as_switch xs ≡ as_switch ls → xs ≡ ls
same_list xs ls e = cc

switch_with_labels : (x : Name) (xs : Row Name) → WithLabels (in_item (switch x xs))
switch_with_labels x xs o ls here e p i = later (subst (λ zs. In p (all_at in_switch zs)) (sym (same_list xs ls e)) i)
switch_with_labels x xs o ls (later j) e p i =
    absurd (true_is_not_false (sym (ap heads_switch e) ∙ no_head_all in_switch refl xs o j))

item_with_labels : (i : Item) → WithLabels (in_item i)
item_with_labels comment = headless [] no_head_none
item_with_labels (integer xs) = headless (all_at (of_type Integer) xs) (no_head_all (of_type Integer) refl xs)
item_with_labels (boolean xs) = headless (all_at (of_type Boolean) xs) (no_head_all (of_type Boolean) refl xs)
item_with_labels (array gs) = headless (each in_group gs) (no_head_each in_group (λ g. no_head_all (as_array g.low g.high) refl g.names) gs)
item_with_labels (switch x xs) = switch_with_labels x xs
item_with_labels (action s) = headless (in_statement s) (statement_no_head s)

text_with_labels : (t : Program) → WithLabels (occurrences t)
text_with_labels (one i) o ls j e p q = item_with_labels i o ls j e p q
text_with_labels (more is i) o ls j e p q =
    in_cases o (occurrences is) (in_item i) (In p (occurrences is ++ in_item i))
    (λ h. in_left p (occurrences is) (in_item i) (text_with_labels is o ls h e p q))
    (λ h. in_right p (occurrences is) (in_item i) (item_with_labels i o ls h e p q)) j

-- What the occurrences say of a name, one of them says.
pub record SaidBy (os : List Occurrence) (k : Kind) : Type 0 where
  pub occurrence : Occurrence
  pub stands : In occurrence os
  pub says : definition occurrence.role ≡ Some k

said_later : (o : Occurrence) (os : List Occurrence) (k : Kind) → SaidBy os k → SaidBy (o ∷ os) k
said_later o os k h = record { occurrence = h.occurrence; stands = later h.stands; says = h.says }

said_or : (o : Occurrence) (os : List Occurrence) (x : List ℕ) (k : Kind) (d : Option Kind) → definition o.role ≡ d
    → or_else d (first_said definition os x) ≡ Some k → (first_said definition os x ≡ Some k → SaidBy os k) → SaidBy (o ∷ os) k
said_or o os x k (Some j) e h next = record { occurrence = o; stands = here; says = e ∙ h }
said_or o os x k None e h next = said_later o os k (next h)

said_if : (o : Occurrence) (os : List Occurrence) (x : List ℕ) (k : Kind) (b : Bool)
    → cond b (or_else (definition o.role) (first_said definition os x)) (first_said definition os x) ≡ Some k
    → (first_said definition os x ≡ Some k → SaidBy os k) → SaidBy (o ∷ os) k
said_if o os x k true h next = said_or o os x k (definition o.role) refl h next
said_if o os x k false h next = said_later o os k (next h)

pub said_by : (os : List Occurrence) (x : List ℕ) (k : Kind) → first_said definition os x ≡ Some k → SaidBy os k
said_by [] x k e = absurd (let z : ◌≡◌ {A = ℕ} 0 1 = cc in omega arith)
said_by (o ∷ os) x k e = said_if o os x k (bytes_eq x o.name.letters) e (said_by os x k)

-- Only the head of a switch defines one.
pub switch_role : (r : Role) (ls : Row Name) → definition r ≡ Some (a_switch ls) → r ≡ as_switch ls
switch_role as_label ls e = absurd (let z : ◌≡◌ {A = ℕ} 0 1 = cc in omega arith)
switch_role (as_switch xs) ls e = let q : xs ≡ ls = cc in ap as_switch q
switch_role (as_array l h) ls e = absurd (let z : ◌≡◌ {A = ℕ} 0 1 = cc in omega arith)
switch_role (of_type y) ls e = absurd (let z : ◌≡◌ {A = ℕ} 0 1 = cc in omega arith)
switch_role in_switch ls e = absurd (let z : ◌≡◌ {A = ℕ} 0 1 = cc in omega arith)
switch_role as_target ls e = absurd (let z : ◌≡◌ {A = ℕ} 0 1 = cc in omega arith)
switch_role as_selector ls e = absurd (let z : ◌≡◌ {A = ℕ} 0 1 = cc in omega arith)
switch_role as_variable ls e = absurd (let z : ◌≡◌ {A = ℕ} 0 1 = cc in omega arith)
switch_role as_element ls e = absurd (let z : ◌≡◌ {A = ℕ} 0 1 = cc in omega arith)

defined : (k : Option Kind) (ls : Row Name) → or_variable k ≡ a_switch ls → k ≡ Some (a_switch ls)
defined (Some k) ls e = ap Some e
defined None ls e = absurd (let z : ◌≡◌ {A = ℕ} 0 1 = cc in omega arith)

-- A name that is a switch with these labels: they all stand in the text as a switch's labels.
pub declares : (t : Program) (x : List ℕ) (ls : Row Name) → kind_of (occurrences t) x ≡ a_switch ls → (p : Occurrence) → In p (all_at in_switch ls) → In p (occurrences t)
declares t x ls e p i =
    let h = said_by (occurrences t) x (a_switch ls) (defined (first_said definition (occurrences t) x) ls e) in
    text_with_labels t h.occurrence ls h.stands (switch_role h.occurrence.role ls h.says) p i
