-- The labels of a tree and the occurrences that define them: the same letters in the same order, so that in a tree with
-- no second definition no two labels have the same letters.
use Rattle.std.proofs.Common.{◌≡◌, ℕ, true, ◌⊎◌, List, [], ◌∷◌, ◌++◌, map, sym, refl, ap, ◌∙◌, subst, ap₂, inl, inr, append_assoc, append-nil}
use Rattle.std.proofs.lemmas.List.{map-append}
use Rattle.grammar.specs.Tree.{Row, one, more, Name, Exp, literal, simple, subscripted, prefixed, joined, bracketed, compared, value_of, Element, single, progression, Statement, labelled, conditional, repeated, assigned, go, switched, input, printed, stop, sequence, Item, comment, integer, boolean, array, switch, action}
use Rattle.symbols.specs.declared.value_type.ValueType.TheVariants.{Integer, Boolean}
use Rattle.symbols.specs.Occurrences.{Role, as_label, as_switch, as_array, of_type, in_switch, as_target, as_selector, as_variable, as_element, Occurrence, at, all_at, each, in_exp, in_element, in_statement, in_group, in_item}
use Rattle.symbols.specs.Symbols.{definition}
use Rattle.symbols.specs.Rules.{is_some}
use Rattle.symbols.specs.Laws.{In, here, later, Twice, Says}
use Rattle.symbols.specs.ForsAround.{Label, labels_in, of_statement}
use Rattle.symbols.proofs.Lists.{Split, in_to_split}

-- The letters that occurrences define as labels.
abbrev label_name : Role → List ℕ → List (List ℕ)
label_name as_label x = x ∷ []
label_name (as_switch xs) x = []
label_name (as_array l h) x = []
label_name (of_type t) x = []
label_name in_switch x = []
label_name as_target x = []
label_name as_selector x = []
label_name as_variable x = []
label_name as_element x = []

abbrev pub label_names : List Occurrence → List (List ℕ)
label_names [] = []
label_names (o ∷ os) = label_name o.role o.name.letters ++ label_names os

label_names_append : (xs ys : List Occurrence) → label_names (xs ++ ys) ≡ label_names xs ++ label_names ys
label_names_append [] ys = refl
label_names_append (o ∷ xs) ys =
    ap (λ (l : List (List ℕ)). label_name o.role o.name.letters ++ l) (label_names_append xs ys)
    ∙ sym (append_assoc (label_name o.role o.name.letters) (label_names xs) (label_names ys))

none_and : (xs ys : List Occurrence) (ls : List (List ℕ)) → label_names xs ≡ [] → label_names ys ≡ ls → label_names (xs ++ ys) ≡ ls
none_and xs ys ls e f = label_names_append xs ys ∙ (ap (λ (l : List (List ℕ)). l ++ label_names ys) e ∙ f)

each_none : {A : Type 0} (f : A → List Occurrence) → ((x : A) → label_names (f x) ≡ []) → (xs : Row A) → label_names (each f xs) ≡ []
each_none f h (one x) = h x
each_none f h (more xs x) = none_and (each f xs) (f x) [] (each_none f h xs) (h x)

exp_none : (a : Exp) → label_names (in_exp a) ≡ []
exp_none (literal n p) = refl
exp_none (simple x) = refl
exp_none (subscripted x i) = exp_none i
exp_none (prefixed o p a) = exp_none a
exp_none (joined o a b) = none_and (in_exp a) (in_exp b) [] (exp_none a) (exp_none b)
exp_none (bracketed p a) = exp_none a
exp_none (compared r p a b) = none_and (in_exp a) (in_exp b) [] (exp_none a) (exp_none b)

element_none : (x : Element) → label_names (in_element x) ≡ []
element_none (single a) = exp_none a
element_none (progression a b c) = none_and (in_exp a) (in_exp b ++ in_exp c) [] (exp_none a) (none_and (in_exp b) (in_exp c) [] (exp_none b) (exp_none c))

abbrev letters_of : List Label → List (List ℕ)
letters_of ls = map (λ (l : Label). l.letters) ls

letters_append : (ks ls : List Label) → letters_of (ks ++ ls) ≡ letters_of ks ++ letters_of ls
letters_append ks ls = map-append (λ (l : Label). l.letters) ks ls

-- A statement's labels are those that its occurrences define.
statement_labels : (fs : List ℕ) (s : Statement) → label_names (in_statement s) ≡ letters_of (labels_in fs s)
statement_labels fs (labelled x s) = ap (λ (l : List (List ℕ)). x.letters ∷ l) (statement_labels fs s)
statement_labels fs (conditional p a s) = none_and (in_exp a) (in_statement s) (letters_of (labels_in fs s)) (exp_none a) (statement_labels fs s)
statement_labels fs (repeated p x es s) = none_and (each in_element es) (in_statement s) (letters_of (labels_in (p ∷ fs) s)) (each_none in_element element_none es) (statement_labels (p ∷ fs) s)
statement_labels fs (assigned v a) = none_and (in_exp (value_of v)) (in_exp a) [] (exp_none (value_of v)) (exp_none a)
statement_labels fs (go p x) = refl
statement_labels fs (switched p x i) = exp_none i
statement_labels fs (input p v) = exp_none (value_of v)
statement_labels fs (printed p xs) = each_none in_exp exp_none xs
statement_labels fs (stop p) = refl
statement_labels fs (sequence s t) =
    label_names_append (in_statement s) (in_statement t)
    ∙ (ap₂ (λ (k l : List (List ℕ)). k ++ l) (statement_labels fs s) (statement_labels fs t)
    ∙ sym (letters_append (labels_in fs s) (labels_in fs t)))

item_names_none : (r : Role) → ((x : List ℕ) → label_name r x ≡ []) → (xs : Row Name) → label_names (all_at r xs) ≡ []
item_names_none r h xs = each_none (λ x. at r x ∷ []) (λ x. append-nil (label_name r x.letters) ∙ h x.letters) xs

item_labels : (b : Item) → label_names (in_item b) ≡ letters_of (of_statement (labels_in []) b)
item_labels comment = refl
item_labels (integer xs) = item_names_none (of_type Integer) (λ x. refl) xs
item_labels (boolean xs) = item_names_none (of_type Boolean) (λ x. refl) xs
item_labels (array gs) = each_none in_group (λ g. item_names_none (as_array g.low g.high) (λ x. refl) g.names) gs
item_labels (switch x xs) = item_names_none in_switch (λ y. refl) xs
item_labels (action s) = statement_labels [] s

pub program_labels : (t : Row Item) → label_names (each in_item t) ≡ letters_of (each (of_statement (labels_in [])) t)
program_labels (one b) = item_labels b
program_labels (more t b) =
    label_names_append (each in_item t) (in_item b)
    ∙ (ap₂ (λ (k l : List (List ℕ)). k ++ l) (program_labels t) (item_labels b)
    ∙ sym (letters_append (each (of_statement (labels_in [])) t) (of_statement (labels_in []) b)))

-- The occurrence that defines a label.
pub record Defining (os : List Occurrence) (x : List ℕ) : Type 0 where
  pub occurrence : Occurrence
  pub stands : In occurrence os
  pub defines : occurrence.role ≡ as_label
  pub same : occurrence.name.letters ≡ x

defining_later : (o : Occurrence) (os : List Occurrence) (x : List ℕ) → Defining os x → Defining (o ∷ os) x
defining_later o os x d = record { occurrence = d.occurrence; stands = later d.stands; defines = d.defines; same = d.same }

-- A property of names that are told: either the first occurrence is a label of these letters, or a later one is.
first_or_later : (x : List ℕ) (r : Role) (y : List ℕ) (ls : List (List ℕ)) → In x (label_name r y ++ ls) → ((r ≡ as_label) × (y ≡ x)) ⊎ In x ls
first_or_later x as_label y ls here = inl (refl, refl)
first_or_later x as_label y ls (later i) = inr i
first_or_later x (as_switch xs) y ls i = inr i
first_or_later x (as_array l h) y ls i = inr i
first_or_later x (of_type t) y ls i = inr i
first_or_later x in_switch y ls i = inr i
first_or_later x as_target y ls i = inr i
first_or_later x as_selector y ls i = inr i
first_or_later x as_variable y ls i = inr i
first_or_later x as_element y ls i = inr i

pub defining : (os : List Occurrence) (x : List ℕ) → In x (label_names os) → Defining os x
defining [] x i = elim i [ ]
defining (o ∷ os) x i = choose (first_or_later x o.role o.name.letters (label_names os) i) (defining os x)
  where
    choose : ((o.role ≡ as_label) × (o.name.letters ≡ x)) ⊎ In x (label_names os) → (In x (label_names os) → Defining os x) → Defining (o ∷ os) x
    choose (inl h) rest = record { occurrence = o; stands = here; defines = h.0; same = h.1 }
    choose (inr h) rest = defining_later o os x (rest h)

-- No two of some letters are the same.
abbrev pub Differ : List (List ℕ) → Type 0
Differ [] = Unit {0}
Differ (x ∷ xs) = (In x xs → ⊥) × Differ xs

abbrev Once : List Occurrence → Type 0
Once os = (o o' : Occurrence) → Twice os o o' → Says definition o → Says definition o' → ⊥

is_defined : (r : Role) → r ≡ as_label → (o : Occurrence) → o.role ≡ r → Says definition o
is_defined r e o f = let P : Role → Type 0 = λ v. is_some (definition v) ≡ true in subst P (sym (f ∙ e)) refl

once_later : (o : Occurrence) (os : List Occurrence) → Once (o ∷ os) → Once os
once_later o os h a b w = h a b (record { before = o ∷ w.before; between = w.between; after = w.after; whole = ap (λ (l : List Occurrence). o ∷ l) w.whole; same = w.same })

differ_first : (r : Role) (x : List ℕ) (ls : List (List ℕ)) → (r ≡ as_label → In x ls → ⊥) → Differ ls → Differ (label_name r x ++ ls)
differ_first as_label x ls h d = (h refl, d)
differ_first (as_switch xs) x ls h d = d
differ_first (as_array l u) x ls h d = d
differ_first (of_type t) x ls h d = d
differ_first in_switch x ls h d = d
differ_first as_target x ls h d = d
differ_first as_selector x ls h d = d
differ_first as_variable x ls h d = d
differ_first as_element x ls h d = d

pub labels_differ : (os : List Occurrence) → Once os → Differ (label_names os)
labels_differ [] h = tt
labels_differ (o ∷ os) h = differ_first o.role o.name.letters (label_names os) clash (labels_differ os (once_later o os h))
  where
    clash : o.role ≡ as_label → In o.name.letters (label_names os) → ⊥
    clash e i =
        let d : Defining os o.name.letters = defining os o.name.letters i in
        let s : Split d.occurrence os = in_to_split d.occurrence os d.stands in
        h o d.occurrence
        (record { before = []; between = s.before; after = s.after; whole = ap (λ (l : List Occurrence). o ∷ l) s.whole; same = d.same })
        (is_defined o.role e o refl) (is_defined d.occurrence.role d.defines d.occurrence refl)

-- Two labels of the same letters are one.
pub in_letters : (l : Label) (ls : List Label) → In l ls → In l.letters (letters_of ls)
in_letters l [] i = elim i [ ]
in_letters l (k ∷ ls) here = here
in_letters l (k ∷ ls) (later i) = later (in_letters l ls i)

pub one_label : (l k : Label) (ls : List Label) → Differ (letters_of ls) → In l ls → In k ls → l.letters ≡ k.letters → l ≡ k
one_label l k [] d i j e = elim i [ ]
one_label l k (m ∷ ls) d here j e = at_head k j e
  where
    at_head : (k : Label) → In k (m ∷ ls) → m.letters ≡ k.letters → m ≡ k
    at_head k here f = refl
    at_head k (later q) f = let P : List ℕ → Type 0 = λ v. In v (letters_of ls) in absurd (d.0 (subst P (sym f) (in_letters k ls q)))
one_label l k (m ∷ ls) d (later i) j e = at_tail k j e (one_label l k ls d.1 i)
  where
    at_tail : (k : Label) → In k (m ∷ ls) → l.letters ≡ k.letters → (In k ls → l.letters ≡ k.letters → l ≡ k) → l ≡ k
    at_tail k here f rest = let P : List ℕ → Type 0 = λ v. In v (letters_of ls) in absurd (d.0 (subst P f (in_letters l ls i)))
    at_tail k (later q) f rest = rest q f
