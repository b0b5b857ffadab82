-- The tables of the switches are no longer than their declarations: a name's line has the first definition of the name, and
-- no two lines have the same letters.
use Rattle.std.proofs.Common.{◌≡◌, ℕ, ◌+◌, ◌≤◌, Bool, true, false, cond, List, [], ◌∷◌, ◌++◌, length, Some, None, Option, sym, refl, ap, ◌∙◌, arith}
use Rattle.std.specs.Str.{bytes_eq}
use Rattle.grammar.specs.Tree.{Row, one, more, Name, Exp, literal, simple, subscripted, prefixed, joined, bracketed, compared, value_of, Element, single, progression, Statement, labelled, conditional, repeated, assigned, go, switched, input, printed, stop, sequence, Item, comment, integer, boolean, array, switch, action, Program}
use Rattle.symbols.specs.Occurrences.{in_switch, Occurrence, at, each, in_exp, in_element, in_statement, in_group, in_item, occurrences}
use Rattle.symbols.specs.Symbols.{Kind, a_label, a_switch, an_array, a_variable, definition, or_else, first_said, or_variable, kind_of, cells, Symbol, numbered, symbols, names}
use Rattle.symbols.specs.Laws.{In, here, later, LinesDiffer}
use Rattle.symbols.proofs.Lists.{in_to_split}
use Rattle.symbols.proofs.Table.{from_same, lines_differ, rest_differ}
use Rattle.meaning.specs.Names.{labels_of}
use Rattle.translator.specs.Generator.{Entry}
use Rattle.translator.specs.Translation.{rows_code, table_code, tables_code, table_size}
use Rattle.translator.proofs.LimitsCosts.{row_length, item_table, program_tables}

-- What the definition of a name puts into the tables.
abbrev kind_weight : Kind → ℕ
kind_weight (a_switch xs) = row_length xs + 1
kind_weight a_label = 0
kind_weight (an_array l h) = 0
kind_weight a_variable = 0

abbrev said_weight : Option Kind → ℕ
said_weight None = 0
said_weight (Some k) = kind_weight k

abbrev weight : List Occurrence → ℕ
weight [] = 0
weight (o ∷ os) = said_weight (definition o.role) + weight os

abbrev lines_weight : List Occurrence → List Symbol → ℕ
lines_weight os [] = 0
lines_weight os (s ∷ ss) = said_weight (first_said definition os s.name.letters) + lines_weight os ss

weight_both : (xs ys : List Occurrence) → weight (xs ++ ys) ≡ weight xs + weight ys
weight_both [] ys = omega arith
weight_both (x ∷ xs) ys = omega (arith, weight_both xs ys)

first_weight : (o n : Option Kind) → said_weight (or_else o n) ≤ said_weight o + said_weight n
first_weight None n = omega arith
first_weight (Some k) n = omega arith

-- No line from here on has the letters of an occurrence.
none_named : (o : Occurrence) (os : List Occurrence) (ss : List Symbol) → ((s : Symbol) → In s ss → s.name.letters ≡ o.name.letters → ⊥) → lines_weight (o ∷ os) ss ≡ lines_weight os ss
none_named o os [] none = refl
none_named o os (s ∷ ss) none =
    let rest = none_named o os ss (λ x i. none x (later i)) in
    go_on (bytes_eq s.name.letters o.name.letters) refl rest
  where
    go_on : (b : Bool) → bytes_eq s.name.letters o.name.letters ≡ b → lines_weight (o ∷ os) ss ≡ lines_weight os ss
        → said_weight (cond b (or_else (definition o.role) (first_said definition os s.name.letters)) (first_said definition os s.name.letters)) + lines_weight (o ∷ os) ss
        ≡ said_weight (first_said definition os s.name.letters) + lines_weight os ss
    go_on true e rest = absurd (none s here (from_same s.name.letters o.name.letters e))
    go_on false e rest = omega (arith, rest)

head_differs : (s : Symbol) (ss : List Symbol) → LinesDiffer (s ∷ ss) → (x : Symbol) → In x ss → s.name.letters ≡ x.name.letters → ⊥
head_differs s ss d x i e = let r = in_to_split x ss i in d [] r.before r.after s x (ap (λ l. s ∷ l) r.whole) e

-- One occurrence more adds its weight once at most.
one_more : (o : Occurrence) (os : List Occurrence) (ss : List Symbol) → LinesDiffer ss → lines_weight (o ∷ os) ss ≤ said_weight (definition o.role) + lines_weight os ss
one_more o os [] d = omega arith
one_more o os (s ∷ ss) d = go_on (bytes_eq s.name.letters o.name.letters) refl (one_more o os ss (rest_differ s ss d))
  where
    go_on : (b : Bool) → bytes_eq s.name.letters o.name.letters ≡ b → lines_weight (o ∷ os) ss ≤ said_weight (definition o.role) + lines_weight os ss
        → said_weight (cond b (or_else (definition o.role) (first_said definition os s.name.letters)) (first_said definition os s.name.letters)) + lines_weight (o ∷ os) ss
        ≤ said_weight (definition o.role) + (said_weight (first_said definition os s.name.letters) + lines_weight os ss)
    go_on true e rest =
        let same = from_same s.name.letters o.name.letters e in
        let others = none_named o os ss (λ x i q. head_differs s ss d x i (same ∙ sym q)) in
        omega (arith, others, first_weight (definition o.role) (first_said definition os s.name.letters))
    go_on false e rest = omega (arith, rest)

no_weight : (ss : List Symbol) → lines_weight [] ss ≡ 0
no_weight [] = refl
no_weight (s ∷ ss) = omega (arith, no_weight ss)

lines_within : (os : List Occurrence) (ss : List Symbol) → LinesDiffer ss → lines_weight os ss ≤ weight os
lines_within [] ss d = omega (arith, no_weight ss)
lines_within (o ∷ os) ss d = omega (arith, one_more o os ss d, lines_within os ss d)

-- Only switch declarations weigh anything.
exp_weightless : (e : Exp) → weight (in_exp e) ≡ 0
exp_weightless (literal n p) = refl
exp_weightless (simple x) = omega arith
exp_weightless (subscripted x e) = omega (arith, exp_weightless e)
exp_weightless (prefixed o p e) = exp_weightless e
exp_weightless (joined o a b) = omega (arith, weight_both (in_exp a) (in_exp b), exp_weightless a, exp_weightless b)
exp_weightless (bracketed p e) = exp_weightless e
exp_weightless (compared c p a b) = omega (arith, weight_both (in_exp a) (in_exp b), exp_weightless a, exp_weightless b)

element_weightless : (e : Element) → weight (in_element e) ≡ 0
element_weightless (single e) = exp_weightless e
element_weightless (progression x y z) =
    omega (arith, weight_both (in_exp x) (in_exp y ++ in_exp z), weight_both (in_exp y) (in_exp z), exp_weightless x, exp_weightless y, exp_weightless z)

row_weightless : {A : Type 0} (f : A → List Occurrence) → ((x : A) → weight (f x) ≡ 0) → (xs : Row A) → weight (each f xs) ≡ 0
row_weightless f z (one x) = z x
row_weightless f z (more xs x) = omega (arith, weight_both (each f xs) (f x), row_weightless f z xs, z x)

statement_weightless : (s : Statement) → weight (in_statement s) ≡ 0
statement_weightless (labelled x s) = omega (arith, statement_weightless s)
statement_weightless (conditional p e s) = omega (arith, weight_both (in_exp e) (in_statement s), exp_weightless e, statement_weightless s)
statement_weightless (repeated p x es s) =
    omega (arith, weight_both (each in_element es) (in_statement s), row_weightless in_element element_weightless es, statement_weightless s)
statement_weightless (assigned v e) = omega (arith, weight_both (in_exp (value_of v)) (in_exp e), exp_weightless (value_of v), exp_weightless e)
statement_weightless (go p x) = omega arith
statement_weightless (switched p x e) = omega (arith, exp_weightless e)
statement_weightless (input p v) = exp_weightless (value_of v)
statement_weightless (printed p es) = row_weightless in_exp exp_weightless es
statement_weightless (stop p) = refl
statement_weightless (sequence s t) = omega (arith, weight_both (in_statement s) (in_statement t), statement_weightless s, statement_weightless t)

item_weight : (i : Item) → weight (in_item i) ≡ item_table i
item_weight comment = refl
item_weight (integer xs) = row_weightless _ (λ x. omega arith) xs
item_weight (boolean xs) = row_weightless _ (λ x. omega arith) xs
item_weight (array gs) = row_weightless in_group (λ g. row_weightless _ (λ x. omega arith) g.names) gs
item_weight (switch x xs) = omega (arith, row_weightless (λ y. at in_switch y ∷ []) (λ y. omega arith) xs)
item_weight (action s) = statement_weightless s

program_weight : (t : Program) → weight (occurrences t) ≡ program_tables t
program_weight (one i) = item_weight i
program_weight (more is i) = omega (arith, weight_both (occurrences is) (in_item i), program_weight is, item_weight i)

-- How long the tables are.
row_labels : (xs : Row Name) → length (each (λ l. l.letters ∷ []) xs) ≡ row_length xs
row_labels (one x) = omega arith
row_labels (more xs x) = omega (arith, append_one (each (λ l. l.letters ∷ []) xs) x.letters, row_labels xs)
  where
    append_one : (ls : List (List ℕ)) (l : List ℕ) → length (ls ++ (l ∷ [])) ≡ length ls + 1
    append_one [] l = omega arith
    append_one (k ∷ ls) l = omega (arith, append_one ls l)

rows_length : (label_at : List ℕ → ℕ) (ls : List (List ℕ)) (r : List Entry) → length (rows_code label_at ls r) ≡ length ls + length r
rows_length label_at [] r = omega arith
rows_length label_at (l ∷ ls) r = omega (arith, rows_length label_at ls r)

table_length : (label_at : List ℕ → ℕ) (ls : List (List ℕ)) (r : List Entry) → length (table_code label_at ls r) ≡ table_size ls + length r
table_length label_at [] r = omega arith
table_length label_at (l ∷ ls) r = omega (arith, rows_length label_at ls r)

table_within : (o : Option Kind) → table_size (labels_of (or_variable o)) ≤ said_weight o
table_within None = omega arith
table_within (Some a_label) = omega arith
table_within (Some (a_switch xs)) = omega (arith, row_labels xs, by_labels (each (λ l. l.letters ∷ []) xs))
  where
    by_labels : (ls : List (List ℕ)) → table_size ls ≤ length ls + 1
    by_labels [] = omega arith
    by_labels (l ∷ ls) = omega arith
table_within (Some (an_array l h)) = omega arith
table_within (Some a_variable) = omega arith

tables_within : (label_at : List ℕ → ℕ) (os : List Occurrence) (c : ℕ) (ns : List Name) (r : List Entry)
    → length (tables_code label_at (numbered os c ns) r) ≤ lines_weight os (numbered os c ns) + length r
tables_within label_at os c [] r = omega arith
tables_within label_at os c (n ∷ ns) r =
    let d = c + cells (kind_of os n.letters) in
    let rest = tables_code label_at (numbered os d ns) r in
    omega (arith, table_length label_at (labels_of (kind_of os n.letters)) rest, table_within (first_said definition os n.letters), tables_within label_at os d ns r)

pub tables_short : (label_at : List ℕ → ℕ) (t : Program) → length (tables_code label_at (symbols t) []) ≤ program_tables t
tables_short label_at t =
    omega (arith, tables_within label_at (occurrences t) 0 (names t) [], lines_within (occurrences t) (symbols t) (lines_differ t), program_weight t)
