-- The lines of the table: every name has one, and no two have the same letters.
use Rattle.std.proofs.Common.{◌≡◌, ℕ, ◌+◌, Bool, true, false, cond, List, [], ◌∷◌, ◌++◌, sym, refl, ap, ◌∙◌, subst, arith}
use Rattle.std.specs.Str.{bytes_eq}
use Rattle.std.proofs.lemmas.Slice.Eq.{bytes_eq-Decides}
use Rattle.std.proofs.lemmas.Bool.{both_ways}
use Rattle.grammar.specs.Tree.{Name, Program}
use Rattle.symbols.specs.Occurrences.{Occurrence, occurrences}
use Rattle.symbols.specs.Symbols.{Symbol, line, numbered, has_name, with_name, names_from, names, symbols, kind_of, type_of, cells, kind_in, type_in}
use Rattle.symbols.specs.Laws.{In, here, later, LinesDiffer}
use Rattle.symbols.proofs.Lists.{in_middle, in_left}

-- The comparison of letters.
pub from_same : (x y : List ℕ) → bytes_eq x y ≡ true → x ≡ y
from_same x y = (bytes_eq-Decides x y).0

pub to_same : (x y : List ℕ) → x ≡ y → bytes_eq x y ≡ true
to_same x y = (bytes_eq-Decides x y).1

not_same_back : (x y : List ℕ) → bytes_eq x y ≡ false → bytes_eq y x ≡ false
not_same_back x y e = go (bytes_eq y x) refl
  where
    go : (b : Bool) → bytes_eq y x ≡ b → b ≡ false
    go true h = absurd (both_ways (bytes_eq x y) e (to_same x y (sym (from_same y x h))))
    go false h = refl

-- A list has a name just where some name of it has the letters.
pub in_to_has : (ns : List Name) (n : Name) (x : List ℕ) → In n ns → x ≡ n.letters → has_name ns x ≡ true
in_to_has [] n x i e = elim i [ ]
in_to_has (m ∷ ns) n x here e = rw (to_same x m.letters e)
in_to_has (m ∷ ns) n x (later i) e = go (bytes_eq x m.letters) (in_to_has ns n x i e)
  where
    go : (b : Bool) → has_name ns x ≡ true → cond b true (has_name ns x) ≡ true
    go true h = refl
    go false h = h

pub has_to_in : (ns : List Name) (x : List ℕ) → has_name ns x ≡ true → (n : Name) × In n ns × (n.letters ≡ x)
has_to_in [] x e = absurd (both_ways false refl e)
has_to_in (m ∷ ns) x e = go (bytes_eq x m.letters) refl e (has_to_in ns x)
  where
    go : (b : Bool) → bytes_eq x m.letters ≡ b → cond b true (has_name ns x) ≡ true → (has_name ns x ≡ true → (n : Name) × In n ns × (n.letters ≡ x)) → (n : Name) × In n (m ∷ ns) × (n.letters ≡ x)
    go true s h rest = (m, here, sym (from_same x m.letters s))
    go false s h rest = let r = rest h in (r.0, later r.1, r.2)

-- Entering a name keeps those that are there, and then it is there.
with_name_keeps : (ns : List Name) (m n : Name) → In n ns → In n (with_name ns m)
with_name_keeps ns m n i = go (has_name ns m.letters)
  where
    go : (b : Bool) → In n (cond b ns (ns ++ m ∷ []))
    go true = i
    go false = in_left n ns (m ∷ []) i

with_name_has : (ns : List Name) (m : Name) → (n : Name) × In n (with_name ns m) × (n.letters ≡ m.letters)
with_name_has ns m = go (has_name ns m.letters) refl
  where
    go : (b : Bool) → has_name ns m.letters ≡ b → (n : Name) × In n (cond b ns (ns ++ m ∷ [])) × (n.letters ≡ m.letters)
    go true e = has_to_in ns m.letters e
    go false e = (m, in_middle ns m [], refl)

names_kept : (ns : List Name) (os : List Occurrence) (n : Name) → In n ns → In n (names_from ns os)
names_kept ns [] n i = i
names_kept ns (o ∷ os) n i = names_kept (with_name ns o.name) os n (with_name_keeps ns o.name n i)

pub entered : (o : Occurrence) (ns : List Name) (os : List Occurrence) → In o os → (n : Name) × In n (names_from ns os) × (n.letters ≡ o.name.letters)
entered o ns [] i = elim i [ ]
entered o ns (p ∷ os) here = let r = with_name_has ns p.name in (r.0, names_kept (with_name ns p.name) os r.0 r.1, r.2)
entered o ns (p ∷ os) (later i) = entered o (with_name ns p.name) os i

pub has_line : (os : List Occurrence) (c : ℕ) (ns : List Name) (n : Name) → In n ns → (s : Symbol) × In s (numbered os c ns) × (s.name ≡ n)
has_line os c [] n i = elim i [ ]
has_line os c (m ∷ ns) n here = (line os c m, here, refl)
has_line os c (m ∷ ns) n (later i) = let r = has_line os (c + cells (kind_of os m.letters)) ns n i in (r.0, later r.1, r.2)

line_named : (s : Symbol) (os : List Occurrence) (c : ℕ) (ns : List Name) → In s (numbered os c ns) → In s.name ns
line_named s os c [] i = elim i [ ]
line_named s os c (m ∷ ns) here = here
line_named s os c (m ∷ ns) (later i) = later (line_named s os (c + cells (kind_of os m.letters)) ns i)

pub every_line : (t : Program) (o : Occurrence) → In o (occurrences t) → (s : Symbol) × In s (symbols t) × (s.name.letters ≡ o.name.letters)
every_line t o i =
    let n = entered o [] (occurrences t) i in
    let r = has_line (occurrences t) 0 (names t) n.0 n.1 in
    (r.0, r.1, ap (λ (m : Name). m.letters) r.2 ∙ n.2)

-- Names of which no two have the same letters.
abbrev Distinct : List Name → Type 0
Distinct [] = Unit {0}
Distinct (n ∷ ns) = (has_name ns n.letters ≡ false) × Distinct ns

has_not_append : (ns : List Name) (m : Name) (x : List ℕ) → has_name ns x ≡ false → bytes_eq x m.letters ≡ false → has_name (ns ++ m ∷ []) x ≡ false
has_not_append [] m x h e = rw e
has_not_append (n ∷ ns) m x h e = go (bytes_eq x n.letters) h (has_not_append ns m x)
  where
    go : (b : Bool) → cond b true (has_name ns x) ≡ false → (has_name ns x ≡ false → bytes_eq x m.letters ≡ false → has_name (ns ++ m ∷ []) x ≡ false) → cond b true (has_name (ns ++ m ∷ []) x) ≡ false
    go true h rest = h
    go false h rest = rest h e

not_first : (n : Name) (ns : List Name) (x : List ℕ) → has_name (n ∷ ns) x ≡ false → (bytes_eq x n.letters ≡ false) × (has_name ns x ≡ false)
not_first n ns x h = go (bytes_eq x n.letters) h
  where
    go : (b : Bool) → cond b true (has_name ns x) ≡ false → (b ≡ false) × (has_name ns x ≡ false)
    go true h = absurd (both_ways true h refl)
    go false h = (refl, h)

distinct_append : (ns : List Name) (m : Name) → Distinct ns → has_name ns m.letters ≡ false → Distinct (ns ++ m ∷ [])
distinct_append [] m d h = (refl, tt)
distinct_append (n ∷ ns) m d h =
    let a = not_first n ns m.letters h in
    (has_not_append ns m n.letters d.0 (not_same_back m.letters n.letters a.0), distinct_append ns m d.1 a.1)

names_distinct : (ns : List Name) (os : List Occurrence) → Distinct ns → Distinct (names_from ns os)
names_distinct ns [] d = d
names_distinct ns (o ∷ os) d = names_distinct (with_name ns o.name) os (go (has_name ns o.name.letters) refl)
  where
    go : (b : Bool) → has_name ns o.name.letters ≡ b → Distinct (cond b ns (ns ++ o.name ∷ []))
    go true e = d
    go false e = distinct_append ns o.name d e

lines_distinct : (os : List Occurrence) (c : ℕ) (ns : List Name) → Distinct ns → LinesDiffer (numbered os c ns)
lines_distinct os c [] d [] between after s s' e same = let z : ◌≡◌ {A = ℕ} 0 1 = cc in omega arith
lines_distinct os c [] d (b ∷ before) between after s s' e same = let z : ◌≡◌ {A = ℕ} 0 1 = cc in omega arith
lines_distinct os c (n ∷ ns) d [] between after s s' e same =
    let k : ℕ = c + cells (kind_of os n.letters) in
    let f : line os c n ≡ s = cc in
    let r : numbered os k ns ≡ between ++ s' ∷ after = cc in
    let P : List Symbol → Type 0 = λ l. In s' l in
    let i : In s' (numbered os k ns) = subst P (sym r) (in_middle between s' after) in
    let m : n.letters ≡ s'.name.letters = ap (λ (v : Symbol). v.name.letters) f ∙ same in
    both_ways (has_name ns n.letters) d.0 (in_to_has ns s'.name n.letters (line_named s' os k ns i) m)
lines_distinct os c (n ∷ ns) d (b ∷ before) between after s s' e same =
    let r : numbered os (c + cells (kind_of os n.letters)) ns ≡ before ++ s ∷ (between ++ s' ∷ after) = cc in
    lines_distinct os (c + cells (kind_of os n.letters)) ns d.1 before between after s s' r same

-- The lines behind the first differ too.
pub rest_differ : (y : Symbol) (ss : List Symbol) → LinesDiffer (y ∷ ss) → LinesDiffer ss
rest_differ y ss d before between after s s' e same = d (y ∷ before) between after s s' (ap (λ (l : List Symbol). y ∷ l) e) same

pub lines_differ : (t : Program) → LinesDiffer (symbols t)
lines_differ t = lines_distinct (occurrences t) 0 (names t) (names_distinct [] (occurrences t) tt)

-- The table says of a name that it has what all occurrences say of it.
pub table_says : (os : List Occurrence) (c : ℕ) (ns : List Name) (x : List ℕ) → has_name ns x ≡ true → (kind_in (numbered os c ns) x ≡ kind_of os x) × (type_in (numbered os c ns) x ≡ type_of os x)
table_says os c [] x h = absurd (both_ways false refl h)
table_says os c (n ∷ ns) x h = go (bytes_eq x n.letters) refl (table_says os (c + cells (kind_of os n.letters)) ns x)
  where
    d : ℕ
    d = c + cells (kind_of os n.letters)

    rest_has : bytes_eq x n.letters ≡ false → has_name ns x ≡ true
    rest_has e = rw e at h

    go : (b : Bool) → bytes_eq x n.letters ≡ b
        → (has_name ns x ≡ true → (kind_in (numbered os (c + cells (kind_of os n.letters)) ns) x ≡ kind_of os x) × (type_in (numbered os (c + cells (kind_of os n.letters)) ns) x ≡ type_of os x))
        → (kind_in (numbered os c (n ∷ ns)) x ≡ kind_of os x) × (type_in (numbered os c (n ∷ ns)) x ≡ type_of os x)
    go true e rest = let m : n.letters ≡ x = sym (from_same x n.letters e) in (rw e (ap (λ (v : List ℕ). kind_of os v) m), rw e (ap (λ (v : List ℕ). type_of os v) m))
    go false e rest = let r = rest (rest_has e) in (rw e r.0, rw e r.1)

pub name_said : (t : Program) (o : Occurrence) → In o (occurrences t) → (kind_in (symbols t) o.name.letters ≡ kind_of (occurrences t) o.name.letters) × (type_in (symbols t) o.name.letters ≡ type_of (occurrences t) o.name.letters)
name_said t o i =
    let n = entered o [] (occurrences t) i in
    table_says (occurrences t) 0 (names t) o.name.letters (in_to_has (names t) n.0 o.name.letters n.1 (sym n.2))
