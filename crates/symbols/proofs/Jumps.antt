-- The fors around labels and go tos, in a tree that keeps the rules.
use Rattle.std.proofs.Common.{◌≡◌, ℕ, Bool, true, false, not, ◌||◌, ◌⊎◌, List, [], ◌∷◌, ◌++◌, sym, refl, ap, subst, inl, inr}
use Rattle.std.specs.Str.{bytes_eq}
use Rattle.std.proofs.lemmas.Bool.{both_ways, or_parts, and_cases, not-false}
use Rattle.grammar.specs.Tree.{Row, one, more, Name, Statement, labelled, conditional, repeated, assigned, go, switched, input, printed, stop, sequence, Item, comment, integer, boolean, array, switch, action, Program}
use Rattle.symbols.specs.declared.refusal.NameRefusal.TheVariants.{JumpIntoFor}
use Rattle.symbols.specs.Occurrences.{as_target, as_selector, Occurrence, at, each, in_exp, in_element, in_statement, in_item, occurrences}
use Rattle.symbols.specs.Symbols.{Kind, a_label, a_switch, definition, Symbol, symbols, kind_in}
use Rattle.symbols.specs.Types.{told}
use Rattle.symbols.specs.Jumps.{open_labels, item_labels, outer_labels, is_among, is_label, leads_inside, some_name, switch_leads, jump_offences, item_jumps}
use Rattle.symbols.specs.Rules.{is_switch, suits, accepted, verdict}
use Rattle.symbols.specs.Laws.{In, here, later}
use Rattle.symbols.specs.ForsAround.{Label, labels_in, Jump, jumps_in, of_statement, labels, jumps, Leads, straight, by_switch, AllAround}
use Rattle.symbols.proofs.Lists.{in_left, in_right}
use Rattle.symbols.proofs.Offences.{empty_left, empty_right, nothing_told, by_place, accepted_to_keeps_all}
use Rattle.symbols.proofs.Table.{from_same}
use Rattle.symbols.proofs.Names.{names_agree}
use Rattle.symbols.proofs.Labels.{program_labels, Defining, defining, Differ, labels_differ, in_letters, one_label}

-- An element of two lists is one of the first or of the second.
pub in_append : {A : Type 0} (x : A) (xs ys : List A) → In x (xs ++ ys) → In x xs ⊎ In x ys
in_append x [] ys i = inr i
in_append x (y ∷ xs) ys here = inl here
in_append {A} x (y ∷ xs) ys (later i) = go (in_append x xs ys i)
  where
    go : In x xs ⊎ In x ys → In x (y ∷ xs) ⊎ In x ys
    go (inl j) = inl (later j)
    go (inr j) = inr j

among_append : (xs ys : List (List ℕ)) (x : List ℕ) → is_among (xs ++ ys) x ≡ true → (is_among xs x ≡ true) ⊎ (is_among ys x ≡ true)
among_append [] ys x e = inr e
among_append (y ∷ xs) ys x e = go (bytes_eq x y) e (among_append xs ys x)
  where
    go : (b : Bool) → (b || is_among (xs ++ ys) x) ≡ true → (is_among (xs ++ ys) x ≡ true → (is_among xs x ≡ true) ⊎ (is_among ys x ≡ true)) → ((b || is_among xs x) ≡ true) ⊎ (is_among ys x ≡ true)
    go true h rest = inl refl
    go false h rest = rest h

-- A label of these letters, with these fors around it at most.
pub record Seen (all : List Label) (fs : List ℕ) (x : List ℕ) : Type 0 where
  pub label : Label
  pub stands : In label all
  pub same : label.letters ≡ x
  pub around : AllAround label.fors fs

-- Every label that stands open in a statement has just the fors around the statement.
open_seen : (fs : List ℕ) (s : Statement) (x : List ℕ) → is_among (open_labels s) x ≡ true → (l : Label) × In l (labels_in fs s) × (l.letters ≡ x) × (l.fors ≡ fs)
open_seen fs (labelled y s) x e = go (bytes_eq x y.letters) refl e (open_seen fs s x)
  where
    go : (b : Bool) → bytes_eq x y.letters ≡ b → (b || is_among (open_labels s) x) ≡ true
        → (is_among (open_labels s) x ≡ true → (l : Label) × In l (labels_in fs s) × (l.letters ≡ x) × (l.fors ≡ fs))
        → (l : Label) × In l (labels_in fs (labelled y s)) × (l.letters ≡ x) × (l.fors ≡ fs)
    go true m h rest = (record { letters = y.letters; fors = fs }, here, sym (from_same x y.letters m), refl)
    go false m h rest = let r = rest h in (r.0, later r.1, r.2, r.3)
open_seen fs (conditional p a s) x e = open_seen fs s x e
open_seen fs (repeated p y es s) x e = absurd (both_ways false refl e)
open_seen fs (assigned v a) x e = absurd (both_ways false refl e)
open_seen fs (go p y) x e = absurd (both_ways false refl e)
open_seen fs (switched p y i) x e = absurd (both_ways false refl e)
open_seen fs (input p v) x e = absurd (both_ways false refl e)
open_seen fs (printed p xs) x e = absurd (both_ways false refl e)
open_seen fs (stop p) x e = absurd (both_ways false refl e)
open_seen fs (sequence s t) x e = go (among_append (open_labels s) (open_labels t) x e) (open_seen fs s x) (open_seen fs t x)
  where
    go : (is_among (open_labels s) x ≡ true) ⊎ (is_among (open_labels t) x ≡ true)
        → (is_among (open_labels s) x ≡ true → (l : Label) × In l (labels_in fs s) × (l.letters ≡ x) × (l.fors ≡ fs))
        → (is_among (open_labels t) x ≡ true → (l : Label) × In l (labels_in fs t) × (l.letters ≡ x) × (l.fors ≡ fs))
        → (l : Label) × In l (labels_in fs s ++ labels_in fs t) × (l.letters ≡ x) × (l.fors ≡ fs)
    go (inl h) f g = let r = f h in (r.0, in_left r.0 (labels_in fs s) (labels_in fs t) r.1, r.2, r.3)
    go (inr h) f g = let r = g h in (r.0, in_right r.0 (labels_in fs s) (labels_in fs t) r.1, r.2, r.3)

-- A label that does not lead inside is among those that are seen.
not_inside : (ss : List Symbol) (seen : List (List ℕ)) (y : Name) → kind_in ss y.letters ≡ a_label → leads_inside ss seen y ≡ false → is_among seen y.letters ≡ true
not_inside ss seen y k e = go (and_cases (is_label (kind_in ss y.letters)) (not (is_among seen y.letters)) e)
  where
    go : (is_label (kind_in ss y.letters) ≡ false) ⊎ (not (is_among seen y.letters) ≡ false) → is_among seen y.letters ≡ true
    go (inl h) = absurd (both_ways (is_label (kind_in ss y.letters)) h (ap is_label k))
    go (inr h) = not-false (is_among seen y.letters) h

none_of : (f : Name → Bool) (y : Name) (xs : Row Name) → some_name f xs ≡ false → In y (each (λ z. z ∷ []) xs) → f y ≡ false
none_of f y (one x) e here = e
none_of f y (one x) e (later i) = elim i [ ]
none_of f y (more xs x) e i = go (or_parts (some_name f xs) (f x) e) (in_append y (each (λ z. z ∷ []) xs) (x ∷ []) i) (none_of f y xs)
  where
    last : In y (x ∷ []) → f x ≡ false → f y ≡ false
    last j h = by_place (λ v. f v ≡ false) y x [] j h (λ k. elim k [ ])

    go : (some_name f xs ≡ false) × (f x ≡ false) → In y (each (λ z. z ∷ []) xs) ⊎ In y (x ∷ []) → (some_name f xs ≡ false → In y (each (λ z. z ∷ []) xs) → f y ≡ false) → f y ≡ false
    go h (inl j) rest = rest h.0 j
    go h (inr j) rest = last j h.1

switch_none : (f : Name → Bool) (k : Kind) (xs : Row Name) → k ≡ a_switch xs → switch_leads f k ≡ false → some_name f xs ≡ false
switch_none f k xs e h = let P : Kind → Type 0 = λ v. switch_leads f v ≡ false in subst P e h

-- A go to that breaks no rule sees a label of the letters that it leads to: one with at most its own fors around it.
module _ (ss : List Symbol) (all : List Label) (j : Jump) (x : List ℕ) (leads : Leads ss j.name x) (label : kind_in ss x ≡ a_label) where
  go_seen : (fs : List ℕ) (seen : List (List ℕ)) (y : Name) → Leads ss y x → is_label (kind_in ss y.letters) ≡ true → told (leads_inside ss seen y) y.place ≡ [] → is_among seen x ≡ true
  go_seen fs seen y (straight k) u e = not_inside ss seen y k (nothing_told (leads_inside ss seen y) y.place e)
  go_seen fs seen y (by_switch xs z k i) u e = absurd (both_ways (is_label (kind_in ss y.letters)) (ap is_label k) u)

  switch_seen : (fs : List ℕ) (seen : List (List ℕ)) (y : Name) (x : List ℕ) → kind_in ss x ≡ a_label → Leads ss y x → is_switch (kind_in ss y.letters) ≡ true → told (switch_leads (leads_inside ss seen) (kind_in ss y.letters)) y.place ≡ [] → is_among seen x ≡ true
  switch_seen fs seen y x l (straight k) u e = absurd (both_ways (is_switch (kind_in ss y.letters)) (ap is_switch k) u)
  switch_seen fs seen y x l (by_switch xs z k i) u e =
      let f : Name → Bool = leads_inside ss seen in
      let h : switch_leads f (kind_in ss y.letters) ≡ false = nothing_told (switch_leads f (kind_in ss y.letters)) y.place e in
      not_inside ss seen z l (none_of f z xs (switch_none f (kind_in ss y.letters) xs k h) i)

  -- In a for's body the labels of the body are seen too.
  seen_further : (p : ℕ) (fs : List ℕ) (y : List ℕ) → Seen all fs y → Seen all (p ∷ fs) y
  seen_further p fs y s = record { label = s.label; stands = s.stands; same = s.same; around = (p ∷ s.around.0, ap (λ (l : List ℕ). p ∷ l) s.around.1) }

  seen_in_body : (p : ℕ) (fs : List ℕ) (seen : List (List ℕ)) (s : Statement) → ((l : Label) → In l (labels_in (p ∷ fs) s) → In l all) → ((y : List ℕ) → is_among seen y ≡ true → Seen all fs y) → (y : List ℕ) → is_among (open_labels s ++ seen) y ≡ true → Seen all (p ∷ fs) y
  seen_in_body p fs seen s incl outer y e = either_seen (among_append (open_labels s) seen y e)
    where
      either_seen : (is_among (open_labels s) y ≡ true) ⊎ (is_among seen y ≡ true) → Seen all (p ∷ fs) y
      either_seen (inl h) = let r = open_seen (p ∷ fs) s y h in record { label = r.0; stands = incl r.0 r.1; same = r.2; around = ([], sym r.3) }
      either_seen (inr h) = seen_further p fs y (outer y h)

  abbrev UsesSuit : List Occurrence → Type 0
  UsesSuit os = (o : Occurrence) → In o os → suits (kind_in ss o.name.letters) o.role ≡ true

  one_jump : (fs : List ℕ) (y : Name) → In j (record { name = y; fors = fs } ∷ []) → j ≡ record { name = y; fors = fs }
  one_jump fs y i = by_place (λ v. v ≡ record { name = y; fors = fs }) j (record { name = y; fors = fs }) [] i refl (λ k. elim k [ ])

  jump_seen : (fs : List ℕ) (seen : List (List ℕ)) (s : Statement) → ((l : Label) → In l (labels_in fs s) → In l all) → UsesSuit (in_statement s) → ((y : List ℕ) → is_among seen y ≡ true → Seen all fs y) → jump_offences ss seen s ≡ [] → In j (jumps_in fs s) → Seen all j.fors x
  jump_seen fs seen (labelled y s) incl suit outer e i = jump_seen fs seen s (λ l k. incl l (later k)) (λ o k. suit o (later k)) outer e i
  jump_seen fs seen (conditional p a s) incl suit outer e i = jump_seen fs seen s incl (λ o k. suit o (in_right o (in_exp a) (in_statement s) k)) outer e i
  jump_seen fs seen (repeated p y es s) incl suit outer e i =
      jump_seen (p ∷ fs) (open_labels s ++ seen) s incl (λ o k. suit o (later (in_right o (each in_element es) (in_statement s) k))) (seen_in_body p fs seen s incl outer) e i
  jump_seen fs seen (assigned v a) incl suit outer e i = elim i [ ]
  jump_seen fs seen (go p y) incl suit outer e i =
      let q : j ≡ record { name = y; fors = fs } = one_jump fs y i in
      let P : Jump → Type 0 = λ v. Leads ss v.name x in
      let Q : Jump → Type 0 = λ v. Seen all v.fors x in
      subst Q (sym q) (outer x (go_seen fs seen y (subst P q leads) (suit (at as_target y) here) e))
  jump_seen fs seen (switched p y a) incl suit outer e i =
      let q : j ≡ record { name = y; fors = fs } = one_jump fs y i in
      let P : Jump → Type 0 = λ v. Leads ss v.name x in
      let Q : Jump → Type 0 = λ v. Seen all v.fors x in
      subst Q (sym q) (outer x (switch_seen fs seen y x label (subst P q leads) (suit (at as_selector y) here) e))
  jump_seen fs seen (input p v) incl suit outer e i = elim i [ ]
  jump_seen fs seen (printed p xs) incl suit outer e i = elim i [ ]
  jump_seen fs seen (stop p) incl suit outer e i = elim i [ ]
  jump_seen fs seen (sequence s t) incl suit outer e i =
      either_part (in_append j (jumps_in fs s) (jumps_in fs t) i)
      (jump_seen fs seen s (λ l k. incl l (in_left l (labels_in fs s) (labels_in fs t) k)) (λ o k. suit o (in_left o (in_statement s) (in_statement t) k)) outer (empty_left (jump_offences ss seen s) (jump_offences ss seen t) e))
      (jump_seen fs seen t (λ l k. incl l (in_right l (labels_in fs s) (labels_in fs t) k)) (λ o k. suit o (in_right o (in_statement s) (in_statement t) k)) outer (empty_right (jump_offences ss seen s) (jump_offences ss seen t) e))
    where
      either_part : In j (jumps_in fs s) ⊎ In j (jumps_in fs t) → (In j (jumps_in fs s) → Seen all j.fors x) → (In j (jumps_in fs t) → Seen all j.fors x) → Seen all j.fors x
      either_part (inl k) f g = f k
      either_part (inr k) f g = g k

  item_seen : (seen : List (List ℕ)) → ((y : List ℕ) → is_among seen y ≡ true → Seen all [] y) → (b : Item) → ((l : Label) → In l (of_statement (labels_in []) b) → In l all) → UsesSuit (in_item b) → item_jumps ss seen b ≡ [] → In j (of_statement (jumps_in []) b) → Seen all j.fors x
  item_seen seen outer comment incl suit e i = elim i [ ]
  item_seen seen outer (integer xs) incl suit e i = elim i [ ]
  item_seen seen outer (boolean xs) incl suit e i = elim i [ ]
  item_seen seen outer (array gs) incl suit e i = elim i [ ]
  item_seen seen outer (switch y xs) incl suit e i = elim i [ ]
  item_seen seen outer (action s) incl suit e i = jump_seen [] seen s incl suit outer e i

  program_seen : (seen : List (List ℕ)) → ((y : List ℕ) → is_among seen y ≡ true → Seen all [] y) → (t : Row Item) → ((l : Label) → In l (each (of_statement (labels_in [])) t) → In l all) → UsesSuit (each in_item t) → each (item_jumps ss seen) t ≡ [] → In j (each (of_statement (jumps_in [])) t) → Seen all j.fors x
  program_seen seen outer (one b) incl suit e i = item_seen seen outer b incl suit e i
  program_seen seen outer (more t b) incl suit e i =
      either_part (in_append j (each (of_statement (jumps_in [])) t) (of_statement (jumps_in []) b) i)
      (program_seen seen outer t (λ l k. incl l (in_left l (each (of_statement (labels_in [])) t) (of_statement (labels_in []) b) k)) (λ o k. suit o (in_left o (each in_item t) (in_item b) k)) (empty_left (each (item_jumps ss seen) t) (item_jumps ss seen b) e))
      (item_seen seen outer b (λ l k. incl l (in_right l (each (of_statement (labels_in [])) t) (of_statement (labels_in []) b) k)) (λ o k. suit o (in_right o (each in_item t) (in_item b) k)) (empty_right (each (item_jumps ss seen) t) (item_jumps ss seen b) e))
    where
      either_part : In j (each (of_statement (jumps_in [])) t) ⊎ In j (of_statement (jumps_in []) b) → (In j (each (of_statement (jumps_in [])) t) → Seen all j.fors x) → (In j (of_statement (jumps_in []) b) → Seen all j.fors x) → Seen all j.fors x
      either_part (inl k) f g = f k
      either_part (inr k) f g = g k

-- The labels outside all fors are labels with no for around them.
abbrev Found : List Label → List ℕ → Type 0
Found all y = (l : Label) × In l all × (l.letters ≡ y) × (l.fors ≡ [])

item_outer : (y : List ℕ) (b : Item) → is_among (item_labels b) y ≡ true → Found (of_statement (labels_in []) b) y
item_outer y comment e = absurd (both_ways false refl e)
item_outer y (integer xs) e = absurd (both_ways false refl e)
item_outer y (boolean xs) e = absurd (both_ways false refl e)
item_outer y (array gs) e = absurd (both_ways false refl e)
item_outer y (switch x xs) e = absurd (both_ways false refl e)
item_outer y (action s) e = open_seen [] s y e

program_outer : (y : List ℕ) (t : Row Item) → is_among (each item_labels t) y ≡ true → Found (each (of_statement (labels_in [])) t) y
program_outer y (one b) e = item_outer y b e
program_outer y (more t b) e = go (among_append (each item_labels t) (item_labels b) y e) (program_outer y t)
  where
    go : (is_among (each item_labels t) y ≡ true) ⊎ (is_among (item_labels b) y ≡ true) → (is_among (each item_labels t) y ≡ true → Found (each (of_statement (labels_in [])) t) y) → Found (each (of_statement (labels_in [])) t ++ of_statement (labels_in []) b) y
    go (inl h) rest = let r = rest h in (r.0, in_left r.0 (each (of_statement (labels_in [])) t) (of_statement (labels_in []) b) r.1, r.2, r.3)
    go (inr h) rest = let r = item_outer y b h in (r.0, in_right r.0 (each (of_statement (labels_in [])) t) (of_statement (labels_in []) b) r.1, r.2, r.3)

-- In an accepted tree every for around a label is around each go to that can lead there.
pub jumps_stay_outside : (t : Program) → verdict t ≡ accepted → (j : Jump) → In j (jumps t) → (l : Label) → In l (labels t) → Leads (symbols t) j.name l.letters → AllAround l.fors j.fors
jumps_stay_outside t e j i l k leads =
    let agree = names_agree t e in
    let P : List (List ℕ) → Type 0 = λ v. In l.letters v in
    let d : Defining (occurrences t) l.letters = defining (occurrences t) l.letters (subst P (sym (program_labels t)) (in_letters l (labels t) k)) in
    let Q : List ℕ → Type 0 = λ v. kind_in (symbols t) v ≡ a_label in
    let label : kind_in (symbols t) l.letters ≡ a_label = subst Q d.same (agree.kind_is d.occurrence a_label d.stands (ap definition d.defines)) in
    let outer : (y : List ℕ) → is_among (outer_labels t) y ≡ true → Seen (labels t) [] y =
    λ y h. let r = program_outer y t h in record { label = r.0; stands = r.1; same = r.2; around = ([], sym r.3) } in
    let s : Seen (labels t) j.fors l.letters =
    program_seen (symbols t) (labels t) j l.letters leads label (outer_labels t) outer t (λ m h. h) agree.uses_suit (accepted_to_keeps_all t e JumpIntoFor) i in
    let R : List (List ℕ) → Type 0 = λ v. Differ v in
    let q : s.label ≡ l = one_label s.label l (labels t) (subst R (program_labels t) (labels_differ (occurrences t) agree.defined_once)) s.stands k s.same in
    let S : Label → Type 0 = λ v. AllAround v.fors j.fors in
    subst S q s.around
