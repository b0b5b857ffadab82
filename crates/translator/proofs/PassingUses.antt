-- The uses of names in an accepted tree: what a go to or a switch's list names is a label of the text; the cells of what is
-- used as a variable can be named.
use Rattle.std.proofs.Common.{◌≡◌, ℕ, zero, suc, ◌+◌, ◌-◌, ◌≤◌, Bool, true, false, cond, List, [], ◌∷◌, pos, ◌+ℤ◌, Some, None, Option, sym, refl, ap, ◌∙◌, subst, arith}
use Rattle.std.proofs.lemmas.Int.{ints}
use Rattle.std.specs.Str.{bytes_eq}
use Rattle.words.specs.declared.token.Sign.{Sign}
use Rattle.words.specs.declared.token.Sign.TheVariants.{Plus, Minus}
use Rattle.grammar.specs.Tree.{Bound, Program}
use Rattle.symbols.specs.Occurrences.{Role, as_label, as_switch, as_array, of_type, in_switch, as_target, as_selector, as_variable, as_element, Occurrence, occurrences}
use Rattle.symbols.specs.Symbols.{Kind, a_label, a_switch, an_array, a_variable, definition, or_else, first_said, or_variable, signed, cells, low_bound, symbols, kind_in}
use Rattle.symbols.specs.Jumps.{is_label}
use Rattle.symbols.specs.Rules.{accepted, verdict, suits, is_array}
use Rattle.symbols.specs.Laws.{In, here, later, BoundsInRange}
use Rattle.symbols.proofs.Bounds.{bounds_in_range}
use Rattle.symbols.proofs.Names.{names_agree}
use Rattle.symbols.proofs.Table.{from_same, name_said}
use Rattle.meaning.specs.Names.{names_in}
use Rattle.translator.specs.Generator.{Entry}
use Rattle.translator.proofs.AcceptedNames.{from_is_variable, from_is_array, array_role}
use Rattle.translator.proofs.Resuming.{Begins}
use Rattle.translator.proofs.PassingExpressions.{Packs, Use}

clash : {A : Type 0} → ◌≡◌ {A = ℕ} 0 1 → A
clash e = absurd (omega arith)

-- What is said of a name is said by an occurrence of it.
pub said_by : {A : Type 0} (f : Role → Option A) (os : List Occurrence) (x : List ℕ) (v : A) → first_said f os x ≡ Some v
    → (o : Occurrence) × In o os × (o.name.letters ≡ x) × (f o.role ≡ Some v)
said_by f [] x v e = clash (cc)
said_by {A} f (p ∷ os) x v e = pick (bytes_eq x p.name.letters) refl e (said_by f os x v)
  where
    further : (o : Occurrence) × In o os × (o.name.letters ≡ x) × (f o.role ≡ Some v) → (o : Occurrence) × In o (p ∷ os) × (o.name.letters ≡ x) × (f o.role ≡ Some v)
    further r = (r.0, later r.1, r.2, r.3)

    first_or : (w : Option A) → f p.role ≡ w → bytes_eq x p.name.letters ≡ true → or_else w (first_said f os x) ≡ Some v
        → (first_said f os x ≡ Some v → (o : Occurrence) × In o os × (o.name.letters ≡ x) × (f o.role ≡ Some v))
        → (o : Occurrence) × In o (p ∷ os) × (o.name.letters ≡ x) × (f o.role ≡ Some v)
    first_or (Some y) s b e rest = (p, here, sym (from_same x p.name.letters b), s ∙ e)
    first_or None s b e rest = further (rest e)

    pick : (b : Bool) → bytes_eq x p.name.letters ≡ b → cond b (or_else (f p.role) (first_said f os x)) (first_said f os x) ≡ Some v
        → (first_said f os x ≡ Some v → (o : Occurrence) × In o os × (o.name.letters ≡ x) × (f o.role ≡ Some v))
        → (o : Occurrence) × In o (p ∷ os) × (o.name.letters ≡ x) × (f o.role ≡ Some v)
    pick true b e rest = first_or (f p.role) refl b e rest
    pick false b e rest = further (rest e)

-- A definition by its kind.
defines_label : (r : Role) → definition r ≡ Some a_label → r ≡ as_label
defines_label as_label e = refl
defines_label (as_switch xs) e = clash (cc)
defines_label (as_array l h) e = clash (cc)
defines_label (of_type t) e = clash (cc)
defines_label in_switch e = clash (cc)
defines_label as_target e = clash (cc)
defines_label as_selector e = clash (cc)
defines_label as_variable e = clash (cc)
defines_label as_element e = clash (cc)

-- A kind other than a variable's comes of a definition.
pub is_said : (w : Option Kind) (k : Kind) → or_variable w ≡ k → (k ≡ a_variable → ⊥) → w ≡ Some k
is_said None k e n = absurd (n (sym e))
is_said (Some j) k e n = ap Some e

kind_label : (k : Kind) → is_label k ≡ true → k ≡ a_label
kind_label a_label e = refl
kind_label (a_switch xs) e = clash (cc)
kind_label (an_array l h) e = clash (cc)
kind_label a_variable e = clash (cc)

-- A bound within 9,999 of 0, as a number that is 10,000 more.
near : (s : Sign) (n : ℕ) → n ≤ 9999 → (b : ℕ) × (signed s n +ℤ pos 10000 ≡ pos b) × (1 ≤ b) × (b ≤ 19999)
near Plus n le = (n + 10000, refl, omega arith, omega arith)
near Minus zero le = (10000, refl, omega arith, omega arith)
near Minus (suc n) le = (10000 - suc n, omega (arith, ints), omega arith, omega arith)

module _ (t : Program) (ok : verdict t ≡ accepted) where
  suited : (o : Occurrence) (r : Role) → In o (occurrences t) → o.role ≡ r → suits (kind_in (symbols t) o.name.letters) r ≡ true
  suited o r i e = subst (λ (q : Role). suits (kind_in (symbols t) o.name.letters) q ≡ true) e ((names_agree t ok).uses_suit o i)

  said_of : (o : Occurrence) (k : Kind) → In o (occurrences t) → kind_in (symbols t) o.name.letters ≡ k → (k ≡ a_variable → ⊥)
      → (p : Occurrence) × In p (occurrences t) × (p.name.letters ≡ o.name.letters) × (definition p.role ≡ Some k)
  said_of o k i e n =
      said_by definition (occurrences t) o.name.letters k (is_said (first_said definition (occurrences t) o.name.letters) k (sym (name_said t o i).0 ∙ e) n)

  packs_variable : (x : List ℕ) → kind_in (symbols t) x ≡ a_variable → Packs ((names_in (symbols t)).extent x)
  packs_variable x e = record {
    some = omega (arith, ap cells e);
    bias = 10000;
    biased = ap (λ k. low_bound k +ℤ pos 10000) e;
    low_from = omega arith;
    low_to = omega arith;
  }

  packs_array : (x : List ℕ) (l h : Bound) → kind_in (symbols t) x ≡ an_array l h → BoundsInRange l h → Packs ((names_in (symbols t)).extent x)
  packs_array x l h e b =
      let n = near l.sign l.size b.low_near in
      record {
        some = omega (arith, ap cells e, b.at_least_one);
        bias = n.0;
        biased = ap (λ k. low_bound k +ℤ pos 10000) e ∙ n.1;
        low_from = n.2;
        low_to = n.3;
      }

  module _ (c : List Entry) (label_at : List ℕ → ℕ) (begin : (o : Occurrence) → In o (occurrences t) → o.role ≡ as_label → Begins c (label_at o.name.letters)) where
    goes : (o : Occurrence) → In o (occurrences t) → is_label (kind_in (symbols t) o.name.letters) ≡ true → Begins c (label_at o.name.letters)
    goes o i e =
        let p = said_of o a_label i (kind_label (kind_in (symbols t) o.name.letters) e) (λ z. clash (cc)) in
        subst (λ (x : List ℕ). Begins c (label_at x)) p.2 (begin p.0 p.1 (defines_label p.0.role p.3))

    element : (o : Occurrence) → In o (occurrences t) → is_array (kind_in (symbols t) o.name.letters) ≡ true → Packs ((names_in (symbols t)).extent o.name.letters)
    element o i e =
        let k = from_is_array (kind_in (symbols t) o.name.letters) e in
        let p = said_of o (an_array k.0 k.1) i k.2 (λ z. clash (cc)) in
        packs_array o.name.letters k.0 k.1 k.2 (bounds_in_range t ok p.0 k.0 k.1 p.1 (array_role p.0.role k.0 k.1 p.3))

    pub uses_sound : (o : Occurrence) → In o (occurrences t) → Use c (names_in (symbols t)) label_at o.role o.name
    uses_sound o i = by_role o.role refl
      where
        by_role : (r : Role) → o.role ≡ r → Use c (names_in (symbols t)) label_at r o.name
        by_role as_label e = tt
        by_role (as_switch xs) e = tt
        by_role (as_array l h) e = tt
        by_role (of_type y) e = tt
        by_role in_switch e = goes o i (suited o in_switch i e)
        by_role as_target e = goes o i (suited o as_target i e)
        by_role as_selector e = tt
        by_role as_variable e = packs_variable o.name.letters (from_is_variable (kind_in (symbols t) o.name.letters) (suited o as_variable i e))
        by_role as_element e = element o i (suited o as_element i e)
