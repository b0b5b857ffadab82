-- Definitions, types and uses of names in a tree that keeps the rules.
use Rattle.std.proofs.Common.{◌≡◌, ℕ, Bool, true, false, cond, not, List, [], ◌∷◌, ◌++◌, Some, None, Option, sym, refl, ap, ◌∙◌, subst, append_assoc, append-nil}
use Rattle.std.specs.Str.{bytes_eq}
use Rattle.std.proofs.lemmas.Bool.{both_ways, or_parts, not-false, true≢false}
use Rattle.grammar.specs.Tree.{Program}
use Rattle.symbols.specs.declared.value_type.ValueType.{ValueType}
use Rattle.symbols.specs.declared.refusal.NameRefusal.TheVariants.{SecondDefinition, MisusedName}
use Rattle.symbols.specs.Occurrences.{Role, as_label, as_switch, as_array, of_type, in_switch, as_target, as_selector, as_variable, as_element, Occurrence, occurrences}
use Rattle.symbols.specs.Symbols.{Kind, a_label, a_switch, an_array, a_variable, definition, declared_type, or_else, first_said, or_variable, or_untyped, Symbol, symbols, kind_of, type_of, kind_in}
use Rattle.symbols.specs.Types.{told}
use Rattle.symbols.specs.Rules.{is_some, is_defined, is_typed, target, is_target, defines_again, second_definitions, suits, misused_names, accepted, verdict}
use Rattle.symbols.specs.Laws.{In, here, later, Twice, Says, Wants, NamesAgree}
use Rattle.symbols.proofs.Lists.{Split, in_to_split}
use Rattle.symbols.proofs.Offences.{empty_left, empty_right, nothing_told, accepted_to_keeps_all}
use Rattle.symbols.proofs.Table.{to_same, name_said}

-- What the first of two lists says of a name goes before what the second says.
module _ {A : Type 0} (f : Role → Option A) where
  either_says : (b : Bool) (v u w : Option A) → cond b (or_else v (or_else u w)) (or_else u w) ≡ or_else (cond b (or_else v u) u) w
  either_says true (Some x) u w = refl
  either_says true None u w = refl
  either_says false v u w = refl

  pub said_append : (xs ys : List Occurrence) (x : List ℕ) → first_said f (xs ++ ys) x ≡ or_else (first_said f xs x) (first_said f ys x)
  said_append [] ys x = refl
  said_append (o ∷ xs) ys x = rw (said_append xs ys x) (either_says (bytes_eq x o.name.letters) (f o.role) (first_said f xs x) (first_said f ys x))

  -- What an occurrence says of its own name is said of the list that it begins.
  said_here : (o : Occurrence) (os : List Occurrence) (x : List ℕ) → x ≡ o.name.letters → first_said f (o ∷ os) x ≡ or_else (f o.role) (first_said f os x)
  said_here o os x e = rw (to_same x o.name.letters e)

  some_left : (u w : Option A) → is_some u ≡ true → is_some (or_else u w) ≡ true
  some_left (Some x) w e = refl
  some_left None w e = absurd (both_ways false refl e)

  some_right : (u w : Option A) → is_some w ≡ true → is_some (or_else u w) ≡ true
  some_right (Some x) w e = refl
  some_right None w e = e

  none_is : (u : Option A) → is_some u ≡ false → u ≡ None
  none_is (Some x) e = absurd (both_ways true e refl)
  none_is None e = refl

  -- A name is said something of wherever one of its occurrences says something.
  said_some : (before : List Occurrence) (o : Occurrence) (after : List Occurrence) (x : List ℕ) → x ≡ o.name.letters → is_some (f o.role) ≡ true → is_some (first_said f (before ++ o ∷ after) x) ≡ true
  said_some before o after x e s =
      rw (said_append before (o ∷ after) x)
      (some_right (first_said f before x) (first_said f (o ∷ after) x)
      (rw (said_here o after x e) (some_left (f o.role) (first_said f after x) s)))

  -- It is what the first says that says anything.
  said_first : (before : List Occurrence) (o : Occurrence) (after : List Occurrence) (v : A) → is_some (first_said f before o.name.letters) ≡ false → f o.role ≡ Some v → first_said f (before ++ o ∷ after) o.name.letters ≡ Some v
  said_first before o after v n s =
      said_append before (o ∷ after) o.name.letters
      ∙ (ap (λ (u : Option A). or_else u (first_said f (o ∷ after) o.name.letters)) (none_is (first_said f before o.name.letters) n)
      ∙ (said_here o after o.name.letters refl
      ∙ ap (λ (u : Option A). or_else u (first_said f after o.name.letters)) s))

-- Where no second definition is told, each occurrence passed its test against those before it.
passed : (whole before xs : List Occurrence) (o : Occurrence) (ys : List Occurrence) → second_definitions whole before (xs ++ o ∷ ys) ≡ [] → defines_again whole (before ++ xs) o.name.letters o.role ≡ false
passed whole before [] o ys e =
    let b : Bool = defines_again whole before o.name.letters o.role in
    let h : b ≡ false = nothing_told b o.name.place (empty_left (told b o.name.place) (second_definitions whole (before ++ o ∷ []) ys) e) in
    let P : List Occurrence → Type 0 = λ l. defines_again whole l o.name.letters o.role ≡ false in
    subst P (sym (append-nil before)) h
passed whole before (x ∷ xs) o ys e =
    let b : Bool = defines_again whole before x.name.letters x.role in
    let r : second_definitions whole (before ++ x ∷ []) (xs ++ o ∷ ys) ≡ [] = empty_right (told b x.name.place) (second_definitions whole (before ++ x ∷ []) (xs ++ o ∷ ys)) e in
    let P : List Occurrence → Type 0 = λ l. defines_again whole l o.name.letters o.role ≡ false in
    subst P (append_assoc before (x ∷ []) xs) (passed whole (before ++ x ∷ []) xs o ys r)

-- What the test is for a definition, and for a name in a type's list.
test_of_definition : (whole before : List Occurrence) (x : List ℕ) (r : Role) → is_some (definition r) ≡ true → defines_again whole before x r ≡ false → is_defined before x ≡ false
test_of_definition whole before x as_label s h = h
test_of_definition whole before x (as_switch xs) s h = h
test_of_definition whole before x (as_array l u) s h = h
test_of_definition whole before x (of_type t) s h = absurd (both_ways false refl s)
test_of_definition whole before x in_switch s h = absurd (both_ways false refl s)
test_of_definition whole before x as_target s h = absurd (both_ways false refl s)
test_of_definition whole before x as_selector s h = absurd (both_ways false refl s)
test_of_definition whole before x as_variable s h = absurd (both_ways false refl s)
test_of_definition whole before x as_element s h = absurd (both_ways false refl s)

test_of_type : (whole before : List Occurrence) (x : List ℕ) (r : Role) → is_some (declared_type r) ≡ true → defines_again whole before x r ≡ false → (is_typed before x ≡ false) × (is_target whole x ≡ false)
test_of_type whole before x as_label s h = absurd (both_ways false refl s)
test_of_type whole before x (as_switch xs) s h = absurd (both_ways false refl s)
test_of_type whole before x (as_array l u) s h = absurd (both_ways false refl s)
test_of_type whole before x (of_type t) s h = or_parts (is_typed before x) (is_target whole x) h
test_of_type whole before x in_switch s h = absurd (both_ways false refl s)
test_of_type whole before x as_target s h = absurd (both_ways false refl s)
test_of_type whole before x as_selector s h = absurd (both_ways false refl s)
test_of_type whole before x as_variable s h = absurd (both_ways false refl s)
test_of_type whole before x as_element s h = absurd (both_ways false refl s)

-- The rules' consequences for a list of occurrences with no second definition.
module _ (os : List Occurrence) (once : second_definitions os [] os ≡ []) where
  passed_at : (before : List Occurrence) (o : Occurrence) (after : List Occurrence) → os ≡ before ++ o ∷ after → defines_again os before o.name.letters o.role ≡ false
  passed_at before o after e = let P : List Occurrence → Type 0 = λ l. second_definitions os [] l ≡ [] in passed os [] before o after (subst P e once)

  twice_passed : (o o' : Occurrence) (w : Twice os o o') → defines_again os (w.before ++ o ∷ w.between) o'.name.letters o'.role ≡ false
  twice_passed o o' w = passed_at (w.before ++ o ∷ w.between) o' w.after (w.whole ∙ sym (append_assoc w.before (o ∷ w.between) (o' ∷ w.after)))

  no_second_definition : (o o' : Occurrence) → Twice os o o' → Says definition o → Says definition o' → ⊥
  no_second_definition o o' w s s' =
      both_ways (is_defined (w.before ++ o ∷ w.between) o'.name.letters)
      (test_of_definition os (w.before ++ o ∷ w.between) o'.name.letters o'.role s' (twice_passed o o' w))
      (said_some definition w.before o w.between o'.name.letters w.same s)

  no_second_type : (o o' : Occurrence) → Twice os o o' → Says declared_type o → Says declared_type o' → ⊥
  no_second_type o o' w s s' =
      both_ways (is_typed (w.before ++ o ∷ w.between) o'.name.letters)
      (test_of_type os (w.before ++ o ∷ w.between) o'.name.letters o'.role s' (twice_passed o o' w)).0
      (said_some declared_type w.before o w.between o'.name.letters w.same s)

  no_typed_target : (o o' : Occurrence) → In o os → In o' os → o'.name.letters ≡ o.name.letters → Says declared_type o → Says target o' → ⊥
  no_typed_target o o' i i' e s s' =
      let a : Split o os = in_to_split o os i in
      let b : Split o' os = in_to_split o' os i' in
      let P : List Occurrence → Type 0 = λ l. is_target l o.name.letters ≡ true in
      both_ways (is_target os o.name.letters)
      (test_of_type os a.before o.name.letters o.role s (passed_at a.before o a.after a.whole)).1
      (subst P (sym b.whole) (said_some target b.before o' b.after o.name.letters (sym e) s'))

  some_of : {A : Type 0} (u : Option A) (v : A) → u ≡ Some v → is_some u ≡ true
  some_of {A} u v e = ap (λ (w : Option A). is_some w) e

  the_definition : (o : Occurrence) (k : Kind) → In o os → definition o.role ≡ Some k → kind_of os o.name.letters ≡ k
  the_definition o k i d =
      let a : Split o os = in_to_split o os i in
      let n : is_defined a.before o.name.letters ≡ false = test_of_definition os a.before o.name.letters o.role (some_of (definition o.role) k d) (passed_at a.before o a.after a.whole) in
      let P : List Occurrence → Type 0 = λ l. kind_of l o.name.letters ≡ k in
      subst P (sym a.whole) (ap or_variable (said_first definition a.before o a.after k n d))

  the_type : (o : Occurrence) (y : ValueType) → In o os → declared_type o.role ≡ Some y → type_of os o.name.letters ≡ y
  the_type o y i d =
      let a : Split o os = in_to_split o os i in
      let n : is_typed a.before o.name.letters ≡ false = (test_of_type os a.before o.name.letters o.role (some_of (declared_type o.role) y d) (passed_at a.before o a.after a.whole)).0 in
      let P : List Occurrence → Type 0 = λ l. type_of l o.name.letters ≡ y in
      subst P (sym a.whole) (ap or_untyped (said_first declared_type a.before o a.after y n d))

-- Where no misuse is told, every use agrees with the table.
all_suit : (o : Occurrence) (ss : List Symbol) (os : List Occurrence) → misused_names ss os ≡ [] → In o os → suits (kind_in ss o.name.letters) o.role ≡ true
all_suit o ss [] e i = elim i [ ]
all_suit o ss (p ∷ os) e here =
    let b : Bool = not (suits (kind_in ss p.name.letters) p.role) in
    not-false (suits (kind_in ss p.name.letters) p.role) (nothing_told b p.name.place (empty_left (told b p.name.place) (misused_names ss os) e))
all_suit o ss (p ∷ os) e (later i) =
    let b : Bool = not (suits (kind_in ss p.name.letters) p.role) in
    all_suit o ss os (empty_right (told b p.name.place) (misused_names ss os) e) i

-- A use that suits what its name is has what it wants.
suits_to_wants : (k : Kind) (r : Role) → suits k r ≡ true → Wants r k
suits_to_wants k as_label e = tt
suits_to_wants k (as_switch xs) e = tt
suits_to_wants k (as_array l h) e = tt
suits_to_wants k (of_type t) e = tt
suits_to_wants a_label in_switch e = refl
suits_to_wants (a_switch xs) in_switch e = absurd (true≢false (sym e))
suits_to_wants (an_array l h) in_switch e = absurd (true≢false (sym e))
suits_to_wants a_variable in_switch e = absurd (true≢false (sym e))
suits_to_wants a_label as_target e = refl
suits_to_wants (a_switch xs) as_target e = absurd (true≢false (sym e))
suits_to_wants (an_array l h) as_target e = absurd (true≢false (sym e))
suits_to_wants a_variable as_target e = absurd (true≢false (sym e))
suits_to_wants a_label as_selector e = absurd (true≢false (sym e))
suits_to_wants (a_switch xs) as_selector e = (xs, refl)
suits_to_wants (an_array l h) as_selector e = absurd (true≢false (sym e))
suits_to_wants a_variable as_selector e = absurd (true≢false (sym e))
suits_to_wants a_label as_variable e = absurd (true≢false (sym e))
suits_to_wants (a_switch xs) as_variable e = absurd (true≢false (sym e))
suits_to_wants (an_array l h) as_variable e = absurd (true≢false (sym e))
suits_to_wants a_variable as_variable e = refl
suits_to_wants a_label as_element e = absurd (true≢false (sym e))
suits_to_wants (a_switch xs) as_element e = absurd (true≢false (sym e))
suits_to_wants (an_array l h) as_element e = (l, h, refl)
suits_to_wants a_variable as_element e = absurd (true≢false (sym e))

pub names_agree : (t : Program) → verdict t ≡ accepted → NamesAgree t
names_agree t e =
    let once : second_definitions (occurrences t) [] (occurrences t) ≡ [] = accepted_to_keeps_all t e SecondDefinition in
    record {
      defined_once = no_second_definition (occurrences t) once;
      typed_once = no_second_type (occurrences t) once;
      targets_untyped = no_typed_target (occurrences t) once;
      kind_is = λ o k i d. (name_said t o i).0 ∙ the_definition (occurrences t) once o k i d;
      type_is = λ o y i d. (name_said t o i).1 ∙ the_type (occurrences t) once o y i d;
      uses_suit = λ o i. all_suit o (symbols t) (occurrences t) (accepted_to_keeps_all t e MisusedName) i;
      uses_want = λ o i. suits_to_wants (kind_in (symbols t) o.name.letters) o.role (all_suit o (symbols t) (occurrences t) (accepted_to_keeps_all t e MisusedName) i);
    }
