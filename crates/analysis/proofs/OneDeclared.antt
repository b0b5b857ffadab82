-- One declaration heeded: the line of its name changes, the other lines stay.
use Rattle.std.proofs.Common.{◌≡◌, ℕ, ◌<◌, ◌≤◌, Bool, true, false, cond, ◌||◌, ◌⊎◌, List, [], ◌∷◌, ◌++◌, length, get_or, set, Some, None, Option, sym, refl, ap, ◌∙◌, subst, inl, inr, arith}
use Rattle.std.proofs.lemmas.List.{length-set, get_or-set_same, get_or-set_other}
use Rattle.std.proofs.lemmas.Bool.{both_ways, cases_eq}
use Rattle.grammar.specs.Tree.{Name}
use Rattle.parser.specs.declared.table.Record.{Record}
use Rattle.parser.specs.Records.{View, bound_in}
use Rattle.symbols.specs.declared.value_type.ValueType.{ValueType}
use Rattle.symbols.specs.declared.value_type.ValueType.TheVariants.{Integer, Boolean}
use Rattle.symbols.specs.Occurrences.{Role, as_label, as_switch, as_array, of_type, Occurrence, at}
use Rattle.symbols.specs.Symbols.{Kind, a_label, a_switch, an_array, definition, declared_type, or_else, first_said, or_variable, or_untyped}
use Rattle.symbols.specs.Types.{told}
use Rattle.symbols.specs.Rules.{is_some, is_defined, is_typed, target, is_target, defines_again}
use Rattle.analysis.specs.declared.symbol.NameKind.{NameKind}
use Rattle.analysis.specs.declared.symbol.NameKind.TheVariants.{Label, Switch, Array}
use Rattle.analysis.specs.declared.symbol.NameRecord.{NameRecord}
use Rattle.analysis.specs.declared.declaration.Declaration.{Declaration}
use Rattle.analysis.specs.declared.declaration.Declaration.TheVariants.{Defined, Typed}
use Rattle.analysis.specs.Heeding.{Pass}
use Rattle.analysis.specs.Heeding.{marking, declaring}
use Rattle.analysis.specs.Earliest.{earliest_of}
use Rattle.analysis.specs.SymbolTable.{KindAt, label as label_line, switch as switch_line, array as array_line}
use Rattle.analysis.specs.Kinds.{is_defined_kind, is_target_kind, is_typed_as}
use Rattle.analysis.specs.Lines.{line_of, NumberedWords, LineSoFar, SoFar}
use Rattle.analysis.specs.Heeding.{marked_line, declared_line, offends_line, heeded_in, offends_in, RoleAt, label, switch, array, integer, boolean, TableAt, Heeds}
use Rattle.analysis.proofs.Said.{or_none, some_or, said_own, said_other}
use Rattle.analysis.proofs.LineOf.{known_line}
use Rattle.analysis.proofs.Heeded.{SameSaid, line_stays}

-- The first definition counts.
kind_after : {v : View} (k₀ k : NameKind) (K : Kind) (b : Bool) (u : Option Kind) → b ≡ is_some u → KindAt v k₀ (or_variable u) → KindAt v k K → KindAt v (cond b k₀ k) (or_variable (or_else u (Some K)))
kind_after k₀ k K true (Some q) e h g = h
kind_after k₀ k K true None e h g = absurd (both_ways false refl (sym e))
kind_after k₀ k K false (Some q) e h g = absurd (both_ways false refl e)
kind_after k₀ k K false None e h g = g

defined_after : (k₀ k : NameKind) (K : Kind) (b : Bool) (u : Option Kind) → b ≡ is_some u → is_defined_kind k₀ ≡ b → is_defined_kind k ≡ true → is_defined_kind (cond b k₀ k) ≡ is_some (or_else u (Some K))
defined_after k₀ k K true (Some q) e h g = h
defined_after k₀ k K true None e h g = absurd (both_ways false refl (sym e))
defined_after k₀ k K false (Some q) e h g = absurd (both_ways false refl e)
defined_after k₀ k K false None e h g = g

-- The first type counts.
type_after : (t₀ t : ValueType) (b : Bool) (u : Option ValueType) → b ≡ is_some u → t₀ ≡ or_untyped u → cond b t₀ t ≡ or_untyped (or_else u (Some t))
type_after t₀ t true (Some q) e h = h
type_after t₀ t true None e h = absurd (both_ways false refl (sym e))
type_after t₀ t false (Some q) e h = absurd (both_ways false refl e)
type_after t₀ t false None e h = refl

typed_after : (t₀ t : ValueType) (b : Bool) (u : Option ValueType) → b ≡ is_some u → is_typed_as t₀ ≡ b → is_typed_as t ≡ true → is_typed_as (cond b t₀ t) ≡ is_some (or_else u (Some t))
typed_after t₀ t true (Some q) e h g = h
typed_after t₀ t true None e h g = absurd (both_ways false refl (sym e))
typed_after t₀ t false (Some q) e h g = absurd (both_ways false refl e)
typed_after t₀ t false None e h g = g

-- The line of a name that is declared once more.
module _ {v : View} {m h : List Occurrence} {r : NameRecord} {n : Name} (x : Name) (same : n.letters ≡ x.letters) (l : LineSoFar v m h r n) where
  -- A role that says nothing for f changes nothing.
  unsaid : {A : Type 0} (f : Role → Option A) (os : List Occurrence) (role : Role) → f role ≡ None → first_said f os n.letters ≡ first_said f (os ++ at role x ∷ []) n.letters
  unsaid {A} f os role e = sym (said_own f os role x n.letters same ∙ (ap (λ (u : Option A). or_else (first_said f os n.letters) u) e ∙ or_none (first_said f os n.letters)))

  target_after : (role : Role) → is_target (m ++ at role x ∷ []) n.letters ≡ (is_target m n.letters || is_some (target role))
  target_after role = ap is_some (said_own target m role x n.letters same) ∙ some_or (first_said target m n.letters) (target role)

  marked_defined : (k : NameKind) (role : Role) → is_target_kind k ≡ is_some (target role) → LineSoFar v (m ++ at role x ∷ []) h (marked_line (Defined k) r) n
  marked_defined k role t =
      record {
        named = l.named;
        target = ap (λ (b : Bool). b || is_target_kind k) l.target ∙ (ap (λ (b : Bool). is_target m n.letters || b) t ∙ sym (target_after role));
        kind = l.kind;
        defined = l.defined;
        type = l.type;
        typed = l.typed;
      }

  pub marked_right : {d : Declaration} {role : Role} → RoleAt v d role → LineSoFar v (m ++ at role x ∷ []) h (marked_line d r) n
  marked_right label = marked_defined Label as_label refl
  marked_right (switch {i} {xs} rows) = marked_defined (Switch i) (as_switch xs) refl
  marked_right (array {l = lo} {h = hi}) = marked_defined (Array lo hi) (as_array (bound_in lo) (bound_in hi)) refl
  marked_right integer = line_stays (record { targets = unsaid target m (of_type Integer) refl; definitions = refl; types = refl }) l
  marked_right boolean = line_stays (record { targets = unsaid target m (of_type Boolean) refl; definitions = refl; types = refl }) l

  declared_defined : (k : NameKind) (K : Kind) (role : Role) → definition role ≡ Some K → declared_type role ≡ None → KindAt v k K → is_defined_kind k ≡ true → LineSoFar v m (h ++ at role x ∷ []) (declared_line (Defined k) r) n
  declared_defined k K role d no-type kk dd =
      let u : Option Kind = first_said definition h n.letters in
      let after : first_said definition (h ++ at role x ∷ []) n.letters ≡ or_else u (Some K) = said_own definition h role x n.letters same ∙ ap (λ (w : Option Kind). or_else u w) d in
      let types = unsaid declared_type h role no-type in
      let F : Option Kind → Type 0 = λ q. KindAt v (cond (is_defined_kind r.kind) r.kind k) (or_variable q) in
      record {
        named = l.named;
        target = l.target;
        kind = subst F (sym after) (kind_after r.kind k K (is_defined_kind r.kind) u l.defined l.kind kk);
        defined = defined_after r.kind k K (is_defined_kind r.kind) u l.defined refl dd ∙ ap is_some (sym after);
        type = l.type ∙ ap or_untyped types;
        typed = l.typed ∙ ap is_some types;
      }

  declared_typed : (t : ValueType) → is_typed_as t ≡ true → LineSoFar v m (h ++ at (of_type t) x ∷ []) (declared_line (Typed t) r) n
  declared_typed t tt' =
      let u : Option ValueType = first_said declared_type h n.letters in
      let after : first_said declared_type (h ++ at (of_type t) x ∷ []) n.letters ≡ or_else u (Some t) = said_own declared_type h (of_type t) x n.letters same in
      let definitions = unsaid definition h (of_type t) refl in
      let F : Option Kind → Type 0 = λ q. KindAt v r.kind (or_variable q) in
      record {
        named = l.named;
        target = l.target;
        kind = subst F definitions l.kind;
        defined = l.defined ∙ ap is_some definitions;
        type = type_after r.value_type t (is_typed_as r.value_type) u l.typed l.type ∙ ap or_untyped (sym after);
        typed = typed_after r.value_type t (is_typed_as r.value_type) u l.typed refl tt' ∙ ap is_some (sym after);
      }

  pub declared_right : {d : Declaration} {role : Role} → RoleAt v d role → LineSoFar v m (h ++ at role x ∷ []) (declared_line d r) n
  declared_right label = declared_defined Label a_label as_label refl refl label_line refl
  declared_right (switch {i} {xs} rows) = declared_defined (Switch i) (a_switch xs) (as_switch xs) refl refl (switch_line rows) refl
  declared_right (array {l = lo} {h = hi}) = declared_defined (Array lo hi) (an_array (bound_in lo) (bound_in hi)) (as_array (bound_in lo) (bound_in hi)) refl refl array_line refl
  declared_right integer = declared_typed Integer refl
  declared_right boolean = declared_typed Boolean refl

  defined_here : is_defined_kind r.kind ≡ is_defined h x.letters
  defined_here = l.defined ∙ ap (λ (y : List ℕ). is_defined h y) same

  typed_here : (is_typed_as r.value_type || r.target) ≡ (is_typed h x.letters || is_target m x.letters)
  typed_here =
      ap (λ (b : Bool). b || r.target) (l.typed ∙ ap (λ (y : List ℕ). is_typed h y) same)
      ∙ ap (λ (b : Bool). is_typed h x.letters || b) (l.target ∙ ap (λ (y : List ℕ). is_target m y) same)

  -- The line tells whether the declaration is one too many.
  pub offends_right : {d : Declaration} {role : Role} → RoleAt v d role → offends_line d r ≡ defines_again m h x.letters role
  offends_right label = defined_here
  offends_right (switch rows) = defined_here
  offends_right array = defined_here
  offends_right integer = typed_here
  offends_right boolean = typed_here

told_only : (b : Bool) (q : ℕ) → earliest_of (told b q) ≡ cond b (Some q) None
told_only true q = refl
told_only false q = refl

told_one : (b : Bool) (q : ℕ) → earliest_of (told b q ++ []) ≡ cond b (Some q) None
told_one true q = refl
told_one false q = refl

-- The table where the line of x has changed.
module _ {v : View} {rs : List Record} {ns : List Name} (numbered : NumberedWords v rs ns) (x : Name) {k : ℕ} (number : line_of ns x.letters ≡ Some k) where
  changed : {m h m' h' : List Occurrence} {lines : List NameRecord} → SoFar v ns m h lines → (new : NameRecord) → ((e : Name) → LineSoFar v m' h' new (get_or ns k e)) → ((y : List ℕ) → (y ≡ x.letters → ⊥) → SameSaid m h m' h' y) → SoFar v ns m' h' (set lines k new)
  changed {m} {h} {m'} {h'} {lines} t new right others =
      let s : length (set lines k new) ≡ length lines = length-set lines k new in
      let o = t.room in
      record { room = omega arith; line = λ j d e i. go j d e i (cases_eq j k) }
    where
      go : (j : ℕ) (d : NameRecord) (e : Name) → j < length ns → (j ≡ k) ⊎ (j ≡ k → ⊥) → LineSoFar v m' h' (get_or (set lines k new) j d) (get_or ns j e)
      go j d e i (inl q) =
          let w : k < length lines = let o = t.room in omega arith in
          let P : NameRecord → Type 0 = λ a. LineSoFar v m' h' a (get_or ns k e) in
          let Q : ℕ → Type 0 = λ a. LineSoFar v m' h' (get_or (set lines k new) a d) (get_or ns a e) in
          subst Q (sym q) (subst P (sym (get_or-set_same lines k new d w)) (right e))
      go j d e i (inr q) =
          let P : NameRecord → Type 0 = λ a. LineSoFar v m' h' a (get_or ns j e) in
          let differs : (get_or ns j e).letters ≡ x.letters → ⊥ = λ a. q (one_line j (ap (λ (y : List ℕ). line_of ns y) (sym a) ∙ numbered.own j e i)) in
          subst P (sym (get_or-set_other lines k j new d q)) (line_stays (others (get_or ns j e).letters differs) (t.line j d e i))
        where
          one_line : (j : ℕ) → line_of ns x.letters ≡ Some j → j ≡ k
          one_line j a = cc

  pub marks : {p : Pass} {d : Declaration} {role : Role} {whole : List Occurrence} (lines : List NameRecord) → p ≡ marking → RoleAt v d role → (e : NameRecord) (new : NameRecord) → new ≡ marked_line d (get_or lines k e) → Heeds p v ns whole (at role x ∷ []) lines (set lines k new) None
  marks {p} {d} {role} {whole} lines in-pass at_role e new is =
      let P : Pass → Type 0 = λ q. Heeds q v ns whole (at role x ∷ []) lines (set lines k new) None in
      let known = known_line ns x.letters k number in
      let L : List Occurrence → NameRecord → Name → Type 0 = λ b a n. LineSoFar v (b ++ at role x ∷ []) [] a n in
      subst P (sym in-pass) record {
        table = λ before t.
            changed t new
            (λ a. subst (λ (q : NameRecord). L before q (get_or ns k a)) (sym is) (marked_right x (known.same a) (t.line k e a known.within) at_role))
            (λ y q. record { targets = sym (said_other target before role x y q); definitions = refl; types = refl });
        told = λ before t. refl;
      }

  pub declares : {p : Pass} {d : Declaration} {role : Role} {whole : List Occurrence} (lines : List NameRecord) → p ≡ declaring → RoleAt v d role → (e : NameRecord) (new : NameRecord) → new ≡ declared_line d (get_or lines k e) → (r : Option ℕ) → r ≡ cond (offends_line d (get_or lines k e)) (Some x.place) None → Heeds p v ns whole (at role x ∷ []) lines (set lines k new) r
  declares {p} {d} {role} {whole} lines in-pass at_role e new is r result =
      let P : Pass → Type 0 = λ q. Heeds q v ns whole (at role x ∷ []) lines (set lines k new) r in
      let known = known_line ns x.letters k number in
      let L : List Occurrence → NameRecord → Name → Type 0 = λ b a n. LineSoFar v whole (b ++ at role x ∷ []) a n in
      subst P (sym in-pass) record {
        table = λ before t.
            changed t new
            (λ a. subst (λ (q : NameRecord). L before q (get_or ns k a)) (sym is) (declared_right x (known.same a) (t.line k e a known.within) at_role))
            (λ y q. record { targets = refl; definitions = sym (said_other definition before role x y q); types = sym (said_other declared_type before role x y q) });
        told = λ before t.
            result
            ∙ (ap (λ (b : Bool). cond b (Some x.place) None) (offends_right x (known.same x) (t.line k e x known.within) at_role)
            ∙ sym (told_one (defines_again whole before x.letters role) x.place));
      }

  -- What either pass does to the line of a name, and tells.
  pub heeds : (p : Pass) {d : Declaration} {role : Role} {whole : List Occurrence} (lines : List NameRecord) → RoleAt v d role → (e new : NameRecord) → new ≡ heeded_in p d (get_or lines k e) → (r : Option ℕ) → r ≡ earliest_of (told (offends_in p d (get_or lines k e)) x.place) → Heeds p v ns whole (at role x ∷ []) lines (set lines k new) r
  heeds marking {d} {role} {whole} lines at_role e new is r result =
      let H : Option ℕ → Type 0 = λ q. Heeds marking v ns whole (at role x ∷ []) lines (set lines k new) q in
      subst H (sym result) (marks lines refl at_role e new is)
  heeds declaring {d} lines at_role e new is r result = declares lines refl at_role e new is r (result ∙ told_only (offends_line d (get_or lines k e)) x.place)

-- The line of a name lies in the table.
pub no_room : (p : Pass) (v : View) (ns : List Name) (whole before : List Occurrence) (lines : List NameRecord) (x : List ℕ) (k : ℕ) → line_of ns x ≡ Some k → TableAt p v ns whole before lines → length lines ≤ k → ⊥
no_room marking v ns whole before lines x k number t l = let w = (known_line ns x k number).within in let o = t.room in omega arith
no_room declaring v ns whole before lines x k number t l = let w = (known_line ns x k number).within in let o = t.room in omega arith
