-- What some occurrences say of a name, and what one more adds.
use Rattle.std.proofs.Common.{◌≡◌, ℕ, Bool, true, false, cond, ◌||◌, List, [], ◌∷◌, ◌++◌, Some, None, Option, refl, ap, ◌∙◌}
use Rattle.std.specs.Str.{bytes_eq}
use Rattle.std.proofs.lemmas.Slice.Eq.{bytes_eq-Decides}
use Rattle.std.proofs.lemmas.Bool.{both_ways}
use Rattle.grammar.specs.Tree.{Name}
use Rattle.symbols.specs.Occurrences.{Role, as_label, as_switch, as_array, of_type, in_switch, as_target, as_selector, as_variable, as_element, Occurrence, at}
use Rattle.symbols.specs.Symbols.{definition, declared_type, or_else, first_said}
use Rattle.symbols.specs.Types.{told}
use Rattle.symbols.proofs.Table.{to_same}
use Rattle.symbols.proofs.Names.{said_append}
use Rattle.symbols.specs.Rules.{is_some, target, defines_again, second_definitions}

-- Other letters are told apart.
pub other_letters : (x y : List ℕ) → (x ≡ y → ⊥) → bytes_eq x y ≡ false
other_letters x y no-path = go (bytes_eq x y) refl
  where
    go : (b : Bool) → bytes_eq x y ≡ b → b ≡ false
    go true h = absurd (no-path ((bytes_eq-Decides x y).0 h))
    go false h = refl

module _ {A : Type 0} where
  pub or_none : (u : Option A) → or_else u None ≡ u
  or_none (Some x) = refl
  or_none None = refl

  pub some_or : (u w : Option A) → is_some (or_else u w) ≡ (is_some u || is_some w)
  some_or (Some x) w = refl
  some_or None w = refl

module _ {A : Type 0} (f : Role → Option A) where
  -- One more occurrence is heeded for its own name alone.
  pub said_own : (os : List Occurrence) (role : Role) (x : Name) (y : List ℕ) → y ≡ x.letters → first_said f (os ++ at role x ∷ []) y ≡ or_else (first_said f os y) (f role)
  said_own os role x y e =
      said_append f os (at role x ∷ []) y
      ∙ ap (λ (u : Option A). or_else (first_said f os y) u)
      (ap (λ (b : Bool). cond b (or_else (f role) None) None) (to_same y x.letters e) ∙ or_none (f role))

  pub said_other : (os : List Occurrence) (role : Role) (x : Name) (y : List ℕ) → (y ≡ x.letters → ⊥) → first_said f (os ++ at role x ∷ []) y ≡ first_said f os y
  said_other os role x y differs =
      said_append f os (at role x ∷ []) y
      ∙ (ap (λ (u : Option A). or_else (first_said f os y) u)
      (ap (λ (b : Bool). cond b (or_else (f role) None) None) (other_letters y x.letters differs))
      ∙ or_none (first_said f os y))

-- Uses, which declare nothing.
abbrev pub is_use : Role → Bool
is_use as_label = false
is_use (as_switch xs) = false
is_use (as_array l h) = false
is_use (of_type t) = false
is_use in_switch = true
is_use as_target = true
is_use as_selector = true
is_use as_variable = true
is_use as_element = true

-- Occurrences that are all uses.
abbrev pub Silent : List Occurrence → Type 0
Silent [] = Unit {0}
Silent (o ∷ os) = (is_use o.role ≡ true) × Silent os

pub use_defines_nothing : (r : Role) → is_use r ≡ true → definition r ≡ None
use_defines_nothing as_label e = absurd (both_ways false refl e)
use_defines_nothing (as_switch xs) e = absurd (both_ways false refl e)
use_defines_nothing (as_array l h) e = absurd (both_ways false refl e)
use_defines_nothing (of_type t) e = refl
use_defines_nothing in_switch e = refl
use_defines_nothing as_target e = refl
use_defines_nothing as_selector e = refl
use_defines_nothing as_variable e = refl
use_defines_nothing as_element e = refl

pub use_types_nothing : (r : Role) → is_use r ≡ true → declared_type r ≡ None
use_types_nothing as_label e = refl
use_types_nothing (as_switch xs) e = refl
use_types_nothing (as_array l h) e = refl
use_types_nothing (of_type t) e = absurd (both_ways false refl e)
use_types_nothing in_switch e = refl
use_types_nothing as_target e = refl
use_types_nothing as_selector e = refl
use_types_nothing as_variable e = refl
use_types_nothing as_element e = refl

pub use_is_no_target : (r : Role) → is_use r ≡ true → target r ≡ None
use_is_no_target as_label e = absurd (both_ways false refl e)
use_is_no_target (as_switch xs) e = absurd (both_ways false refl e)
use_is_no_target (as_array l h) e = refl
use_is_no_target (of_type t) e = refl
use_is_no_target in_switch e = refl
use_is_no_target as_target e = refl
use_is_no_target as_selector e = refl
use_is_no_target as_variable e = refl
use_is_no_target as_element e = refl

module _ {A : Type 0} (f : Role → Option A) (says_nothing : (r : Role) → is_use r ≡ true → f r ≡ None) where
  nothing_said : (os : List Occurrence) (y : List ℕ) → Silent os → first_said f os y ≡ None
  nothing_said [] y s = refl
  nothing_said (o ∷ os) y s = go (bytes_eq y o.name.letters) (f o.role) (says_nothing o.role s.0) (nothing_said os y s.1)
    where
      go : (b : Bool) (u : Option A) → u ≡ None → first_said f os y ≡ None → cond b (or_else u (first_said f os y)) (first_said f os y) ≡ None
      go true u e h = ap (λ (w : Option A). or_else w (first_said f os y)) e ∙ h
      go false u e h = h

  -- Uses add nothing.
  pub said_before : (os ps : List Occurrence) (y : List ℕ) → Silent ps → first_said f (os ++ ps) y ≡ first_said f os y
  said_before os ps y s = said_append f os ps y ∙ (ap (λ (u : Option A). or_else (first_said f os y) u) (nothing_said ps y s) ∙ or_none (first_said f os y))

-- No use is one declaration too many.
use_passes : (whole before : List Occurrence) (y : List ℕ) (r : Role) → is_use r ≡ true → defines_again whole before y r ≡ false
use_passes whole before y as_label e = absurd (both_ways false refl e)
use_passes whole before y (as_switch xs) e = absurd (both_ways false refl e)
use_passes whole before y (as_array l h) e = absurd (both_ways false refl e)
use_passes whole before y (of_type t) e = absurd (both_ways false refl e)
use_passes whole before y in_switch e = refl
use_passes whole before y as_target e = refl
use_passes whole before y as_selector e = refl
use_passes whole before y as_variable e = refl
use_passes whole before y as_element e = refl

pub silent_told : (whole before os : List Occurrence) → Silent os → second_definitions whole before os ≡ []
silent_told whole before [] s = refl
silent_told whole before (o ∷ os) s =
    ap (λ (b : Bool). told b o.name.place ++ second_definitions whole (before ++ o ∷ []) os) (use_passes whole before o.name.letters o.role s.0)
    ∙ silent_told whole (before ++ o ∷ []) os s.1
