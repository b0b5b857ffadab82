-- Uses of names against what they are: what a walk of the code meets.
use Rattle.std.proofs.Common.{◌≡◌, ℕ, Bool, true, not, List, [], ◌∷◌, ◌++◌, None, Option, sym, refl, ap, ◌∙◌, append_assoc, append-nil}
use Rattle.grammar.specs.Tree.{Row, one, more, Name, Group, Item}
use Rattle.parser.specs.declared.node.Node.{Node}
use Rattle.parser.specs.declared.node.Node.TheVariants.{More, Labelled, Conditional, Repeated, Assigned, Go, Switched, Input, Printed, Switch as SwitchNode}
use Rattle.parser.specs.Records.{View}
use Rattle.symbols.specs.declared.value_type.ValueType.TheVariants.{Integer, Boolean}
use Rattle.symbols.specs.Occurrences.{Role, of_type, as_array, Occurrence, at, each, all_at, in_group, in_item}
use Rattle.symbols.specs.Symbols.{Kind, Symbol, kind_in}
use Rattle.symbols.specs.Types.{told}
use Rattle.symbols.specs.Rules.{suits, misused_names}
use Rattle.analysis.specs.declared.symbol.NameKind.{NameKind}
use Rattle.analysis.specs.declared.name_use.NameUse.{NameUse}
use Rattle.analysis.specs.declared.name_use.NameUse.TheVariants.{AsTarget, AsSelector, AsVariable, AsElement}
use Rattle.analysis.specs.SymbolTable.{KindAt, label, switch, array, variable}
use Rattle.analysis.specs.Earliest.{earliest_of, earlier_of}
use Rattle.analysis.specs.Uses.{role_in, kind_suits}
use Rattle.analysis.proofs.EarlierPlace.{both}
use Rattle.analysis.proofs.ItemNodes.{ItemsNode, row_at, sequence_at, labelled_at, conditional_at, repeated_at, assigned_at, go_at, switched_at, input_at, printed_at, stop_at, comment_at, integer_at, boolean_at, array_at, switch_at}

-- The code's answer is the definition's.
pub suits_alike : {v : View} {n : NameKind} {k : Kind} → KindAt v n k → (u : NameUse) → kind_suits n u ≡ suits k (role_in u)
suits_alike label AsTarget = refl
suits_alike label AsSelector = refl
suits_alike label AsVariable = refl
suits_alike label AsElement = refl
suits_alike (switch h) AsTarget = refl
suits_alike (switch h) AsSelector = refl
suits_alike (switch h) AsVariable = refl
suits_alike (switch h) AsElement = refl
suits_alike array AsTarget = refl
suits_alike array AsSelector = refl
suits_alike array AsVariable = refl
suits_alike array AsElement = refl
suits_alike variable AsTarget = refl
suits_alike variable AsSelector = refl
suits_alike variable AsVariable = refl
suits_alike variable AsElement = refl

-- The offences of two lists of occurrences are those of the first, then those of the second.
module _ (ss : List Symbol) where
  pub misused_append : (os ps : List Occurrence) → misused_names ss (os ++ ps) ≡ misused_names ss os ++ misused_names ss ps
  misused_append [] ps = refl
  misused_append (o ∷ os) ps =
      let own : List ℕ = told (not (suits (kind_in ss o.name.letters) o.role)) o.name.place in
      ap (λ (l : List ℕ). own ++ l) (misused_append os ps) ∙ sym (append_assoc own (misused_names ss os) (misused_names ss ps))

  -- The earliest of two is the earlier of their earliest.
  pub earliest_misused : (r q : Option ℕ) (os ps : List Occurrence) → r ≡ earliest_of (misused_names ss os) → q ≡ earliest_of (misused_names ss ps) → earlier_of r q ≡ earliest_of (misused_names ss (os ++ ps))
  earliest_misused r q os ps e f = both r q (misused_names ss os) (misused_names ss ps) e f ∙ ap earliest_of (sym (misused_append os ps))

  -- An occurrence by itself.
  pub one_misused : (r : Option ℕ) (o : Occurrence) → r ≡ earliest_of (told (not (suits (kind_in ss o.name.letters) o.role)) o.name.place) → r ≡ earliest_of (misused_names ss (o ∷ []))
  one_misused r o e = e ∙ ap earliest_of (sym (append-nil (told (not (suits (kind_in ss o.name.letters) o.role)) o.name.place)))

  -- A row whose parts misuse no name misuses none.
  each_suited : {A : Type 0} (f : A → List Occurrence) → ((x : A) → misused_names ss (f x) ≡ []) → (xs : Row A) → misused_names ss (each f xs) ≡ []
  each_suited f h (one x) = h x
  each_suited f h (more xs x) =
      misused_append (each f xs) (f x) ∙ (ap (λ (l : List ℕ). l ++ misused_names ss (f x)) (each_suited f h xs) ∙ h x)

  -- A declaration uses nothing.
  suited : (r : Role) → ((k : Kind) → suits k r ≡ true) → (xs : Row Name) → misused_names ss (all_at r xs) ≡ []
  suited r h xs = each_suited (λ x. at r x ∷ []) (λ x. ap (λ (b : Bool). told (not b) x.place ++ []) (h (kind_in ss x.letters))) xs

  groups_suited : (gs : Row Group) → misused_names ss (each in_group gs) ≡ []
  groups_suited gs = each_suited in_group (λ g. suited (as_array g.low g.high) (λ _. refl) g.names) gs

  -- Items at a node of no other sort use no name.
  pub no_use : {v : View} {n : Node} {t : Row Item} → ItemsNode v n t
      → ((a b : ℕ) → n ≡ More a b → ⊥) → ((w a : ℕ) → n ≡ Labelled w a → ⊥) → ((p a b : ℕ) → n ≡ Conditional p a b → ⊥)
      → ((p w a b : ℕ) → n ≡ Repeated p w a b → ⊥) → ((a b : ℕ) → n ≡ Assigned a b → ⊥) → ((p w : ℕ) → n ≡ Go p w → ⊥)
      → ((p w a : ℕ) → n ≡ Switched p w a → ⊥) → ((p a : ℕ) → n ≡ Input p a → ⊥) → ((p a : ℕ) → n ≡ Printed p a → ⊥)
      → ((w a : ℕ) → n ≡ SwitchNode w a → ⊥) → None ≡ earliest_of (misused_names ss (each in_item t))
  no_use (row_at {a = a} {b = b} h k) m l c r y g z j p s = absurd (m a b refl)
  no_use (sequence_at {a = a} {b = b} h k) m l c r y g z j p s = absurd (m a b refl)
  no_use (labelled_at {w = w} {a = a} n h) m l c r y g z j p s = absurd (l w a refl)
  no_use (conditional_at {p = q} {a = a} {b = b} h k) m l c r y g z j p s = absurd (c q a b refl)
  no_use (repeated_at {p = q} {w = w} {a = a} {b = b} n h k) m l c r y g z j p s = absurd (r q w a b refl)
  no_use (assigned_at {a = a} {b = b} h k) m l c r y g z j p s = absurd (y a b refl)
  no_use (go_at {p = q} {w = w} n) m l c r y g z j p s = absurd (g q w refl)
  no_use (switched_at {p = q} {w = w} {a = a} n h) m l c r y g z j p s = absurd (z q w a refl)
  no_use (input_at {p = q} {a = a} h) m l c r y g z j p s = absurd (j q a refl)
  no_use (printed_at {p = q} {a = a} h) m l c r y g z j p s = absurd (p q a refl)
  no_use stop_at m l c r y g z j p s = refl
  no_use comment_at m l c r y g z j p s = refl
  no_use (integer_at {xs = xs}) m l c r y g z j p s = ap earliest_of (sym (suited (of_type Integer) (λ _. refl) xs))
  no_use (boolean_at {xs = xs}) m l c r y g z j p s = ap earliest_of (sym (suited (of_type Boolean) (λ _. refl) xs))
  no_use (array_at {gs = gs}) m l c r y g z j p s = ap earliest_of (sym (groups_suited gs))
  no_use (switch_at {w = w} {a = a} n h) m l c r y g z j p s = absurd (s w a refl)
