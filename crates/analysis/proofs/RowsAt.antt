-- Rows of names and of groups at a node, one part at a time.
use Rattle.std.proofs.Common.{◌≡◌, ℕ, List, Option, ap, ◌∙◌, subst, arith}
use Rattle.parser.specs.declared.node.Node.TheVariants.{Simple, More, Group as GroupNode}
use Rattle.parser.specs.declared.node.Bound.{Bound as BoundRecord}
use Rattle.parser.specs.Records.{View, node, bound_in, Named, NameAt, GroupAt, RowAt}
use Rattle.grammar.specs.Tree.{Row, one, more, Name, Group}
use Rattle.symbols.specs.Occurrences.{Role, as_array, Occurrence, each}
use Rattle.analysis.specs.declared.symbol.NameKind.TheVariants.{Array}
use Rattle.analysis.specs.declared.symbol.NameRecord.{NameRecord}
use Rattle.analysis.specs.declared.declaration.Declaration.TheVariants.{Defined}
use Rattle.analysis.specs.Heeding.{Pass}
use Rattle.analysis.specs.Earliest.{earlier_of}
use Rattle.analysis.specs.Heeding.{RoleAt, array, Heeds}
use Rattle.analysis.proofs.Heeded.{heeds_two}

-- A row at a node that joins two, where no part of the row can be such a node.
module _ {A : Type 0} (P : View → A → ℕ → Type 0) (v : View) (i a b : ℕ) (joins : node v i ≡ More a b) (never : (x : A) → P v x i → ⊥) where
  pub row_joined : (f : A → List Occurrence) {p : Pass} {ns : List Name} {whole : List Occurrence} {lines lines' lines'' : List NameRecord} {r s : Option ℕ}
      → ((xs : Row A) → RowAt P v xs a → Heeds p v ns whole (each f xs) lines lines' r)
      → ((xs : Row A) → RowAt P v xs b → Heeds p v ns whole (each f xs) lines' lines'' s)
      → (xs : Row A) → RowAt P v xs i → Heeds p v ns whole (each f xs) lines lines'' (earlier_of r s)
  row_joined f left right (one x) h = absurd (never x h)
  row_joined f left right (more xs x) h =
      let n = h.2 in
      let q : h.0 ≡ a = cc in
      let u : h.1 ≡ b = cc in
      let L : ℕ → Type 0 = λ k. RowAt P v xs k in
      let R : ℕ → Type 0 = λ k. P v x k in
      heeds_two (left xs (subst L q h.5)) (right (one x) (subst R u h.6))

-- A row at any other node is one part.
pub row_single : {A : Type 0} (P : View → A → ℕ → Type 0) (v : View) (i : ℕ) → ((a b : ℕ) → node v i ≡ More a b → ⊥) → (f : A → List Occurrence) {p : Pass} {ns : List Name} {whole : List Occurrence} {lines lines' : List NameRecord} {r : Option ℕ} → ((x : A) → P v x i → Heeds p v ns whole (f x) lines lines' r) → (xs : Row A) → RowAt P v xs i → Heeds p v ns whole (each f xs) lines lines' r
row_single P v i single f here (one x) h = here x h
row_single P v i single f here (more xs x) h = absurd (single h.0 h.1 h.2)

module _ (v : View) (i : ℕ) where
  pub name_never_joins : (a b : ℕ) → node v i ≡ More a b → (x : Name) → NameAt v x i → ⊥
  name_never_joins a b e x h = let n = h.1 in let z : ◌≡◌ {A = ℕ} 0 1 = cc in omega arith

  pub group_never_joins : (a b : ℕ) → node v i ≡ More a b → (g : Group) → GroupAt v g i → ⊥
  group_never_joins a b e g h = let n = h.2.1 in let z : ◌≡◌ {A = ℕ} 0 1 = cc in omega arith

  -- The word of a name's node.
  pub name_word : (w : ℕ) → node v i ≡ Simple w → (x : Name) → NameAt v x i → Named v w x
  name_word w e x h = let n = h.1 in let q : h.0 ≡ w = cc in let N : ℕ → Type 0 = λ k. Named v k x in subst N q h.2

  -- The role of a group's names, and their row.
  pub group_role : (row q : ℕ) (low high : BoundRecord) → node v i ≡ GroupNode row q low high → (g : Group) → GroupAt v g i → RoleAt v (Defined (Array low high)) (as_array g.low g.high)
  group_role row q low high e g h =
      let n = h.2.1 in
      let l : low ≡ h.0 = cc in
      let u : high ≡ h.1 = cc in
      let R : Role → Type 0 = λ r. RoleAt v (Defined (Array low high)) r in
      subst R (ap (λ k. as_array k (bound_in high)) (ap bound_in l ∙ h.3) ∙ ap (λ k. as_array g.low k) (ap bound_in u ∙ h.4)) array

  pub group_row : (row q : ℕ) (low high : BoundRecord) → node v i ≡ GroupNode row q low high → (g : Group) → GroupAt v g i → RowAt NameAt v g.names row
  group_row row q low high e g h = let n = h.2.1 in let p : h.2.0 ≡ row = cc in let R : ℕ → Type 0 = λ k. RowAt NameAt v g.names k in subst R p h.2.3
