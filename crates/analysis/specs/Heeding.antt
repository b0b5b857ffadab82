-- What it is to heed the declarations of a part of a tree: the name table said what the occurrences before the part say,
-- and now says what they and those of the part say; told is the earliest declaration of the part that is one too many.
use Rattle.std.specs.Prelude.{◌≡◌, ℕ, Bool, false, cond, ◌||◌, List, [], ◌∷◌, ◌++◌, Option}
use Rattle.grammar.specs.Tree.{Row, Name, Group, Item}
use Rattle.parser.specs.declared.node.Bound.{Bound as BoundRecord}
use Rattle.parser.specs.declared.table.Record.{Record}
use Rattle.parser.specs.Records.{View, bound_in, Named, NameAt, RowAt, GroupAt, ItemAt}
use Rattle.symbols.specs.declared.value_type.ValueType.TheVariants.{Integer, Boolean}
use Rattle.symbols.specs.Occurrences.{Role, as_label, as_switch, as_array, of_type, Occurrence, at, each, all_at, in_group, in_item}
use Rattle.symbols.specs.Rules.{second_definitions}
use Rattle.analysis.specs.declared.symbol.NameKind.TheVariants.{Label, Switch, Array}
use Rattle.analysis.specs.declared.symbol.NameRecord.{NameRecord}
use Rattle.analysis.specs.declared.declaration.Declaration.{Declaration}
use Rattle.analysis.specs.declared.declaration.Declaration.TheVariants.{Defined, Typed}
use Rattle.analysis.specs.Earliest.{earliest_of}
use Rattle.analysis.specs.Kinds.{is_defined_kind, is_target_kind, is_typed_as}
use Rattle.analysis.specs.Lines.{NumberedWords, SoFar}

-- The two passes over a tree: labels and switches are marked, and then each name is declared.
pub data Pass : Type 0 where
  marking : Pass
  declaring : Pass

-- A line with a declaration marked.
abbrev pub marked_line : Declaration → NameRecord → NameRecord
marked_line (Defined k) r = record { word = r.word; kind = r.kind; value_type = r.value_type; first = r.first; place = r.place; target = r.target || is_target_kind k }
marked_line (Typed t) r = r

-- A line with a declaration heeded: the first definition counts, and the first type.
abbrev pub declared_line : Declaration → NameRecord → NameRecord
declared_line (Defined k) r = record { word = r.word; kind = cond (is_defined_kind r.kind) r.kind k; value_type = r.value_type; first = r.first; place = r.place; target = r.target }
declared_line (Typed t) r = record { word = r.word; kind = r.kind; value_type = cond (is_typed_as r.value_type) r.value_type t; first = r.first; place = r.place; target = r.target }

-- Is a declaration one too many?
abbrev pub offends_line : Declaration → NameRecord → Bool
offends_line (Defined k) r = is_defined_kind r.kind
offends_line (Typed t) r = is_typed_as r.value_type || r.target

-- What a pass makes of a line.
abbrev pub heeded_in : Pass → Declaration → NameRecord → NameRecord
heeded_in marking d r = marked_line d r
heeded_in declaring d r = declared_line d r

-- Whether a pass tells the declaration.
abbrev pub offends_in : Pass → Declaration → NameRecord → Bool
offends_in marking d r = false
offends_in declaring d r = offends_line d r

-- The role in which a name is declared.
pub data RoleAt (v : View) : Declaration → Role → Type 0 where
  label : RoleAt v (Defined Label) as_label
  switch : {i : ℕ} {xs : Row Name} → RowAt NameAt v xs i → RoleAt v (Defined (Switch i)) (as_switch xs)
  array : {l h : BoundRecord} → RoleAt v (Defined (Array l h)) (as_array (bound_in l) (bound_in h))
  integer : RoleAt v (Typed Integer) (of_type Integer)
  boolean : RoleAt v (Typed Boolean) (of_type Boolean)

-- What the table says in each pass, where the occurrences os are behind: first labels and switches are marked; then,
-- with those of the whole text marked, declarations are heeded.
abbrev pub TableAt : Pass → View → List Name → (whole os : List Occurrence) → List NameRecord → Type 0
TableAt marking v ns whole os lines = SoFar v ns os [] lines
TableAt declaring v ns whole os lines = SoFar v ns whole os lines

-- The declarations that are one too many are told in the second pass.
abbrev pub told_in : Pass → (whole before os : List Occurrence) → List ℕ
told_in marking whole before os = []
told_in declaring whole before os = second_definitions whole before os

pub record Heeds (p : Pass) (v : View) (ns : List Name) (whole os : List Occurrence) (lines lines' : List NameRecord) (r : Option ℕ) : Type 0 where
  pub table : (before : List Occurrence) → TableAt p v ns whole before lines → TableAt p v ns whole (before ++ os) lines'
  pub told : (before : List Occurrence) → TableAt p v ns whole before lines → r ≡ earliest_of (told_in p whole before os)

-- The same for a word, and for what stands at a node, whatever tree that is.
abbrev pub DeclaresName : Pass → List Record → ℕ → Declaration → List NameRecord → List NameRecord → Option ℕ → Type 0
DeclaresName p rs w d lines lines' r = (v : View) (ns : List Name) (whole : List Occurrence) (x : Name) (role : Role) → NumberedWords v rs ns → RoleAt v d role → Named v w x → Heeds p v ns whole (at role x ∷ []) lines lines' r

abbrev pub DeclaresRow : Pass → List Record → ℕ → Declaration → List NameRecord → List NameRecord → Option ℕ → Type 0
DeclaresRow p rs i d lines lines' r = (v : View) (ns : List Name) (whole : List Occurrence) (xs : Row Name) (role : Role) → NumberedWords v rs ns → RoleAt v d role → RowAt NameAt v xs i → Heeds p v ns whole (all_at role xs) lines lines' r

abbrev pub DeclaresGroups : Pass → List Record → ℕ → List NameRecord → List NameRecord → Option ℕ → Type 0
DeclaresGroups p rs i lines lines' r = (v : View) (ns : List Name) (whole : List Occurrence) (gs : Row Group) → NumberedWords v rs ns → RowAt GroupAt v gs i → Heeds p v ns whole (each in_group gs) lines lines' r

abbrev pub DeclaresItems : Pass → List Record → ℕ → List NameRecord → List NameRecord → Option ℕ → Type 0
DeclaresItems p rs i lines lines' r = (v : View) (ns : List Name) (whole : List Occurrence) (t : Row Item) → NumberedWords v rs ns → RowAt ItemAt v t i → Heeds p v ns whole (each in_item t) lines lines' r
