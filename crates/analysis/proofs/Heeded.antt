-- Heeding one part after another, and parts that declare nothing.
use Rattle.std.proofs.Common.{◌≡◌, ℕ, List, [], ◌∷◌, ◌++◌, get_or, Some, None, Option, sym, refl, ap, ◌∙◌, subst, append_assoc, append-nil}
use Rattle.grammar.specs.Tree.{Name}
use Rattle.parser.specs.Records.{View}
use Rattle.symbols.specs.Occurrences.{Occurrence}
use Rattle.symbols.specs.Symbols.{Kind, definition, declared_type, first_said, or_variable, or_untyped}
use Rattle.symbols.specs.Types.{told}
use Rattle.symbols.specs.Rules.{is_some, target, defines_again, second_definitions}
use Rattle.analysis.specs.declared.symbol.NameRecord.{NameRecord}
use Rattle.analysis.specs.Heeding.{Pass}
use Rattle.analysis.specs.Heeding.{marking, declaring}
use Rattle.analysis.specs.Earliest.{earliest_of, earlier_of}
use Rattle.analysis.specs.SymbolTable.{KindAt}
use Rattle.analysis.specs.Lines.{LineSoFar}
use Rattle.analysis.specs.Heeding.{TableAt, told_in, Heeds}
use Rattle.analysis.proofs.EarlierPlace.{both}
use Rattle.analysis.proofs.Said.{Silent, use_defines_nothing, use_types_nothing, use_is_no_target, said_before, silent_told}

-- Two lists of occurrences that say the same of these letters.
pub record SameSaid (m h m' h' : List Occurrence) (y : List ℕ) : Type 0 where
  pub targets : first_said target m y ≡ first_said target m' y
  pub definitions : first_said definition h y ≡ first_said definition h' y
  pub types : first_said declared_type h y ≡ first_said declared_type h' y

-- A line stays right where the same is said of its name.
pub line_stays : {v : View} {m h m' h' : List Occurrence} {r : NameRecord} {n : Name} → SameSaid m h m' h' n.letters → LineSoFar v m h r n → LineSoFar v m' h' r n
line_stays {v} {r = r} same l =
    let K : Option Kind → Type 0 = λ u. KindAt v r.kind (or_variable u) in
    record {
      named = l.named;
      target = l.target ∙ ap is_some same.targets;
      kind = subst K same.definitions l.kind;
      defined = l.defined ∙ ap is_some same.definitions;
      type = l.type ∙ ap or_untyped same.types;
      typed = l.typed ∙ ap is_some same.types;
    }

silent_same : (p : List Occurrence) → Silent p → (m h : List Occurrence) (y : List ℕ) → SameSaid m h (m ++ p) h y
silent_same p s m h y = record { targets = sym (said_before target use_is_no_target m p y s); definitions = refl; types = refl }

silent_same_heeded : (p : List Occurrence) → Silent p → (m h : List Occurrence) (y : List ℕ) → SameSaid m h m (h ++ p) y
silent_same_heeded p s m h y = record { targets = refl; definitions = sym (said_before definition use_defines_nothing h p y s); types = sym (said_before declared_type use_types_nothing h p y s) }

table_stays : (p : Pass) (v : View) (ns : List Name) (whole before os : List Occurrence) (lines : List NameRecord) → Silent os → TableAt p v ns whole before lines → TableAt p v ns whole (before ++ os) lines
table_stays marking v ns whole before os lines s t = record { room = t.room; line = λ k d e h. line_stays (silent_same os s before [] (get_or ns k e).letters) (t.line k d e h) }
table_stays declaring v ns whole before os lines s t = record { room = t.room; line = λ k d e h. line_stays (silent_same_heeded os s whole before (get_or ns k e).letters) (t.line k d e h) }

silent_told_in : (p : Pass) (whole before os : List Occurrence) → Silent os → told_in p whole before os ≡ []
silent_told_in marking whole before os s = refl
silent_told_in declaring whole before os s = silent_told whole before os s

-- What is told of two parts.
second_append : (whole before os ps : List Occurrence) → second_definitions whole before (os ++ ps) ≡ second_definitions whole before os ++ second_definitions whole (before ++ os) ps
second_append whole before [] ps = ap (λ (b : List Occurrence). second_definitions whole b ps) (sym (append-nil before))
second_append whole before (o ∷ os) ps =
    let t : List ℕ = told (defines_again whole before o.name.letters o.role) o.name.place in
    let b : List Occurrence = before ++ o ∷ [] in
    ap (λ (l : List ℕ). t ++ l) (second_append whole b os ps)
    ∙ (ap (λ (q : List Occurrence). t ++ (second_definitions whole b os ++ second_definitions whole q ps)) (append_assoc before (o ∷ []) os)
    ∙ sym (append_assoc t (second_definitions whole b os) (second_definitions whole (before ++ o ∷ os) ps)))

told_append : (p : Pass) (whole before os ps : List Occurrence) → told_in p whole before (os ++ ps) ≡ told_in p whole before os ++ told_in p whole (before ++ os) ps
told_append marking whole before os ps = refl
told_append declaring whole before os ps = second_append whole before os ps

earlier_none : (r : Option ℕ) → earlier_of r None ≡ r
earlier_none (Some q) = refl
earlier_none None = refl

module _ {p : Pass} {v : View} {ns : List Name} {whole : List Occurrence} where
  -- The result may be known by another term.
  pub heeds_as : {os : List Occurrence} {lines lines' : List NameRecord} {r s : Option ℕ} → s ≡ r → Heeds p v ns whole os lines lines' r → Heeds p v ns whole os lines lines' s
  heeds_as {os} {lines} {lines'} e h = let H : Option ℕ → Type 0 = λ q. Heeds p v ns whole os lines lines' q in subst H (sym e) h

  pub heeds_silent : {os : List Occurrence} {lines : List NameRecord} → Silent os → Heeds p v ns whole os lines lines None
  heeds_silent {os} {lines} s = record { table = λ before t. table_stays p v ns whole before os lines s t; told = λ before t. ap earliest_of (sym (silent_told_in p whole before os s)) }

  pub heeds_two : {os ps : List Occurrence} {lines lines' lines'' : List NameRecord} {r s : Option ℕ} → Heeds p v ns whole os lines lines' r → Heeds p v ns whole ps lines' lines'' s → Heeds p v ns whole (os ++ ps) lines lines'' (earlier_of r s)
  heeds_two {os} {ps} {lines} {lines'} {lines''} {r} {s} a b =
      let P : List Occurrence → Type 0 = λ q. TableAt p v ns whole q lines'' in
      record {
        table = λ before t. subst P (append_assoc before os ps) (b.table (before ++ os) (a.table before t));
        told = λ before t.
            both r s (told_in p whole before os) (told_in p whole (before ++ os) ps) (a.told before t) (b.told (before ++ os) (a.table before t))
            ∙ ap earliest_of (sym (told_append p whole before os ps));
      }

  -- Uses behind declarations.
  pub heeds_first : {os : List Occurrence} (ps : List Occurrence) {lines lines' : List NameRecord} {r : Option ℕ} → Heeds p v ns whole os lines lines' r → Silent ps → Heeds p v ns whole (os ++ ps) lines lines' r
  heeds_first {os} ps {lines} {lines'} {r} a s =
      let P : Option ℕ → Type 0 = λ q. Heeds p v ns whole (os ++ ps) lines lines' q in
      subst P (earlier_none r) (heeds_two a (heeds_silent s))
