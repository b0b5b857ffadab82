-- The code of an accepted text passes the check.
use Rattle.std.proofs.Common.{◌≡◌, ℕ, suc, ◌+◌, ◌⊎◌, List, [], ◌∷◌, length, drop, Some, None, Option, sym, refl, ap, ◌∙◌, subst, inl, inr, arith, length-append}
use lib.ListN.{length-map}
use Rattle.std.specs.List.{AllByRecursion as All}
use Rattle.std.proofs.ByRecursion.{All-append}
use Rattle.grammar.specs.Tree.{Row, one, more, Name, Statement, labelled, conditional, repeated, assigned, go, switched, input, printed, stop, sequence, Item, comment, integer, boolean, array, switch, action, Program}
use Rattle.figures.specs.Kinds.{Kind}
use Rattle.symbols.specs.declared.refusal.NameRefusal.{NameRefusal}
use Rattle.symbols.specs.Occurrences.{as_label, in_switch, Occurrence, at, each, all_at, occurrences, fors_in, item_fors, fors}
use Rattle.symbols.specs.Symbols.{Kind as Name-kind, a_label, a_switch, an_array, a_variable, definition, first_said, kind_of, cells, Symbol, numbered, symbols, names, named_cells}
use Rattle.symbols.specs.Rules.{or_next, first_broken, rules, accepted, verdict}
use Rattle.symbols.specs.Laws.{In, here, later, KeepsAll}
use Rattle.symbols.proofs.Cells.{enough_cells}
use Rattle.symbols.proofs.Lists.{in_left, in_right}
use Rattle.code.specs.declared.operations.Operation.TheVariants.{Halt, Mark}
use Rattle.code.specs.declared.sizes.Sizes.{Sizes}
use Rattle.code.specs.Operations.{number}
use Rattle.code.specs.Codes.{operation_at}
use Rattle.code.specs.WellFormed.{behind_halt, WellFormed}
use Rattle.code.proofs.Passing.{well_formed_to_passes}
use Rattle.meaning.specs.Names.{Names, names_in, labels_of}
use Rattle.meaning.specs.Positions.{statement_of, followed_by, statements}
use Rattle.translator.specs.Generator.{Entry, entry, plain, size, loops}
use Rattle.translator.specs.Translation.{tables_code, table_place, text_size, text_loops, text_depth, text_label, entries_of, entries, sizes_of, translated}
use Rattle.translator.specs.Limits.{Limits, Small, TextSmall}
use Rattle.symbols.specs.Texts.{answer, accepted as accepted_text}
use Rattle.translator.specs.AcceptedCode.{HasSetting, AcceptedCode}
use Rattle.translator.proofs.Behind.{further, behind}
use Rattle.translator.proofs.Resuming.{Begins}
use Rattle.translator.proofs.Bridge.{operation_there}
use Rattle.translator.proofs.LimitsTexts.{text_length, from_words, limits_law}
use Rattle.translator.proofs.Passing.{operations_of, Passes, halt, passes_to_well_formed}
use Rattle.translator.proofs.PassingLoops.{Sized}
use Rattle.translator.proofs.PassingStatements.{statement_begins, statement_passes}
use Rattle.translator.proofs.PassingTables.{tables_pass}
use Rattle.meaning.proofs.Switches.{switch_role}
use Rattle.translator.proofs.PassingUses.{said_by, is_said, uses_sound}
use Rattle.translator.proofs.PassingLabels.{label_begins, in_statements, statement_names, label_in_statements, switch_list}

-- A tree that keeps all rules is accepted.
keeps_all_to_accepted : (t : Program) → KeepsAll t → verdict t ≡ accepted
unfolding verdict
keeps_all_to_accepted t k = none_broken rules
  where
    none_broken : (rs : List NameRefusal) → first_broken t rs ≡ accepted
    none_broken [] = refl
    none_broken (r ∷ rs) = ap (λ l. or_next r l (first_broken t rs)) (k r) ∙ none_broken rs

-- Each for has its hidden cell.
loops_are_fors : (names : Names) (s : Statement) → loops names s ≡ length (fors_in s)
loops_are_fors names (labelled l s) = loops_are_fors names s
loops_are_fors names (conditional p e s) = loops_are_fors names s
loops_are_fors names (repeated p x es s) = omega (arith, loops_are_fors names s)
loops_are_fors names (assigned v e) = refl
loops_are_fors names (go p l) = refl
loops_are_fors names (switched p x e) = refl
loops_are_fors names (input p v) = refl
loops_are_fors names (printed p es) = refl
loops_are_fors names (stop p) = refl
loops_are_fors names (sequence s t) = omega (arith, loops_are_fors names s, loops_are_fors names t, length-append (fors_in s) (fors_in t))

followed_loops : (names : Names) (s t : Option Statement) → text_loops names (followed_by s t) ≡ text_loops names s + text_loops names t
followed_loops names None t = omega arith
followed_loops names (Some s) None = omega arith
followed_loops names (Some s) (Some t) = omega arith

item_loops : (names : Names) (i : Item) → text_loops names (statement_of i) ≡ length (item_fors i)
item_loops names comment = refl
item_loops names (integer xs) = refl
item_loops names (boolean xs) = refl
item_loops names (array gs) = refl
item_loops names (switch x xs) = refl
item_loops names (action s) = loops_are_fors names s

text_fors : (names : Names) (t : Program) → text_loops names (statements t) ≡ length (fors t)
text_fors names (one i) = item_loops names i
text_fors names (more is i) = omega (arith, followed_loops names (statements is) (statement_of i), text_fors names is, item_loops names i, length-append (fors is) (item_fors i))

-- The HALT, and the tables behind it.
halt_there : (ss : List Symbol) (text : Option Statement)
    → drop (text_size (names_in ss) text) (entries_of ss text) ≡ plain Halt ∷ tables_code (text_label (names_in ss) text) ss []
halt_there ss None = refl
halt_there ss (Some s) =
    let names = names_in ss in
    let halt_at = size names s in
    behind names (text_label names (Some s)) (table_place (suc halt_at) ss) halt_at s (named_cells ss) 0 halt_at 0 _ (omega arith)

line_kind : (s : Symbol) (os : List Occurrence) (c : ℕ) (ns : List Name) → In s (numbered os c ns) → s.kind ≡ kind_of os s.name.letters
line_kind s os c [] i = elim i [ ]
line_kind s os c (n ∷ ns) here = refl
line_kind s os c (n ∷ ns) (later i) = line_kind s os (c + cells (kind_of os n.letters)) ns i

labels_all : (P : List ℕ → Type 0) (xs : Row Name) → ((x : Name) → In (at in_switch x) (all_at in_switch xs) → P x.letters) → All P (each (λ l. l.letters ∷ []) xs)
labels_all P (one x) h = (h x here, tt)
labels_all P (more xs x) h =
    All-append P (each (λ l. l.letters ∷ []) xs) (x.letters ∷ [])
    (labels_all P xs (λ y i. h y (in_left (at in_switch y) (all_at in_switch xs) (at in_switch x ∷ []) i)))
    (h x (in_right (at in_switch x) (all_at in_switch xs) (at in_switch x ∷ []) here), tt)

module _ {V : Type 0} (kind : Kind V) (t : Program) (ok : verdict t ≡ accepted) (limits : Limits t) (set : HasSetting kind t) where
  abbrev table : Names
  table = names_in (symbols t)

  abbrev label_at : List ℕ → ℕ
  label_at = text_label (names_in (symbols t)) (statements t)

  abbrev table_at : List ℕ → ℕ
  table_at = table_place (suc (text_size (names_in (symbols t)) (statements t))) (symbols t)

  abbrev halt_at : ℕ
  halt_at = text_size (names_in (symbols t)) (statements t)

  abbrev v : ℕ
  v = named_cells (symbols t)

  abbrev m : ℕ
  m = named_cells (symbols t) + text_loops (names_in (symbols t)) (statements t)

  abbrev c : List Entry
  c = entries t

  abbrev sizes : Sizes
  sizes = sizes_of (symbols t) (statements t) (entries t)

  abbrev T : ℕ → ℕ → List Entry → Type 0
  T = Passes sizes (operations_of c)

  begin : (o : Occurrence) → In o (occurrences t) → o.role ≡ as_label → Begins c (label_at o.name.letters)
  begin o i r = by_text (statements t) refl (label_in_statements t o i r)
    where
      by_text : (text : Option Statement) → statements t ≡ text → In o (in_statements text) → Begins c (label_at o.name.letters)
      by_text None e j = elim j [ ]
      by_text (Some s) e j = let x = set s e in label_begins kind c table label_at table_at halt_at v m x.0 s x.1.whole o j r

  all_long : length c ≡ halt_at + suc (length (tables_code label_at (symbols t) []))
  all_long = text_length table label_at table_at halt_at v (statements t) (plain Halt ∷ tables_code label_at (symbols t) []) (omega arith)

  os_long : length (operations_of c) ≡ length c
  os_long = length-map c (λ e. number e.operation)

  sized : Sized c halt_at v sizes
  sized = record { wide = omega arith; long = os_long; inside = omega (arith, os_long, all_long) }

  -- The rows of the tables lead to labels.
  table_labels : (s : Symbol) → In s (symbols t) → All (λ l. Begins c (label_at l)) (labels_of s.kind)
  table_labels s i = by_kind s.kind refl
    where
      by_kind : (k : Name-kind) → s.kind ≡ k → All (λ l. Begins c (label_at l)) (labels_of k)
      by_kind a_label e = tt
      by_kind (an_array l h) e = tt
      by_kind a_variable e = tt
      by_kind (a_switch xs) e =
          let x = s.name.letters in
          let said = is_said (first_said definition (occurrences t) x) (a_switch xs) (sym (line_kind s (occurrences t) 0 (names t) i) ∙ e) (λ z. let w : ◌≡◌ {A = ℕ} 0 1 = cc in omega arith) in
          let o = said_by definition (occurrences t) x (a_switch xs) said in
          labels_all (λ l. Begins c (label_at l)) xs
          (λ y j. uses_sound t ok c label_at begin (at in_switch y) (switch_list t o.0 (at in_switch y) xs o.1 (switch_role o.0.role xs o.3) j))

  tail : drop halt_at c ≡ plain Halt ∷ tables_code label_at (symbols t) []
  tail = halt_there (symbols t) (statements t)

  ending : T halt_at 0 (drop halt_at c)
  ending =
      subst (T halt_at 0) (sym tail)
      (halt sizes (operations_of c) halt_at (suc halt_at) refl
      (tables_pass label_at c sizes os_long (symbols t) (suc halt_at) (further c halt_at 1 (suc halt_at) _ tail (omega arith)) (behind_halt (operation_there halt_at c (plain Halt) _ tail)) table_labels))

  -- From place 0 on; and what stands there.
  all_passes : T 0 0 c
  all_passes = by_text (statements t) refl
    where
      by_text : (text : Option Statement) → statements t ≡ text → Passes sizes (operations_of c) 0 0 c
      by_text None e = let z : halt_at ≡ 0 = ap (text_size table) e in subst (λ (k : ℕ). Passes sizes (operations_of c) k 0 (drop k c)) z ending
      by_text (Some s) e =
          let x = set s e in
          let small : Small s = subst TextSmall e limits.small in
          statement_passes kind c table label_at table_at halt_at v m x.0 sizes sized (omega arith) x.1.laid_out s x.1.whole small
          (λ o i. uses_sound t ok c label_at begin o (statement_names t o (subst (λ y. In o (in_statements y)) (sym e) i)))
          (omega (arith, ap text_depth e)) ending

  opens : (operation_at (operations_of c) 0 ≡ Some Mark) ⊎ (operation_at (operations_of c) 0 ≡ Some Halt)
  opens = by_text (statements t) refl
    where
      by_text : (text : Option Statement) → statements t ≡ text → (operation_at (operations_of c) 0 ≡ Some Mark) ⊎ (operation_at (operations_of c) 0 ≡ Some Halt)
      by_text None e =
          let z : halt_at ≡ 0 = ap (text_size table) e in
          inr (operation_there 0 c (plain Halt) _ (subst (λ (k : ℕ). drop k c ≡ plain Halt ∷ tables_code label_at (symbols t) []) z tail))
      by_text (Some s) e =
          let x = set s e in
          let b = statement_begins kind c table label_at table_at halt_at v m x.0 s x.1.whole in
          inl (operation_there 0 c (entry Mark b.0) b.1 b.2)

  well_formed : WellFormed (translated t)
  unfolding translated
  well_formed =
      let cells = enough_cells t ok in
      let same = text_fors table t in
      passes_to_well_formed sizes c (omega (arith, all_long)) limits.few_operations refl (omega arith) (omega (arith, cells, same)) limits.shallow opens all_passes

-- The code of an accepted text passes, if its statements are set in it.
pub set_code_passes : {V : Type 0} (kind : Kind V) (text : List ℕ) (t : Program) → answer text ≡ accepted_text t → HasSetting kind t → AcceptedCode t
set_code_passes kind text t e set =
    let w = well_formed kind t (keeps_all_to_accepted t (from_words text t e).keeps_all) (limits_law text t e) set in
    record { well_formed = w; passes_check = well_formed_to_passes (translated t) w }
