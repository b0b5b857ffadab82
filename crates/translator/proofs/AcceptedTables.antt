-- What stands behind the statements of a text: its HALT, and the tables of its switches, each where it is looked for.
use Rattle.std.proofs.Common.{◌≡◌, ℕ, suc, ◌+◌, ◌≤◌, Bool, true, false, cond, List, [], ◌∷◌, length, drop, Some, sym, refl, ap, ◌∙◌, arith}
use Rattle.std.specs.Str.{bytes_eq}
use Rattle.grammar.specs.Tree.{Statement}
use Rattle.symbols.specs.Symbols.{a_variable, Symbol, lookup, said, kind_in, named_cells}
use Rattle.meaning.specs.Names.{names_in, labels_of}
use Rattle.code.specs.declared.operations.Operation.TheVariants.{Halt}
use Rattle.translator.specs.Generator.{Entry, plain, size}
use Rattle.translator.specs.Translation.{rows_code, table_code, table_size, tables_code, table_place, text_label, entries_of}
use Rattle.translator.specs.Compiled.{LaidOut}
use Rattle.translator.proofs.Behind.{to, behind}

-- To drop as many entries as a table has is to drop the table.
behind_rows : (label_at : List ℕ → ℕ) (ls : List (List ℕ)) (n j : ℕ) (r : List Entry) → n ≡ length ls + j → drop n (rows_code label_at ls r) ≡ drop j r
behind_rows label_at [] n j r q = to n j r (omega arith)
behind_rows label_at (l ∷ ls) n j r q = to n (suc (length ls + j)) _ (omega arith) ∙ behind_rows label_at ls (length ls + j) j r refl

behind_table : (label_at : List ℕ → ℕ) (ls : List (List ℕ)) (n j : ℕ) (r : List Entry) → n ≡ table_size ls + j → drop n (table_code label_at ls r) ≡ drop j r
behind_table label_at [] n j r q = to n j r (omega arith)
behind_table label_at (l ∷ ls) n j r q =
    to n (suc (length (l ∷ ls) + j)) _ (omega arith) ∙ behind_rows label_at (l ∷ ls) (length (l ∷ ls) + j) j r refl

-- The table of these labels stands among the tables, the first of which is at a.
record TableStands (label_at : List ℕ → ℕ) (tables : List Entry) (a place : ℕ) (labels : List (List ℕ)) : Type 0 where
  distance : ℕ
  after : List Entry
  placed : place ≡ a + distance
  stands : drop distance tables ≡ table_code label_at labels after

-- A name with labels has its table where it is looked for.
table_stands : (label_at : List ℕ → ℕ) (ss : List Symbol) (r : List Entry) (a : ℕ) (x : List ℕ) → 1 ≤ length (labels_of (kind_in ss x))
    → TableStands label_at (tables_code label_at ss r) a (table_place a ss x) (labels_of (kind_in ss x))
table_stands label_at [] r a x some = absurd (omega arith)
table_stands label_at (s ∷ ss) r a x some =
    by (bytes_eq x s.name.letters) some (table_stands label_at ss r (a + table_size (labels_of s.kind)) x)
  where
    by : (b : Bool) → 1 ≤ length (labels_of (said (λ z. z.kind) a_variable (cond b (Some s) (lookup ss x))))
        → (1 ≤ length (labels_of (kind_in ss x))
        → TableStands label_at (tables_code label_at ss r) (a + table_size (labels_of s.kind)) (table_place (a + table_size (labels_of s.kind)) ss x) (labels_of (kind_in ss x)))
        → TableStands label_at (tables_code label_at (s ∷ ss) r) a (cond b a (table_place (a + table_size (labels_of s.kind)) ss x))
        (labels_of (said (λ z. z.kind) a_variable (cond b (Some s) (lookup ss x))))
    by true h next = record { distance = 0; after = tables_code label_at ss r; placed = omega arith; stands = refl }
    by false h next =
        let n = table_size (labels_of s.kind) in
        let g = next h in
        record {
          distance = n + g.distance;
          after = g.after;
          placed = omega (arith, g.placed);
          stands = behind_table label_at (labels_of s.kind) (n + g.distance) g.distance (tables_code label_at ss r) refl ∙ g.stands;
        }

module _ (ss : List Symbol) (s : Statement) where
  -- What stands behind the statements: the HALT, then the tables.
  pub behind_text : (n j : ℕ) → n ≡ size (names_in ss) s + j
      → drop n (entries_of ss (Some s)) ≡ drop j (plain Halt ∷ tables_code (text_label (names_in ss) (Some s)) ss [])
  behind_text n j e =
      behind (names_in ss) (text_label (names_in ss) (Some s)) (table_place (suc (size (names_in ss) s)) ss) (size (names_in ss) s) s (named_cells ss) 0 n j _ e

  -- The HALT and the tables stand where the code of the statements looks for them.
  pub text_laid_out : LaidOut (entries_of ss (Some s)) (names_in ss) (text_label (names_in ss) (Some s)) (table_place (suc (size (names_in ss) s)) ss) (size (names_in ss) s)
  text_laid_out = record {
    halts =
        behind_text (size (names_in ss) s) 0 (omega arith)
        ∙ ap (λ l. plain Halt ∷ l) (sym (behind_text (suc (size (names_in ss) s)) 1 (omega arith)));
    tables = λ x some.
        let label_at = text_label (names_in ss) (Some s) in
        let a = suc (size (names_in ss) s) in
        let h = table_stands label_at ss [] a x some in (
          h.after,
          to (table_place a ss x) (a + h.distance) (entries_of ss (Some s)) h.placed
              ∙ behind_text (a + h.distance) (suc h.distance) (omega arith) ∙ h.stands,
          omega (arith, h.placed),
        );
  }
