-- The tables of the switches behind the HALT pass the check.
use Rattle.std.proofs.Common.{◌≡◌, ℕ, zero, suc, ◌+◌, ◌<◌, List, [], ◌∷◌, length, drop, Some, refl, ◌∙◌, subst, arith}
use Rattle.std.specs.List.{AllByRecursion as All}
use Rattle.code.specs.declared.operations.Operation.TheVariants.{Mark, Jump}
use Rattle.code.specs.declared.sizes.Sizes.{Sizes}
use Rattle.code.specs.Codes.{operation_at}
use Rattle.code.specs.WellFormed.{on_mark, CutOff, behind_jump}
use Rattle.code.proofs.Targets.{stands_to_inside}
use Rattle.symbols.specs.Symbols.{Symbol}
use Rattle.symbols.specs.Laws.{In, here, later}
use Rattle.meaning.specs.Names.{labels_of}
use Rattle.translator.specs.Generator.{Entry, entry}
use Rattle.translator.specs.Translation.{rows_code, table_code, table_size, tables_code}
use Rattle.translator.proofs.Behind.{further}
use Rattle.translator.proofs.Resuming.{Begins}
use Rattle.translator.proofs.Bridge.{operation_there}
use Rattle.translator.proofs.Passing.{operations_of, Passes, done, at_place, jump, rows}

module _ (label_at : List ℕ → ℕ) where
  -- A row is a JUMP; behind the rows stands what follows.
  row_jumps : (ls : List (List ℕ)) (j : ℕ) (r : List Entry) → j < length ls → (y : ℕ) × (s : List Entry) × (drop j (rows_code label_at ls r) ≡ entry Jump y ∷ s)
  row_jumps [] j r lt = absurd (omega arith)
  row_jumps (l ∷ ls) zero r lt = (_, _, refl)
  row_jumps (l ∷ ls) (suc j) r lt = row_jumps ls j r (omega arith)

  behind_rows : (ls : List (List ℕ)) (r : List Entry) → drop (length ls) (rows_code label_at ls r) ≡ r
  behind_rows [] r = refl
  behind_rows (l ∷ ls) r = behind_rows ls r

  behind_table : (ls : List (List ℕ)) (r : List Entry) → drop (table_size ls) (table_code label_at ls r) ≡ r
  behind_table [] r = refl
  behind_table (l ∷ ls) r = behind_rows ls r

  module _ (c : List Entry) (sizes : Sizes) (long : length (operations_of c) ≡ sizes.operations) where
    abbrev T : ℕ → ℕ → List Entry → Type 0
    T = Passes sizes (operations_of c)

    abbrev Begin : List (List ℕ) → Type 0
    Begin ls = All (λ l. Begins c (label_at l)) ls

    rows_pass : (ls : List (List ℕ)) (i q : ℕ) (r : List Entry) → Begin ls → i + length ls ≡ q → T q 0 r → T i 0 (rows_code label_at ls r)
    rows_pass [] i q r b to rest = at_place sizes (operations_of c) (omega arith) rest
    rows_pass (l ∷ ls) i q r b to rest =
        let g = b.0 in
        jump sizes (operations_of c) long (label_at l) i (suc i) (on_mark (operation_there (label_at l) c (entry Mark g.0) g.1 g.2)) refl
        (rows_pass ls (suc i) q r b.1 (omega arith) rest)

    -- A row of the table at i.
    row_there : (l : List ℕ) (ls : List (List ℕ)) (i j : ℕ) (r : List Entry) → drop i c ≡ table_code label_at (l ∷ ls) r → j < length (l ∷ ls) → operation_at (operations_of c) (suc i + j) ≡ Some Jump
    row_there l ls i j r e lt =
        let f = row_jumps (l ∷ ls) j r lt in
        operation_there (suc i + j) c (entry Jump f.0) f.1 (further c i (suc j) (suc i + j) _ e (omega arith) ∙ f.2)

    table_passes : (ls : List (List ℕ)) (i q : ℕ) (r : List Entry) → drop i c ≡ table_code label_at ls r → CutOff (operations_of c) i → Begin ls → i + table_size ls ≡ q → T q 0 r
        → T i 0 (table_code label_at ls r)
    table_passes [] i q r e cut b to rest = at_place sizes (operations_of c) (omega arith) rest
    table_passes (l ∷ ls) i q r e cut b to rest =
        let row = row_there l ls i 0 r e (omega arith) in
        let inside = stands_to_inside (operations_of c) (suc i + 0) Jump row in
        rows sizes (operations_of c) (length (l ∷ ls)) i (suc i) (omega arith) (record { cut_off = cut; row = λ j lt. row_there l ls i j r e lt }) (omega arith) refl
        (rows_pass (l ∷ ls) (suc i) q r b (omega arith) rest)

    -- Nothing comes to what stands behind a table.
    cut_behind : (ls : List (List ℕ)) (i q : ℕ) (r : List Entry) → drop i c ≡ table_code label_at ls r → CutOff (operations_of c) i → i + table_size ls ≡ q → CutOff (operations_of c) q
    cut_behind [] i q r e cut to = let same : i ≡ q = omega arith in subst (CutOff (operations_of c)) same cut
    cut_behind (l ∷ ls) i q r e cut to =
        let same : suc (suc i + length ls) ≡ q = omega arith in
        subst (CutOff (operations_of c)) same (behind_jump (row_there l ls i (length ls) r e (omega arith)))

    pub tables_pass : (ss : List Symbol) (i : ℕ) → drop i c ≡ tables_code label_at ss [] → CutOff (operations_of c) i → ((s : Symbol) → In s ss → Begin (labels_of s.kind))
        → T i 0 (tables_code label_at ss [])
    tables_pass [] i e cut b = done
    tables_pass (s ∷ ss) i e cut b =
        let ls = labels_of s.kind in
        let q = i + table_size ls in
        table_passes ls i q _ e cut (b s here) refl
        (tables_pass ss q (further c i (table_size ls) q _ e refl ∙ behind_table ls (tables_code label_at ss [])) (cut_behind ls i q _ e cut refl) (λ x j. b x (later j)))
