-- Worked cases of the check, one for each rule: small codes, and what the definitions say of them by computation.
use Rattle.std.specs.Prelude.{◌≡◌, ℕ, List, [], ◌∷◌, Some, None}
use Rattle.code.specs.declared.sizes.Sizes.{Sizes}
use Rattle.code.specs.Codes.{code_of}
use Rattle.code.specs.Check.{Verdict, passes, refused, check}

abbrev sized : ℕ → ℕ → ℕ → ℕ → Sizes
sized n v m d = record { operations = n; named = v; cells = m; depth = d }

abbrev judged : Sizes → List ℕ → List ℕ → Verdict
judged s os xs = check (code_of s os xs)

pub record CheckCases : Type 0 where
  -- HALT
  pub lone_halt : judged (sized 1 0 0 0) (0 ∷ []) (0 ∷ []) ≡ passes
  -- MARK 0, CONST 7, STORE 0, HALT
  pub assignment : judged (sized 4 1 1 1) (1 ∷ 2 ∷ 4 ∷ 0 ∷ []) (0 ∷ 7 ∷ 0 ∷ 0 ∷ []) ≡ passes
  -- MARK 0, LOAD 0, TABLE 4, HALT, ROWS 2, JUMP 0, JUMP 0
  pub table : judged (sized 7 1 1 1) (1 ∷ 3 ∷ 24 ∷ 0 ∷ 25 ∷ 22 ∷ 22 ∷ []) (0 ∷ 0 ∷ 4 ∷ 0 ∷ 2 ∷ 0 ∷ 0 ∷ []) ≡ passes
  -- the same with ROWS 2 ^ 64 - 1
  pub endless_rows : judged (sized 7 1 1 1) (1 ∷ 3 ∷ 24 ∷ 0 ∷ 25 ∷ 22 ∷ 22 ∷ []) (0 ∷ 0 ∷ 4 ∷ 0 ∷ 18446744073709551615 ∷ 0 ∷ 0 ∷ []) ≡ refused 25 (Some 4)
  -- n 0, and n 2 over arrays of one entry
  pub no_operation : judged (sized 0 0 0 0) [] [] ≡ refused 21 None
  pub short_arrays : judged (sized 2 0 0 0) (0 ∷ []) (0 ∷ []) ≡ refused 21 None
  -- an operation 30
  pub unknown_operation : judged (sized 2 0 0 0) (1 ∷ 30 ∷ []) (0 ∷ 0 ∷ []) ≡ refused 22 (Some 1)
  -- GET of 2 cells from cell 0, where there is one cell: 8192 + 16777216 × 10001
  pub cells_beyond : judged (sized 4 1 1 1) (1 ∷ 2 ∷ 5 ∷ 0 ∷ []) (0 ∷ 1 ∷ 167788945408 ∷ 0 ∷ []) ≡ refused 23 (Some 2)
  -- ADD on one figure; two CONST where D is 1
  pub too_few_figures : judged (sized 4 0 0 2) (1 ∷ 2 ∷ 10 ∷ 0 ∷ []) (0 ∷ 1 ∷ 0 ∷ 0 ∷ []) ≡ refused 24 (Some 2)
  pub too_many_figures : judged (sized 4 0 0 1) (1 ∷ 2 ∷ 2 ∷ 0 ∷ []) (0 ∷ 1 ∷ 1 ∷ 0 ∷ []) ≡ refused 24 (Some 2)
  -- JUMP back to a HERE; JUMP to a place from n on
  pub jump_back_to_here : judged (sized 3 0 0 0) (1 ∷ 26 ∷ 22 ∷ []) (0 ∷ 0 ∷ 1 ∷ []) ≡ refused 25 (Some 2)
  pub jump_outside : judged (sized 2 0 0 0) (1 ∷ 22 ∷ []) (0 ∷ 2 ∷ []) ≡ refused 23 (Some 1)
  -- a MARK for the last operation
  pub open_end : judged (sized 1 0 0 0) (1 ∷ []) (0 ∷ []) ≡ refused 26 (Some 0)
