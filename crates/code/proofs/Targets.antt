-- What a machine that runs well-formed code leans on: the operation at a place is sound, and jumps reach places where the
-- stack is empty.
use Rattle.std.proofs.Common.{◌≡◌, ℕ, suc, ◌+◌, ◌<◌, ◌≤◌, true, ◌⊎◌, List, length, get_or, Some, Ok, Err, Result, sym, refl, ap, ◌∙◌, subst, inl, inr, ⊎_elim, arith}
use Rattle.std.proofs.lemmas.Bool.{cases_lt}
use Rattle.code.specs.declared.checked.Checked.{Checked}
use Rattle.code.specs.declared.operations.Operation.{Operation}
use Rattle.code.specs.declared.operations.Operation.TheVariants.{Halt, Mark, Jump, Rows, Here}
use Rattle.code.specs.declared.operations.UnknownOperation.{UnknownOperation}
use Rattle.code.specs.Operations.{Decodes, operation, role}
use Rattle.code.specs.Check.{check, passed, passes, refused, Verdict, empty_before}
use Rattle.code.specs.CheckedCode.{code_in}
use Rattle.code.specs.Codes.{Code, operation_at}
use Rattle.code.specs.WellFormed.{Lands, on_mark, on_later_here, on_later_halt, SoundAt, WellFormed, Reaches}
use Rattle.code.proofs.Passing.{passes_to_well_formed}
use Rattle.code.proofs.Places.{operation_at_inside, operation_at_past}

-- Code whose verdict is a pass is well formed, and a checked value holds such code.
pub passed_to_well_formed : (c : Code) → passed (check c) ≡ true → WellFormed c
passed_to_well_formed c ok = passes_to_well_formed c (go (check c) ok)
  where
    go : (v : Verdict) → passed v ≡ true → v ≡ passes
    go passes e = refl
    go (refused k i) e = cc

pub checked_to_well_formed : (c : Checked) → WellFormed (code_in c)
checked_to_well_formed c = passed_to_well_formed (code_in c) c.passes

-- A byte that is an operation's number converts to the operation.
decodes_to_ok : (byte : ℕ) (o : Operation) (r : Result Operation UnknownOperation) → Decodes byte r → operation byte ≡ Some o → r ≡ Ok o
decodes_to_ok byte o (Ok p) d e = let value = d.value in cc
decodes_to_ok byte o (Err u) d e = let value = d.value in cc

-- Each byte of checked code converts to the operation at its place.
pub checked_to_ok : (c : Checked) (i byte : ℕ) (r : Result Operation UnknownOperation) → i < length (code_in c).operations
    → byte ≡ get_or (code_in c).operations i 0 → Decodes byte r → (o : Operation) × (r ≡ Ok o) × (operation_at (code_in c).operations i ≡ Some o)
checked_to_ok c i byte r l e d =
    let w = checked_to_well_formed c in
    let long = w.operations_long in
    let s = w.sound i (omega arith) in
    let known : operation byte ≡ Some s.0 = ap operation e ∙ sym (operation_at_inside (code_in c).operations i l) ∙ s.1.stands in
    (s.0, decodes_to_ok byte s.0 r d known, s.1.stands)

-- A place where an operation stands is in the code.
pub stands_to_inside : (os : List ℕ) (i : ℕ) (o : Operation) → operation_at os i ≡ Some o → i < length os
stands_to_inside os i o e = ⊎_elim (λ l. l) past (cases_lt i (length os))
  where
    past : length os ≤ i → i < length os
    past l =
        let none = operation_at_past os i l in
        cc

module _ (c : Code) (w : WellFormed c) where
  -- The operation that is known to stand at a place is sound there.
  pub stands_to_sound : (i : ℕ) (o : Operation) → operation_at c.operations i ≡ Some o → SoundAt c i o
  stands_to_sound i o e =
      let long = w.operations_long in
      let inside = stands_to_inside c.operations i o e in
      let s = w.sound i (omega arith) in
      let at = s.1.stands in
      let same : s.0 ≡ o = cc in
      subst (λ (p : Operation). SoundAt c i p) same s.1

  -- Where no figures are due before an operation, there are none.
  reaches : (i x : ℕ) (o : Operation) → operation_at c.operations x ≡ Some o → empty_before (role o) ≡ true
      → (i < x) ⊎ (operation_at c.operations x ≡ Some Mark) → Reaches c i x
  reaches i x o e b on =
      let long = w.operations_long in
      let inside = stands_to_inside c.operations x o e in
      record { inside = omega arith; empty = (stands_to_sound x o e).none_before b; onward = on }

  pub lands_to_reaches : (i x : ℕ) → Lands c.operations i x → Reaches c i x
  lands_to_reaches i x (on_mark e) = reaches i x Mark e refl (inr e)
  lands_to_reaches i x (on_later_here l e) = reaches i x Here e refl (inl l)
  lands_to_reaches i x (on_later_halt l e) = reaches i x Halt e refl (inl l)

  pub row_to_reaches : (i : ℕ) → operation_at c.operations i ≡ Some Rows → (j : ℕ) → j < get_or c.operands i 0
      → Reaches c (suc i + j) (get_or c.operands (suc i + j) 0)
  row_to_reaches i e j l =
      let row = (stands_to_sound i Rows e).leads.0.row j l in
      lands_to_reaches (suc i + j) _ (stands_to_sound (suc i + j) Jump row).leads
