-- What checked code says of one operation, by the form of what it does, and where control goes from it.
use Rattle.std.proofs.Common.{◌≡◌, ℕ, suc, ◌+◌, ◌-◌, ◌<◌, ◌≤◌, length, get_or, Some, sym, refl, ap, ◌∙◌, inl, inr, add-one, arith}
use Rattle.code.specs.declared.operations.Operation.{Operation}
use Rattle.code.specs.declared.operations.Operation.TheVariants as op
use Rattle.code.specs.Operations.{operation, number, taken, left}
use Rattle.code.specs.Codes.{Code, operation_at}
use Rattle.code.specs.Descriptors.{unpacked}
use Rattle.code.specs.WellFormed.{depth_at, Lands, on_mark, on_later_here, on_later_halt, NamesCells, SoundAt, WellFormed}
use Rattle.code.proofs.Passing.{depth_at_suc}
use Rattle.code.proofs.Targets.{stands_to_inside, stands_to_sound}
use Rattle.machine.specs.declared.instruction.Instruction.{Instruction}
use Rattle.machine.specs.declared.instruction.Instruction.TheVariants.{Halt, Pass, Calculate, Transfer, Go, Take, Post}
use Rattle.machine.specs.declared.instruction.Branch.TheVariants.{Always, IfFalse, ByTable}
use Rattle.machine.specs.Instructions.{instruction}
use Rattle.machine.specs.Steps.{ends_step_at}
use Rattle.machine.specs.Fits.{Fits, Follows, RowsWithin, calculation_takes, CalculationOperand, transfer_takes, transfer_leaves, TransferOperand}

-- The operation of an operation's number is that operation.
pub operation_number : (o : Operation) → operation (number o) ≡ Some o
unfolding operation
operation_number op.Halt = refl
operation_number op.Mark = refl
operation_number op.Const = refl
operation_number op.Load = refl
operation_number op.Store = refl
operation_number op.Get = refl
operation_number op.Put = refl
operation_number op.Test = refl
operation_number op.Round = refl
operation_number op.Truth = refl
operation_number op.Add = refl
operation_number op.Sub = refl
operation_number op.Mul = refl
operation_number op.Div = refl
operation_number op.Neg = refl
operation_number op.Less = refl
operation_number op.Same = refl
operation_number op.More = refl
operation_number op.Not = refl
operation_number op.And = refl
operation_number op.Or = refl
operation_number op.Eqv = refl
operation_number op.Jump = refl
operation_number op.False = refl
operation_number op.Table = refl
operation_number op.Rows = refl
operation_number op.Here = refl
operation_number op.Take = refl
operation_number op.TakeW = refl
operation_number op.Post = refl

-- An operation that takes t figures and leaves l, and from which control may go on to the next.
pub record Onward (c : Code) (i t l : ℕ) : Type 0 where
  pub enough : t ≤ depth_at c.operations i
  pub after : depth_at c.operations (suc i) ≡ (depth_at c.operations i - t) + l
  pub found : depth_at c.operations i ≤ c.sizes.depth
  pub within : depth_at c.operations (suc i) ≤ c.sizes.depth
  pub next : suc i < length c.operations

abbrev pub Facts : Code → ℕ → Instruction → ℕ → Type 0
Facts c i Halt x = operation_at c.operations i ≡ Some op.Halt
Facts c i Pass x = Onward c i 0 0
Facts c i (Calculate f) x = Onward c i (calculation_takes f) 1 × CalculationOperand f x
Facts c i (Transfer f) x = Onward c i (transfer_takes f) (transfer_leaves f) × TransferOperand f x c.sizes.cells
Facts c i (Go Always) x = Lands c.operations i x × (depth_at c.operations i ≡ 0)
Facts c i (Go IfFalse) x = Onward c i 1 0 × Lands c.operations i x × (depth_at c.operations (suc i) ≡ 0)
Facts c i (Go ByTable) x =
    Onward c i 1 0 × (i < x) × (operation_at c.operations x ≡ Some op.Rows) × (depth_at c.operations (suc i) ≡ 0)
Facts c i (Take r) x = Onward c i 1 0 × NamesCells c.sizes.cells (unpacked x)
Facts c i Post x = Onward c i 1 0

module _ (c : Code) (i : ℕ) where
  onward : (o : Operation) → SoundAt c i o → suc i < length c.operations → Onward c i (taken o) (left o)
  onward o s l = record { enough = s.enough; after = depth_at_suc c.operations i o s.stands; found = s.found; within = s.left; next = l }

  pub facts : (o : Operation) → SoundAt c i o → Facts c i (instruction o) (get_or c.operands i 0)
  facts op.Halt s = s.stands
  facts op.Mark s = onward op.Mark s s.leads
  facts op.Const s = (onward op.Const s s.leads, let n = s.names in omega arith)
  facts op.Load s = (onward op.Load s s.leads, s.names)
  facts op.Store s = (onward op.Store s s.leads, s.names)
  facts op.Get s = (onward op.Get s s.leads, s.names)
  facts op.Put s = (onward op.Put s s.leads, s.names)
  facts op.Test s = (onward op.Test s s.leads, tt)
  facts op.Round s = (onward op.Round s s.leads, tt)
  facts op.Truth s = (onward op.Truth s s.leads, tt)
  facts op.Add s = (onward op.Add s s.leads, tt)
  facts op.Sub s = (onward op.Sub s s.leads, tt)
  facts op.Mul s = (onward op.Mul s s.leads, tt)
  facts op.Div s = (onward op.Div s s.leads, tt)
  facts op.Neg s = (onward op.Neg s s.leads, tt)
  facts op.Less s = (onward op.Less s s.leads, tt)
  facts op.Same s = (onward op.Same s s.leads, tt)
  facts op.More s = (onward op.More s s.leads, tt)
  facts op.Not s = (onward op.Not s s.leads, tt)
  facts op.And s = (onward op.And s s.leads, tt)
  facts op.Or s = (onward op.Or s s.leads, tt)
  facts op.Eqv s = (onward op.Eqv s s.leads, tt)
  facts op.Jump s =
      let e = depth_at_suc c.operations i op.Jump s.stands in
      let z = s.none_after refl in
      (s.leads, omega arith)
  facts op.False s = (onward op.False s s.leads.1, s.leads.0, s.none_after refl)
  facts op.Table s = (onward op.Table s s.leads.2, s.leads.0, s.leads.1, s.none_after refl)
  facts op.Rows s = onward op.Rows s s.leads.1
  facts op.Here s = onward op.Here s s.leads
  facts op.Take s = (onward op.Take s s.leads, s.names)
  facts op.TakeW s = (onward op.TakeW s s.leads, s.names)
  facts op.Post s = onward op.Post s s.leads

module _ (c : Code) (w : WellFormed c) where
  pub facts_at : (i : ℕ) (o : Operation) (f : Instruction) (x : ℕ) → operation_at c.operations i ≡ Some o → f ≡ instruction o → x ≡ get_or c.operands i 0 → Facts c i f x
  facts_at i o f x e p q = rw (p, q) (facts c i o (stands_to_sound c w i o e))

  pub operands_as_long : length c.operations ≡ length c.operands
  operands_as_long = w.operations_long ∙ sym w.operands_long

  module _ {i d cells stack : ℕ} (fits : Fits c i d cells stack) where
    -- On to the next operation.
    pub follows_on : {t l : ℕ} → Onward c i t l → (e : ℕ) → e ≡ (d - t) + l → Follows c i (i + 1) e cells stack
    follows_on {t} {l} h e q = record {
      fits = record {
        inside = let n = h.next in omega arith;
        deep = q ∙ ap (λ k. (k - t) + l) fits.deep ∙ sym h.after ∙ ap (depth_at c.operations) (sym (add-one i));
        wide = fits.wide;
        tall = fits.tall;
      };
      on = inl (omega arith);
    }

    at_empty : (x : ℕ) (o : Operation) → operation_at c.operations x ≡ Some o → depth_at c.operations x ≡ 0 → (e : ℕ) → e ≡ 0 → Fits c x e cells stack
    at_empty x o there z e q = record { inside = stands_to_inside c.operations x o there; deep = q ∙ sym z; wide = fits.wide; tall = fits.tall }

    -- To where a jump lands.
    pub follows_jump : (x : ℕ) → Lands c.operations i x → (e : ℕ) → e ≡ 0 → Follows c i x e cells stack
    follows_jump x (on_mark there) e q =
        record { fits = at_empty x op.Mark there ((stands_to_sound c w x op.Mark there).none_before refl) e q; on = inr (ap ends_step_at there) }
    follows_jump x (on_later_here l there) e q =
        record { fits = at_empty x op.Here there ((stands_to_sound c w x op.Here there).none_before refl) e q; on = inl l }
    follows_jump x (on_later_halt l there) e q =
        record { fits = at_empty x op.Halt there ((stands_to_sound c w x op.Halt there).none_before refl) e q; on = inl l }

    -- To a row of a table.
    pub follows_row : (x n k : ℕ) → k ≡ get_or c.operands x 0 → i < x → operation_at c.operations x ≡ Some op.Rows → 1 ≤ n → n ≤ k → (e : ℕ) → e ≡ 0 → Follows c i (x + n) e cells stack
    follows_row x n k r l there low high e q =
        let has = (stands_to_sound c w x op.Rows there).leads.0 in
        let same : suc x + (n - 1) ≡ x + n = omega arith in
        let jump : operation_at c.operations (x + n) ≡ Some op.Jump = ap (operation_at c.operations) (sym same) ∙ has.row (n - 1) (rw (← r) (omega arith)) in
        let s = stands_to_sound c w (x + n) op.Jump jump in
        let after = depth_at_suc c.operations (x + n) op.Jump jump in
        let none = s.none_after refl in
        let empty : depth_at c.operations (x + n) ≡ 0 = omega arith in
        record { fits = at_empty (x + n) op.Jump jump empty e q; on = inl (omega arith) }

  pub rows_within : (x k : ℕ) → k ≡ get_or c.operands x 0 → operation_at c.operations x ≡ Some op.Rows → RowsWithin (length c.operands) k x
  rows_within x k r there =
      let has = (stands_to_sound c w x op.Rows there).leads.0 in
      let long = operands_as_long in
      let inside = stands_to_inside c.operations x op.Rows there in
      let few = w.few_operations in
      let count = w.operations_long in
      record {
        there = omega arith;
        within = λ j low high.
            let same : suc x + (j - 1) ≡ x + j = omega arith in
            let l = stands_to_inside c.operations (suc x + (j - 1)) op.Jump (has.row (j - 1) (rw (← r) (omega arith))) in
            omega arith;
      }

-- There is enough of everything for an operation that takes t figures and leaves l.
pub record Room (c : Code) (i d stack t l : ℕ) : Type 0 where
  pub low : t ≤ d
  pub deep : d ≤ c.sizes.depth
  pub high : (d - t) + l ≤ c.sizes.depth
  pub tall : c.sizes.depth ≤ stack
  pub shallow : c.sizes.depth ≤ 256
  pub few : i < 4096

pub room : (c : Code) → WellFormed c → {i d cells stack t l : ℕ} → Fits c i d cells stack → Onward c i t l → Room c i d stack t l
room c w {i} {d} {cells} {stack} {t} {l} fits h =
    let e = fits.deep in
    let a = h.after in
    let b = h.enough in
    let f = h.found in
    let n = h.within in
    let inside = fits.inside in
    let long = w.operations_long in
    let most = w.few_operations in
    record { low = omega arith; deep = omega arith; high = omega arith; tall = fits.tall; shallow = w.shallow; few = omega arith }
