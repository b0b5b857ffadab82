-- What status and ask tell, against the statement machine.
use Rattle.std.proofs.Common.{◌≡◌, ℕ, zero, suc, ◌<◌, Bool, true, false, eqb, ltb, List, [], ◌∷◌, ◌++◌, length, Some, None, Option, sym, refl, ap, ◌∙◌, arith}
use Rattle.std.specs.List.{slice_get}
use Rattle.std.proofs.lemmas.Bool.{ltb-true}
use Rattle.figures.specs.Kinds.{Outcome, value, refused}
use Rattle.code.specs.Codes.{Code}
use Rattle.meaning.specs.Machine.{Next, at_end, faults}
use Rattle.machine.specs.Faults as code
use Rattle.machine.specs.Runs as calls
use Rattle.machine.specs.Runs.{Asked, HowItStands, goes_on, failed}
use Rattle.translator.specs.Promise.{text_fault}

-- How a run stands, and what the statement machine's next step comes to.
pub data Told {V : Type 0} (how : HowItStands) (n : Next V) : Type 0 where
  of_end : how ≡ calls.at_end → n ≡ at_end → Told how n
  of_fault : (f : code.Fault) (place : ℕ) → how ≡ failed f place → n ≡ faults (text_fault f place) → Told how n
  of_going : how ≡ goes_on → (n ≡ at_end → ⊥) → Told how n

-- The fault that is told, where one is.
abbrev fault_told : {V : Type 0} → HowItStands → Next V
fault_told calls.at_end = at_end
fault_told goes_on = at_end
fault_told (failed f place) = faults (text_fault f place)

-- What is told of the end, of a fault and of going on is so, and the end is told.
module _ {V : Type 0} {how : HowItStands} {n : Next V} where
  pub end_told : Told how n → n ≡ at_end → how ≡ calls.at_end
  end_told (of_end h e) q = h
  end_told (of_fault f place h e) q = let z : ◌≡◌ {A = ℕ} 0 1 = cc in absurd (omega arith)
  end_told (of_going h not) q = absurd (not q)

  pub told_end : Told how n → how ≡ calls.at_end → n ≡ at_end
  told_end (of_end h e) q = e
  told_end (of_fault f place h e) q = let z : ◌≡◌ {A = ℕ} 0 1 = cc in absurd (omega arith)
  told_end (of_going h not) q = let z : ◌≡◌ {A = ℕ} 0 1 = cc in absurd (omega arith)

  pub told_fault : Told how n → (f : code.Fault) (place : ℕ) → how ≡ failed f place → n ≡ faults (text_fault f place)
  told_fault (of_end h e) f place q = let z : ◌≡◌ {A = ℕ} 0 1 = cc in absurd (omega arith)
  told_fault (of_fault g p h e) f place q = e ∙ ap fault_told (sym h ∙ q)
  told_fault (of_going h not) f place q = let z : ◌≡◌ {A = ℕ} 0 1 = cc in absurd (omega arith)

  pub told_going : Told how n → how ≡ goes_on → n ≡ at_end → ⊥
  told_going (of_end h e) q = let z : ◌≡◌ {A = ℕ} 0 1 = cc in absurd (omega arith)
  told_going (of_fault f place h e) q = let z : ◌≡◌ {A = ℕ} 0 1 = cc in absurd (omega arith)
  told_going (of_going h not) q = not

-- The first of a list are the first of a longer one.
pub nth_in_front : {X : Type 0} (xs ys : List X) (i : ℕ) → i < length xs → slice_get (xs ++ ys) i ≡ slice_get xs i
nth_in_front [] ys i l = absurd (omega arith)
nth_in_front (x ∷ xs) ys zero l = refl
nth_in_front (x ∷ xs) ys (suc i) l = nth_in_front xs ys i (omega arith)

-- The figure that is told, where one is.
abbrev figure_told : {V : Type 0} → Outcome V → Option V
figure_told (value v) = Some v
figure_told (refused n) = None

-- An ask that is not refused asked for a named cell, and tells what it holds.
module _ {V : Type 0} (c : Code) (cells : List V) (i : ℕ) (x : V) (a : Asked c cells i (value x)) where
  by_tests : (b : Bool) → eqb (length cells) c.sizes.cells ≡ b → (d : Bool) → ltb i c.sizes.named ≡ d → (o : Option V) → slice_get cells i ≡ o
      → (i < c.sizes.named) × (slice_get cells i ≡ Some x)
  by_tests false e d l o h = let q : value x ≡ refused 41 = rw e at a.answered in let z : ◌≡◌ {A = ℕ} 0 1 = cc in absurd (omega arith)
  by_tests true e false l o h = let q : value x ≡ refused 43 = rw (e, l) at a.answered in let z : ◌≡◌ {A = ℕ} 0 1 = cc in absurd (omega arith)
  by_tests true e true l None h = let q : value x ≡ refused 43 = rw (e, l, h) at a.answered in let z : ◌≡◌ {A = ℕ} 0 1 = cc in absurd (omega arith)
  by_tests true e true l (Some y) h =
      let q : value x ≡ value y = rw (e, l, h) at a.answered in
      (ltb-true i c.sizes.named l, h ∙ sym (ap figure_told q))

  pub asked_is : (i < c.sizes.named) × (slice_get cells i ≡ Some x)
  asked_is = by_tests (eqb (length cells) c.sizes.cells) refl (ltb i c.sizes.named) refl (slice_get cells i) refl
