-- Where a run of checked code stands between two steps: at a MARK or a HALT, with nothing on the stack.
use Rattle.std.proofs.Common.{◌≡◌, ℕ, ◌<◌, ◌≤◌, true, false, ltb, ◌⊎◌, length, Some, None, Option, sym, refl, ap, ◌∙◌, inl, inr, ⊎_elim, arith}
use Rattle.std.proofs.lemmas.Bool.{and_from, and_parts, lt-ltb, ltb-true}
use Rattle.code.specs.declared.operations.Operation.{Operation}
use Rattle.code.specs.declared.operations.Operation.TheVariants.{Halt, Mark}
use Rattle.code.specs.declared.operations.Role.{Role}
use Rattle.code.specs.declared.operations.Role.TheVariants.{End, Step, Label, Goto, Branch, Switch, JumpTable, Straight}
use Rattle.code.specs.Operations.{role}
use Rattle.code.specs.Codes.{Code, operation_at}
use Rattle.code.specs.WellFormed.{WellFormed}
use Rattle.code.proofs.Places.{role_to_operation, sole}
use Rattle.machine.specs.Fits.{Ends, Fits, stands_at}
use Rattle.machine.specs.Steps.{ends_step_at, halts, role_ends}
use Rattle.code.proofs.Targets.{stands_to_sound}

clash : {A : Type 0} → false ≡ true → A
clash e = let z : ◌≡◌ {A = ℕ} 0 1 = cc in absurd (omega arith)

-- A step ends only before a MARK or a HALT.
pub ends_to_mark_or_halt : (p : Option Operation) → ends_step_at p ≡ true → (p ≡ Some Mark) ⊎ (p ≡ Some Halt)
ends_to_mark_or_halt None e = clash e
ends_to_mark_or_halt (Some o) e = at_role (role o) refl e
  where
    at_role : (r : Role) → role o ≡ r → role_ends r ≡ true → (Some o ≡ Some Mark) ⊎ (Some o ≡ Some Halt)
    at_role End q h = inr (ap Some (role_to_operation o Halt (ap sole q)))
    at_role Step q h = inl (ap Some (role_to_operation o Mark (ap sole q)))
    at_role Label q h = clash h
    at_role Goto q h = clash h
    at_role Branch q h = clash h
    at_role Switch q h = clash h
    at_role JumpTable q h = clash h
    at_role Straight q h = clash h

module _ (c : Code) (i : ℕ) where
  pub stands_to_inside : stands_at c i ≡ true → i < length c.operations
  stands_to_inside s = ltb-true i (length c.operations) (and_parts (ltb i (length c.operations)) (ends_step_at (operation_at c.operations i)) s).0

  pub stands_to_ends : stands_at c i ≡ true → ends_step_at (operation_at c.operations i) ≡ true
  stands_to_ends s = (and_parts (ltb i (length c.operations)) (ends_step_at (operation_at c.operations i)) s).1

  pub inside_ends_to_stands : i < length c.operations → ends_step_at (operation_at c.operations i) ≡ true → stands_at c i ≡ true
  inside_ends_to_stands l e = and_from (ltb i (length c.operations)) (ends_step_at (operation_at c.operations i)) (lt-ltb i (length c.operations) l) e

  -- Where the run is not at a HALT, a step begins.
  pub stands_to_mark : stands_at c i ≡ true → halts (operation_at c.operations i) ≡ false → operation_at c.operations i ≡ Some Mark
  stands_to_mark s h = ⊎_elim (λ e. e) (λ e. clash (sym h ∙ ap halts e)) (ends_to_mark_or_halt (operation_at c.operations i) (stands_to_ends s))

  pub stands_to_fits : WellFormed c → (cells stack : ℕ) → stands_at c i ≡ true → cells ≡ c.sizes.cells → c.sizes.depth ≤ stack → Fits c i 0 cells stack
  stands_to_fits w cells stack s wide tall =
      ⊎_elim (λ e. fits ((stands_to_sound c w i Mark e).none_before refl)) (λ e. fits ((stands_to_sound c w i Halt e).none_before refl)) (ends_to_mark_or_halt (operation_at c.operations i) (stands_to_ends s))
    where
      fits : Rattle.code.specs.WellFormed.depth_at c.operations i ≡ 0 → Fits c i 0 cells stack
      fits z = record { inside = stands_to_inside s; deep = sym z; wide = wide; tall = tall }

-- A run starts at a MARK or a HALT.
pub first_stands : (c : Code) → WellFormed c → stands_at c 0 ≡ true
first_stands c w =
    let some = w.some_operation in
    let long = w.operations_long in
    inside_ends_to_stands c 0 (omega arith) (⊎_elim (ap ends_step_at) (ap ends_step_at) w.opens)

pub ends_to_stands : {c : Code} {i d cells stack : ℕ} → Ends c i d cells stack → stands_at c i ≡ true
ends_to_stands {c} {i} e = inside_ends_to_stands c i e.fits.inside e.ended
