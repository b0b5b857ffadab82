-- What the check's ruling on one operation says of it, rule by rule.
use Rattle.std.proofs.Common.{◌≡◌, ℕ, zero, suc, ◌+◌, ◌-◌, ◌<◌, ◌≤◌, Bool, true, false, cond, ◌&&◌, eqb, ltb, List, [], ◌∷◌, length, drop, Some, None, Option, sym, refl, ap, ◌∙◌, add-one, arith}
use Rattle.std.proofs.lemmas.Bool.{and_parts, and_from, eq-eqb, eqb-true, ltb-true, lt-ltb, leb-true, le-leb}
use Rattle.std.proofs.lemmas.Bool.Decides.{nat_tests}
use Rattle.std.specs.Option.{option_map}
use Rattle.code.specs.declared.operations.Operation.{Operation}
use Rattle.code.specs.declared.operations.Operation.TheVariants.{Halt, Mark, Jump, Rows, Here}
use Rattle.code.specs.declared.operations.Operand.{Operand}
use Rattle.code.specs.declared.operations.Operand.TheVariants.{Unused, TextPlace, Constant, Cell, CellRange, Target, RowCount}
use Rattle.code.specs.declared.operations.Role.{Role}
use Rattle.code.specs.declared.operations.Role.TheVariants.{End, Step, Label, Goto, Branch, Switch, JumpTable, Straight}
use Rattle.code.specs.declared.sizes.Sizes.{Sizes}
use Rattle.code.specs.Operations.{operation, operand, role, taken}
use Rattle.code.specs.Codes.{operation_at, role_at}
use Rattle.code.specs.Check.{Ruling, goes_on, breaks, ruling, operand_ok, depth_ok, depth_after, empty_before, empty_after, place_ok, last_ok, may_land, is_jump_table, closed, closes, opens, leading_jumps}
use Rattle.code.proofs.Places.{operation_at_drop, operation_to_number, role_at_to_operation_at}
use Rattle.code.specs.WellFormed.{Names, Lands, on_mark, on_later_here, on_later_halt, CutOff, behind_halt, behind_jump, HasRows, Leads}

before : (k : ℕ) → suc k - 1 ≡ k
before k = omega arith

-- A test that passed: its condition holds, and what stands under it goes on.
test_passed : (b : Bool) (r : Ruling) (k e : ℕ) → cond b r (breaks k) ≡ goes_on e → (b ≡ true) × (r ≡ goes_on e)
test_passed true r k e h = (refl, h)
test_passed false r k e h = cc

-- The operation keeps each rule, and leaves what it should.
pub record KeepsRules (s : Sizes) (os : List ℕ) (i x d e : ℕ) (o : Operation) : Type 0 where
  pub operand_rule : operand_ok s (operand o) x ≡ true
  pub depth_rule : depth_ok s o d ≡ true
  pub place_rule : place_ok os i (role o) x ≡ true
  pub last_rule : last_ok os i (role o) ≡ true
  pub after : e ≡ depth_after o d

module _ (s : Sizes) (os : List ℕ) (i x d : ℕ) where
  pub goes_on_to_keeps_rules : (e : ℕ) (p : Option Operation) → ruling s os i x d p ≡ goes_on e
      → (o : Operation) × (p ≡ Some o) × KeepsRules s os i x d e o
  goes_on_to_keeps_rules e None h = cc
  goes_on_to_keeps_rules e (Some o) h =
      let a = test_passed (operand_ok s (operand o) x) _ 23 e h in
      let b = test_passed (depth_ok s o d) _ 24 e a.1 in
      let c = test_passed (place_ok os i (role o) x) _ 25 e b.1 in
      let f = test_passed (last_ok os i (role o)) _ 26 e c.1 in
      let g = f.1 in
      let same : e ≡ depth_after o d = cc in
      (o, refl, record { operand_rule = a.0; depth_rule = b.0; place_rule = c.0; last_rule = f.0; after = same })

  -- An operation that keeps each rule goes on.
  pub keeps_rules_to_goes_on : (o : Operation) → operand_ok s (operand o) x ≡ true → depth_ok s o d ≡ true → place_ok os i (role o) x ≡ true
      → last_ok os i (role o) ≡ true → (p : Option Operation) → p ≡ Some o → ruling s os i x d p ≡ goes_on (depth_after o d)
  keeps_rules_to_goes_on o a b f g p e = ap (ruling s os i x d) e ∙ rw (a, b, f, g)

-- 23: the operand names what is there.
pub operand_ok_to_names : (s : Sizes) (k : Operand) (x : ℕ) → operand_ok s k x ≡ true → Names s k x
operand_ok_to_names s Unused x h = grind (arith, nat_tests)
operand_ok_to_names s TextPlace x h = grind (arith, nat_tests)
operand_ok_to_names s Constant x h = grind (arith, nat_tests)
operand_ok_to_names s Cell x h = grind (arith, nat_tests)
operand_ok_to_names s CellRange x h = record { some = grind (arith, nat_tests); below = grind (arith, nat_tests); low_from = grind (arith, nat_tests); low_to = grind (arith, nat_tests) }
operand_ok_to_names s Target x h = grind (arith, nat_tests)
operand_ok_to_names s RowCount x h = grind (arith, nat_tests)

pub names_to_operand_ok : (s : Sizes) (k : Operand) (x : ℕ) → Names s k x → operand_ok s k x ≡ true
names_to_operand_ok s Unused x h = grind (arith, nat_tests)
names_to_operand_ok s TextPlace x h = grind (arith, nat_tests)
names_to_operand_ok s Constant x h = grind (arith, nat_tests)
names_to_operand_ok s Cell x h = grind (arith, nat_tests)
names_to_operand_ok s CellRange x h = let a = h.some in let b = h.below in let e = h.low_from in let f = h.low_to in grind (arith, nat_tests)
names_to_operand_ok s Target x h = grind (arith, nat_tests)
names_to_operand_ok s RowCount x h = grind (arith, nat_tests)

-- 24: figures enough, room enough, and none where none may be.
pub record KeepsDepth (s : Sizes) (o : Operation) (d e : ℕ) : Type 0 where
  pub enough : taken o ≤ d
  pub within : e ≤ s.depth
  pub none_before : empty_before (role o) ≡ true → d ≡ 0
  pub none_after : empty_after (role o) ≡ true → e ≡ 0

pub depth_ok_to_keeps_depth : (s : Sizes) (o : Operation) (d : ℕ) → depth_ok s o d ≡ true → KeepsDepth s o d (depth_after o d)
depth_ok_to_keeps_depth s o d h =
    record { enough = grind (arith, nat_tests); within = grind (arith, nat_tests); none_before = λ k. grind (arith, nat_tests); none_after = λ k. grind (arith, nat_tests) }

pub keeps_depth_to_depth_ok : (s : Sizes) (o : Operation) (d : ℕ) → KeepsDepth s o d (depth_after o d) → depth_ok s o d ≡ true
keeps_depth_to_depth_ok s o d h = let a = h.enough in let b = h.within in let e = h.none_before in let f = h.none_after in grind (arith, nat_tests)

-- 25: where a jump lands.
module _ (os : List ℕ) (i x : ℕ) where
  may_land_to_lands : may_land (role_at os x) (ltb i x) ≡ true → Lands os i x
  may_land_to_lands = at_role (role_at os x) refl
    where
      at_role : (r : Option Role) → role_at os x ≡ r → may_land r (ltb i x) ≡ true → Lands os i x
      at_role None e h = cc
      at_role (Some End) e h = on_later_halt (ltb-true i x h) (role_at_to_operation_at os x End Halt e refl)
      at_role (Some Step) e h = on_mark (role_at_to_operation_at os x Step Mark e refl)
      at_role (Some Label) e h = on_later_here (ltb-true i x h) (role_at_to_operation_at os x Label Here e refl)
      at_role (Some Goto) e h = cc
      at_role (Some Branch) e h = cc
      at_role (Some Switch) e h = cc
      at_role (Some JumpTable) e h = cc
      at_role (Some Straight) e h = cc

  lands_to_may_land : Lands os i x → may_land (role_at os x) (ltb i x) ≡ true
  lands_to_may_land (on_mark e) = ap (λ p. may_land (option_map role p) (ltb i x)) e
  lands_to_may_land (on_later_here l e) = ap (λ p. may_land (option_map role p) (ltb i x)) e ∙ lt-ltb i x l
  lands_to_may_land (on_later_halt l e) = ap (λ p. may_land (option_map role p) (ltb i x)) e ∙ lt-ltb i x l

-- A ROWS stands at x.
is_jump_table_to_rows : (os : List ℕ) (x : ℕ) → is_jump_table (role_at os x) ≡ true → operation_at os x ≡ Some Rows
is_jump_table_to_rows os x = at_role (role_at os x) refl
  where
    at_role : (r : Option Role) → role_at os x ≡ r → is_jump_table r ≡ true → operation_at os x ≡ Some Rows
    at_role None e h = cc
    at_role (Some End) e h = cc
    at_role (Some Step) e h = cc
    at_role (Some Label) e h = cc
    at_role (Some Goto) e h = cc
    at_role (Some Branch) e h = cc
    at_role (Some Switch) e h = cc
    at_role (Some JumpTable) e h = role_at_to_operation_at os x JumpTable Rows e refl
    at_role (Some Straight) e h = cc

-- A HALT or a JUMP stands at k.
closed_to_cut_off : (os : List ℕ) (k : ℕ) → closed (role_at os k) ≡ true → CutOff os (suc k)
closed_to_cut_off os k = at_role (role_at os k) refl
  where
    at_role : (r : Option Role) → role_at os k ≡ r → closed r ≡ true → CutOff os (suc k)
    at_role None e h = cc
    at_role (Some End) e h = behind_halt (role_at_to_operation_at os k End Halt e refl)
    at_role (Some Step) e h = cc
    at_role (Some Label) e h = cc
    at_role (Some Goto) e h = behind_jump (role_at_to_operation_at os k Goto Jump e refl)
    at_role (Some Branch) e h = cc
    at_role (Some Switch) e h = cc
    at_role (Some JumpTable) e h = cc
    at_role (Some Straight) e h = cc

cut_off_to_closed : (os : List ℕ) (i : ℕ) → CutOff os i → closed (role_at os (i - 1)) ≡ true
cut_off_to_closed os i (behind_halt {k} e) = ap (λ j. closed (role_at os j)) (before k) ∙ ap (λ p. closed (option_map role p)) e
cut_off_to_closed os i (behind_jump {k} e) = ap (λ j. closed (role_at os j)) (before k) ∙ ap (λ p. closed (option_map role p)) e

-- The JUMPs at the front of the bytes, one by one.
leading_jumps_to_jump : (bs : List ℕ) (j : ℕ) → j < leading_jumps bs → operation_at bs j ≡ Some Jump
unfolding operation_at operation
leading_jumps_to_jump [] j l = absurd (omega arith)
leading_jumps_to_jump (b ∷ bs) j l = first (eqb b 22) refl j l (leading_jumps_to_jump bs)
  where
    first : (t : Bool) → eqb b 22 ≡ t → (j : ℕ) → j < cond t (1 + leading_jumps bs) 0
        → ((j : ℕ) → j < leading_jumps bs → operation_at bs j ≡ Some Jump) → operation_at (b ∷ bs) j ≡ Some Jump
    first true e zero l rest = ap operation (eqb-true b 22 e)
    first true e (suc j) l rest = rest j (omega arith)
    first false e j l rest = absurd (omega arith)

jumps_to_leading_jumps : (bs : List ℕ) (k : ℕ) → ((j : ℕ) → j < k → operation_at bs j ≡ Some Jump) → k ≤ leading_jumps bs
unfolding operation_at
jumps_to_leading_jumps bs zero h = omega arith
jumps_to_leading_jumps [] (suc k) h = let e = h 0 (omega arith) in cc
jumps_to_leading_jumps (b ∷ bs) (suc k) h =
    let first = eq-eqb b 22 (sym (operation_to_number b Jump (h 0 (omega arith)))) in
    let rest = jumps_to_leading_jumps bs k (λ j l. h (suc j) (omega arith)) in
    rw first (omega arith)

-- Where the operation leads, by the tests 25 and 26.
module _ (os : List ℕ) (i x : ℕ) (inside : i < length os) where
  last_ok_to_more : (r : Role) → closes r ≡ false → last_ok os i r ≡ true → suc i < length os
  last_ok_to_more r c h = grind (arith, nat_tests)

  more_to_last_ok : (r : Role) → suc i < length os → last_ok os i r ≡ true
  more_to_last_ok r l = grind (arith, nat_tests)

  pub target_ok_to_leads : (r : Role) → place_ok os i r x ≡ true → last_ok os i r ≡ true → Leads os i r x
  target_ok_to_leads End p q = tt
  target_ok_to_leads Step p q = last_ok_to_more Step refl q
  target_ok_to_leads Label p q = last_ok_to_more Label refl q
  target_ok_to_leads Goto p q = may_land_to_lands os i x (and_parts (cond (eqb i 0) false true) _ p).1
  target_ok_to_leads Branch p q = (may_land_to_lands os i x (and_parts (cond (eqb i 0) false true) _ p).1, last_ok_to_more Branch refl q)
  target_ok_to_leads Switch p q =
      let h = and_parts (ltb i x) _ (and_parts (cond (eqb i 0) false true) _ p).1 in
      (ltb-true i x h.0, is_jump_table_to_rows os x h.1, last_ok_to_more Switch refl q)
  target_ok_to_leads JumpTable p q = (rows i p, last_ok_to_more JumpTable refl q)
    where
      rows : (i : ℕ) → place_ok os i JumpTable x ≡ true → HasRows os i x
      rows zero p = cc
      rows (suc k) p =
          let h = and_parts (closed (role_at os (suc k - 1))) _ (and_parts (cond (eqb (suc k) 0) false true) _ p).1 in
          let long = leb-true x _ h.1 in
          record {
            cut_off = closed_to_cut_off os k (ap (λ j. closed (role_at os j)) (sym (before k)) ∙ h.0);
            row = λ j l. ap (λ n. operation_at os (n + j)) (sym (add-one (suc k))) ∙ sym (operation_at_drop (suc k + 1) os j) ∙ leading_jumps_to_jump (drop (suc k + 1) os) j (omega arith);
          }
  target_ok_to_leads Straight p q = last_ok_to_more Straight refl q

  -- Where nothing but place 0 is at stake, the test is that of the target.
  opened : (r : Role) (t : Bool) → (i ≡ 0 → opens r ≡ true) → t ≡ true → (cond (eqb i 0) (opens r) true && t) ≡ true
  opened r t o h = and_from (cond (eqb i 0) (opens r) true) t (first (eqb i 0) refl) h
    where
      first : (b : Bool) → eqb i 0 ≡ b → cond b (opens r) true ≡ true
      first true e = o (eqb-true i 0 e)
      first false e = refl

  pub leads_to_place_ok : (r : Role) → (i ≡ 0 → opens r ≡ true) → Leads os i r x → place_ok os i r x ≡ true
  leads_to_place_ok End o h = opened End true o refl
  leads_to_place_ok Step o h = opened Step true o refl
  leads_to_place_ok Label o h = opened Label true o refl
  leads_to_place_ok Goto o h = opened Goto _ o (lands_to_may_land os i x h)
  leads_to_place_ok Branch o h = opened Branch _ o (lands_to_may_land os i x h.0)
  leads_to_place_ok Switch o h = opened Switch _ o (and_from (ltb i x) _ (lt-ltb i x h.0) (ap (λ p. is_jump_table (option_map role p)) h.1))
  leads_to_place_ok JumpTable o h =
      let row : (j : ℕ) → j < x → operation_at (drop (i + 1) os) j ≡ Some Jump =
      λ j l. operation_at_drop (i + 1) os j ∙ ap (λ n. operation_at os (n + j)) (add-one i) ∙ h.0.row j l in
      opened JumpTable _ o (and_from (closed (role_at os (i - 1))) _ (cut_off_to_closed os i h.0.cut_off) (le-leb x _ (jumps_to_leading_jumps (drop (i + 1) os) x row)))
  leads_to_place_ok Straight o h = opened Straight true o refl

  pub leads_to_last_ok : (r : Role) → Leads os i r x → last_ok os i r ≡ true
  leads_to_last_ok End h = grind (arith, nat_tests)
  leads_to_last_ok Step h = more_to_last_ok Step h
  leads_to_last_ok Label h = more_to_last_ok Label h
  leads_to_last_ok Goto h = grind (arith, nat_tests)
  leads_to_last_ok Branch h = more_to_last_ok Branch h.1
  leads_to_last_ok Switch h = more_to_last_ok Switch h.2
  leads_to_last_ok JumpTable h = more_to_last_ok JumpTable h.1
  leads_to_last_ok Straight h = more_to_last_ok Straight h
