-- The check passes just the code that is well formed: place by place, at the depth counted in code order.
use Rattle.std.proofs.Common.{◌≡◌, ℕ, zero, suc, ◌+◌, ◌<◌, ◌≤◌, Bool, true, false, ◌⊎◌, List, length, get_or, drop, is_ok, Some, None, Ok, Err, Decides, Option, Result, sym, refl, ap, ◌∙◌, subst, inl, inr, ⊎_elim, add-one, arith}
use Rattle.std.proofs.lemmas.Bool.{and_parts}
use Rattle.std.proofs.lemmas.Bool.Decides.{nat_tests}
use Rattle.code.specs.declared.refusals.Refusal.{Refusal}
use Rattle.code.specs.Answers.{number, told_at, verdict_of}
use Rattle.code.specs.declared.operations.Operation.{Operation}
use Rattle.code.specs.declared.operations.Operation.TheVariants.{Halt, Mark}
use Rattle.code.specs.declared.operations.Role.{Role}
use Rattle.code.specs.declared.operations.Role.TheVariants.{End, Step, Label, Goto, Branch, Switch, JumpTable, Straight}
use Rattle.code.specs.Operations.{operation, operand, role}
use Rattle.code.specs.Codes.{Code, operation_at}
use Rattle.code.specs.Check.{Ruling, goes_on, breaks, passes, refused, check, check_from, sizes_ok, opens, depth_after, target_ok}
use Rattle.code.specs.WellFormed.{depth_at, depth_past, SoundAt, WellFormed}
use Rattle.code.proofs.Places.{operation_at_inside, role_to_operation, sole}
use Rattle.code.proofs.Rulings.{KeepsRules, keeps_rules_to_goes_on, KeepsDepth, goes_on_to_keeps_rules, operand_ok_to_names, names_to_operand_ok, depth_ok_to_keeps_depth, keeps_depth_to_depth_ok, target_ok_to_leads, leads_to_place_ok, leads_to_last_ok}
use Rattle.code.proofs.Verdicts.{ruling_at, check_more, check_stop, check_done, check_bad_sizes, check_good_sizes}

not_passes : {A : Type 0} (k : ℕ) (p : Option ℕ) → refused k p ≡ passes → A
not_passes k p e = cc

-- The depth past a known operation.
pub depth_at_suc : (os : List ℕ) (i : ℕ) (o : Operation) → operation_at os i ≡ Some o → depth_at os (suc i) ≡ depth_after o (depth_at os i)
unfolding depth_at
depth_at_suc os i o e = ap (λ p. depth_past p (depth_at os i)) e

module _ (c : Code) (ok : check c ≡ passes) where
  sizes_pass : sizes_ok c ≡ true
  sizes_pass = go (sizes_ok c) refl
    where
      go : (b : Bool) → sizes_ok c ≡ b → sizes_ok c ≡ true
      go true e = e
      go false e = not_passes 21 None (sym (check_bad_sizes c e) ∙ ok)

  -- An operation from which the check goes on to its end keeps the rules, and the check goes on from the depth that it leaves.
  step : (i : ℕ) → i < length c.operations → check_from c (drop i c.operations) i (depth_at c.operations i) ≡ passes
      → (o : Operation) × (operation_at c.operations i ≡ Some o)
      × KeepsRules c.sizes c.operations i (get_or c.operands i 0) (depth_at c.operations i) (depth_at c.operations (suc i)) o
      × (check_from c (drop (suc i) c.operations) (suc i) (depth_at c.operations (suc i)) ≡ passes)
  step i l h = go (ruling_at c i (depth_at c.operations i)) refl
    where
      go : (r : Ruling) → ruling_at c i (depth_at c.operations i) ≡ r
          → (o : Operation) × (operation_at c.operations i ≡ Some o)
          × KeepsRules c.sizes c.operations i (get_or c.operands i 0) (depth_at c.operations i) (depth_at c.operations (suc i)) o
          × (check_from c (drop (suc i) c.operations) (suc i) (depth_at c.operations (suc i)) ≡ passes)
      go (breaks k) e = not_passes k (Some i) (sym (check_stop c i _ k l (sym e)) ∙ h)
      go (goes_on d) e =
          let k = goes_on_to_keeps_rules c.sizes c.operations i _ (depth_at c.operations i) d _ e in
          let at = operation_at_inside c.operations i l ∙ k.1 in
          let same : d ≡ depth_at c.operations (suc i) = k.2.after ∙ sym (depth_at_suc c.operations i k.0 at) in
          let rest = sym (check_more c i _ d l (sym e)) ∙ h in (
            k.0,
            at,
            subst (λ (d : ℕ). KeepsRules c.sizes c.operations i (get_or c.operands i 0) (depth_at c.operations i) d k.0) same k.2,
            subst (λ (d : ℕ). check_from c (drop (suc i) c.operations) (suc i) d ≡ passes) same (subst (λ (n : ℕ). check_from c (drop n c.operations) n d ≡ passes) (add-one i) rest),
          )

  passes_from : (i : ℕ) → i ≤ length c.operations → check_from c (drop i c.operations) i (depth_at c.operations i) ≡ passes
  unfolding depth_at
  passes_from zero l = sym (check_good_sizes c sizes_pass) ∙ ok
  passes_from (suc i) l = (step i l (passes_from i (omega arith))).3

  keeps_rules : (i : ℕ) → i < length c.operations → (o : Operation) × (operation_at c.operations i ≡ Some o)
      × KeepsRules c.sizes c.operations i (get_or c.operands i 0) (depth_at c.operations i) (depth_at c.operations (suc i)) o
  keeps_rules i l = let s = step i l (passes_from i (omega arith)) in (s.0, s.1, s.2)

  keeps_depth : (i : ℕ) (l : i < length c.operations)
      → KeepsDepth c.sizes (keeps_rules i l).0 (depth_at c.operations i) (depth_at c.operations (suc i))
  keeps_depth i l =
      let k = keeps_rules i l in
      subst (λ (d : ℕ). KeepsDepth c.sizes k.0 (depth_at c.operations i) d) (sym k.2.after) (depth_ok_to_keeps_depth c.sizes k.0 _ k.2.depth_rule)

  depth_within : (i : ℕ) → i ≤ length c.operations → depth_at c.operations i ≤ c.sizes.depth
  unfolding depth_at
  depth_within zero l = omega arith
  depth_within (suc i) l = (keeps_depth i l).within

  pub passes_to_sound : (i : ℕ) → i < length c.operations → (o : Operation) × SoundAt c i o
  passes_to_sound i l =
      let k = keeps_rules i l in
      let d = keeps_depth i l in (
        k.0,
        record {
          stands = k.1;
          names = operand_ok_to_names c.sizes (operand k.0) _ k.2.operand_rule;
          enough = d.enough;
          found = depth_within i (omega arith);
          left = d.within;
          none_before = d.none_before;
          none_after = d.none_after;
          leads = target_ok_to_leads c.operations i _ l (role k.0) k.2.place_rule k.2.last_rule;
        },
      )

-- Place 0 is MARK or HALT.
opens_to_mark_or_halt : (o : Operation) → opens (role o) ≡ true → (o ≡ Mark) ⊎ (o ≡ Halt)
opens_to_mark_or_halt o = at_role (role o) refl
  where
    at_role : (r : Role) → role o ≡ r → opens r ≡ true → (o ≡ Mark) ⊎ (o ≡ Halt)
    at_role End e h = inr (role_to_operation o Halt (ap sole e))
    at_role Step e h = inl (role_to_operation o Mark (ap sole e))
    at_role Label e h = cc
    at_role Goto e h = cc
    at_role Branch e h = cc
    at_role Switch e h = cc
    at_role JumpTable e h = cc
    at_role Straight e h = cc

opens_to_stands : (os : List ℕ) (o : Operation) → operation_at os 0 ≡ Some o → opens (role o) ≡ true
    → (operation_at os 0 ≡ Some Mark) ⊎ (operation_at os 0 ≡ Some Halt)
opens_to_stands os o e h = ⊎_elim (λ q. inl (e ∙ ap Some q)) (λ q. inr (e ∙ ap Some q)) (opens_to_mark_or_halt o h)

pub passes_to_well_formed : (c : Code) → check c ≡ passes → WellFormed c
passes_to_well_formed c ok =
    let sizes = sizes_pass c ok in
    let long : length c.operations ≡ c.sizes.operations = grind (arith, nat_tests) in
    let some : 1 ≤ c.sizes.operations = grind (arith, nat_tests) in
    let first = keeps_rules c ok 0 (omega arith) in
    let test =
    and_parts (opens (role first.0)) (target_ok c.operations 0 (role first.0) (get_or c.operands 0 0)) first.2.place_rule in
    record {
      some_operation = some;
      few_operations = grind (arith, nat_tests);
      few_named = grind (arith, nat_tests);
      few_cells = grind (arith, nat_tests);
      shallow = grind (arith, nat_tests);
      operations_long = long;
      operands_long = grind (arith, nat_tests);
      opens = opens_to_stands c.operations first.0 first.1 test.0;
      sound = λ i l. passes_to_sound c ok i (omega arith);
    }

-- The other way: code that is well formed passes.
module _ (c : Code) (w : WellFormed c) where
  opened_at : (i : ℕ) (o : Operation) → operation_at c.operations i ≡ Some o → i ≡ 0 → opens (role o) ≡ true
  opened_at i o e z = ⊎_elim (λ q. same Mark q refl) (λ q. same Halt q refl) w.opens
    where
      same : (p : Operation) → operation_at c.operations 0 ≡ Some p → opens (role p) ≡ true → opens (role o) ≡ true
      same p q h =
          let there : operation_at c.operations 0 ≡ Some o = ap (operation_at c.operations) (sym z) ∙ e in
          let k : o ≡ p = cc in
          ap (λ o. opens (role o)) k ∙ h

  goes_on_at : (i : ℕ) → i < length c.operations
      → goes_on (depth_at c.operations (suc i)) ≡ ruling_at c i (depth_at c.operations i)
  goes_on_at i l =
      let long = w.operations_long in
      let s = w.sound i (omega arith) in
      let o = s.0 in
      let k = s.1 in
      let after = depth_at_suc c.operations i o k.stands in
      let deep : KeepsDepth c.sizes o (depth_at c.operations i) (depth_after o (depth_at c.operations i)) =
      subst (λ (d : ℕ). KeepsDepth c.sizes o (depth_at c.operations i) d) after (record { enough = k.enough; within = k.left; none_before = k.none_before; none_after = k.none_after }) in
      sym (keeps_rules_to_goes_on c.sizes c.operations i _ (depth_at c.operations i) o
      (names_to_operand_ok c.sizes (operand o) _ k.names)
      (keeps_depth_to_depth_ok c.sizes o _ deep)
      (leads_to_place_ok c.operations i _ l (role o) (opened_at i o k.stands) k.leads)
      (leads_to_last_ok c.operations i _ l (role o) k.leads)
      (operation _) (sym (operation_at_inside c.operations i l) ∙ k.stands) ∙ ap goes_on (sym after))

  passes_to_end : (k i : ℕ) → i + k ≡ length c.operations → check_from c (drop i c.operations) i (depth_at c.operations i) ≡ passes
  passes_to_end zero i e = check_done c i _ (omega arith)
  passes_to_end (suc k) i e =
      let l : i < length c.operations = omega arith in
      check_more c i _ _ l (goes_on_at i l)
      ∙ subst (λ (n : ℕ). check_from c (drop n c.operations) n (depth_at c.operations (suc i)) ≡ passes) (sym (add-one i)) (passes_to_end k (suc i) (omega arith))

  pub well_formed_to_passes : check c ≡ passes
  unfolding depth_at
  well_formed_to_passes =
      let a = w.some_operation in let b = w.few_operations in let d = w.few_named in let e = w.few_cells in
      let f = w.shallow in let g = w.operations_long in let h = w.operands_long in
      let good : sizes_ok c ≡ true = grind (arith, nat_tests) in
      check_good_sizes c good ∙ passes_to_end (length c.operations) 0 (omega arith)

-- What the check answers tells whether the code is well formed.
pub answer_to_well_formed : {X : Type 0} (r : Result X Refusal) (c : Code) → verdict_of r ≡ check c → Decides (is_ok r) (WellFormed c)
answer_to_well_formed (Ok x) c e = (λ _. passes_to_well_formed c (sym e), λ _. refl)
answer_to_well_formed (Err k) c e =
    (λ h. cc, λ w. not_passes (number k) (told_at k) (e ∙ well_formed_to_passes c w))
