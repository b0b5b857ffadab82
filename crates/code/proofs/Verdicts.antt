-- The verdict on a code, step by step: what the check of the operations from a place on comes to.
use Rattle.std.proofs.Common.{◌≡◌, ℕ, ◌+◌, ◌<◌, ◌≤◌, true, false, ◌&&◌, eqb, leb, List, length, get_or, take, drop, Some, None, sym, ap, ◌∙◌, ap₂, arith}
use Rattle.std.proofs.lemmas.Bool.Decides.{nat_tests}
use Rattle.std.proofs.lemmas.List.{at_drop_more, at_drop_all, length-take}
use Rattle.code.specs.declared.sizes.Sizes.{Sizes}
use Rattle.code.specs.Operations.{operation}
use Rattle.code.specs.Codes.{Code, code_of}
use Rattle.code.specs.Check.{Ruling, goes_on, breaks, passes, refused, ruling, check, check_from, limits_ok, lent_ok, sizes_ok}

-- What the check says of the operation at a place that finds d figures.
abbrev pub ruling_at : Code → ℕ → ℕ → Ruling
ruling_at c i d = ruling c.sizes c.operations i (get_or c.operands i 0) d (operation (get_or c.operations i 0))

module _ (c : Code) (i d : ℕ) where
  -- An operation that keeps the rules hands the check on to the next.
  pub check_more : (e : ℕ) → i < length c.operations → goes_on e ≡ ruling_at c i d
      → check_from c (drop i c.operations) i d ≡ check_from c (drop (i + 1) c.operations) (i + 1) e
  check_more e l r = at_drop_more (λ os. check_from c os i d) c.operations i 0 l ∙ rw (← r, check_from)

  -- One that breaks a rule decides.
  pub check_stop : (k : ℕ) → i < length c.operations → breaks k ≡ ruling_at c i d
      → check_from c (drop i c.operations) i d ≡ refused k (Some i)
  check_stop k l r = at_drop_more (λ os. check_from c os i d) c.operations i 0 l ∙ rw (← r, check_from)

  -- Past the last operation nothing is left to break.
  pub check_done : length c.operations ≤ i → check_from c (drop i c.operations) i d ≡ passes
  check_done l = at_drop_all (λ os. check_from c os i d) c.operations i l

-- The sizes decide first.
module _ (c : Code) where
  pub check_bad_sizes : sizes_ok c ≡ false → check c ≡ refused 21 None
  unfolding check
  check_bad_sizes e = rw e

  pub check_good_sizes : sizes_ok c ≡ true → check c ≡ check_from c c.operations 0 0
  unfolding check
  check_good_sizes e = rw e

-- Lent arrays have entries enough just where their first n entries are n.
module _ (s : Sizes) (os xs : List ℕ) where
  cut_length : (ys : List ℕ) → eqb (length (take s.operations ys)) s.operations ≡ leb s.operations (length ys)
  cut_length ys = rw (length-take s.operations ys) (grind (arith, nat_tests))

  pub sizes_ok_cut : sizes_ok (code_of s os xs) ≡ lent_ok s (length os) (length xs)
  sizes_ok_cut = ap₂ (λ a b. limits_ok s && (a && b)) (cut_length os) (cut_length xs)

-- The check of the code that lent arrays hold is that of its operations.
module _ (s : Sizes) (os xs : List ℕ) where
  pub check_cut : (c : Code) → c ≡ code_of s os xs → lent_ok s (length os) (length xs) ≡ true → check_from c c.operations 0 0 ≡ check (code_of s os xs)
  check_cut c e good =
      ap (λ (c : Code). check_from c c.operations 0 0) e ∙ sym (check_good_sizes (code_of s os xs) (sizes_ok_cut s os xs ∙ good))
