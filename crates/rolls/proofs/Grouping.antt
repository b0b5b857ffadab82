-- The groups of a list, taken one at a time, and what the leaver filter lets through of the first.
use Rattle.std.proofs.Common.{◌≡◌, ℕ, zero, suc, ◌+◌, ◌-◌, ◌<◌, ◌≤◌, Bool, true, false, List, [], ◌∷◌, ◌++◌, length, take, drop, sym, refl, ap, ◌∙◌, le_refl, arith, length-drop, length-take}
use Rattle.std.proofs.lemmas.List.{drop-drop, take-append-drop}
use Rattle.std.proofs.lemmas.Bool.{cond-false, cond-true}
use Rattle.rolls.specs.Contents.{Contents, first, rest, rest_of, took}
use Rattle.rolls.proofs.Taking.{took_first}
use Rattle.rolls.specs.Groups.{Keeps, Parted, all_groups, filtered, full_group, groups, groups_up_to, last_group, no_groups, past, stayers}

module _ {F : Type 0} where
  rest_of_is_drop : (xs : List F) → rest_of xs ≡ drop 1 xs
  rest_of_is_drop [] = refl
  rest_of_is_drop (x ∷ xs) = refl

  -- Taking one figure more passes over one more.
  pub past_more : (n : ℕ) (c : Contents F) → rest (past n c) ≡ past (n + 1) c
  past_more n c =
      ap (λ xs. record { figures = xs; ending = c.ending }) (rest_of_is_drop (drop n c.figures) ∙ drop-drop 1 n c.figures)

  -- As many groups as there are figures, or more, are all groups.
  groups_enough : (g m n : ℕ) (xs : List F) → length xs ≤ m → length xs ≤ n → groups_up_to m (suc g) xs ≡ groups_up_to n (suc g) xs
  groups_enough g m n [] hm hn = refl
  groups_enough g zero n (x ∷ xs) hm hn = absurd (omega arith)
  groups_enough g (suc m) zero (x ∷ xs) hm hn = absurd (omega arith)
  groups_enough g (suc m) (suc n) (x ∷ xs) hm hn =
      let shorter = length-drop g xs in
      ap (λ gs. (x ∷ take g xs) ∷ gs) (groups_enough g m n (drop g xs) (omega arith) (omega arith))

  -- The first group of a list, and the groups of the rest.
  pub groups_first : (g : ℕ) (x : F) (xs : List F) → groups (suc g) (x ∷ xs) ≡ (x ∷ take g xs) ∷ groups (suc g) (drop g xs)
  groups_first g x xs =
      let shorter = length-drop g xs in
      ap (λ gs. (x ∷ take g xs) ∷ gs) (groups_enough g (length xs) (length (drop g xs)) (drop g xs) (omega arith) (omega arith))

  module _ (is_zero : F → Bool) (g : ℕ) where
    -- A group that is kept: its first figure comes, and the filter goes on inside the group.
    pub stayers_kept : (x : F) (xs : List F) → is_zero x ≡ false → stayers is_zero (groups (suc g) (x ∷ xs)) ≡ x ∷ (take g xs ++ stayers is_zero (groups (suc g) (drop g xs)))
    stayers_kept x xs stays =
        ap (stayers is_zero) (groups_first g x xs)
        ∙ ap (λ ys. ys ++ stayers is_zero (groups (suc g) (drop g xs))) (cond-false (is_zero x) [] (x ∷ take g xs) stays)

    -- A group that is dropped: the filter goes on behind it.
    pub stayers_dropped : (x : F) (xs : List F) → is_zero x ≡ true → stayers is_zero (groups (suc g) (x ∷ xs)) ≡ stayers is_zero (groups (suc g) (drop g xs))
    stayers_dropped x xs left =
        ap (stayers is_zero) (groups_first g x xs)
        ∙ ap (λ ys. ys ++ stayers is_zero (groups (suc g) (drop g xs))) (cond-true (is_zero x) [] (x ∷ take g xs) left)

  -- The filter at the start of a group, over a roll that hands over x.
  module _ (is_zero : F → Bool) (g : ℕ) (c : Contents F) (x : F) (given : took x ≡ first c) where
    abbrev later : List F
    later = rest_of c.figures

    kept_figures : is_zero x ≡ false → stayers is_zero (groups (suc g) c.figures) ≡ x ∷ (take g later ++ stayers is_zero (groups (suc g) (drop g later)))
    kept_figures stays =
        ap (λ xs. stayers is_zero (groups (suc g) xs)) (took_first c x given) ∙ stayers_kept is_zero g x later stays

    pub kept_after : is_zero x ≡ false → filtered is_zero (suc g) g (rest c) ≡ rest (filtered is_zero (suc g) 0 c)
    kept_after stays = sym (ap (λ xs. record { figures = rest_of xs; ending = c.ending }) (kept_figures stays))

    pub dropped_after : is_zero x ≡ true → filtered is_zero (suc g) 0 (past g (rest c)) ≡ filtered is_zero (suc g) 0 c
    dropped_after gone =
        sym (ap (λ xs. record { figures = xs; ending = c.ending })
        (ap (λ xs. stayers is_zero (groups (suc g) xs)) (took_first c x given) ∙ stayers_dropped is_zero g x later gone))

  -- The filter inside a group goes on as the roll does.
  module _ (is_zero : F → Bool) (group : ℕ) where
    pub inside_rest : (left : ℕ) (c : Contents F) → 0 < left → filtered is_zero group (left - 1) (rest c) ≡ rest (filtered is_zero group left c)
    inside_rest zero c some = absurd (omega arith)
    inside_rest (suc left) c some =
        let one_less : suc left - 1 ≡ left = omega arith in
        ap (λ k. filtered is_zero group k (rest c)) one_less ∙ ap (λ xs. record { figures = xs; ending = c.ending }) (by_list c.figures)
      where
        by_list : (xs : List F) → take left (rest_of xs) ++ stayers is_zero (groups group (drop left (rest_of xs))) ≡ rest_of (take (suc left) xs ++ stayers is_zero (groups group (drop (suc left) xs)))
        by_list [] = none left
          where
            none : (k : ℕ) → take k [] ++ stayers is_zero (groups group (drop k [])) ≡ []
            none zero = refl
            none (suc k) = refl
        by_list (x ∷ xs) = refl

  -- The groups of a list are the list.
  groups_are_all : (most g : ℕ) (xs : List F) → length xs ≤ most → all_groups (groups_up_to most (suc g) xs) ≡ xs
  groups_are_all most g [] short = refl
  groups_are_all zero g (x ∷ xs) short = absurd (omega arith)
  groups_are_all (suc most) g (x ∷ xs) short =
      let shorter = length-drop g xs in
      ap (λ ys. (x ∷ take g xs) ++ ys) (groups_are_all most g (drop g xs) (omega arith))
      ∙ ap (λ ys. x ∷ ys) (take-append-drop g xs)

  -- Each group is full but for the last.
  groups_parted : (most g : ℕ) (xs : List F) → length xs ≤ most → Parted (suc g) (groups_up_to most (suc g) xs)
  groups_parted most g [] short = no_groups
  groups_parted zero g (x ∷ xs) short = absurd (omega arith)
  groups_parted (suc most) g (x ∷ xs) short =
      let shorter = length-drop g xs in
      by_rest most (drop g xs) refl (groups_parted most g (drop g xs) (omega arith))
    where
      by_rest : (most : ℕ) (rest : List F) → drop g xs ≡ rest → Parted (suc g) (groups_up_to most (suc g) rest) → Parted (suc g) ((x ∷ take g xs) ∷ groups_up_to most (suc g) rest)
      by_rest most [] e later =
          let size = length-take g xs in
          last_group (omega arith) (omega arith)
      by_rest zero (y ∷ ys) e later =
          let size = length-take g xs in
          last_group (omega arith) (omega arith)
      by_rest (suc most) (y ∷ ys) e later =
          let size = length-take g xs in
          let left = length-drop g xs in
          let some = ap length e in
          full_group (omega arith) later

  -- What the filter lets through, in the words of its rule.
  pub keeps_stayers : (is_zero : F → Bool) (g : ℕ) → 1 ≤ g → (xs : List F) → Keeps is_zero g xs (stayers is_zero (groups g xs))
  keeps_stayers is_zero zero some xs = absurd (omega arith)
  keeps_stayers is_zero (suc g) some xs =
      record {
        parts = groups (suc g) xs;
        are_all = groups_are_all (length xs) g xs (le_refl (length xs));
        sizes = groups_parted (length xs) g xs (le_refl (length xs));
        stay = refl;
      }
