-- The leaver filter: the roll is parted into groups of g figures, the last perhaps shorter; a group whose first figure
-- is zero stands for someone who has left, and is dropped whole. The other groups are kept, in order.
use Rattle.std.specs.Prelude.{◌≡◌, ℕ, zero, suc, ◌≤◌, Bool, cond, List, [], ◌∷◌, ◌++◌, length, take, drop}
use Rattle.rolls.specs.Contents.{Contents}

module _ {F : Type 0} where
  -- At most so many groups of g; for g from 1 on, as many as there are figures suffice.
  abbrev pub groups_up_to : ℕ → ℕ → List F → List (List F)
  groups_up_to most g [] = []
  groups_up_to zero g (x ∷ xs) = []
  groups_up_to (suc most) g (x ∷ xs) = take g (x ∷ xs) ∷ groups_up_to most g (drop g (x ∷ xs))

  abbrev pub groups : ℕ → List F → List (List F)
  groups g xs = groups_up_to (length xs) g xs

  -- A group that is kept, or nothing of one whose first figure is zero.
  abbrev pub unless_left : (F → Bool) → List F → List F
  unless_left is_zero [] = []
  unless_left is_zero (x ∷ xs) = cond (is_zero x) [] (x ∷ xs)

  abbrev pub stayers : (F → Bool) → List (List F) → List F
  stayers is_zero [] = []
  stayers is_zero (group ∷ groups) = unless_left is_zero group ++ stayers is_zero groups

  -- What the filter lets through of a roll: the groups that are kept, and the roll's own ending.
  abbrev pub kept : (F → Bool) → ℕ → Contents F → Contents F
  kept is_zero g c = record { figures = stayers is_zero (groups g c.figures); ending = c.ending }

  -- What a filter lets through that has still to hand over `left` figures of a group it keeps.
  abbrev pub filtered : (F → Bool) → ℕ → ℕ → Contents F → Contents F
  filtered is_zero g left c = record {
    figures = take left c.figures ++ stayers is_zero (groups g (drop left c.figures));
    ending = c.ending;
  }

-- Groups in order: each has g figures, and only the last may have fewer, but not none.
pub data Parted {F : Type 0} (g : ℕ) : List (List F) → Type 0 where
  no_groups : Parted g []
  last_group : {group : List F} → 1 ≤ length group → length group ≤ g → Parted g (group ∷ [])
  full_group : {group next : List F} {groups : List (List F)} → length group ≡ g → Parted g (next ∷ groups) → Parted g (group ∷ (next ∷ groups))

abbrev pub all_groups : {F : Type 0} → List (List F) → List F
all_groups [] = []
all_groups (group ∷ groups) = group ++ all_groups groups

-- What the filter lets through is exactly the groups whose first figure is not zero, in order.
pub record Keeps {F : Type 0} (is_zero : F → Bool) (g : ℕ) (all through : List F) : Type 0 where
  pub parts : List (List F)
  pub are_all : all_groups parts ≡ all
  pub sizes : Parted g parts
  pub stay : through ≡ stayers is_zero parts

-- What a roll holds once so many figures have been taken from it.
abbrev pub past : {F : Type 0} → ℕ → Contents F → Contents F
past n c = record { figures = drop n c.figures; ending = c.ending }

-- Group sizes go from 1 to 64.
abbrev pub IsGroupSize : ℕ → Type 0
IsGroupSize g = (1 ≤ g) × (g ≤ 64)

-- What a filter that is made over a roll holds.
pub record MadeOver {F : Type 0} (is_zero : F → Bool) (g : ℕ) (roll filter : Contents F) : Type 0 where
  pub size : IsGroupSize g
  pub holds : filter ≡ kept is_zero g roll
  pub keeps : Keeps is_zero g roll.figures filter.figures
