-- Worked cases of the roll files and the leaver filter, each by computation from the definitions.
use Rattle.std.specs.Prelude.{◌≡◌, ℕ, List, [], ◌∷◌, map, ℤ, pos, negsuc, codes}
use Rattle.figures.specs.Kinds.{stands_for_zero}
use Rattle.figures.specs.Whole.{whole, whole_value}
use Rattle.figures.specs.declared.whole.Whole.{Whole}
use Rattle.rolls.specs.Amounts.{read_amounts}
use Rattle.rolls.specs.Contents.{Contents, all_of, damaged_at}
use Rattle.rolls.specs.Groups.{kept}
use Rattle.rolls.specs.Lines.{read_from}
use Rattle.rolls.specs.Text.{whole_figure}

-- Whole figures that are all there.
abbrev pub figures_of : List ℤ → Contents Whole
figures_of zs = all_of (map whole_figure zs)

-- What a filter with this group size keeps of whole figures.
abbrev pub kept_of : ℕ → List ℤ → Contents Whole
kept_of g zs = kept (stands_for_zero whole whole_value) g (figures_of zs)

-- Figures up to damage at a place.
abbrev pub damaged_after : List ℤ → ℕ → Contents ℤ
damaged_after zs place = record { figures = zs; ending = damaged_at place }

pub record WorkedCases : Type 0 where
  -- a filter of 2 over 1, 10, 0, 20, 1, 30, 0
  pub leavers_dropped : kept_of 2 (pos 1 ∷ pos 10 ∷ pos 0 ∷ pos 20 ∷ pos 1 ∷ pos 30 ∷ pos 0 ∷ []) ≡ figures_of (pos 1 ∷ pos 10 ∷ pos 1 ∷ pos 30 ∷ [])
  -- the last group may be shorter, and stays if its first figure is not zero
  pub short_group_stays : kept_of 3 (pos 0 ∷ pos 1 ∷ pos 2 ∷ pos 3 ∷ pos 0 ∷ []) ≡ figures_of (pos 3 ∷ pos 0 ∷ [])
  pub groups_of_one : kept_of 1 (pos 0 ∷ pos 7 ∷ pos 0 ∷ negsuc 0 ∷ []) ≡ figures_of (pos 7 ∷ negsuc 0 ∷ [])
  pub empty_file : read_from 0 [] ≡ all_of []
  pub zeros_and_signs : read_from 0 (codes "-0\n007\n-12\n") ≡ all_of (pos 0 ∷ pos 7 ∷ negsuc 11 ∷ [])
  pub largest : read_from 0 (codes "2000000000\n-2000000000\n") ≡ all_of (pos 2000000000 ∷ negsuc 1999999999 ∷ [])
  pub over_the_range : read_from 0 (codes "5\n2000000001\n6\n") ≡ damaged_after (pos 5 ∷ []) 2
  pub eleven_digits : read_from 0 (codes "00000000001\n") ≡ damaged_after [] 0
  pub ten_digits : read_from 0 (codes "0000000001\n") ≡ all_of (pos 1 ∷ [])
  pub empty_line : read_from 0 (codes "1\n\n2\n") ≡ damaged_after (pos 1 ∷ []) 2
  pub minus_alone : read_from 0 (codes "-\n") ≡ damaged_after [] 0
  pub plus_sign : read_from 0 (codes "+1\n") ≡ damaged_after [] 0
  pub blank : read_from 0 (codes "10\n1 \n") ≡ damaged_after (pos 10 ∷ []) 3
  pub carriage_return : read_from 0 (49 ∷ 13 ∷ 10 ∷ []) ≡ damaged_after [] 0
  pub no_line_end : read_from 0 (codes "1\n2") ≡ damaged_after (pos 1 ∷ []) 2
  -- amounts
  pub no_amounts : read_amounts 0 [] ≡ all_of []
  pub amounts : read_amounts 0 (codes "12.34\n-0.05\n7\n") ≡ all_of (pos 1234 ∷ negsuc 4 ∷ pos 700 ∷ [])
  pub amount_zeros : read_amounts 0 (codes "-0\n-0.00\n007.50\n") ≡ all_of (pos 0 ∷ pos 0 ∷ pos 750 ∷ [])
  pub largest_amount : read_amounts 0 (codes "20000000.00\n-20000000\n") ≡ all_of (pos 2000000000 ∷ negsuc 1999999999 ∷ [])
  pub amount_over_the_range : read_amounts 0 (codes "7\n20000000.01\n") ≡ damaged_after (pos 700 ∷ []) 2
  pub one_place : read_amounts 0 (codes "1.5\n") ≡ damaged_after [] 0
  pub three_places : read_amounts 0 (codes "1.500\n") ≡ damaged_after [] 0
  pub no_place : read_amounts 0 (codes "1.\n") ≡ damaged_after [] 0
  pub no_units : read_amounts 0 (codes ".50\n") ≡ damaged_after [] 0
  pub sign_in_the_places : read_amounts 0 (codes "1.-5\n") ≡ damaged_after [] 0
  pub ten_digits_of_units : read_amounts 0 (codes "0000000001.00\n") ≡ all_of (pos 100 ∷ [])
  pub eleven_digits_of_units : read_amounts 0 (codes "00000000001.00\n") ≡ damaged_after [] 0
  pub amount_no_line_end : read_amounts 0 (codes "1.00\n2.00") ≡ damaged_after (pos 100 ∷ []) 5
