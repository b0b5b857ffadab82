-- The part of a line that a report shows: all of a line of at most 72 bytes, else 72 bytes of it, with the place that is
-- told in the middle, as far as the line's ends allow.
use Rattle.std.specs.Prelude.{ℕ, ◌+◌, ◌-◌, ◌≤◌, min}
use Rattle.reports.specs.declared.excerpt.Window.{Window}

-- Where it begins, in a line from `start` up to `end`. A difference below 0 counts as 0.
abbrev pub window_start : ℕ → ℕ → ℕ → ℕ
window_start start end place = start + min (place - start - 36) (end - start - 72)

abbrev pub window_of : ℕ → ℕ → ℕ → Window
window_of start end place = record { from = window_start start end place; to = min end (window_start start end place + 72) }

-- It is a part of the line, has at most 72 bytes, and the place is one of them or follows the last.
pub record WindowLaw (start end place : ℕ) (w : Window) : Type 0 where
  pub begins_in_line : start ≤ w.from
  pub ends_in_line : w.to ≤ end
  pub is_short : w.to ≤ w.from + 72
  pub place_not_before : w.from ≤ place
  pub place_not_after : place ≤ w.to
