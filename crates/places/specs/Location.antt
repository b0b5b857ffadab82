-- Lines and columns. A line ends before its byte 10; lines and columns count from 1.
use Rattle.std.specs.Prelude.{ℕ, ◌+◌, ◌-◌, min, cond, List, [], ◌∷◌, length, take, drop, ◌==◌}
use Rattle.places.specs.declared.Location.{Location}

-- How many lines some bytes end.
abbrev pub line_ends : List ℕ → ℕ
line_ends [] = 0
line_ends (b ∷ bytes) = cond (b == 10) 1 0 + line_ends bytes

-- Where the last of some bytes' lines begins: after the last byte 10; `at` is the place of the first byte.
abbrev pub last_start : ℕ → ℕ → List ℕ → ℕ
last_start start at [] = start
last_start start at (b ∷ bytes) = last_start (cond (b == 10) (at + 1) start) (at + 1) bytes

-- How many bytes come before the first byte 10.
abbrev pub to_line_end : List ℕ → ℕ
to_line_end [] = 0
to_line_end (b ∷ bytes) = cond (b == 10) 0 (1 + to_line_end bytes)

abbrev pub location_at : List ℕ → ℕ → Location
location_at text place = record {
  line = 1 + line_ends (take place text);
  column = place - last_start 0 0 (take place text) + 1;
  start = last_start 0 0 (take place text);
  end = place + to_line_end (drop place text);
}

-- A place past the text counts as the text's end.
abbrev pub location : List ℕ → ℕ → Location
location text place = location_at text (min place (length text))
