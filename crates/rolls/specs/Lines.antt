-- Roll files: figures, one a line, each line ended by byte 10. The first line that holds no figure, or has no end,
-- damages the roll from its first byte on. What a line holds is a matter of the kind: for whole figures it is an
-- optional minus sign and 1 to 10 digits with a value within ±2,000,000,000.
use Rattle.std.specs.Prelude.{ℕ, ◌+◌, ◌-◌, ◌*◌, ◌≤◌, Bool, true, cond, not, ◌&&◌, List, [], ◌∷◌, length, ℤ, pos, neg_ℤ, Some, None, Option, ◌==◌, nat_le}
use Rattle.rolls.specs.Contents.{Contents, ends, damaged_at}

-- A file as its lines, each without the byte 10 that ends it, and what stands after the last of these bytes.
pub record File : Type 0 where
  pub lines : List (List ℕ)
  pub unended : List ℕ

-- One more byte in front of a file's first line.
abbrev pub onto_first : ℕ → List (List ℕ) → List ℕ → File
onto_first b [] unended = record { lines = []; unended = b ∷ unended }
onto_first b (line ∷ lines) unended = record { lines = (b ∷ line) ∷ lines; unended = unended }

abbrev pub onto : ℕ → File → File
onto b f = cond (b == 10) (record { lines = [] ∷ f.lines; unended = f.unended }) (onto_first b f.lines f.unended)

abbrev pub file_of : List ℕ → File
file_of [] = record { lines = []; unended = [] }
file_of (b ∷ bytes) = onto b (file_of bytes)

-- Bytes none of which ends a line.
abbrev pub no_end : List ℕ → Bool
no_end [] = true
no_end (b ∷ bytes) = not (b == 10) && no_end bytes

-- The digits are the bytes 48 to 57.
abbrev pub is_digit : ℕ → Bool
is_digit b = nat_le 48 b && nat_le b 57

abbrev pub all_digits : List ℕ → Bool
all_digits [] = true
all_digits (b ∷ bytes) = is_digit b && all_digits bytes

-- The number that digits write after those read so far, which make n.
abbrev pub digits_value : ℕ → List ℕ → ℕ
digits_value n [] = n
digits_value n (b ∷ bytes) = digits_value (10 * n + (b - 48)) bytes

-- 1 to 10 digits with a value of at most 2,000,000,000.
abbrev pub is_magnitude : List ℕ → Bool
is_magnitude ds = all_digits ds && (nat_le 1 (length ds) && (nat_le (length ds) 10 && nat_le (digits_value 0 ds) 2000000000))

abbrev pub magnitude : List ℕ → Option ℕ
magnitude ds = cond (is_magnitude ds) (Some (digits_value 0 ds)) None

-- A number without its sign is within the range.
abbrev pub WithinRange : ℕ → Type 0
WithinRange n = n ≤ 2000000000

-- A number behind its sign.
abbrev pub with_sign : (ℕ → ℤ) → Option ℕ → Option ℤ
with_sign sign (Some n) = Some (sign n)
with_sign sign None = None

-- What a line holds whose bytes without the sign write a number; byte 45 is the minus sign.
abbrev pub signed_line : (List ℕ → Option ℕ) → List ℕ → Option ℤ
signed_line writes [] = None
signed_line writes (b ∷ bytes) =
    cond (b == 45) (with_sign (λ n. neg_ℤ (pos n)) (writes bytes)) (with_sign pos (writes (b ∷ bytes)))

-- The whole figure that a line holds.
abbrev pub line_figure : List ℕ → Option ℤ
line_figure = signed_line magnitude

-- A line's figure goes before what the later lines hold; a line without one is damage.
abbrev pub before : ℕ → Option ℤ → Contents ℤ → Contents ℤ
before place (Some z) later = record { figures = z ∷ later.figures; ending = later.ending }
before place None later = record { figures = []; ending = damaged_at place }

-- After the last line nothing may stand.
abbrev pub read_unended : ℕ → List ℕ → Contents ℤ
read_unended place [] = record { figures = []; ending = ends }
read_unended place (b ∷ bytes) = record { figures = []; ending = damaged_at place }

module _ (figure : List ℕ → Option ℤ) where
  -- What lines hold, the first of which begins at a place, where `figure` says what one line holds.
  abbrev pub read_lines : ℕ → List (List ℕ) → List ℕ → Contents ℤ
  read_lines place [] unended = read_unended place unended
  read_lines place (line ∷ lines) unended =
      before place (figure line) (read_lines (place + length line + 1) lines unended)

  -- What the bytes from a place on hold.
  abbrev pub read_as : ℕ → List ℕ → Contents ℤ
  read_as place bytes = read_lines place (file_of bytes).lines (file_of bytes).unended

-- What the bytes from a place on hold in whole figures.
abbrev pub read_from : ℕ → List ℕ → Contents ℤ
read_from = read_as line_figure
