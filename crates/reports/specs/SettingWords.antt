-- What the word of a setting says, by its bytes: the name of a cell, `=`, and the figure's words. 61 is `=`, 91 is `[`
-- and 93 is `]`.
use Rattle.std.specs.Prelude.{ℕ, ◌-◌, ◌^◌, Bool, cond, ◌&&◌, List, length, take, ◌==◌, nat_lt, ℤ, pos, negsuc, Some, None, Err, Option, Result}
use Rattle.std.specs.List.{position_or_len, before_first, after_first}
use Rattle.std.specs.Str.{all_ascii_digits}
use Rattle.std.specs.Str.Parse.{without_leading_sign, signed_digits_value}
use Rattle.std.specs.Io.BufRead.{ends_with_byte}
use Rattle.parser.specs.declared.table.Record.{Record}
use Rattle.analysis.specs.declared.symbol.NameRecord.{NameRecord}
use Rattle.reports.specs.declared.settings.SettingError.{SettingError}
use Rattle.reports.specs.declared.settings.SettingError.TheVariants.{NoFigure, BadSubscript}
use Rattle.reports.specs.Settings.{name_setting}

-- Is the byte c one of these?
abbrev pub has_byte : ℕ → List ℕ → Bool
has_byte c bs = nat_lt (position_or_len (λ b. b == c) bs) (length bs)

-- The bytes before the first byte c, and those behind it.
abbrev pub before_byte : ℕ → List ℕ → List ℕ
before_byte c bs = before_first (λ b. b == c) bs

abbrev pub after_byte : ℕ → List ℕ → List ℕ
after_byte c bs = after_first (λ b. b == c) bs

-- Do 64 bits hold the number with its sign?
abbrev pub is_in_64_bits : ℤ → Bool
is_in_64_bits (pos n) = nat_lt n (2 ^ 63)
is_in_64_bits (negsuc n) = nat_lt n (2 ^ 63)

-- One digit or more, with a sign before them or none.
abbrev pub is_numeral : List ℕ → Bool
is_numeral bs = nat_lt 0 (length (without_leading_sign bs)) && all_ascii_digits (without_leading_sign bs)

abbrev pub whole_number : List ℕ → Option ℤ
whole_number bs = cond (is_numeral bs && is_in_64_bits (signed_digits_value 10 bs)) (Some (signed_digits_value 10 bs)) None

-- What stands behind a bracket: a whole number and the bracket that closes.
abbrev pub subscript_of : List ℕ → Option ℤ
subscript_of bs = cond (ends_with_byte 93 bs) (whole_number (take (length bs - 1) bs)) None

-- The cell of a name with a subscript, of which None says that it is no whole number.
abbrev pub element_setting : List ℕ → List Record → List NameRecord → List ℕ → Option ℤ → Result ℕ SettingError
element_setting text rs lines name None = Err BadSubscript
element_setting text rs lines name (Some k) = name_setting text rs lines name (Some k)

-- The cell that `NAME` or `NAME[SUBSCRIPT]` names.
abbrev pub word_setting : List ℕ → List Record → List NameRecord → List ℕ → Result ℕ SettingError
word_setting text rs lines w = cond (has_byte 91 w) (element_setting text rs lines (before_byte 91 w) (subscript_of (after_byte 91 w))) (name_setting text rs lines w None)

-- The cell of a whole setting.
abbrev pub setting_cell : List ℕ → List Record → List NameRecord → List ℕ → Result ℕ SettingError
setting_cell text rs lines w = cond (has_byte 61 w) (word_setting text rs lines (before_byte 61 w)) (Err NoFigure)

-- The figure's words of a setting.
abbrev pub setting_figure : List ℕ → List ℕ
setting_figure w = after_byte 61 w
