-- Which cell a setting names: a simple variable by its name alone, an array's element by the name and a subscript within
-- the bounds. Letters stand for the first line that has them.
use Rattle.std.specs.Prelude.{ℕ, ◌+◌, ◌-◌, ◌^◌, min, cond, ◌&&◌, List, [], ◌∷◌, ℤ, ◌-ℤ◌, Some, None, Ok, Err, codes, Option, Result, int_le}
use Rattle.std.specs.List.{find}
use Rattle.std.specs.Str.{bytes_eq}
use Rattle.parser.specs.declared.table.Record.{Record}
use Rattle.parser.specs.Records.{bound_in}
use Rattle.symbols.specs.Symbols.{bound_value, at_least_zero}
use Rattle.analysis.specs.declared.symbol.NameKind.{NameKind}
use Rattle.analysis.specs.declared.symbol.NameKind.TheVariants.{Label, Switch, Array, Variable}
use Rattle.analysis.specs.declared.symbol.NameRecord.{NameRecord}
use Rattle.reports.specs.declared.settings.SettingError.{SettingError}
use Rattle.reports.specs.declared.settings.SettingError.TheVariants.{NoFigure, NoSuchName, NoCells, NoSubscript, NoArray, BadSubscript, Outside}
use Rattle.reports.specs.Names.{name_letters}

-- The element's cell, counted from the array's first. No text has so many cells that the sum passes 64 bits.
abbrev pub element_cell : ℕ → ℤ → ℤ → ℕ
element_cell c low k = min (c + at_least_zero (k -ℤ low)) (2 ^ 64 - 1)

abbrev pub variable_setting : ℕ → Option ℤ → Result ℕ SettingError
variable_setting c None = Ok c
variable_setting c (Some k) = Err NoArray

abbrev pub array_setting : ℕ → ℤ → ℤ → Option ℤ → Result ℕ SettingError
array_setting c low high None = Err NoSubscript
array_setting c low high (Some k) = cond (int_le low k && int_le k high) (Ok (element_cell c low k)) (Err Outside)

abbrev pub kind_setting : ℕ → NameKind → Option ℤ → Result ℕ SettingError
kind_setting c Label k = Err NoCells
kind_setting c (Switch i) k = Err NoCells
kind_setting c (Array l h) k = array_setting c (bound_value (bound_in l)) (bound_value (bound_in h)) k
kind_setting c Variable k = variable_setting c k

abbrev pub line_setting : NameRecord → Option ℤ → Result ℕ SettingError
line_setting r k = kind_setting r.first r.kind k

-- The first line of the name with these letters.
abbrev pub line_named : List ℕ → List Record → List NameRecord → List ℕ → Option NameRecord
line_named text rs lines x = find (λ (r : NameRecord). bytes_eq (name_letters text rs r.word) x) lines

-- By the letters of the name.
abbrev pub name_setting : List ℕ → List Record → List NameRecord → List ℕ → Option ℤ → Result ℕ SettingError
name_setting text rs [] x k = Err NoSuchName
name_setting text rs (r ∷ lines) x k = cond (bytes_eq (name_letters text rs r.word) x) (line_setting r k) (name_setting text rs lines x k)

-- What is wrong, as a person reads it.
abbrev pub setting_error : SettingError → List ℕ
setting_error NoFigure = codes "a setting is NAME=FIGURE or NAME[SUBSCRIPT]=FIGURE"
setting_error NoSuchName = codes "the text has no such name"
setting_error NoCells = codes "a label or a switch has no cell"
setting_error NoSubscript = codes "an array wants a subscript"
setting_error NoArray = codes "a variable has no subscript"
setting_error BadSubscript = codes "a subscript is a whole number"
setting_error Outside = codes "the subscript lies outside the bounds"
