-- The line that is found for a name gives its cell.
use Rattle.std.proofs.Common.{◌≡◌, ℕ, Bool, true, false, cond, List, [], ◌∷◌, ℤ, None, Some, Ok, Err, Option, Result, refl, ap, sym, ◌∙◌}
use Rattle.std.specs.Option.{ok_or}
use Rattle.std.specs.Str.{bytes_eq}
use Rattle.parser.specs.declared.table.Record.{Record}
use Rattle.analysis.specs.declared.symbol.NameRecord.{NameRecord}
use Rattle.reports.specs.declared.settings.SettingError.{SettingError}
use Rattle.reports.specs.declared.settings.SettingError.TheVariants.{NoSuchName}
use Rattle.reports.specs.Names.{name_letters}
use Rattle.reports.specs.Settings.{line_named, line_setting, name_setting}

-- The cell of a line that may be there.
abbrev pub cell_at : Option NameRecord → Option ℤ → Result ℕ SettingError
cell_at None k = Err NoSuchName
cell_at (Some r) k = line_setting r k

-- A choice of the line is a choice of its cell.
cell_by : (b : Bool) (r : NameRecord) (o : Option NameRecord) (k : Option ℤ) → cond b (line_setting r k) (cell_at o k) ≡ cell_at (cond b (Some r) o) k
cell_by true r o k = refl
cell_by false r o k = refl

-- The first line with the letters gives what all the lines give.
pub by_line : (text : List ℕ) (rs : List Record) (lines : List NameRecord) (x : List ℕ) (k : Option ℤ) → name_setting text rs lines x k ≡ cell_at (line_named text rs lines x) k
by_line text rs [] x k = refl
by_line text rs (r ∷ lines) x k =
    ap (λ (o : Result ℕ SettingError). cond (bytes_eq (name_letters text rs r.word) x) (line_setting r k) o) (by_line text rs lines x k)
    ∙ cell_by (bytes_eq (name_letters text rs r.word) x) r (line_named text rs lines x) k

pub line_gives : (text : List ℕ) (rs : List Record) (lines : List NameRecord) (x : List ℕ) (k : Option ℤ) (o : Option NameRecord) → o ≡ line_named text rs lines x → cell_at o k ≡ name_setting text rs lines x k
line_gives text rs lines x k o e = ap (λ (l : Option NameRecord). cell_at l k) e ∙ sym (by_line text rs lines x k)

-- The same of a line that is read by `?`.
pub no_line : (text : List ℕ) (rs : List Record) (lines : List NameRecord) (x : List ℕ) (k : Option ℤ) (o : Option NameRecord) (e : SettingError)
    → o ≡ line_named text rs lines x → Err e ≡ ok_or o NoSuchName → Err e ≡ name_setting text rs lines x k
no_line text rs lines x k None e h g = let t : cell_at None k ≡ name_setting text rs lines x k = line_gives text rs lines x k None h in let q : e ≡ NoSuchName = cc in ap (λ (y : SettingError). Err y) q ∙ t
no_line text rs lines x k (Some r) e h g = cc

pub a_line : (text : List ℕ) (rs : List Record) (lines : List NameRecord) (x : List ℕ) (k : Option ℤ) (o : Option NameRecord) (r : NameRecord)
    → o ≡ line_named text rs lines x → Ok r ≡ ok_or o NoSuchName → line_setting r k ≡ name_setting text rs lines x k
a_line text rs lines x k None r h g = cc
a_line text rs lines x k (Some s) r h g = let t : cell_at (Some s) k ≡ name_setting text rs lines x k = line_gives text rs lines x k (Some s) h in let q : r ≡ s = cc in ap (λ (y : NameRecord). line_setting y k) q ∙ t
