-- What a report says of a text, said of the values that hold the text: each is its namesake without `_in`.
use Rattle.std.specs.Prelude.{ℕ, List, ℤ, Option, Result}
use Rattle.parser.specs.declared.node.Node.{Node}
use Rattle.analysis.specs.declared.symbol.NameRecord.{NameRecord}
use Rattle.reports.specs.declared.settings.SettingError.{SettingError}
use Rattle.reports.specs.declared.source.Source.{Source}
use Rattle.reports.specs.declared.symbol_table.SymbolTable.{SymbolTable}
use Rattle.reports.specs.Names.{name_letters, name_shown}
use Rattle.reports.specs.Captions.{node_shown}
use Rattle.reports.specs.Outlines.{outline_of, OutlineLaw}
use Rattle.reports.specs.SymbolLines.{symbol_shown, table_shown}
use Rattle.reports.specs.Settings.{line_named, name_setting}
use Rattle.reports.specs.SettingWords.{word_setting, setting_cell}

-- The letters of the name that a word is.
abbrev pub name_letters_in : Source → ℕ → List ℕ
name_letters_in source w = name_letters source.text.now source.records.now w

-- The text of that name.
abbrev pub name_shown_in : Source → ℕ → List ℕ
name_shown_in source w = name_shown source.text.now source.records.now w

-- A node in a few words.
abbrev pub node_shown_in : Source → Node → List ℕ
node_shown_in source n = node_shown source.text.now source.records.now n

-- The lines of the tree at a node, from a depth on.
abbrev pub outline_in : Source → ℕ → ℕ → List ℕ
outline_in source d i = outline_of source.text.now source.records.now d i

-- The lines of a node are its own and those of its parts.
abbrev pub OutlineLawIn : Source → Type 0
OutlineLawIn source = OutlineLaw source.text.now source.records.now

-- A line of the symbol table in columns.
abbrev pub symbol_shown_in : Source → NameRecord → List ℕ
symbol_shown_in source line = symbol_shown source.text.now source.records.now line

-- The heads of the columns, and the lines of the names.
abbrev pub table_shown_in : SymbolTable → List ℕ
table_shown_in table = table_shown table.source.text.now table.source.records.now table.lines.now

-- The first line of the name with these letters.
abbrev pub line_named_in : SymbolTable → List ℕ → Option NameRecord
line_named_in table name = line_named table.source.text.now table.source.records.now table.lines.now name

-- The cell of the name with these letters.
abbrev pub name_setting_in : SymbolTable → List ℕ → Option ℤ → Result ℕ SettingError
name_setting_in table name k = name_setting table.source.text.now table.source.records.now table.lines.now name k

-- The cell that `NAME` or `NAME[SUBSCRIPT]` names.
abbrev pub word_setting_in : SymbolTable → List ℕ → Result ℕ SettingError
word_setting_in table word = word_setting table.source.text.now table.source.records.now table.lines.now word

-- The cell of a whole setting.
abbrev pub setting_cell_in : SymbolTable → List ℕ → Result ℕ SettingError
setting_cell_in table word = setting_cell table.source.text.now table.source.records.now table.lines.now word
