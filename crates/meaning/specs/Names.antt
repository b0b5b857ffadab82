-- What the statement machine asks of a text's symbol table: how figures are stored under a name, which cells it has, and
-- the labels of a switch. Names are told apart by their letters.
use Rattle.std.specs.Prelude.{ℕ, List, [], ◌∷◌, ℤ}
use Rattle.grammar.specs.Tree.{Program}
use Rattle.symbols.specs.declared.value_type.ValueType.{ValueType}
use Rattle.symbols.specs.Occurrences.{each}
use Rattle.symbols.specs.Symbols.{Kind, a_label, a_switch, an_array, a_variable, cells, low_bound, Symbol, symbols, kind_in, type_in, first_cell}

-- The cells of a name: the first, how many there are, and the subscript of the first.
pub record Extent : Type 0 where
  pub first : ℕ
  pub count : ℕ
  pub low : ℤ

pub record Names : Type 0 where
  pub type : List ℕ → ValueType
  pub extent : List ℕ → Extent
  pub labels : List ℕ → List (List ℕ)

-- The labels of a switch, in order.
abbrev pub labels_of : Kind → List (List ℕ)
labels_of (a_switch ls) = each (λ l. l.letters ∷ []) ls
labels_of a_label = []
labels_of (an_array low high) = []
labels_of a_variable = []

-- The answers of a symbol table.
abbrev pub names_in : List Symbol → Names
names_in table = record {
  type = type_in table;
  extent = λ x. record { first = first_cell table x; count = cells (kind_in table x); low = low_bound (kind_in table x) };
  labels = λ x. labels_of (kind_in table x);
}

abbrev pub names_of : Program → Names
names_of program = names_in (symbols program)
