-- The translation of a tree: the code of its statements, a HALT, then a table of rows for each switch, which all go tos to
-- that switch share; and the sizes of that code. It is defined for every tree, and means something for accepted ones.
use Rattle.std.specs.Prelude.{ℕ, suc, ◌+◌, max, cond, List, [], ◌∷◌, map, length, Some, None, Option}
use Rattle.std.specs.Str.{bytes_eq}
use Rattle.grammar.specs.Tree.{Exp, Variable, whole, indexed, Element, single, progression, Statement, labelled, conditional, repeated, assigned, go, switched, input, printed, stop, sequence, Program}
use Rattle.symbols.specs.Symbols.{Symbol, symbols, named_cells}
use Rattle.meaning.specs.Names.{Names, names_in, labels_of}
use Rattle.meaning.specs.Positions.{statements}
use Rattle.code.specs.declared.operations.Operation.TheVariants.{Halt, Jump, Rows}
use Rattle.code.specs.declared.sizes.Sizes.{Sizes}
use Rattle.code.specs.Operations.{number}
use Rattle.code.specs.Codes.{Code}
use Rattle.translator.specs.Generator.{Entry, entry, plain, exp_depth, all_of, size, loops, label_place, code}

-- The most figures that lie on the stack at once.
abbrev pub posts_depth : List Exp → ℕ
posts_depth [] = 0
posts_depth (e ∷ es) = max (exp_depth e) (posts_depth es)

-- The test holds the step and a 0, or the variable and the limit.
abbrev pub element_depth : Element → ℕ
element_depth (single e) = exp_depth e
element_depth (progression a s b) = max (exp_depth a) (max (exp_depth s + 1) (exp_depth b + 1))

abbrev pub elements_depth : List Element → ℕ
elements_depth [] = 1
elements_depth (e ∷ es) = max (element_depth e) (elements_depth es)

abbrev pub assigned_depth : Variable → Exp → ℕ
assigned_depth (whole x) e = exp_depth e
assigned_depth (indexed x i) e = max (exp_depth i) (exp_depth e + 1)

abbrev pub input_depth : Variable → ℕ
input_depth (whole x) = 1
input_depth (indexed x i) = exp_depth i

abbrev pub depth : Statement → ℕ
depth (labelled l s) = depth s
depth (conditional p e s) = max (exp_depth e) (depth s)
depth (repeated p x es s) = max (elements_depth (all_of es)) (depth s)
depth (assigned v e) = assigned_depth v e
depth (go p l) = 0
depth (switched p x e) = exp_depth e
depth (input p v) = input_depth v
depth (printed p es) = posts_depth (all_of es)
depth (stop p) = 0
depth (sequence s t) = max (depth s) (depth t)

-- The table of a switch's labels; what is no switch has no labels and no table.
abbrev pub rows_code : (List ℕ → ℕ) → List (List ℕ) → List Entry → List Entry
rows_code label_at [] r = r
rows_code label_at (l ∷ ls) r = entry Jump (label_at l) ∷ rows_code label_at ls r

abbrev pub table_code : (List ℕ → ℕ) → List (List ℕ) → List Entry → List Entry
table_code label_at [] r = r
table_code label_at (l ∷ ls) r = entry Rows (length (l ∷ ls)) ∷ rows_code label_at (l ∷ ls) r

abbrev pub table_size : List (List ℕ) → ℕ
table_size [] = 0
table_size (l ∷ ls) = suc (length (l ∷ ls))

abbrev pub tables_code : (List ℕ → ℕ) → List Symbol → List Entry → List Entry
tables_code label_at [] r = r
tables_code label_at (s ∷ ss) r = table_code label_at (labels_of s.kind) (tables_code label_at ss r)

-- Where the table of the switch x stands, if the first table stands at a.
abbrev pub table_place : ℕ → List Symbol → List ℕ → ℕ
table_place a [] x = a
table_place a (s ∷ ss) x = cond (bytes_eq x s.name.letters) a (table_place (a + table_size (labels_of s.kind)) ss x)

-- A text without a statement has no code of its own.
abbrev pub text_size : Names → Option Statement → ℕ
text_size names None = 0
text_size names (Some s) = size names s

abbrev pub text_loops : Names → Option Statement → ℕ
text_loops names None = 0
text_loops names (Some s) = loops names s

abbrev pub text_depth : Option Statement → ℕ
text_depth None = 0
text_depth (Some s) = depth s

abbrev pub text_label : Names → Option Statement → List ℕ → ℕ
text_label names None l = 0
text_label names (Some s) l = label_place names l s 0 (size names s)

abbrev pub text_code : Names → (label_at table_at : List ℕ → ℕ) → ℕ → ℕ → Option Statement → List Entry → List Entry
text_code names label_at table_at halt_at v None r = r
text_code names label_at table_at halt_at v (Some s) r = code names label_at table_at halt_at v 0 s r

-- The whole code: the statements from place 0 on, whose hidden cells come after the named ones; HALT; the tables.
abbrev pub entries_of : List Symbol → Option Statement → List Entry
entries_of ss text =
    let names = names_in ss in
    let halt_at = text_size names text in
    let label_at = text_label names text in
    text_code names label_at (table_place (suc halt_at) ss) halt_at (named_cells ss) text (plain Halt ∷ tables_code label_at ss [])

abbrev pub entries : Program → List Entry
entries t = entries_of (symbols t) (statements t)

abbrev pub sizes_of : List Symbol → Option Statement → List Entry → Sizes
sizes_of ss text es = record {
  operations = length es;
  named = named_cells ss;
  cells = named_cells ss + text_loops (names_in ss) text;
  depth = text_depth text;
}

abbrev pub laid_out : Sizes → List Entry → Code
laid_out s es = record { sizes = s; operations = map (λ e. number e.operation) es; operands = map (λ e. e.operand) es }

-- The code of a tree.
unfoldable pub translated : Program → Code
translated t = laid_out (sizes_of (symbols t) (statements t) (entries t)) (entries t)
