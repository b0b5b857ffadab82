-- Labels: which words begin with one, what stands around a statement behind its labels, and where their names stand.
use Rattle.std.specs.Prelude.{◌≡◌, ℕ, suc, ◌+◌, ◌*◌, ◌<◌, Bool, false, cond, List, [], ◌∷◌, length, is_some, slice_index_or}
use Rattle.words.specs.declared.token.Mark.TheVariants.{Colon}
use Rattle.words.specs.Token.{Word}
use Rattle.grammar.specs.Tree.{Name, Statement, labelled}
use Rattle.grammar.specs.Classes.{heads, the_mark, a_name}
use Rattle.grammar.specs.Grammar.{a, statement}
use Rattle.grammar.specs.Parser.{done, goto, begin, Around, waiting, at, run}
use Rattle.parser.specs.declared.node.Node.TheVariants.{Empty}
use Rattle.parser.specs.declared.table.Parser.{Parser}
use Rattle.parser.specs.Records.{nodes, ahead, View, view, Named, StatementAt}
use Rattle.parser.specs.Promises.{SameText, Moves}

-- A name and a colon come next.
abbrev pub is_label : List Word → Bool
is_label [] = false
is_label (w ∷ ws) = cond (is_some (heads a_name (w ∷ ws))) (is_some (heads (the_mark Colon) ws)) false

-- The labels xs, the last one first, around a statement.
abbrev pub with_labels : List Name → Statement → Statement
with_labels [] t = t
with_labels (x ∷ xs) t = with_labels xs (labelled x t)

-- What waits for the statement behind them.
abbrev pub labels_around : ℕ → List Name → Around (a statement) → Around (a statement)
labels_around d [] k = k
labels_around d (x ∷ xs) k = waiting (a statement) d (λ t. done (labelled x t)) (labels_around d xs k)

-- The n labels from word `first` on are xs, the last one first; a label is a name and a colon.
abbrev pub LabelsAt : View → ℕ → List Name → ℕ → Type 0
LabelsAt v first [] n = n ≡ 0
LabelsAt v first (x ∷ xs) n = (m : ℕ) × (n ≡ suc m) × Named v (first + 2 * m) x × LabelsAt v first xs m

-- From r to s labels were passed over, n of them, and no label follows.
pub record LabelsPassed (r s : Parser) (n : ℕ) : Type 0 where
  pub moves : Moves r s
  pub made : s.made ≡ r.made
  pub on : s.at ≡ r.at + 2 * n
  pub names : List Name
  pub stand : LabelsAt (view s) r.at names n
  pub leads : (levels limit d : ℕ) (k : Around (a statement)) → d + levels ≡ limit
      → run limit (length r.text.now) (ahead r) (at d (goto (begin (a statement))) k) ≡ run limit (length r.text.now) (ahead s) (at d (goto (begin (a statement))) (labels_around d names k))

-- n nodes were made, the last of them i: the labels from word `first` on around the statement at node j.
pub record LabelsMade (first n j : ℕ) (r s : Parser) (i : ℕ) : Type 0 where
  pub same : SameText r s
  pub at : s.at ≡ r.at
  pub made : s.made ≡ r.made + n
  pub kept : (l : ℕ) → l < r.made → slice_index_or (nodes s.table.now) l Empty ≡ slice_index_or (nodes r.table.now) l Empty
  pub below : i < s.made
  pub held : (xs : List Name) (t : Statement) → LabelsAt (view r) first xs n → StatementAt (view r) t j → StatementAt (view s) (with_labels xs t) i
