-- What the records of the work table stand for: the words of the text, and the tree that the nodes hold.
use Rattle.std.specs.Prelude.{◌≡◌, ℕ, ◌<◌, List, [], ◌∷◌, map, length, take, drop, slice_index_or}
use Rattle.words.specs.declared.word.Word.{Word as WordRecord}
use Rattle.words.specs.Token.{Word, name}
use Rattle.words.specs.Records.{word_in}
use Rattle.grammar.specs.Grammar.{Part, ranked, factor, variable, identifier, bound, group, element, statement, item, Tree}
use Rattle.grammar.specs.Tree.{Row, one, more, Name, Exp, literal, simple, subscripted, prefixed, joined, bracketed, compared, Variable, whole, indexed, Element, single, progression, Statement, labelled, conditional, repeated, assigned, go, switched, input, printed, stop, sequence, Bound, Group, Item, comment, integer, boolean, array, switch, action}
use Rattle.parser.specs.declared.node.Node.{Node}
use Rattle.parser.specs.declared.node.Bound.{Bound as BoundRecord}
use Rattle.parser.specs.declared.node.Node.TheVariants.{Empty, Literal, Simple, Subscripted, Prefixed, Joined, Bracketed, Compared, Progression, More, Labelled, Conditional, Repeated, Assigned, Go, Switched, Input, Printed, Stop, Comment, Integer, Boolean, Array, Group as GroupNode, Switch}
use Rattle.parser.specs.declared.table.Record.{Record}
use Rattle.parser.specs.declared.table.Parser.{Parser}

abbrev pub words : List Record → List WordRecord
words [] = []
words (r ∷ rs) = r.word ∷ words rs

abbrev pub nodes : List Record → List Node
nodes [] = []
nodes (r ∷ rs) = r.node ∷ nodes rs

-- All words of the text, and those that are not yet taken.
abbrev pub all : Parser → List Word
all p = map (word_in p.text.now) (take p.count (words p.table.now))

abbrev pub ahead : Parser → List Word
ahead p = drop p.at (all p)

-- The words and nodes in which a tree is looked for.
pub record View : Type 0 where
  pub words : List Word
  pub nodes : List Node

abbrev pub view : Parser → View
view p = record { words = all p; nodes = nodes p.table.now }

abbrev pub node : View → ℕ → Node
node v i = slice_index_or v.nodes i Empty

-- Word w is the name x.
abbrev pub Named : View → ℕ → Name → Type 0
Named v w x = (w < length v.words) × ((d : Word) → slice_index_or v.words w d ≡ record { token = name x.letters; place = x.place })

-- Node i is n of an earlier node, or of two.
abbrev pub One : View → ℕ → (ℕ → Node) → (ℕ → Type 0) → Type 0
One v i n A = (p : ℕ) × (node v i ≡ n p) × (p < i) × A p

abbrev pub Two : View → ℕ → (ℕ → ℕ → Node) → (ℕ → Type 0) → (ℕ → Type 0) → Type 0
Two v i n A B = (p : ℕ) × (q : ℕ) × (node v i ≡ n p q) × (p < i) × (q < i) × A p × B q

-- The tree stands at node i, its parts before it.
abbrev pub ExpAt : View → Exp → ℕ → Type 0
ExpAt v (literal n p) i = node v i ≡ Literal n p
ExpAt v (simple x) i = (w : ℕ) × (node v i ≡ Simple w) × Named v w x
ExpAt v (subscripted x e) i = (w : ℕ) × One v i (Subscripted w) (λ p. ExpAt v e p) × Named v w x
ExpAt v (prefixed o b e) i = One v i (Prefixed o b) (λ p. ExpAt v e p)
ExpAt v (joined o e f) i = Two v i (Joined o) (λ p. ExpAt v e p) (λ q. ExpAt v f q)
ExpAt v (bracketed b e) i = One v i (Bracketed b) (λ p. ExpAt v e p)
ExpAt v (compared r b e f) i = Two v i (Compared r b) (λ p. ExpAt v e p) (λ q. ExpAt v f q)

abbrev pub VariableAt : View → Variable → ℕ → Type 0
VariableAt v (whole x) i = (w : ℕ) × (node v i ≡ Simple w) × Named v w x
VariableAt v (indexed x e) i = (w : ℕ) × One v i (Subscripted w) (λ p. ExpAt v e p) × Named v w x

abbrev pub ElementAt : View → Element → ℕ → Type 0
ElementAt v (single e) i = ExpAt v e i
ElementAt v (progression e f g) i = (p : ℕ) × Two v i (Progression p) (λ q. ExpAt v f q) (λ r. ExpAt v g r) × (p < i) × ExpAt v e p

abbrev pub NameAt : View → Name → ℕ → Type 0
NameAt v x i = (w : ℕ) × (node v i ≡ Simple w) × Named v w x

abbrev pub RowAt : {A : Type 0} → (View → A → ℕ → Type 0) → View → Row A → ℕ → Type 0
RowAt P v (one t) i = P v t i
RowAt P v (more ts t) i = Two v i More (λ p. RowAt P v ts p) (λ q. P v t q)

abbrev pub StatementAt : View → Statement → ℕ → Type 0
StatementAt v (labelled x s) i = (w : ℕ) × One v i (Labelled w) (λ p. StatementAt v s p) × Named v w x
StatementAt v (conditional b e s) i = Two v i (Conditional b) (λ p. ExpAt v e p) (λ q. StatementAt v s q)
StatementAt v (repeated b x es s) i = (w : ℕ) × Two v i (Repeated b w) (λ p. RowAt ElementAt v es p) (λ q. StatementAt v s q) × Named v w x
StatementAt v (assigned y e) i = Two v i Assigned (λ p. VariableAt v y p) (λ q. ExpAt v e q)
StatementAt v (go b x) i = (w : ℕ) × (node v i ≡ Go b w) × Named v w x
StatementAt v (switched b x e) i = (w : ℕ) × One v i (Switched b w) (λ p. ExpAt v e p) × Named v w x
StatementAt v (input b y) i = One v i (Input b) (λ p. VariableAt v y p)
StatementAt v (printed b es) i = One v i (Printed b) (λ p. RowAt ExpAt v es p)
StatementAt v (stop b) i = node v i ≡ Stop b
StatementAt v (sequence s t) i = Two v i More (λ p. StatementAt v s p) (λ q. StatementAt v t q)

abbrev pub bound_in : BoundRecord → Bound
bound_in b = record { sign = b.sign; size = b.size }

abbrev pub GroupAt : View → Group → ℕ → Type 0
GroupAt v g i = (lo : BoundRecord) × (hi : BoundRecord) × One v i (λ p. GroupNode p g.bracket lo hi) (λ p. RowAt NameAt v g.names p) × (bound_in lo ≡ g.low) × (bound_in hi ≡ g.high)

abbrev pub ItemAt : View → Item → ℕ → Type 0
ItemAt v comment i = node v i ≡ Comment
ItemAt v (integer xs) i = One v i Integer (λ p. RowAt NameAt v xs p)
ItemAt v (boolean xs) i = One v i Boolean (λ p. RowAt NameAt v xs p)
ItemAt v (array gs) i = One v i Array (λ p. RowAt GroupAt v gs p)
ItemAt v (switch x xs) i = (w : ℕ) × One v i (Switch w) (λ p. RowAt NameAt v xs p) × Named v w x
ItemAt v (action s) i = StatementAt v s i

abbrev pub ProgramAt : View → Row Item → ℕ → Type 0
ProgramAt v t i = RowAt ItemAt v t i

-- The tree of a part stands at node i. No node holds a bound.
abbrev pub TreeAt : (p : Part) → View → Tree p → ℕ → Type 0
TreeAt (ranked r) = ExpAt
TreeAt factor = ExpAt
TreeAt variable = VariableAt
TreeAt identifier = NameAt
TreeAt bound = λ v b i. ⊥
TreeAt group = GroupAt
TreeAt element = ElementAt
TreeAt statement = StatementAt
TreeAt item = ItemAt
