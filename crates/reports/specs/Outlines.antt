-- The outline of a tree, as a report shows it: a line for each node, and below it the lines of its parts, further in.
use Rattle.std.specs.Prelude.{◌≡◌, ℕ, zero, suc, ◌+◌, ◌-◌, ◌*◌, ◌^◌, min, cond, List, [], ◌∷◌, ◌++◌, replicate, codes, nat_lt}
use Rattle.std.specs.List.{flat_map}
use Rattle.parser.specs.declared.node.Node.{Node}
use Rattle.parser.specs.declared.node.Node.TheVariants.{Subscripted, Prefixed, Joined, Bracketed, Compared, Progression, More, Labelled, Conditional, Repeated, Assigned, Switched, Input, Printed, Integer, Boolean, Array, Group, Switch}
use Rattle.parser.specs.declared.table.Record.{Record}
use Rattle.analysis.specs.Views.{node_of}
use Rattle.reports.specs.Captions.{node_shown}

-- The nodes that are parts of a node, in the order of the text.
abbrev pub parts_of : Node → List ℕ
parts_of (Subscripted w a) = a ∷ []
parts_of (Prefixed o p a) = a ∷ []
parts_of (Joined o a b) = a ∷ b ∷ []
parts_of (Bracketed p a) = a ∷ []
parts_of (Compared r p a b) = a ∷ b ∷ []
parts_of (Progression a b c) = a ∷ b ∷ c ∷ []
parts_of (More a b) = a ∷ b ∷ []
parts_of (Labelled w a) = a ∷ []
parts_of (Conditional p a b) = a ∷ b ∷ []
parts_of (Repeated p w a b) = a ∷ b ∷ []
parts_of (Assigned a b) = a ∷ b ∷ []
parts_of (Switched p w a) = a ∷ []
parts_of (Input p a) = a ∷ []
parts_of (Printed p a) = a ∷ []
parts_of (Integer a) = a ∷ []
parts_of (Boolean a) = a ∷ []
parts_of (Array a) = a ∷ []
parts_of (Group a p l h) = a ∷ []
parts_of (Switch w a) = a ∷ []
parts_of n = []

-- A line of the outline: two blanks for each level, and the words.
abbrev pub outline_line : ℕ → List ℕ → List ℕ
outline_line d words = replicate (2 * d) 32 ++ (words ++ codes "\n")

-- A row of parts has no line of its own, and its parts stand side by side.
abbrev pub own_line : List ℕ → List Record → ℕ → Node → List ℕ
own_line text rs d (More a b) = []
own_line text rs d n = outline_line d (node_shown text rs n)

-- The depth of the lines of its parts, which stays a number of 64 bits.
abbrev pub depth_below : ℕ → Node → ℕ
depth_below d (More a b) = d
depth_below d n = min (d + 1) (2 ^ 64 - 1)

-- Of a node before the k-th. A part stands before its node, as in every table that a parser leaves.
abbrev pub outline_before : ℕ → List ℕ → List Record → ℕ → ℕ → List ℕ
outline_before zero text rs d i = []
outline_before (suc k) text rs d i =
    let n = node_of rs i in
    own_line text rs d n ++ flat_map (λ p. cond (nat_lt p i) (outline_before k text rs (depth_below d n) p) []) (parts_of n)

-- The lines of the tree at node i, whose own line stands at depth d.
abbrev pub outline_of : List ℕ → List Record → ℕ → ℕ → List ℕ
outline_of text rs d i = outline_before (suc i) text rs d i

-- What a part p adds to the lines of node i.
abbrev pub part_outline : List ℕ → List Record → ℕ → ℕ → ℕ → List ℕ
part_outline text rs d i p = cond (nat_lt p i) (outline_of text rs d p) []

-- The law, with no limit: the lines of a node are its own and those of its parts.
abbrev pub OutlineLaw : List ℕ → List Record → Type 0
OutlineLaw text rs = (d i : ℕ) → outline_of text rs d i ≡ own_line text rs d (node_of rs i) ++ flat_map (part_outline text rs (depth_below d (node_of rs i)) i) (parts_of (node_of rs i))
