-- Nodes whose parts stand before them. Trees have no others, and a walk over such nodes ends.
use Rattle.std.specs.Prelude.{ℕ, ◌<◌, Bool, true, cond, ◌&&◌, nat_lt}
use Rattle.parser.specs.declared.node.Node.{Node}
use Rattle.parser.specs.declared.node.Node.TheVariants.{Empty, Literal, Simple, Subscripted, Prefixed, Joined, Bracketed, Compared, Progression, More, Labelled, Conditional, Repeated, Assigned, Go, Switched, Input, Printed, Stop, Comment, Integer, Boolean, Array, Group, Switch}

-- Do the parts of the node stand before number i?
abbrev pub are_before : Node → ℕ → Bool
are_before Empty i = true
are_before (Literal n p) i = true
are_before (Simple w) i = true
are_before (Subscripted w a) i = nat_lt a i
are_before (Prefixed o p a) i = nat_lt a i
are_before (Joined o a b) i = nat_lt a i && nat_lt b i
are_before (Bracketed p a) i = nat_lt a i
are_before (Compared r p a b) i = nat_lt a i && nat_lt b i
are_before (Progression a b c) i = nat_lt a i && (nat_lt b i && nat_lt c i)
are_before (More a b) i = nat_lt a i && nat_lt b i
are_before (Labelled w a) i = nat_lt a i
are_before (Conditional p a b) i = nat_lt a i && nat_lt b i
are_before (Repeated p w a b) i = nat_lt a i && nat_lt b i
are_before (Assigned a b) i = nat_lt a i && nat_lt b i
are_before (Go p w) i = true
are_before (Switched p w a) i = nat_lt a i
are_before (Input p a) i = nat_lt a i
are_before (Printed p a) i = nat_lt a i
are_before (Stop p) i = true
are_before Comment i = true
are_before (Integer a) i = nat_lt a i
are_before (Boolean a) i = nat_lt a i
are_before (Array a) i = nat_lt a i
are_before (Group a p l h) i = nat_lt a i
are_before (Switch w a) i = nat_lt a i

-- The node, if its parts stand before number i; otherwise none.
abbrev pub ordered : Node → ℕ → Node
ordered n i = cond (are_before n i) n Empty

-- The same as a statement.
abbrev pub Before : Node → ℕ → Type 0
Before Empty i = Unit {0}
Before (Literal n p) i = Unit {0}
Before (Simple w) i = Unit {0}
Before (Subscripted w a) i = a < i
Before (Prefixed o p a) i = a < i
Before (Joined o a b) i = (a < i) × (b < i)
Before (Bracketed p a) i = a < i
Before (Compared r p a b) i = (a < i) × (b < i)
Before (Progression a b c) i = (a < i) × (b < i) × (c < i)
Before (More a b) i = (a < i) × (b < i)
Before (Labelled w a) i = a < i
Before (Conditional p a b) i = (a < i) × (b < i)
Before (Repeated p w a b) i = (a < i) × (b < i)
Before (Assigned a b) i = (a < i) × (b < i)
Before (Go p w) i = Unit {0}
Before (Switched p w a) i = a < i
Before (Input p a) i = a < i
Before (Printed p a) i = a < i
Before (Stop p) i = Unit {0}
Before Comment i = Unit {0}
Before (Integer a) i = a < i
Before (Boolean a) i = a < i
Before (Array a) i = a < i
Before (Group a p l h) i = a < i
Before (Switch w a) i = a < i
