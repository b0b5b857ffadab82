-- A node of a tree in a few words, as a report shows it.
use Rattle.std.specs.Prelude.{ℕ, List, ◌++◌, codes}
use Rattle.std.specs.Fmt.{decimal}
use Rattle.words.specs.declared.token.Sign.{Sign}
use Rattle.words.specs.declared.token.Sign.TheVariants.{Plus, Minus}
use Rattle.words.specs.declared.token.Scaling.TheVariants.{Times, Over}
use Rattle.words.specs.declared.token.Relation.{Relation as RelationSign}
use Rattle.words.specs.declared.token.Relation.TheVariants.{Less, AtMost, Equal, Unequal, AtLeast, More as Greater}
use Rattle.grammar.specs.declared.operator.Operator.{Operator}
use Rattle.grammar.specs.declared.operator.Operator.TheVariants.{Equivalence, Disjunction, Conjunction, Additive, Multiplicative}
use Rattle.grammar.specs.declared.operator.Prefix.{Prefix}
use Rattle.grammar.specs.declared.operator.Prefix.TheVariants.{Negation, Signed}
use Rattle.parser.specs.declared.node.Node.{Node}
use Rattle.parser.specs.declared.node.Bound.{Bound}
use Rattle.parser.specs.declared.node.Node.TheVariants.{Literal, Simple, Subscripted, Prefixed, Joined, Bracketed, Compared, Progression, Labelled, Conditional, Repeated, Assigned, Go, Switched, Input, Printed, Stop, Comment, Integer, Boolean, Array, Group, Switch}
use Rattle.parser.specs.declared.table.Record.{Record}
use Rattle.reports.specs.Names.{name_shown}

-- A sign, as in a text.
abbrev pub sign_shown : Sign → List ℕ
sign_shown Plus = codes "+"
sign_shown Minus = codes "-"

-- Operators and relations look as in a text: each is a spelling of its word.
abbrev pub operator_shown : Operator → List ℕ
operator_shown Equivalence = codes "eqv"
operator_shown Disjunction = codes "or"
operator_shown Conjunction = codes "and"
operator_shown (Additive s) = sign_shown s
operator_shown (Multiplicative Times) = codes "*"
operator_shown (Multiplicative Over) = codes "/"

-- The sign of a comparison.
abbrev pub relation_shown : RelationSign → List ℕ
relation_shown Less = codes "<"
relation_shown AtMost = codes "<="
relation_shown Equal = codes "="
relation_shown Unequal = codes "/="
relation_shown AtLeast = codes ">="
relation_shown Greater = codes ">"

-- A sign before an operand is written out, so that no line shows it as one between two.
abbrev pub prefix_shown : Prefix → List ℕ
prefix_shown Negation = codes "not"
prefix_shown (Signed Plus) = codes "plus"
prefix_shown (Signed Minus) = codes "minus"

-- A bound with its sign, also a plus.
abbrev pub bound_shown : Bound → List ℕ
bound_shown b = sign_shown b.sign ++ decimal b.size

-- The bounds of a group of arrays, the low one first.
abbrev pub bounds_shown : Bound → Bound → List ℕ
bounds_shown l h = codes "bounds " ++ (bound_shown l ++ (codes " : " ++ bound_shown h))

-- An expression's node. A node that belongs to a name tells it.
abbrev pub expression_shown : List ℕ → List Record → Node → List ℕ
expression_shown text rs (Literal n p) = codes "number " ++ decimal n
expression_shown text rs (Simple w) = codes "name " ++ name_shown text rs w
expression_shown text rs (Subscripted w i) = codes "element of " ++ name_shown text rs w
expression_shown text rs (Prefixed o p a) = prefix_shown o
expression_shown text rs (Joined o a b) = operator_shown o
expression_shown text rs (Bracketed p a) = codes "brackets"
expression_shown text rs (Compared r p a b) = relation_shown r
expression_shown text rs (Progression a b c) = codes "progression"
expression_shown text rs n = codes "nothing"

-- A declaration's node, or else an expression's.
abbrev pub declaration_shown : List ℕ → List Record → Node → List ℕ
declaration_shown text rs Comment = codes "comment"
declaration_shown text rs (Integer xs) = codes "integer"
declaration_shown text rs (Boolean xs) = codes "boolean"
declaration_shown text rs (Array gs) = codes "array"
declaration_shown text rs (Group xs p l h) = bounds_shown l h
declaration_shown text rs (Switch w xs) = codes "switch " ++ name_shown text rs w
declaration_shown text rs n = expression_shown text rs n

-- A statement's node, or else a declaration's or an expression's.
abbrev pub node_shown : List ℕ → List Record → Node → List ℕ
node_shown text rs (Labelled w s) = codes "label " ++ name_shown text rs w
node_shown text rs (Conditional p c s) = codes "if"
node_shown text rs (Repeated p w es s) = codes "for " ++ name_shown text rs w
node_shown text rs (Assigned v e) = codes ":="
node_shown text rs (Go p w) = codes "go to " ++ name_shown text rs w
node_shown text rs (Switched p w i) = codes "go to by switch " ++ name_shown text rs w
node_shown text rs (Input p v) = codes "in"
node_shown text rs (Printed p es) = codes "print"
node_shown text rs (Stop p) = codes "stop"
node_shown text rs n = declaration_shown text rs n
