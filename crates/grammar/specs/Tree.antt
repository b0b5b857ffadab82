-- The syntax tree of a text. Names keep their letters and the place of their first byte; of every other part the tree
-- keeps the place that a later message names: a statement's first byte after its labels, an expression's first byte,
-- the `[` of an array's bounds.
use Rattle.std.specs.Prelude.{ℕ, List}
use Rattle.words.specs.declared.token.Sign.{Sign}
use Rattle.words.specs.declared.token.Relation.{Relation}
use Rattle.grammar.specs.declared.operator.Operator.{Operator}
use Rattle.grammar.specs.declared.operator.Prefix.{Prefix}

-- One or more of a kind, in the order of the text.
pub data Row (A : Type 0) : Type 0 where
  one : A → Row A
  more : Row A → A → Row A

pub record Name : Type 0 where
  pub letters : List ℕ
  pub place : ℕ

-- Expressions. A number has its value and its place, a bracket the place of its `(`.
pub data Exp : Type 0 where
  literal : ℕ → ℕ → Exp
  simple : Name → Exp
  subscripted : Name → Exp → Exp
  prefixed : Prefix → ℕ → Exp → Exp
  joined : Operator → Exp → Exp → Exp
  bracketed : ℕ → Exp → Exp
  compared : Relation → ℕ → Exp → Exp → Exp

-- The place of an expression's first byte.
abbrev pub first_byte : Exp → ℕ
first_byte (literal n p) = p
first_byte (simple x) = x.place
first_byte (subscripted x i) = x.place
first_byte (prefixed o p a) = p
first_byte (joined o a b) = first_byte a
first_byte (bracketed p a) = p
first_byte (compared r p a b) = p

-- What a figure can be stored in: a simple variable, or an array's element by its subscript.
pub data Variable : Type 0 where
  whole : Name → Variable
  indexed : Name → Exp → Variable

-- The figure that stands there.
abbrev pub value_of : Variable → Exp
value_of (whole x) = simple x
value_of (indexed x i) = subscripted x i

-- An element of a for's list: one figure, or from, step and limit of a progression.
pub data Element : Type 0 where
  single : Exp → Element
  progression : Exp → Exp → Exp → Element

-- Statements. The number is the place of the statement's first word, where that is no name.
pub data Statement : Type 0 where
  labelled : Name → Statement → Statement
  conditional : ℕ → Exp → Statement → Statement
  repeated : ℕ → Name → Row Element → Statement → Statement
  assigned : Variable → Exp → Statement
  go : ℕ → Name → Statement
  switched : ℕ → Name → Exp → Statement
  input : ℕ → Variable → Statement
  printed : ℕ → Row Exp → Statement
  stop : ℕ → Statement
  sequence : Statement → Statement → Statement

-- The statements of a block, one after the other.
abbrev pub block : Row Statement → Statement
block (one s) = s
block (more ss s) = sequence (block ss) s

-- A bound of an array's subscripts; without a sign it is at least 0.
pub record Bound : Type 0 where
  pub sign : Sign
  pub size : ℕ

-- Arrays that share their bounds, and the place of the bounds' `[`.
pub record Group : Type 0 where
  pub names : Row Name
  pub bracket : ℕ
  pub low : Bound
  pub high : Bound

pub data Item : Type 0 where
  comment : Item
  integer : Row Name → Item
  boolean : Row Name → Item
  array : Row Group → Item
  switch : Name → Row Name → Item
  action : Statement → Item

abbrev pub Program : Type 0
Program = Row Item
