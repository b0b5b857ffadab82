-- What may come next, phrase by phrase, and what tree comes of it: the grammar's rules as scripts for the machine of
-- specs/Parser.antt. specs/Grammar.antt has the same rules as a relation, and specs/Meaning.antt says that they agree.
use Rattle.std.specs.Prelude.{ℕ, suc, List}
use Rattle.words.specs.declared.token.Sign.TheVariants.{Plus}
use Rattle.words.specs.declared.token.Mark.TheVariants.{Semicolon, Colon, Becomes, Into, OpenRound, CloseRound, OpenSquare, CloseSquare}
use Rattle.words.specs.declared.token.Keyword.TheVariants.{Begin, End, If, For, Go, To, Switch, Integer, Boolean, Array, Comment, In, Print, Stop}
use Rattle.grammar.specs.declared.operator.Operator.{Operator}
use Rattle.grammar.specs.declared.operator.Prefix.{Prefix}
use Rattle.grammar.specs.Tree.{Row, one, more, Name, Exp, Element, Item, literal, prefixed, joined, bracketed, compared, whole, indexed, value_of, single, progression, labelled, conditional, repeated, assigned, go, switched, input, printed, stop, block, comment, integer, boolean, array, switch, action}
use Rattle.grammar.specs.Classes.{rank, prefix_rank, operand_rank, Class, the_mark, the_keyword, a_name, a_number, a_sign, a_relation, a_prefix, an_operator, Content}
use Rattle.grammar.specs.Grammar.{Part, ranked, factor, variable, identifier, bound, group, element, statement, item, exp, Phrase, a, row, separator, Tree, Value}

-- What is read: a phrase from its beginning; the operators of rank r to q that may follow the operand x; the parts that
-- may follow the row ts.
pub data Goal : Phrase → Type 0 where
  begin : (p : Phrase) → Goal p
  operators : (r q : ℕ) (x : Exp) → Goal (a (ranked r))
  rest : (p : Part) (ts : Row (Tree p)) → Goal (row p)

-- A script: done with a tree; a word of a class, whose content and place the rest of the script gets; such a word or
-- else another script; a goal whose tree the rest gets, or with which the script ends; a script whose tree the rest gets.
pub data Script : Phrase → Type 0 where
  done : {p : Phrase} → Value p → Script p
  word : {p : Phrase} (c : Class) → (Content c → ℕ → Script p) → Script p
  either : {p : Phrase} (c : Class) → (Content c → ℕ → Script p) → Script p → Script p
  part : {p q : Phrase} → Goal q → (Value q → Script p) → Script p
  goto : {p : Phrase} → Goal p → Script p
  within : {p q : Phrase} → Script q → (Value q → Script p) → Script p

abbrev pub named : List ℕ → ℕ → Name
named n p = record { letters = n; place = p }

abbrev pub name_script : Script (a identifier)
name_script = word a_name λ n p. done (named n p)

abbrev pub variable_rest : Name → Script (a variable)
variable_rest x =
    either (the_mark OpenSquare) (λ _ _. part (begin (a exp)) λ i. word (the_mark CloseSquare) λ _ _. done (indexed x i))
    (done (whole x))

abbrev pub variable_script : Script (a variable)
variable_script = word a_name λ n p. variable_rest (named n p)

-- factor: behind `(`, with its place; behind the first expression of a bracket.
abbrev pub variable_factor : Value (a variable) → Script (a factor)
variable_factor v = done (value_of v)

abbrev pub comparison_script : ℕ → Exp → Content a_relation → Script (a factor)
comparison_script p x q = part (begin (a exp)) λ y. word (the_mark CloseRound) λ _ _. done (compared q p x y)

abbrev pub bracket_rest : ℕ → Value (a exp) → Script (a factor)
bracket_rest p x = either a_relation (λ q _. comparison_script p x q) (word (the_mark CloseRound) λ _ _. done (bracketed p x))

abbrev pub bracket_script : ℕ → Script (a factor)
bracket_script p = part (begin (a exp)) (bracket_rest p)

abbrev pub factor_script : Script (a factor)
factor_script =
    either (the_mark OpenRound) (λ _ p. bracket_script p)
    (either a_number (λ n p. done (literal n p))
    (within variable_script variable_factor))

-- An expression of rank r: behind an operator before its operand, behind its first factor, behind an operator.
abbrev pub prefix_script : (r : ℕ) → ℕ → Prefix → Script (a (ranked r))
prefix_script r p o = part (begin (a (ranked (operand_rank o)))) λ x. goto (operators r (prefix_rank o) (prefixed o p x))

abbrev pub behind_factor : (r : ℕ) → Value (a factor) → Script (a (ranked r))
behind_factor r x = goto (operators r 7 x)

abbrev pub ranked_script : (r : ℕ) → Script (a (ranked r))
ranked_script r = either (a_prefix r) (λ o p. prefix_script r p o) (within factor_script (behind_factor r))

abbrev pub operator_script : (r : ℕ) → Exp → Operator → Script (a (ranked r))
operator_script r x o = part (begin (a (ranked (suc (rank o))))) λ y. goto (operators r (rank o) (joined o x y))

abbrev pub operators_script : (r q : ℕ) → Exp → Script (a (ranked r))
operators_script r q x = either (an_operator r q) (λ o _. operator_script r x o) (done x)

-- element: behind its first expression.
abbrev pub progression_script : Exp → Script (a element)
progression_script x = part (begin (a exp)) λ y. word (the_mark CloseRound) λ _ _. part (begin (a exp)) λ z. done (progression x y z)

abbrev pub element_rest : Value (a exp) → Script (a element)
element_rest x = either (the_mark OpenRound) (λ _ _. progression_script x) (done (single x))

abbrev pub element_script : Script (a element)
element_script = within (ranked_script 1) element_rest

-- Statements, each behind its first word, whose place is p.
abbrev pub conditional_script : ℕ → Script (a statement)
conditional_script p = part (begin (a exp)) λ x. word (the_mark Semicolon) λ _ _. part (begin (a statement)) λ s. done (conditional p x s)

abbrev pub repetition_body : ℕ → Name → Row Element → Script (a statement)
repetition_body p x es = word (the_mark Semicolon) λ _ _. part (begin (a statement)) λ s. done (repeated p x es s)

abbrev pub repetition_script : ℕ → Script (a statement)
repetition_script p = word a_name λ n q. word (the_mark Becomes) λ _ _. part (begin (row element)) (repetition_body p (named n q))

abbrev pub block_script : Script (a statement)
block_script = part (begin (row statement)) λ ss. word (the_keyword End) λ _ _. done (block ss)

abbrev pub jump_rest : ℕ → Name → Script (a statement)
jump_rest p x =
    either (the_mark OpenSquare) (λ _ _. part (begin (a exp)) λ i. word (the_mark CloseSquare) λ _ _. done (switched p x i))
    (done (go p x))

abbrev pub jump_script : ℕ → Script (a statement)
jump_script p = word (the_keyword To) λ _ _. word a_name λ n q. jump_rest p (named n q)

abbrev pub input_script : ℕ → Script (a statement)
input_script p = word (the_mark Into) λ _ _. word (the_mark OpenRound) λ _ _. part (begin (a variable)) λ v. word (the_mark CloseRound) λ _ _. done (input p v)

abbrev pub print_script : ℕ → Script (a statement)
print_script p = word (the_mark OpenRound) λ _ _. part (begin (row exp)) λ xs. word (the_mark CloseRound) λ _ _. done (printed p xs)

-- Behind a name: a label, or what is assigned.
abbrev pub indexed_assignment : Name → Script (a statement)
indexed_assignment x = part (begin (a exp)) λ i. word (the_mark CloseSquare) λ _ _. word (the_mark Becomes) λ _ _.
    part (begin (a exp)) λ y. done (assigned (indexed x i) y)

abbrev pub named_script : Name → Script (a statement)
named_script x =
    either (the_mark Colon) (λ _ _. part (begin (a statement)) λ s. done (labelled x s))
    (either (the_mark Becomes) (λ _ _. part (begin (a exp)) λ y. done (assigned (whole x) y))
    (word (the_mark OpenSquare) λ _ _. indexed_assignment x))

abbrev pub statement_script : Script (a statement)
statement_script =
    either (the_keyword If) (λ _ p. conditional_script p)
    (either (the_keyword For) (λ _ p. repetition_script p)
    (either (the_keyword Begin) (λ _ p. block_script)
    (either (the_keyword Go) (λ _ p. jump_script p)
    (either (the_keyword In) (λ _ p. input_script p)
    (either (the_keyword Print) (λ _ p. print_script p)
    (either a_name (λ n p. named_script (named n p))
    (word (the_keyword Stop) λ _ p. done (stop p))))))))

abbrev pub bound_script : Script (a bound)
bound_script =
    either a_sign (λ s _. word a_number λ n _. done (record { sign = s; size = n }))
    (word a_number λ n _. done (record { sign = Plus; size = n }))

-- A row: behind its first part.
abbrev pub row_rest : (p : Part) → Value (a p) → Script (row p)
row_rest p t = goto (rest p (one t))

-- group: behind its names, and behind the `[` of its bounds.
abbrev pub bounds_script : Row Name → ℕ → Script (a group)
bounds_script xs p = part (begin (a bound)) λ x. word (the_mark Colon) λ _ _. part (begin (a bound)) λ y.
    word (the_mark CloseSquare) λ _ _. done (record { names = xs; bracket = p; low = x; high = y })

abbrev pub group_bounds : Value (row identifier) → Script (a group)
group_bounds xs = word (the_mark OpenSquare) λ _ p. bounds_script xs p

abbrev pub group_script : Script (a group)
group_script = within (within name_script (row_rest identifier)) group_bounds

-- Items, each behind its first word.
abbrev pub names_script : (Row Name → Item) → Script (a item)
names_script f = word (the_mark OpenRound) λ _ _. part (begin (row identifier)) λ xs. word (the_mark CloseRound) λ _ _. done (f xs)

abbrev pub arrays_script : Script (a item)
arrays_script = word (the_mark OpenRound) λ _ _. part (begin (row group)) λ gs. word (the_mark CloseRound) λ _ _. done (array gs)

abbrev pub switch_script : Script (a item)
switch_script = word a_name λ n p. word (the_mark Becomes) λ _ _. names_script (switch (named n p))

abbrev pub statement_item : Value (a statement) → Script (a item)
statement_item s = done (action s)

abbrev pub item_script : Script (a item)
item_script =
    either (the_keyword Comment) (λ _ _. done comment)
    (either (the_keyword Integer) (λ _ _. names_script integer)
    (either (the_keyword Boolean) (λ _ _. names_script boolean)
    (either (the_keyword Array) (λ _ _. arrays_script)
    (either (the_keyword Switch) (λ _ _. switch_script)
    (within statement_script statement_item)))))

abbrev pub part_script : (p : Part) → Script (a p)
part_script (ranked r) = ranked_script r
part_script factor = factor_script
part_script variable = variable_script
part_script identifier = name_script
part_script bound = bound_script
part_script group = group_script
part_script element = element_script
part_script statement = statement_script
part_script item = item_script

abbrev pub phrase_script : (p : Phrase) → Script p
phrase_script (a p) = part_script p
phrase_script (row p) = within (part_script p) (row_rest p)

abbrev pub start : {p : Phrase} → Goal p → Script p
start (begin p) = phrase_script p
start (operators r q x) = operators_script r q x
start (rest p ts) = either (the_mark (separator p)) (λ _ _. part (begin (a p)) λ t. goto (rest p (more ts t))) (done ts)
