-- What the words of a phrase pay for: each word for at most five operations, two words for each figure that waits on the
-- stack. Here over trees; proofs/LimitsWords.antt has the induction over derivations.
use Rattle.std.proofs.Common.{◌≡◌, ℕ, ◌+◌, ◌*◌, ◌≤◌, max, List, [], ◌∷◌, ◌++◌, length, Some, None, Option, arith}
use Rattle.words.specs.declared.token.Sign.TheVariants.{Plus, Minus}
use Rattle.words.specs.declared.token.Relation.{Relation}
use Rattle.words.specs.declared.token.Relation.TheVariants as relation
use Rattle.grammar.specs.declared.operator.Prefix.{Prefix}
use Rattle.grammar.specs.declared.operator.Prefix.TheVariants.{Negation, Signed}
use Rattle.grammar.specs.Tree.{Row, one, more, Name, Exp, Variable, whole, indexed, value_of, Element, Statement, block, Item, comment, integer, boolean, array, switch, action, Program}
use Rattle.grammar.specs.Grammar.{Part, ranked, factor, variable, identifier, bound, group, element, statement, item, exp, Phrase, a, row, Tree, Value}
use Rattle.symbols.specs.declared.value_type.ValueType.{ValueType}
use Rattle.symbols.specs.declared.value_type.ValueType.TheVariants.{Untyped, Integer, Boolean}
use Rattle.meaning.specs.Names.{Names}
use Rattle.meaning.specs.Positions.{statement_of, followed_by, statements}
use Rattle.meaning.specs.Machine.{variable_place}
use Rattle.translator.specs.Generator.{ready_size, prefix_size, relation_size, exp_size, exp_depth, all_of, posts_size, element_size, elements_size, variable_size, input_size, size}
use Rattle.translator.specs.Translation.{posts_depth, element_depth, elements_depth, assigned_depth, input_depth, depth, text_size, text_depth}
use Rattle.translator.specs.Limits.{ExpSmall, ExpsSmall, VariableSmall, ElementSmall, ElementsSmall, Small, TextSmall}

pub ready_short : (t : ValueType) → ready_size t ≤ 1
ready_short Untyped = omega arith
ready_short Integer = omega arith
ready_short Boolean = omega arith

pub prefix_short : (o : Prefix) → prefix_size o ≤ 1
prefix_short (Signed Plus) = omega arith
prefix_short (Signed Minus) = omega arith
prefix_short Negation = omega arith

pub relation_short : (o : Relation) → relation_size o ≤ 2
relation_short relation.Less = omega arith
relation_short relation.More = omega arith
relation_short relation.Equal = omega arith
relation_short relation.AtMost = omega arith
relation_short relation.AtLeast = omega arith
relation_short relation.Unequal = omega arith

-- The labels in a switch's list, and what an item puts into the tables.
abbrev pub row_length : {A : Type 0} → Row A → ℕ
row_length (one x) = 1
row_length (more xs x) = row_length xs + 1

abbrev pub item_table : Item → ℕ
item_table comment = 0
item_table (integer xs) = 0
item_table (boolean xs) = 0
item_table (array gs) = 0
item_table (switch x xs) = row_length xs + 1
item_table (action s) = 0

abbrev pub program_tables : Program → ℕ
program_tables (one i) = item_table i
program_tables (more is i) = program_tables is + item_table i

-- An expression of n words.
pub record ExpCosts (n : ℕ) (e : Exp) : Type 0 where
  pub some : 1 ≤ n
  pub size : exp_size e ≤ n
  pub depth : 2 * exp_depth e ≤ n + 1
  pub small : ExpSmall e

pub assigned_shallow : (v : Variable) (e : Exp) → assigned_depth v e ≤ max (input_depth v) (exp_depth e + 1)
assigned_shallow (whole x) e = omega arith
assigned_shallow (indexed x i) e = omega arith

module _ (names : Names) where
  pub record VariableCosts (n : ℕ) (v : Variable) : Type 0 where
    pub some : 1 ≤ n
    pub stored : variable_size names v + 1 ≤ n
    pub taken : input_size names v ≤ n
    pub depth : 2 * input_depth v ≤ n + 1
    pub small : VariableSmall v
    pub place : variable_place v ≤ 8191
    pub value : ExpCosts n (value_of v)

  -- With its row in the table, whatever the type of the variable.
  pub record ElementCosts (n : ℕ) (e : Element) : Type 0 where
    pub some : 1 ≤ n
    pub size : (t : ValueType) → element_size names t e + 1 ≤ 5 * n + 5
    pub depth : 2 * element_depth e ≤ n + 1
    pub small : ElementSmall e

  pub record StatementCosts (n : ℕ) (s : Statement) : Type 0 where
    pub some : 1 ≤ n
    pub size : size names s ≤ 5 * n
    pub depth : 2 * depth s ≤ n + 1
    pub small : Small s

  pub record ItemCosts (n : ℕ) (i : Item) : Type 0 where
    pub size : text_size names (statement_of i) + item_table i ≤ 5 * n
    pub depth : 2 * text_depth (statement_of i) ≤ n + 1
    pub small : TextSmall (statement_of i)

  abbrev pub PartCosts : (p : Part) → ℕ → Tree p → Type 0
  PartCosts (ranked r) n e = ExpCosts n e
  PartCosts factor n e = ExpCosts n e
  PartCosts variable n v = VariableCosts n v
  PartCosts identifier n x = 1 ≤ n
  PartCosts bound n b = Unit {0}
  PartCosts group n g = Unit {0}
  PartCosts element n e = ElementCosts n e
  PartCosts statement n s = StatementCosts n s
  PartCosts item n i = ItemCosts n i

  -- A row's parts, with a word between any two.
  abbrev pub RowCosts : (p : Part) → ℕ → Row (Tree p) → Type 0
  RowCosts p n (one t) = PartCosts p n t
  RowCosts p n (more ts t) = (m : ℕ) × (k : ℕ) × (n ≡ m + 1 + k) × RowCosts p m ts × PartCosts p k t

  abbrev pub PhraseCosts : (p : Phrase) → ℕ → Value p → Type 0
  PhraseCosts (a p) n t = PartCosts p n t
  PhraseCosts (row p) n ts = RowCosts p n ts

  -- One more at the end of a list.
  posts_longer : (es : List Exp) (e : Exp) → posts_size names (es ++ (e ∷ [])) ≡ posts_size names es + (exp_size e + 2)
  posts_longer [] e = omega arith
  posts_longer (x ∷ es) e = omega (arith, posts_longer es e)

  posts_deeper : (es : List Exp) (e : Exp) → posts_depth (es ++ (e ∷ [])) ≤ max (posts_depth es) (exp_depth e)
  posts_deeper [] e = omega arith
  posts_deeper (x ∷ es) e = omega (arith, posts_deeper es e)

  exps_small_more : (es : List Exp) (e : Exp) → ExpsSmall es → ExpSmall e → ExpsSmall (es ++ (e ∷ []))
  exps_small_more [] e xs x = (x, tt)
  exps_small_more (y ∷ es) e xs x = (xs.0, exps_small_more es e xs.1 x)

  elements_longer : (t : ValueType) (es : List Element) (e : Element) → elements_size names t (es ++ (e ∷ [])) ≡ elements_size names t es + element_size names t e
  elements_longer t [] e = omega arith
  elements_longer t (x ∷ es) e = omega (arith, elements_longer t es e)

  elements_deeper : (es : List Element) (e : Element) → elements_depth (es ++ (e ∷ [])) ≤ max (elements_depth es) (element_depth e)
  elements_deeper [] e = omega arith
  elements_deeper (x ∷ es) e = omega (arith, elements_deeper es e)

  one_longer : (es : List Element) (e : Element) → length (es ++ (e ∷ [])) ≡ length es + 1
  one_longer [] e = omega arith
  one_longer (x ∷ es) e = omega (arith, one_longer es e)

  elements_small_more : (es : List Element) (e : Element) → ElementsSmall es → ElementSmall e → ElementsSmall (es ++ (e ∷ []))
  elements_small_more [] e xs x = (x, tt)
  elements_small_more (y ∷ es) e xs x = (xs.0, elements_small_more es e xs.1 x)

  -- A row of expressions that are printed, of elements, of statements, of items.
  pub record PostsCost (n : ℕ) (es : List Exp) : Type 0 where
    pub some : 1 ≤ n
    pub size : posts_size names es ≤ 3 * n
    pub depth : 2 * posts_depth es ≤ n + 1
    pub small : ExpsSmall es

  pub posts_cost : (n : ℕ) (es : Row Exp) → RowCosts exp n es → PostsCost n (all_of es)
  posts_cost n (one e) c = record { some = c.some; size = omega (arith, c.some, c.size); depth = omega (arith, c.depth); small = (c.small, tt) }
  posts_cost n (more es e) c =
      let xs = posts_cost c.0 es c.3 in
      let x : ExpCosts c.1 e = c.4 in
      let is = c.2 in
      record {
        some = omega (arith, is);
        size = omega (arith, is, posts_longer (all_of es) e, xs.size, x.size, x.some);
        depth = omega (arith, is, posts_deeper (all_of es) e, xs.depth, x.depth);
        small = exps_small_more (all_of es) e xs.small x.small;
      }

  pub record ElementsCost (n : ℕ) (es : List Element) : Type 0 where
    pub some : 1 ≤ n
    pub size : (t : ValueType) → elements_size names t es + length es ≤ 5 * n + 5
    pub depth : 2 * elements_depth es ≤ n + 1
    pub few : length es ≤ n
    pub small : ElementsSmall es

  pub elements_cost : (n : ℕ) (es : Row Element) → RowCosts element n es → ElementsCost n (all_of es)
  elements_cost n (one e) c = record {
    some = c.some;
    size = λ t. omega (arith, c.size t);
    depth = omega (arith, c.some, c.depth);
    few = omega (arith, c.some);
    small = (c.small, tt);
  }
  elements_cost n (more es e) c =
      let xs = elements_cost c.0 es c.3 in
      let x : ElementCosts c.1 e = c.4 in
      let is = c.2 in
      record {
        some = omega (arith, is);
        size = λ t. omega (arith, is, elements_longer t (all_of es) e, one_longer (all_of es) e, xs.size t, x.size t);
        depth = omega (arith, is, elements_deeper (all_of es) e, xs.depth, x.depth);
        few = omega (arith, is, one_longer (all_of es) e, xs.few, x.some);
        small = elements_small_more (all_of es) e xs.small x.small;
      }

  pub block_costs : (n : ℕ) (ss : Row Statement) → RowCosts statement n ss → StatementCosts n (block ss)
  block_costs n (one s) c = c
  block_costs n (more ss s) c =
      let xs = block_costs c.0 ss c.3 in
      let x : StatementCosts c.1 s = c.4 in
      let is = c.2 in
      record {
        some = omega (arith, is);
        size = omega (arith, is, xs.size, x.size);
        depth = omega (arith, is, xs.depth, x.depth);
        small = (xs.small, x.small);
      }

  pub labels_cost : (n : ℕ) (xs : Row Name) → RowCosts identifier n xs → row_length xs ≤ n
  labels_cost n (one x) c = c
  labels_cost n (more xs x) c = let is = c.2 in omega (arith, is, labels_cost c.0 xs c.3, c.4)

  -- Two statements, where there are two.
  followed_size : (s t : Option Statement) → text_size names (followed_by s t) ≡ text_size names s + text_size names t
  followed_size None None = omega arith
  followed_size None (Some t) = omega arith
  followed_size (Some s) None = omega arith
  followed_size (Some s) (Some t) = omega arith

  followed_depth : (s t : Option Statement) → text_depth (followed_by s t) ≤ max (text_depth s) (text_depth t)
  followed_depth None None = omega arith
  followed_depth None (Some t) = omega arith
  followed_depth (Some s) None = omega arith
  followed_depth (Some s) (Some t) = omega arith

  followed_small : (s t : Option Statement) → TextSmall s → TextSmall t → TextSmall (followed_by s t)
  followed_small None None x y = tt
  followed_small None (Some t) x y = y
  followed_small (Some s) None x y = x
  followed_small (Some s) (Some t) x y = (x, y)

  pub record ProgramCosts (n : ℕ) (t : Program) : Type 0 where
    pub size : text_size names (statements t) + program_tables t ≤ 5 * n
    pub depth : 2 * text_depth (statements t) ≤ n + 1
    pub small : TextSmall (statements t)

  pub program_costs : (n : ℕ) (t : Program) → RowCosts item n t → ProgramCosts n t
  program_costs n (one i) c = record { size = c.size; depth = c.depth; small = c.small }
  program_costs n (more is i) c =
      let xs = program_costs c.0 is c.3 in
      let x : ItemCosts c.1 i = c.4 in
      let sum = c.2 in
      record {
        size = omega (arith, sum, followed_size (statements is) (statement_of i), xs.size, x.size);
        depth = omega (arith, sum, followed_depth (statements is) (statement_of i), xs.depth, x.depth);
        small = followed_small (statements is) (statement_of i) xs.small x.small;
      }
