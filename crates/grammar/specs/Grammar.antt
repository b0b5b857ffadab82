-- The grammar: `Derives p l ws rs t` says that the words of ws up to rs are the phrase p, nested in at most l levels, and
-- that t is its tree. There is a constructor for each way in which the rules of docs/grammar.md write a phrase.
use Rattle.std.specs.Prelude.{◌≡◌, ℕ, suc, ◌<◌, ◌≤◌, List, ◌∷◌}
use Rattle.words.specs.declared.token.Sign.{Sign}
use Rattle.words.specs.declared.token.Sign.TheVariants.{Plus}
use Rattle.words.specs.declared.token.Relation.{Relation}
use Rattle.words.specs.declared.token.Mark.{Mark}
use Rattle.words.specs.declared.token.Mark.TheVariants.{Semicolon, Colon, Becomes, Into, Comma, OpenRound, CloseRound, OpenSquare, CloseSquare}
use Rattle.words.specs.declared.token.Keyword.TheVariants.{Begin, End, If, For, Go, To, Switch, Integer, Boolean, Array, Comment, In, Print, Stop}
use Rattle.words.specs.Token.{Token, Word, name, number, keyword, mark, sign, relation}
use Rattle.grammar.specs.declared.operator.Operator.{Operator}
use Rattle.grammar.specs.declared.operator.Prefix.{Prefix}
use Rattle.grammar.specs.Tree.{Row, one, more, Name, Exp, literal, prefixed, joined, bracketed, compared, Variable, whole, indexed, value_of, Element, single, progression, Statement, labelled, conditional, repeated, assigned, go, switched, input, printed, stop, block, Bound, Group, Item, comment, integer, boolean, array, switch, action}
use Rattle.grammar.specs.Classes.{rank, prefix_rank, operand_rank, operator_token, prefix_token}

-- The parts of a text. An expression of rank r is a row of operators of that rank between expressions of rank r + 1;
-- of rank 7 it is a factor.
pub data Part : Type 0 where
  ranked : ℕ → Part
  factor variable identifier bound group element statement item : Part

abbrev pub exp : Part
exp = ranked 1

-- A part, or a row of parts with a separator between any two.
pub data Phrase : Type 0 where
  a : Part → Phrase
  row : Part → Phrase

abbrev pub program : Phrase
program = row item

-- Statements and items are parted by `;`, all other parts by `,`.
abbrev pub separator : Part → Mark
separator (ranked r) = Comma
separator factor = Comma
separator variable = Comma
separator identifier = Comma
separator bound = Comma
separator group = Comma
separator element = Comma
separator statement = Semicolon
separator item = Semicolon

abbrev pub Tree : Part → Type 0
Tree (ranked r) = Exp
Tree factor = Exp
Tree variable = Variable
Tree identifier = Name
Tree bound = Bound
Tree group = Group
Tree element = Element
Tree statement = Statement
Tree item = Item

abbrev pub Value : Phrase → Type 0
Value (a p) = Tree p
Value (row p) = Row (Tree p)

abbrev pub Is : Word → Token → Type 0
Is w t = w.token ≡ t

abbrev pub named : List ℕ → Word → Name
named n w = record { letters = n; place = w.place }

pub data Derives : (p : Phrase) → ℕ → List Word → List Word → Value p → Type 0 where
  -- part {separator part}
  alone : {p : Part} {l : ℕ} {ws rs : List Word} {t : Tree p} → Derives (a p) l ws rs t → Derives (row p) l ws rs (one t)
  another : {p : Part} {l : ℕ} {s : Word} {ws ms rs : List Word} {ts : Row (Tree p)} {t : Tree p}
      → Derives (row p) l ws (s ∷ ms) ts → Is s (mark (separator p)) → Derives (a p) l ms rs t → Derives (row p) l ws rs (more ts t)
  -- name
  a_name : {l : ℕ} {n : List ℕ} {w : Word} {rs : List Word} → Is w (name n) → Derives (a identifier) l (w ∷ rs) rs (named n w)
  -- place: name, or name [ exp ]
  a_whole : {l : ℕ} {n : List ℕ} {w : Word} {rs : List Word} → Is w (name n) → Derives (a variable) l (w ∷ rs) rs (whole (named n w))
  an_indexed : {l m : ℕ} {n : List ℕ} {w o c : Word} {ws rs : List Word} {i : Exp} → l < m
      → Is w (name n) → Is o (mark OpenSquare) → Derives (a exp) l ws (c ∷ rs) i → Is c (mark CloseSquare)
      → Derives (a variable) m (w ∷ o ∷ ws) rs (indexed (named n w) i)
  -- factor: number, place, ( exp ) or ( exp rel exp )
  a_number : {l n : ℕ} {w : Word} {rs : List Word} → Is w (number n) → Derives (a factor) l (w ∷ rs) rs (literal n w.place)
  a_value : {l : ℕ} {ws rs : List Word} {v : Variable} → Derives (a variable) l ws rs v → Derives (a factor) l ws rs (value_of v)
  in_brackets : {l m : ℕ} {o c : Word} {ws rs : List Word} {x : Exp} → l < m
      → Is o (mark OpenRound) → Derives (a exp) l ws (c ∷ rs) x → Is c (mark CloseRound) → Derives (a factor) m (o ∷ ws) rs (bracketed o.place x)
  a_comparison : {l m : ℕ} {o r c : Word} {q : Relation} {ws ms rs : List Word} {x y : Exp} → l < m
      → Is o (mark OpenRound) → Derives (a exp) l ws (r ∷ ms) x → Is r (relation q) → Derives (a exp) l ms (c ∷ rs) y → Is c (mark CloseRound)
      → Derives (a factor) m (o ∷ ws) rs (compared q o.place x y)
  -- expressions: a factor; an operand alone, or a row with one operator more; `not` or a sign before an operand
  a_factor : {l r : ℕ} {ws rs : List Word} {x : Exp} → 7 ≤ r → Derives (a factor) l ws rs x → Derives (a (ranked r)) l ws rs x
  an_operand : {l r : ℕ} {ws rs : List Word} {x : Exp} → Derives (a (ranked (suc r))) l ws rs x → Derives (a (ranked r)) l ws rs x
  operated : {l : ℕ} {o : Operator} {w : Word} {ws ms rs : List Word} {x y : Exp} → Derives (a (ranked (rank o))) l ws (w ∷ ms) x
      → Is w (operator_token o) → Derives (a (ranked (suc (rank o)))) l ms rs y → Derives (a (ranked (rank o))) l ws rs (joined o x y)
  after_prefix : {l : ℕ} {o : Prefix} {w : Word} {ws rs : List Word} {x : Exp} → Is w (prefix_token o)
      → Derives (a (ranked (operand_rank o))) l ws rs x → Derives (a (ranked (prefix_rank o))) l (w ∷ ws) rs (prefixed o w.place x)
  -- element: exp, or exp ( exp ) exp
  a_single : {l : ℕ} {ws rs : List Word} {x : Exp} → Derives (a exp) l ws rs x → Derives (a element) l ws rs (single x)
  a_progression : {l m : ℕ} {o c : Word} {ws ms ns rs : List Word} {x y z : Exp} → l < m → Derives (a exp) m ws (o ∷ ms) x
      → Is o (mark OpenRound) → Derives (a exp) l ms (c ∷ ns) y → Is c (mark CloseRound) → Derives (a exp) m ns rs z
      → Derives (a element) m ws rs (progression x y z)
  -- statement
  a_label : {l : ℕ} {n : List ℕ} {w c : Word} {ws rs : List Word} {s : Statement} → Is w (name n) → Is c (mark Colon)
      → Derives (a statement) l ws rs s → Derives (a statement) l (w ∷ c ∷ ws) rs (labelled (named n w) s)
  an_assignment : {l : ℕ} {b : Word} {ws ms rs : List Word} {v : Variable} {x : Exp} → Derives (a variable) l ws (b ∷ ms) v → Is b (mark Becomes)
      → Derives (a exp) l ms rs x → Derives (a statement) l ws rs (assigned v x)
  a_conditional : {l m : ℕ} {i c : Word} {ws ms rs : List Word} {x : Exp} {s : Statement} → l < m → Is i (keyword If)
      → Derives (a exp) l ws (c ∷ ms) x → Is c (mark Semicolon) → Derives (a statement) l ms rs s
      → Derives (a statement) m (i ∷ ws) rs (conditional i.place x s)
  a_repetition : {l m : ℕ} {n : List ℕ} {f w b c : Word} {ws ms rs : List Word} {es : Row Element} {s : Statement} → l < m → Is f (keyword For)
      → Is w (name n) → Is b (mark Becomes) → Derives (row element) l ws (c ∷ ms) es → Is c (mark Semicolon) → Derives (a statement) l ms rs s
      → Derives (a statement) m (f ∷ w ∷ b ∷ ws) rs (repeated f.place (named n w) es s)
  a_block : {l m : ℕ} {b e : Word} {ws rs : List Word} {ss : Row Statement} → l < m → Is b (keyword Begin)
      → Derives (row statement) l ws (e ∷ rs) ss → Is e (keyword End) → Derives (a statement) m (b ∷ ws) rs (block ss)
  a_jump : {l : ℕ} {n : List ℕ} {g t w : Word} {rs : List Word} → Is g (keyword Go) → Is t (keyword To) → Is w (name n)
      → Derives (a statement) l (g ∷ t ∷ w ∷ rs) rs (go g.place (named n w))
  a_switched_jump : {l m : ℕ} {n : List ℕ} {g t w o c : Word} {ws rs : List Word} {i : Exp} → l < m → Is g (keyword Go) → Is t (keyword To) → Is w (name n)
      → Is o (mark OpenSquare) → Derives (a exp) l ws (c ∷ rs) i → Is c (mark CloseSquare)
      → Derives (a statement) m (g ∷ t ∷ w ∷ o ∷ ws) rs (switched g.place (named n w) i)
  an_input : {l m : ℕ} {i t o c : Word} {ws rs : List Word} {v : Variable} → l < m → Is i (keyword In) → Is t (mark Into) → Is o (mark OpenRound)
      → Derives (a variable) l ws (c ∷ rs) v → Is c (mark CloseRound) → Derives (a statement) m (i ∷ t ∷ o ∷ ws) rs (input i.place v)
  a_print : {l m : ℕ} {p o c : Word} {ws rs : List Word} {xs : Row Exp} → l < m → Is p (keyword Print) → Is o (mark OpenRound)
      → Derives (row exp) l ws (c ∷ rs) xs → Is c (mark CloseRound) → Derives (a statement) m (p ∷ o ∷ ws) rs (printed p.place xs)
  a_stop : {l : ℕ} {w : Word} {rs : List Word} → Is w (keyword Stop) → Derives (a statement) l (w ∷ rs) rs (stop w.place)
  -- group: names [ bound : bound ], where a bound is a number with or without a sign
  a_signed_bound : {l n : ℕ} {s : Sign} {w v : Word} {rs : List Word} → Is w (sign s) → Is v (number n) → Derives (a bound) l (w ∷ v ∷ rs) rs (record { sign = s; size = n })
  a_plain_bound : {l n : ℕ} {w : Word} {rs : List Word} → Is w (number n) → Derives (a bound) l (w ∷ rs) rs (record { sign = Plus; size = n })
  a_group : {l m : ℕ} {o c e : Word} {ws ms ns rs : List Word} {xs : Row Name} {x y : Bound} → l < m → Derives (row identifier) m ws (o ∷ ms) xs
      → Is o (mark OpenSquare) → Derives (a bound) l ms (c ∷ ns) x → Is c (mark Colon) → Derives (a bound) l ns (e ∷ rs) y → Is e (mark CloseSquare)
      → Derives (a group) m ws rs (record { names = xs; bracket = o.place; low = x; high = y })
  -- item
  a_comment : {l : ℕ} {w : Word} {rs : List Word} → Is w (keyword Comment) → Derives (a item) l (w ∷ rs) rs comment
  integers : {l m : ℕ} {w o c : Word} {ws rs : List Word} {xs : Row Name} → l < m → Is w (keyword Integer) → Is o (mark OpenRound)
      → Derives (row identifier) l ws (c ∷ rs) xs → Is c (mark CloseRound) → Derives (a item) m (w ∷ o ∷ ws) rs (integer xs)
  booleans : {l m : ℕ} {w o c : Word} {ws rs : List Word} {xs : Row Name} → l < m → Is w (keyword Boolean) → Is o (mark OpenRound)
      → Derives (row identifier) l ws (c ∷ rs) xs → Is c (mark CloseRound) → Derives (a item) m (w ∷ o ∷ ws) rs (boolean xs)
  arrays : {l m : ℕ} {w o c : Word} {ws rs : List Word} {gs : Row Group} → l < m → Is w (keyword Array) → Is o (mark OpenRound)
      → Derives (row group) l ws (c ∷ rs) gs → Is c (mark CloseRound) → Derives (a item) m (w ∷ o ∷ ws) rs (array gs)
  a_switch : {l m : ℕ} {n : List ℕ} {w v b o c : Word} {ws rs : List Word} {xs : Row Name} → l < m → Is w (keyword Switch) → Is v (name n) → Is b (mark Becomes)
      → Is o (mark OpenRound) → Derives (row identifier) l ws (c ∷ rs) xs → Is c (mark CloseRound) → Derives (a item) m (w ∷ v ∷ b ∷ o ∷ ws) rs (switch (named n v) xs)
  an_action : {l : ℕ} {ws rs : List Word} {s : Statement} → Derives (a statement) l ws rs s → Derives (a item) l ws rs (action s)
