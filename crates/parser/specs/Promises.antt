-- What the parser's methods promise, each for whatever stands around the part that it reads.
use Rattle.std.specs.Prelude.{◌≡◌, ℕ, suc, ◌+◌, ◌<◌, ◌≤◌, Bool, cond, List, [], ◌∷◌, length, Some, None, Ok, Err, Option, Result, slice_index_or, slice_set}
use Rattle.words.specs.declared.word.Word.{Word as WordRecord}
use Rattle.words.specs.Token.{Word}
use Rattle.words.specs.Records.{word_in}
use Rattle.grammar.specs.Grammar.{Phrase, Value}
use Rattle.grammar.specs.Parser.{Script, done, Around, State, at, refused, run}
use Rattle.parser.specs.declared.node.Node.{Node}
use Rattle.parser.specs.declared.node.Node.TheVariants.{Empty}
use Rattle.parser.specs.declared.refusal.Refusal.{Refusal}
use Rattle.parser.specs.declared.table.Parser.{Parser}
use Rattle.parser.specs.Records.{nodes, all, ahead, View, view}

-- i where there is something.
abbrev pub instead : {A : Type 0} → ℕ → Option A → Option ℕ
instead i None = None
instead i (Some x) = Some i

abbrev pub next : List Word → Option Word
next [] = None
next (w ∷ ws) = Some w

abbrev pub in_text : List ℕ → Option WordRecord → Option Word
in_text text None = None
in_text text (Some w) = Some (word_in text w)

abbrev pub place_of : ℕ → List Word → ℕ
place_of end [] = end
place_of end (w ∷ ws) = w.place

-- The text and its words are as they were, and the table is the same loan.
pub record SameText (r s : Parser) : Type 0 where
  pub text : s.text.now ≡ r.text.now
  pub words : all s ≡ all r
  pub count : s.count ≡ r.count
  pub lent : s.table.ghost_name ≡ r.table.ghost_name
  pub size : length s.table.now ≡ length r.table.now

-- The next word was taken, or not.
pub record Took (b : Bool) (r s : Parser) : Type 0 where
  pub same : SameText r s
  pub nodes : nodes s.table.now ≡ nodes r.table.now
  pub made : s.made ≡ r.made
  pub at : s.at ≡ cond b (r.at + 1) r.at

-- Node i was made.
pub record Made (n : Node) (i : ℕ) (r s : Parser) : Type 0 where
  pub same : SameText r s
  pub nodes : nodes s.table.now ≡ slice_set (nodes r.table.now) r.made n
  pub made : s.made ≡ r.made + 1
  pub at : s.at ≡ r.at
  pub place : i ≡ r.made

-- From r to s: words were taken, and at most as many nodes made; the nodes made before stand.
pub record Moves (r s : Parser) : Type 0 where
  pub same : SameText r s
  pub on : r.at ≤ s.at
  pub more : r.made ≤ s.made
  pub thrift : s.made + r.at ≤ r.made + s.at
  pub kept : (j : ℕ) → j < r.made → slice_index_or (nodes s.table.now) j Empty ≡ slice_index_or (nodes r.table.now) j Empty

-- A script in hand, at the level where the reading of a part began, or one deeper.
pub data Spot (p : Phrase) : Type 0 where
  here : Script p → Spot p
  deeper : Script p → Spot p

abbrev pub state : {p : Phrase} → Spot p → ℕ → Around p → State
state (here s) d k = at d s k
state (deeper s) d k = at (suc d) s k

-- With so many levels left, the machine comes from spot a to spot b while the parser goes from r to s.
pub record Goes {p : Phrase} (levels : ℕ) (r s : Parser) (a b : Spot p) : Type 0 where
  pub moves : Moves r s
  pub leads : (limit d : ℕ) (k : Around p) → d + levels ≡ limit
      → run limit (length r.text.now) (ahead r) (state a d k) ≡ run limit (length r.text.now) (ahead s) (state b d k)

-- From spot a the machine refuses as e says.
abbrev pub Fails : {p : Phrase} → ℕ → Parser → Spot p → Refusal → Type 0
Fails {p} levels r a e = (limit d : ℕ) (k : Around p) → d + levels ≡ limit → run limit (length r.text.now) (ahead r) (state a d k) ≡ refused e.reason e.place

-- A part was read from r to s: its tree stands at node i.
pub record Read {p : Phrase} (At : View → Value p → ℕ → Type 0) (levels : ℕ) (r s : Parser) (a : Spot p) (i : ℕ) : Type 0 where
  pub tree : Value p
  pub below : i < s.made
  pub held : At (view s) tree i
  pub goes : Goes levels r s a (here (done tree))

-- A method reads a part as the machine does, or refuses as the machine does.
abbrev pub Reads : {p : Phrase} → (View → Value p → ℕ → Type 0) → ℕ → Parser → Parser → Spot p → Result ℕ Refusal → Type 0
Reads At levels r s a (Ok i) = Read At levels r s a i
Reads At levels r s a (Err e) = Fails levels r a e

-- A part was read from r to s: its tree stands at node i, and the machine comes from spot a to the spot that the tree leads to.
pub record Passed {p : Phrase} {A : Type 0} (At : View → A → ℕ → Type 0) (levels : ℕ) (r s : Parser) (a : Spot p) (next : A → Spot p) (i : ℕ) : Type 0 where
  pub tree : A
  pub below : i < s.made
  pub held : At (view s) tree i
  pub goes : Goes levels r s a (next tree)

abbrev pub Passes : {p : Phrase} {A : Type 0} → (View → A → ℕ → Type 0) → ℕ → Parser → Parser → Spot p → (A → Spot p) → Result ℕ Refusal → Type 0
Passes At levels r s a next (Ok i) = Passed At levels r s a next i
Passes At levels r s a next (Err e) = Fails levels r a e
