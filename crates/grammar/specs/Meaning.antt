-- What the defined reading means, in the words of the grammar alone. A sentence is a program that takes all the words.
use Rattle.std.specs.Prelude.{◌≡◌, ℕ, ◌+◌, ◌*◌, ◌≤◌, true, ◌⊎◌, List, [], ◌∷◌, ◌++◌, length}
use Rattle.words.specs.Token.{Token, Word, name, number, keyword, mark, sign, scaling, relation}
use Rattle.grammar.specs.declared.refusal.SentenceRefusal.TheVariants.{Unexpected, TooDeep}
use Rattle.grammar.specs.Tree.{Program}
use Rattle.grammar.specs.Classes.{opens}
use Rattle.grammar.specs.Grammar.{program, Derives}
use Rattle.grammar.specs.Parser.{tree, refused, parsed}

-- The words are a sentence of at most l levels, and t is its tree.
abbrev pub Sentence : ℕ → List Word → Program → Type 0
Sentence l ws t = Derives program l ws [] t

-- Some sentence, of whatever depth, begins with these words.
abbrev pub Begins : List Word → Type 0
Begins ws = (l : ℕ) × (more : List Word) × (t : Program) × Sentence l (ws ++ more) t

-- At place p stands the first word with which no sentence can go on: those before it begin one, with it they begin none.
pub record Impossible (ws : List Word) (p : ℕ) : Type 0 where
  pub before : List Word
  pub word : Word
  pub after : List Word
  pub whole : ws ≡ before ++ word ∷ after
  pub place : p ≡ word.place
  pub possible : Begins before
  pub first : Begins (before ++ word ∷ []) → ⊥

-- The words begin a sentence, and are none.
pub record Unfinished (ws : List Word) : Type 0 where
  pub possible : Begins ws
  pub unfinished : (l : ℕ) (t : Program) → Sentence l ws t → ⊥

-- At place p stands a word that opens a level, and the words up to it begin a sentence, but none within the limit.
pub record IsTooDeep (limit : ℕ) (ws : List Word) (p : ℕ) : Type 0 where
  pub before : List Word
  pub word : Word
  pub after : List Word
  pub whole : ws ≡ before ++ word ∷ after
  pub place : p ≡ word.place
  pub opening : opens word.token ≡ true
  pub possible : Begins (before ++ word ∷ [])
  pub deep : (more : List Word) (t : Program) → Sentence limit ((before ++ word ∷ []) ++ more) t → ⊥

-- Every tree that is read derives from the words.
abbrev pub Sound : Type 0
Sound = (limit end : ℕ) (ws : List Word) (t : Program) → parsed limit end ws ≡ tree t → Sentence limit ws t

-- Every sentence within the limit is read to its tree.
abbrev pub Complete : Type 0
Complete = (limit end : ℕ) (ws : List Word) (t : Program) → Sentence limit ws t → parsed limit end ws ≡ tree t

-- A sentence has one tree.
abbrev pub Unambiguous : Type 0
Unambiguous = (l m : ℕ) (ws : List Word) (t u : Program) → Sentence l ws t → Sentence m ws u → t ≡ u

-- Refusal 5, unexpected, names the first impossible word, or the text's end where the words could go on to a sentence.
abbrev pub UnexpectedWords : Type 0
UnexpectedWords = (limit end : ℕ) (ws : List Word) (p : ℕ) → parsed limit end ws ≡ refused Unexpected p → Impossible ws p ⊎ ((p ≡ end) × Unfinished ws)

-- Refusal 6, too deep, names a word that opens a level too many.
abbrev pub TooDeepWords : Type 0
TooDeepWords = (limit end : ℕ) (ws : List Word) (p : ℕ) → parsed limit end ws ≡ refused TooDeep p → IsTooDeep limit ws p

-- An early end is told wherever the words could go on to a sentence, unless they are too deep already.
abbrev pub EarlyEnds : Type 0
EarlyEnds = (limit end : ℕ) (ws : List Word) → Unfinished ws → (parsed limit end ws ≡ refused Unexpected end) ⊎ ((p : ℕ) × (parsed limit end ws ≡ refused TooDeep p))

abbrev pub name_count : Token → ℕ
name_count (name n) = 1
name_count (number n) = 0
name_count (keyword k) = 0
name_count (mark m) = 0
name_count (sign s) = 0
name_count (scaling s) = 0
name_count (relation r) = 0

-- How many words are names.
abbrev pub names : List Word → ℕ
names [] = 0
names (w ∷ ws) = name_count w.token + names ws

-- A sentence has at most one name more than other words.
abbrev pub FewNames : Type 0
FewNames = (l : ℕ) (ws : List Word) (t : Program) → Sentence l ws t → 2 * names ws ≤ length ws + 1
