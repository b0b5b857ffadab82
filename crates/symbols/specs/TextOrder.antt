-- That occurrences are what they are called: the names among the words of a text, each at its place, in their order.
-- So a name's first appearance in the list is its first appearance in the text.
use Rattle.std.specs.Prelude.{◌≡◌, ℕ, List, [], ◌∷◌, ◌++◌, map}
use Rattle.words.specs.Token.{Token, Word, name, number, keyword, mark, sign, scaling, relation}
use Rattle.grammar.specs.Tree.{Name, Program}
use Rattle.grammar.specs.Meaning.{Sentence}
use Rattle.symbols.specs.Occurrences.{Occurrence, occurrences}

-- The name that a word is, if it is one.
abbrev pub name_at : Token → ℕ → List Name
name_at (name n) p = record { letters = n; place = p } ∷ []
name_at (number n) p = []
name_at (keyword k) p = []
name_at (mark m) p = []
name_at (sign s) p = []
name_at (scaling s) p = []
name_at (relation r) p = []

abbrev pub named_words : List Word → List Name
named_words [] = []
named_words (w ∷ ws) = name_at w.token w.place ++ named_words ws

abbrev pub names_of : List Occurrence → List Name
names_of os = map (λ (o : Occurrence). o.name) os

abbrev pub TextOrder : Type 0
TextOrder = (l : ℕ) (ws : List Word) (t : Program) → Sentence l ws t → named_words ws ≡ names_of (occurrences t)
