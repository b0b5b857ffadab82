-- The work table where a word gets the number of its line: words and nodes stay.
use Rattle.std.proofs.Common.{◌≡◌, ℕ, zero, suc, ◌<◌, List, [], ◌∷◌, length, get_or, set, refl, ap, arith}
use Rattle.words.specs.declared.word.Word.{Word as WordRecord}
use Rattle.parser.specs.declared.node.Node.{Node}
use Rattle.parser.specs.declared.table.Record.{Record}
use Rattle.parser.specs.Records.{words, nodes}
use Rattle.analysis.specs.SymbolTable.{line_numbers}
use Rattle.analysis.specs.NameLines.{word_places}

pub numbers_set : (rs : List Record) (w : ℕ) (r : Record) → line_numbers (set rs w r) ≡ set (line_numbers rs) w r.symbol
numbers_set [] w r = refl
numbers_set (q ∷ rs) zero r = refl
numbers_set (q ∷ rs) (suc w) r = ap (λ (l : List ℕ). q.symbol ∷ l) (numbers_set rs w r)

pub words_set : (rs : List Record) (w : ℕ) (r d : Record) → r.word ≡ (get_or rs w d).word → words (set rs w r) ≡ words rs
words_set [] w r d e = refl
words_set (q ∷ rs) zero r d e = ap (λ (a : WordRecord). a ∷ words rs) e
words_set (q ∷ rs) (suc w) r d e = ap (λ (l : List WordRecord). q.word ∷ l) (words_set rs w r d e)

pub nodes_set : (rs : List Record) (w : ℕ) (r d : Record) → r.node ≡ (get_or rs w d).node → nodes (set rs w r) ≡ nodes rs
nodes_set [] w r d e = refl
nodes_set (q ∷ rs) zero r d e = ap (λ (a : Node). a ∷ nodes rs) e
nodes_set (q ∷ rs) (suc w) r d e = ap (λ (l : List Node). q.node ∷ l) (nodes_set rs w r d e)

pub length_words : (rs : List Record) → length (words rs) ≡ length rs
length_words [] = refl
length_words (r ∷ rs) = ap suc (length_words rs)

pub length_numbers : (rs : List Record) → length (line_numbers rs) ≡ length rs
length_numbers [] = refl
length_numbers (r ∷ rs) = ap suc (length_numbers rs)

pub word_record : (rs : List Record) (w : ℕ) (d : Record) (e : WordRecord) → w < length rs → get_or (words rs) w e ≡ (get_or rs w d).word
word_record [] w d e h = absurd (omega arith)
word_record (r ∷ rs) zero d e h = refl
word_record (r ∷ rs) (suc w) d e h = word_record rs w d e (omega arith)

pub place_of_word : (rs : List Record) (w : ℕ) (e : WordRecord) → w < length (words rs) → get_or (word_places rs) w 0 ≡ (get_or (words rs) w e).place
place_of_word [] w e h = absurd (omega arith)
place_of_word (r ∷ rs) zero e h = refl
place_of_word (r ∷ rs) (suc w) e h = place_of_word rs w e (omega arith)
