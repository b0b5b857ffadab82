-- Words and nodes of a table of records.
use Rattle.std.proofs.Common.{◌≡◌, ℕ, zero, suc, ◌<◌, ◌≤◌, List, [], ◌∷◌, map, length, get_or, take, drop, set, Some, None, Option, refl, ap, arith, Bor}
use Rattle.std.specs.Option.{option_map, IfSome, MatchOption}
use Rattle.std.specs.List.{HoldsAt}
use Rattle.words.specs.declared.word.Word.{Word as WordRecord}
use Rattle.words.specs.Token.{Word}
use Rattle.words.specs.Records.{word_in}
use Rattle.parser.specs.declared.node.Node.{Node}
use Rattle.parser.specs.declared.table.Record.{Record}
use Rattle.grammar.specs.Classes.{heads, Class, Content}
use Rattle.grammar.proofs.Found.{none_some}
use Rattle.parser.specs.declared.table.Parser.{Parser}
use Rattle.parser.specs.Records.{words, nodes, all, ahead}
use Rattle.parser.specs.Promises.{next, in_text}

-- A node that is put into the table leaves the words.
pub words_set : (l : List Record) (i : ℕ) (d : Record) (n : Node) → words (set l i (record { word = (get_or l i d).word; symbol = (get_or l i d).symbol; node = n })) ≡ words l
words_set [] i d n = refl
words_set (r ∷ l) zero d n = refl
words_set (r ∷ l) (suc i) d n = ap (λ z. r.word ∷ z) (words_set l i d n)

pub nodes_set : (l : List Record) (i : ℕ) (w : WordRecord) (y : ℕ) (n : Node) → nodes (set l i (record { word = w; symbol = y; node = n })) ≡ set (nodes l) i n
nodes_set [] i w y n = refl
nodes_set (r ∷ l) zero w y n = refl
nodes_set (r ∷ l) (suc i) w y n = ap (λ z. r.node ∷ z) (nodes_set l i w y n)

pub length_nodes : (l : List Record) → length (nodes l) ≡ length l
length_nodes [] = refl
length_nodes (r ∷ l) = ap suc (length_nodes l)

-- The next word is the one in the record.
pub ahead_cons : (text : List ℕ) (n i : ℕ) (l : List Record) (d : Record) → i < n → n ≤ length l
    → drop i (map (word_in text) (take n (words l))) ≡ word_in text (get_or l i d).word ∷ drop (suc i) (map (word_in text) (take n (words l)))
ahead_cons text n i [] d h k = absurd (omega arith)
ahead_cons text zero i (r ∷ l) d h k = absurd (omega arith)
ahead_cons text (suc n) zero (r ∷ l) d h k = refl
ahead_cons text (suc n) (suc i) (r ∷ l) d h k = ahead_cons text n i l d (omega arith) (omega arith)

-- No word is left.
pub ahead_nil : (text : List ℕ) (n i : ℕ) (l : List Record) → n ≤ i → drop i (map (word_in text) (take n (words l))) ≡ []
ahead_nil text zero zero l h = refl
ahead_nil text zero (suc i) l h = refl
ahead_nil text (suc n) zero l h = absurd (omega arith)
ahead_nil text (suc n) (suc i) [] h = refl
ahead_nil text (suc n) (suc i) (r ∷ l) h = ahead_nil text n i l (omega arith)

-- The record that is got among the first n has the next word.
next_got : (text : List ℕ) (n i : ℕ) (l : List Record) (x : Record) → i < length (take n l) → x ≡ get_or (take n l) i x → Some (word_in text x.word) ≡ next (drop i (map (word_in text) (take n (words l))))
next_got text zero i l x h e = absurd (omega arith)
next_got text (suc n) i [] x h e = absurd (omega arith)
next_got text (suc n) zero (r ∷ l) x h e = ap (λ (z : Record). Some (word_in text z.word)) e
next_got text (suc n) (suc i) (r ∷ l) x h e = next_got text n i l x (omega arith) e

next_past : (text : List ℕ) (n i : ℕ) (l : List Record) → length (take n l) ≤ i → None ≡ next (drop i (map (word_in text) (take n (words l))))
next_past text zero zero l h = refl
next_past text zero (suc i) l h = refl
next_past text (suc n) zero [] h = refl
next_past text (suc n) (suc i) [] h = refl
next_past text (suc n) zero (r ∷ l) h = absurd (omega arith)
next_past text (suc n) (suc i) (r ∷ l) h = next_past text n i l (omega arith)

-- What is got among the first n records is the next word, or there is none.
pub word_got : (text : List ℕ) (n i : ℕ) (l : List Record) (o : Option (Bor Record)) → MatchOption o (length (take n l) ≤ i) (λ x. (i < length (take n l)) × HoldsAt (λ y. x.now ≡ y) (take n l) i)
    → IfSome o (λ x. x.now ≡ get_or (take n l) i x.now) → in_text text (option_map (λ x. x.now.word) o) ≡ next (drop i (map (word_in text) (take n (words l))))
word_got text n i l (Some x) m h = next_got text n i l x.now m.0 h
word_got text n i l None m h = next_past text n i l m

-- Where a class has something of the next word, there is one.
head_within : (c : Class) (x : Content c) (xs : List Word) (i : ℕ) → heads c (drop i xs) ≡ Some x → i < length xs
head_within c x [] zero e = none_some e
head_within c x [] (suc i) e = none_some e
head_within c x (w ∷ xs) zero e = omega arith
head_within c x (w ∷ xs) (suc i) e = omega (arith, head_within c x xs i e)

length_all : (text : List ℕ) (n : ℕ) (l : List Record) → length (map (word_in text) (take n (words l))) ≤ n
length_all text zero l = omega arith
length_all text (suc n) [] = omega arith
length_all text (suc n) (r ∷ l) = omega (arith, length_all text n l)

pub word_left : (c : Class) (x : Content c) (p : Parser) → heads c (ahead p) ≡ Some x → p.at < p.count
word_left c x p e = omega (arith, head_within c x (all p) p.at e, length_all p.text.now p.count p.table.now)
