-- Names entered one after the other, and the numbers of their lines.
use Rattle.std.proofs.Common.{◌≡◌, ℕ, ◌+◌, ◌≤◌, Bool, true, false, cond, List, [], ◌∷◌, ◌++◌, length, Some, None, refl, ap, ◌∙◌, arith}
use Rattle.std.specs.Str.{bytes_eq}
use Rattle.std.proofs.lemmas.List.{length_push, length-append}
use Rattle.grammar.specs.Tree.{Name}
use Rattle.symbols.specs.Symbols.{has_name, with_name}
use Rattle.analysis.specs.LineSearch.{line_from}
use Rattle.analysis.specs.Lines.{letters_of}
use Rattle.analysis.specs.Numbering.{names_among}
use Rattle.symbols.proofs.Table.{to_same}
use Rattle.words.specs.Token.{Token, Word, name, number, keyword, mark, sign, scaling, relation}
use Rattle.grammar.specs.Meaning.{name_count, names}
use Rattle.symbols.specs.TextOrder.{name_at, named_words}

-- A name has a line just where it is among the names.
pub found_has : (ns : List Name) (x : List ℕ) (j k : ℕ) → line_from j x (letters_of ns) ≡ Some k → has_name ns x ≡ true
found_has [] x j k h = let z : ◌≡◌ {A = ℕ} 0 1 = cc in absurd (omega arith)
found_has (m ∷ ns) x j k h = go (bytes_eq x m.letters) h (found_has ns x (j + 1) k)
  where
    go : (b : Bool) → cond b (Some j) (line_from (j + 1) x (letters_of ns)) ≡ Some k → (line_from (j + 1) x (letters_of ns) ≡ Some k → has_name ns x ≡ true) → cond b true (has_name ns x) ≡ true
    go true e rest = refl
    go false e rest = rest e

pub none_has : (ns : List Name) (x : List ℕ) (j : ℕ) → line_from j x (letters_of ns) ≡ None → has_name ns x ≡ false
none_has [] x j h = refl
none_has (m ∷ ns) x j h = go (bytes_eq x m.letters) h (none_has ns x (j + 1))
  where
    go : (b : Bool) → cond b (Some j) (line_from (j + 1) x (letters_of ns)) ≡ None → (line_from (j + 1) x (letters_of ns) ≡ None → has_name ns x ≡ false) → cond b true (has_name ns x) ≡ false
    go true e rest = let z : ◌≡◌ {A = ℕ} 0 1 = cc in absurd (omega arith)
    go false e rest = rest e

-- A name keeps its line where others are entered, and a new one gets the next.
pub index_append : (x : List ℕ) (ys zs : List (List ℕ)) (j k : ℕ) → line_from j x ys ≡ Some k → line_from j x (ys ++ zs) ≡ Some k
index_append x [] zs j k h = let z : ◌≡◌ {A = ℕ} 0 1 = cc in absurd (omega arith)
index_append x (y ∷ ys) zs j k h = go (bytes_eq x y) h (index_append x ys zs (j + 1) k)
  where
    go : (b : Bool) → cond b (Some j) (line_from (j + 1) x ys) ≡ Some k → (line_from (j + 1) x ys ≡ Some k → line_from (j + 1) x (ys ++ zs) ≡ Some k) → cond b (Some j) (line_from (j + 1) x (ys ++ zs)) ≡ Some k
    go true e rest = e
    go false e rest = rest e

pub index_push : (x : List ℕ) (ys : List (List ℕ)) (j : ℕ) → line_from j x ys ≡ None → line_from j x (ys ++ x ∷ []) ≡ Some (j + length ys)
index_push x [] j h = let q : j ≡ j + 0 = omega arith in ap (λ (b : Bool). cond b (Some j) None) (to_same x x refl) ∙ ap Some q
index_push x (y ∷ ys) j h = go (bytes_eq x y) h (index_push x ys (j + 1))
  where
    go : (b : Bool) → cond b (Some j) (line_from (j + 1) x ys) ≡ None → (line_from (j + 1) x ys ≡ None → line_from (j + 1) x (ys ++ x ∷ []) ≡ Some (j + 1 + length ys)) → cond b (Some j) (line_from (j + 1) x (ys ++ x ∷ [])) ≡ Some (j + length (y ∷ ys))
    go true e rest = let z : ◌≡◌ {A = ℕ} 0 1 = cc in absurd (omega arith)
    go false e rest = let q : j + 1 + length ys ≡ j + length (y ∷ ys) = omega arith in rest e ∙ ap Some q

-- Entering names takes none away.
pub among_grows : (ns xs : List Name) → length ns ≤ length (names_among ns xs)
among_grows ns [] = omega arith
among_grows ns (x ∷ xs) =
    let a : length ns ≤ length (with_name ns x) = go (has_name ns x.letters) in
    let b : length (with_name ns x) ≤ length (names_among (with_name ns x) xs) = among_grows (with_name ns x) xs in
    omega arith
  where
    go : (b : Bool) → length ns ≤ length (cond b ns (ns ++ x ∷ []))
    go true = omega arith
    go false = let l = length_push ns x in omega arith

-- There are no more lines than words that are names.
among_bound : (ns xs : List Name) → length (names_among ns xs) ≤ length ns + length xs
among_bound ns [] = omega arith
among_bound ns (x ∷ xs) =
    let a : length (with_name ns x) ≤ length ns + 1 = go (has_name ns x.letters) in
    let b : length (names_among (with_name ns x) xs) ≤ length (with_name ns x) + length xs = among_bound (with_name ns x) xs in
    omega arith
  where
    go : (b : Bool) → length (cond b ns (ns ++ x ∷ [])) ≤ length ns + 1
    go true = omega arith
    go false = let l = length_push ns x in omega arith

pub one_name : (t : Token) (p : ℕ) → length (name_at t p) ≡ name_count t
one_name (name n) p = refl
one_name (number n) p = refl
one_name (keyword k) p = refl
one_name (mark m) p = refl
one_name (sign s) p = refl
one_name (scaling s) p = refl
one_name (relation r) p = refl

named_count : (ws : List Word) → length (named_words ws) ≡ names ws
named_count [] = refl
named_count (w ∷ ws) =
    let a = length-append (name_at w.token w.place) (named_words ws) in
    let b = one_name w.token w.place in
    let c = named_count ws in
    omega arith

pub few_lines : (ws : List Word) → length (names_among [] (named_words ws)) ≤ names ws
few_lines ws = let a = among_bound [] (named_words ws) in let b = named_count ws in omega arith
