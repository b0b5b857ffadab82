-- The line of a name, by its letters.
use Rattle.std.proofs.Common.{◌≡◌, ℕ, suc, ◌+◌, ◌<◌, Bool, true, false, cond, List, [], ◌∷◌, length, get_or, Some, sym, refl, ap, ◌∙◌, arith}
use Rattle.std.specs.Str.{bytes_eq}
use Rattle.std.proofs.lemmas.Slice.Eq.{bytes_eq-Decides}
use Rattle.std.proofs.lemmas.List.{length-map, get_or-map}
use Rattle.grammar.specs.Tree.{Name}
use Rattle.analysis.specs.LineSearch.{line_from}
use Rattle.analysis.specs.Lines.{letters_of, line_of}

-- What is found has the letters sought.
pub record Found (x : List ℕ) (ys : List (List ℕ)) (j k : ℕ) : Type 0 where
  pub at : ℕ
  pub number : k ≡ j + at
  pub within : at < length ys
  pub same : (e : List ℕ) → get_or ys at e ≡ x

pub index_found : (x : List ℕ) (ys : List (List ℕ)) (j k : ℕ) → line_from j x ys ≡ Some k → Found x ys j k
index_found x [] j k h = let z : ◌≡◌ {A = ℕ} 0 1 = cc in absurd (omega arith)
index_found x (y ∷ ys) j k h = go (bytes_eq x y) refl h (index_found x ys (j + 1) k)
  where
    go : (b : Bool) → bytes_eq x y ≡ b → cond b (Some j) (line_from (j + 1) x ys) ≡ Some k → (line_from (j + 1) x ys ≡ Some k → Found x ys (j + 1) k) → Found x (y ∷ ys) j k
    go true s e rest = let q : j ≡ k = cc in record { at = 0; number = omega arith; within = omega arith; same = λ d. sym ((bytes_eq-Decides x y).0 s) }
    go false s e rest = let r = rest e in let n = r.number in let l = r.within in record { at = suc r.at; number = omega arith; within = omega arith; same = r.same }

pub record KnownLine (ns : List Name) (x : List ℕ) (k : ℕ) : Type 0 where
  pub within : k < length ns
  pub same : (e : Name) → (get_or ns k e).letters ≡ x

pub known_line : (ns : List Name) (x : List ℕ) (k : ℕ) → line_of ns x ≡ Some k → KnownLine ns x k
known_line ns x k h =
    let r = index_found x (letters_of ns) 0 k h in
    let n = r.number in
    let q : r.at ≡ k = omega arith in
    let l : r.at < length (letters_of ns) = r.within in
    let m : length (letters_of ns) ≡ length ns = length-map ns (λ (n : Name). n.letters) in
    let w : k < length ns = omega arith in
    record {
      within = w;
      same = λ e. sym (get_or-map (λ (n : Name). n.letters) ns k e [] w) ∙ (ap (λ (i : ℕ). get_or (letters_of ns) i []) (sym q) ∙ r.same []);
    }
