-- Sets of labels: adding a label, where no two lines of the table have the same letters.
use Rattle.std.proofs.Common.{◌≡◌, ℕ, zero, suc, ◌<◌, ◌≤◌, Bool, true, false, cond, ◌||◌, ◌⊎◌, List, [], ◌∷◌, ◌++◌, length, get_or, replicate, Some, Option, sym, refl, ap, ◌∙◌, inl, inr, arith}
use Rattle.std.specs.List.{slice_get}
use Rattle.std.specs.Str.{bytes_eq}
use Rattle.std.proofs.lemmas.Slice.Eq.{bytes_eq-Decides}
use Rattle.std.proofs.lemmas.List.{length-replicate, get_or-replicate, get_or_past}
use Rattle.std.proofs.lemmas.Bool.{cases_eq, cases_lt}
use Rattle.symbols.specs.Symbols.{Symbol, lookup}
use Rattle.symbols.specs.Jumps.{is_among}
use Rattle.symbols.specs.Laws.{LinesDiffer}
use Rattle.symbols.proofs.Table.{rest_differ}
use Rattle.analysis.specs.SymbolTable.{Numbered}
use Rattle.analysis.specs.LabelSets.{SmallTable, Sees}

-- A line that is there, with what stands before and behind it.
line_is : (ss : List Symbol) (k : ℕ) → k < length ss → (s : Symbol) × (slice_get ss k ≡ Some s)
line_is [] k h = absurd (omega arith)
line_is (s ∷ ss) zero h = (s, refl)
line_is (s ∷ ss) (suc k) h = line_is ss k (omega arith)

split_at : (ss : List Symbol) (k : ℕ) (s : Symbol) → slice_get ss k ≡ Some s → (between : List Symbol) × (after : List Symbol) × (ss ≡ between ++ s ∷ after)
split_at [] k s e = let z : ◌≡◌ {A = ℕ} 0 1 = cc in absurd (omega arith)
split_at (y ∷ ss) zero s e = let q : y ≡ s = cc in ([], ss, ap (λ (z : Symbol). z ∷ ss) q)
split_at (y ∷ ss) (suc k) s e = let r = split_at ss k s e in (y ∷ r.0, r.1, ap (λ (l : List Symbol). y ∷ l) r.2)

-- Two lines with the same letters are one.
not_again : (y : Symbol) (ss : List Symbol) → LinesDiffer (y ∷ ss) → (k : ℕ) (s : Symbol) → slice_get ss k ≡ Some s → y.name.letters ≡ s.name.letters → ⊥
not_again y ss d k s e same = let r = split_at ss k s e in d [] r.0 r.1 y s (ap (λ (l : List Symbol). y ∷ l) r.2) same

one_line : (ss : List Symbol) → LinesDiffer ss → (j k : ℕ) (s u : Symbol) → slice_get ss j ≡ Some s → slice_get ss k ≡ Some u → s.name.letters ≡ u.name.letters → j ≡ k
one_line [] d j k s u e f same = let z : ◌≡◌ {A = ℕ} 0 1 = cc in absurd (omega arith)
one_line (y ∷ ss) d zero zero s u e f same = refl
one_line (y ∷ ss) d zero (suc k) s u e f same = let q : y ≡ s = cc in absurd (not_again y ss d k u f (ap (λ (z : Symbol). z.name.letters) q ∙ same))
one_line (y ∷ ss) d (suc j) zero s u e f same = let q : y ≡ u = cc in absurd (not_again y ss d j s e (ap (λ (z : Symbol). z.name.letters) q ∙ sym same))
one_line (y ∷ ss) d (suc j) (suc k) s u e f same = ap suc (one_line ss (rest_differ y ss d) j k s u e f same)

-- The line of some letters has them.
found_letters : (ss : List Symbol) (x : List ℕ) (s : Symbol) → lookup ss x ≡ Some s → x ≡ s.name.letters
found_letters [] x s e = let z : ◌≡◌ {A = ℕ} 0 1 = cc in absurd (omega arith)
found_letters (y ∷ ss) x s e = go (bytes_eq x y.name.letters) refl e (found_letters ss x s)
  where
    go : (b : Bool) → bytes_eq x y.name.letters ≡ b → cond b (Some y) (lookup ss x) ≡ Some s → (lookup ss x ≡ Some s → x ≡ s.name.letters) → x ≡ s.name.letters
    go true same f rest = let q : y ≡ s = cc in (bytes_eq-Decides x y.name.letters).0 same ∙ ap (λ (z : Symbol). z.name.letters) q
    go false same f rest = rest f

numbered_letters : (ss : List Symbol) (x : List ℕ) (k : ℕ) → Numbered ss x k → (s : Symbol) × (slice_get ss k ≡ Some s) × (x ≡ s.name.letters)
numbered_letters ss x k n = let l = line_is ss k n.there in (l.0, l.1, found_letters ss x l.0 (sym n.line ∙ l.1))

-- The set with one line more sees one label more.
module _ (ss : List Symbol) (small : SmallTable ss) (lines wider : List Bool) (labels : List (List ℕ)) (y : List ℕ) (k : ℕ) (ny : Numbered ss y k) (sees : Sees ss lines labels)
    (added : k < 256 → get_or wider k false ≡ true) (kept : (j : ℕ) → (j ≡ k → ⊥) → get_or wider j false ≡ get_or lines j false) where
  pub sees_more : Sees ss wider (y ∷ labels)
  sees_more x j nx = go (cases_eq j k)
    where
      a : (s : Symbol) × (slice_get ss j ≡ Some s) × (x ≡ s.name.letters)
      a = numbered_letters ss x j nx

      b : (s : Symbol) × (slice_get ss k ≡ Some s) × (y ≡ s.name.letters)
      b = numbered_letters ss y k ny

      other : (t : Bool) → bytes_eq x y ≡ t → (j ≡ k → ⊥) → get_or lines j false ≡ t || is_among labels x
      other true e d =
          let xy : x ≡ y = (bytes_eq-Decides x y).0 e in
          absurd (d (one_line ss small.differ j k a.0 b.0 a.1 b.1 (sym a.2 ∙ (xy ∙ b.2))))
      other false e d = sees x j nx

      go : (j ≡ k) ⊎ (j ≡ k → ⊥) → get_or wider j false ≡ is_among (y ∷ labels) x
      go (inl e) =
          let few : k < 256 = let t = ny.there in let f = small.few in omega arith in
          let q : ◌≡◌ {A = Option Symbol} (Some a.0) (Some b.0) = sym a.1 ∙ (ap (λ (i : ℕ). slice_get ss i) e ∙ b.1) in
          let su : a.0 ≡ b.0 = cc in
          let xy : x ≡ y = a.2 ∙ (ap (λ (z : Symbol). z.name.letters) su ∙ sym b.2) in
          ap (λ (i : ℕ). get_or wider i false) e ∙ (added few ∙ sym (ap (λ (t : Bool). t || is_among labels x) ((bytes_eq-Decides x y).1 xy)))
      go (inr d) = kept j d ∙ other (bytes_eq x y) refl d

-- The empty set has no line.
pub none_there : (n k : ℕ) → get_or (replicate n false) k false ≡ false
none_there n k = go (cases_lt k n)
  where
    go : (k < n) ⊎ (n ≤ k) → get_or (replicate n false) k false ≡ false
    go (inl h) = get_or-replicate n k false false h
    go (inr h) = get_or_past (replicate n false) k false (let e : length (replicate n false) ≡ n = length-replicate n false in omega arith)
