-- The cells of a table's lines, and the rule that there are enough.
use Rattle.std.proofs.Common.{◌≡◌, ℕ, ◌+◌, ◌<◌, ◌≤◌, false, ◌&&◌, ltb, leb, ◌⊎◌, List, [], ◌∷◌, ◌++◌, map, length, sym, refl, ap, subst, inl, inr, arith}
use Rattle.std.proofs.lemmas.Bool.{cases_lt, and_cases, leb-false, ltb-false}
use Rattle.grammar.specs.Tree.{Name, Program}
use Rattle.symbols.specs.declared.refusal.NameRefusal.TheVariants.{TooManyCells}
use Rattle.symbols.specs.Occurrences.{Occurrence, occurrences, fors}
use Rattle.symbols.specs.Symbols.{Symbol, count, line, numbered, names, symbols, named_cells, hidden_cells, kind_of, cells}
use Rattle.symbols.specs.Types.{told}
use Rattle.symbols.specs.Rules.{Claim, claims, passing_claims, accepted, verdict}
use Rattle.symbols.specs.Laws.{In, here, later, CellsInOrder}
use Rattle.symbols.proofs.Lists.{in_middle}
use Rattle.symbols.proofs.Offences.{empty_left, empty_right, nothing_told, accepted_to_keeps_all}

-- Every line's cells lie between the first cell that is given and the last that is used.
pub line_cells : (s : Symbol) (os : List Occurrence) (c : ℕ) (ns : List Name) → In s (numbered os c ns) → (c ≤ s.first) × (s.first + count s ≤ c + named_cells (numbered os c ns))
line_cells s os c [] i = elim i [ ]
line_cells s os c (n ∷ ns) here = (omega arith, omega arith)
line_cells s os c (n ∷ ns) (later i) =
    let h : (c + cells (kind_of os n.letters) ≤ s.first) × (s.first + count s ≤ c + cells (kind_of os n.letters) + named_cells (numbered os (c + cells (kind_of os n.letters)) ns)) = line_cells s os (c + cells (kind_of os n.letters)) ns i in
    (omega arith, omega arith)

-- A line's cells come before those of each later line.
pub lines_apart : (os : List Occurrence) (c : ℕ) (ns : List Name) (before between after : List Symbol) (s s' : Symbol) → numbered os c ns ≡ before ++ s ∷ (between ++ s' ∷ after) → s.first + count s ≤ s'.first
lines_apart os c [] [] between after s s' e = let z : ◌≡◌ {A = ℕ} 0 1 = cc in absurd (omega arith)
lines_apart os c [] (b ∷ before) between after s s' e = let z : ◌≡◌ {A = ℕ} 0 1 = cc in absurd (omega arith)
lines_apart os c (n ∷ ns) [] between after s s' e =
    let d : ℕ = c + cells (kind_of os n.letters) in
    let f : line os c n ≡ s = cc in
    let r : numbered os d ns ≡ between ++ s' ∷ after = cc in
    let P : List Symbol → Type 0 = λ l. In s' l in
    let i : In s' (numbered os d ns) = subst P (sym r) (in_middle between s' after) in
    let h : d ≤ s'.first = (line_cells s' os d ns i).0 in
    let Q : Symbol → Type 0 = λ v. v.first + count v ≤ s'.first in
    subst Q f h
lines_apart os c (n ∷ ns) (b ∷ before) between after s s' e =
    let r : numbered os (c + cells (kind_of os n.letters)) ns ≡ before ++ s ∷ (between ++ s' ∷ after) = cc in
    lines_apart os (c + cells (kind_of os n.letters)) ns before between after s s' r

-- Every cell up to the last that is used is some line's.
pub cells_filled : (os : List Occurrence) (c : ℕ) (ns : List Name) (k : ℕ) → c ≤ k → k < c + named_cells (numbered os c ns) → (s : Symbol) × In s (numbered os c ns) × (s.first ≤ k) × (k < s.first + count s)
cells_filled os c [] k l u = absurd (omega arith)
cells_filled os c (n ∷ ns) k l u = go (cases_lt k (c + cells (kind_of os n.letters))) (cells_filled os (c + cells (kind_of os n.letters)) ns k)
  where
    d : ℕ
    d = c + cells (kind_of os n.letters)

    go : (k < c + cells (kind_of os n.letters)) ⊎ (c + cells (kind_of os n.letters) ≤ k)
        → (c + cells (kind_of os n.letters) ≤ k → k < c + cells (kind_of os n.letters) + named_cells (numbered os (c + cells (kind_of os n.letters)) ns) → (s : Symbol) × In s (numbered os (c + cells (kind_of os n.letters)) ns) × (s.first ≤ k) × (k < s.first + count s))
        → (s : Symbol) × In s (numbered os c (n ∷ ns)) × (s.first ≤ k) × (k < s.first + count s)
    go (inl h) rest = (line os c n, here, l, h)
    go (inr h) rest = let r = rest h (omega arith) in (r.0, later r.1, r.2, r.3)

pub cells_in_order : (t : Program) → CellsInOrder (symbols t)
cells_in_order t =
    record {
      apart = lines_apart (occurrences t) 0 (names t);
      within = λ s i. let h = line_cells s (occurrences t) 0 (names t) i in let k : s.first + count s ≤ 0 + named_cells (symbols t) = h.1 in omega arith;
      filled = λ c u. cells_filled (occurrences t) 0 (names t) c (omega arith) (omega arith);
    }

-- All claims together.
abbrev total : List Claim → ℕ
total [] = 0
total (k ∷ ks) = k.cells + total ks

total_append : (ks ls : List Claim) → total (ks ++ ls) ≡ total ks + total ls
total_append [] ls = omega arith
total_append (k ∷ ks) ls = let h : total (ks ++ ls) ≡ total ks + total ls = total_append ks ls in omega arith

abbrev name_claim : Symbol → Claim
name_claim s = record { place = s.name.place; cells = count s }

abbrev for_claim : ℕ → Claim
for_claim p = record { place = p; cells = 1 }

total_names : (ss : List Symbol) → total (map name_claim ss) ≡ named_cells ss
total_names [] = refl
total_names (s ∷ ss) = ap (λ (n : ℕ). count s + n) (total_names ss)

total_fors : (ps : List ℕ) → total (map for_claim ps) ≡ length ps
total_fors [] = refl
total_fors (p ∷ ps) = let h : total (map for_claim ps) ≡ length ps = total_fors ps in omega arith

-- Where no claim passes 2,048, all together do not.
none_passing : (c : ℕ) (ks : List Claim) → c ≤ 2048 → passing_claims c ks ≡ [] → c + total ks ≤ 2048
none_passing c [] l e = omega arith
none_passing c (k ∷ ks) l e =
    let f : (leb c 2048 && ltb 2048 (c + k.cells)) ≡ false = nothing_told (leb c 2048 && ltb 2048 (c + k.cells)) k.place (empty_left (told (leb c 2048 && ltb 2048 (c + k.cells)) k.place) (passing_claims (c + k.cells) ks) e) in
    let h : c + k.cells ≤ 2048 = go (and_cases (leb c 2048) (ltb 2048 (c + k.cells)) f) in
    let r : c + k.cells + total ks ≤ 2048 = none_passing (c + k.cells) ks h (empty_right (told (leb c 2048 && ltb 2048 (c + k.cells)) k.place) (passing_claims (c + k.cells) ks) e) in
    omega arith
  where
    go : (leb c 2048 ≡ false) ⊎ (ltb 2048 (c + k.cells) ≡ false) → c + k.cells ≤ 2048
    go (inl a) = let b : 2048 < c = leb-false c 2048 a in absurd (omega arith)
    go (inr a) = ltb-false 2048 (c + k.cells) a

pub enough_cells : (t : Program) → verdict t ≡ accepted → named_cells (symbols t) + hidden_cells t ≤ 2048
enough_cells t e =
    let n : passing_claims 0 (claims (symbols t) (fors t)) ≡ [] = accepted_to_keeps_all t e TooManyCells in
    let h : 0 + total (claims (symbols t) (fors t)) ≤ 2048 = none_passing 0 (claims (symbols t) (fors t)) (omega arith) n in
    let a : total (claims (symbols t) (fors t)) ≡ total (map name_claim (symbols t)) + total (map for_claim (fors t)) = total_append (map name_claim (symbols t)) (map for_claim (fors t)) in
    let b : total (map name_claim (symbols t)) ≡ named_cells (symbols t) = total_names (symbols t) in
    let d : total (map for_claim (fors t)) ≡ length (fors t) = total_fors (fors t) in
    omega arith
