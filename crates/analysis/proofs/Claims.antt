-- Claims to cells, one list behind another.
use Rattle.std.proofs.Common.{◌≡◌, ℕ, ◌+◌, ◌<◌, ◌≤◌, min, Bool, true, false, ◌&&◌, ltb, leb, ◌⊎◌, List, [], ◌∷◌, ◌++◌, length, None, Option, sym, refl, ap, ◌∙◌, inl, inr, append_assoc, arith}
use Rattle.std.proofs.lemmas.List.{map-append, length-append}
use Rattle.std.proofs.lemmas.Bool.{cases_lt, lt-leb}
use Rattle.symbols.specs.Types.{told}
use Rattle.symbols.specs.Rules.{Claim, passing_claims}
use Rattle.analysis.specs.declared.cell_count.CellCount.{CellCount}
use Rattle.analysis.specs.Earliest.{earliest_of, earlier_of}
use Rattle.analysis.specs.Counting.{for_claims, Counts}
use Rattle.analysis.proofs.EarlierPlace.{both}

abbrev pub claimed : List Claim → ℕ
claimed [] = 0
claimed (k ∷ ks) = k.cells + claimed ks

pub passing_append : (c : ℕ) (ks ls : List Claim) → passing_claims c (ks ++ ls) ≡ passing_claims c ks ++ passing_claims (c + claimed ks) ls
passing_append c [] ls = let q : c ≡ c + 0 = omega arith in ap (λ (n : ℕ). passing_claims n ls) q
passing_append c (k ∷ ks) ls =
    let t : List ℕ = told (leb c 2048 && ltb 2048 (c + k.cells)) k.place in
    let d : ℕ = c + k.cells in
    let q : c + k.cells + claimed ks ≡ c + (k.cells + claimed ks) = omega arith in
    ap (λ (l : List ℕ). t ++ l) (passing_append (c + k.cells) ks ls)
    ∙ (ap (λ (n : ℕ). t ++ (passing_claims (c + k.cells) ks ++ passing_claims n ls)) q
    ∙ sym (append_assoc t (passing_claims (c + k.cells) ks) (passing_claims (c + (k.cells + claimed ks)) ls)))

-- Past 2,048 nothing more is told, so that a count need go no further than 2,049.
passing_past : (c : ℕ) (ks : List Claim) → 2048 < c → passing_claims c ks ≡ []
passing_past c [] h = refl
passing_past c (k ∷ ks) h =
    ap (λ (b : Bool). told (b && ltb 2048 (c + k.cells)) k.place ++ passing_claims (c + k.cells) ks) (lt-leb c 2048 h)
    ∙ passing_past (c + k.cells) ks (omega arith)

pub passing_min : (c : ℕ) (ks : List Claim) → passing_claims (min c 2049) ks ≡ passing_claims c ks
passing_min c ks = go (cases_lt 2049 c)
  where
    go : (2049 < c) ⊎ (c ≤ 2049) → passing_claims (min c 2049) ks ≡ passing_claims c ks
    go (inl h) = passing_past (min c 2049) ks (omega arith) ∙ sym (passing_past c ks (omega arith))
    go (inr h) = let q : min c 2049 ≡ c = omega arith in ap (λ (n : ℕ). passing_claims n ks) q

pub claimed_fors : (ps : List ℕ) → claimed (for_claims ps) ≡ length ps
claimed_fors [] = refl
claimed_fors (p ∷ ps) = let h : claimed (for_claims ps) ≡ length ps = claimed_fors ps in omega arith

-- No fors.
pub counts_none : (c : ℕ) (r : CellCount) → r.cells ≡ min c 2049 → r.offence ≡ None → Counts c [] r
counts_none c r e f = let q : min c 2049 ≡ min (c + 0) 2049 = omega arith in record { cells = e ∙ q; told = f }

-- Some fors behind others.
pub counts_two : {c : ℕ} {ps qs : List ℕ} {r s : CellCount} {o : Option ℕ} → Counts c ps r → Counts r.cells qs s → o ≡ earlier_of r.offence s.offence → Counts c (ps ++ qs) (record { cells = s.cells; offence = o })
counts_two {c} {ps} {qs} {r} {s} {o} a b e =
    let l = length-append ps qs in
    let x = a.cells in
    let y = b.cells in
    let m : passing_claims r.cells (for_claims qs) ≡ passing_claims (c + claimed (for_claims ps)) (for_claims qs) =
    ap (λ (n : ℕ). passing_claims n (for_claims qs)) x ∙ (passing_min (c + length ps) (for_claims qs) ∙ ap (λ (n : ℕ). passing_claims (c + n) (for_claims qs)) (sym (claimed_fors ps))) in
    record {
      cells = omega arith;
      told =
          e
          ∙ (both r.offence s.offence (passing_claims c (for_claims ps)) (passing_claims (c + claimed (for_claims ps)) (for_claims qs)) a.told (b.told ∙ ap earliest_of m)
          ∙ ap earliest_of (sym (ap (λ (l : List Claim). passing_claims c l) (map-append (λ (p : ℕ). record { place = p; cells = 1 }) ps qs) ∙ passing_append c (for_claims ps) (for_claims qs))));
    }

-- One for.
pub counts_one : (c p : ℕ) (r : CellCount) → r.cells ≡ min (c + 1) 2049 → r.offence ≡ earliest_of (told (leb c 2048 && ltb 2048 (c + 1)) p) → Counts c (p ∷ []) r
counts_one c p r e f = record { cells = e; told = f ∙ go (leb c 2048 && ltb 2048 (c + 1)) }
  where
    go : (b : Bool) → earliest_of (told b p) ≡ earliest_of (told b p ++ [])
    go true = refl
    go false = refl
