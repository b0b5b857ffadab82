-- How a word that writes money is read by its parts.
use Rattle.std.proofs.Common.{◌≡◌, ℕ, ◌+◌, ◌*◌, ◌<◌, ◌≤◌, inl, inr, List, [], ◌∷◌, ◌++◌, Bor, length, Some, None, Ok, Err, Result, ℤ, pos, neg_ℤ, ◌-ℤ◌, ◌≤ℤ◌, refl, sym, ap, ◌∙◌, subst, arith, rules}
use Rattle.std.specs.Str.Parse.{IsNumeral, digits_value}
use Rattle.std.proofs.lemmas.Int.{ints}
use Rattle.std.proofs.lemmas.List.{get_or_at, length-append}
use Rattle.std.proofs.lemmas.Str.Parse.{not_in_digits, numerals_by_value, tells_digits}
use Rattle.std.proofs.lemmas.Str.Pattern.{IsSplitOnceResult, split_after, split_parts}
use Rattle.std.proofs.Math.ListN.{get_or}
use Rattle.figures.specs.declared.word.NoFigure.{NoFigure}
use Rattle.figures.specs.Amounts.{ReadsAmount, ReadsMoney, ReadsParts}
use Rattle.figures.specs.Range.{high, in_range, low}
use Rattle.figures.specs.Faults.{number, outcome}
use Rattle.figures.specs.Kinds.{value, refused}
use Rattle.figures.specs.declared.fault.Fault.{Fault}
use Rattle.figures.proofs.Stored.{held}
use Rattle.figures.specs.Text.{WritesAmount, WritesMoney, WritesParts}

-- No digit is a point, and none a minus sign.
no_point : (ds : List ℕ) → IsNumeral 10 ds → (i : ℕ) → i < length ds → get_or ds i 0 ≡ 46 → ⊥
no_point ds numeral = not_in_digits (numerals_by_value _ tells_digits) ds 46 numeral.1 (λ range. absurd (omega (arith, range.0)))

no_minus : (ds : List ℕ) → IsNumeral 10 ds → get_or ds 0 0 ≡ 45 → ⊥
no_minus ds numeral = not_in_digits (numerals_by_value _ tells_digits) ds 45 numeral.1 (λ range. absurd (omega (arith, range.0))) 0 numeral.0

-- A word with no point writes units alone.
alone : (word : List ℕ) (n : ℕ) → IsSplitOnceResult 46 word None → WritesAmount word n → IsNumeral 10 word × (100 * digits_value 10 word ≡ n)
alone word n split (inl whole) = whole
alone word n split (inr (units, part, w)) = absurd (split_after 46 word units part None split (omega arith) w.0 (no_point units w.1))

-- A word with a point writes what stands before it and behind it.
parted : (word : List ℕ) (n : ℕ) (u p : Bor (List ℕ)) → IsSplitOnceResult 46 word (Some (u, p)) → WritesAmount word n → WritesParts word u.now p.now n
parted word n u p split (inl whole) =
    let cut = split_parts 46 word (Some (u, p)) split (omega arith) in
    let long : length word ≡ length u.now + length (46 ∷ p.now) = ap length cut.0 ∙ length-append u.now (46 ∷ p.now) in
    let point : get_or word (length u.now) 0 ≡ 46 = ap (λ w. get_or w (length u.now) 0) cut.0 ∙ get_or_at u.now 46 p.now 0 (length u.now) refl in
    absurd (no_point word whole.0 (length u.now) (omega (arith, long)) point)
parted word n u p split (inr (units, part, w)) =
    let same = split_after 46 word units part (Some (u, p)) split (omega arith) w.0 (no_point units w.1) in
    rw (same.0, same.1) w

-- The two digits that stand for no hundredths.
nought : digits_value 10 (48 ∷ 48 ∷ []) ≡ 0
nought = refl

-- The reading of the parts of a word with a point is the reading of the word.
pub reads_parted : (word : List ℕ) (u p : Bor (List ℕ)) → IsSplitOnceResult 46 word (Some (u, p)) → (r : Result ℤ NoFigure) → ReadsParts u.now p.now r → ReadsAmount word r
reads_parted word u p split (Ok z) read =
    let cut = (split_parts 46 word (Some (u, p)) split (omega arith)).0 in
    (100 * digits_value 10 u.now + digits_value 10 p.now, read.3, inr (u.now, p.now, (cut, read.0, read.1, read.2, refl)), (λ m w. sym ((parted word m u p split w).4)), read.4)
reads_parted word u p split (Err e) none = λ n most w. let q = parted word n u p split w in none q.1 q.2 q.3 (omega (arith, q.4, most))

-- The same of a word without one, as if a point and two noughts stood behind it.
pub reads_alone : (word : List ℕ) → IsSplitOnceResult 46 word None → (r : Result ℤ NoFigure) → ReadsParts word (48 ∷ 48 ∷ []) r → ReadsAmount word r
reads_alone word split (Ok z) read =
    (100 * digits_value 10 word + digits_value 10 (48 ∷ 48 ∷ []), read.3, inl (read.0, omega (arith, nought)), (λ m w. let q = alone word m split w in omega (arith, q.1, nought)), read.4)
reads_alone word split (Err e) none = λ n most w. let q = alone word n split w in none q.0 (search rules) refl (omega (arith, q.1, most, nought))

-- No amount begins with a minus sign.
amount_has_no_minus : (size : List ℕ) (n : ℕ) → WritesAmount (45 ∷ size) n → ⊥
amount_has_no_minus size n (inl whole) = no_minus (45 ∷ size) whole.0 refl
amount_has_no_minus size n (inr (units, part, w)) = first units w.0 w.1
  where
    first : (units : List ℕ) → (45 ∷ size) ≡ units ++ 46 ∷ part → IsNumeral 10 units → ⊥
    first [] at numeral = absurd (omega (arith, numeral.0))
    first (c ∷ cs) at numeral = no_minus (c ∷ cs) numeral (sym (ap (λ w. get_or w 0 0) at))

-- What is read of a word with no minus sign before it, and of one with a minus sign.
pub reads_plain : (word : List ℕ) → ((rest : List ℕ) → word ≡ 45 ∷ rest → ⊥) → (r : Result ℤ NoFigure) → ReadsAmount word r → ReadsMoney word r
reads_plain word plain (Ok z) (n, is, writes, one, small) = (inl (n, writes, is), only)
  where
    only : (y : ℤ) → WritesMoney word y → y ≡ z
    only y (inl (m, w, e)) = e ∙ ap pos (one m w) ∙ sym is
    only y (inr (size, m, at, w, e)) = absurd (plain size at)
reads_plain word plain (Err e) none = refuses
  where
    refuses : (z : ℤ) → low ≤ℤ z → z ≤ℤ high → WritesMoney word z → ⊥
    refuses z above below (inl (n, w, is)) = none n (omega (arith, ints, below, is)) w
    refuses z above below (inr (size, n, at, w, is)) = plain size at

-- What the step that puts the minus sign before an amount answers.
abbrev pub Negated : List ℕ → Result ℤ NoFigure → Type 0
Negated word (Ok z) = ReadsMoney word (Ok (held (pos 0 -ℤ held z)))
Negated word (Err e) = ReadsMoney word (Err e)

-- What the last step of reading money answers.
abbrev pub Found : {F : Type 0} → (F → ℤ) → List ℕ → Result F Fault → Type 0
Found means word (Ok x) = WritesMoney word (means x)
Found means word (Err e) = (y : ℤ) → low ≤ℤ y → y ≤ℤ high → WritesMoney word y → ⊥

module _ (word size : List ℕ) (at : word ≡ 45 ∷ size) where
  -- What stands behind the first byte.
  abbrev tail_of : List ℕ → List ℕ
  tail_of [] = []
  tail_of (c ∷ cs) = cs

  -- The minus sign stands before the one amount.
  minus_only : (n : ℕ) → ((m : ℕ) → WritesAmount size m → m ≡ n) → (y : ℤ) → WritesMoney word y → y ≡ neg_ℤ (pos n)
  minus_only n one y (inl (m, w, e)) = absurd (amount_has_no_minus size m (subst (λ v. WritesAmount v m) at w))
  minus_only n one y (inr (rest, m, begins, w, e)) =
      let same : rest ≡ size = ap tail_of (sym begins ∙ at) in
      e ∙ ap (λ k. neg_ℤ (pos k)) (one m (subst (λ v. WritesAmount v m) same w))

  reads_minus : (z : ℤ) → ReadsAmount size (Ok z) → ReadsMoney word (Ok (neg_ℤ z))
  reads_minus z (n, is, writes, one, small) = rw is (inr (size, n, at, writes, refl), minus_only n one)

  refuses_minus : ((n : ℕ) → n ≤ 2000000000 → WritesAmount size n → ⊥) → (z : ℤ) → low ≤ℤ z → z ≤ℤ high → WritesMoney word z → ⊥
  refuses_minus none z above below (inl (m, w, e)) = amount_has_no_minus size m (subst (λ v. WritesAmount v m) at w)
  refuses_minus none z above below (inr (rest, m, begins, w, e)) =
      let same : rest ≡ size = ap tail_of (sym begins ∙ at) in
      none m (omega (arith, ints, above, e)) (subst (λ v. WritesAmount v m) same w)

  -- What is read of a word with a minus sign, by what is read of the rest.
  pub reads_negated : (r : Result ℤ NoFigure) → ReadsAmount size r → Negated word r
  reads_negated (Ok z) (n, is, writes, one, small) =
      let exact : held (pos 0 -ℤ held z) ≡ neg_ℤ z = omega (arith, ints, is, small) in
      rw exact (reads_minus z (n, is, writes, one, small))
  reads_negated (Err e) none = refuses_minus none

-- A figure found of a number that a word writes is of that value, and where there is none the word writes none within
-- the range.
pub value_in_range : (z v : ℤ) → value v ≡ in_range z → v ≡ z
value_in_range z v e = search rules

pub refused_in_range : (z : ℤ) (n : ℕ) → refused n ≡ in_range z → low ≤ℤ z → z ≤ℤ high → ⊥
refused_in_range z n e above below = search rules

pub reads_figure : {F : Type 0} (means : F → ℤ) (word : List ℕ) (z : ℤ) → ReadsMoney word (Ok z) → (r : Result F Fault) → outcome means r ≡ in_range z → Found means word r
reads_figure means word z read (Ok x) e = rw (value_in_range z (means x) e) read.0
reads_figure means word z read (Err fault) e = λ y above below w. let same = read.1 y w in refused_in_range z (number fault) e (rw same at above) (rw same at below)
