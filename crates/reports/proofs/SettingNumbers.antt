-- The subscript of a setting: a whole number and the bracket behind it.
use Rattle.std.proofs.Common.{◌≡◌, ◌≢◌, ℕ, ◌+◌, ◌-◌, ◌^◌, ◌<◌, Bool, true, false, cond, ◌&&◌, List, [], ◌∷◌, ◌++◌, length, take, get_or, ltb, eqb, ℤ, pos, negsuc, Some, None, Ok, Err, Option, Result, sym, refl, ap, ◌∙◌, arith, length-append, w64}
use Rattle.std.specs.Bool.{Decides}
use Rattle.std.specs.Result.{OkIff, result_ok}
use Rattle.std.specs.Int.RustNames.{FitsSigned}
use Rattle.std.specs.Str.{all_ascii_digits}
use Rattle.std.specs.Str.Parse.{IsNumeral, ParsesSigned, digits_value, without_leading_sign, signed_digits_value}
use Rattle.std.specs.Io.BufRead.{ends_with_byte}
use Rattle.std.proofs.lemmas.Bool.Decides.{Decides-and, Decides-ltb, Decides-eqb, Decides-like}
use Rattle.std.proofs.lemmas.Str.Parse.{IsNumeralModel, numerals_by_value, tells_all_ascii_digits}
use Rattle.std.proofs.lemmas.List.{take_more, take_all}
use Rattle.std.proofs.Math.Seq.{get_or-append_seam, take-append_seam}
use Rattle.reports.specs.SettingWords.{is_in_64_bits, is_numeral, whole_number, subscript_of}

-- The test of 64 bits says that the number fits them.
fits_Decides : (z : ℤ) → Decides (is_in_64_bits z) (FitsSigned w64 z)
fits_Decides (pos n) = Decides-like (ltb n (2 ^ 63)) (λ (h : n < 2 ^ 63). record { sfits = h }) (λ (f : FitsSigned w64 (pos n)). f.sfits) (Decides-ltb n (2 ^ 63))
fits_Decides (negsuc n) = Decides-like (ltb n (2 ^ 63)) (λ (h : n < 2 ^ 63). record { sfits = h }) (λ (f : FitsSigned w64 (negsuc n)). f.sfits) (Decides-ltb n (2 ^ 63))

digits_model : IsNumeralModel (λ ds. all_ascii_digits ds ≡ true) (digits_value 10)
digits_model = numerals_by_value _ tells_all_ascii_digits

numeral_Decides : (bs : List ℕ) → Decides (is_numeral bs) (IsNumeral 10 (without_leading_sign bs))
numeral_Decides bs =
    let ds : List ℕ = without_leading_sign bs in
    Decides-and (ltb 0 (length ds)) (all_ascii_digits ds) (Decides-ltb 0 (length ds)) (digits_model.to ds, digits_model.from ds)

whole_Decides : (bs : List ℕ) → Decides (is_numeral bs && is_in_64_bits (signed_digits_value 10 bs)) (IsNumeral 10 (without_leading_sign bs) × FitsSigned w64 (signed_digits_value 10 bs))
whole_Decides bs = Decides-and (is_numeral bs) (is_in_64_bits (signed_digits_value 10 bs)) (numeral_Decides bs) (fits_Decides (signed_digits_value 10 bs))

-- What is read where a test decides, is the value where the test holds.
by_test : {T E P : Type 0} (b : Bool) (v : T) (r : Result T E) → Decides b P → OkIff r P v → result_ok r ≡ cond b (Some v) None
by_test true v (Ok x) d h = ap Some h.1
by_test false v (Ok x) d h = let e : false ≡ true = d.1 h.0 in cc
by_test true v (Err e) d h = absurd (h (d.0 refl))
by_test false v (Err e) d h = refl

-- `parse` reads just the whole numbers.
pub whole_number_is : {E : Type 0} (bs : List ℕ) (r : Result ℤ E) → ParsesSigned w64 10 bs r → result_ok r ≡ whole_number bs
whole_number_is bs r h = by_test (is_numeral bs && is_in_64_bits (signed_digits_value 10 bs)) (signed_digits_value 10 bs) r (whole_Decides bs) h

-- A byte 93 at the end is told, and what stands before it.
last_Decides : (bs : List ℕ) → Decides (ends_with_byte 93 bs) ((0 < length bs) × (get_or bs (length bs - 1) 0 ≡ 93))
last_Decides bs = Decides-and (ltb 0 (length bs)) (eqb (get_or bs (length bs - 1) 0) 93) (Decides-ltb 0 (length bs)) (Decides-eqb (get_or bs (length bs - 1) 0) 93)

length_less : (xs : List ℕ) → length (xs ++ (93 ∷ [])) - 1 ≡ length xs
length_less xs = omega (arith, length-append xs (93 ∷ []))

ends_at : (xs : List ℕ) → ends_with_byte 93 (xs ++ (93 ∷ [])) ≡ true
ends_at xs =
    (last_Decides (xs ++ (93 ∷ []))).1
    (omega (arith, length-append xs (93 ∷ [])), ap (λ (k : ℕ). get_or (xs ++ (93 ∷ [])) k 0) (length_less xs) ∙ get_or-append_seam xs 93 [] 0)

before_end : (xs : List ℕ) → take (length (xs ++ (93 ∷ [])) - 1) (xs ++ (93 ∷ [])) ≡ xs
before_end xs = ap (λ (k : ℕ). take k (xs ++ (93 ∷ []))) (length_less xs) ∙ take-append_seam xs (93 ∷ [])

pub closed_subscript : (bs xs : List ℕ) → bs ≡ xs ++ (93 ∷ []) → whole_number xs ≡ subscript_of bs
closed_subscript bs xs e =
    ap whole_number (sym (before_end xs))
    ∙ (ap (λ (b : Bool). cond b (whole_number (take (length (xs ++ (93 ∷ [])) - 1) (xs ++ (93 ∷ [])))) None) (sym (ends_at xs))
    ∙ ap subscript_of (sym e))

-- A list that ends so is what stands before the end, and the end.
split_end : (bs : List ℕ) → 0 < length bs → get_or bs (length bs - 1) 0 ≡ 93 → bs ≡ take (length bs - 1) bs ++ (93 ∷ [])
split_end bs l e =
    let n : length bs ≡ length bs - 1 + 1 = omega arith in
    sym (take_all (length bs) bs (omega arith))
    ∙ (ap (λ (k : ℕ). take k bs) n
    ∙ (take_more bs (length bs - 1) 0 (omega arith)
    ∙ ap (λ (y : ℕ). take (length bs - 1) bs ++ (y ∷ [])) e))

none_by : (b : Bool) (o : Option ℤ) → (b ≡ true → ⊥) → None ≡ cond b o None
none_by true o h = absurd (h refl)
none_by false o h = refl

-- Without it there is no subscript.
pub open_subscript : (bs : List ℕ) → ((front : List ℕ) → bs ≢ front ++ (93 ∷ [])) → None ≡ subscript_of bs
open_subscript bs h =
    none_by (ends_with_byte 93 bs) (whole_number (take (length bs - 1) bs))
    (λ (e : ends_with_byte 93 bs ≡ true). let p : (0 < length bs) × (get_or bs (length bs - 1) 0 ≡ 93) = (last_Decides bs).0 e in h (take (length bs - 1) bs) (split_end bs p.0 p.1))
