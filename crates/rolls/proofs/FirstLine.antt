-- The first line of a file: where it ends, and why it can write no magnitude.
use Rattle.std.proofs.Common.{◌≡◌, ℕ, suc, ◌<◌, true, false, not, eqb, leb, List, [], ◌∷◌, ◌++◌, length, get_or, Some, None, sym, refl, ap, ◌∙◌, ap₂, arith}
use Rattle.std.proofs.lemmas.Bool.{and_left, and_parts, and_right, cond-false, lt-leb, ne_eqb, not-true}
use Rattle.rolls.specs.LineLaws.{not_end}
use Rattle.rolls.specs.Lines.{File, all_digits, digits_value, file_of, is_magnitude, magnitude, no_end, onto, onto_first}

-- A byte that ends no line goes onto the first one.
onto_no_end : (b : ℕ) (f : File) → eqb b 10 ≡ false → onto b f ≡ onto_first b f.lines f.unended
onto_no_end b f no_end =
    cond-false (eqb b 10) (record { lines = [] ∷ f.lines; unended = f.unended }) (onto_first b f.lines f.unended) no_end

-- The bytes up to the first byte 10 are the first line.
pub row_and_end : (row rest : List ℕ) → no_end row ≡ true → file_of (row ++ 10 ∷ rest) ≡ record { lines = row ∷ (file_of rest).lines; unended = (file_of rest).unended }
row_and_end [] rest inside = refl
row_and_end (b ∷ row) rest inside =
    let parts = and_parts (not (eqb b 10)) (no_end row) inside in
    ap (onto b) (row_and_end row rest parts.1)
    ∙ onto_no_end b (record { lines = row ∷ (file_of rest).lines; unended = (file_of rest).unended }) (not-true (eqb b 10) parts.0)

-- A row without a byte 10 does not begin with one.
pub ends_none : (b : ℕ) (row : List ℕ) → b ≡ 10 → no_end (b ∷ row) ≡ true → ⊥
ends_none b row is inside = let z : false ≡ true = sym (ap (λ k. no_end (k ∷ row)) is) ∙ inside in cc

-- Bytes without a byte 10 at any place have none.
pub no_end_from : (bytes : List ℕ) → ((k : ℕ) → k < length bytes → get_or bytes k 0 ≡ 10 → ⊥) → no_end bytes ≡ true
no_end_from [] none = refl
no_end_from (b ∷ bytes) none =
    not_end b (ne_eqb b 10 (none 0 (omega arith))) bytes (no_end_from bytes (λ k inside. none (suc k) (omega arith)))

-- A line that fails one of the tests writes no magnitude.
module _ (line : List ℕ) where
  magnitude_none : is_magnitude line ≡ false → magnitude line ≡ None
  magnitude_none fails = cond-false (is_magnitude line) (Some (digits_value 0 line)) None fails

  pub not_digits_none : all_digits line ≡ false → magnitude line ≡ None
  not_digits_none other = magnitude_none (and_left (all_digits line) _ other)

  pub empty_none : length line ≡ 0 → magnitude line ≡ None
  empty_none empty =
      magnitude_none (and_right (all_digits line) _ (and_left (leb 1 (length line)) _ (lt-leb 1 (length line) (omega arith))))

  pub long_none : 10 < length line → magnitude line ≡ None
  long_none long =
      magnitude_none (and_right (all_digits line) _ (and_right (leb 1 (length line)) _ (and_left (leb (length line) 10) _ (lt-leb (length line) 10 long))))

  pub large_none : 2000000000 < digits_value 0 line → magnitude line ≡ None
  large_none large =
      magnitude_none (and_right (all_digits line) _ (and_right (leb 1 (length line)) _ (and_right (leb (length line) 10) _ (lt-leb (digits_value 0 line) 2000000000 large))))

-- A line that ends behind a row and a byte, none of which is a byte 10, begins with these.
pub longer_line : (row : List ℕ) (c : ℕ) (more line later : List ℕ) → no_end row ≡ true → (c ≡ 10 → ⊥) → row ++ c ∷ more ≡ line ++ 10 ∷ later → (t : List ℕ) × (line ≡ row ++ c ∷ t)
longer_line [] c more [] later inside other e = absurd (other (cc))
longer_line [] c more (x ∷ line) later inside other e = let same : x ≡ c = cc in (line, ap (λ b. b ∷ line) same)
longer_line (d ∷ row) c more [] later inside other e =
    let is : d ≡ 10 = cc in
    absurd (ends_none d row is inside)
longer_line (d ∷ row) c more (x ∷ line) later inside other e =
    let same : x ≡ d = cc in
    let tails : row ++ c ∷ more ≡ line ++ 10 ∷ later = cc in
    let longer = longer_line row c more line later (and_parts (not (eqb d 10)) (no_end row) inside).1 other tails in
    (longer.0, ap₂ ◌∷◌ same longer.1)
