-- Where the last line of some bytes begins, by the places of the bytes 10.
use Rattle.std.proofs.Common.{◌≡◌, ℕ, zero, suc, ◌+◌, ◌<◌, cond, eqb, List, [], ◌∷◌, length, get_or, refl, ap, ◌∙◌, arith}
use Rattle.std.proofs.lemmas.Bool.{cond-false, cond-true, eq-eqb, ne_eqb}
use Rattle.places.specs.Location.{last_start}

-- Bytes without a byte 10 go on with the line before.
pub no_start : (start at : ℕ) (bytes : List ℕ) → ((k : ℕ) → k < length bytes → get_or bytes k 0 ≡ 10 → ⊥) → last_start start at bytes ≡ start
no_start start at [] none = refl
no_start start at (b ∷ bytes) none =
    ap (λ s. last_start s (at + 1) bytes) (cond-false (eqb b 10) (at + 1) start (ne_eqb b 10 (none 0 (omega arith))))
    ∙ no_start start (at + 1) bytes (λ k inside. none (suc k) (omega arith))

-- The last line begins after the last byte 10.
start_from : (start at : ℕ) (bytes : List ℕ) (i : ℕ) → i < length bytes → get_or bytes i 0 ≡ 10 → ((k : ℕ) → i < k → k < length bytes → get_or bytes k 0 ≡ 10 → ⊥) → last_start start at bytes ≡ at + i + 1
start_from start at [] i inside is none = absurd (omega arith)
start_from start at (b ∷ bytes) zero inside is none =
    ap (λ s. last_start s (at + 1) bytes) (cond-true (eqb b 10) (at + 1) start (eq-eqb b 10 is))
    ∙ no_start (at + 1) (at + 1) bytes (λ k within. none (suc k) (omega arith) (omega arith)) ∙ omega arith
start_from start at (b ∷ bytes) (suc i) inside is none =
    start_from (cond (eqb b 10) (at + 1) start) (at + 1) bytes i (omega arith) is (λ k later within. none (suc k) (omega arith) (omega arith)) ∙ omega arith

pub start_after : (bytes : List ℕ) (i : ℕ) → i < length bytes → get_or bytes i 0 ≡ 10 → ((k : ℕ) → i < k → k < length bytes → get_or bytes k 0 ≡ 10 → ⊥) → last_start 0 0 bytes ≡ i + 1
start_after bytes i inside is none = start_from 0 0 bytes i inside is none ∙ omega arith
