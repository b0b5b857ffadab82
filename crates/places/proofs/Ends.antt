-- The counts of lines and of bytes before a line's end, in the library's words.
use Rattle.std.proofs.Common.{◌≡◌, ℕ, ◌+◌, ◌<◌, Bool, true, false, cond, List, length, get_or, ◌==◌, sym, refl, ◌∙◌, arith}
use Rattle.std.proofs.lemmas.Bool.{eq-eqb, ne_eqb}
use Rattle.std.proofs.lemmas.List.Recursion.{is_count_by, is_position_or_len}
use Rattle.std.proofs.lemmas.List.Sums.{position_or_len_is}
use Rattle.std.specs.List.{count_by}
use Rattle.places.specs.Location.{line_ends, to_line_end}

one_more : (b : Bool) (n : ℕ) → cond b 1 0 + n ≡ cond b (1 + n) n
one_more true n = refl
one_more false n = omega arith

pub counted_ends : (bytes : List ℕ) → count_by (λ b. b == 10) bytes ≡ line_ends bytes
counted_ends bytes = sym (is_count_by line_ends (λ b. b == 10) refl (λ b bytes. one_more (b == 10) (line_ends bytes)) bytes)

-- The first byte 10 ends the line, and without one the bytes do.
pub end_at : (bytes : List ℕ) (i : ℕ) → i < length bytes → get_or bytes i 0 ≡ 10 → ((k : ℕ) → k < i → get_or bytes k 0 ≡ 10 → ⊥) → i ≡ to_line_end bytes
end_at bytes i inside is none =
    sym (is_position_or_len to_line_end (λ b. b == 10) refl (λ _ _. refl) bytes
    ∙ position_or_len_is (λ b. b == 10) bytes i 0 (omega arith) (λ k before. ne_eqb (get_or bytes k 0) 10 (none k before)) (λ within. eq-eqb (get_or bytes i 0) 10 is))

pub no_end : (bytes : List ℕ) → ((k : ℕ) → k < length bytes → get_or bytes k 0 ≡ 10 → ⊥) → length bytes ≡ to_line_end bytes
no_end bytes none =
    sym (is_position_or_len to_line_end (λ b. b == 10) refl (λ _ _. refl) bytes
    ∙ position_or_len_is (λ b. b == 10) bytes (length bytes) 0 (omega arith) (λ k before. ne_eqb (get_or bytes k 0) 10 (none k before)) (λ within. absurd (omega arith)))
