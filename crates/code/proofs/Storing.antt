-- What the buffer holds after a store, and the arrays after a load.
use Rattle.std.proofs.Common.{◌≡◌, ℕ, ◌+◌, ◌*◌, ◌<◌, ◌≤◌, true, false, List, ◌++◌, length, take, drop, sym, ap, ◌∙◌, ap₂, arith}
use Rattle.std.proofs.lemmas.List.{append_assoc, length-take-le, take-append-drop}
use Rattle.std.proofs.lemmas.Bool.Decides.{nat_tests}
use Rattle.std.proofs.lemmas.Bool.{eq-eqb, le-leb, ne_eqb}
use Rattle.std.specs.List.{flat_map}
use Rattle.code.specs.declared.refusals.Refusal.{Refusal}
use Rattle.code.specs.declared.refusals.Refusal.TheVariants.{BadSizes}
use Rattle.code.specs.declared.sizes.Sizes.{Sizes}
use Rattle.code.specs.Answers.{number}
use Rattle.code.specs.Codes.{code_of}
use Rattle.code.specs.Check.{lent_ok}
use Rattle.code.specs.Files.{bytes_of, header, file, file_length, sizes_in, numbers, gives, refuses, store, load, loaded}
use Rattle.code.proofs.Bytes.{drop_beyond}

-- A list by its front and its rest.
rejoin : (n : ℕ) (xs front rest : List ℕ) → take n xs ≡ front → drop n xs ≡ rest → xs ≡ front ++ rest
rejoin n xs front rest e f = sym (take-append-drop n xs) ∙ ap₂ (λ a b. a ++ b) e f

-- The header, the operations and the operands, written one behind the other, are the file.
module _ (s : Sizes) (os xs : List ℕ) (good : lent_ok s (length os) (length xs) ≡ true) (bytes operands b₀ b₁ b₂ b₃ : List ℕ) (front : bytes ≡ take s.operations os) (beside : operands ≡ take s.operations xs) where
  pub stored_buffer : take 16 b₁ ≡ header s → drop 16 b₁ ≡ drop 16 b₀
      → take (16 + length bytes) b₂ ≡ take 16 b₁ ++ bytes → drop (16 + length bytes) b₂ ≡ drop (16 + length bytes) b₁
      → take (16 + s.operations + 8 * length operands) b₃ ≡ take (16 + s.operations) b₂ ++ flat_map (bytes_of 8) operands
      → drop (16 + s.operations + 8 * length operands) b₃ ≡ drop (16 + s.operations + 8 * length operands) b₂
      → b₃ ≡ file (code_of s os xs) ++ drop (file_length s) b₀
  stored_buffer head head-rest ops ops-rest nums nums-rest =
      let size : length bytes ≡ s.operations = ap length front ∙ length-take-le s.operations os (grind (arith, nat_tests)) in
      let long : length operands ≡ s.operations = ap length beside ∙ length-take-le s.operations xs (grind (arith, nat_tests)) in
      let end : file_length s ≡ 16 + s.operations + 8 * length operands = omega arith in
      let mid : 16 + s.operations ≡ 16 + length bytes = omega arith in
      let two = ap (λ n. take n b₂) mid ∙ ops ∙ ap (λ t. t ++ bytes) head in
      let three = nums ∙ ap (λ t. t ++ flat_map (bytes_of 8) operands) two ∙ append_assoc (header s) bytes (flat_map (bytes_of 8) operands) in
      let whole = three ∙ ap₂ (λ a b. header s ++ (a ++ flat_map (bytes_of 8) b)) front beside in
      let rest_two = drop_beyond (16 + length bytes) (file_length s) b₁ b₂ (omega arith) ops-rest in
      let rest_one = drop_beyond 16 (file_length s) b₀ b₁ (omega arith) head-rest in
      let rest = ap (λ n. drop n b₃) end ∙ nums-rest ∙ ap (λ n. drop n b₂) (sym end) ∙ rest_two ∙ rest_one in
      rejoin (file_length s) b₃ _ _ (ap (λ n. take n b₃) end ∙ whole) rest

pub store_done : (s : Sizes) (os xs before after : List ℕ) → lent_ok s (length os) (length xs) ≡ true → file_length s ≤ length before
    → after ≡ file (code_of s os xs) ++ drop (file_length s) before → store s os xs before ≡ record { answer = gives (file_length s); buffer = after }
store_done s os xs before after good room e = rw (good, le-leb (file_length s) (length before) room) (ap (λ b. record { answer = gives (file_length s); buffer = b }) (sym e))

-- Sizes that the arrays do not allow are refused, and the buffer stays.
pub store_refused : (s : Sizes) (os xs before : List ℕ) (e : Refusal) → lent_ok s (length os) (length xs) ≡ false → e ≡ BadSizes
    → store s os xs before ≡ record { answer = refuses (number e); buffer = before }
store_refused s os xs before e bad h = rw bad (ap (λ e. record { answer = refuses (number e); buffer = before }) (sym h))

-- The operations, copied into the front of an array.
pub loaded_operations : (n : ℕ) (bs part before after : List ℕ) → part ≡ take n (drop 16 bs) → length part ≡ n
    → take (0 + length part) after ≡ part → drop (0 + length part) after ≡ drop (0 + length part) before → after ≡ take n (drop 16 bs) ++ drop n before
loaded_operations n bs part before after e size f g =
    let all : n ≡ 0 + length part = omega arith in
    rejoin n after _ _ (ap (λ k. take k after) all ∙ f ∙ e) (ap (λ k. drop k after) all ∙ g ∙ ap (λ k. drop k before) (sym all))

-- A file shorter than its header has no length that its sizes allow.
pub load_short : (bs os xs : List ℕ) → length bs < 16 → load bs os xs ≡ record { answer = refuses 27; operations = os; operands = xs }
load_short bs os xs l = rw (ne_eqb (length bs) (file_length (sizes_in bs)) (λ e. omega arith))

pub load_done : (s : Sizes) (bs os xs os' xs' : List ℕ) → s ≡ sizes_in bs → length bs ≡ file_length s
    → lent_ok s (length os) (length xs) ≡ true
    → os' ≡ take s.operations (drop 16 bs) ++ drop s.operations os → xs' ≡ numbers s.operations (drop (16 + s.operations) bs) ++ drop s.operations xs
    → load bs os xs ≡ record { answer = gives s; operations = os'; operands = xs' }
load_done s bs os xs os' xs' e size good f g =
    let size' : length bs ≡ file_length (sizes_in bs) = size ∙ ap file_length e in
    let good' : lent_ok (sizes_in bs) (length os) (length xs) ≡ true = ap (λ s. lent_ok s (length os) (length xs)) (sym e) ∙ good in
    rw (eq-eqb (length bs) (file_length (sizes_in bs)) size', good')
    (ap (λ s. loaded s bs os xs) (sym e) ∙ same)
  where
    same : loaded s bs os xs ≡ record { answer = gives s; operations = os'; operands = xs' }
    same = ap₂ (λ a b. record { answer = gives s; operations = a; operands = b }) (sym f) (sym g)
