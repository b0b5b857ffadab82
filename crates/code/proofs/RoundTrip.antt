-- A load undoes a store, and a store undoes a load.
use Rattle.std.proofs.Common.{◌≡◌, ℕ, zero, suc, ◌+◌, ◌*◌, ◌/◌, ◌%◌, ◌^◌, ◌<◌, ◌≤◌, true, List, [], ◌∷◌, ◌++◌, length, get_or, take, drop, sym, refl, ap, ◌∙◌, ap₂, pow-suc, arith}
use Rattle.std.proofs.lemmas.Nat.{div_below}
use Rattle.std.proofs.lemmas.List.{append_assoc, take-append-drop, length-append, length-take-le, length-drop, take_at, drop_at, drop-drop, get_or-drop, nil_from_length}
use Rattle.std.proofs.lemmas.Bool.{and_parts}
use Rattle.std.proofs.lemmas.Bool.Decides.{nat_tests}
use Rattle.std.specs.List.{flat_map}
use Rattle.code.specs.declared.sizes.Sizes.{Sizes}
use Rattle.code.specs.Codes.{code_of}
use Rattle.code.specs.Check.{lent_ok, limits_ok}
use Rattle.code.specs.Files.{bytes_of, number_of, header, file, file_length, sizes_in, numbers, gives, load, Reloads, Restores}
use Rattle.code.proofs.Bytes.{length_bytes_of, length_numbers}
use Rattle.code.proofs.Storing.{load_done}

-- A number that fits its bytes comes back from them.
number_of_bytes_of : (k x : ℕ) → x < 256 ^ k → number_of (bytes_of k x) ≡ x
unfolding bytes_of number_of
number_of_bytes_of zero x l = omega arith
number_of_bytes_of (suc k) x l =
    let small : x / 256 < 256 ^ k = div_below x 256 (256 ^ k) (omega arith) (rw pow-suc at l) in
    omega (arith, number_of_bytes_of k (x / 256) small)

-- Bytes come back from the number that they write.
bytes_of_number_of : (bs : List ℕ) → ((i : ℕ) → get_or bs i 0 < 256) → bytes_of (length bs) (number_of bs) ≡ bs
unfolding bytes_of number_of
bytes_of_number_of [] f = refl
bytes_of_number_of (b ∷ bs) f =
    let low : (b + 256 * number_of bs) % 256 ≡ b = omega (arith, f 0) in
    let high : (b + 256 * number_of bs) / 256 ≡ number_of bs = omega (arith, f 0) in
    ap₂ (λ x y. x ∷ y) low (ap (bytes_of (length bs)) high ∙ bytes_of_number_of bs (λ i. f (suc i)))

-- Parts of a list have no larger entries.
take_fits : (n : ℕ) {b : ℕ} (bs : List ℕ) → ((i : ℕ) → get_or bs i 0 < suc b) → (i : ℕ) → get_or (take n bs) i 0 < suc b
take_fits zero bs f i = omega arith
take_fits (suc n) [] f i = omega arith
take_fits (suc n) (x ∷ bs) f zero = f zero
take_fits (suc n) (x ∷ bs) f (suc i) = take_fits n bs (λ i. f (suc i)) i

drop_fits : (n : ℕ) {b : ℕ} (bs : List ℕ) → ((i : ℕ) → get_or bs i 0 < b) → (i : ℕ) → get_or (drop n bs) i 0 < b
drop_fits n {b} bs f i = rw get_or-drop (f (n + i))

-- The same of operands in a row.
length_joined : (xs : List ℕ) → length (flat_map (bytes_of 8) xs) ≡ 8 * length xs
length_joined [] = refl
length_joined (x ∷ xs) = length-append (bytes_of 8 x) (flat_map (bytes_of 8) xs) ∙ omega (arith, length_bytes_of 8 x, length_joined xs)

numbers_joined : (xs : List ℕ) → ((i : ℕ) → get_or xs i 0 < 2 ^ 64) → numbers (length xs) (flat_map (bytes_of 8) xs) ≡ xs
unfolding numbers
numbers_joined [] f = refl
numbers_joined (x ∷ xs) f =
    let rest = flat_map (bytes_of 8) xs in
    ap₂ (λ a b. a ∷ b)
    (ap number_of (take_at (bytes_of 8 x) rest 8 (length_bytes_of 8 x)) ∙ number_of_bytes_of 8 x (f 0))
    (ap (numbers (length xs)) (drop_at (bytes_of 8 x) rest 8 (length_bytes_of 8 x)) ∙ numbers_joined xs (λ i. f (suc i)))

joined_numbers : (n : ℕ) (bs : List ℕ) → length bs ≡ 8 * n → ((i : ℕ) → get_or bs i 0 < 256) → flat_map (bytes_of 8) (numbers n bs) ≡ bs
unfolding numbers
joined_numbers zero bs e f = sym (nil_from_length bs e)
joined_numbers (suc n) bs e f =
    let eight : length (take 8 bs) ≡ 8 = length-take-le 8 bs (omega arith) in
    let first = ap (λ k. bytes_of k (number_of (take 8 bs))) (sym eight) ∙ bytes_of_number_of (take 8 bs) (take_fits 8 bs f) in
    let rest = joined_numbers n (drop 8 bs) (simp length-drop (omega arith)) (drop_fits 8 bs f) in
    ap₂ (λ a b. a ++ b) first rest ∙ take-append-drop 8 bs

-- Sizes are their four numbers.
same_sizes : (n v m d : ℕ) (s : Sizes) → n ≡ s.operations → v ≡ s.named → m ≡ s.cells → d ≡ s.depth → ◌≡◌ {A = Sizes} (record { operations = n; named = v; cells = m; depth = d }) s
same_sizes n v m d s e f g h =
    ap₂ (λ n v. record { operations = n; named = v; cells = m; depth = d }) e f ∙ ap₂ (λ m d. record { operations = s.operations; named = s.named; cells = m; depth = d }) g h

-- A load of a code's file gives the code back.
module _ (s : Sizes) (os xs : List ℕ) (size : length os ≡ s.operations) (long : length xs ≡ s.operations) (limits : limits_ok s ≡ true) (fits : (i : ℕ) → get_or xs i 0 < 2 ^ 64) where
  sizes_in_file : sizes_in (header s ++ (os ++ flat_map (bytes_of 8) xs)) ≡ s
  unfolding bytes_of
  sizes_in_file =
      let n = number_of_bytes_of 4 s.operations (grind (arith, nat_tests)) in
      let v = number_of_bytes_of 4 s.named (grind (arith, nat_tests)) in
      let m = number_of_bytes_of 4 s.cells (grind (arith, nat_tests)) in
      let d = number_of_bytes_of 4 s.depth (grind (arith, nat_tests)) in
      same_sizes _ _ _ _ s n v m d

  length_file : length (header s ++ (os ++ flat_map (bytes_of 8) xs)) ≡ file_length s
  unfolding bytes_of
  length_file = simp length-append (omega (arith, length_joined xs))

  pub file_to_loaded : (os' xs' : List ℕ) → s.operations ≤ length os' → s.operations ≤ length xs'
      → load (header s ++ (os ++ flat_map (bytes_of 8) xs)) os' xs' ≡ record { answer = gives s; operations = os ++ drop s.operations os'; operands = xs ++ drop s.operations xs' }
  unfolding bytes_of
  file_to_loaded os' xs' a b =
      let tail = flat_map (bytes_of 8) xs in
      let f = header s ++ (os ++ tail) in
      let ops : take s.operations (drop 16 f) ≡ os = take_at os tail s.operations size in
      let rest : drop (16 + s.operations) f ≡ tail = sym (drop-drop s.operations 16 f) ∙ drop_at os tail s.operations size in
      let nums : numbers s.operations (drop (16 + s.operations) f) ≡ xs =
      ap (numbers s.operations) rest ∙ ap (λ k. numbers k tail) (sym long) ∙ numbers_joined xs fits in
      load_done s f os' xs' _ _ (sym sizes_in_file) length_file (grind (arith, nat_tests)) (ap (λ t. t ++ drop s.operations os') (sym ops)) (ap (λ t. t ++ drop s.operations xs') (sym nums))

-- So does a load of what a store left at the front of its buffer.
pub stored_to_reloads : (s : Sizes) (os xs before after : List ℕ) → lent_ok s (length os) (length xs) ≡ true → ((i : ℕ) → get_or xs i 0 < 2 ^ 64)
    → after ≡ file (code_of s os xs) ++ drop (file_length s) before → Reloads s os xs (take (file_length s) after)
stored_to_reloads s os xs before after good fits e os' xs' a b =
    let n = s.operations in
    let limits = (and_parts (limits_ok s) _ good).0 in
    let size : length (take n os) ≡ n = length-take-le n os (grind (arith, nat_tests)) in
    let long : length (take n xs) ≡ n = length-take-le n xs (grind (arith, nat_tests)) in
    let front : take (file_length s) after ≡ file (code_of s os xs) =
    ap (take (file_length s)) e
    ∙ take_at (file (code_of s os xs)) (drop (file_length s) before) (file_length s) (length_file s (take n os) (take n xs) size long limits (take_fits n xs fits)) in
    ap (λ t. load t os' xs') front ∙ file_to_loaded s (take n os) (take n xs) size long limits (take_fits n xs fits) os' xs' a b

-- The file of a loaded code has the bytes that were loaded.
module _ (bs : List ℕ) (fits : (i : ℕ) → get_or bs i 0 < 256) where
  part : (k m : ℕ) → m + k ≤ length bs → bytes_of k (number_of (take k (drop m bs))) ≡ take k (drop m bs)
  part k m l =
      let size : length (take k (drop m bs)) ≡ k = length-take-le k (drop m bs) (simp length-drop (omega arith)) in
      ap (λ j. bytes_of j (number_of (take k (drop m bs)))) (sym size)
      ∙ bytes_of_number_of (take k (drop m bs)) (take_fits k (drop m bs) (drop_fits m bs fits))

  split : (k m : ℕ) → take k (drop m bs) ++ drop (m + k) bs ≡ drop m bs
  split k m = ap (λ t. take k (drop m bs) ++ t) (sym (drop-drop k m bs)) ∙ take-append-drop k (drop m bs)

  header_bytes : 16 ≤ length bs → header (sizes_in bs) ++ drop 16 bs ≡ bs
  header_bytes l =
      let a = part 4 0 (omega arith) in
      let b = part 4 4 (omega arith) in
      let c = part 4 8 (omega arith) in
      let d = part 4 12 (omega arith) in
      rw (a, b, c, d) (simp append_assoc (rw (split 4 12, split 4 8, split 4 4, split 4 0)))

  pub loaded_to_file : (s : Sizes) (os xs os' xs' : List ℕ) → s ≡ sizes_in bs → length bs ≡ file_length s
      → os' ≡ take s.operations (drop 16 bs) ++ drop s.operations os → xs' ≡ numbers s.operations (drop (16 + s.operations) bs) ++ drop s.operations xs
      → Restores s os' xs' bs
  loaded_to_file s os xs os' xs' e size f g =
      let n = s.operations in
      let ops : take n os' ≡ take n (drop 16 bs) =
      ap (take n) f ∙ take_at (take n (drop 16 bs)) (drop n os) n (length-take-le n (drop 16 bs) (simp length-drop (omega arith))) in
      let nums : take n xs' ≡ numbers n (drop (16 + n) bs) =
      ap (take n) g ∙ take_at (numbers n (drop (16 + n) bs)) (drop n xs) n (length_numbers n (drop (16 + n) bs)) in
      let tail : flat_map (bytes_of 8) (take n xs') ≡ drop (16 + n) bs =
      ap (flat_map (bytes_of 8)) nums
      ∙ joined_numbers n (drop (16 + n) bs) (simp length-drop (omega arith)) (drop_fits (16 + n) bs fits) in
      ap₂ (λ a b. header s ++ (a ++ b)) ops tail ∙ ap (λ t. header s ++ t) (split n 16) ∙ ap (λ s. header s ++ drop 16 bs) e
      ∙ header_bytes (omega arith)
