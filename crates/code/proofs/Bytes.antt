-- Numbers as bytes with the low byte first, and lists of them.
use Rattle.std.proofs.Common.{◌≡◌, ℕ, zero, suc, ◌+◌, ◌-◌, ◌*◌, ◌/◌, ◌%◌, ◌<◌, ◌≤◌, List, [], ◌∷◌, ◌++◌, map, length, get_or, take, drop, set, sym, refl, ap, ◌∙◌, ap₂, arith}
use native.Mathlib.Nat.{div-div-eq-div-mul}
use Rattle.std.proofs.lemmas.List.{append_assoc, at_drop_more, at_drop_all, drop-drop, drop_more, flat_map_more, set_at, take_more, length-take-le, length-drop, length-map, map-append, take_rest}
use Rattle.std.specs.Simd.{first_chunks}
use Rattle.std.specs.List.{flat_map}
use Rattle.code.specs.Files.{bytes_of, number_of, numbers}

-- The bytes from place i on write the byte at i and 256 times what follows.
number_of_more : (bs : List ℕ) (i : ℕ) → i < length bs → number_of (drop i bs) ≡ get_or bs i 0 + 256 * number_of (drop (i + 1) bs)
unfolding number_of
number_of_more bs i l = at_drop_more number_of bs i 0 l

number_of_done : (bs : List ℕ) (i : ℕ) → length bs ≤ i → number_of (drop i bs) ≡ 0
unfolding number_of
number_of_done bs i l = at_drop_all number_of bs i l

-- Four bytes and eight bytes, as the byte-order methods read and write them.
pub number_of_4 : (bs : List ℕ) → length bs ≡ 4
    → number_of bs ≡ get_or bs 0 0 + get_or bs 1 0 * 256 + get_or bs 2 0 * 65536 + get_or bs 3 0 * 16777216
number_of_4 bs e =
    omega (arith, number_of_more bs 0 (omega arith), number_of_more bs 1 (omega arith), number_of_more bs 2 (omega arith), number_of_more bs 3 (omega arith), number_of_done bs 4 (omega arith))

pub number_of_8 : (bs : List ℕ) → length bs ≡ 8
    → number_of bs ≡ get_or bs 0 0 + get_or bs 1 0 * 256 + get_or bs 2 0 * 65536 + get_or bs 3 0 * 16777216 + get_or bs 4 0 * 4294967296 + get_or bs 5 0 * 1099511627776 + get_or bs 6 0 * 281474976710656 + get_or bs 7 0 * 72057594037927936
number_of_8 bs e =
    omega (
      arith,
      number_of_more bs 0 (omega arith),
      number_of_more bs 1 (omega arith),
      number_of_more bs 2 (omega arith),
      number_of_more bs 3 (omega arith),
      number_of_more bs 4 (omega arith),
      number_of_more bs 5 (omega arith),
      number_of_more bs 6 (omega arith),
      number_of_more bs 7 (omega arith),
      number_of_done bs 8 (omega arith),
    )

-- Four bytes of a list that is cut into fours are the number that they write.
chunk_at : (k i m : ℕ) (bs : List ℕ) → i < k → m ≡ 4 * i → get_or (first_chunks 4 k bs) i [] ≡ take 4 (drop m bs)
chunk_at zero i m bs l e = absurd (omega arith)
chunk_at (suc k) zero m bs l e = let z : m ≡ 0 = omega arith in ap (λ j. take 4 (drop j bs)) (sym z)
chunk_at (suc k) (suc i) m bs l e =
    let step : 4 + (m - 4) ≡ m = omega arith in
    chunk_at k i (m - 4) (drop 4 bs) (omega arith) (omega arith) ∙ ap (take 4) (drop-drop (m - 4) 4 bs ∙ ap (λ j. drop j bs) step)

pub word_at : (words : List (List ℕ)) (bs : List ℕ) (i m x : ℕ) → words ≡ first_chunks 4 (length bs / 4) bs → m + 4 ≤ length bs → m ≡ 4 * i
    → x ≡ get_or (get_or words i []) 0 0 + get_or (get_or words i []) 1 0 * 256 + get_or (get_or words i []) 2 0 * 65536 + get_or (get_or words i []) 3 0 * 16777216
    → x ≡ number_of (take 4 (drop m bs))
word_at words bs i m x e l at h =
    let word : get_or words i [] ≡ take 4 (drop m bs) = ap (λ ws. get_or ws i []) e ∙ chunk_at (length bs / 4) i m bs (omega arith) at in
    let size : length (get_or words i []) ≡ 4 = ap length word ∙ length-take-le 4 (drop m bs) (simp length-drop (omega arith)) in
    h ∙ sym (number_of_4 (get_or words i []) size) ∙ ap number_of word

pub length_numbers : (k : ℕ) (bs : List ℕ) → length (numbers k bs) ≡ k
unfolding numbers
length_numbers zero bs = refl
length_numbers (suc k) bs = ap suc (length_numbers k (drop 8 bs))

-- A list that is cut into eights writes the numbers one behind the other.
numbers_of_chunks : (k : ℕ) (bs : List ℕ) → map number_of (first_chunks 8 k bs) ≡ numbers k bs
unfolding numbers
numbers_of_chunks zero bs = refl
numbers_of_chunks (suc k) bs = ap (λ t. number_of (take 8 bs) ∷ t) (numbers_of_chunks k (drop 8 bs))

pub numbers_read : (k m : ℕ) (bs xs xs' : List ℕ) (words : List (List ℕ)) → length bs ≡ m + 8 * k
    → words ≡ first_chunks 8 (length (take (length bs - m) (drop m bs)) / 8) (take (length bs - m) (drop m bs))
    → xs' ≡ map number_of words ++ drop (length words) xs → xs' ≡ numbers k (drop m bs) ++ drop k xs
numbers_read k m bs xs xs' words long cut e =
    let rest = take_rest bs m in
    let count : length (drop m bs) / 8 ≡ k = simp length-drop (omega arith) in
    let all : words ≡ first_chunks 8 k (drop m bs) = cut ∙ ap₂ (first_chunks 8) (ap (λ t. length t / 8) rest ∙ count) rest in
    let read : map number_of words ≡ numbers k (drop m bs) = ap (map number_of) all ∙ numbers_of_chunks k (drop m bs) in
    let size : length words ≡ k = sym (length-map words number_of) ∙ ap length read ∙ length_numbers k (drop m bs) in
    e ∙ ap₂ (λ a n. a ++ drop n xs) read size

pub bytes_of_4 : (x : ℕ) → (x % 256) ∷ (x / 256 % 256) ∷ (x / 65536 % 256) ∷ (x / 16777216 % 256) ∷ [] ≡ bytes_of 4 x
unfolding bytes_of
bytes_of_4 x = simp div-div-eq-div-mul

pub bytes_of_8 : (x : ℕ)
    → (x % 256) ∷ (x / 256 % 256) ∷ (x / 65536 % 256) ∷ (x / 16777216 % 256) ∷ (x / 4294967296 % 256) ∷ (x / 1099511627776 % 256) ∷ (x / 281474976710656 % 256) ∷ (x / 72057594037927936 % 256) ∷ [] ≡ bytes_of 8 x
unfolding bytes_of
bytes_of_8 x = simp div-div-eq-div-mul

pub length_bytes_of : (k x : ℕ) → length (bytes_of k x) ≡ k
unfolding bytes_of
length_bytes_of zero x = refl
length_bytes_of (suc k) x = ap suc (length_bytes_of k (x / 256))

-- A write of a number in k bytes, by what was written.
size_of_word : (k x : ℕ) {word : List ℕ} → word ≡ bytes_of k x → length word ≡ k
size_of_word k x e = ap length e ∙ length_bytes_of k x

module _ (at k x : ℕ) (before after : List ℕ) {word : List ℕ} (e : word ≡ bytes_of k x) where
  pub written_front : take (at + length word) after ≡ take at before ++ word → take (at + k) after ≡ take at before ++ bytes_of k x
  written_front h = ap (λ n. take (at + n) after) (sym (size_of_word k x e)) ∙ h ∙ ap (λ w. take at before ++ w) e

  pub written_rest : drop (at + length word) after ≡ drop (at + length word) before → drop (at + k) after ≡ drop (at + k) before
  written_rest h = ap (λ n. drop (at + n) after) (sym (size_of_word k x e)) ∙ h ∙ ap (λ n. drop (at + n) before) (size_of_word k x e)

-- What lies behind n is as it was, if that holds of what lies behind m.
pub drop_beyond : (m n : ℕ) (before after : List ℕ) → m ≤ n → drop m after ≡ drop m before → drop n after ≡ drop n before
drop_beyond m n before after l h =
    let step : m + (n - m) ≡ n = omega arith in
    ap (λ k. drop k after) (sym step) ∙ sym (drop-drop (n - m) m after) ∙ ap (drop (n - m)) h ∙ drop-drop (n - m) m before
    ∙ ap (λ k. drop k before) step

-- One operand more is written.
pub joined_step : (at i : ℕ) (xs front before after : List ℕ) → i < length xs
    → take (at + 8 * i) before ≡ front ++ flat_map (bytes_of 8) (take i xs)
    → take (at + 8 * i + 8) after ≡ take (at + 8 * i) before ++ bytes_of 8 (get_or xs i 0)
    → take (at + 8 * (i + 1)) after ≡ front ++ flat_map (bytes_of 8) (take (i + 1) xs)
joined_step at i xs front before after l h w =
    let step : at + 8 * (i + 1) ≡ at + 8 * i + 8 = omega arith in
    ap (λ n. take n after) step ∙ w ∙ ap (λ t. t ++ bytes_of 8 (get_or xs i 0)) h
    ∙ flat_map_more (bytes_of 8) front (take i xs) (get_or xs i 0) ∙ ap (λ t. front ++ flat_map (bytes_of 8) t) (sym (take_more xs i 0 l))

-- One operand more is read.
pub numbers_step : (i v : ℕ) (words : List (List ℕ)) (xs : List ℕ) {before : List ℕ} → i < length words → i < length xs
    → before ≡ map number_of (take i words) ++ drop i xs → v ≡ number_of (get_or words i [])
    → set before i v ≡ map number_of (take (i + 1) words) ++ drop (i + 1) xs
numbers_step i v words xs {before} l m h e =
    let front = map number_of (take i words) in
    let size : length front ≡ i = length-map (take i words) number_of ∙ length-take-le i words (omega arith) in
    let next : map number_of (take (i + 1) words) ≡ front ++ (v ∷ []) =
    ap (map number_of) (take_more words i [] l) ∙ map-append number_of (take i words) (get_or words i [] ∷ []) ∙ ap (λ w. front ++ (w ∷ [])) (sym e) in
    ap (λ t. set t i v) (h ∙ ap (λ t. front ++ t) (drop_more xs i 0 m))
    ∙ set_at front (get_or xs i 0) (drop (i + 1) xs) v i size
    ∙ sym (append_assoc front (v ∷ []) (drop (i + 1) xs)) ∙ ap (λ t. t ++ drop (i + 1) xs) (sym next)
