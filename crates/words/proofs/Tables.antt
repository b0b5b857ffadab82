-- The tables of fixed words: a test of every entry, computed once over the table, and what a search in a table finds.
use Rattle.std.proofs.Common.{◌≡◌, ℕ, ◌<◌, Bool, true, false, ◌&&◌, leb, List, [], ◌∷◌, length, refl, arith}
use Rattle.std.specs.List.{AllByRecursion as All}
use Rattle.std.proofs.lemmas.Bool.{and_parts, leb-true}
use Rattle.words.specs.Token.{Token}
use Rattle.words.specs.Spelling.{Fixed, reserved_words}
use Rattle.std.specs.Str.{bytes_eq}
use Rattle.words.specs.Words.{exactly}
use Rattle.words.proofs.Comparison.{lengths_differ_to_not_same}

-- A test holds of every entry of a table.
abbrev pub every : (Fixed → Bool) → List Fixed → Bool
every p [] = true
every p (f ∷ fs) = p f && every p fs

pub every_to_all : (p : Fixed → Bool) (fs : List Fixed) → every p fs ≡ true → All (λ f. p f ≡ true) fs
every_to_all p [] e = tt
every_to_all p (f ∷ fs) e = let h = and_parts (p f) (every p fs) e in (h.0, every_to_all p fs h.1)

-- Bytes longer than every entry are no entry.
pub longer_to_not_in_table : (n : ℕ) (s : List ℕ) (o : Token) → n < length s → (fs : List Fixed) → All (λ f. leb (length f.bytes) n ≡ true) fs → exactly fs s o ≡ o
longer_to_not_in_table n s o lt [] a = refl
longer_to_not_in_table n s o lt (f ∷ fs) a =
    let d : bytes_eq s f.bytes ≡ false = lengths_differ_to_not_same s f.bytes (λ e. omega (arith, e, leb-true (length f.bytes) n a.0)) in
    rw d (longer_to_not_in_table n s o lt fs a.1)

pub longer_than_16_to_not_reserved : (s : List ℕ) (o : Token) → 16 < length s → exactly reserved_words s o ≡ o
longer_than_16_to_not_reserved s o lt = longer_to_not_in_table 16 s o lt reserved_words (every_to_all (λ f. leb (length f.bytes) 16) reserved_words refl)
