-- The stored form of code, and what the calls that store and load it give.
-- A file is n, v, m and D in four bytes each, then a byte for each operation, then eight bytes for each operand;
-- every number has its low byte first.
use Rattle.std.specs.Prelude.{◌≡◌, ℕ, zero, suc, ◌+◌, ◌*◌, ◌/◌, ◌%◌, ◌≤◌, cond, List, [], ◌∷◌, ◌++◌, length, take, drop, Ok, Err, Result, ◌==◌, nat_le}
use Rattle.std.specs.List.{flat_map}
use Rattle.code.specs.declared.refusals.Refusal.{Refusal}
use Rattle.code.specs.declared.sizes.Sizes.{Sizes}
use Rattle.code.specs.Answers.{number}
use Rattle.code.specs.Check.{lent_ok}
use Rattle.code.specs.Codes.{Code, code_of}

-- A number in k bytes, and the number that bytes write.
unfoldable pub bytes_of : ℕ → ℕ → List ℕ
bytes_of zero x = []
bytes_of (suc k) x = (x % 256) ∷ bytes_of k (x / 256)

unfoldable pub number_of : List ℕ → ℕ
number_of [] = 0
number_of (b ∷ bs) = b + 256 * number_of bs

-- The file of a code.
abbrev pub header : Sizes → List ℕ
header s = bytes_of 4 s.operations ++ (bytes_of 4 s.named ++ (bytes_of 4 s.cells ++ bytes_of 4 s.depth))

abbrev pub file : Code → List ℕ
file c = header c.sizes ++ (c.operations ++ flat_map (bytes_of 8) c.operands)

abbrev pub file_length : Sizes → ℕ
file_length s = 16 + 9 * s.operations

-- The sizes that a file states, and the numbers that it holds from a byte on.
abbrev pub sizes_in : List ℕ → Sizes
sizes_in bs =
    record {
      operations = number_of (take 4 bs);
      named = number_of (take 4 (drop 4 bs));
      cells = number_of (take 4 (drop 8 bs));
      depth = number_of (take 4 (drop 12 bs));
    }

unfoldable pub numbers : ℕ → List ℕ → List ℕ
numbers zero bs = []
numbers (suc k) bs = number_of (take 8 bs) ∷ numbers k (drop 8 bs)

-- A call gives a value, or refuses by a number.
pub data Answer (X : Type 0) : Type 0 where
  gives : X → Answer X
  refuses : ℕ → Answer X

abbrev pub answer_of : {X : Type 0} → Result X Refusal → Answer X
answer_of (Ok x) = gives x
answer_of (Err e) = refuses (number e)

-- Store: the file's length, and the buffer with the file at its front.
pub record Stored : Type 0 where
  pub answer : Answer ℕ
  pub buffer : List ℕ

abbrev pub store : Sizes → List ℕ → List ℕ → List ℕ → Stored
store s os xs buffer =
    cond (lent_ok s (length os) (length xs))
    (cond (nat_le (file_length s) (length buffer))
    (record { answer = gives (file_length s); buffer = file (code_of s os xs) ++ drop (file_length s) buffer })
    (record { answer = refuses 47; buffer = buffer }))
    (record { answer = refuses 21; buffer = buffer })

-- Load: the file's sizes, and the arrays with its operations and operands at their fronts.
pub record Loaded : Type 0 where
  pub answer : Answer Sizes
  pub operations : List ℕ
  pub operands : List ℕ

abbrev pub loaded : Sizes → List ℕ → List ℕ → List ℕ → Loaded
loaded s bs os xs =
    record {
      answer = gives s;
      operations = take s.operations (drop 16 bs) ++ drop s.operations os;
      operands = numbers s.operations (drop (16 + s.operations) bs) ++ drop s.operations xs;
    }

abbrev pub load : List ℕ → List ℕ → List ℕ → Loaded
load bs os xs =
    cond (length bs == file_length (sizes_in bs))
    (cond (lent_ok (sizes_in bs) (length os) (length xs))
    (loaded (sizes_in bs) bs os xs)
    (record { answer = refuses 21; operations = os; operands = xs }))
    (record { answer = refuses 27; operations = os; operands = xs })

-- From the bytes a load gives the code back, into any arrays with room.
abbrev pub Reloads : Sizes → List ℕ → List ℕ → List ℕ → Type 0
Reloads s os xs bs =
    (os' xs' : List ℕ) → s.operations ≤ length os' → s.operations ≤ length xs'
    → load bs os' xs' ≡ record { answer = gives s; operations = take s.operations os ++ drop s.operations os'; operands = take s.operations xs ++ drop s.operations xs' }

-- The loaded code has these bytes for its file.
abbrev pub Restores : Sizes → List ℕ → List ℕ → List ℕ → Type 0
Restores s os xs bs = file (code_of s os xs) ≡ bs
