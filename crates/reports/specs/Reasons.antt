-- The reason for each refusal of a text, by its number, as a person reads it.
use Rattle.std.specs.Prelude.{ℕ, List, [], ◌∷◌, codes, slice_index_or}

abbrev pub no_reason : List ℕ
no_reason = codes "no reason is known by this number"

-- From 0 on; no text is refused by 0.
abbrev pub reasons : List (List ℕ)
reasons =
    no_reason
    ∷ codes "the text is longer than 8,192 bytes"
    ∷ codes "no word begins with this byte"
    ∷ codes "a name has at most 16 letters and digits, a number at most 9 digits"
    ∷ codes "the text has more than 500 words"
    ∷ codes "the text cannot go on with this, or ends too early"
    ∷ codes "more than 32 brackets, ifs, fors and begins stand within one another"
    ∷ codes "a name is defined once and has at most one type; a label or a switch has none"
    ∷ codes "this name is used as something else than it is defined as"
    ∷ codes "a number stands where a truth value is wanted, or a truth value where a number is"
    ∷ codes "a go to may not lead into the body of a for from outside"
    ∷ codes "the lower bound is above the upper, or a bound lies beyond 9,999 either way"
    ∷ codes "the names and fors up to here need more than 2,048 cells"
    ∷ codes "the tables lent for reading the text are too short"
    ∷ []

abbrev pub reason_of : ℕ → List ℕ
reason_of n = slice_index_or reasons n no_reason
