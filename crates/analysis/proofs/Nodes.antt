-- Reading the parts of a record of a table: within the table a part is its record's, past the table there is none.
use Rattle.std.proofs.Common.{◌≡◌, ℕ, zero, suc, ◌<◌, ◌≤◌, List, [], ◌∷◌, map, length, get_or, Some, None, Option, refl, ap, ◌∙◌, arith}
use Rattle.std.specs.Borrow.{Bor}
use Rattle.std.specs.List.{HoldsAt}
use Rattle.std.specs.Option.{IfSome, MatchOption, option_map_or}
use Rattle.parser.specs.declared.table.Record.{Record}
use Rattle.parser.specs.declared.node.Node.TheVariants.{Empty}
use Rattle.parser.specs.Records.{nodes, words}
use Rattle.analysis.specs.Letters.{letters_in}

-- What is read from an element, or a value past the end, where an element that is got is that of the list.
pub read_or : {A B : Type 0} (f : A → B) (xs : List A) (i : ℕ) (e b : B) (o : Option (Bor A)) → MatchOption o (length xs ≤ i) (λ x. (i < length xs) × HoldsAt (λ y. x.now ≡ y) xs i) → IfSome o (λ x. x.now ≡ get_or xs i x.now) → ((d : A) → i < length xs → f (get_or xs i d) ≡ b) → (length xs ≤ i → e ≡ b) → option_map_or (λ x. f x.now) o e ≡ b
read_or f xs i e b (Some x) m h within past = ap f h ∙ within x.now m.0
read_or f xs i e b None m h within past = past m

pub node_within : (rs : List Record) (i : ℕ) (d : Record) → i < length rs → (get_or rs i d).node ≡ get_or (nodes rs) i Empty
node_within [] i d h = absurd (omega arith)
node_within (r ∷ rs) zero d h = refl
node_within (r ∷ rs) (suc i) d h = node_within rs i d (omega arith)

pub node_past : (rs : List Record) (i : ℕ) → length rs ≤ i → Empty ≡ get_or (nodes rs) i Empty
node_past [] i h = refl
node_past (r ∷ rs) zero h = absurd (omega arith)
node_past (r ∷ rs) (suc i) h = node_past rs i (omega arith)

module _ (text : List ℕ) where
  pub letters_within : (rs : List Record) (i : ℕ) (d : Record) → i < length rs → letters_in text (get_or rs i d).word ≡ get_or (map (letters_in text) (words rs)) i []
  letters_within [] i d h = absurd (omega arith)
  letters_within (r ∷ rs) zero d h = refl
  letters_within (r ∷ rs) (suc i) d h = letters_within rs i d (omega arith)

  pub letters_past : (rs : List Record) (i : ℕ) → length rs ≤ i → [] ≡ get_or (map (letters_in text) (words rs)) i []
  letters_past [] i h = refl
  letters_past (r ∷ rs) zero h = absurd (omega arith)
  letters_past (r ∷ rs) (suc i) h = letters_past rs i (omega arith)
