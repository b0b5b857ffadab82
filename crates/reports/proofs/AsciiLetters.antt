-- ASCII letters as text.
use Rattle.std.proofs.Common.{◌≡◌, ℕ, suc, List, [], ◌∷◌, ◌++◌, Ok, Err, Result, IfOk, refl, ap, ap₂, ◌∙◌}
use Rattle.std.specs.Str.{IsAscii}
use Rattle.std.proofs.lemmas.Str.{encode_ascii}
use Rattle.reports.specs.Names.{letters_shown}

-- The text has just their bytes.
pub ascii_as_it_is : (x : List ℕ) → IsAscii x → letters_shown x ≡ x
ascii_as_it_is [] h = refl
ascii_as_it_is (b ∷ bs) h = ap₂ (λ (s t : List ℕ). s ++ t) (encode_ascii b (h 0)) (ascii_as_it_is bs (λ i. h (suc i)))

-- So has a text of them that may have been made.
pub letters_from_made : {S E : Type 0} (bytes : S → List ℕ) (r : Result S E) (y x : List ℕ) → y ≡ x → IsAscii x → IfOk r (λ s. bytes s ≡ letters_shown y) → IfOk r (λ s. bytes s ≡ x)
letters_from_made bytes (Ok s) y x e h p = p ∙ ap letters_shown e ∙ ascii_as_it_is x h
letters_from_made bytes (Err e) y x _ h p = tt
