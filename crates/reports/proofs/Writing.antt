-- What a formatter has written.
use Rattle.std.proofs.Common.{◌≡◌, ℕ, zero, suc, ◌+◌, ◌*◌, ◌<◌, List, [], ◌++◌, length, get_or, take, replicate, codes, Option, Some, Result, refl, ap, sym, subst, ◌∙◌, arith}
use Rattle.std.proofs.lemmas.List.{flat_map_more, take_more}
use Rattle.std.proofs.Output.{has_written_append, has_written_of_eq}
use Rattle.std.specs.Result.{IsOk}
use Rattle.std.specs.declared.fmt.Error.{Error}
use Rattle.std.specs.Fmt.{DisplaysOnOk, WritesOnOk, HasWritten, HasWrittenStyled, IsDefaultSpec, IsPlainFormatter}
use Rattle.std.specs.List.{flat_map, repeat}
use Rattle.std.specs.declared.fmt.Formatter.{Formatter}

-- A plain formatter that has written under its options has written as `{}` does.
pub as_plain : {W : Type 0} (took : W → List ℕ → W → Type 0) (f g : Formatter W) (bs : List ℕ) → IsPlainFormatter f → HasWrittenStyled took f bs g → HasWritten took f bs g
as_plain took f g bs p h = record { wrote = h.wrote; plain = record { bare = subst IsDefaultSpec (sym h.spec) p.bare; flush = h.flush } }

-- Two blanks so many times are twice as many blanks.
pub two_blanks : (n : ℕ) → repeat n (codes "  ") ≡ replicate (2 * n) 32
two_blanks zero = refl
two_blanks (suc n) =
    let e : 2 * suc n ≡ suc (suc (2 * n)) = omega arith in
    ap (λ (bs : List ℕ). codes "  " ++ bs) (two_blanks n) ∙ sym (ap (λ (k : ℕ). replicate k 32) e)

-- One more element is written behind those so far.
one_more : (shown : ℕ → List ℕ) (xs : List ℕ) (i d : ℕ) → i < length xs → flat_map shown (take i xs) ++ shown (get_or xs i d) ≡ flat_map shown (take (i + 1) xs)
one_more shown xs i d h = flat_map_more shown [] (take i xs) (get_or xs i d) ∙ ap (λ (ys : List ℕ). flat_map shown ys) (sym (take_more xs i d h))

pub written_more : {W : Type 0} (took : W → List ℕ → W → Type 0) (f g h : Formatter W) (shown : ℕ → List ℕ) (xs : List ℕ) (i d : ℕ) (o : Option (List ℕ)) (r : Result (Unit {0}) Error) → i < length xs
    → HasWritten took f (flat_map shown (take i xs)) g → o ≡ Some (shown (get_or xs i d)) → IsOk r → DisplaysOnOk took g r o h → HasWritten took f (flat_map shown (take (i + 1) xs)) h
written_more took f g h shown xs i d o r l before e ok w =
    let writes : WritesOnOk took g r (shown (get_or xs i d)) h = subst (λ (p : Option (List ℕ)). DisplaysOnOk took g r p h) e w in
    has_written_of_eq took f _ _ h (one_more shown xs i d l) (has_written_append took f _ g _ h before (writes before.plain ok))
