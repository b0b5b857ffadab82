-- From a number without its sign to a line's figure.
use Rattle.std.proofs.Common.{◌≡◌, ℕ, ◌-◌, ◌≤◌, List, [], ◌∷◌, ◌++◌, length, get_or, take, drop, ℤ, Some, Option, sym, ap, ◌∙◌}
use Rattle.std.proofs.lemmas.List.{drop_more, take_rest}
use Rattle.rolls.specs.LineLaws.{negative}
use Rattle.rolls.specs.Lines.{signed_line, with_sign}
use Rattle.rolls.specs.Reading.{FigureLine, NoFigureLine}
use Rattle.rolls.proofs.WholeLines.{sign_some}

module _ (writes : List ℕ → Option ℕ) where
  -- Behind a minus sign.
  module _ (bytes : List ℕ) (some : 1 ≤ length bytes) (minus : get_or bytes 0 0 ≡ 45) where
    signed_bytes : bytes ≡ 45 ∷ drop 1 bytes
    signed_bytes = drop_more bytes 0 0 some ∙ ap (λ b. b ∷ drop 1 bytes) minus

    pub minus_none : NoFigureLine writes (take (length bytes - 1) (drop 1 bytes)) → NoFigureLine (signed_line writes) bytes
    minus_none none [] later z e holds = cc
    minus_none none (b ∷ line) later z e holds =
        let whole = sym signed_bytes ∙ e in
        let first : b ≡ 45 = cc in
        let tails : drop 1 bytes ≡ line ++ 10 ∷ later = cc in
        let found = sign_some negative (writes line) z (sym (ap (λ a. signed_line writes (a ∷ line)) first) ∙ holds) in
        none line later found.0 (take_rest bytes 1 ∙ tails) found.1

    pub minus_found : (n : ℕ) (z : ℤ) (rest : List ℕ) → z ≡ negative n → FigureLine writes (take (length bytes - 1) (drop 1 bytes)) n rest → FigureLine (signed_line writes) bytes z rest
    minus_found n z rest is f =
        record {
          line = 45 ∷ f.line;
          parts = signed_bytes ∙ ap (λ bs. 45 ∷ bs) (sym (take_rest bytes 1) ∙ f.parts);
          holds = ap (with_sign negative) f.holds ∙ ap Some (sym is);
        }
