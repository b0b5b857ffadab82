-- Files as whole lines: what a file's lines and its unended rest have to do with its bytes, and what reading makes of
-- them.
use Rattle.std.proofs.Common.{◌≡◌, ℕ, suc, ◌+◌, true, false, not, eqb, ◌⊎◌, List, [], ◌∷◌, ◌++◌, length, ℤ, pos, neg_ℤ, Some, None, Option, sym, refl, ap, ◌∙◌, subst, ap₂, inl, inr, ⊎_elim, append_assoc, arith, length-append}
use Rattle.std.proofs.lemmas.Bool.{and_parts, cases_Bool, cond-false, cond-true, eqb-true, ne_eqb}
use Rattle.rolls.specs.Contents.{Contents, damaged_at}
use Rattle.rolls.specs.Lines.{File, before, file_of, no_end, onto_first, read_as, read_lines, signed_line, with_sign}
use Rattle.rolls.specs.LineLaws.{not_end}
use Rattle.rolls.proofs.FirstLine.{ends_none}
use Rattle.rolls.specs.Reading.{EndsAt, NoFigureLine, Reading, at_damage, at_end, with_ends}

-- A file's lines and the rest behind them have no byte 10 inside.
abbrev NoEnds : List (List ℕ) → Type 0
NoEnds [] = Unit {0}
NoEnds (line ∷ lines) = (no_end line ≡ true) × NoEnds lines

pub record CutUp (bytes : List ℕ) (f : File) : Type 0 where
  pub parts : bytes ≡ with_ends f.lines ++ f.unended
  inside : NoEnds f.lines
  rest : no_end f.unended ≡ true

-- Every file is cut up into its lines.
pub cut_up : (bytes : List ℕ) → CutUp bytes (file_of bytes)
cut_up [] = record { parts = refl; inside = tt; rest = refl }
cut_up (b ∷ bytes) =
    let f = file_of bytes in
    let h = cut_up bytes in
    ⊎_elim
    (λ (is_end : eqb b 10 ≡ true).
    subst (CutUp (b ∷ bytes)) (sym (cond-true (eqb b 10) (record { lines = [] ∷ f.lines; unended = f.unended }) (onto_first b f.lines f.unended) is_end))
    (record { parts = ap₂ ◌∷◌ (eqb-true b 10 is_end) h.parts; inside = (refl, h.inside); rest = h.rest }))
    (λ (other : eqb b 10 ≡ false).
    subst (CutUp (b ∷ bytes)) (sym (cond-false (eqb b 10) (record { lines = [] ∷ f.lines; unended = f.unended }) (onto_first b f.lines f.unended) other))
    (one_more b other bytes f.lines f.unended h.parts h.inside h.rest))
    (cases_Bool (eqb b 10))
  where
    one_more : (b : ℕ) → eqb b 10 ≡ false → (bytes : List ℕ) (lines : List (List ℕ)) (unended : List ℕ) → bytes ≡ with_ends lines ++ unended → NoEnds lines → no_end unended ≡ true → CutUp (b ∷ bytes) (onto_first b lines unended)
    one_more b other bytes [] unended parts inside rest =
        record { parts = ap (λ bs. b ∷ bs) parts; inside = tt; rest = not_end b other unended rest }
    one_more b other bytes (line ∷ lines) unended parts inside rest =
        record { parts = ap (λ bs. b ∷ bs) parts; inside = (not_end b other line inside.0, inside.1); rest = rest }

-- Two rows without a byte 10, each followed by one, are equal where the whole is.
pub same_row : (a b xs ys : List ℕ) → no_end a ≡ true → no_end b ≡ true → a ++ 10 ∷ xs ≡ b ++ 10 ∷ ys → a ≡ b
same_row [] [] xs ys p q e = refl
same_row [] (b ∷ bs) xs ys p q e =
    let is : b ≡ 10 = cc in
    absurd (ends_none b bs is q)
same_row (a ∷ cs) [] xs ys p q e =
    let is : a ≡ 10 = cc in
    absurd (ends_none a cs is p)
same_row (a ∷ cs) (b ∷ bs) xs ys p q e =
    let heads : a ≡ b = cc in
    let tails : cs ++ 10 ∷ xs ≡ bs ++ 10 ∷ ys = cc in
    ap₂ ◌∷◌ heads (same_row cs bs xs ys (and_parts (not (eqb a 10)) (no_end cs) p).1 (and_parts (not (eqb b 10)) (no_end bs) q).1 tails)

-- A row without a byte 10 does not begin with a row and a byte 10.
pub no_row : (a b ys : List ℕ) → no_end a ≡ true → a ≡ b ++ 10 ∷ ys → ⊥
no_row [] [] ys p e = cc
no_row [] (b ∷ bs) ys p e = cc
no_row (a ∷ cs) [] ys p e =
    let is : a ≡ 10 = cc in
    ends_none a cs is p
no_row (a ∷ cs) (b ∷ bs) ys p e =
    let tails : cs ≡ bs ++ 10 ∷ ys = cc in
    no_row cs bs ys (and_parts (not (eqb a 10)) (no_end cs) p).1 tails

-- A sign changes whether there is a number in no way.
pub sign_some : (sign : ℕ → ℤ) (m : Option ℕ) (z : ℤ) → with_sign sign m ≡ Some z → (n : ℕ) × (m ≡ Some n)
sign_some sign (Some n) z h = (n, refl)
sign_some sign None z h = cc

-- A line that holds a figure has no byte 10 inside, where what writes a number has none.
pub figure_no_end : (writes : List ℕ → Option ℕ) → ((ds : List ℕ) (n : ℕ) → writes ds ≡ Some n → no_end ds ≡ true) → (line : List ℕ) (z : ℤ) → signed_line writes line ≡ Some z → no_end line ≡ true
figure_no_end writes number_no_end [] z holds = refl
figure_no_end writes number_no_end (b ∷ bytes) z holds =
    ⊎_elim
    (λ (minus : eqb b 45 ≡ true).
    let signed = sym (cond-true (eqb b 45) (with_sign (λ n. neg_ℤ (pos n)) (writes bytes)) (with_sign pos (writes (b ∷ bytes))) minus) ∙ holds in
    let found = sign_some (λ n. neg_ℤ (pos n)) (writes bytes) z signed in
    let is : b ≡ 45 = eqb-true b 45 minus in
    not_end b (ne_eqb b 10 (λ e. omega arith)) bytes (number_no_end bytes found.0 found.1))
    (λ (plain : eqb b 45 ≡ false).
    let unsigned = sym (cond-false (eqb b 45) (with_sign (λ n. neg_ℤ (pos n)) (writes bytes)) (with_sign pos (writes (b ∷ bytes))) plain) ∙ holds in
    let found = sign_some pos (writes (b ∷ bytes)) z unsigned in
    number_no_end (b ∷ bytes) found.0 found.1)
    (cases_Bool (eqb b 45))

abbrev SomeOrNone : Option ℤ → Type 0
SomeOrNone m = ((z : ℤ) × (m ≡ Some z)) ⊎ (m ≡ None)

some_or_none : (m : Option ℤ) → SomeOrNone m
some_or_none (Some z) = inl (z, refl)
some_or_none None = inr refl

-- Reading by a function that says which figure a line holds, and for which no such line has a byte 10 inside.
module _ (figure : List ℕ → Option ℤ) (inside_lines : (line : List ℕ) (z : ℤ) → figure line ≡ Some z → no_end line ≡ true) where
  -- Damage stands at a byte.
  some_bytes : (place : ℕ) (row more : List ℕ) → NoFigureLine figure (row ++ 10 ∷ more) → EndsAt figure place (row ++ 10 ∷ more) (damaged_at place)
  some_bytes place [] more h = at_damage h
  some_bytes place (b ∷ row) more h = at_damage h

  module _ (place : ℕ) (line : List ℕ) (lines : List (List ℕ)) (unended : List ℕ) where
    abbrev later : Contents ℤ
    later = read_lines figure (place + length line + 1) lines unended

    -- A line that holds a figure, before lines that are read.
    figure_first : (z : ℤ) → figure line ≡ Some z → Reading figure (place + length line + 1) (with_ends lines ++ unended) later → Reading figure place (with_ends (line ∷ lines) ++ unended) (before place (figure line) later)
    figure_first z is r =
        let whole : length (line ++ 10 ∷ with_ends r.lines) ≡ length line + suc (length (with_ends r.lines)) = length-append line (10 ∷ with_ends r.lines) in
        let there : place + length line + 1 + length (with_ends r.lines) ≡ place + length (line ++ 10 ∷ with_ends r.lines) = omega arith in
        subst (λ m. Reading figure place (with_ends (line ∷ lines) ++ unended) (before place m later)) (sym is)
        (record {
          lines = line ∷ r.lines;
          rest = r.rest;
          parts =
              append_assoc line (10 ∷ with_ends lines) unended ∙ ap (λ bs. line ++ 10 ∷ bs) r.parts
              ∙ sym (append_assoc line (10 ∷ with_ends r.lines) r.rest);
          holds = ap₂ ◌∷◌ is r.holds;
          stops = subst (λ p. EndsAt figure p r.rest later.ending) there r.stops;
        })

    -- A line that holds none.
    damage_first : no_end line ≡ true → figure line ≡ None → Reading figure place (with_ends (line ∷ lines) ++ unended) (before place (figure line) later)
    damage_first inside none =
        let bytes = line ++ 10 ∷ (with_ends lines ++ unended) in
        let here : place + 0 ≡ place = omega arith in
        subst (λ m. Reading figure place (with_ends (line ∷ lines) ++ unended) (before place m later)) (sym none)
        (record {
          lines = [];
          rest = bytes;
          parts = append_assoc line (10 ∷ with_ends lines) unended;
          holds = refl;
          stops = subst (λ p. EndsAt figure p bytes (damaged_at place)) (sym here)
              (some_bytes place line (with_ends lines ++ unended)
              (λ row more z e holds.
              let same = same_row line row (with_ends lines ++ unended) more inside (inside_lines row z holds) e in
              let there = ap figure same in
              cc));
        })

  -- Lines that are read one after the other are read as whole lines say.
  lines_read : (place : ℕ) (lines : List (List ℕ)) (unended : List ℕ) → NoEnds lines → no_end unended ≡ true → Reading figure place (with_ends lines ++ unended) (read_lines figure place lines unended)
  lines_read place [] [] inside rest = record { lines = []; rest = []; parts = refl; holds = refl; stops = at_end }
  lines_read place [] (b ∷ bytes) inside rest =
      let here : place + 0 ≡ place = omega arith in
      record {
        lines = [];
        rest = b ∷ bytes;
        parts = refl;
        holds = refl;
        stops = subst (λ p. EndsAt figure p (b ∷ bytes) (damaged_at place)) (sym here) (at_damage (λ line later z e h. no_row (b ∷ bytes) line later rest e));
      }
  lines_read place (line ∷ lines) unended inside rest =
      ⊎_elim
      (λ (some : (z : ℤ) × (figure line ≡ Some z)).
      figure_first place line lines unended some.0 some.1 (lines_read (place + length line + 1) lines unended inside.1 rest))
      (λ (none : figure line ≡ None). damage_first place line lines unended inside.0 none)
      (some_or_none (figure line))

  -- Every file is read as its lines say.
  pub reading : (bytes : List ℕ) → Reading figure 0 bytes (read_as figure 0 bytes)
  reading bytes =
      let f = file_of bytes in
      let h = cut_up bytes in
      subst (λ bs. Reading figure 0 bs (read_as figure 0 bytes)) (sym h.parts) (lines_read 0 f.lines f.unended h.inside h.rest)
