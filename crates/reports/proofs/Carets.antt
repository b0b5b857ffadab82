-- The caret of an excerpt stands under its place.
use Rattle.std.proofs.Common.{◌≡◌, ℕ, ◌+◌, ◌-◌, ◌≤◌, min, Bool, true, false, cond, eqb, List, [], ◌∷◌, ◌++◌, length, take, drop, codes, nat_lt, sym, refl, ap, ◌∙◌, arith, length-append, append_assoc}
use Rattle.std.specs.List.{flat_map}
use Rattle.std.proofs.Math.Seq.{take-add}
use Rattle.std.proofs.lemmas.List.{drop-drop, length-take}
use Rattle.std.proofs.lemmas.Grind.{flat_map-append}
use Rattle.places.specs.declared.Location.{Location}
use Rattle.places.specs.Location.{location, last_start}
use Rattle.reports.specs.declared.excerpt.Window.{Window}
use Rattle.reports.specs.Windows.{window_of, WindowLaw}
use Rattle.reports.specs.Excerpts.{is_printable, shown_byte, blanks_for, part_of, CaretLaw, CaretLawOf}

-- A byte's blanks are as many as the bytes that show it.
by_kind : (t : Bool) (b : ℕ) (x y : ℕ) → length (cond t (codes " ") (codes "    ")) ≡ length (cond t (b ∷ []) (92 ∷ 120 ∷ x ∷ y ∷ []))
by_kind true b x y = refl
by_kind false b x y = refl

as_wide_byte : (b : ℕ) → length (blanks_for b) ≡ length (shown_byte b)
as_wide_byte b = by_kind (is_printable b) b _ _

as_wide_bytes : (bs : List ℕ) → length (flat_map blanks_for bs) ≡ length (flat_map shown_byte bs)
as_wide_bytes [] = refl
as_wide_bytes (b ∷ bs) =
    let h : length (flat_map blanks_for bs) ≡ length (flat_map shown_byte bs) = as_wide_bytes bs in
    let one : length (blanks_for b) ≡ length (shown_byte b) = as_wide_byte b in
    let l : length (blanks_for b ++ flat_map blanks_for bs) ≡ length (blanks_for b) + length (flat_map blanks_for bs) = length-append (blanks_for b) (flat_map blanks_for bs) in
    let r : length (shown_byte b ++ flat_map shown_byte bs) ≡ length (shown_byte b) + length (flat_map shown_byte bs) = length-append (shown_byte b) (flat_map shown_byte bs) in
    l ∙ (omega (arith, h, one) ∙ sym r)

-- Three dots are as wide as three blanks.
as_wide_cut : (t : Bool) → length (cond t (codes "   ") []) ≡ length (cond t (codes "...") [])
as_wide_cut true = refl
as_wide_cut false = refl

-- A part of a text is what stands before a place in it, and what stands from there on.
part_splits : (text : List ℕ) (from place to : ℕ) → from ≤ place → place ≤ to → part_of text from to ≡ part_of text from place ++ part_of text place to
part_splits text from place to l h =
    let n : to - from ≡ (place - from) + (to - place) = omega arith in
    let m : from + (place - from) ≡ place = omega arith in
    ap (λ (k : ℕ). take k (drop from text)) n
    ∙ (take-add (place - from) (to - place) (drop from text)
    ∙ (ap (λ (ys : List ℕ). take (place - from) (drop from text) ++ take (to - place) ys) (drop-drop (place - from) from text)
    ∙ ap (λ (k : ℕ). take (place - from) (drop from text) ++ take (to - place) (drop k text)) m))

shown_splits : (text : List ℕ) (from place to : ℕ) (dots rest : List ℕ) → from ≤ place → place ≤ to
    → dots ++ (flat_map shown_byte (part_of text from to) ++ rest) ≡ (dots ++ flat_map shown_byte (part_of text from place)) ++ (flat_map shown_byte (part_of text place to) ++ rest)
shown_splits text from place to dots rest l h =
    ap (λ (bs : List ℕ). dots ++ (flat_map shown_byte bs ++ rest)) (part_splits text from place to l h)
    ∙ (ap (λ (ys : List ℕ). dots ++ (ys ++ rest)) (flat_map-append shown_byte (part_of text from place) (part_of text place to))
    ∙ simp append_assoc)

-- The caret's law holds of each window in which the place stands.
caret_law : (text : List ℕ) (line : Location) (w : Window) (place : ℕ) → WindowLaw line.start line.end place w → CaretLaw text line w place
caret_law text line w place h = record {
  line_goes_on = shown_splits text w.from place w.to (cond (nat_lt line.start w.from) (codes "...") []) (cond (nat_lt w.to line.end) (codes "...") [] ++ codes "\n") h.place_not_before h.place_not_after;
  caret_follows = sym (append_assoc (cond (nat_lt line.start w.from) (codes "   ") []) (flat_map blanks_for (part_of text w.from place)) (codes "^\n"));
  as_wide =
      let a : length (cond (nat_lt line.start w.from) (codes "   ") []) ≡ length (cond (nat_lt line.start w.from) (codes "...") []) = as_wide_cut (nat_lt line.start w.from) in
      let b : length (flat_map blanks_for (part_of text w.from place)) ≡ length (flat_map shown_byte (part_of text w.from place)) = as_wide_bytes (part_of text w.from place) in
      length-append (cond (nat_lt line.start w.from) (codes "   ") []) (flat_map blanks_for (part_of text w.from place))
      ∙ (omega (arith, a, b)
      ∙ sym (length-append (cond (nat_lt line.start w.from) (codes "...") []) (flat_map shown_byte (part_of text w.from place))));
}

-- A place's line begins at the place or before it, and ends there or behind it.
step_le : (t : Bool) (s a : ℕ) → s ≤ a → cond t (a + 1) s ≤ a + 1
step_le true s a h = omega arith
step_le false s a h = omega arith

last_start_le : (s a : ℕ) (bs : List ℕ) → s ≤ a → last_start s a bs ≤ a + length bs
last_start_le s a [] h = omega arith
last_start_le s a (b ∷ bs) h =
    let i : last_start (cond (eqb b 10) (a + 1) s) (a + 1) bs ≤ a + 1 + length bs = last_start_le (cond (eqb b 10) (a + 1) s) (a + 1) bs (step_le (eqb b 10) s a h) in
    omega (arith, i)

begins_before : (text : List ℕ) (place : ℕ) → (location text place).start ≤ place
begins_before text place =
    let q : ℕ = min place (length text) in
    let i : last_start 0 0 (take (min place (length text)) text) ≤ 0 + length (take (min place (length text)) text) = last_start_le 0 0 (take (min place (length text)) text) (omega arith) in
    let n : length (take (min place (length text)) text) ≡ min (min place (length text)) (length text) = length-take (min place (length text)) text in
    omega (arith, i, n)

ends_behind : (text : List ℕ) (place : ℕ) → place ≤ length text → place ≤ (location text place).end
ends_behind text place h = omega arith

window_law : (start end place : ℕ) → start ≤ place → place ≤ end → WindowLaw start end place (window_of start end place)
window_law start end place s e = record {
  begins_in_line = omega arith;
  ends_in_line = omega arith;
  is_short = omega arith;
  place_not_before = omega arith;
  place_not_after = omega arith;
}

-- So it holds of the line and the window of each place.
pub caret_law_of : (text : List ℕ) (place : ℕ) → CaretLawOf text place
caret_law_of text place =
    let q : ℕ = min place (length text) in
    caret_law text (location text q) (window_of (location text q).start (location text q).end q) q
    (window_law (location text q).start (location text q).end q (begins_before text q) (ends_behind text q (omega arith)))
