-- How a report shows a place of a text: the part of its line that is shown, and under it a caret that points at the place.
use Rattle.std.specs.Prelude.{◌≡◌, ℕ, ◌-◌, ◌/◌, ◌%◌, min, Bool, false, not, cond, ◌&&◌, List, [], ◌∷◌, ◌++◌, length, take, drop, codes, nat_lt}
use Rattle.std.specs.List.{flat_map}
use Rattle.std.specs.Fmt.{decimal, digit_glyph}
use Rattle.places.specs.declared.Location.{Location}
use Rattle.places.specs.Location.{location}
use Rattle.reports.specs.declared.excerpt.Window.{Window}
use Rattle.reports.specs.Windows.{window_of}

-- Printable ASCII: 32 is the blank, 126 is `~`.
abbrev pub is_printable : ℕ → Bool
is_printable b = not (nat_lt b 32) && nat_lt b 127

-- The number of a byte: `\x` and two hex digits. 92 is `\`, 120 is `x`.
abbrev pub byte_number : ℕ → List ℕ
byte_number b = 92 ∷ 120 ∷ digit_glyph false (b / 16) ∷ digit_glyph false (b % 16) ∷ []

-- A byte as it is shown: as it stands, or by its number.
abbrev pub shown_byte : ℕ → List ℕ
shown_byte b = cond (is_printable b) (b ∷ []) (byte_number b)

-- The blanks that take its place in the caret's line.
abbrev pub blanks_for : ℕ → List ℕ
blanks_for b = cond (is_printable b) (codes " ") (codes "    ")

-- The bytes of a text from one place up to another.
abbrev pub part_of : List ℕ → ℕ → ℕ → List ℕ
part_of text from to = take (to - from) (drop from text)

-- The line of text: `...` stands where the line is cut off.
abbrev pub shown_line : List ℕ → Location → Window → List ℕ
shown_line text line w =
    cond (nat_lt line.start w.from) (codes "...") []
    ++ (flat_map shown_byte (part_of text w.from w.to)
    ++ (cond (nat_lt w.to line.end) (codes "...") [] ++ codes "\n"))

-- The caret's line: the caret stands behind as many blanks as the line shows bytes before the place.
abbrev pub caret_line : List ℕ → Location → Window → ℕ → List ℕ
caret_line text line w place =
    cond (nat_lt line.start w.from) (codes "   ") [] ++ (flat_map blanks_for (part_of text w.from place) ++ codes "^\n")

abbrev pub two_lines : List ℕ → Location → Window → ℕ → List ℕ
two_lines text line w place = codes "  " ++ (shown_line text line w ++ (codes "  " ++ caret_line text line w place))

-- Of the place's line, the window is shown. A place past the text counts as the text's end.
abbrev pub line_excerpt : List ℕ → ℕ → Location → List ℕ
line_excerpt text place line = two_lines text line (window_of line.start line.end place) place

abbrev pub excerpt_of : List ℕ → ℕ → List ℕ
excerpt_of text place = line_excerpt text (min place (length text)) (location text (min place (length text)))

-- A place in words.
abbrev pub location_words : ℕ → Location → List ℕ
location_words place l = codes "byte " ++ (decimal place ++ (codes " (line " ++ (decimal l.line ++ (codes ", column " ++ (decimal l.column ++ codes ")")))))

abbrev pub words_of_place : List ℕ → ℕ → List ℕ
words_of_place text place = location_words place (location text place)

-- A refusal: its number, place and reason, and the excerpt.
abbrev pub refusal_of : List ℕ → ℕ → ℕ → List ℕ → List ℕ
refusal_of text number place reason =
    codes "refused " ++ (decimal number ++ (codes " at " ++ (words_of_place text place ++ (codes ": " ++ (reason ++ (codes "\n" ++ excerpt_of text place))))))

-- What the line shows before the place, and the blanks before the caret.
abbrev pub shown_before : List ℕ → Location → Window → ℕ → List ℕ
shown_before text line w place = cond (nat_lt line.start w.from) (codes "...") [] ++ flat_map shown_byte (part_of text w.from place)

abbrev pub blanks_before : List ℕ → Location → Window → ℕ → List ℕ
blanks_before text line w place = cond (nat_lt line.start w.from) (codes "   ") [] ++ flat_map blanks_for (part_of text w.from place)

-- The caret stands under the place: behind as many blanks as the line shows bytes before the place.
pub record CaretLaw (text : List ℕ) (line : Location) (w : Window) (place : ℕ) : Type 0 where
  pub line_goes_on : shown_line text line w ≡ shown_before text line w place ++ (flat_map shown_byte (part_of text place w.to) ++ (cond (nat_lt w.to line.end) (codes "...") [] ++ codes "\n"))
  pub caret_follows : caret_line text line w place ≡ blanks_before text line w place ++ codes "^\n"
  pub as_wide : length (blanks_before text line w place) ≡ length (shown_before text line w place)

abbrev pub CaretLawOfLine : List ℕ → ℕ → Location → Type 0
CaretLawOfLine text place line = CaretLaw text line (window_of line.start line.end place) place

abbrev pub CaretLawOf : List ℕ → ℕ → Type 0
CaretLawOf text place = CaretLawOfLine text (min place (length text)) (location text (min place (length text)))
