-- The cells that an accepted text names are among its named cells.
use Rattle.std.proofs.Common.{◌≡◌, ℕ, ◌+◌, ◌<◌, ◌≤◌, Bool, true, false, cond, ltb, List, [], ◌∷◌, ℤ, pos, negsuc, ◌-ℤ◌, Some, sym, refl, ap, ◌∙◌, arith, ltb-true}
use Rattle.std.specs.Str.{bytes_eq}
use Rattle.grammar.specs.Tree.{Name, Program}
use Rattle.symbols.specs.Occurrences.{as_variable, as_element, Occurrence, at, occurrences}
use Rattle.symbols.specs.Symbols.{Kind, a_label, a_switch, an_array, a_variable, cells, Symbol, symbols, lookup, said, kind_in, first_cell, named_cells}
use Rattle.symbols.specs.Rules.{is_variable, accepted, verdict}
use Rattle.symbols.specs.Laws.{In, here, later}
use Rattle.symbols.proofs.Cells.{cells_in_order}
use Rattle.symbols.proofs.Names.{names_agree}
use Rattle.symbols.proofs.Table.{to_same, every_line}
use Rattle.figures.specs.Kinds.{value, refused}
use Rattle.meaning.specs.Names.{Extent, names_of}
use Rattle.meaning.specs.Expressions.{at_distance, element_cell}
use Rattle.meaning.specs.Accepted.{CellsThere}
use Rattle.meaning.proofs.Changing.{no_value, same_value}
use Rattle.meaning.proofs.Jumping.{true_is_not_false}

-- The line that a table has for some letters.
record Line (ss : List Symbol) (x : List ℕ) : Type 0 where
  symbol : Symbol
  stands : In symbol ss
  found : lookup ss x ≡ Some symbol

line_later : (y : Symbol) (ss : List Symbol) (x : List ℕ) (b : Bool) → bytes_eq x y.name.letters ≡ b → (b ≡ false → Line ss x) → Line (y ∷ ss) x
line_later y ss x true e next = record { symbol = y; stands = here; found = ap (λ b. cond b (Some y) (lookup ss x)) e }
line_later y ss x false e next =
    let h = next refl in
    record { symbol = h.symbol; stands = later h.stands; found = ap (λ b. cond b (Some y) (lookup ss x)) e ∙ h.found }

has_line : (ss : List Symbol) (s : Symbol) (x : List ℕ) → In s ss → s.name.letters ≡ x → Line ss x
has_line [] s x i e = elim i [ ]
has_line (y ∷ ss) s x here e =
    line_later y ss x (bytes_eq x y.name.letters) refl (λ f. absurd (true_is_not_false (sym (to_same x y.name.letters (sym e)) ∙ f)))
has_line (y ∷ ss) s x (later i) e = line_later y ss x (bytes_eq x y.name.letters) refl (λ f. has_line ss s x i e)

-- The cells of a name that stands in the text end among the named cells.
pub cells_end : (t : Program) (o : Occurrence) → In o (occurrences t)
    → first_cell (symbols t) o.name.letters + cells (kind_in (symbols t) o.name.letters) ≤ named_cells (symbols t)
cells_end t o i =
    let l = every_line t o i in
    let h = has_line (symbols t) l.0 o.name.letters l.1 l.2 in
    let bound = (cells_in_order t).within h.symbol h.stands in
    let first : first_cell (symbols t) o.name.letters ≡ h.symbol.first = ap (said (λ s. s.first) 0) h.found in
    let kind : kind_in (symbols t) o.name.letters ≡ h.symbol.kind = ap (said (λ s. s.kind) a_variable) h.found in
    let count : cells (kind_in (symbols t) o.name.letters) ≡ cells h.symbol.kind = ap cells kind in
    rw (first, count) bound

one_cell : (k : Kind) → is_variable k ≡ true → cells k ≡ 1
one_cell a_label e = absurd (true_is_not_false (sym e))
one_cell (a_switch ls) e = absurd (true_is_not_false (sym e))
one_cell (an_array l h) e = absurd (true_is_not_false (sym e))
one_cell a_variable e = refl

simple_there : (t : Program) → verdict t ≡ accepted → (x : Name) → In (at as_variable x) (occurrences t) → first_cell (symbols t) x.letters < named_cells (symbols t)
simple_there t ok x i =
    let bound = cells_end t (at as_variable x) i in
    let one = one_cell (kind_in (symbols t) x.letters) ((names_agree t ok).uses_suit (at as_variable x) i) in
    omega (arith, bound, one)

tested_below : (extent : Extent) (d c : ℕ) (b : Bool) → ltb d extent.count ≡ b → cond b (value (extent.first + d)) (refused 36) ≡ value c → c < extent.first + extent.count
tested_below extent d c true h e =
    let at_cell = same_value (extent.first + d) c e in
    let below = ltb-true d extent.count h in
    omega (arith, at_cell, below)
tested_below extent d c false h e = absurd (no_value 36 c e)

below_end : (extent : Extent) (z : ℤ) (c : ℕ) → at_distance extent z ≡ value c → c < extent.first + extent.count
below_end extent (pos d) c e = tested_below extent d c (ltb d extent.count) refl e
below_end extent (negsuc d) c e = absurd (no_value 36 c e)

element_there : (t : Program) (x : Name) (k : ℤ) (c : ℕ) → In (at as_element x) (occurrences t) → element_cell ((names_of t).extent x.letters) k ≡ value c → c < named_cells (symbols t)
element_there t x k c i e =
    let bound = cells_end t (at as_element x) i in
    let below = below_end ((names_of t).extent x.letters) (k -ℤ ((names_of t).extent x.letters).low) c e in
    omega (arith, bound, below)

pub cells_there : (t : Program) → verdict t ≡ accepted → CellsThere t
cells_there t ok = record { simple = simple_there t ok; element = λ x k c i e. element_there t x k c i e }
