-- The lines of the filled table are those of the symbol table.
use Rattle.std.proofs.Common.{◌≡◌, ℕ, zero, suc, ◌+◌, ◌<◌, Bool, true, false, cond, List, [], ◌∷◌, map, length, get_or, take, Some, Option, sym, refl, ap, ◌∙◌, subst, arith}
use Rattle.std.specs.List.{slice_get}
use Rattle.std.specs.Str.{bytes_eq}
use Rattle.std.proofs.lemmas.List.{length-take-le, get_or-take}
use Rattle.grammar.specs.Tree.{Name}
use Rattle.parser.specs.declared.table.Record.{Record}
use Rattle.parser.specs.Records.{View}
use Rattle.symbols.specs.Occurrences.{Occurrence}
use Rattle.symbols.specs.Symbols.{Kind, kind_of, cells, Symbol, count, line, numbered, names_from, with_name, lookup, named_cells}
use Rattle.symbols.specs.Rules.{Claim, claims, passing_claims}
use Rattle.symbols.specs.TextOrder.{names_of}
use Rattle.analysis.specs.declared.symbol.NameKind.{NameKind}
use Rattle.analysis.specs.declared.symbol.NameRecord.{NameRecord}
use Rattle.analysis.specs.Earliest.{earliest_of, earlier_of}
use Rattle.analysis.specs.LineSearch.{line_from}
use Rattle.analysis.specs.SymbolTable.{KindAt, label, switch, array, variable, LinesAt, none, one_more, line_numbers, HoldsSymbols}
use Rattle.analysis.specs.NameLines.{word_places}
use Rattle.analysis.specs.Lines.{letters_of, NumberedWords, LineSoFar, SoFar}
use Rattle.analysis.specs.Numbering.{names_among}
use Rattle.analysis.specs.Counting.{cells_of, cells_in, placed, line_claims, for_claims}
use Rattle.analysis.proofs.EarlierPlace.{both}
use Rattle.analysis.proofs.LineOf.{index_found, known_line}
use Rattle.analysis.proofs.Claims.{claimed, passing_append}

-- Names entered one by one are those of the occurrences.
pub names_from_among : (ns : List Name) (os : List Occurrence) → names_from ns os ≡ names_among ns (names_of os)
names_from_among ns [] = refl
names_from_among ns (o ∷ os) = names_from_among (with_name ns o.name) os

-- A line has as many cells as its name.
kind_cells : {v : View} {k : NameKind} {K : Kind} → KindAt v k K → cells_of k ≡ cells K
kind_cells label = refl
kind_cells (switch h) = refl
kind_cells array = refl
kind_cells variable = refl

abbrev pub name_claim : Symbol → Claim
name_claim s = record { place = s.name.place; cells = count s }

pub length_numbered : (os : List Occurrence) (c : ℕ) (ns : List Name) → length (numbered os c ns) ≡ length ns
length_numbered os c [] = refl
length_numbered os c (n ∷ ns) = ap suc (length_numbered os (c + cells (kind_of os n.letters)) ns)

-- The line of a name is what the table is asked for.
lookup_line : (os : List Occurrence) (x : List ℕ) (ns : List Name) (c j k i : ℕ) → line_from j x (letters_of ns) ≡ Some k → k ≡ j + i → slice_get (numbered os c ns) i ≡ lookup (numbered os c ns) x
lookup_line os x [] c j k i h e = let z : ◌≡◌ {A = ℕ} 0 1 = cc in absurd (omega arith)
lookup_line os x (n ∷ ns) c j k i h e = go (bytes_eq x n.letters) i e h (λ m q p. lookup_line os x ns (c + cells (kind_of os n.letters)) (j + 1) k m q p)
  where
    go : (b : Bool) (i : ℕ) → k ≡ j + i → cond b (Some j) (line_from (j + 1) x (letters_of ns)) ≡ Some k
        → ((m : ℕ) → line_from (j + 1) x (letters_of ns) ≡ Some k → k ≡ j + 1 + m → slice_get (numbered os (c + cells (kind_of os n.letters)) ns) m ≡ lookup (numbered os (c + cells (kind_of os n.letters)) ns) x)
        → slice_get (numbered os c (n ∷ ns)) i ≡ cond b (Some (line os c n)) (lookup (numbered os (c + cells (kind_of os n.letters)) ns) x)
    go true zero e h rest = refl
    go true (suc i) e h rest = let q : j ≡ k = cc in absurd (omega arith)
    go false zero e h rest = let a = (index_found x (letters_of ns) (j + 1) k h).number in absurd (omega arith)
    go false (suc i) e h rest = rest i h (omega arith)

module _ {v : View} {rs : List Record} {ns : List Name} (words_numbered : NumberedWords v rs ns) (os : List Occurrence) where
  pub record PlacedLines (lines : List NameRecord) (xs : List Name) (c : ℕ) : Type 0 where
    pub table : LinesAt v (placed c lines) (numbered os c xs)
    pub cells : cells_in lines ≡ named_cells (numbered os c xs)
    pub claims : line_claims rs lines ≡ map name_claim (numbered os c xs)

  pub placed_lines : (lines : List NameRecord) (xs : List Name) (c : ℕ) → length lines ≡ length xs → ((k : ℕ) (d : NameRecord) (e : Name) → k < length xs → LineSoFar v os os (get_or lines k d) (get_or xs k e)) → PlacedLines lines xs c
  placed_lines [] [] c l h = record { table = none; cells = refl; claims = refl }
  placed_lines [] (x ∷ xs) c l h = absurd (omega arith)
  placed_lines (r ∷ lines) [] c l h = absurd (omega arith)
  placed_lines (r ∷ lines) (x ∷ xs) c l h =
      let first : LineSoFar v os os r x = h 0 r x (omega arith) in
      let n : cells_of r.kind ≡ cells (kind_of os x.letters) = kind_cells first.kind in
      let p : get_or (word_places rs) r.word 0 ≡ x.place = words_numbered.places r.word x first.named in
      let rest = placed_lines lines xs (c + cells (kind_of os x.letters)) (omega arith) (λ k d e i. h (suc k) d e (omega arith)) in
      let T : ℕ → Type 0 = λ m. LinesAt v (placed (c + m) lines) (numbered os (c + cells (kind_of os x.letters)) xs) in
      record {
        table = one_more (record { named = first.named; kind = first.kind; type = first.type; first = refl }) (subst T (sym n) rest.table);
        cells = ap (λ (m : ℕ). m + cells_in lines) n ∙ ap (λ (m : ℕ). cells (kind_of os x.letters) + m) rest.cells;
        claims =
            ap (λ (q : ℕ). record { place = q; cells = cells_of r.kind } ∷ line_claims rs lines) p
            ∙ (ap (λ (m : ℕ). record { place = x.place; cells = m } ∷ line_claims rs lines) n
            ∙ ap (λ (ks : List Claim). record { place = x.place; cells = cells (kind_of os x.letters) } ∷ ks) rest.claims);
      }

  -- The first lines of a table in which all declarations were heeded.
  pub first_lines : (lines : List NameRecord) (n : ℕ) → n ≡ length ns → SoFar v ns os os lines → PlacedLines (take n lines) ns 0
  first_lines lines n e t =
      let o = t.room in
      let l : length (take n lines) ≡ n = length-take-le n lines (omega arith) in
      placed_lines (take n lines) ns 0 (omega arith) (λ k d x h.
      let L : NameRecord → Type 0 = λ r. LineSoFar v os os r (get_or ns k x) in
      let i : k < n = omega arith in
      subst L (sym (get_or-take n lines k d i)) (t.line k d x h))

  pub holds : (lines : List NameRecord) → LinesAt v lines (numbered os 0 ns) → HoldsSymbols v rs lines (numbered os 0 ns)
  holds lines h =
      record {
        nodes = words_numbered.nodes;
        lines = h;
        numbers = λ w x named.
            let found = words_numbered.lines w x named in
            let k = (known_line ns x.letters (get_or (line_numbers rs) w 0) found).within in
            let m = length_numbered os 0 ns in
            record { there = omega arith; line = lookup_line os x.letters ns 0 0 (get_or (line_numbers rs) w 0) (get_or (line_numbers rs) w 0) found (omega arith) };
      }

-- The claims of names and fors together.
pub claimed_names : (ss : List Symbol) → claimed (map name_claim ss) ≡ named_cells ss
claimed_names [] = refl
claimed_names (s ∷ ss) = ap (λ (m : ℕ). count s + m) (claimed_names ss)

pub all_claims : (ss : List Symbol) (ps : List ℕ) (a b : Option ℕ) → a ≡ earliest_of (passing_claims 0 (map name_claim ss)) → b ≡ earliest_of (passing_claims (named_cells ss) (for_claims ps)) → earlier_of a b ≡ earliest_of (passing_claims 0 (claims ss ps))
all_claims ss ps a b e f =
    let n = claimed_names ss in
    let q : named_cells ss ≡ 0 + claimed (map name_claim ss) = omega arith in
    both a b (passing_claims 0 (map name_claim ss)) (passing_claims (0 + claimed (map name_claim ss)) (for_claims ps)) e (f ∙ ap (λ (m : ℕ). earliest_of (passing_claims m (for_claims ps))) q)
    ∙ ap earliest_of (sym (passing_append 0 (map name_claim ss) (for_claims ps)))
