-- All steps together fill the table of a tree whose names are those of the words.
use Rattle.std.proofs.Common.{◌≡◌, ℕ, suc, ◌+◌, ◌≤◌, min, List, [], ◌∷◌, ◌++◌, length, take, Option, sym, refl, ap, ◌∙◌, subst, arith}
use Rattle.std.proofs.lemmas.List.{length-take-le, take_at}
use Rattle.grammar.specs.Tree.{Name, Program}
use Rattle.parser.specs.declared.table.Record.{Record}
use Rattle.parser.specs.Records.{View}
use Rattle.symbols.specs.Occurrences.{occurrences, fors}
use Rattle.symbols.specs.Symbols.{names, numbered, symbols, named_cells}
use Rattle.symbols.specs.Rules.{Claim, passing_claims, second_definitions}
use Rattle.symbols.specs.TextOrder.{named_words, names_of}
use Rattle.analysis.specs.declared.symbol.NameRecord.{NameRecord}
use Rattle.analysis.specs.declared.cell_count.CellCount.{CellCount}
use Rattle.analysis.specs.Earliest.{earliest_of, earlier_of}
use Rattle.analysis.specs.SymbolTable.{LinesAt}
use Rattle.analysis.specs.Lines.{NumberedWords, SoFar}
use Rattle.analysis.specs.Numbering.{names_among, names_in}
use Rattle.analysis.specs.Counting.{cells_of, placed, for_claims, Counts, PlacesCells}
use Rattle.analysis.specs.Filling.{Filled}
use Rattle.analysis.proofs.FilledTable.{names_from_among, length_numbered, first_lines, holds, all_claims}

length_placed : (c : ℕ) (lines : List NameRecord) → length (placed c lines) ≡ length lines
length_placed c [] = refl
length_placed c (r ∷ lines) = ap suc (length_placed (c + cells_of r.kind) lines)

-- The first lines of the table, written back before the others.
pub written_back : (rs : List Record) (lines part rest : List NameRecord) (n : ℕ) (r : CellCount) → n ≤ length lines → PlacesCells rs (take n lines) part r → take n (part ++ rest) ≡ part
written_back rs lines part rest n r h p =
    let a = length_placed 0 (take n lines) in
    let b : length part ≡ length (placed 0 (take n lines)) = ap length p.table in
    let c = length-take-le n lines h in
    take_at part rest n (omega arith)

module _ (v : View) (rs : List Record) (t : Program) (same_names : named_words v.words ≡ names_of (occurrences t)) (words_numbered : NumberedWords v rs (names_in v)) where
  names_are : names_in v ≡ names t
  names_are = ap (λ (l : List Name). names_among [] l) same_names ∙ sym (names_from_among [] (occurrences t))

  pub all_filled : (lines : List NameRecord) → SoFar v (names_in v) (occurrences t) (occurrences t) lines → (n : ℕ) → n ≡ length (names_in v)
      → (named : CellCount) (part : List NameRecord) → PlacesCells rs (take n lines) part named → (lines' : List NameRecord) → take n lines' ≡ part
      → (all : CellCount) → Counts named.cells (fors t) all → (s : Option ℕ) → s ≡ earliest_of (second_definitions (occurrences t) [] (occurrences t))
      → (o : Option ℕ) → o ≡ earlier_of named.offence all.offence
      → Filled v rs lines' (symbols t) (occurrences t) (fors t) (record { lines = n; second = s; named_cells = named.cells; cells = all.cells; too_many = o })
  all_filled lines heeded n is-count named part places lines' is-part all counted s second o told =
      let F : List Name → Type 0 = λ l. Filled v rs lines' (numbered (occurrences t) 0 l) (occurrences t) (fors t) (record { lines = n; second = s; named_cells = named.cells; cells = all.cells; too_many = o }) in
      let p = first_lines words_numbered (occurrences t) lines n is-count heeded in
      let L : List NameRecord → Type 0 = λ l. LinesAt v l (numbered (occurrences t) 0 (names_in v)) in
      let cells_are : named.cells ≡ named_cells (numbered (occurrences t) 0 (names_in v)) = places.cells ∙ p.cells in
      subst F names_are record {
        count = is-count ∙ sym (length_numbered (occurrences t) 0 (names_in v));
        table = holds words_numbered (occurrences t) (take n lines') (subst L (sym (is-part ∙ places.table)) p.table);
        second = second;
        named = cells_are;
        cells = counted.cells ∙ ap (λ (m : ℕ). min (m + length (fors t)) 2049) cells_are;
        too_many =
            told
            ∙ all_claims (numbered (occurrences t) 0 (names_in v)) (fors t) named.offence all.offence
            (places.told ∙ ap (λ (ks : List Claim). earliest_of (passing_claims 0 ks)) p.claims)
            (counted.told ∙ ap (λ (m : ℕ). earliest_of (passing_claims m (for_claims (fors t)))) cells_are);
      }
