-- One line more has its first cell.
use Rattle.std.proofs.Common.{◌≡◌, ℕ, ◌+◌, ◌<◌, ◌≤◌, ◌&&◌, ltb, leb, List, [], ◌∷◌, ◌++◌, length, get_or, take, drop, set, Some, None, Option, sym, refl, ap, ◌∙◌, append_assoc, append-nil, arith}
use Rattle.std.proofs.lemmas.List.{take_more_set, drop_more, drop-set-lt, drop_all, take_all}
use Rattle.parser.specs.declared.table.Record.{Record}
use Rattle.symbols.specs.Types.{told}
use Rattle.symbols.specs.Rules.{passing_claims}
use Rattle.analysis.specs.declared.symbol.NameRecord.{NameRecord}
use Rattle.analysis.specs.Earliest.{earliest_of, earlier_of}
use Rattle.analysis.specs.NameLines.{word_places}
use Rattle.analysis.specs.Counting.{cells_of, cells_in, with_first, placed, line_claims, PlacesCells}
use Rattle.analysis.proofs.EarlierPlace.{earliest_append}

-- The lines before k have their first cells, and the rest is as it was: what is to come gives the whole.
pub record PlacedTo (ws : List Record) (old now : List NameRecord) (k c : ℕ) (o : Option ℕ) : Type 0 where
  pub rest : drop k now ≡ drop k old
  pub lines : take k now ++ placed c (drop k old) ≡ placed 0 old
  pub cells : c + cells_in (drop k old) ≡ cells_in old
  pub told : earlier_of o (earliest_of (passing_claims c (line_claims ws (drop k old)))) ≡ earliest_of (passing_claims 0 (line_claims ws old))

earlier_assoc : (a b c : Option ℕ) → earlier_of (earlier_of a b) c ≡ earlier_of a (earlier_of b c)
earlier_assoc None b c = refl
earlier_assoc (Some p) None c = refl
earlier_assoc (Some p) (Some q) None = refl
earlier_assoc (Some p) (Some q) (Some r) = ap Some (omega arith)

module _ (ws : List Record) (old : List NameRecord) where
  pub none_placed : PlacedTo ws old old 0 0 None
  none_placed = record { rest = refl; lines = refl; cells = omega arith; told = refl }

  pub one_placed : (now : List NameRecord) (k c : ℕ) (o : Option ℕ) (d : NameRecord) → k < length now → k < length old → PlacedTo ws old now k c o
      → (n : ℕ) → n ≡ cells_of (get_or now k d).kind → (q : Option ℕ) → q ≡ earliest_of (told (leb c 2048 && ltb 2048 (c + n)) (get_or (word_places ws) (get_or now k d).word 0))
      → (p : Option ℕ) → p ≡ earlier_of o q → PlacedTo ws old (set now k (with_first c (get_or now k d))) (k + 1) (c + n) p
  one_placed now k c o d l m h n cells_are q passing p both-are =
      let split : drop k old ≡ get_or old k d ∷ drop (k + 1) old = drop_more old k d m in
      let split_now : drop k now ≡ get_or now k d ∷ drop (k + 1) now = drop_more now k d l in
      let both_split : get_or now k d ∷ drop (k + 1) now ≡ get_or old k d ∷ drop (k + 1) old = sym split_now ∙ (h.rest ∙ split) in
      let same : get_or now k d ≡ get_or old k d = cc in
      let same_rest : drop (k + 1) now ≡ drop (k + 1) old = cc in
      let y : NameRecord = with_first c (get_or now k d) in
      let kinds : n ≡ cells_of (get_or old k d).kind = cells_are ∙ ap (λ (r : NameRecord). cells_of r.kind) same in
      record {
        rest = drop-set-lt (k + 1) now k y (omega arith) ∙ same_rest;
        lines =
            ap (λ (a : List NameRecord). a ++ placed (c + n) (drop (k + 1) old)) (take_more_set now k y l)
            ∙ (append_assoc (take k now) (y ∷ []) (placed (c + n) (drop (k + 1) old))
            ∙ (ap (λ (a : ℕ). take k now ++ y ∷ placed (c + a) (drop (k + 1) old)) kinds
            ∙ (ap (λ (r : NameRecord). take k now ++ with_first c r ∷ placed (c + cells_of (get_or old k d).kind) (drop (k + 1) old)) same
            ∙ (ap (λ (a : List NameRecord). take k now ++ placed c a) (sym split)
            ∙ h.lines))));
        cells =
            let a : cells_in (drop k old) ≡ cells_of (get_or old k d).kind + cells_in (drop (k + 1) old) = ap cells_in split in
            let b = h.cells in
            omega arith;
        told =
            ap (λ (a : Option ℕ). earlier_of a (earliest_of (passing_claims (c + n) (line_claims ws (drop (k + 1) old))))) both-are
            ∙ (earlier_assoc o q (earliest_of (passing_claims (c + n) (line_claims ws (drop (k + 1) old))))
            ∙ (ap (λ (a : Option ℕ). earlier_of o a) (one_claim split same kinds)
            ∙ h.told));
      }
    where
      one_claim : drop k old ≡ get_or old k d ∷ drop (k + 1) old → get_or now k d ≡ get_or old k d → n ≡ cells_of (get_or old k d).kind
          → earlier_of q (earliest_of (passing_claims (c + n) (line_claims ws (drop (k + 1) old)))) ≡ earliest_of (passing_claims c (line_claims ws (drop k old)))
      one_claim split same kinds =
          ap (λ (a : Option ℕ). earlier_of a (earliest_of (passing_claims (c + n) (line_claims ws (drop (k + 1) old))))) passing
          ∙ (earliest_append (told (leb c 2048 && ltb 2048 (c + n)) (get_or (word_places ws) (get_or now k d).word 0)) (passing_claims (c + n) (line_claims ws (drop (k + 1) old)))
          ∙ (ap (λ (r : NameRecord). earliest_of (told (leb c 2048 && ltb 2048 (c + n)) (get_or (word_places ws) r.word 0) ++ passing_claims (c + n) (line_claims ws (drop (k + 1) old)))) same
          ∙ (ap (λ (a : ℕ). earliest_of (told (leb c 2048 && ltb 2048 (c + a)) (get_or (word_places ws) (get_or old k d).word 0) ++ passing_claims (c + a) (line_claims ws (drop (k + 1) old)))) kinds
          ∙ ap (λ (l : List NameRecord). earliest_of (passing_claims c (line_claims ws l))) (sym split))))

  earlier_none : (o : Option ℕ) → o ≡ earlier_of o None
  earlier_none (Some p) = refl
  earlier_none None = refl

  pub all_placed : (now : List NameRecord) (k c : ℕ) (o : Option ℕ) → length now ≤ k → length old ≤ k → PlacedTo ws old now k c o → PlacesCells ws old now (record { cells = c; offence = o })
  all_placed now k c o l m h =
      let e : drop k old ≡ [] = drop_all k old m in
      let a : c + cells_in (drop k old) ≡ cells_in old = h.cells in
      let b : cells_in (drop k old) ≡ 0 = ap cells_in e in
      record {
        table = sym (append-nil now) ∙ (ap (λ (xs : List NameRecord). xs ++ []) (sym (take_all k now l)) ∙ (ap (λ (xs : List NameRecord). take k now ++ placed c xs) (sym e) ∙ h.lines));
        cells = omega arith;
        told = earlier_none o ∙ (ap (λ (xs : List NameRecord). earlier_of o (earliest_of (passing_claims c (line_claims ws xs)))) (sym e) ∙ h.told);
      }
