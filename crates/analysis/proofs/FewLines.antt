-- The symbol table of a sentence has at most one line for each of its words that are names, and those are few.
use Rattle.std.proofs.Common.{◌≡◌, suc, ◌+◌, ◌*◌, ◌≤◌, Bool, true, false, cond, List, [], ◌∷◌, ◌++◌, length, refl, ap, arith, length-append}
use Rattle.words.specs.Token.{Word}
use Rattle.grammar.specs.Tree.{Name}
use Rattle.grammar.specs.Meaning.{names as name_words}
use Rattle.grammar.proofs.Names.{few}
use Rattle.symbols.specs.Occurrences.{Occurrence, occurrences}
use Rattle.symbols.specs.Symbols.{has_name, with_name, names_from, names, symbols}
use Rattle.symbols.specs.TextOrder.{name_at, named_words, names_of}
use Rattle.symbols.proofs.InText.{names_in_text}
use Rattle.symbols.proofs.Table.{lines_differ}
use Rattle.analysis.specs.LabelSets.{SmallLaw}
use Rattle.analysis.proofs.FilledTable.{length_numbered}
use Rattle.analysis.proofs.NewNames.{one_name}

-- A name more at most for each occurrence.
one_more_at_most : (ns : List Name) (n : Name) → length (with_name ns n) ≤ length ns + 1
one_more_at_most ns n = go (has_name ns n.letters)
  where
    go : (b : Bool) → length (cond b ns (ns ++ n ∷ [])) ≤ length ns + 1
    go true = omega arith
    go false = omega (arith, length-append ns (n ∷ []))

at_most_occurrences : (ns : List Name) (os : List Occurrence) → length (names_from ns os) ≤ length ns + length os
at_most_occurrences ns [] = omega arith
at_most_occurrences ns (o ∷ os) = omega (arith, one_more_at_most ns o.name, at_most_occurrences (with_name ns o.name) os)

-- An occurrence for each word that is a name.
as_many_names : (ws : List Word) → length (named_words ws) ≡ name_words ws
as_many_names [] = refl
as_many_names (w ∷ ws) = omega (arith, length-append (name_at w.token w.place) (named_words ws), one_name w.token w.place, as_many_names ws)

as_many_occurrences : (os : List Occurrence) → length (names_of os) ≡ length os
as_many_occurrences [] = refl
as_many_occurrences (o ∷ os) = ap suc (as_many_occurrences os)

pub small_tables : SmallLaw
small_tables l ws t s h =
    let lines : length (symbols t) ≡ length (names t) = length_numbered (occurrences t) 0 (names t) in
    let found : length (names t) ≤ 0 + length (occurrences t) = at_most_occurrences [] (occurrences t) in
    let same : length (named_words ws) ≡ length (names_of (occurrences t)) = ap length (names_in_text l ws t s) in
    let all : length (names_of (occurrences t)) ≡ length (occurrences t) = as_many_occurrences (occurrences t) in
    let words : length (named_words ws) ≡ name_words ws = as_many_names ws in
    let half : 2 * name_words ws ≤ length ws + 1 = omega (arith, few s) in
    record { differ = lines_differ t; few = omega arith }
