-- The tree of an accepted text is one that the rules accept.
use Rattle.std.proofs.Common.{◌≡◌, ℕ, List, length, sym, refl, ap, ◌∙◌, arith}
use Rattle.words.specs.Words.{Words, words, refused as words_refused, words_of}
use Rattle.grammar.specs.Tree.{Program}
use Rattle.grammar.specs.Parser.{Outcome, tree, refused as sentence_refused, parsed}
use Rattle.symbols.specs.Texts.{Answer, accepted, refused, answer, most_levels, of_sentence, of_verdict, of_words}
use Rattle.symbols.specs.Rules.{Verdict, accepted as names_accepted, refused as names_refused, verdict}

-- The tree of an answer that has one.
abbrev tree_in : Program → Answer → Program
tree_in t (accepted u) = u
tree_in t (refused n p) = t

-- A text that is refused by its words, its sentence or its names is not accepted.
module _ (t : Program) where
  by_verdict : (u : Program) (v : Verdict) → verdict u ≡ v → of_verdict u v ≡ accepted t → verdict t ≡ names_accepted
  by_verdict u names_accepted e q = ap verdict (sym (ap (tree_in t) q)) ∙ e
  by_verdict u (names_refused r p) e q = let z : ◌≡◌ {A = ℕ} 0 1 = cc in absurd (omega arith)

  by_sentence : (o : Outcome) → of_sentence o ≡ accepted t → verdict t ≡ names_accepted
  by_sentence (tree u) q = by_verdict u (verdict u) refl q
  by_sentence (sentence_refused r p) q = let z : ◌≡◌ {A = ℕ} 0 1 = cc in absurd (omega arith)

  by_words : (end : ℕ) (w : Words) → of_words end w ≡ accepted t → verdict t ≡ names_accepted
  by_words end (words ws) q = by_sentence (parsed most_levels end ws) q
  by_words end (words_refused r p) q = let z : ◌≡◌ {A = ℕ} 0 1 = cc in absurd (omega arith)

  pub text_to_verdict : (text : List ℕ) → answer text ≡ accepted t → verdict t ≡ names_accepted
  text_to_verdict text q = by_words (length text) (words_of text) q
