-- Every accepted text keeps the limits: it has at most 500 words, and its words pay for its code.
use Rattle.std.proofs.Common.{◌≡◌, ℕ, suc, ◌+◌, ◌≤◌, List, [], ◌∷◌, length, Some, None, Option, sym, ap, subst, arith, length-drop}
use Rattle.std.specs.List.{AllByRecursion as All}
use Rattle.words.specs.Token.{Word}
use Rattle.words.specs.Words.{words}
use Rattle.words.specs.Reading.{WithinBounds, Ascending, Accepted}
use Rattle.words.proofs.AcceptedWords.{words_of_to_accepted}
use Rattle.words.proofs.ReadingLaw.{reads_to_words_of}
use Rattle.grammar.specs.Tree.{Statement, Program}
use Rattle.grammar.specs.Meaning.{Sentence}
use Rattle.symbols.specs.Symbols.{symbols, named_cells}
use Rattle.symbols.specs.Laws.{KeepsAll}
use Rattle.symbols.specs.Texts.{answer, accepted, most_levels}
use Rattle.symbols.specs.TextLaw.{Told, keeps_all_rules}
use Rattle.symbols.proofs.Telling.{text_told}
use Rattle.code.specs.declared.operations.Operation.TheVariants.{Halt}
use Rattle.meaning.specs.Names.{Names, names_in}
use Rattle.meaning.specs.Positions.{statements}
use Rattle.translator.specs.Generator.{Entry, plain, size, code}
use Rattle.translator.specs.Translation.{tables_code, table_place, text_size, text_label, text_code}
use Rattle.translator.specs.Limits.{LimitsLaw}
use Rattle.translator.proofs.Behind.{behind}
use Rattle.translator.proofs.LimitsCosts.{program_costs}
use Rattle.translator.proofs.LimitsWords.{WordSmall, taken}
use Rattle.translator.proofs.LimitsTables.{tables_short}

-- The words of a text of at most 8,192 bytes.
words_small : (p end : ℕ) (ws : List Word) → end ≤ 8192 → Ascending p end ws → All (λ w. WithinBounds w.token) ws → All WordSmall ws
words_small p end [] few a b = tt
words_small p end (w ∷ ws) few a b = ((b.0, omega (arith, a.1)), words_small (suc w.place) end ws few a.2 b.1)

-- The code of a text in front of some code has its size.
pub text_length : (names : Names) (label_at table_at : List ℕ → ℕ) (halt_at v : ℕ) (text : Option Statement) (r : List Entry) → 1 ≤ length r
    → length (text_code names label_at table_at halt_at v text r) ≡ text_size names text + length r
text_length names label_at table_at halt_at v None r some = omega arith
text_length names label_at table_at halt_at v (Some s) r some =
    let all = code names label_at table_at halt_at v 0 s r in
    omega (arith, length-drop (size names s) all, ap length (behind names label_at table_at halt_at s v 0 (size names s) 0 r (omega arith)))

-- The tree of an accepted text, its words, and that it keeps the rules on names.
pub record FromWords (text : List ℕ) (t : Program) : Type 0 where
  pub ws : List Word
  pub sentence : Sentence most_levels ws t
  pub kept : Accepted text ws
  pub keeps_all : KeepsAll t

pub from_words : (text : List ℕ) (t : Program) → answer text ≡ accepted t → FromWords text t
from_words text t e = go (subst (Told text) e (text_told text))
  where
    go : Told text (accepted t) → FromWords text t
    go (keeps_all_rules {ws} r s k) = record { ws = ws; sentence = s; kept = words_of_to_accepted text ws (sym (reads_to_words_of text (words ws) r)); keeps_all = k }

pub limits_law : LimitsLaw
limits_law text t e =
    let f = from_words text t e in
    let k = f.kept in
    let names = names_in (symbols t) in
    let r = taken names f.sentence (words_small 0 (length text) f.ws k.not_too_long k.ascending k.within_bounds) k.not_too_many in
    let c = program_costs names r.words t r.costs in
    let label_at = text_label names (statements t) in
    let halt_at = text_size names (statements t) in
    let few : r.words ≤ 500 = omega (arith, r.long, k.not_too_many) in
    let long = text_length names label_at (table_place (suc halt_at) (symbols t)) halt_at (named_cells (symbols t)) (statements t) (plain Halt ∷ tables_code label_at (symbols t) []) (omega arith) in
    record {
      few_operations = omega (arith, long, tables_short label_at t, c.size);
      shallow = omega (arith, c.depth);
      small = c.small;
    }
