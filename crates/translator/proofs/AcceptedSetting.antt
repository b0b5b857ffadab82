-- Every accepted text gives the setting that the laws of steps ask for.
use Rattle.std.proofs.Common.{◌≡◌, ℕ, suc, ◌+◌, ◌≤◌, Some, sym, refl, ap, arith}
use Rattle.grammar.specs.Tree.{Statement, Program}
use Rattle.symbols.specs.Symbols.{symbols, named_cells}
use Rattle.symbols.specs.Jumps.{open_labels}
use Rattle.symbols.specs.Rules.{accepted, verdict}
use Rattle.figures.specs.Kinds.{Kind, Counts, Tells}
use Rattle.meaning.specs.Names.{names_in}
use Rattle.meaning.specs.Positions.{statements}
use Rattle.meaning.specs.Laws.{has_label}
use Rattle.translator.specs.Generator.{size, loops, code}
use Rattle.translator.specs.Translation.{table_place, text_label, entries_of}
use Rattle.translator.specs.Compiled.{Placed}
use Rattle.translator.specs.Accepted.{FewElements, AcceptedSetting}
use Rattle.translator.proofs.AcceptedTables.{behind_text, text_laid_out}
use Rattle.translator.proofs.AcceptedParts.{occurs_in_text, types_kept, jumps_kept}
use Rattle.translator.proofs.AcceptedLabels.{text_labels_placed}
use Rattle.translator.proofs.AcceptedJumps.{sees}
use Rattle.translator.proofs.AcceptedFits.{statement_fits}

-- The statements of an accepted text stand from place 0 to the HALT.
module _ {V : Type 0} (kind : Kind V) (t : Program) (s : Statement) (ok : verdict t ≡ accepted) (is : statements t ≡ Some s) (few : FewElements s) where
  text_placed : Placed kind (entries_of (symbols t) (Some s)) (names_in (symbols t)) (text_label (names_in (symbols t)) (Some s))
      (table_place (suc (size (names_in (symbols t)) s)) (symbols t)) (size (names_in (symbols t)) s)
      (named_cells (symbols t)) (named_cells (symbols t) + loops (names_in (symbols t)) s) (λ l. has_label l s)
      (λ l. has_label l s) (named_cells (symbols t)) 0 s (size (names_in (symbols t)) s)
  text_placed =
      let names = names_in (symbols t) in
      let halt_at = size names s in
      let listed = occurs_in_text t s is in
      record {
        entries =
            ap (code names (text_label names (Some s)) (table_place (suc halt_at) (symbols t)) halt_at (named_cells (symbols t)) 0 s)
            (sym (behind_text (symbols t) s halt_at 0 (omega arith)));
        long = omega arith;
        before = omega arith;
        fits = statement_fits t ok s listed (types_kept t s ok is) few;
        after_named = omega arith;
        hidden = omega arith;
        labels = text_labels_placed names t s ok is;
        sees = sees t ok s (open_labels s) (λ l. has_label l s) (λ l. refl) (jumps_kept t s ok is) listed;
      }

-- The two laws of the kind are those of every kind of figures.
pub accepted_setting : {V : Type 0} (kind : Kind V) → ((n : ℕ) → n ≤ 2048 → Counts kind n) → Tells kind → AcceptedSetting kind
accepted_setting kind counts tells t s ok is few = record {
  counts = counts;
  tells = tells;
  laid_out = text_laid_out (symbols t) s;
  whole = text_placed kind t s ok is few;
  outer_is = λ l. refl;
}
