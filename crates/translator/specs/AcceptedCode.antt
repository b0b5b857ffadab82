-- The code of an accepted text passes the check: it keeps the limits, and every operation is sound where it stands.
use Rattle.std.specs.Prelude.{◌≡◌, ℕ, suc, ◌+◌, Bool, List, Some}
use Rattle.grammar.specs.Tree.{Statement, Program}
use Rattle.figures.specs.Kinds.{Kind}
use Rattle.symbols.specs.Symbols.{symbols, named_cells}
use Rattle.symbols.specs.Texts.{answer, accepted}
use Rattle.code.specs.Check.{check, passes}
use Rattle.code.specs.WellFormed.{WellFormed}
use Rattle.meaning.specs.Names.{names_in}
use Rattle.meaning.specs.Positions.{statements}
use Rattle.translator.specs.Translation.{text_size, text_loops, text_label, table_place, entries, translated}
use Rattle.translator.specs.Agreement.{Setting}

-- The statements of a tree, where it has any, are set in its code.
abbrev pub HasSetting : {V : Type 0} → Kind V → Program → Type 0
HasSetting kind t =
    let names = names_in (symbols t) in
    let halt_at = text_size names (statements t) in
    let v = named_cells (symbols t) in
    (s : Statement) → statements t ≡ Some s
    → (outer : List ℕ → Bool)
    × Setting kind (entries t) names (text_label names (statements t)) (table_place (suc halt_at) (symbols t)) halt_at v (v + text_loops names (statements t)) outer s

pub record AcceptedCode (t : Program) : Type 0 where
  pub well_formed : WellFormed (translated t)
  pub passes_check : check (translated t) ≡ passes

abbrev pub AcceptedCodeLaw : Type 0
AcceptedCodeLaw = (text : List ℕ) (t : Program) → answer text ≡ accepted t → AcceptedCode t
