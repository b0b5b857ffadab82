-- What an accepted text gives the simulation: the setting that its laws ask for, for every kind of figures. One premise is
-- left, a limit on the words of a text: no for has more than 2,048 elements.
use Rattle.std.specs.Prelude.{◌≡◌, suc, ◌+◌, ◌≤◌, length, Some}
use Rattle.grammar.specs.Tree.{Statement, labelled, conditional, repeated, assigned, go, switched, input, printed, stop, sequence, Program}
use Rattle.symbols.specs.Symbols.{symbols, named_cells}
use Rattle.symbols.specs.Rules.{accepted, verdict}
use Rattle.figures.specs.Kinds.{Kind}
use Rattle.meaning.specs.Names.{names_in}
use Rattle.meaning.specs.Positions.{statements}
use Rattle.meaning.specs.Laws.{has_label}
use Rattle.translator.specs.Generator.{all_of, size, loops}
use Rattle.translator.specs.Translation.{table_place, text_label, entries_of}
use Rattle.translator.specs.Agreement.{Setting}

-- No for of a statement has more than 2,048 elements.
abbrev pub FewElements : Statement → Type 0
FewElements (labelled l s) = FewElements s
FewElements (conditional p e s) = FewElements s
FewElements (repeated p x es s) = (length (all_of es) ≤ 2048) × FewElements s
FewElements (assigned v e) = Unit {0}
FewElements (go p l) = Unit {0}
FewElements (switched p x e) = Unit {0}
FewElements (input p v) = Unit {0}
FewElements (printed p es) = Unit {0}
FewElements (stop p) = Unit {0}
FewElements (sequence s t) = FewElements s × FewElements t

-- The code of an accepted text with a statement is a setting: its places, cells and jumps are as the simulation asks.
abbrev pub AcceptedSetting : {V : Type 0} → Kind V → Type 0
AcceptedSetting kind =
    (t : Program) (s : Statement) → verdict t ≡ accepted → statements t ≡ Some s → FewElements s
    → Setting kind (entries_of (symbols t) (Some s)) (names_in (symbols t)) (text_label (names_in (symbols t)) (Some s))
    (table_place (suc (size (names_in (symbols t)) s)) (symbols t)) (size (names_in (symbols t)) s)
    (named_cells (symbols t)) (named_cells (symbols t) + loops (names_in (symbols t)) s) (λ l. has_label l s) s
