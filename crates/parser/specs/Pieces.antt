-- A part of the grammar that is read, parts of scripts that a method reads by itself, and bounds, which make no node.
use Rattle.std.specs.Prelude.{ℕ, Ok, Err, Result}
use Rattle.words.specs.declared.token.Mark.TheVariants.{Becomes, OpenSquare, CloseSquare}
use Rattle.grammar.specs.Tree.{Exp, Variable, assigned}
use Rattle.grammar.specs.Classes.{the_mark}
use Rattle.grammar.specs.Grammar.{Part, Phrase, a, exp, bound, statement}
use Rattle.grammar.specs.Parser.{Script, done, word, part, goto, begin}
use Rattle.parser.specs.declared.node.Bound.{Bound as BoundRecord}
use Rattle.parser.specs.declared.refusal.Refusal.{Refusal}
use Rattle.parser.specs.declared.table.Parser.{Parser}
use Rattle.parser.specs.Records.{bound_in, TreeAt}
use Rattle.parser.specs.Promises.{here, Goes, Fails, Reads}

-- A part of the grammar is read from its beginning, or refused.
abbrev pub ReadsPart : Part → ℕ → Parser → Parser → Result ℕ Refusal → Type 0
ReadsPart p levels r s result = Reads (TreeAt p) levels r s (here (goto (begin (a p)))) result

-- An expression in square brackets, and what follows.
abbrev pub subscript_script : {p : Phrase} → (Exp → Script p) → Script p
subscript_script f = word (the_mark OpenSquare) λ _ _. part (begin (a exp)) λ i. word (the_mark CloseSquare) λ _ _. f i

-- What is left of an assignment behind its variable.
abbrev pub assigning : Variable → Script (a statement)
assigning v = word (the_mark Becomes) λ _ _. part (begin (a exp)) λ y. done (assigned v y)

-- A bound is read as the machine does, or refused.
abbrev pub ReadsBound : ℕ → Parser → Parser → Result BoundRecord Refusal → Type 0
ReadsBound levels r s (Ok b) = Goes levels r s (here (goto (begin (a bound)))) (here (done (bound_in b)))
ReadsBound levels r s (Err e) = Fails {p = a bound} levels r (here (goto (begin (a bound)))) e
