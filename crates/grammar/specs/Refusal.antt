-- The numbers of the refusals that the sentences of a text can meet. Every promise takes them from here.
use Rattle.std.specs.Prelude.{ℕ}
use Rattle.grammar.specs.declared.refusal.SentenceRefusal.{SentenceRefusal}
use Rattle.grammar.specs.declared.refusal.SentenceRefusal.TheVariants.{Unexpected, TooDeep, TableTooShort}

abbrev pub number : SentenceRefusal → ℕ
number Unexpected = 5
number TooDeep = 6
number TableTooShort = 13
