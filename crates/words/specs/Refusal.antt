-- The numbers of the refusals that the words of a text can meet. Every promise takes them from here.
use Rattle.std.specs.Prelude.{ℕ}
use Rattle.words.specs.declared.refusal.WordRefusal.{WordRefusal}
use Rattle.words.specs.declared.refusal.WordRefusal.TheVariants.{TextTooLong, NoWord, WordTooLong, TooManyWords}

abbrev pub number : WordRefusal → ℕ
number TextTooLong = 1
number NoWord = 2
number WordTooLong = 3
number TooManyWords = 4
