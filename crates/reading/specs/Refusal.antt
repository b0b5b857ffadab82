-- The number and the place of a text's refusal, from the definitions of the parts that refuse.
use Rattle.std.specs.Prelude.{ℕ}
use Rattle.parser.specs.Refusal.{number as parse_number, place as parse_place}
use Rattle.symbols.specs.Refusal.{number as name_number}
use Rattle.reading.specs.declared.refusal.TextRefusal.{TextRefusal}
use Rattle.reading.specs.declared.refusal.TextRefusal.TheVariants.{Sentence, Names}

abbrev pub number : TextRefusal → ℕ
number (Sentence e) = parse_number e
number (Names b) = name_number b.rule

abbrev pub place : TextRefusal → ℕ
place (Sentence e) = parse_place e
place (Names b) = b.place
