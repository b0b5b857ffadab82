-- Operators and relations are spelled as the words of a text that write them.
use Rattle.std.proofs.Common.{◌≡◌, ℕ, List, rules}
use Rattle.words.specs.declared.token.Sign.TheVariants.{Plus, Minus}
use Rattle.words.specs.declared.token.Scaling.TheVariants.{Times, Over}
use Rattle.words.specs.declared.token.Relation.{Relation}
use Rattle.words.specs.declared.token.Relation.TheVariants.{Less, AtMost, Equal, Unequal, AtLeast, More}
use Rattle.words.specs.Token.{relation}
use Rattle.words.specs.Reading.{Spells, a_mark, a_reserved_word}
use Rattle.grammar.specs.declared.operator.Operator.{Operator}
use Rattle.grammar.specs.declared.operator.Operator.TheVariants.{Equivalence, Disjunction, Conjunction, Additive, Multiplicative}
use Rattle.grammar.specs.Classes.{operator_token}
use Rattle.reports.specs.Captions.{operator_shown, relation_shown}

-- Each relation.
relation_spelled : (r : Relation) → Spells (relation_shown r) (relation r)
relation_spelled Less = a_mark (search rules)
relation_spelled AtMost = a_mark (search rules)
relation_spelled Equal = a_mark (search rules)
relation_spelled Unequal = a_mark (search rules)
relation_spelled AtLeast = a_mark (search rules)
relation_spelled More = a_mark (search rules)

-- Each operator.
operator_spelled : (o : Operator) → Spells (operator_shown o) (operator_token o)
operator_spelled Equivalence = a_reserved_word (search rules)
operator_spelled Disjunction = a_reserved_word (search rules)
operator_spelled Conjunction = a_reserved_word (search rules)
operator_spelled (Additive Plus) = a_mark (search rules)
operator_spelled (Additive Minus) = a_mark (search rules)
operator_spelled (Multiplicative Times) = a_mark (search rules)
operator_spelled (Multiplicative Over) = a_mark (search rules)

-- So is what a report shows of them.
pub relation_spells : (r : Relation) (s : List ℕ) → s ≡ relation_shown r → Spells s (relation r)
relation_spells r s e = rw e (relation_spelled r)

pub operator_spells : (o : Operator) (s : List ℕ) → s ≡ operator_shown o → Spells s (operator_token o)
operator_spells o s e = rw e (operator_spelled o)
