-- A sentence has at most one name more than other words.
use Rattle.std.proofs.Common.{◌≡◌, ℕ, ◌+◌, ◌*◌, ◌≤◌, List, length, refl, ap, ◌∙◌, arith}
use Rattle.words.specs.Token.{Token, Word}
use Rattle.grammar.specs.declared.operator.Operator.{Operator}
use Rattle.grammar.specs.declared.operator.Operator.TheVariants.{Equivalence, Disjunction, Conjunction, Additive, Multiplicative}
use Rattle.grammar.specs.declared.operator.Prefix.{Prefix}
use Rattle.grammar.specs.declared.operator.Prefix.TheVariants.{Negation, Signed}
use Rattle.grammar.specs.Classes.{operator_token, prefix_token}
use Rattle.grammar.specs.Grammar.{Phrase, Value, Derives, alone, another, a_name, a_whole, an_indexed, a_number, a_value, in_brackets, a_comparison, a_factor, an_operand, operated, after_prefix, a_single, a_progression, a_label, an_assignment, a_conditional, a_repetition, a_block, a_jump, a_switched_jump, an_input, a_print, a_stop, a_signed_bound, a_plain_bound, a_group, a_comment, integers, booleans, arrays, a_switch, an_action}
use Rattle.grammar.specs.Meaning.{name_count, names}

operator_no_name : (o : Operator) → name_count (operator_token o) ≡ 0
operator_no_name Equivalence = refl
operator_no_name Disjunction = refl
operator_no_name Conjunction = refl
operator_no_name (Additive s) = refl
operator_no_name (Multiplicative s) = refl

prefix_no_name : (o : Prefix) → name_count (prefix_token o) ≡ 0
prefix_no_name Negation = refl
prefix_no_name (Signed s) = refl

count : {t u : Token} → t ≡ u → name_count t ≡ name_count u
count e = ap name_count e

pub few : {p : Phrase} {l : ℕ} {ws rs : List Word} {t : Value p} → Derives p l ws rs t → 2 * names ws + length rs ≤ 2 * names rs + length ws + 1
few (alone x) = few x
few (another xs e x) = omega (arith, few xs, few x, count e)
few (a_name e) = omega (arith, count e)
few (a_whole e) = omega (arith, count e)
few (an_indexed lt e o x c) = omega (arith, count e, count o, few x, count c)
few (a_number e) = omega (arith, count e)
few (a_value x) = few x
few (in_brackets lt o x c) = omega (arith, count o, few x, count c)
few (a_comparison lt o x r y c) = omega (arith, count o, few x, count r, few y, count c)
few (a_factor le x) = few x
few (an_operand x) = few x
few (operated {o = o} x e y) = omega (arith, few x, count e ∙ operator_no_name o, few y)
few (after_prefix {o = o} e x) = omega (arith, count e ∙ prefix_no_name o, few x)
few (a_single x) = few x
few (a_progression lt x o y c z) = omega (arith, few x, count o, few y, count c, few z)
few (a_label e c x) = omega (arith, count e, count c, few x)
few (an_assignment x b y) = omega (arith, few x, count b, few y)
few (a_conditional lt i x c y) = omega (arith, count i, few x, count c, few y)
few (a_repetition lt f e b x c y) = omega (arith, count f, count e, count b, few x, count c, few y)
few (a_block lt b x e) = omega (arith, count b, few x, count e)
few (a_jump g t e) = omega (arith, count g, count t, count e)
few (a_switched_jump lt g t e o x c) = omega (arith, count g, count t, count e, count o, few x, count c)
few (an_input lt i t o x c) = omega (arith, count i, count t, count o, few x, count c)
few (a_print lt p o x c) = omega (arith, count p, count o, few x, count c)
few (a_stop e) = omega (arith, count e)
few (a_signed_bound e f) = omega (arith, count e, count f)
few (a_plain_bound e) = omega (arith, count e)
few (a_group lt xs o x c y e) = omega (arith, few xs, count o, few x, count c, few y, count e)
few (a_comment e) = omega (arith, count e)
few (integers lt e o x c) = omega (arith, count e, count o, few x, count c)
few (booleans lt e o x c) = omega (arith, count e, count o, few x, count c)
few (arrays lt e o x c) = omega (arith, count e, count o, few x, count c)
few (a_switch lt e f b o x c) = omega (arith, count e, count f, count b, count o, few x, count c)
few (an_action x) = few x
