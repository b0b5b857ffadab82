-- What it means that a word is of a class.
use Rattle.std.proofs.Common.{◌≡◌, ℕ, ◌≤◌, Bool, true, false, cond, leb, List, [], ◌∷◌, get_or, Some, None, Option, sym, refl, ap, ◌∙◌, arith, eqb-true, leb-true}
use Rattle.words.specs.declared.token.Mark.{Mark}
use Rattle.words.specs.declared.token.Mark.TheVariants.{Semicolon, Colon, Becomes, Into, Comma, OpenRound, CloseRound, OpenSquare, CloseSquare}
use Rattle.words.specs.declared.token.Keyword.{Keyword}
use Rattle.words.specs.declared.token.Keyword.TheVariants.{Begin, End, If, For, Go, To, Switch, Integer, Boolean, Array, Comment, In, Print, Stop, And, Or, Not, Eqv}
use Rattle.words.specs.Token.{Token, name, number, keyword, mark, sign, scaling, relation}
use Rattle.grammar.specs.declared.operator.Operator.{Operator}
use Rattle.grammar.specs.declared.operator.Operator.TheVariants.{Equivalence, Disjunction, Conjunction, Additive, Multiplicative}
use Rattle.grammar.specs.declared.operator.Prefix.{Prefix}
use Rattle.grammar.specs.declared.operator.Prefix.TheVariants.{Negation, Signed}
use Rattle.grammar.specs.Classes.{mark_number, keyword_number, is_mark, is_keyword, rank, prefix_rank, operator_token, prefix_token, Class, the_mark, the_keyword, a_name, a_number, a_sign, a_relation, a_prefix, an_operator, Content, when, name_of, number_of, sign_of, relation_of, mark_of, keyword_of, prefix_of, operator_of, from_rank, between_ranks, found, mark_opens, keyword_opens, opens, levels_after}

pub none_some : {A B : Type 0} {x : A} → None ≡ Some x → B
none_some e = let z : ◌≡◌ {A = ℕ} 0 1 = cc in absurd (omega arith)

pub some_same : {A : Type 0} {x y : A} → Some x ≡ Some y → x ≡ y
some_same e = cc

pub when_some : {A : Type 0} (b : Bool) (x y : A) → when b x ≡ Some y → (b ≡ true) × (x ≡ y)
when_some true x y e = (refl, some_same e)
when_some false x y e = none_some e

-- Numbers tell marks and reserved words apart.
abbrev mark_at : ℕ → Mark
mark_at n = get_or (Semicolon ∷ Colon ∷ Becomes ∷ Into ∷ Comma ∷ OpenRound ∷ CloseRound ∷ OpenSquare ∷ CloseSquare ∷ []) n Semicolon

abbrev keyword_at : ℕ → Keyword
keyword_at n = get_or (Begin ∷ End ∷ If ∷ For ∷ Go ∷ To ∷ Switch ∷ Integer ∷ Boolean ∷ Array ∷ Comment ∷ In ∷ Print ∷ Stop ∷ And ∷ Or ∷ Not ∷ Eqv ∷ []) n Begin

mark_again : (m : Mark) → mark_at (mark_number m) ≡ m
mark_again Semicolon = refl
mark_again Colon = refl
mark_again Becomes = refl
mark_again Into = refl
mark_again Comma = refl
mark_again OpenRound = refl
mark_again CloseRound = refl
mark_again OpenSquare = refl
mark_again CloseSquare = refl

keyword_again : (k : Keyword) → keyword_at (keyword_number k) ≡ k
keyword_again Begin = refl
keyword_again End = refl
keyword_again If = refl
keyword_again For = refl
keyword_again Go = refl
keyword_again To = refl
keyword_again Switch = refl
keyword_again Integer = refl
keyword_again Boolean = refl
keyword_again Array = refl
keyword_again Comment = refl
keyword_again In = refl
keyword_again Print = refl
keyword_again Stop = refl
keyword_again And = refl
keyword_again Or = refl
keyword_again Not = refl
keyword_again Eqv = refl

pub is_mark_to_same : (m n : Mark) → is_mark m n ≡ true → n ≡ m
is_mark_to_same m n e = sym (mark_again n) ∙ (ap mark_at (eqb-true (mark_number n) (mark_number m) e) ∙ mark_again m)

pub is_keyword_to_same : (k j : Keyword) → is_keyword k j ≡ true → j ≡ k
is_keyword_to_same k j e = sym (keyword_again j) ∙ (ap keyword_at (eqb-true (keyword_number j) (keyword_number k) e) ∙ keyword_again k)

-- The word that a class and its content stand for.
abbrev pub token_of : (c : Class) → Content c → Token
token_of (the_mark m) x = mark m
token_of (the_keyword k) x = keyword k
token_of a_name x = name x
token_of a_number x = number x
token_of a_sign x = sign x
token_of a_relation x = relation x
token_of (a_prefix r) x = prefix_token x
token_of (an_operator r q) x = operator_token x

-- The ranks that a class asks for.
abbrev pub InRank : (c : Class) → Content c → Type 0
InRank (the_mark m) x = Unit {0}
InRank (the_keyword k) x = Unit {0}
InRank a_name x = Unit {0}
InRank a_number x = Unit {0}
InRank a_sign x = Unit {0}
InRank a_relation x = Unit {0}
InRank (a_prefix r) x = r ≤ prefix_rank x
InRank (an_operator r q) x = (r ≤ rank x) × (rank x ≤ q)

-- The levels behind a word of the class.
abbrev pub class_opens : Class → Bool
class_opens (the_mark m) = mark_opens m
class_opens (the_keyword k) = keyword_opens k
class_opens a_name = false
class_opens a_number = false
class_opens a_sign = false
class_opens a_relation = false
class_opens (a_prefix r) = false
class_opens (an_operator r q) = false

abbrev pub class_levels : Class → ℕ → ℕ
class_levels (the_mark m) d = levels_after (mark m) d
class_levels (the_keyword k) d = levels_after (keyword k) d
class_levels a_name d = d
class_levels a_number d = d
class_levels a_sign d = d
class_levels a_relation d = d
class_levels (a_prefix r) d = d
class_levels (an_operator r q) d = d

mark_found : (m : Mark) (t : Token) (x : Unit {0}) → mark_of m t ≡ Some x → t ≡ mark m
mark_found m (name n) x e = none_some e
mark_found m (number n) x e = none_some e
mark_found m (keyword k) x e = none_some e
mark_found m (mark n) x e = ap mark (is_mark_to_same m n (when_some (is_mark m n) tt x e).0)
mark_found m (sign s) x e = none_some e
mark_found m (scaling s) x e = none_some e
mark_found m (relation r) x e = none_some e

keyword_found : (k : Keyword) (t : Token) (x : Unit {0}) → keyword_of k t ≡ Some x → t ≡ keyword k
keyword_found k (name n) x e = none_some e
keyword_found k (number n) x e = none_some e
keyword_found k (keyword j) x e = ap keyword (is_keyword_to_same k j (when_some (is_keyword k j) tt x e).0)
keyword_found k (mark m) x e = none_some e
keyword_found k (sign s) x e = none_some e
keyword_found k (scaling s) x e = none_some e
keyword_found k (relation r) x e = none_some e

name_found : (t : Token) (x : List ℕ) → name_of t ≡ Some x → t ≡ name x
name_found (name n) x e = ap name (some_same e)
name_found (number n) x e = none_some e
name_found (keyword j) x e = none_some e
name_found (mark m) x e = none_some e
name_found (sign s) x e = none_some e
name_found (scaling s) x e = none_some e
name_found (relation r) x e = none_some e

number_found : (t : Token) (x : ℕ) → number_of t ≡ Some x → t ≡ number x
number_found (name n) x e = none_some e
number_found (number n) x e = ap number (some_same e)
number_found (keyword j) x e = none_some e
number_found (mark m) x e = none_some e
number_found (sign s) x e = none_some e
number_found (scaling s) x e = none_some e
number_found (relation r) x e = none_some e

sign_found : (t : Token) (x : Content a_sign) → sign_of t ≡ Some x → t ≡ sign x
sign_found (name n) x e = none_some e
sign_found (number n) x e = none_some e
sign_found (keyword j) x e = none_some e
sign_found (mark m) x e = none_some e
sign_found (sign s) x e = ap sign (some_same e)
sign_found (scaling s) x e = none_some e
sign_found (relation r) x e = none_some e

relation_found : (t : Token) (x : Content a_relation) → relation_of t ≡ Some x → t ≡ relation x
relation_found (name n) x e = none_some e
relation_found (number n) x e = none_some e
relation_found (keyword j) x e = none_some e
relation_found (mark m) x e = none_some e
relation_found (sign s) x e = none_some e
relation_found (scaling s) x e = none_some e
relation_found (relation r) x e = ap relation (some_same e)

prefix_found : (t : Token) (x : Prefix) → prefix_of t ≡ Some x → t ≡ prefix_token x
prefix_found (name n) x e = none_some e
prefix_found (number n) x e = none_some e
prefix_found (keyword k) x e =
    let h = when_some (is_keyword Not k) Negation x e in
    ap keyword (is_keyword_to_same Not k h.0) ∙ ap prefix_token h.1
prefix_found (mark m) x e = none_some e
prefix_found (sign s) x e = ap prefix_token (some_same e)
prefix_found (scaling s) x e = none_some e
prefix_found (relation r) x e = none_some e

operator_keyword : (k : Keyword) (a b c : Bool) (x : Operator) → (a ≡ true → k ≡ Eqv) → (b ≡ true → k ≡ Or) → (c ≡ true → k ≡ And)
    → cond a (Some Equivalence) (cond b (Some Disjunction) (when c Conjunction)) ≡ Some x → keyword k ≡ operator_token x
operator_keyword k true b c x f g h e = ap keyword (f refl) ∙ ap operator_token (some_same e)
operator_keyword k false true c x f g h e = ap keyword (g refl) ∙ ap operator_token (some_same e)
operator_keyword k false false true x f g h e = ap keyword (h refl) ∙ ap operator_token (some_same e)
operator_keyword k false false false x f g h e = none_some e

operator_found : (t : Token) (x : Operator) → operator_of t ≡ Some x → t ≡ operator_token x
operator_found (name n) x e = none_some e
operator_found (number n) x e = none_some e
operator_found (keyword k) x e =
    operator_keyword k (is_keyword Eqv k) (is_keyword Or k) (is_keyword And k) x (is_keyword_to_same Eqv k) (is_keyword_to_same Or k) (is_keyword_to_same And k) e
operator_found (mark m) x e = none_some e
operator_found (sign s) x e = ap operator_token (some_same e)
operator_found (scaling s) x e = ap operator_token (some_same e)
operator_found (relation r) x e = none_some e

pub from_rank_some : (r : ℕ) (o : Option Prefix) (x : Prefix) → from_rank r o ≡ Some x → (o ≡ Some x) × (r ≤ prefix_rank x)
from_rank_some r None x e = none_some e
from_rank_some r (Some o) x e =
    let h = when_some (leb r (prefix_rank o)) o x e in
    let i : o ≡ x = h.1 in
    (ap Some i, rw i at (leb-true r (prefix_rank o) h.0))

between_some : (r q : ℕ) (b : Bool) (o x : Operator) → (b ≡ true → r ≤ rank o) → cond b (when (leb (rank o) q) o) None ≡ Some x → (Some o ≡ Some x) × (r ≤ rank x) × (rank x ≤ q)
between_some r q true o x f e =
    let h = when_some (leb (rank o) q) o x e in
    let i : o ≡ x = h.1 in
    (ap Some i, rw i at (f refl), rw i at (leb-true (rank o) q h.0))
between_some r q false o x f e = none_some e

pub between_ranks_some : (r q : ℕ) (o : Option Operator) (x : Operator) → between_ranks r q o ≡ Some x → (o ≡ Some x) × (r ≤ rank x) × (rank x ≤ q)
between_ranks_some r q None x e = none_some e
between_ranks_some r q (Some o) x e = between_some r q (leb r (rank o)) o x (leb-true r (rank o)) e

-- A word of a class is the word that its content stands for.
pub found_to_is : (c : Class) (t : Token) (x : Content c) → found c t ≡ Some x → (t ≡ token_of c x) × InRank c x
found_to_is (the_mark m) t x e = (mark_found m t x e, tt)
found_to_is (the_keyword k) t x e = (keyword_found k t x e, tt)
found_to_is a_name t x e = (name_found t x e, tt)
found_to_is a_number t x e = (number_found t x e, tt)
found_to_is a_sign t x e = (sign_found t x e, tt)
found_to_is a_relation t x e = (relation_found t x e, tt)
found_to_is (a_prefix r) t x e = let h = from_rank_some r (prefix_of t) x e in (prefix_found t x h.0, h.1)
found_to_is (an_operator r q) t x e = let h = between_ranks_some r q (operator_of t) x e in (operator_found t x h.0, (h.1, h.2))

prefix_levels : (x : Prefix) (d : ℕ) → (opens (prefix_token x) ≡ false) × (levels_after (prefix_token x) d ≡ d)
prefix_levels Negation d = (refl, refl)
prefix_levels (Signed s) d = (refl, refl)

operator_levels : (x : Operator) (d : ℕ) → (opens (operator_token x) ≡ false) × (levels_after (operator_token x) d ≡ d)
operator_levels Equivalence d = (refl, refl)
operator_levels Disjunction d = (refl, refl)
operator_levels Conjunction d = (refl, refl)
operator_levels (Additive s) d = (refl, refl)
operator_levels (Multiplicative s) d = (refl, refl)

-- It opens and closes levels as its class does.
pub token_levels : (c : Class) (x : Content c) (d : ℕ) → (opens (token_of c x) ≡ class_opens c) × (levels_after (token_of c x) d ≡ class_levels c d)
token_levels (the_mark m) x d = (refl, refl)
token_levels (the_keyword k) x d = (refl, refl)
token_levels a_name x d = (refl, refl)
token_levels a_number x d = (refl, refl)
token_levels a_sign x d = (refl, refl)
token_levels a_relation x d = (refl, refl)
token_levels (a_prefix r) x d = prefix_levels x d
token_levels (an_operator r q) x d = operator_levels x d
