-- Which words can follow a part, and how operators are found by their ranks.
use Rattle.std.proofs.Common.{◌≡◌, ℕ, ◌≤◌, true, cond, leb, List, [], ◌∷◌, Some, None, Option, sym, refl, ap, ◌∙◌, arith, le-leb}
use Rattle.words.specs.declared.token.Mark.TheVariants.{OpenRound, OpenSquare}
use Rattle.words.specs.Token.{Word, mark}
use Rattle.grammar.specs.declared.operator.Operator.{Operator}
use Rattle.grammar.specs.declared.operator.Operator.TheVariants.{Equivalence, Disjunction, Conjunction, Additive, Multiplicative}
use Rattle.grammar.specs.Classes.{heads, rank, operator_token, the_mark, an_operator, when, operator_of, between_ranks, found}
use Rattle.grammar.specs.Grammar.{Part, ranked, factor, variable, identifier, bound, group, element, statement, item, separator}
use Rattle.grammar.proofs.Found.{some_same, between_ranks_some}

abbrev pub rank_of : Option Operator → ℕ
rank_of None = 0
rank_of (Some o) = rank o

-- The rank of the operator that comes next, 0 where none does.
abbrev pub head_rank : List Word → ℕ
head_rank [] = 0
head_rank (w ∷ ws) = rank_of (operator_of w.token)

abbrev pub NoSquare : List Word → Type 0
NoSquare ws = heads (the_mark OpenSquare) ws ≡ None

-- The next word does not go on with the part.
abbrev pub Stops : Part → List Word → Type 0
Stops (ranked r) ws = (head_rank ws ≡ 0) × NoSquare ws
Stops factor ws = NoSquare ws
Stops variable ws = NoSquare ws
Stops identifier ws = Unit {0}
Stops bound ws = Unit {0}
Stops group ws = Unit {0}
Stops element ws = (head_rank ws ≡ 0) × NoSquare ws × (heads (the_mark OpenRound) ws ≡ None)
Stops statement ws = (head_rank ws ≡ 0) × NoSquare ws
Stops item ws = (head_rank ws ≡ 0) × NoSquare ws

pub separator_stops : (p : Part) (w : Word) (ws : List Word) → w.token ≡ mark (separator p) → Stops p (w ∷ ws)
separator_stops (ranked r) w ws e = (ap (λ t. rank_of (operator_of t)) e, ap (λ t. found (the_mark OpenSquare) t) e)
separator_stops factor w ws e = ap (λ t. found (the_mark OpenSquare) t) e
separator_stops variable w ws e = ap (λ t. found (the_mark OpenSquare) t) e
separator_stops identifier w ws e = tt
separator_stops bound w ws e = tt
separator_stops group w ws e = tt
separator_stops element w ws e = (ap (λ t. rank_of (operator_of t)) e, ap (λ t. found (the_mark OpenSquare) t) e, ap (λ t. found (the_mark OpenRound) t) e)
separator_stops statement w ws e = (ap (λ t. rank_of (operator_of t)) e, ap (λ t. found (the_mark OpenSquare) t) e)
separator_stops item w ws e = (ap (λ t. rank_of (operator_of t)) e, ap (λ t. found (the_mark OpenSquare) t) e)

pub rank_positive : (o : Operator) → 1 ≤ rank o
rank_positive Equivalence = omega arith
rank_positive Disjunction = omega arith
rank_positive Conjunction = omega arith
rank_positive (Additive s) = omega arith
rank_positive (Multiplicative s) = omega arith

pub rank_at_most_6 : (o : Operator) → rank o ≤ 6
rank_at_most_6 Equivalence = omega arith
rank_at_most_6 Disjunction = omega arith
rank_at_most_6 Conjunction = omega arith
rank_at_most_6 (Additive s) = omega arith
rank_at_most_6 (Multiplicative s) = omega arith

-- No operator between operands has the rank of `not`.
pub rank_not_4 : (o : Operator) → rank o ≡ 4 → ⊥
rank_not_4 Equivalence e = omega arith
rank_not_4 Disjunction e = omega arith
rank_not_4 Conjunction e = omega arith
rank_not_4 (Additive s) e = omega arith
rank_not_4 (Multiplicative s) e = omega arith

pub operator_again : (o : Operator) → operator_of (operator_token o) ≡ Some o
operator_again Equivalence = refl
operator_again Disjunction = refl
operator_again Conjunction = refl
operator_again (Additive s) = refl
operator_again (Multiplicative s) = refl

pub operator_no_square : (o : Operator) → found (the_mark OpenSquare) (operator_token o) ≡ None
operator_no_square Equivalence = refl
operator_no_square Disjunction = refl
operator_no_square Conjunction = refl
operator_no_square (Additive s) = refl
operator_no_square (Multiplicative s) = refl

-- An operator of none of the ranks from r to q comes.
pub no_operator : (r q : ℕ) (ws : List Word) → ((o : Operator) → head_rank ws ≡ rank o → r ≤ rank o → rank o ≤ q → ⊥) → heads (an_operator r q) ws ≡ None
no_operator r q [] h = refl
no_operator r q (w ∷ ws) h = by (operator_of w.token) refl
  where
    none : (o : Operator) (x : Option Operator) → operator_of w.token ≡ Some o → between_ranks r q (Some o) ≡ x → x ≡ None
    none o None e i = refl
    none o (Some u) e i =
        let j = between_ranks_some r q (Some o) u i in
        let k : o ≡ u = some_same j.0 in
        absurd (h u (ap rank_of (e ∙ ap Some k)) j.1 j.2)

    by : (x : Option Operator) → operator_of w.token ≡ x → between_ranks r q x ≡ None
    by None e = refl
    by (Some o) e = none o (between_ranks r q (Some o)) e refl

-- Where the next operator's rank is at most q and at most m, both bounds find it.
pub same_operator : (r q m : ℕ) (ws : List Word) → head_rank ws ≤ q → head_rank ws ≤ m → heads (an_operator r q) ws ≡ heads (an_operator r m) ws
same_operator r q m [] h k = refl
same_operator r q m (w ∷ ws) h k = by (operator_of w.token) h k
  where
    by : (x : Option Operator) → rank_of x ≤ q → rank_of x ≤ m → between_ranks r q x ≡ between_ranks r m x
    by None h k = refl
    by (Some o) h k =
        let i : leb (rank o) q ≡ true = le-leb (rank o) q h in
        let j : leb (rank o) m ≡ true = le-leb (rank o) m k in
        ap (λ b. cond (leb r (rank o)) (when b o) None) (i ∙ sym j)

pub head_at_most_6 : (ws : List Word) → head_rank ws ≤ 6
head_at_most_6 [] = omega arith
head_at_most_6 (w ∷ ws) = by (operator_of w.token)
  where
    by : (x : Option Operator) → rank_of x ≤ 6
    by None = omega arith
    by (Some o) = rank_at_most_6 o
