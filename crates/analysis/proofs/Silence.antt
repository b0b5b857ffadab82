-- The parts of a tree in which names are used and none is declared.
use Rattle.std.proofs.Common.{List, [], ◌∷◌, ◌++◌, refl}
use Rattle.grammar.specs.Tree.{Row, one, more, Name, Exp, literal, simple, subscripted, prefixed, joined, bracketed, compared, Element, single, progression}
use Rattle.symbols.specs.Occurrences.{in_switch, Occurrence, at, each, all_at, in_exp, in_element}
use Rattle.analysis.proofs.Said.{Silent}

pub silent_append : (os ps : List Occurrence) → Silent os → Silent ps → Silent (os ++ ps)
silent_append [] ps s u = u
silent_append (o ∷ os) ps s u = (s.0, silent_append os ps s.1 u)

pub silent_each : {A : Type 0} (f : A → List Occurrence) → ((x : A) → Silent (f x)) → (xs : Row A) → Silent (each f xs)
silent_each f s (one x) = s x
silent_each f s (more xs x) = silent_append (each f xs) (f x) (silent_each f s xs) (s x)

pub silent_exp : (a : Exp) → Silent (in_exp a)
silent_exp (literal n p) = tt
silent_exp (simple x) = (refl, tt)
silent_exp (subscripted x i) = (refl, silent_exp i)
silent_exp (prefixed o p a) = silent_exp a
silent_exp (joined o a b) = silent_append (in_exp a) (in_exp b) (silent_exp a) (silent_exp b)
silent_exp (bracketed p a) = silent_exp a
silent_exp (compared r p a b) = silent_append (in_exp a) (in_exp b) (silent_exp a) (silent_exp b)

pub silent_element : (e : Element) → Silent (in_element e)
silent_element (single a) = silent_exp a
silent_element (progression a b c) = silent_append (in_exp a) (in_exp b ++ in_exp c) (silent_exp a) (silent_append (in_exp b) (in_exp c) (silent_exp b) (silent_exp c))

pub silent_in_switch : (xs : Row Name) → Silent (all_at in_switch xs)
silent_in_switch xs = silent_each (λ (x : Name). at in_switch x ∷ []) (λ x. (refl, tt)) xs
