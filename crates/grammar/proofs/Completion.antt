-- Whatever was read so far can go on to a sentence.
use Rattle.std.proofs.Common.{ℕ, zero, suc, ◌+◌, ◌-◌, ◌≤◌, Bool, true, false, cond, List, [], ◌∷◌, ◌++◌, refl, append_assoc, arith}
use Rattle.words.specs.declared.token.Sign.TheVariants.{Plus}
use Rattle.words.specs.declared.token.Relation.TheVariants.{Less}
use Rattle.words.specs.declared.token.Mark.TheVariants.{Colon, OpenSquare, CloseSquare}
use Rattle.words.specs.declared.token.Keyword.TheVariants.{Stop}
use Rattle.words.specs.Token.{Token, Word, name, number, keyword, mark}
use Rattle.grammar.specs.declared.operator.Operator.TheVariants.{Equivalence}
use Rattle.grammar.specs.declared.operator.Prefix.TheVariants.{Negation}
use Rattle.grammar.specs.Tree.{one, Program, literal, whole, single, stop, action}
use Rattle.grammar.specs.Classes.{Class, the_mark, the_keyword, a_name, a_number, a_sign, a_relation, a_prefix, an_operator, Content, opens, closes, less}
use Rattle.grammar.specs.Grammar.{Part, ranked, factor, variable, identifier, bound, group, element, statement, item, Phrase, a, row, program, Tree, Value, Derives, alone, a_name as name_derives, a_whole, a_number as number_derives, a_single, a_stop, a_plain_bound, a_group, an_action}
use Rattle.grammar.specs.Parser.{Goal, begin, operators, rest, Script, done, word, either, part, goto, within, Around, nothing, waiting, State, at}
use Rattle.grammar.proofs.Found.{token_of, class_levels}
use Rattle.grammar.proofs.Yields.{Reaches, Yields, of_any_rank}
use Rattle.grammar.proofs.Sound.{Meant, At}

abbrev a_word : Token → Word
a_word t = record { token = t; place = 0 }

-- A content of each class.
abbrev sample : (c : Class) → Content c
sample (the_mark m) = tt
sample (the_keyword k) = tt
sample a_name = 120 ∷ []
sample a_number = 0
sample a_sign = Plus
sample a_relation = Less
sample (a_prefix r) = Negation
sample (an_operator r q) = Equivalence

levels_grow : (o c : Bool) (d : ℕ) → cond o (suc d) (cond c (less d) d) ≤ suc d
levels_grow true c d = omega arith
levels_grow false true zero = omega arith
levels_grow false true (suc d) = omega arith
levels_grow false false d = omega arith

class_grows : (c : Class) (d : ℕ) → class_levels c d ≤ suc d
class_grows (the_mark m) d = levels_grow (opens (mark m)) (closes (mark m)) d
class_grows (the_keyword k) d = levels_grow (opens (keyword k)) (closes (keyword k)) d
class_grows a_name d = omega arith
class_grows a_number d = omega arith
class_grows a_sign d = omega arith
class_grows a_relation d = omega arith
class_grows (a_prefix r) d = omega arith
class_grows (an_operator r q) d = omega arith

-- Words with which a part can go on to its end, its tree then, and how many levels they may open.
record PartWords (p : Part) : Type 0 where
  words : List Word
  tree : Tree p
  levels : ℕ
  derives : (limit d : ℕ) (rs : List Word) → d + levels ≤ limit → Derives (a p) (limit - d) (words ++ rs) rs tree

part_words : (p : Part) → PartWords p
part_words (ranked r) = record { words = a_word (number 0) ∷ []; tree = literal 0 0; levels = 0; derives = λ limit d rs h. of_any_rank r (number_derives refl) }
part_words factor = record { words = a_word (number 0) ∷ []; tree = literal 0 0; levels = 0; derives = λ limit d rs h. number_derives refl }
part_words variable = record { words = a_word (name (120 ∷ [])) ∷ []; tree = whole (record { letters = 120 ∷ []; place = 0 }); levels = 0; derives = λ limit d rs h. a_whole refl }
part_words identifier = record { words = a_word (name (120 ∷ [])) ∷ []; tree = record { letters = 120 ∷ []; place = 0 }; levels = 0; derives = λ limit d rs h. name_derives refl }
part_words bound = record { words = a_word (number 0) ∷ []; tree = record { sign = Plus; size = 0 }; levels = 0; derives = λ limit d rs h. a_plain_bound refl }
part_words group = record {
  words = a_word (name (120 ∷ [])) ∷ a_word (mark OpenSquare) ∷ a_word (number 0) ∷ a_word (mark Colon) ∷ a_word (number 0) ∷ a_word (mark CloseSquare) ∷ [];
  tree = record { names = one (record { letters = 120 ∷ []; place = 0 }); bracket = 0; low = record { sign = Plus; size = 0 }; high = record { sign = Plus; size = 0 } };
  levels = 1;
  derives = λ limit d rs h. a_group {l = limit - suc d} (omega arith) (alone (name_derives refl)) refl (a_plain_bound refl) refl (a_plain_bound refl) refl;
}
part_words element = record { words = a_word (number 0) ∷ []; tree = single (literal 0 0); levels = 0; derives = λ limit d rs h. a_single (of_any_rank 1 (number_derives refl)) }
part_words statement = record { words = a_word (keyword Stop) ∷ []; tree = stop 0; levels = 0; derives = λ limit d rs h. a_stop refl }
part_words item = record { words = a_word (keyword Stop) ∷ []; tree = action (stop 0); levels = 0; derives = λ limit d rs h. an_action (a_stop refl) }

record GoalWords {p : Phrase} (g : Goal p) : Type 0 where
  words : List Word
  tree : Value p
  levels : ℕ
  reaches : (limit d : ℕ) (rs : List Word) → d + levels ≤ limit → Reaches g (limit - d) (words ++ rs) rs tree

goal_words : {p : Phrase} (g : Goal p) → GoalWords g
goal_words (begin (a p)) = let w = part_words p in record { words = w.words; tree = w.tree; levels = w.levels; reaches = λ limit d rs h. w.derives limit d rs h }
goal_words (begin (row p)) = let w = part_words p in record { words = w.words; tree = one w.tree; levels = w.levels; reaches = λ limit d rs h. alone (w.derives limit d rs h) }
goal_words (operators r q x) = record { words = []; tree = x; levels = 0; reaches = λ limit d rs h es f. f.at_least }
goal_words (rest p ts) = record { words = []; tree = ts; levels = 0; reaches = λ limit d rs h es f. f }

record ScriptWords {p : Phrase} (s : Script p) : Type 1 where
  words : List Word
  tree : Value p
  levels : ℕ
  yields : (limit : ℕ) (R : List Word → Value p → Type 0) (d : ℕ) (rs : List Word) → d + levels ≤ limit → Yields limit R d (words ++ rs) s → R rs tree

script_words : {p : Phrase} (s : Script p) → ScriptWords s
script_words (done v) = record { words = []; tree = v; levels = 0; yields = λ limit R d rs h y. y }
script_words (word c y) =
    let r = script_words (y (sample c) 0) in
    let w = a_word (token_of c (sample c)) in
    record {
      words = w ∷ r.words;
      tree = r.tree;
      levels = suc r.levels;
      yields = λ limit R d rs h f.
          r.yields limit R (class_levels c d) rs (omega (arith, class_grows c d)) (f w (r.words ++ rs) (sample c) refl refl (λ _. omega (arith, class_grows c d)));
    }
script_words (either c y n) = let r = script_words n in record { words = r.words; tree = r.tree; levels = r.levels; yields = λ limit R d rs h f. r.yields limit R d rs h f.1 }
script_words (part g f) =
    let u = goal_words g in
    let r = script_words (f u.tree) in
    record {
      words = u.words ++ r.words;
      tree = r.tree;
      levels = u.levels + r.levels;
      yields = λ limit R d rs h k.
          r.yields limit R d rs (omega arith) (k (r.words ++ rs) u.tree (rw append_assoc (u.reaches limit d (r.words ++ rs) (omega arith))));
    }
script_words (goto g) = let u = goal_words g in record { words = u.words; tree = u.tree; levels = u.levels; yields = λ limit R d rs h k. k rs u.tree (u.reaches limit d rs h) }
script_words (within s f) =
    let u = script_words s in
    let r = script_words (f u.tree) in
    record {
      words = u.words ++ r.words;
      tree = r.tree;
      levels = u.levels + r.levels;
      yields = λ limit R d rs h k.
          r.yields limit R d rs (omega arith) (u.yields limit (λ ms v. Yields limit R d ms (f v)) d (r.words ++ rs) (omega arith) (rw append_assoc at k));
    }

record AroundWords {p : Phrase} (k : Around p) (v : Value p) : Type 0 where
  words : List Word
  tree : Program
  levels : ℕ
  derives : (limit : ℕ) (all : List Word) → levels ≤ limit → Meant limit all k words v → Derives program limit all [] tree

around_words : {p : Phrase} (k : Around p) (v : Value p) → AroundWords k v
around_words nothing v = record { words = []; tree = v; levels = 0; derives = λ limit all h m. m }
around_words (waiting q d f k) v =
    let u = script_words (f v) in
    let r = around_words k u.tree in
    record {
      words = u.words ++ r.words;
      tree = r.tree;
      levels = (d + u.levels) + r.levels;
      derives = λ limit all h m.
          r.derives limit all (omega arith) (u.yields limit (λ rs x. Meant limit all k rs x) d r.words (omega arith) m);
    }

-- Words with which a state goes on to a sentence.
pub record StateWords (s : State) : Type 0 where
  pub words : List Word
  pub tree : Program
  pub levels : ℕ
  pub derives : (limit : ℕ) (all : List Word) → levels ≤ limit → At limit all s words → Derives program limit all [] tree

pub state_words : (s : State) → StateWords s
state_words (at d s k) =
    let u = script_words s in
    let r = around_words k u.tree in
    record {
      words = u.words ++ r.words;
      tree = r.tree;
      levels = (d + u.levels) + r.levels;
      derives = λ limit all h m.
          r.derives limit all (omega arith) (u.yields limit (λ rs x. Meant limit all k rs x) d r.words (omega arith) m);
    }
