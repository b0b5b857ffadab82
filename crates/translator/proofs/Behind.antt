-- What stands behind a piece of code: to drop as many entries as the piece has is to drop the piece.
use Rattle.std.proofs.Common.{◌≡◌, ℕ, suc, ◌+◌, List, [], ◌∷◌, length, drop, sym, refl, ap, ◌∙◌, arith, drop-drop}
use Rattle.words.specs.declared.token.Sign.TheVariants.{Plus, Minus}
use Rattle.words.specs.declared.token.Relation.{Relation}
use Rattle.words.specs.declared.token.Relation.TheVariants as relation
use Rattle.grammar.specs.declared.operator.Prefix.{Prefix}
use Rattle.grammar.specs.declared.operator.Prefix.TheVariants.{Negation, Signed}
use Rattle.grammar.specs.Tree.{Name, Exp, literal, simple, subscripted, prefixed, joined, bracketed, compared, whole, indexed, Element, single, progression, Statement, labelled, conditional, repeated, assigned, go, switched, input, printed, stop, sequence}
use Rattle.symbols.specs.declared.value_type.ValueType.{ValueType}
use Rattle.symbols.specs.declared.value_type.ValueType.TheVariants.{Untyped, Integer, Boolean}
use Rattle.meaning.specs.Names.{Names}
use Rattle.translator.specs.Generator.{Entry, ready_size, ready_code, prefix_size, prefix_code, relation_size, relation_code, exp_size, exp_code, all_of, type_of, posts_size, posts_code, first_size, addition_size, down_size, up_size, element_size, elements_size, first_code, addition_code, up_code, test_code, element_code, next_place, elements_code, turns_code, size, loops, code}

pub to : (n m : ℕ) (l : List Entry) → n ≡ m → drop n l ≡ drop m l
to n m l e = ap (λ i. drop i l) e

-- From what stands at a place, what stands further on.
pub further : (c : List Entry) (a n m : ℕ) (x : List Entry) → drop a c ≡ x → m ≡ a + n → drop m c ≡ drop n x
further c a n m x e p = to m (a + n) c p ∙ sym (drop-drop n a c) ∙ ap (drop n) e

pub behind_ready : (t : ValueType) (n j : ℕ) (r : List Entry) → n ≡ ready_size t + j → drop n (ready_code t r) ≡ drop j r
behind_ready Untyped n j r p = to n j r (omega arith)
behind_ready Integer n j r p = to n (suc j) _ (omega arith)
behind_ready Boolean n j r p = to n (suc j) _ (omega arith)

behind_prefix : (o : Prefix) (n j : ℕ) (r : List Entry) → n ≡ prefix_size o + j → drop n (prefix_code o r) ≡ drop j r
behind_prefix (Signed Plus) n j r p = to n j r (omega arith)
behind_prefix (Signed Minus) n j r p = to n (suc j) _ (omega arith)
behind_prefix Negation n j r p = to n (suc j) _ (omega arith)

behind_relation : (o : Relation) (n j : ℕ) (r : List Entry) → n ≡ relation_size o + j → drop n (relation_code o r) ≡ drop j r
behind_relation relation.Less n j r p = to n (suc j) _ (omega arith)
behind_relation relation.More n j r p = to n (suc j) _ (omega arith)
behind_relation relation.Equal n j r p = to n (suc j) _ (omega arith)
behind_relation relation.AtMost n j r p = to n (suc (suc j)) _ (omega arith)
behind_relation relation.AtLeast n j r p = to n (suc (suc j)) _ (omega arith)
behind_relation relation.Unequal n j r p = to n (suc (suc j)) _ (omega arith)

module _ (names : Names) where
  pub behind_exp : (e : Exp) (n j : ℕ) (r : List Entry) → n ≡ exp_size e + j → drop n (exp_code names e r) ≡ drop j r
  behind_exp (literal x p) n j r q = to n (suc j) _ (omega arith)
  behind_exp (simple x) n j r q = to n (suc j) _ (omega arith)
  behind_exp (subscripted x e) n j r q = behind_exp e n (suc j) _ (omega arith)
  behind_exp (prefixed o p e) n j r q = behind_exp e n (prefix_size o + j) _ (omega arith) ∙ behind_prefix o (prefix_size o + j) j r refl
  behind_exp (joined o a b) n j r q = behind_exp a n (exp_size b + suc j) _ (omega arith) ∙ behind_exp b (exp_size b + suc j) (suc j) _ refl
  behind_exp (bracketed p e) n j r q = behind_exp e n j r q
  behind_exp (compared o p a b) n j r q =
      behind_exp a n (exp_size b + (relation_size o + j)) _ (omega arith)
      ∙ behind_exp b (exp_size b + (relation_size o + j)) (relation_size o + j) _ refl
      ∙ behind_relation o (relation_size o + j) j r refl

  pub behind_posts : (p : ℕ) (es : List Exp) (n j : ℕ) (r : List Entry) → n ≡ posts_size names es + j → drop n (posts_code names p es r) ≡ drop j r
  behind_posts p [] n j r q = to n j r (omega arith)
  behind_posts p (e ∷ es) n j r q =
      to n (suc (exp_size e + suc (posts_size names es + j))) _ (omega arith)
      ∙ behind_exp e (exp_size e + suc (posts_size names es + j)) (suc (posts_size names es + j)) _ refl
      ∙ behind_posts p es (posts_size names es + j) j r refl

  module _ (p : ℕ) (x : Name) (hidden body : ℕ) where
    abbrev t : ValueType
    t = type_of names x

    pub behind_first : (i : ℕ) (e : Exp) (n j : ℕ) (r : List Entry) → n ≡ first_size names t e + j → drop n (first_code names p x hidden body i e r) ≡ drop j r
    behind_first i e n j r q =
        to n (suc (exp_size e + (ready_size t + suc (suc (suc (suc j)))))) _ (omega arith)
        ∙ behind_exp e _ (ready_size t + suc (suc (suc (suc j)))) _ refl
        ∙ behind_ready t _ (suc (suc (suc (suc j)))) _ refl

    pub behind_addition : (s : Exp) (n j : ℕ) (r : List Entry) → n ≡ addition_size names t s + j → drop n (addition_code names p x hidden body s r) ≡ drop j r
    behind_addition s n j r q =
        to n (suc (suc (exp_size s + suc (ready_size t + suc j)))) _ (omega arith)
        ∙ behind_exp s _ (suc (ready_size t + suc j)) _ refl
        ∙ behind_ready t _ (suc j) _ refl

    pub behind_up : (next : ℕ) (b : Exp) (n j : ℕ) (r : List Entry) → n ≡ up_size names b + j → drop n (up_code names p x hidden body next b r) ≡ drop j r
    behind_up next b n j r q =
        to n (suc (suc (exp_size b + suc (suc (suc j))))) _ (omega arith) ∙ behind_exp b _ (suc (suc (suc j))) _ refl

    -- The test's first way, for a step below 0.
    pub behind_down : (next up : ℕ) (s b : Exp) (n j : ℕ) (r : List Entry) → n ≡ down_size names s b + j
        → drop n (test_code names p x hidden body next up s b r) ≡ drop j (up_code names p x hidden body next b r)
    behind_down next up s b n j r q =
        to n (suc (exp_size s + suc (suc (suc (suc (exp_size b + suc (suc (suc j)))))))) _ (omega arith)
        ∙ behind_exp s _ (suc (suc (suc (suc (exp_size b + suc (suc (suc j))))))) _ refl
        ∙ behind_exp b _ (suc (suc (suc j))) _ refl

    pub behind_element : (i next a : ℕ) (e : Element) (n j : ℕ) (r : List Entry) → n ≡ element_size names t e + j
        → drop n (element_code names p x hidden body i next a e r) ≡ drop j r
    behind_element i next a (single e) n j r q = behind_first i e n j r q
    behind_element i next a (progression f s b) n j r q =
        behind_first i f n (addition_size names t s + (down_size names s b + (up_size names b + j))) _ (omega arith)
        ∙ behind_addition s _ (down_size names s b + (up_size names b + j)) _ refl
        ∙ behind_down next _ s b _ (up_size names b + j) r refl
        ∙ behind_up next b _ j r refl

    pub behind_elements : (out i a : ℕ) (es : List Element) (n j : ℕ) (r : List Entry) → n ≡ elements_size names t es + j
        → drop n (elements_code names p x hidden body out i a es r) ≡ drop j r
    behind_elements out i a [] n j r q = to n j r (omega arith)
    behind_elements out i a (e ∷ es) n j r q =
        behind_element i (next_place names p x hidden body out (a + element_size names t e) es) a e n (elements_size names t es + j) _ (omega arith)
        ∙ behind_elements out (suc i) (a + element_size names t e) es (elements_size names t es + j) j r refl

    pub behind_turns : (out a : ℕ) (es : List Element) (n j : ℕ) (r : List Entry) → n ≡ length es + j → drop n (turns_code names p x hidden body out a es r) ≡ drop j r
    behind_turns out a [] n j r q = to n j r (omega arith)
    behind_turns out a (e ∷ es) n j r q =
        to n (suc (length es + j)) _ (omega arith) ∙ behind_turns out (a + element_size names t e) es (length es + j) j r refl

  module _ (label_at table_at : List ℕ → ℕ) (halt_at : ℕ) where
    -- The code of a statement.
    pub behind : (s : Statement) (h a n j : ℕ) (r : List Entry) → n ≡ size names s + j → drop n (code names label_at table_at halt_at h a s r) ≡ drop j r
    behind (labelled l s) h a n j r q = behind s h a n j r q
    behind (conditional p e s) h a n j r q =
        to n (suc (exp_size e + suc (size names s + suc j))) _ (omega arith)
        ∙ behind_exp e _ (suc (size names s + suc j)) _ refl
        ∙ behind s h (a + (exp_size e + 2)) _ (suc j) _ refl
    behind (repeated p x es s) h a n j r q =
        let t = type_of names x in
        let els = all_of es in
        let b = a + elements_size names t els in
        let o = b + size names s + 4 + length els in
        behind_elements p x h b o 1 a els n (size names s + suc (suc (suc (suc (length els + suc j))))) _ (omega arith)
        ∙ behind s (suc h) b _ (suc (suc (suc (suc (length els + suc j))))) _ refl
        ∙ behind_turns p x h b o a els _ (suc j) _ refl
    behind (assigned (whole x) e) h a n j r q =
        to n (suc (exp_size e + (ready_size (type_of names x) + suc j))) _ (omega arith)
        ∙ behind_exp e _ (ready_size (type_of names x) + suc j) _ refl
        ∙ behind_ready (type_of names x) _ (suc j) _ refl
    behind (assigned (indexed x i) e) h a n j r q =
        to n (suc (exp_size i + suc (exp_size e + (ready_size (type_of names x) + suc j)))) _ (omega arith)
        ∙ behind_exp i _ (suc (exp_size e + (ready_size (type_of names x) + suc j))) _ refl
        ∙ behind_exp e _ (ready_size (type_of names x) + suc j) _ refl
        ∙ behind_ready (type_of names x) _ (suc j) _ refl
    behind (go p l) h a n j r q = to n (suc (suc j)) _ (omega arith)
    behind (switched p x e) h a n j r q = to n (suc (exp_size e + suc j)) _ (omega arith) ∙ behind_exp e _ (suc j) _ refl
    behind (input p (whole x)) h a n j r q = to n (suc (suc (suc j))) _ (omega arith)
    behind (input p (indexed x i)) h a n j r q = to n (suc (exp_size i + suc j)) _ (omega arith) ∙ behind_exp i _ (suc j) _ refl
    behind (printed p es) h a n j r q = behind_posts p (all_of es) n j r q
    behind (stop p) h a n j r q = to n (suc (suc j)) _ (omega arith)
    behind (sequence s u) h a n j r q =
        behind s h a n (size names u + j) _ (omega arith) ∙ behind u (h + loops names s) (a + size names s) _ j r refl
