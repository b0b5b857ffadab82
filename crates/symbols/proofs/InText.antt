-- The names of a phrase's words are those of its tree, in their order: by induction on the derivation.
use Rattle.std.proofs.Common.{◌≡◌, ℕ, List, [], ◌∷◌, ◌++◌, sym, refl, ap, ◌∙◌, append_assoc, append-nil}
use Rattle.std.proofs.lemmas.List.{map-append}
use Rattle.words.specs.declared.token.Mark.TheVariants.{Semicolon, Colon, Becomes, Into, OpenRound, CloseRound, OpenSquare, CloseSquare}
use Rattle.words.specs.declared.token.Keyword.TheVariants.{Begin, End, If, For, Go, To, Switch, Array, Comment, In, Print, Stop}
use Rattle.words.specs.declared.token.Keyword.TheVariants.{Integer as IntegerWord, Boolean as BooleanWord}
use Rattle.words.specs.Token.{Token, Word, name, number, keyword, mark, sign, relation}
use Rattle.grammar.specs.declared.operator.Operator.{Operator}
use Rattle.grammar.specs.declared.operator.Operator.TheVariants.{Equivalence, Disjunction, Conjunction, Additive, Multiplicative}
use Rattle.grammar.specs.declared.operator.Prefix.{Prefix}
use Rattle.grammar.specs.declared.operator.Prefix.TheVariants.{Negation, Signed}
use Rattle.grammar.specs.Tree.{Row, one, more, Name, value_of, Statement, block, Program}
use Rattle.grammar.specs.Classes.{operator_token, prefix_token}
use Rattle.grammar.specs.Grammar.{Part, ranked, factor, variable, identifier, bound, group, element, statement, item, Phrase, a, row, separator, Tree, Value, Is, named, Derives, alone, another, a_name, a_whole, an_indexed, a_number, a_value, in_brackets, a_comparison, a_factor, an_operand, operated, after_prefix, a_single, a_progression, a_label, an_assignment, a_conditional, a_repetition, a_block, a_jump, a_switched_jump, an_input, a_print, a_stop, a_signed_bound, a_plain_bound, a_group, a_comment, integers, booleans, arrays, a_switch, an_action}
use Rattle.symbols.specs.declared.value_type.ValueType.TheVariants.{Integer, Boolean}
use Rattle.symbols.specs.Occurrences.{Role, as_array, of_type, in_switch, Occurrence, at, each, all_at, in_exp, in_element, in_statement, in_group, in_item, occurrences}
use Rattle.symbols.specs.TextOrder.{name_at, named_words, names_of}

-- The occurrences of a part of any kind. Bare names, whose role their surroundings say, stand for a switch's list.
abbrev in_part : (p : Part) → Tree p → List Occurrence
in_part (ranked r) x = in_exp x
in_part factor x = in_exp x
in_part variable v = in_exp (value_of v)
in_part identifier x = at in_switch x ∷ []
in_part bound b = []
in_part group g = in_group g
in_part element e = in_element e
in_part statement s = in_statement s
in_part item i = in_item i

abbrev in_phrase : (p : Phrase) → Value p → List Occurrence
in_phrase (a p) t = in_part p t
in_phrase (row p) ts = each (in_part p) ts

-- Tokens that are no name.
abbrev Nameless : Token → Type 0
Nameless t = (p : ℕ) → name_at t p ≡ []

operator_nameless : (o : Operator) → Nameless (operator_token o)
operator_nameless Equivalence p = refl
operator_nameless Disjunction p = refl
operator_nameless Conjunction p = refl
operator_nameless (Additive s) p = refl
operator_nameless (Multiplicative s) p = refl

prefix_nameless : (o : Prefix) → Nameless (prefix_token o)
prefix_nameless Negation p = refl
prefix_nameless (Signed s) p = refl

-- A word that is no name adds none, one that is a name adds it.
lead : (w : Word) (ws : List Word) (ns : List Name) (t : Token) → Nameless t → Is w t → named_words ws ≡ ns → named_words (w ∷ ws) ≡ ns
lead w ws ns t f e h = ap (λ (u : Token). name_at u w.place ++ named_words ws) e ∙ (ap (λ (l : List Name). l ++ named_words ws) (f w.place) ∙ h)

lead_name : (w : Word) (ws : List Word) (ns : List Name) (n : List ℕ) → Is w (name n) → named_words ws ≡ ns → named_words (w ∷ ws) ≡ named n w ∷ ns
lead_name w ws ns n e h = ap (λ (u : Token). name_at u w.place ++ named_words ws) e ∙ ap (λ (l : List Name). named n w ∷ l) h

-- The same behind some occurrences.
past : (os : List Occurrence) (w : Word) (ws : List Word) (ns : List Name) (t : Token) → Nameless t → Is w t → ns ≡ names_of os ++ named_words (w ∷ ws) → ns ≡ names_of os ++ named_words ws
past os w ws ns t f e h = h ∙ ap (λ (l : List Name). names_of os ++ l) (lead w ws (named_words ws) t f e refl)

-- One phrase behind another.
behind : (os ps : List Occurrence) (ns ms rs : List Name) → ns ≡ names_of os ++ ms → ms ≡ names_of ps ++ rs → ns ≡ names_of (os ++ ps) ++ rs
behind os ps ns ms rs e f =
    e ∙ (ap (λ (l : List Name). names_of os ++ l) f
    ∙ (sym (append_assoc (names_of os) (names_of ps) rs)
    ∙ ap (λ (l : List Name). l ++ rs) (sym (map-append (λ (o : Occurrence). o.name) os ps))))

-- The names of a row do not depend on the role.
any_role : (q r : Role) (xs : Row Name) → names_of (all_at q xs) ≡ names_of (all_at r xs)
any_role q r (one x) = refl
any_role q r (more xs x) =
    map-append (λ (o : Occurrence). o.name) (all_at q xs) (at q x ∷ [])
    ∙ (ap (λ (l : List Name). l ++ x ∷ []) (any_role q r xs)
    ∙ sym (map-append (λ (o : Occurrence). o.name) (all_at r xs) (at r x ∷ [])))

with_role : (r : Role) (xs : Row Name) (ns rs : List Name) → ns ≡ names_of (all_at in_switch xs) ++ rs → ns ≡ names_of (all_at r xs) ++ rs
with_role r xs ns rs e = e ∙ ap (λ (l : List Name). l ++ rs) (any_role in_switch r xs)

-- A block's occurrences are those of its statements.
in_block : (ss : Row Statement) → each in_statement ss ≡ in_statement (block ss)
in_block (one s) = refl
in_block (more ss s) = ap (λ (l : List Occurrence). l ++ in_statement s) (in_block ss)

pub in_text : {p : Phrase} {l : ℕ} {ws rs : List Word} {t : Value p} → Derives p l ws rs t → named_words ws ≡ names_of (in_phrase p t) ++ named_words rs
in_text (alone x) = in_text x
in_text (another {p} {s = s} {ws} {ms} {rs} {ts} {t} xs e x) =
    behind (each (in_part p) ts) (in_part p t) (named_words ws) (named_words ms) (named_words rs)
    (past (each (in_part p) ts) s ms (named_words ws) (mark (separator p)) (λ q. refl) e (in_text xs)) (in_text x)
in_text (a_name {n = n} {w = w} {rs} e) = lead_name w rs (named_words rs) n e refl
in_text (a_whole {n = n} {w = w} {rs} e) = lead_name w rs (named_words rs) n e refl
in_text (an_indexed {n = n} {w = w} {o} {c} {ws} {rs} {i} lt e f x g) =
    lead_name w (o ∷ ws) (names_of (in_exp i) ++ named_words rs) n e
    (lead o ws (names_of (in_exp i) ++ named_words rs) (mark OpenSquare) (λ q. refl) f
    (past (in_exp i) c rs (named_words ws) (mark CloseSquare) (λ q. refl) g (in_text x)))
in_text (a_number {n = n} {w = w} {rs} e) = lead w rs (named_words rs) (number n) (λ q. refl) e refl
in_text (a_value x) = in_text x
in_text (in_brackets {o = o} {c} {ws} {rs} {x = y} lt f x g) =
    lead o ws (names_of (in_exp y) ++ named_words rs) (mark OpenRound) (λ q. refl) f
    (past (in_exp y) c rs (named_words ws) (mark CloseRound) (λ q. refl) g (in_text x))
in_text (a_comparison {o = o} {r} {c} {q = k} {ws} {ms} {rs} {x = u} {y = v} lt f x e y g) =
    lead o ws (names_of (in_exp u ++ in_exp v) ++ named_words rs) (mark OpenRound) (λ q. refl) f
    (behind (in_exp u) (in_exp v) (named_words ws) (named_words ms) (named_words rs)
    (past (in_exp u) r ms (named_words ws) (relation k) (λ q. refl) e (in_text x))
    (past (in_exp v) c rs (named_words ms) (mark CloseRound) (λ q. refl) g (in_text y)))
in_text (a_factor le x) = in_text x
in_text (an_operand x) = in_text x
in_text (operated {o = o} {w = w} {ws} {ms} {rs} {x = u} {y = v} x e y) =
    behind (in_exp u) (in_exp v) (named_words ws) (named_words ms) (named_words rs)
    (past (in_exp u) w ms (named_words ws) (operator_token o) (operator_nameless o) e (in_text x)) (in_text y)
in_text (after_prefix {o = o} {w = w} {ws} {rs} {x = u} e x) =
    lead w ws (names_of (in_exp u) ++ named_words rs) (prefix_token o) (prefix_nameless o) e (in_text x)
in_text (a_single x) = in_text x
in_text (a_progression {o = o} {c} {ws} {ms} {ns} {rs} {x = u} {y = v} {z = k} lt x f y g z) =
    behind (in_exp u) (in_exp v ++ in_exp k) (named_words ws) (named_words ms) (named_words rs)
    (past (in_exp u) o ms (named_words ws) (mark OpenRound) (λ q. refl) f (in_text x))
    (behind (in_exp v) (in_exp k) (named_words ms) (named_words ns) (named_words rs)
    (past (in_exp v) c ns (named_words ms) (mark CloseRound) (λ q. refl) g (in_text y)) (in_text z))
in_text (a_label {n = n} {w = w} {c} {ws} {rs} {s} e f x) =
    lead_name w (c ∷ ws) (names_of (in_statement s) ++ named_words rs) n e
    (lead c ws (names_of (in_statement s) ++ named_words rs) (mark Colon) (λ q. refl) f (in_text x))
in_text (an_assignment {b = b} {ws} {ms} {rs} {v} {x = u} x e y) =
    behind (in_exp (value_of v)) (in_exp u) (named_words ws) (named_words ms) (named_words rs)
    (past (in_exp (value_of v)) b ms (named_words ws) (mark Becomes) (λ q. refl) e (in_text x)) (in_text y)
in_text (a_conditional {i = i} {c} {ws} {ms} {rs} {x = u} {s} lt e x f y) =
    lead i ws (names_of (in_exp u ++ in_statement s) ++ named_words rs) (keyword If) (λ q. refl) e
    (behind (in_exp u) (in_statement s) (named_words ws) (named_words ms) (named_words rs)
    (past (in_exp u) c ms (named_words ws) (mark Semicolon) (λ q. refl) f (in_text x)) (in_text y))
in_text (a_repetition {n = n} {f = f} {w} {b} {c} {ws} {ms} {rs} {es} {s} lt d e g x h y) =
    let ns : List Name = names_of (each in_element es ++ in_statement s) ++ named_words rs in
    lead f (w ∷ (b ∷ ws)) (named n w ∷ ns) (keyword For) (λ q. refl) d
    (lead_name w (b ∷ ws) ns n e
    (lead b ws ns (mark Becomes) (λ q. refl) g
    (behind (each in_element es) (in_statement s) (named_words ws) (named_words ms) (named_words rs)
    (past (each in_element es) c ms (named_words ws) (mark Semicolon) (λ q. refl) h (in_text x)) (in_text y))))
in_text (a_block {b = b} {e = d} {ws} {rs} {ss} lt f x g) =
    lead b ws (names_of (each in_statement ss) ++ named_words rs) (keyword Begin) (λ q. refl) f
    (past (each in_statement ss) d rs (named_words ws) (keyword End) (λ q. refl) g (in_text x))
    ∙ ap (λ (l : List Occurrence). names_of l ++ named_words rs) (in_block ss)
in_text (a_jump {n = n} {g = g} {t = k} {w} {rs} d e f) =
    lead g (k ∷ (w ∷ rs)) (named n w ∷ named_words rs) (keyword Go) (λ q. refl) d
    (lead k (w ∷ rs) (named n w ∷ named_words rs) (keyword To) (λ q. refl) e (lead_name w rs (named_words rs) n f refl))
in_text (a_switched_jump {n = n} {g = g} {t = k} {w} {o} {c} {ws} {rs} {i} lt d e f h x j) =
    let ns : List Name = names_of (in_exp i) ++ named_words rs in
    lead g (k ∷ (w ∷ (o ∷ ws))) (named n w ∷ ns) (keyword Go) (λ q. refl) d
    (lead k (w ∷ (o ∷ ws)) (named n w ∷ ns) (keyword To) (λ q. refl) e
    (lead_name w (o ∷ ws) ns n f
    (lead o ws ns (mark OpenSquare) (λ q. refl) h
    (past (in_exp i) c rs (named_words ws) (mark CloseSquare) (λ q. refl) j (in_text x)))))
in_text (an_input {i = i} {t = k} {o} {c} {ws} {rs} {v} lt d e f x g) =
    let ns : List Name = names_of (in_exp (value_of v)) ++ named_words rs in
    lead i (k ∷ (o ∷ ws)) ns (keyword In) (λ q. refl) d
    (lead k (o ∷ ws) ns (mark Into) (λ q. refl) e
    (lead o ws ns (mark OpenRound) (λ q. refl) f
    (past (in_exp (value_of v)) c rs (named_words ws) (mark CloseRound) (λ q. refl) g (in_text x))))
in_text (a_print {p = k} {o} {c} {ws} {rs} {xs} lt d e x f) =
    let ns : List Name = names_of (each in_exp xs) ++ named_words rs in
    lead k (o ∷ ws) ns (keyword Print) (λ q. refl) d
    (lead o ws ns (mark OpenRound) (λ q. refl) e
    (past (each in_exp xs) c rs (named_words ws) (mark CloseRound) (λ q. refl) f (in_text x)))
in_text (a_stop {w = w} {rs} e) = lead w rs (named_words rs) (keyword Stop) (λ q. refl) e refl
in_text (a_signed_bound {n = n} {s} {w} {v} {rs} e f) =
    lead w (v ∷ rs) (named_words rs) (sign s) (λ q. refl) e (lead v rs (named_words rs) (number n) (λ q. refl) f refl)
in_text (a_plain_bound {n = n} {w = w} {rs} e) = lead w rs (named_words rs) (number n) (λ q. refl) e refl
in_text (a_group {o = o} {c} {e = d} {ws} {ms} {ns} {rs} {xs} {x = u} {y = v} lt x f y g z h) =
    with_role (as_array u v) xs (named_words ws) (named_words rs)
    (past (all_at in_switch xs) o ms (named_words ws) (mark OpenSquare) (λ q. refl) f (in_text x)
    ∙ ap (λ (l : List Name). names_of (all_at in_switch xs) ++ l)
    (past [] c ns (named_words ms) (mark Colon) (λ q. refl) g (in_text y) ∙ past [] d rs (named_words ns) (mark CloseSquare) (λ q. refl) h (in_text z)))
in_text (a_comment {w = w} {rs} e) = lead w rs (named_words rs) (keyword Comment) (λ q. refl) e refl
in_text (integers {w = w} {o} {c} {ws} {rs} {xs} lt e f x g) =
    let ns : List Name = names_of (all_at (of_type Integer) xs) ++ named_words rs in
    lead w (o ∷ ws) ns (keyword IntegerWord) (λ q. refl) e
    (lead o ws ns (mark OpenRound) (λ q. refl) f
    (with_role (of_type Integer) xs (named_words ws) (named_words rs) (past (all_at in_switch xs) c rs (named_words ws) (mark CloseRound) (λ q. refl) g (in_text x))))
in_text (booleans {w = w} {o} {c} {ws} {rs} {xs} lt e f x g) =
    let ns : List Name = names_of (all_at (of_type Boolean) xs) ++ named_words rs in
    lead w (o ∷ ws) ns (keyword BooleanWord) (λ q. refl) e
    (lead o ws ns (mark OpenRound) (λ q. refl) f
    (with_role (of_type Boolean) xs (named_words ws) (named_words rs) (past (all_at in_switch xs) c rs (named_words ws) (mark CloseRound) (λ q. refl) g (in_text x))))
in_text (arrays {w = w} {o} {c} {ws} {rs} {gs} lt e f x g) =
    let ns : List Name = names_of (each in_group gs) ++ named_words rs in
    lead w (o ∷ ws) ns (keyword Array) (λ q. refl) e
    (lead o ws ns (mark OpenRound) (λ q. refl) f
    (past (each in_group gs) c rs (named_words ws) (mark CloseRound) (λ q. refl) g (in_text x)))
in_text (a_switch {n = n} {w = w} {v} {b} {o} {c} {ws} {rs} {xs} lt d e f g x h) =
    let ns : List Name = names_of (all_at in_switch xs) ++ named_words rs in
    lead w (v ∷ (b ∷ (o ∷ ws))) (named n v ∷ ns) (keyword Switch) (λ q. refl) d
    (lead_name v (b ∷ (o ∷ ws)) ns n e
    (lead b (o ∷ ws) ns (mark Becomes) (λ q. refl) f
    (lead o ws ns (mark OpenRound) (λ q. refl) g
    (past (all_at in_switch xs) c rs (named_words ws) (mark CloseRound) (λ q. refl) h (in_text x)))))
in_text (an_action x) = in_text x

pub names_in_text : (l : ℕ) (ws : List Word) (t : Program) → Derives (row item) l ws [] t → named_words ws ≡ names_of (occurrences t)
names_in_text l ws t d = in_text d ∙ append-nil (names_of (occurrences t))
