-- Every sentence within the limit is read to its tree: one clause for each way in which a phrase is written.
use Rattle.std.proofs.Common.{◌≡◌, ℕ, suc, ◌+◌, ◌≤◌, true, false, leb, List, [], ◌∷◌, Some, None, refl, ap, ◌∙◌, arith, le-leb}
use Rattle.words.specs.declared.token.Mark.TheVariants.{Semicolon, Comma, OpenRound, OpenSquare}
use Rattle.words.specs.declared.token.Keyword.TheVariants.{Comment, Integer, Boolean, Array, Switch}
use Rattle.words.specs.Token.{Token, Word, name, mark}
use Rattle.grammar.specs.declared.operator.Operator.{Operator}
use Rattle.grammar.specs.declared.operator.Operator.TheVariants.{Equivalence, Disjunction, Conjunction, Additive, Multiplicative}
use Rattle.grammar.specs.declared.operator.Prefix.{Prefix}
use Rattle.grammar.specs.declared.operator.Prefix.TheVariants.{Negation, Signed}
use Rattle.grammar.specs.Tree.{Row, more, Exp, Variable, Statement, Program, prefixed, joined}
use Rattle.grammar.specs.Classes.{heads, rank, prefix_rank, operand_rank, operator_token, prefix_token, the_mark, the_keyword, an_operator, found, opens, levels_after, prefix_of, operator_of, from_rank}
use Rattle.grammar.specs.Grammar.{Part, ranked, factor, variable, identifier, bound, group, element, statement, item, exp, Phrase, a, row, program, separator, Tree, Value, Is, Derives, alone, another, a_name, a_whole, an_indexed, a_number, a_value, in_brackets, a_comparison, a_factor, an_operand, operated, after_prefix, a_single, a_progression, a_label, an_assignment, a_conditional, a_repetition, a_block, a_jump, a_switched_jump, an_input, a_print, a_stop, a_signed_bound, a_plain_bound, a_group, a_comment, integers, booleans, arrays, a_switch, an_action}
use Rattle.grammar.specs.Parser.{begin, operators, rest, Script, done, either, part, goto, within, variable_factor, factor_script, prefix_script, behind_factor, operator_script, element_rest, row_rest, group_bounds, statement_script, statement_item, part_script, Around, nothing, waiting, at, met, meets, passes, if_found, after, moved, run, tree, initial, onward}
use Rattle.grammar.proofs.Steps.{Fresh, within_moves, Leads, ◌then◌, alike, alike_on, handed_on, done_alike, part_waits, or_done, takes_word, takes_opening}
use Rattle.grammar.proofs.Ranks.{rank_of, head_rank, NoSquare, Stops, separator_stops, rank_positive, rank_not_4, operator_again, operator_no_square, no_operator, same_operator, head_at_most_6}

pub fresh : (p : Part) → Fresh (part_script p)
fresh (ranked r) = tt
fresh factor = tt
fresh variable = tt
fresh identifier = tt
fresh bound = tt
fresh group = tt
fresh element = tt
fresh statement = tt
fresh item = tt

-- The first word of a variable is a name.
variable_first : {l : ℕ} {ws rs : List Word} {v : Variable} → Derives (a variable) l ws rs v → (w : Word) × (us : List Word) × (n : List ℕ) × (ws ≡ w ∷ us) × Is w (name n)
variable_first (a_whole {n = n} {w = w} {rs = rs} e) = (w, rs, n, refl, e)
variable_first (an_indexed {n = n} {w = w} {o = o} {ws = ws} lt e i x c) = (w, o ∷ ws, n, refl, e)

-- The first word of a factor is no operator before an operand.
factor_first : {l : ℕ} {ws rs : List Word} {x : Exp} → Derives (a factor) l ws rs x → (w : Word) × (us : List Word) × (ws ≡ w ∷ us) × (prefix_of w.token ≡ None)
factor_first (a_number {w = w} {rs = rs} e) = (w, rs, refl, ap prefix_of e)
factor_first (a_value x) = let y = variable_first x in (y.0, y.1, y.3, ap prefix_of y.4)
factor_first (in_brackets {o = o} {ws = ws} lt e x c) = (o, ws, refl, ap prefix_of e)
factor_first (a_comparison {o = o} {ws = ws} lt e x r y c) = (o, ws, refl, ap prefix_of e)

-- The first word of a statement begins no other item.
pub record NoDeclaration (t : Token) : Type 0 where
  pub comment : found (the_keyword Comment) t ≡ None
  pub integer : found (the_keyword Integer) t ≡ None
  pub boolean : found (the_keyword Boolean) t ≡ None
  pub array : found (the_keyword Array) t ≡ None
  pub switch : found (the_keyword Switch) t ≡ None

pub record First (ws : List Word) : Type 0 where
  pub word : Word
  pub rest : List Word
  pub whole : ws ≡ word ∷ rest
  pub token : NoDeclaration word.token

first : {w : Word} {us : List Word} (t : Token) → Is w t → NoDeclaration t → First (w ∷ us)
first {w} {us} t e h = record { word = w; rest = us; whole = refl; token = rw e h }

statement_first : {l : ℕ} {ws rs : List Word} {s : Statement} → Derives (a statement) l ws rs s → First ws
statement_first (a_label e c s) = first _ e (record { comment = refl; integer = refl; boolean = refl; array = refl; switch = refl })
statement_first (an_assignment x b y) = let f = variable_first x in rw f.3 (first _ f.4 (record { comment = refl; integer = refl; boolean = refl; array = refl; switch = refl }))
statement_first (a_conditional lt e x c s) = first _ e (record { comment = refl; integer = refl; boolean = refl; array = refl; switch = refl })
statement_first (a_repetition lt e w b x c s) = first _ e (record { comment = refl; integer = refl; boolean = refl; array = refl; switch = refl })
statement_first (a_block lt e x c) = first _ e (record { comment = refl; integer = refl; boolean = refl; array = refl; switch = refl })
statement_first (a_jump e t w) = first _ e (record { comment = refl; integer = refl; boolean = refl; array = refl; switch = refl })
statement_first (a_switched_jump lt e t w o x c) = first _ e (record { comment = refl; integer = refl; boolean = refl; array = refl; switch = refl })
statement_first (an_input lt e t o x c) = first _ e (record { comment = refl; integer = refl; boolean = refl; array = refl; switch = refl })
statement_first (a_print lt e o x c) = first _ e (record { comment = refl; integer = refl; boolean = refl; array = refl; switch = refl })
statement_first (a_stop e) = first _ e (record { comment = refl; integer = refl; boolean = refl; array = refl; switch = refl })

-- An operator of the ranks from m on is taken.
pub operator_moves : (m : ℕ) (o : Operator) (x : Exp) (d b : ℕ) (k : Around (a (ranked m))) → m ≤ rank o
    → moved (at d (goto (operators m (rank o) x)) k) (operator_token o) b ≡ Some (at d (operator_script m x o) k)
operator_moves m Equivalence x d b k h = let e : leb m 1 ≡ true = le-leb m 1 h in rw e
operator_moves m Disjunction x d b k h = let e : leb m 2 ≡ true = le-leb m 2 h in rw e
operator_moves m Conjunction x d b k h = let e : leb m 3 ≡ true = le-leb m 3 h in rw e
operator_moves m (Additive s) x d b k h = let e : leb m 5 ≡ true = le-leb m 5 h in rw e
operator_moves m (Multiplicative s) x d b k h = let e : leb m 6 ≡ true = le-leb m 6 h in rw e

pub operator_opens : (o : Operator) → opens (operator_token o) ≡ false
operator_opens Equivalence = refl
operator_opens Disjunction = refl
operator_opens Conjunction = refl
operator_opens (Additive s) = refl
operator_opens (Multiplicative s) = refl

pub prefix_moves : (m : ℕ) (o : Prefix) (d b : ℕ) (k : Around (a (ranked m))) → m ≤ prefix_rank o
    → moved (at d (goto (begin (a (ranked m)))) k) (prefix_token o) b ≡ Some (at d (prefix_script m b o) k)
prefix_moves m Negation d b k h = let e : leb m 4 ≡ true = le-leb m 4 h in rw e
prefix_moves m (Signed s) d b k h = let e : leb m 5 ≡ true = le-leb m 5 h in rw e

pub prefix_opens : (o : Prefix) → opens (prefix_token o) ≡ false
prefix_opens Negation = refl
prefix_opens (Signed s) = refl

-- No operator of the operand's rank follows where none that binds more tightly than the operator before it does.
prefix_stops : (o : Prefix) (u : Operator) → rank u ≤ prefix_rank o → operand_rank o ≤ rank u → ⊥
prefix_stops Negation u h k = rank_not_4 u (omega arith)
prefix_stops (Signed s) u h k = omega arith

prefix_operand : (o : Prefix) → prefix_rank o ≤ operand_rank o
prefix_operand Negation = omega arith
prefix_operand (Signed s) = omega arith

pub separator_moves : (p : Part) (ts : Row (Tree p)) (d b : ℕ) (k : Around (row p)) → moved (at d (goto (rest p ts)) k) (mark (separator p)) b ≡ Some (at d (part (begin (a p)) λ t. goto (rest p (more ts t))) k)
separator_moves (ranked r) ts d b k = refl
separator_moves factor ts d b k = refl
separator_moves variable ts d b k = refl
separator_moves identifier ts d b k = refl
separator_moves bound ts d b k = refl
separator_moves group ts d b k = refl
separator_moves element ts d b k = refl
separator_moves statement ts d b k = refl
separator_moves item ts d b k = refl

pub separator_opens : (p : Part) → opens (mark (separator p)) ≡ false
separator_opens (ranked r) = refl
separator_opens factor = refl
separator_opens variable = refl
separator_opens identifier = refl
separator_opens bound = refl
separator_opens group = refl
separator_opens element = refl
separator_opens statement = refl
separator_opens item = refl

module _ (limit end : ℕ) where
  -- The machine reads the part from its beginning to its end.
  abbrev Reads : (p : Part) → ℕ → List Word → List Word → Tree p → Type 0
  Reads p l ws rs t = Stops p rs → (d : ℕ) (k : Around (a p)) → d + l ≤ limit → Leads limit end ws (at d (goto (begin (a p))) k) rs (at d (done t) k)

  -- What the machine does with the words of a phrase: it reads an expression of rank r, begun at any lower rank, up to
  -- the next operator that binds less tightly, and a row up to what may follow it.
  abbrev Runs : (p : Phrase) → ℕ → List Word → List Word → Value p → Type 0
  Runs (a (ranked r)) l ws rs x = (m : ℕ) → m ≤ r → head_rank rs ≤ r → NoSquare rs → (d : ℕ) (k : Around (a (ranked m))) → d + l ≤ limit
      → Leads limit end ws (at d (goto (begin (a (ranked m)))) k) rs (at d (goto (operators m r x)) k)
  Runs (a factor) l ws rs t = Reads factor l ws rs t
  Runs (a variable) l ws rs t = Reads variable l ws rs t
  Runs (a identifier) l ws rs t = Reads identifier l ws rs t
  Runs (a bound) l ws rs t = Reads bound l ws rs t
  Runs (a group) l ws rs t = Reads group l ws rs t
  Runs (a element) l ws rs t = Reads element l ws rs t
  Runs (a statement) l ws rs t = Reads statement l ws rs t
  Runs (a item) l ws rs t = Reads item l ws rs t
  Runs (row p) l ws rs ts = Stops p rs → (d : ℕ) (k : Around (row p)) → d + l ≤ limit → Leads limit end ws (at d (goto (begin (row p))) k) rs (at d (goto (rest p ts)) k)

  -- Operators are over where none of their ranks comes.
  operators_over : (r q : ℕ) (x : Exp) (ws : List Word) (d : ℕ) (k : Around (a (ranked r))) → ((o : Operator) → head_rank ws ≡ rank o → r ≤ rank o → rank o ≤ q → ⊥)
      → Leads limit end ws (at d (goto (operators r q x)) k) ws (at d (done x) k)
  operators_over r q x ws d k h =
      alike {q = at d (either (an_operator r q) (λ o _. operator_script r x o) (done x)) k} (λ t b. refl) refl then or_done (no_operator r q ws h)

  -- A tighter bound makes no difference where the next operator keeps to it.
  operators_alike : (m q r : ℕ) (x : Exp) (ws : List Word) (d : ℕ) (k : Around (a (ranked m))) → head_rank ws ≤ q → head_rank ws ≤ r
      → Leads limit end ws (at d (goto (operators m q x)) k) ws (at d (goto (operators m r x)) k)
  operators_alike m q r x ws d k h i = record { same = by ws (same_operator m q r ws h i) }
    where
      by : (ws : List Word) → heads (an_operator m q) ws ≡ heads (an_operator m r) ws → run limit end ws (at d (goto (operators m q x)) k) ≡ run limit end ws (at d (goto (operators m r x)) k)
      by [] e = refl
      by (w ∷ ws) e = ap (λ o. onward limit w.place (opens w.token) (λ s. run limit end ws s)
          (met d (levels_after w.token d) k (λ u. after k u w.token w.place) (if_found (λ o. operator_script m x o) (passes x) o))) e

  pub record Reading (p : Phrase) (l : ℕ) (ws rs : List Word) (t : Value p) : Type 0 where
    pub runs : Runs p l ws rs t

  reads : (p : Part) (l : ℕ) (ws rs : List Word) (t : Tree p) → Runs (a p) l ws rs t → Reads p l ws rs t
  reads (ranked r) l ws rs t f = λ s d k h. f r (omega arith) (omega (arith, s.0)) s.1 d k h
      then operators_over r r t rs d k (λ o e i j. omega (arith, rank_positive o, s.0))
  reads factor l ws rs t f = f
  reads variable l ws rs t f = f
  reads identifier l ws rs t f = f
  reads bound l ws rs t f = f
  reads group l ws rs t f = f
  reads element l ws rs t f = f
  reads statement l ws rs t f = f
  reads item l ws rs t f = f

  -- A part is read, and the rest of the script goes on with its tree.
  part_read : {p : Part} {q : Phrase} {l d : ℕ} {ws rs : List Word} {t : Tree p} {f : Tree p → Script q} {k : Around q} → Reading (a p) l ws rs t → Stops p rs → d + l ≤ limit
      → Leads limit end ws (at d (part (begin (a p)) f) k) rs (at d (f t) k)
  part_read {p} {q} {l} {d} {ws} {rs} {t} {f} {k} x s h = part_waits (fresh p) then (reads p l ws rs t x.runs s d (waiting (a p) d f k) h then handed_on)

  -- A row is read, and the rest of the script goes on with its trees.
  row_read : {p : Part} {q : Phrase} {l d : ℕ} {ws rs : List Word} {ts : Row (Tree p)} {f : Row (Tree p) → Script q} {k : Around q} → Reading (row p) l ws rs ts → Stops p rs
      → heads (the_mark (separator p)) rs ≡ None → d + l ≤ limit → Leads limit end ws (at d (part (begin (row p)) f) k) rs (at d (f ts) k)
  row_read {p} {q} {l} {d} {ws} {rs} {ts} {f} {k} x s n h =
      part_waits (fresh p) then (x.runs s d (waiting (row p) d f k) h
      then (alike {q = at d (either (the_mark (separator p)) (λ _ _. part (begin (a p)) λ t. goto (rest p (more ts t))) (done ts)) (waiting (row p) d f k)} (λ t b. refl) refl
      then (or_done n then handed_on)))

  -- Where the first word tells, a goal is read as another with the rest waiting.
  factor_as_variable : {ws : List Word} (d : ℕ) (k : Around (a factor)) → (w : Word) × (us : List Word) × (n : List ℕ) × (ws ≡ w ∷ us) × Is w (name n)
      → Leads limit end ws (at d (goto (begin (a factor))) k) ws (at d (goto (begin (a variable))) (waiting (a variable) d variable_factor k))
  factor_as_variable d k f = rw f.3 (alike_on f.4 refl)

  ranked_as_factor : (m : ℕ) {ws : List Word} (d : ℕ) (k : Around (a (ranked m))) → (w : Word) × (us : List Word) × (ws ≡ w ∷ us) × (prefix_of w.token ≡ None)
      → Leads limit end ws (at d (goto (begin (a (ranked m)))) k) ws (at d (goto (begin (a factor))) (waiting (a factor) d (behind_factor m) k))
  ranked_as_factor m d k f = rw f.2 (alike_on {w = f.0} refl
      (ap (λ o. met d (levels_after f.0.token d) k (λ u. after k u f.0.token f.0.place) (if_found (λ x. prefix_script m f.0.place x) (meets f.0.token f.0.place (within factor_script (behind_factor m))) (from_rank m o))) f.3
      ∙ within_moves d factor_script (behind_factor m) k f.0.token f.0.place tt))

  item_as_statement : {ws : List Word} (d : ℕ) (k : Around (a item)) → First ws
      → Leads limit end ws (at d (goto (begin (a item))) k) ws (at d (goto (begin (a statement))) (waiting (a statement) d statement_item k))
  item_as_statement d k f = rw f.whole (alike_on {w = f.word} refl
      (rw (f.token.comment, f.token.integer, f.token.boolean, f.token.array, f.token.switch) (within_moves d statement_script statement_item k f.word.token f.word.place tt)))

  -- The marks after which a part is over: neither an operator nor `[`.
  stop : {u t : Token} → u ≡ t → rank_of (operator_of t) ≡ 0 → found (the_mark OpenSquare) t ≡ None → (rank_of (operator_of u) ≡ 0) × (found (the_mark OpenSquare) u ≡ None)
  stop e h i = (ap (λ u. rank_of (operator_of u)) e ∙ h, ap (λ u. found (the_mark OpenSquare) u) e ∙ i)

  pub runs : {p : Phrase} {l : ℕ} {ws rs : List Word} {t : Value p} → Derives p l ws rs t → Reading p l ws rs t
  runs (alone {p = p} {l = l} {ws = ws} {rs = rs} {t = t} x) = record {
    runs = λ s d k h.
        alike {q = at d (part (begin (a p)) (row_rest p)) k} (λ t b. refl) refl then part_read (runs x) s h;
  }
  runs (another {p = p} {s = w} {ms = ms} {ts = ts} xs e x) = record {
    runs = λ s d k h.
        (runs xs).runs (separator_stops p w ms e) d k h then (takes_word e (separator_moves p ts d w.place k) (separator_opens p) then part_read (runs x) s h);
  }
  runs (a_name e) = record { runs = λ s d k h. takes_word e refl refl }
  runs (a_whole e) = record { runs = λ s d k h. takes_word e refl refl then or_done s }
  runs (an_indexed lt e o x c) = record {
    runs = λ s d k h.
        takes_word e refl refl then (takes_opening o refl (omega arith) then (part_read (runs x) (stop c refl refl) (omega arith) then takes_word c refl refl));
  }
  runs (a_number e) = record { runs = λ s d k h. takes_word e refl refl }
  runs (a_value x) = record { runs = λ s d k h. factor_as_variable d k (variable_first x) then ((runs x).runs s d (waiting (a variable) d variable_factor k) h then handed_on) }
  runs (in_brackets lt o x c) = record {
    runs = λ s d k h.
        takes_opening o refl (omega arith) then (part_read (runs x) (stop c refl refl) (omega arith) then takes_word c refl refl);
  }
  runs (a_comparison lt o x r y c) = record {
    runs = λ s d k h.
        takes_opening o refl (omega arith) then (part_read (runs x) (stop r refl refl) (omega arith)
        then (takes_word r refl refl then (part_read (runs y) (stop c refl refl) (omega arith) then takes_word c refl refl)));
  }
  runs (a_factor {r = r} {rs = rs} {x = y} le x) = record {
    runs = λ m i j s d k h.
        ranked_as_factor m d k (factor_first x) then ((runs x).runs s d (waiting (a factor) d (behind_factor m) k) h
        then (handed_on then operators_alike m 7 r y rs d k (omega (arith, head_at_most_6 rs)) j));
  }
  runs (an_operand {r = r} {rs = rs} {x = y} x) = record { runs = λ m i j s d k h. (runs x).runs m (omega arith) (omega arith) s d k h then operators_alike m (suc r) r y rs d k (omega arith) j }
  runs (operated {o = o} {w = w} {rs = rs} {x = x₁} {y = y₁} x e y) = record {
    runs = λ m i j s d k h.
        (runs x).runs m i (omega (arith, ap (λ t. rank_of (operator_of t)) e ∙ ap rank_of (operator_again o))) (ap (λ t. found (the_mark OpenSquare) t) e ∙ operator_no_square o) d k h
        then (takes_word e (operator_moves m o x₁ d w.place k i) (operator_opens o)
        then (part_waits (fresh (ranked (suc (rank o))))
        then ((runs y).runs (suc (rank o)) (omega arith) (omega arith) s d (waiting (a (ranked (suc (rank o)))) d (λ z. goto (operators m (rank o) (joined o x₁ z))) k) h
        then (operators_over (suc (rank o)) (suc (rank o)) y₁ rs d (waiting (a (ranked (suc (rank o)))) d (λ z. goto (operators m (rank o) (joined o x₁ z))) k) (λ u f g i. omega arith)
        then handed_on))));
  }
  runs (after_prefix {o = o} {w = w} {rs = rs} {x = y} e x) = record {
    runs = λ m i j s d k h.
        takes_word e (prefix_moves m o d w.place k i) (prefix_opens o)
        then (part_waits (fresh (ranked (operand_rank o)))
        then ((runs x).runs (operand_rank o) (omega arith) (omega (arith, prefix_operand o)) s d (waiting (a (ranked (operand_rank o))) d (λ z. goto (operators m (prefix_rank o) (prefixed o w.place z))) k) h
        then (operators_over (operand_rank o) (operand_rank o) y rs d (waiting (a (ranked (operand_rank o))) d (λ z. goto (operators m (prefix_rank o) (prefixed o w.place z))) k) (λ u f g i. prefix_stops o u (omega arith) g)
        then handed_on)));
  }
  runs (a_single x) = record { runs = λ s d k h. alike {q = at d (part (begin (a exp)) element_rest) k} (λ t b. refl) refl then (part_read (runs x) (s.0, s.1) h then or_done s.2) }
  runs (a_progression lt x o y c z) = record {
    runs = λ s d k h. alike {q = at d (part (begin (a exp)) element_rest) k} (λ t b. refl) refl
        then (part_read (runs x) (stop o refl refl) h then (takes_opening o refl (omega arith) then (part_read (runs y) (stop c refl refl) (omega arith)
        then (takes_word c refl refl then part_read (runs z) (s.0, s.1) h))));
  }
  runs (a_label e c x) = record { runs = λ s d k h. takes_word e refl refl then (takes_word c refl refl then part_read (runs x) s h) }
  runs (an_assignment (a_whole e) b x) = record { runs = λ s d k h. takes_word e refl refl then (takes_word b refl refl then part_read (runs x) s h) }
  runs (an_assignment (an_indexed lt e o i c) b x) = record {
    runs = λ s d k h.
        takes_word e refl refl then (takes_opening o refl (omega arith) then (part_read (runs i) (stop c refl refl) (omega arith)
        then (takes_word c refl refl then (takes_word b refl refl then part_read (runs x) s h))));
  }
  runs (a_conditional lt i x c y) = record {
    runs = λ s d k h.
        takes_opening i refl (omega arith) then (part_read (runs x) (stop c refl refl) (omega arith) then (takes_word c refl refl then (part_read (runs y) s (omega arith) then done_alike)));
  }
  runs (a_repetition lt f e b x c y) = record {
    runs = λ s d k h.
        takes_opening f refl (omega arith) then (takes_word e refl refl then (takes_word b refl refl
        then (row_read (runs x) ((stop c refl refl).0, (stop c refl refl).1, ap (λ u. found (the_mark OpenRound) u) c) (ap (λ u. found (the_mark Comma) u) c) (omega arith)
        then (takes_word c refl refl then (part_read (runs y) s (omega arith) then done_alike)))));
  }
  runs (a_block lt b x e) = record {
    runs = λ s d k h.
        takes_opening b refl (omega arith) then (row_read (runs x) (stop e refl refl) (ap (λ u. found (the_mark Semicolon) u) e) (omega arith) then takes_word e refl refl);
  }
  runs (a_jump g t e) = record { runs = λ s d k h. takes_word g refl refl then (takes_word t refl refl then (takes_word e refl refl then or_done s.1)) }
  runs (a_switched_jump lt g t e o x c) = record {
    runs = λ s d k h.
        takes_word g refl refl then (takes_word t refl refl then (takes_word e refl refl then (takes_opening o refl (omega arith)
        then (part_read (runs x) (stop c refl refl) (omega arith) then takes_word c refl refl))));
  }
  runs (an_input lt i t o x c) = record {
    runs = λ s d k h.
        takes_word i refl refl then (takes_word t refl refl then (takes_opening o refl (omega arith) then (part_read (runs x) (stop c refl refl).1 (omega arith) then takes_word c refl refl)));
  }
  runs (a_print lt p o x c) = record {
    runs = λ s d k h.
        takes_word p refl refl then (takes_opening o refl (omega arith) then (row_read (runs x) (stop c refl refl) (ap (λ u. found (the_mark Comma) u) c) (omega arith) then takes_word c refl refl));
  }
  runs (a_stop e) = record { runs = λ s d k h. takes_word e refl refl }
  runs (a_signed_bound e f) = record { runs = λ s d k h. takes_word e refl refl then takes_word f refl refl }
  runs (a_plain_bound e) = record { runs = λ s d k h. takes_word e refl refl }
  runs (a_group lt xs o x c y e) = record {
    runs = λ s d k h. alike {q = at d (part (begin (row identifier)) group_bounds) k} (λ t b. refl) refl
        then (row_read (runs xs) tt (ap (λ u. found (the_mark Comma) u) o) h then (takes_opening o refl (omega arith) then (part_read (runs x) tt (omega arith)
        then (takes_word c refl refl then (part_read (runs y) tt (omega arith) then takes_word e refl refl)))));
  }
  runs (a_comment e) = record { runs = λ s d k h. takes_word e refl refl }
  runs (integers lt e o x c) = record {
    runs = λ s d k h.
        takes_word e refl refl then (takes_opening o refl (omega arith) then (row_read (runs x) tt (ap (λ u. found (the_mark Comma) u) c) (omega arith) then takes_word c refl refl));
  }
  runs (booleans lt e o x c) = record {
    runs = λ s d k h.
        takes_word e refl refl then (takes_opening o refl (omega arith) then (row_read (runs x) tt (ap (λ u. found (the_mark Comma) u) c) (omega arith) then takes_word c refl refl));
  }
  runs (arrays lt e o x c) = record {
    runs = λ s d k h.
        takes_word e refl refl then (takes_opening o refl (omega arith) then (row_read (runs x) tt (ap (λ u. found (the_mark Comma) u) c) (omega arith) then takes_word c refl refl));
  }
  runs (a_switch lt e f b o x c) = record {
    runs = λ s d k h.
        takes_word e refl refl then (takes_word f refl refl then (takes_word b refl refl
        then (takes_opening o refl (omega arith) then (row_read (runs x) tt (ap (λ u. found (the_mark Comma) u) c) (omega arith) then takes_word c refl refl))));
  }
  runs (an_action x) = record { runs = λ s d k h. item_as_statement d k (statement_first x) then ((runs x).runs s d (waiting (a statement) d statement_item k) h then handed_on) }

-- A sentence is read to its tree wherever the limit allows its levels.
pub sentence_read : (limit end l : ℕ) (ws : List Word) (t : Program) → l ≤ limit → Derives program l ws [] t → run limit end ws initial ≡ tree t
sentence_read limit end l ws t h x = ((runs limit end x).runs (refl, refl) 0 nothing (omega arith)).same
