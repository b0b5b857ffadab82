-- Where the code of a position stands, as a relation: the code of a statement stands between two places; what comes after a
-- statement, a continuation, stands at a place, and the hidden cells hold the numbers of the elements in use. Nobody has to
-- believe this file: it only carries the proof from step to step.
use Rattle.std.specs.Prelude.{◌≡◌, ℕ, suc, ◌+◌, ◌<◌, ◌≤◌, Bool, true, ◌||◌, List, [], ◌∷◌, length, drop, pos, Some, ◌≢◌}
use Rattle.std.specs.List.{slice_get}
use Rattle.grammar.specs.Tree.{Exp, Variable, whole, indexed, Element, single, progression, Statement, labelled, conditional, repeated, assigned, go, switched, input, printed, stop, sequence}
use Rattle.symbols.specs.declared.value_type.ValueType.{ValueType}
use Rattle.symbols.specs.declared.value_type.ValueType.TheVariants.{Boolean}
use Rattle.figures.specs.Kinds.{Kind}
use Rattle.code.specs.declared.operations.Operation.TheVariants.{Halt, Load, Jump, Table, Rows, Here}
use Rattle.meaning.specs.Names.{Names}
use Rattle.meaning.specs.Positions.{Loop, Continuation, nothing, rest, turn, Position, end, at_assignment, at_go, at_switch, at_if, at_input, at_print, at_stop, at_element, at_addition, at_test}
use Rattle.meaning.specs.Laws.{has_label}
use Rattle.translator.specs.Generator.{Entry, entry, plain, all_of, exp_size, type_of, cell_at, posts_size, posts_code, first_size, addition_size, elements_size, elements_code, turns_code, size, loops, code}
use Rattle.translator.specs.Translation.{table_code}
use Rattle.translator.specs.Fits.{ExtentFits, ExpFits}

-- Every name has its cells among the v named ones; a figure is taken into no Boolean name; a for has at most 2,048 elements.
abbrev pub VariableFits : Names → ℕ → Variable → Type 0
VariableFits names v (whole x) = ExtentFits v (names.extent x.letters) × (cell_at names x < v) × ((names.extent x.letters).count ≡ 1) × ((names.extent x.letters).low ≡ pos 0)
VariableFits names v (indexed x i) = ExtentFits v (names.extent x.letters) × ExpFits names v i

abbrev pub ExpsFit : Names → ℕ → List Exp → Type 0
ExpsFit names v [] = Unit {0}
ExpsFit names v (e ∷ es) = ExpFits names v e × ExpsFit names v es

abbrev pub ElementFits : Names → ℕ → Element → Type 0
ElementFits names v (single e) = ExpFits names v e
ElementFits names v (progression a s b) = ExpFits names v a × ExpFits names v s × ExpFits names v b

abbrev pub ElementsFit : Names → ℕ → List Element → Type 0
ElementsFit names v [] = Unit {0}
ElementsFit names v (e ∷ es) = ElementFits names v e × ElementsFit names v es

abbrev pub variable_type : Names → Variable → ValueType
variable_type names (whole x) = type_of names x
variable_type names (indexed x i) = type_of names x

abbrev pub Fits : Names → ℕ → Statement → Type 0
Fits names v (labelled l s) = Fits names v s
Fits names v (conditional p e s) = ExpFits names v e × Fits names v s
Fits names v (repeated p x es s) = (cell_at names x < v) × ElementsFit names v (all_of es) × Fits names v s × (length (all_of es) ≤ 2048)
Fits names v (assigned x e) = VariableFits names v x × ExpFits names v e
Fits names v (go p l) = Unit {0}
Fits names v (switched p x e) = ExpFits names v e × (1 ≤ length (names.labels x.letters))
Fits names v (input p x) = VariableFits names v x × (variable_type names x ≢ Boolean)
Fits names v (printed p es) = ExpsFit names v (all_of es)
Fits names v (stop p) = Unit {0}
Fits names v (sequence s t) = Fits names v s × Fits names v t

-- Every label of a statement whose code begins at a stands where it is looked for.
abbrev pub LabelsPlaced : Names → (List ℕ → ℕ) → ℕ → Statement → Type 0
LabelsPlaced names label_at a (labelled l s) = (label_at l.letters ≡ a) × LabelsPlaced names label_at a s
LabelsPlaced names label_at a (conditional p e s) = LabelsPlaced names label_at (a + (exp_size e + 2)) s
LabelsPlaced names label_at a (repeated p x es s) = LabelsPlaced names label_at (a + elements_size names (type_of names x) (all_of es)) s
LabelsPlaced names label_at a (assigned x e) = Unit {0}
LabelsPlaced names label_at a (go p l) = Unit {0}
LabelsPlaced names label_at a (switched p x e) = Unit {0}
LabelsPlaced names label_at a (input p x) = Unit {0}
LabelsPlaced names label_at a (printed p es) = Unit {0}
LabelsPlaced names label_at a (stop p) = Unit {0}
LabelsPlaced names label_at a (sequence s t) = LabelsPlaced names label_at a s × LabelsPlaced names label_at (a + size names s) t

-- Every go to names a label that is seen: one outside all fors, or one in the body of a for around it.
abbrev pub AllSeen : (List ℕ → Bool) → List (List ℕ) → Type 0
AllSeen seen [] = Unit {0}
AllSeen seen (l ∷ ls) = (seen l ≡ true) × AllSeen seen ls

abbrev pub seen_inside : Statement → (List ℕ → Bool) → List ℕ → Bool
seen_inside body seen l = has_label l body || seen l

abbrev pub Sees : Names → (List ℕ → Bool) → Statement → Type 0
Sees names seen (labelled l s) = Sees names seen s
Sees names seen (conditional p e s) = Sees names seen s
Sees names seen (repeated p x es s) = Sees names (seen_inside s seen) s
Sees names seen (assigned x e) = Unit {0}
Sees names seen (go p l) = seen l.letters ≡ true
Sees names seen (switched p x e) = AllSeen seen (names.labels x.letters)
Sees names seen (input p x) = Unit {0}
Sees names seen (printed p es) = Unit {0}
Sees names seen (stop p) = Unit {0}
Sees names seen (sequence s t) = Sees names seen s × Sees names seen t

-- The code c of a text, with v named and m cells in all.
module _ {V : Type 0} (kind : Kind V) (c : List Entry) (names : Names) (label_at table_at : List ℕ → ℕ) (halt_at v m : ℕ) (outer : List ℕ → Bool) where
  -- The code of s stands from a to b; its hidden cells begin at h.
  pub record Placed (seen : List ℕ → Bool) (h a : ℕ) (s : Statement) (b : ℕ) : Type 0 where
    pub entries : drop a c ≡ code names label_at table_at halt_at h a s (drop b c)
    pub long : a + size names s ≡ b
    pub before : b ≤ halt_at
    pub fits : Fits names v s
    pub after_named : v ≤ h
    pub hidden : h + loops names s ≤ m
    pub labels : LabelsPlaced names label_at a s
    pub sees : Sees names seen s

  -- A for from its i-th element e on, which stands at a; its body stands at b, what follows the body at d, the way out at o;
  -- it has n elements in all.
  pub record LoopPlaced (seen : List ℕ → Bool) (h : ℕ) (l : Loop) (i : ℕ) (e : Element) (es : List Element) (a b d o n : ℕ) : Type 0 where
    pub elements : drop a c ≡ elements_code names l.place l.control h b o i a (e ∷ es) (drop b c)
    pub long : a + elements_size names (type_of names l.control) (e ∷ es) ≡ b
    pub body : Placed (seen_inside l.body seen) (suc h) b l.body d
    pub behind : drop d c ≡ entry Load h ∷ entry Table (d + 3) ∷ entry Jump o ∷ entry Rows n ∷ drop (d + 4) c
    pub rows : drop (d + 3 + i) c ≡ turns_code names l.place l.control h b o a (e ∷ es) (drop o c)
    pub over : d + 4 + n ≡ o
    pub out : drop o c ≡ plain Here ∷ drop (suc o) c
    pub count : i + length es ≡ n
    pub some : 1 ≤ i
    pub few : n ≤ 2048
    pub control_fits : cell_at names l.control < v
    pub elements_fit : ElementsFit names v (e ∷ es)
    pub after_named : v ≤ h
    pub hidden : h < m

  -- The hidden cell h holds the number i.
  pub record Holds (cells : List V) (h i : ℕ) : Type 0 where
    pub figure : V
    pub there : slice_get cells h ≡ Some figure
    pub is : kind.nearest figure ≡ pos i

  -- What comes after a statement stands at a. The hidden cells of the fors around are those below hb.
  pub data Continues (cells : List V) : (List ℕ → Bool) → ℕ → ℕ → Continuation → Type 0 where
    ends : {seen : List ℕ → Bool} {hb a : ℕ} → seen ≡ outer → a ≡ halt_at → Continues cells seen hb a nothing
    passes : {seen : List ℕ → Bool} {hb a : ℕ} {k : Continuation}
        → drop a c ≡ plain Here ∷ drop (suc a) c → Continues cells seen hb (suc a) k → Continues cells seen hb a k
    goes : {seen : List ℕ → Bool} {hb a : ℕ} {s : Statement} {k : Continuation} (h b : ℕ)
        → Placed seen h a s b → hb ≤ h → Continues cells seen hb b k → Continues cells seen hb a (rest s k)
    again : {seen : List ℕ → Bool} {hb d : ℕ} {l : Loop} {e : Element} {es : List Element} {k : Continuation}
        (around : List ℕ → Bool) (h hb' i a b o n : ℕ) → seen ≡ seen_inside l.body around
        → LoopPlaced around h l i e es a b d o n → Holds cells h i → h < hb → hb' ≤ h
        → Continues cells around hb' (suc o) k → Continues cells seen hb d (turn l e es k)

  -- A step of the statement s, and a step of a for.
  pub record AtStatement (cells : List V) (a : ℕ) (s : Statement) (k : Continuation) : Type 0 where
    pub seen : List ℕ → Bool
    pub h : ℕ
    pub hb : ℕ
    pub b : ℕ
    pub placed : Placed seen h a s b
    pub low : hb ≤ h
    pub continues : Continues cells seen hb b k

  pub record AtLoop (cells : List V) (l : Loop) (e : Element) (es : List Element) (k : Continuation) : Type 0 where
    pub seen : List ℕ → Bool
    pub h : ℕ
    pub hb : ℕ
    pub i : ℕ
    pub a : ℕ
    pub b : ℕ
    pub d : ℕ
    pub o : ℕ
    pub n : ℕ
    pub placed : LoopPlaced seen h l i e es a b d o n
    pub low : hb ≤ h
    pub continues : Continues cells seen hb (suc o) k

  pub record AtPrint (cells : List V) (p a : ℕ) (e : Exp) (es : List Exp) (k : Continuation) : Type 0 where
    pub seen : List ℕ → Bool
    pub hb : ℕ
    pub b : ℕ
    pub entries : drop a c ≡ posts_code names p (e ∷ es) (drop b c)
    pub long : a + posts_size names (e ∷ es) ≡ b
    pub fits : ExpsFit names v (e ∷ es)
    pub continues : Continues cells seen hb b k

  -- The position stands at a.
  abbrev pub Stands : List V → ℕ → Position → Type 0
  Stands cells a end = a ≡ halt_at
  Stands cells a (at_assignment x e k) = AtStatement cells a (assigned x e) k
  Stands cells a (at_go p l k) = AtStatement cells a (go p l) k
  Stands cells a (at_switch p x e k) = AtStatement cells a (switched p x e) k
  Stands cells a (at_if p e s k) = AtStatement cells a (conditional p e s) k
  Stands cells a (at_input p x k) = AtStatement cells a (input p x) k
  Stands cells a (at_print p e es k) = AtPrint cells p a e es k
  Stands cells a (at_stop p) = drop a c ≡ code names label_at table_at halt_at 0 a (stop p) (drop (a + 2) c)
  Stands cells a (at_element l e es k) = (f : AtLoop cells l e es k) × (a ≡ f.a)
  Stands cells a (at_addition l f s b es k) =
      (x : AtLoop cells l (progression f s b) es k) × Holds cells x.h x.i × (a ≡ x.a + first_size names (type_of names l.control) f)
  Stands cells a (at_test l f s b es k) =
      (x : AtLoop cells l (progression f s b) es k) × Holds cells x.h x.i
      × (a ≡ x.a + first_size names (type_of names l.control) f + addition_size names (type_of names l.control) s)

-- The code of a whole text: its HALT, the tables of its switches, and its statements from place 0 on.
pub record LaidOut (c : List Entry) (names : Names) (label_at table_at : List ℕ → ℕ) (halt_at : ℕ) : Type 0 where
  pub halts : drop halt_at c ≡ plain Halt ∷ drop (suc halt_at) c
  pub tables : (x : List ℕ) → 1 ≤ length (names.labels x)
      → (r : List Entry) × (drop (table_at x) c ≡ table_code label_at (names.labels x) r) × (halt_at < table_at x)
