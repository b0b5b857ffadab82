-- The code of statements passes the check.
use Rattle.std.proofs.Common.{◌≡◌, ℕ, suc, ◌+◌, ◌<◌, ◌≤◌, Bool, List, [], ◌∷◌, ◌++◌, length, drop, Some, sym, refl, ap, ◌∙◌, subst, arith}
use Rattle.std.specs.List.{AllByRecursion as All}
use Rattle.grammar.specs.Tree.{Row, one, more, Name, Exp, whole, indexed, Element, Statement, labelled, conditional, repeated, assigned, go, switched, input, printed, stop, sequence}
use Rattle.symbols.specs.declared.value_type.ValueType.{ValueType}
use Rattle.symbols.specs.declared.value_type.ValueType.TheVariants.{Untyped, Integer, Boolean}
use Rattle.symbols.specs.Occurrences.{as_target, as_variable, as_element, Occurrence, at, each, in_exp, in_element, in_statement}
use Rattle.symbols.specs.Laws.{here, later}
use Rattle.symbols.proofs.Lists.{in_left, in_right}
use Rattle.figures.specs.Kinds.{Kind}
use Rattle.code.specs.declared.operations.Operation.TheVariants.{Halt, Test, Put, Take, TakeW, Post, Rows, Here}
use Rattle.code.specs.declared.sizes.Sizes.{Sizes}
use Rattle.code.specs.Codes.{operation_at}
use Rattle.code.specs.WellFormed.{on_later_halt}
use Rattle.meaning.specs.Names.{Names}
use Rattle.meaning.specs.Positions.{first, later as Later-of}
use Rattle.meaning.specs.Machine.{variable_place}
use Rattle.translator.specs.Generator.{Entry, entry, plain, all_of, ready_size, exp_size, type_of, cell_at, cells_at, posts_size, posts_code, elements_size, size, code, take_operation}
use Rattle.translator.specs.Translation.{posts_depth, elements_depth, depth, table_code}
use Rattle.translator.specs.Fits.{ExtentFits}
use Rattle.translator.specs.Limits.{ExpsSmall, Small}
use Rattle.translator.specs.Compiled.{ExpsFit, Placed, LaidOut}
use Rattle.translator.proofs.Placing.{second, first_of, labelled_part, behind_if, governed, loop_placed}
use Rattle.translator.proofs.Resuming.{Begins, element_begins}
use Rattle.translator.proofs.Bridge.{operation_there}
use Rattle.translator.proofs.Passing.{operations_of, Passes, straight, mark, here as here_passes, jump, branch, table}
use Rattle.translator.proofs.PassingExpressions.{Packs, Uses, descriptor_names, some_figure, ready_passes, const_passes}
use Rattle.translator.proofs.PassingLoops.{Sized, room, lands_mark, lands_here, figures, stores, elements_pass, behind_passes}

-- What holds of each part of a row holds of each of its list.
all_more : {A : Type 0} (P : A → Type 0) (xs : List A) (x : A) → All P xs → P x → All P (xs ++ (x ∷ []))
all_more P [] x a p = (p, tt)
all_more P (y ∷ xs) x a p = (a.0, all_more P xs x a.1 p)

row_uses : {A : Type 0} (c : List Entry) (names : Names) (label_at : List ℕ → ℕ) (f : A → List Occurrence) (xs : Row A)
    → Uses c names label_at (each f xs) → All (λ y. Uses c names label_at (f y)) (all_of xs)
row_uses c names label_at f (one x) uses = (uses, tt)
row_uses c names label_at f (more xs x) uses =
    all_more (λ y. Uses c names label_at (f y)) (all_of xs) x (row_uses c names label_at f xs (λ o i. uses o (in_left o (each f xs) (f x) i))) (λ o i. uses o (in_right o (each f xs) (f x) i))

-- The table of a switch begins with its ROWS.
pub table_begins : (c : List Entry) (label_at : List ℕ → ℕ) (k : ℕ) (ls : List (List ℕ)) (r : List Entry) → 1 ≤ length ls → drop k c ≡ table_code label_at ls r → operation_at (operations_of c) k ≡ Some Rows
table_begins c label_at k [] r some e = absurd (omega arith)
table_begins c label_at k (l ∷ ls) r some e = operation_there k c (entry Rows (length (l ∷ ls))) _ e

module _ {V : Type 0} (kind : Kind V) (c : List Entry) (names : Names) (label_at table_at : List ℕ → ℕ) (halt_at v m : ℕ) (outer : List ℕ → Bool) where
  abbrev P : (List ℕ → Bool) → ℕ → ℕ → Statement → ℕ → Type 0
  P = Placed kind c names label_at table_at halt_at v m outer

  -- The code of a statement begins with a MARK.
  pub statement_begins : (s : Statement) {seen : List ℕ → Bool} {h a b : ℕ} → P seen h a s b → Begins c a
  statement_begins (labelled l s) q = statement_begins s (labelled_part kind c names label_at table_at halt_at v m outer q)
  statement_begins (conditional p e s) q = (p, _, q.entries)
  statement_begins (repeated p x es s) q =
      element_begins kind c names label_at table_at halt_at v m outer (first es) (Later-of es) (loop_placed kind c names label_at table_at halt_at v m outer q).0
  statement_begins (assigned x e) q = (variable_place x, _, q.entries)
  statement_begins (go p l) q = (p, _, q.entries)
  statement_begins (switched p x e) q = (p, _, q.entries)
  statement_begins (input p x) q = (p, _, q.entries)
  statement_begins (printed p es) q = (p, _, q.entries)
  statement_begins (stop p) q = (p, _, q.entries)
  statement_begins (sequence s t) q = statement_begins s (first_of kind c names label_at table_at halt_at v m outer q)

  module _ (sizes : Sizes) (sized : Sized c halt_at v sizes) (wide : m ≤ sizes.cells) (lays : LaidOut c names label_at table_at halt_at) where
    abbrev os : List ℕ
    os = operations_of c

    abbrev T : ℕ → ℕ → List Entry → Type 0
    T = Passes sizes (operations_of c)

    roomy : (i : ℕ) → i < halt_at → suc i < length (operations_of c)
    roomy = room c names label_at halt_at v sizes sized

    posts_pass : (p : ℕ) (es : List Exp) (a q : ℕ) (r : List Entry) → p ≤ 8191 → ExpsFit names v es → ExpsSmall es → All (λ y. Uses c names label_at (in_exp y)) es
        → a + posts_size names es ≡ q → q ≤ halt_at → posts_depth es ≤ sizes.depth → T q 0 r → T a 0 (posts_code names p es r)
    posts_pass p [] a q r place fits small uses to before deep rest = let same : q ≡ a = omega arith in subst (λ (k : ℕ). Passes sizes (operations_of c) k 0 r) same rest
    posts_pass p (e ∷ es) a q r place fits small uses to before deep rest =
        let k = suc a + exp_size e in
        let some = some_figure e in
        mark sizes os p a (suc a) place (roomy a (omega arith)) refl
        (figures c names label_at halt_at v sizes sized e (suc a) k 0 _ fits.0 small.0 uses.0 refl (omega arith) (omega arith)
        (straight sizes os Post 0 k (suc k) 1 0 refl refl (omega arith) (omega arith) (omega arith) (roomy k (omega arith)) refl
        (posts_pass p es (suc k) q r place fits.1 small.1 uses.1 (omega arith) before (omega arith) rest)))

    take_passes : (t : ValueType) (x : Name) (pc q : ℕ) (r : List Entry) → ExtentFits v (names.extent x.letters) → Packs (names.extent x.letters)
        → suc pc ≡ q → q ≤ halt_at → T q 0 r → T pc 1 (entry (take_operation names t) (cells_at names x) ∷ r)
    take_passes Untyped x pc q r fits packs to before rest =
        straight sizes os Take (cells_at names x) pc q 1 0 refl (descriptor_names v sizes.cells (names.extent x.letters) fits packs sized.wide) (omega arith) (omega arith) (omega arith) (roomy pc (omega arith)) to rest
    take_passes Integer x pc q r fits packs to before rest =
        straight sizes os TakeW (cells_at names x) pc q 1 0 refl (descriptor_names v sizes.cells (names.extent x.letters) fits packs sized.wide) (omega arith) (omega arith) (omega arith) (roomy pc (omega arith)) to rest
    take_passes Boolean x pc q r fits packs to before rest =
        straight sizes os Take (cells_at names x) pc q 1 0 refl (descriptor_names v sizes.cells (names.extent x.letters) fits packs sized.wide) (omega arith) (omega arith) (omega arith) (roomy pc (omega arith)) to rest

    pub statement_passes : (s : Statement) {seen : List ℕ → Bool} {h a b : ℕ} → P seen h a s b → Small s → Uses c names label_at (in_statement s) → depth s ≤ sizes.depth
        → T b 0 (drop b c) → T a 0 (drop a c)
    statement_passes (labelled l s) q small uses deep rest = statement_passes s (labelled_part kind c names label_at table_at halt_at v m outer q) small (λ o i. uses o (later i)) deep rest
    statement_passes (conditional p e s) {seen} {h} {a} {b} q small uses deep rest =
        let g = governed kind c names label_at table_at halt_at v m outer q in
        let f = behind_if kind c names label_at table_at halt_at v m outer q in
        let k = a + (exp_size e + 2) in
        let d = k + size names s in
        let end = q.before in
        let over = f.1 in
        let inner : T k 0 (drop k c) =
        statement_passes s g small.2 (λ o i. uses o (in_right o (in_exp e) (in_statement s) i)) (omega arith)
        (subst (T d 0) (sym f.0) (here_passes sizes os d b (roomy d (omega arith)) (omega arith) rest)) in
        let body : T k 0 (code names label_at table_at halt_at h k s (plain Here ∷ drop b c)) =
        subst (T k 0) (g.entries ∙ ap (code names label_at table_at halt_at h k s) f.0) inner in
        subst (T a 0) (sym q.entries)
        (mark sizes os p a (suc a) small.0 (roomy a (omega arith)) refl
        (figures c names label_at halt_at v sizes sized e (suc a) (suc a + exp_size e) 0 _ q.fits.0 small.1 (λ o i. uses o (in_left o (in_exp e) (in_statement s) i)) refl (omega arith) (omega arith)
        (branch sizes os sized.long d (suc a + exp_size e) k (lands_here c names label_at halt_at v sizes sized _ d _ (omega arith) f.0) (roomy (suc a + exp_size e) (omega arith)) (omega arith) body)))
    statement_passes (repeated p x es s) {seen} {h} {a} {b} q small uses deep rest =
        let lp = loop_placed kind c names label_at table_at halt_at v m outer q in
        let l = lp.0 in
        let over = lp.1 in
        let end = q.before in
        let k = a + elements_size names (type_of names x) (all_of es) in
        let d = k + size names s in
        let o = d + 4 + length (all_of es) in
        let ending : T (suc o) 0 (drop (suc o) c) = subst (λ (i : ℕ). Passes sizes (operations_of c) i 0 (drop i c)) (sym over) rest in
        let out : T o 0 (drop o c) = subst (T o 0) (sym l.out) (here_passes sizes os o (suc o) (roomy o (omega arith)) refl ending) in
        let deep_elements : elements_depth (all_of es) ≤ sizes.depth = omega arith in
        let tail : T d 0 (drop d c) =
        behind_passes kind c names label_at table_at halt_at v m outer sizes sized wide (first es) (Later-of es) l (omega arith) (at_least_one (all_of es) deep_elements) out in
        let body : T k 0 (drop k c) =
        statement_passes s l.body small.3 (λ y i. uses y (later (in_right y (each in_element es) (in_statement s) i))) (omega arith) tail in
        elements_pass kind c names label_at table_at halt_at v m outer sizes sized wide (first es) (Later-of es) l small.0 (statement_begins s l.body) small.2
        (row_uses c names label_at in_element es (λ y i. uses y (later (in_left y (each in_element es) (in_statement s) i)))) deep_elements body
      where
        at_least_one : (ys : List Element) → elements_depth ys ≤ sizes.depth → 1 ≤ sizes.depth
        at_least_one [] le = le
        at_least_one (y ∷ ys) le = at_least_one ys (omega arith)
    statement_passes (assigned (whole x) e) {seen} {h} {a} {b} q small uses deep rest =
        let k = suc a + exp_size e in
        let j = k + ready_size (type_of names x) in
        let some = some_figure e in
        let end = q.before in
        let long = q.long in
        let w = sized.wide in
        let below = q.fits.0.1 in
        subst (T a 0) (sym q.entries)
        (mark sizes os x.place a (suc a) small.0 (roomy a (omega arith)) refl
        (figures c names label_at halt_at v sizes sized e (suc a) k 0 _ q.fits.1 small.2 (λ o i. uses o (later i)) refl (omega arith) (omega arith)
        (ready_passes c names label_at sizes os v halt_at sized.wide roomy (type_of names x) k j 0 _ refl (omega arith) (omega arith)
        (stores c names label_at halt_at v sizes sized (cell_at names x) j b 0 _ (omega arith) (omega arith) (omega arith) (omega arith) rest))))
    statement_passes (assigned (indexed x i) e) {seen} {h} {a} {b} q small uses deep rest =
        let k = suc a + exp_size i in
        let k' = suc k + exp_size e in
        let j = k' + ready_size (type_of names x) in
        let some = some_figure i in
        let end = q.before in
        let long = q.long in
        let cells = descriptor_names v sizes.cells (names.extent x.letters) q.fits.0.0 (uses (at as_element x) here) sized.wide in
        subst (T a 0) (sym q.entries)
        (mark sizes os x.place a (suc a) small.0 (roomy a (omega arith)) refl
        (figures c names label_at halt_at v sizes sized i (suc a) k 0 _ q.fits.0.1 small.1 (λ o z. uses o (later (in_left o (in_exp i) (in_exp e) z))) refl (omega arith) (omega arith)
        (straight sizes os Test (cells_at names x) k (suc k) 1 1 refl cells (omega arith) (omega arith) (omega arith) (roomy k (omega arith)) refl
        (figures c names label_at halt_at v sizes sized e (suc k) k' 1 _ q.fits.1 small.2 (λ o z. uses o (later (in_right o (in_exp i) (in_exp e) z))) refl (omega arith) (omega arith)
        (ready_passes c names label_at sizes os v halt_at sized.wide roomy (type_of names x) k' j 1 _ refl (omega arith) (omega (arith, some_figure e))
        (straight sizes os Put (cells_at names x) j b 2 0 refl cells (omega arith) (omega arith) (omega arith) (roomy j (omega arith)) (omega arith) rest))))))
    statement_passes (go p l) {seen} {h} {a} {b} q small uses deep rest =
        let end = q.before in
        let long = q.long in
        subst (T a 0) (sym q.entries)
        (mark sizes os p a (suc a) small (roomy a (omega arith)) refl
        (jump sizes os sized.long (label_at l.letters) (suc a) b (lands_mark c names label_at halt_at v sizes sized _ _ (uses (at as_target l) here)) (omega arith) rest))
    statement_passes (switched p x e) {seen} {h} {a} {b} q small uses deep rest =
        let k = suc a + exp_size e in
        let end = q.before in
        let long = q.long in
        let f = lays.tables x.letters q.fits.1 in
        let further = f.2 in
        subst (T a 0) (sym q.entries)
        (mark sizes os p a (suc a) small.0 (roomy a (omega arith)) refl
        (figures c names label_at halt_at v sizes sized e (suc a) k 0 _ q.fits.0 small.1 (λ o i. uses o (later i)) refl (omega arith) (omega arith)
        (table sizes os sized.long (table_at x.letters) k b (omega arith) (table_begins c label_at (table_at x.letters) (names.labels x.letters) f.0 q.fits.1 f.1) (roomy k (omega arith)) (omega arith) rest)))
    statement_passes (input p (whole x)) {seen} {h} {a} {b} q small uses deep rest =
        let end = q.before in
        let long = q.long in
        subst (T a 0) (sym q.entries)
        (mark sizes os p a (suc a) small.0 (roomy a (omega arith)) refl
        (const_passes c names label_at sizes os v halt_at sized.wide roomy 0 (suc a) (suc (suc a)) 0 _ (omega arith) refl (omega arith) (omega arith)
        (take_passes (type_of names x) x (suc (suc a)) b _ q.fits.0.0 (uses (at as_variable x) here) (omega arith) (omega arith) rest)))
    statement_passes (input p (indexed x i)) {seen} {h} {a} {b} q small uses deep rest =
        let k = suc a + exp_size i in
        let end = q.before in
        let long = q.long in
        subst (T a 0) (sym q.entries)
        (mark sizes os p a (suc a) small.0 (roomy a (omega arith)) refl
        (figures c names label_at halt_at v sizes sized i (suc a) k 0 _ q.fits.0.1 small.1 (λ o z. uses o (later z)) refl (omega arith) (omega arith)
        (take_passes (type_of names x) x k b _ q.fits.0.0 (uses (at as_element x) here) (omega arith) (omega arith) rest)))
    statement_passes (printed p es) {seen} {h} {a} {b} q small uses deep rest =
        subst (T a 0) (sym q.entries) (posts_pass p (all_of es) a b _ small.0 q.fits small.1 (row_uses c names label_at in_exp es uses) q.long q.before deep rest)
    statement_passes (stop p) {seen} {h} {a} {b} q small uses deep rest =
        let end = q.before in
        let long = q.long in
        subst (T a 0) (sym q.entries)
        (mark sizes os p a (suc a) small (roomy a (omega arith)) refl
        (jump sizes os sized.long halt_at (suc a) b (on_later_halt (omega arith) (operation_there halt_at c (plain Halt) _ lays.halts)) (omega arith) rest))
    statement_passes (sequence s t) {seen} {h} {a} {b} q small uses deep rest =
        let end = q.before in
        statement_passes s (first_of kind c names label_at table_at halt_at v m outer q) small.0 (λ o i. uses o (in_left o (in_statement s) (in_statement t) i)) (omega arith)
        (statement_passes t (second kind c names label_at table_at halt_at v m outer q) small.1 (λ o i. uses o (in_right o (in_statement s) (in_statement t) i)) (omega arith) rest)
