-- The code of a for's elements, and what stands behind its body, passes the check.
use Rattle.std.proofs.Common.{◌≡◌, ℕ, zero, suc, ◌+◌, ◌<◌, ◌≤◌, Bool, List, [], ◌∷◌, ◌++◌, length, drop, Some, sym, refl, ◌∙◌, subst, arith}
use Rattle.std.specs.List.{AllByRecursion as All}
use Rattle.grammar.specs.Tree.{Name, Exp, Element, single, progression}
use Rattle.symbols.specs.declared.value_type.ValueType.{ValueType}
use Rattle.symbols.specs.Occurrences.{in_exp, in_element}
use Rattle.symbols.proofs.Lists.{in_left, in_right}
use Rattle.figures.specs.Kinds.{Kind}
use Rattle.code.specs.declared.operations.Operation.{Operation}
use Rattle.code.specs.declared.operations.Operation.TheVariants.{Mark, Store, Add, Less, More, Jump, False, Load, Rows, Here}
use Rattle.code.specs.declared.sizes.Sizes.{Sizes}
use Rattle.code.specs.Codes.{operation_at}
use Rattle.code.specs.WellFormed.{Lands, on_mark, on_later_here, behind_jump}
use Rattle.meaning.specs.Names.{Names}
use Rattle.meaning.specs.Positions.{Loop}
use Rattle.translator.specs.Generator.{Entry, entry, plain, ready_size, exp_size, exp_depth, exp_code, type_of, cell_at, first_size, addition_size, down_size, up_size, element_size, first_code, addition_code, up_code, test_code, element_code, next_place, turn_place, turns_code}
use Rattle.translator.specs.Translation.{element_depth, elements_depth}
use Rattle.translator.specs.Fits.{ExpFits}
use Rattle.translator.specs.Limits.{ExpSmall, ElementSmall, ElementsSmall}
use Rattle.translator.specs.Compiled.{LoopPlaced}
use Rattle.translator.proofs.Behind.{further, behind_first, behind_addition, behind_down}
use Rattle.translator.proofs.Resuming.{Begins, element_begins, addition_begins, next_placed}
use Rattle.translator.proofs.Bridge.{operation_there}
use Rattle.translator.proofs.Passing.{operations_of, Passes, Calculates, straight, binary, mark, here, jump, branch, table, rows}
use Rattle.translator.proofs.PassingExpressions.{Uses, less_calculates, more_calculates, add_calculates, some_figure, ready_passes, load_passes, const_passes, exp_passes}

-- The sizes are those of the code, of which the HALT is a part.
pub record Sized (c : List Entry) (halt_at v : ℕ) (sizes : Sizes) : Type 0 where
  pub wide : v ≤ sizes.cells
  pub long : length (operations_of c) ≡ sizes.operations
  pub inside : halt_at < length (operations_of c)

module _ (c : List Entry) (names : Names) (label_at : List ℕ → ℕ) (halt_at v : ℕ) (sizes : Sizes) (sized : Sized c halt_at v sizes) where
  abbrev os : List ℕ
  os = operations_of c

  abbrev T : ℕ → ℕ → List Entry → Type 0
  T = Passes sizes (operations_of c)

  pub room : (i : ℕ) → i < halt_at → suc i < length (operations_of c)
  room i lt = omega (arith, sized.inside)

  pub lands_mark : (i x : ℕ) → Begins c x → Lands (operations_of c) i x
  lands_mark i x b = on_mark (operation_there x c (entry Mark b.0) b.1 b.2)

  pub lands_here : (i x : ℕ) (r : List Entry) → i < x → drop x c ≡ plain Here ∷ r → Lands (operations_of c) i x
  lands_here i x r lt e = on_later_here lt (operation_there x c (plain Here) r e)

  pub figures : (e : Exp) (pc q d : ℕ) (r : List Entry) → ExpFits names v e → ExpSmall e → Uses c names label_at (in_exp e)
      → pc + exp_size e ≡ q → q ≤ halt_at → d + exp_depth e ≤ sizes.depth → T q (suc d) r → T pc d (exp_code names e r)
  figures = exp_passes c names label_at sizes (operations_of c) v halt_at sized.wide room

  pub stores : (x pc q d : ℕ) (r : List Entry) → x < sizes.cells → suc pc ≡ q → q ≤ halt_at → d ≤ sizes.depth → T q d r → T pc (suc d) (entry Store x ∷ r)
  stores x pc q d r below to le deep rest = straight sizes (operations_of c) Store x pc q (suc d) d refl below (omega arith) (omega arith) deep (room pc (omega arith)) to rest

  -- The steps of an element.
  module _ (p : ℕ) (x : Name) (h b : ℕ) (small_place : p ≤ 8191) (control : cell_at names x < sizes.cells) (hidden : h < sizes.cells) (begins : Begins c b) where
    abbrev t : ValueType
    t = type_of names x

    first_passes : (i : ℕ) (e : Exp) (a q : ℕ) (r : List Entry) → i ≤ 2048 → ExpFits names v e → ExpSmall e → Uses c names label_at (in_exp e)
        → a + first_size names t e ≡ q → q ≤ halt_at → exp_depth e ≤ sizes.depth → T q 0 r → T a 0 (first_code names p x h b i e r)
    first_passes i e a q r le fits small uses to before deep rest =
        let k = suc a + exp_size e in
        let j = k + ready_size t in
        let some = some_figure e in
        mark sizes os p a (suc a) small_place (room a (omega arith)) refl
        (figures e (suc a) k 0 _ fits small uses refl (omega arith) (omega arith)
        (ready_passes c names label_at sizes os v halt_at sized.wide room t k j 0 _ refl (omega arith) (omega arith)
        (stores (cell_at names x) j (suc j) 0 _ control refl (omega arith) (omega arith)
        (const_passes c names label_at sizes os v halt_at sized.wide room i (suc j) (suc (suc j)) 0 _ (omega arith) refl (omega arith) (omega arith)
        (stores h (suc (suc j)) (suc (suc (suc j))) 0 _ hidden refl (omega arith) (omega arith)
        (jump sizes os sized.long b (suc (suc (suc j))) q (lands_mark _ b begins) (omega arith) rest))))))

    addition_passes : (s : Exp) (a q : ℕ) (r : List Entry) → ExpFits names v s → ExpSmall s → Uses c names label_at (in_exp s)
        → a + addition_size names t s ≡ q → q ≤ halt_at → exp_depth s + 1 ≤ sizes.depth → T q 0 r → T a 0 (addition_code names p x h b s r)
    addition_passes s a q r fits small uses to before deep rest =
        let k = suc (suc a) + exp_size s in
        let j = suc k + ready_size t in
        let some = some_figure s in
        mark sizes os p a (suc a) small_place (room a (omega arith)) refl
        (load_passes c names label_at sizes os v halt_at sized.wide room (cell_at names x) (suc a) (suc (suc a)) 0 _ control refl (omega arith) (omega arith)
        (figures s (suc (suc a)) k 1 _ fits small uses refl (omega arith) (omega arith)
        (binary sizes os Add add_calculates k (suc k) 0 (omega arith) (room k (omega arith)) refl
        (ready_passes c names label_at sizes os v halt_at sized.wide room t (suc k) j 0 _ refl (omega arith) (omega arith)
        (stores (cell_at names x) j q 0 _ control (omega arith) (omega arith) (omega arith) rest)))))

    -- The comparison with the limit u, by o: to the body again, or to next.
    limit_passes : (o : Operation) → Calculates 2 o → (next : ℕ) (u : Exp) (a q : ℕ) (r : List Entry) → ((j : ℕ) → j < q → Lands (operations_of c) j next)
        → ExpFits names v u → ExpSmall u → Uses c names label_at (in_exp u) → a + (exp_size u + 4) ≡ q → q ≤ halt_at → exp_depth u + 1 ≤ sizes.depth
        → T q 0 r → T a 0 (entry Load (cell_at names x) ∷ exp_code names u (plain o ∷ entry False b ∷ entry Jump next ∷ r))
    limit_passes o is next u a q r lands fits small uses to before deep rest =
        let k = suc a + exp_size u in
        let some = some_figure u in
        load_passes c names label_at sizes os v halt_at sized.wide room (cell_at names x) a (suc a) 0 _ control refl (omega arith) (omega arith)
        (figures u (suc a) k 1 _ fits small uses refl (omega arith) (omega arith)
        (binary sizes os o is k (suc k) 0 (omega arith) (room k (omega arith)) refl
        (branch sizes os sized.long b (suc k) (suc (suc k)) (lands_mark _ b begins) (room (suc k) (omega arith)) refl
        (jump sizes os sized.long next (suc (suc k)) q (lands (suc (suc k)) (omega arith)) (omega arith) rest))))

    test_passes : (next up : ℕ) (s u : Exp) (a q : ℕ) (r r' : List Entry) → drop up c ≡ plain Here ∷ r' → a + down_size names s u ≡ up → ((j : ℕ) → j < q → Lands (operations_of c) j next)
        → ExpFits names v s → ExpFits names v u → ExpSmall s → ExpSmall u → Uses c names label_at (in_exp s) → Uses c names label_at (in_exp u)
        → up + up_size names u ≡ q → q ≤ halt_at → exp_depth s + 1 ≤ sizes.depth → exp_depth u + 1 ≤ sizes.depth → T q 0 r → T a 0 (test_code names p x h b next up s u r)
    test_passes next up s u a q r r' there from lands fs fu ss su us uu to before ds du rest =
        let k = suc a + exp_size s in
        let some = some_figure s in
        mark sizes os p a (suc a) small_place (room a (omega arith)) refl
        (figures s (suc a) k 0 _ fs ss us refl (omega arith) (omega arith)
        (const_passes c names label_at sizes os v halt_at sized.wide room 0 k (suc k) 1 _ (omega arith) refl (omega arith) (omega arith)
        (binary sizes os Less less_calculates (suc k) (suc (suc k)) 0 (omega arith) (room (suc k) (omega arith)) refl
        (branch sizes os sized.long up (suc (suc k)) (suc (suc (suc k))) (lands_here _ up r' (omega arith) there) (room (suc (suc k)) (omega arith)) refl
        (limit_passes Less less_calculates next u (suc (suc (suc k))) up _ (λ j lt. lands j (omega arith)) fu su uu (omega arith) (omega arith) du
        (here sizes os up (suc up) (room up (omega arith)) refl
        (limit_passes More more_calculates next u (suc up) q r lands fu su uu (omega arith) before du rest)))))))

-- The rows of a for are JUMPs.
row_jumps : (names : Names) (p : ℕ) (x : Name) (h b o : ℕ) (es : List Element) (a j : ℕ) (r : List Entry) → j < length es
    → (y : ℕ) × (s : List Entry) × (drop j (turns_code names p x h b o a es r) ≡ entry Jump y ∷ s)
row_jumps names p x h b o [] a j r lt = absurd (omega arith)
row_jumps names p x h b o (e ∷ es) a zero r lt = (_, _, refl)
row_jumps names p x h b o (e ∷ es) a (suc j) r lt = row_jumps names p x h b o es (a + element_size names (type_of names x) e) j r (omega arith)

module _ {V : Type 0} (kind : Kind V) (c : List Entry) (names : Names) (label_at table_at : List ℕ → ℕ) (halt_at v m : ℕ) (outer : List ℕ → Bool)
    (sizes : Sizes) (sized : Sized c halt_at v sizes) (wide : m ≤ sizes.cells) where
  abbrev S : ℕ → ℕ → List Entry → Type 0
  S = Passes sizes (operations_of c)

  abbrev L : (List ℕ → Bool) → ℕ → Loop → ℕ → Element → List Element → ℕ → ℕ → ℕ → ℕ → ℕ → Type 0
  L = LoopPlaced kind c names label_at table_at halt_at v m outer

  module _ {seen : List ℕ → Bool} {h : ℕ} {l : Loop} {b d o n : ℕ} where
    -- The next element, or the way out.
    next_lands : (e : Element) (es : List Element) {i a : ℕ} → L seen h l i e es a b d o n → (j : ℕ) → j < o
        → Lands (operations_of c) j (next_place names l.place l.control h b o (a + element_size names (type_of names l.control) e) es)
    next_lands e [] x j lt = lands_here c names label_at halt_at v sizes sized j o (drop (suc o) c) lt x.out
    next_lands e (e' ∷ es) x j lt =
        lands_mark c names label_at halt_at v sizes sized j _
        (element_begins kind c names label_at table_at halt_at v m outer e' es (next_placed kind c names label_at table_at halt_at v m outer e e' es x))

    element_passes : (e : Element) (es : List Element) {i a : ℕ} (r : List Entry) (q : ℕ) → L seen h l i e es a b d o n → l.place ≤ 8191 → Begins c b → ElementSmall e
        → Uses c names label_at (in_element e) → element_depth e ≤ sizes.depth → a + element_size names (type_of names l.control) e ≡ q → q ≤ b
        → drop a c ≡ element_code names l.place l.control h b i (next_place names l.place l.control h b o (a + element_size names (type_of names l.control) e) es) a e r
        → S q 0 r
        → S a 0 (element_code names l.place l.control h b i (next_place names l.place l.control h b o (a + element_size names (type_of names l.control) e) es) a e r)
    element_passes (single e) es {i} {a} r q x place begins small uses deep to before entries rest =
        let x_control = x.control_fits in let x_hidden = x.hidden in let x_count = x.count in let x_few = x.few in let end = x.body.before in let tall = x.body.long in
        let w = sized.wide in
        first_passes c names label_at halt_at v sizes sized l.place l.control h b place (omega arith) (omega arith) begins
        i e a q r (omega arith) x.elements_fit.0 small uses to (omega arith) deep rest
    element_passes (progression f s u) es {i} {a} r q x place begins small uses deep to before entries rest =
        let t = type_of names l.control in
        let x_control = x.control_fits in let x_hidden = x.hidden in let x_count = x.count in let x_few = x.few in let end = x.body.before in let tall = x.body.long in
        let x_over = x.over in
        let w = sized.wide in
        let fits = x.elements_fit.0 in
        let k = a + first_size names t f in
        let j = k + addition_size names t s in
        let up = j + down_size names s u in
        let nx = next_place names l.place l.control h b o (a + element_size names t (progression f s u)) es in
        let there : drop up c ≡ up_code names l.place l.control h b nx u r =
        further c a (first_size names t f + (addition_size names t s + down_size names s u)) up _ entries (omega arith)
        ∙ behind_first names l.place l.control h b i f _ (addition_size names t s + down_size names s u) _ refl
        ∙ behind_addition names l.place l.control h b s _ (down_size names s u) _ refl
        ∙ behind_down names l.place l.control h b nx up s u (down_size names s u) 0 r (omega arith) in
        first_passes c names label_at halt_at v sizes sized l.place l.control h b place (omega arith) (omega arith) begins
        i f a k _ (omega arith) fits.0 small.0 (λ y z. uses y (in_left y (in_exp f) (in_exp s ++ in_exp u) z)) refl (omega arith) (omega arith)
        (addition_passes c names label_at halt_at v sizes sized l.place l.control h b place (omega arith) (omega arith) begins
        s k j _ fits.1 small.1 (λ y z. uses y (in_right y (in_exp f) (in_exp s ++ in_exp u) (in_left y (in_exp s) (in_exp u) z))) refl (omega arith) (omega arith)
        (test_passes c names label_at halt_at v sizes sized l.place l.control h b place (omega arith) (omega arith) begins
        nx up s u j q r _ there refl (λ y lt. next_lands (progression f s u) es x y (omega arith)) fits.1 fits.2 small.1 small.2
        (λ y z. uses y (in_right y (in_exp f) (in_exp s ++ in_exp u) (in_left y (in_exp s) (in_exp u) z)))
        (λ y z. uses y (in_right y (in_exp f) (in_exp s ++ in_exp u) (in_right y (in_exp s) (in_exp u) z)))
        (omega arith) (omega arith) (omega arith) (omega arith) rest))

    pub elements_pass : (e : Element) (es : List Element) {i a : ℕ} → L seen h l i e es a b d o n → l.place ≤ 8191 → Begins c b → ElementsSmall (e ∷ es)
        → All (λ y. Uses c names label_at (in_element y)) (e ∷ es) → elements_depth (e ∷ es) ≤ sizes.depth → S b 0 (drop b c) → S a 0 (drop a c)
    elements_pass e [] {i} {a} x place begins small uses deep rest =
        let long = x.long in
        subst (S a 0) (sym x.elements)
        (element_passes e [] (drop b c) b x place begins small.0 uses.0 (omega arith) (omega arith) (omega arith) x.elements rest)
    elements_pass e (e' ∷ es) {i} {a} x place begins small uses deep rest =
        let long = x.long in
        let after = a + element_size names (type_of names l.control) e in
        let y = next_placed kind c names label_at table_at halt_at v m outer e e' es x in
        let later : S after 0 (drop after c) = elements_pass e' es y place begins small.1 uses.1 (omega arith) rest in
        subst (S a 0) (sym x.elements)
        (element_passes e (e' ∷ es) _ after x place begins small.0 uses.0 (omega arith) refl (omega arith) x.elements (subst (S after 0) y.elements later))

    -- The rows behind the body.
    turn_lands : (e : Element) (es : List Element) {i a : ℕ} → L seen h l i e es a b d o n → (j : ℕ) → j < o
        → Lands (operations_of c) j (turn_place names l.place l.control h b e a (next_place names l.place l.control h b o (a + element_size names (type_of names l.control) e) es))
    turn_lands (single e) es x j lt = next_lands (single e) es x j lt
    turn_lands (progression f s u) es x j lt = lands_mark c names label_at halt_at v sizes sized j _ (addition_begins kind c names label_at table_at halt_at v m outer f s u es x)

    turns_pass : (e : Element) (es : List Element) {i a : ℕ} → L seen h l i e es a b d o n → S o 0 (drop o c)
        → S (d + 3 + i) 0 (turns_code names l.place l.control h b o a (e ∷ es) (drop o c))
    turns_pass e [] {i} x rest =
        let count = x.count in let over = x.over in
        jump sizes (operations_of c) sized.long _ (d + 3 + i) o (turn_lands e [] x (d + 3 + i) (omega arith)) (omega arith) rest
    turns_pass e (e' ∷ es) {i} x rest =
        let count = x.count in let over = x.over in
        jump sizes (operations_of c) sized.long _ (d + 3 + i) (d + 3 + suc i) (turn_lands e (e' ∷ es) x (d + 3 + i) (omega arith)) (omega arith)
        (turns_pass e' es (next_placed kind c names label_at table_at halt_at v m outer e e' es x) rest)

    -- From behind the body to the way out.
    pub behind_passes : (e : Element) (es : List Element) {a : ℕ} → L seen h l 1 e es a b d o n → o < halt_at → 1 ≤ sizes.depth → S o 0 (drop o c) → S d 0 (drop d c)
    behind_passes e es {a} x before deep rest =
        let count = x.count in let over = x.over in let hidden = x.hidden in
        let w = sized.wide in
        let three = suc (suc (suc d)) in
        let rows_at = turns_pass e es x rest in
        let rows_there : S (d + 3 + 1) 0 (drop (d + 3 + 1) c) = subst (S (d + 3 + 1) 0) (sym x.rows) rows_at in
        let four : d + 3 + 1 ≡ d + 4 = omega arith in
        let moved : S (d + 4) 0 (drop (d + 4) c) = subst (λ (k : ℕ). S k 0 (drop k c)) four rows_there in
        let table_there = operation_there (d + 3) c (entry Rows n) (drop (d + 4) c) (further c d 3 (d + 3) _ x.behind refl) in
        let jump_there = operation_there (suc (suc d)) c (entry Jump o) _ (further c d 2 (suc (suc d)) _ x.behind (omega arith)) in
        subst (S d 0) (sym x.behind)
        (load_passes c names label_at sizes (operations_of c) v halt_at w (room c names label_at halt_at v sizes sized) h d (suc d) 0 _ (omega arith) refl (omega arith) deep
        (table sizes (operations_of c) sized.long (d + 3) (suc d) (suc (suc d)) (omega arith) table_there (room c names label_at halt_at v sizes sized (suc d) (omega arith)) refl
        (jump sizes (operations_of c) sized.long o (suc (suc d)) three (lands_here c names label_at halt_at v sizes sized _ o _ (omega arith) x.out) refl
        (rows sizes (operations_of c) n three (d + 4) (omega arith)
        (record { cut_off = behind_jump jump_there; row = row })
        (room c names label_at halt_at v sizes sized three (omega arith)) (omega arith) moved))))
      where
        row : (j : ℕ) → j < n → operation_at (operations_of c) (suc (suc (suc (suc d))) + j) ≡ Some Jump
        row j lt =
            let count = x.count in
            let f = row_jumps names l.place l.control h b o (e ∷ es) a j (drop o c) (omega arith) in
            operation_there (suc (suc (suc (suc d))) + j) c (entry Jump f.0) f.1 (further c (d + 3 + 1) j (suc (suc (suc (suc d))) + j) _ x.rows (omega arith) ∙ f.2)
