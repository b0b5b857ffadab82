-- Labels: looking for them, passing over them, and putting them around their statement.
use Rattle.std.proofs.Common.{◌≡◌, ℕ, zero, suc, ◌+◌, ◌*◌, Bool, true, false, cond, List, [], ◌∷◌, length, drop, is_some, Some, None, Option, sym, refl, ap, ◌∙◌, add-one, arith}
use Rattle.words.specs.declared.token.Mark.TheVariants.{Colon}
use Rattle.words.specs.Token.{Word}
use Rattle.grammar.specs.Tree.{Name, Statement, labelled}
use Rattle.grammar.specs.Classes.{heads, the_mark, a_name, when}
use Rattle.grammar.specs.Grammar.{a, statement}
use Rattle.grammar.specs.Parser.{begin, done, part, goto, named_script, Around, at, run}
use Rattle.grammar.proofs.Found.{none_some}
use Rattle.grammar.proofs.Steps.{part_waits, handed_on}
use Rattle.parser.specs.declared.table.Parser.{Parser}
use Rattle.parser.specs.Records.{ahead, view, Named}
use Rattle.parser.specs.Promises.{Took, Moves, instead, here, Goes}
use Rattle.parser.specs.Labels.{is_label, with_labels, labels_around, LabelsAt, LabelsPassed}
use Rattle.parser.proofs.Tables.{word_left}
use Rattle.parser.proofs.Moving.{moves_none, moves_trans, moves_took, took_ahead}
use Rattle.parser.proofs.Going.{goes_start, goes_word}
use Rattle.parser.proofs.Holding.{Keeps, moves_keep, named_stays}
use Rattle.parser.proofs.Naming.{next_named, name_taken}
use Rattle.parser.proofs.Stepping.{goes_first, goes_on}

is_none : {A : Type 0} (o : Option A) → is_some o ≡ false → o ≡ None
is_none None e = refl
is_none (Some x) e = let z : ◌≡◌ {A = ℕ} 0 1 = ap {B = ℕ} (λ b. cond b 0 1) e in absurd (omega arith)

is_some_when : (b : Bool) → is_some (when {A = Unit {0}} b tt) ≡ b
is_some_when true = refl
is_some_when false = refl

-- A name and a colon are a label.
pub label_there : (xs : List Word) (i : ℕ) (x : List ℕ) (b : Bool) → heads a_name (drop i xs) ≡ Some x → heads (the_mark Colon) (drop (suc i) xs) ≡ when b tt → b ≡ is_label (drop i xs)
label_there [] zero x b e f = none_some e
label_there [] (suc i) x b e f = none_some e
label_there (w ∷ xs) zero x b e f =
    sym (ap (λ (o : Option (List ℕ)). cond (is_some o) (is_some (heads (the_mark Colon) xs)) false) e ∙ (ap (λ (o : Option (Unit {0})). is_some o) f ∙ is_some_when b))
label_there (w ∷ xs) (suc i) x b e f = label_there xs i x b e f

colon_missing : (w : Word) (ws : List Word) (x : List ℕ) → heads a_name (w ∷ ws) ≡ Some x → is_label (w ∷ ws) ≡ false → heads (the_mark Colon) ws ≡ None
colon_missing w ws x e f = is_none (heads (the_mark Colon) ws) (sym (ap (λ (o : Option (List ℕ)). cond (is_some o) (is_some (heads (the_mark Colon) ws)) false) e) ∙ f)

-- Behind a name that is no label comes no colon.
pub no_colon : (r s : Parser) (x : List ℕ) → heads a_name (ahead r) ≡ Some x → is_label (ahead r) ≡ false → Took true r s → heads (the_mark Colon) (ahead s) ≡ None
no_colon r s x e f t = by (ahead r) refl e f
  where
    by : (ws : List Word) → ahead r ≡ ws → heads a_name ws ≡ Some x → is_label ws ≡ false → heads (the_mark Colon) (ahead s) ≡ None
    by [] i e f = none_some e
    by (w ∷ ws) i e f = ap (λ l. heads (the_mark Colon) l) (took_ahead r s w ws t i) ∙ colon_missing w ws x e f

-- A label is a name, and a colon behind it.
some_of : {A : Type 0} (o : Option A) → is_some o ≡ true → (x : A) × (o ≡ Some x)
some_of None e = let z : ◌≡◌ {A = ℕ} 0 1 = ap {B = ℕ} (λ b. cond b 1 0) e in absurd (omega arith)
some_of (Some x) e = (x, refl)

both : (a b : Bool) → cond a b false ≡ true → (a ≡ true) × (b ≡ true)
both true b e = (refl, e)
both false b e = let z : ◌≡◌ {A = ℕ} 0 1 = ap {B = ℕ} (λ b. cond b 1 0) e in absurd (omega arith)

pub label_name : (r : Parser) → is_label (ahead r) ≡ true → (x : List ℕ) × (heads a_name (ahead r) ≡ Some x)
label_name r e = by (ahead r) e
  where
    by : (ws : List Word) → is_label ws ≡ true → (x : List ℕ) × (heads a_name ws ≡ Some x)
    by [] e = let z : ◌≡◌ {A = ℕ} 0 1 = ap {B = ℕ} (λ b. cond b 1 0) e in absurd (omega arith)
    by (w ∷ ws) e = some_of (heads a_name (w ∷ ws)) (both (is_some (heads a_name (w ∷ ws))) (is_some (heads (the_mark Colon) ws)) e).0

pub label_colon : (r s : Parser) → is_label (ahead r) ≡ true → Took true r s → heads (the_mark Colon) (ahead s) ≡ Some tt
label_colon r s e t = by (ahead r) refl e
  where
    by : (ws : List Word) → ahead r ≡ ws → is_label ws ≡ true → heads (the_mark Colon) (ahead s) ≡ Some tt
    by [] i e = let z : ◌≡◌ {A = ℕ} 0 1 = ap {B = ℕ} (λ b. cond b 1 0) e in absurd (omega arith)
    by (w ∷ ws) i e =
        let h = some_of (heads (the_mark Colon) ws) (both (is_some (heads a_name (w ∷ ws))) (is_some (heads (the_mark Colon) ws)) e).1 in
        ap (λ l. heads (the_mark Colon) l) (took_ahead r s w ws t i) ∙ h.1

pub labels_stay : (s q : Parser) → Keeps s q → (first : ℕ) (xs : List Name) (n : ℕ) → LabelsAt (view s) first xs n → LabelsAt (view q) first xs n
labels_stay s q k first [] n h = h
labels_stay s q k first (x ∷ xs) n h = (h.0, h.1, named_stays s q k (first + 2 * h.0) x h.2, labels_stay s q k first xs h.0 h.3)

pub labels_none : (r : Parser) → LabelsPassed r r 0
labels_none r = record { moves = moves_none r; made = refl; on = omega arith; names = []; stand = refl; leads = λ L limit d k e. refl }

named_there : (s : Parser) (w u : ℕ) (x : Name) → w ≡ u → Named (view s) w x → Named (view s) u x
named_there s w u x e h = rw e at h

-- A label more is passed over.
module _ (r s s₁ s₂ : Parser) (n : ℕ) (p : LabelsPassed r s n) (e : is_label (ahead s) ≡ true) (t₁ : Took true s s₁) (t₂ : Took true s₁ s₂) where
  pub labels_more : LabelsPassed r s₂ (n + 1)
  labels_more =
      let x = label_name s e in
      let nm = name_taken s s.at (sym (ap (λ (o : Option (List ℕ)). instead s.at o) x.1)) in
      let colon = label_colon s s₁ e t₁ in
      let m₁ : Moves s s₁ = moves_took s s₁ (word_left a_name x.0 s x.1) t₁ in
      let m₂ : Moves s s₂ = moves_trans s s₁ s₂ m₁ (moves_took s₁ s₂ (word_left (the_mark Colon) tt s₁ colon) t₂) in
      let y = next_named s nm.letters in
      record {
        moves = moves_trans r s s₂ p.moves m₂;
        made = t₂.made ∙ (t₁.made ∙ p.made);
        on = omega (arith, t₁.at, t₂.at, p.on);
        names = y ∷ p.names;
        stand = (n, add-one n, named_there s₂ s.at (r.at + 2 * n) y p.on (nm.named s₂ m₂.same.words), labels_stay s s₂ (moves_keep s s₂ m₂) r.at p.names n p.stand);
        leads = λ L limit d k h. p.leads L limit d k h ∙ (through L limit d (labels_around d p.names k) h nm.letters nm.next colon ∙ (part_waits {limit = limit} {end = length r.text.now} {ws = ahead s₂} {d = d} {g = begin (a statement)} {f = λ t. done (labelled y t)} {k = labels_around d p.names k} tt).same);
      }
    where
      through : (L limit d : ℕ) (k : Around (a statement)) → d + L ≡ limit → (x : List ℕ) → heads a_name (ahead s) ≡ Some x → heads (the_mark Colon) (ahead s₁) ≡ Some tt
          → run limit (length r.text.now) (ahead s) (at d (goto (begin (a statement))) k) ≡ run limit (length r.text.now) (ahead s₂) (at d (part (begin (a statement)) λ t. done (labelled (next_named s x) t)) k)
      through L limit d k h x e colon =
          let g : Goes L s s₂ (here (goto (begin (a statement)))) (here (part (begin (a statement)) λ t. done (labelled (next_named s x) t))) = goes_on (record { is = colon; took = t₂ }) refl refl (λ d. refl) (goes_first colon
          (goes_word {L = L} a_name x s₁ (λ b. here (named_script (record { letters = x; place = b }))) goes_start e t₁ refl (λ d b k. refl))) in
          rw (sym (ap length p.moves.same.text)) (g.leads limit d k h)

-- The statement behind the labels is done, and so is the whole.
pub labels_done : (limit end : ℕ) (ws : List Word) (d : ℕ) (xs : List Name) (t : Statement) (k : Around (a statement))
    → run limit end ws (at d (done t) (labels_around d xs k)) ≡ run limit end ws (at d (done (with_labels xs t)) k)
labels_done limit end ws d [] t k = refl
labels_done limit end ws d (x ∷ xs) t k = (handed_on {q = a statement} {d = d} {e = d} {v = t} {f = λ t. done (labelled x t)} {k = labels_around d xs k}).same ∙ labels_done limit end ws d xs (labelled x t) k
