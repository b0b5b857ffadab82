-- How the machine goes from state to state: lemmas about single steps, used by all that follow runs.
use Rattle.std.proofs.Common.{◌≡◌, ℕ, ◌≤◌, Bool, true, false, cond, leb, List, [], ◌∷◌, Some, None, Option, sym, refl, ap, ◌∙◌, le-leb}
use Rattle.words.specs.Token.{Token, Word}
use Rattle.grammar.specs.declared.refusal.SentenceRefusal.TheVariants.{TooDeep}
use Rattle.grammar.specs.Classes.{heads, Class, Content, found, opens, levels_after}
use Rattle.grammar.specs.Grammar.{Phrase, Value}
use Rattle.grammar.specs.Parser.{Goal, Script, done, word, either, part, goto, within, start, Around, waiting, State, at, Met, takes, passes, refuses, if_found, met_within, meets, met, after, moved, then_ended, ended, ended_around, finished, Outcome, refused, early_or, levels, onward, run}

-- A script that is not done before it has taken a word.
abbrev pub Fresh : {p : Phrase} → Script p → Type 0
Fresh (done v) = ⊥
Fresh (word c y) = Unit {0}
Fresh (either c y n) = Fresh n
Fresh (part g f) = Unit {0}
Fresh (goto g) = Unit {0}
Fresh (within s f) = Fresh s

-- The script's answer to a word: it is not that the script was done.
abbrev NotPassed : {p : Phrase} → Met p → Type 0
NotPassed (takes t) = Unit {0}
NotPassed (passes v) = ⊥
NotPassed refuses = Unit {0}

found_fresh : {p : Phrase} {A : Type 0} (y : A → Script p) (n : Met p) (o : Option A) → NotPassed n → NotPassed (if_found y n o)
found_fresh y n None h = h
found_fresh y n (Some x) h = tt

within_fresh : {p q : Phrase} (f : Value q → Script p) (next : Value q → Met p) (m : Met q) → NotPassed m → NotPassed (met_within f next m)
within_fresh f next (takes t) h = tt
within_fresh f next (passes v) h = elim h [ ]
within_fresh f next refuses h = tt

fresh_meets : {p : Phrase} (s : Script p) (t : Token) (b : ℕ) → Fresh s → NotPassed (meets t b s)
fresh_meets (done v) t b h = h
fresh_meets (word c y) t b h = found_fresh (λ x. y x b) refuses (found c t) tt
fresh_meets (either c y n) t b h = found_fresh (λ x. y x b) (meets t b n) (found c t) (fresh_meets n t b h)
fresh_meets (part g f) t b h = tt
fresh_meets (goto g) t b h = tt
fresh_meets (within s f) t b h = within_fresh f (λ v. meets t b (f v)) (meets t b s) (fresh_meets s t b h)

fresh_ended : {p : Phrase} (s : Script p) → Fresh s → ended s ≡ None
fresh_ended (done v) h = elim h [ ]
fresh_ended (word c y) h = refl
fresh_ended (either c y n) h = fresh_ended n h
fresh_ended (part g f) h = refl
fresh_ended (goto g) h = refl
fresh_ended (within s f) h = ap (λ o. then_ended (λ v. ended (f v)) o) (fresh_ended s h)

met_waiting : {p q : Phrase} (d e : ℕ) (f : Value q → Script p) (k : Around p) (next : Value p → Option State) (m : Met q) (inner : Value q → Met p) (outer : Value q → Option State)
    → NotPassed m → met d e k next (met_within f inner m) ≡ met d e (waiting q d f k) outer m
met_waiting d e f k next (takes t) inner outer h = refl
met_waiting d e f k next (passes v) inner outer h = elim h [ ]
met_waiting d e f k next refuses inner outer h = refl

-- A fresh script inside another meets a word as it does with the other waiting.
pub within_moves : {p q : Phrase} (d : ℕ) (s : Script q) (f : Value q → Script p) (k : Around p) (t : Token) (b : ℕ) → Fresh s
    → met d (levels_after t d) k (λ v. after k v t b) (meets t b (within s f)) ≡ met d (levels_after t d) (waiting q d f k) (λ v. after (waiting q d f k) v t b) (meets t b s)
within_moves {q = q} d s f k t b h = met_waiting d (levels_after t d) f k (λ v. after k v t b) (meets t b s) (λ v. meets t b (f v)) (λ v. after (waiting q d f k) v t b) (fresh_meets s t b h)

-- The machine goes from s before ws to q before rs.
pub record Leads (limit end : ℕ) (ws : List Word) (s : State) (rs : List Word) (q : State) : Type 0 where
  pub same : run limit end ws s ≡ run limit end rs q

module _ {limit end : ℕ} where
  infixr 20 ◌then◌
  pub ◌then◌ : {ws ms rs : List Word} {s r q : State} → Leads limit end ws s ms r → Leads limit end ms r rs q → Leads limit end ws s rs q
  x then y = record { same = x.same ∙ y.same }

  -- States with the same moves and the same end run alike.
  pub alike : {ws : List Word} {s q : State} → ((t : Token) (b : ℕ) → moved s t b ≡ moved q t b) → finished s ≡ finished q → Leads limit end ws s ws q
  alike {ws} {s} {q} f e = record { same = by ws }
    where
      by : (ws : List Word) → run limit end ws s ≡ run limit end ws q
      by [] = ap (λ o. early_or end o) e
      by (w ∷ ws) = ap (λ o. onward limit w.place (opens w.token) (λ r. run limit end ws r) o) (f w.token w.place)

  -- So they do on words whose first is given.
  pub alike_on : {w : Word} {t : Token} {ws : List Word} {s q : State} → w.token ≡ t → moved s t w.place ≡ moved q t w.place → Leads limit end (w ∷ ws) s (w ∷ ws) q
  alike_on {w} {t} {ws} {s} {q} e f = record {
    same = ap (λ o. onward limit w.place (opens w.token) (λ r. run limit end ws r) o)
        (ap (λ u. moved s u w.place) e ∙ (f ∙ sym (ap (λ u. moved q u w.place) e)));
  }

  -- A part that is done hands its tree on.
  pub handed_on : {p q : Phrase} {ws : List Word} {d e : ℕ} {v : Value q} {f : Value q → Script p} {k : Around p} → Leads limit end ws (at d (done v) (waiting q e f k)) ws (at e (f v) k)
  handed_on = alike (λ t b. refl) refl

  -- The open levels of a part that is done count no more.
  pub done_alike : {p : Phrase} {ws : List Word} {d e : ℕ} {v : Value p} {k : Around p} → Leads limit end ws (at d (done v) k) ws (at e (done v) k)
  done_alike = alike (λ t b. refl) refl

  -- A goal is read with the rest of the script waiting.
  pub part_waits : {p q : Phrase} {ws : List Word} {d : ℕ} {g : Goal q} {f : Value q → Script p} {k : Around p} → Fresh (start g)
      → Leads limit end ws (at d (part g f) k) ws (at d (goto g) (waiting q d f k))
  part_waits {q = q} {d = d} {g = g} {f = f} {k = k} h = alike (λ t b. within_moves d (start g) f k t b h)
      (ap (λ o. then_ended (λ v. ended_around k v) (then_ended (λ v. ended (f v)) o)) (fresh_ended (start g) h)
      ∙ sym (ap (λ o. then_ended (λ v. ended_around (waiting q d f k) v) o) (fresh_ended (start g) h)))

  -- No word of the class comes.
  pub or_done : {p : Phrase} {ws : List Word} {d : ℕ} {c : Class} {y : Content c → ℕ → Script p} {v : Value p} {k : Around p} → heads c ws ≡ None
      → Leads limit end ws (at d (either c y (done v)) k) ws (at d (done v) k)
  or_done {ws = ws} {d} {c} {y} {v} {k} h = record { same = by ws h }
    where
      by : (ws : List Word) → heads c ws ≡ None → run limit end ws (at d (either c y (done v)) k) ≡ run limit end ws (at d (done v) k)
      by [] h = refl
      by (w ∷ ws) h = ap (λ o. onward limit w.place (opens w.token) (λ r. run limit end ws r)
          (met d (levels_after w.token d) k (λ u. after k u w.token w.place) (if_found (λ x. y x w.place) (passes v) o))) h

  -- A word is taken that opens no level.
  pub takes_word : {w : Word} {t : Token} {ws : List Word} {s q : State} → w.token ≡ t → moved s t w.place ≡ Some q → opens t ≡ false → Leads limit end (w ∷ ws) s ws q
  takes_word {w} {t} {ws} {s} {q} e m o =
      let i : moved s w.token w.place ≡ Some q = ap (λ u. moved s u w.place) e ∙ m in
      let j : opens w.token ≡ false = ap opens e ∙ o in
      record {
        same = ap (λ x. onward limit w.place (opens w.token) (λ r. run limit end ws r) x) i
            ∙ ap (λ b. cond b (cond (leb (levels q) limit) (run limit end ws q) (refused TooDeep w.place)) (run limit end ws q)) j;
      }

  -- A word is taken that opens a level, if one is left.
  pub takes_opening : {w : Word} {t : Token} {ws : List Word} {s q : State} → w.token ≡ t → moved s t w.place ≡ Some q → levels q ≤ limit → Leads limit end (w ∷ ws) s ws q
  takes_opening {w} {t} {ws} {s} {q} e m h =
      let i : moved s w.token w.place ≡ Some q = ap (λ u. moved s u w.place) e ∙ m in
      let j : leb (levels q) limit ≡ true = le-leb (levels q) limit h in
      record {
        same = ap (λ x. onward limit w.place (opens w.token) (λ r. run limit end ws r) x) i
            ∙ (ap (λ b. cond (opens w.token) (cond b (run limit end ws q) (refused TooDeep w.place)) (run limit end ws q)) j ∙ cond_same (opens w.token) (run limit end ws q));
      }
    where
      cond_same : (b : Bool) (x : Outcome) → cond b x x ≡ x
      cond_same true x = refl
      cond_same false x = refl
