-- Every tree that is read derives from the words.
use Rattle.std.proofs.Common.{◌≡◌, ℕ, ◌-◌, ◌≤◌, Bool, true, false, cond, leb, List, [], ◌∷◌, Some, None, Option, sym, refl, ap, ◌∙◌, arith, leb-true}
use Rattle.words.specs.Token.{Word}
use Rattle.grammar.specs.declared.refusal.SentenceRefusal.{SentenceRefusal}
use Rattle.grammar.specs.declared.refusal.SentenceRefusal.TheVariants.{Unexpected, TooDeep}
use Rattle.grammar.specs.Tree.{Program}
use Rattle.grammar.specs.Classes.{Class, Content, found, opens, levels_after}
use Rattle.grammar.specs.Grammar.{Phrase, program, Value, Derives}
use Rattle.grammar.specs.Parser.{Script, done, word, either, part, goto, within, start, opened, Around, nothing, waiting, State, at, Taken, here, inside, Met, takes, passes, refuses, if_found, met_within, meets, entered, met, after, moved, then_ended, ended, ended_around, finished, tree, refused, early_or, levels, onward, run}
use Rattle.grammar.proofs.Found.{none_some, some_same, class_opens, class_levels, token_of, InRank, found_to_is, token_levels}
use Rattle.grammar.proofs.Yields.{Reaches, Yields, yields_more, yields_within, start_yields}

module _ (limit : ℕ) where
  -- A script that begins with a goal yields what the goal's own script yields.
  pub opened_yields : {p : Phrase} (s : Script p) (R : List Word → Value p → Type 0) (d : ℕ) (ws : List Word) → Yields limit R d ws s → Yields limit R d ws (opened s)
  opened_yields (done v) R d ws h = h
  opened_yields (word c y) R d ws h = h
  opened_yields (either c y n) R d ws h = h
  opened_yields (part g f) R d ws h = yields_within limit (start g) f (Reaches g (limit - d) ws) R d ws h (start_yields limit d ws g)
  opened_yields (goto g) R d ws h = yields_more limit (start g) (Reaches g (limit - d) ws) R d ws h (start_yields limit d ws g)
  opened_yields (within s f) R d ws h = h

  -- What is yielded behind a word that was taken.
  abbrev Took : {p : Phrase} → (List Word → Value p → Type 0) → ℕ → ℕ → List Word → Taken p → Type 0
  Took R d e rs (here s) = Yields limit R e rs s
  Took R d e rs (inside t f) = Took (λ ms v. Yields limit R d ms (f v)) d e rs t

  module _ (w : Word) (rs : List Word) where
    abbrev Room : ℕ → Type 0
    Room d = opens w.token ≡ true → levels_after w.token d ≤ limit

    -- What a script yields when it meets the word w.
    abbrev Meets : {p : Phrase} → (List Word → Value p → Type 0) → ℕ → Met p → Type 0
    Meets R d (takes t) = Room d → Took R d (levels_after w.token d) rs t
    Meets R d (passes v) = R (w ∷ rs) v
    Meets R d refuses = Unit {0}

    found_meets : {p : Phrase} (R : List Word → Value p → Type 0) (d : ℕ) (c : Class) (y : Content c → ℕ → Script p) (n : Met p) (o : Option (Content c)) → found c w.token ≡ o
        → ((x : Content c) → w.token ≡ token_of c x → InRank c x → (class_opens c ≡ true → class_levels c d ≤ limit) → Yields limit R (class_levels c d) rs (y x w.place))
        → Meets R d n → Meets R d (if_found (λ x. y x w.place) n o)
    found_meets R d c y n None e h k = k
    found_meets R d c y n (Some x) e h k = λ room.
        let i = found_to_is c w.token x e in
        let l = token_levels c x d in
        let o : opens w.token ≡ class_opens c = ap opens i.0 ∙ l.0 in
        let m : levels_after w.token d ≡ class_levels c d = ap (λ t. levels_after t d) i.0 ∙ l.1 in
        rw m (h x i.0 i.1 (λ u. rw m at (room (o ∙ u))))

    within_meets : {p q : Phrase} (R : List Word → Value p → Type 0) (d : ℕ) (f : Value q → Script p) (next : Value q → Met p) (m : Met q) → Meets (λ ms v. Yields limit R d ms (f v)) d m
        → ((v : Value q) → Yields limit R d (w ∷ rs) (f v) → Meets R d (next v)) → Meets R d (met_within f next m)
    within_meets R d f next (takes t) h k = h
    within_meets R d f next (passes v) h k = k v h
    within_meets R d f next refuses h k = tt

    script_meets : {p : Phrase} (s : Script p) (R : List Word → Value p → Type 0) (d : ℕ) → Yields limit R d (w ∷ rs) s → Meets R d (meets w.token w.place s)
    script_meets (done v) R d h = h
    script_meets (word c y) R d h = found_meets R d c y refuses (found c w.token) refl (λ x i _ o. h w rs x refl i o) tt
    script_meets (either c y n) R d h = found_meets R d c y (meets w.token w.place n) (found c w.token) refl (λ x i r o. h.0 w rs x refl i r o) (script_meets n R d h.1)
    script_meets (part g f) R d h = tt
    script_meets (goto g) R d h = tt
    script_meets (within s f) R d h =
        within_meets R d f (λ v. meets w.token w.place (f v)) (meets w.token w.place s) (script_meets s (λ ms v. Yields limit R d ms (f v)) d h) (λ v. script_meets (f v) R d)

  entered_levels : {p : Phrase} (t : Taken p) (d e : ℕ) (k : Around p) → levels (entered d e t k) ≡ e
  entered_levels (here s) d e k = refl
  entered_levels (inside {q = q} t f) d e k = entered_levels t d e (waiting q d f k)

  module _ (whole : List Word) where
    -- What a tree means to those that wait for it.
    abbrev pub Meant : {p : Phrase} → Around p → List Word → Value p → Type 0
    Meant nothing ws v = Derives program limit whole ws v
    Meant (waiting q d f k) ws v = Yields limit (λ rs u. Meant k rs u) d ws (f v)

    -- In the state, with ws left, whatever is read from ws leads to trees that derive from the whole.
    abbrev pub At : State → List Word → Type 0
    At (at d s k) ws = Yields limit (λ rs u. Meant k rs u) d ws s

    entered_at : {p : Phrase} (t : Taken p) (k : Around p) (d e : ℕ) (rs : List Word) → Took (λ ms u. Meant k ms u) d e rs t → At (entered d e t k) rs
    entered_at (here s) k d e rs h = h
    entered_at (inside {q = q} t f) k d e rs h = entered_at t (waiting q d f k) d e rs h

    module _ (w : Word) (rs : List Word) (q : State) (room : opens w.token ≡ true → levels q ≤ limit) where
      met_at : {p : Phrase} (d : ℕ) (k : Around p) (next : Value p → Option State) (m : Met p) → Meets w rs (λ ms u. Meant k ms u) d m
          → ((v : Value p) → Meant k (w ∷ rs) v → next v ≡ Some q → At q rs) → met d (levels_after w.token d) k next m ≡ Some q → At q rs
      met_at d k next (takes t) h f e =
          let i : entered d (levels_after w.token d) t k ≡ q = some_same e in
          let l : levels q ≡ levels_after w.token d = ap levels (sym i) ∙ entered_levels t d (levels_after w.token d) k in
          rw i at (entered_at t k d (levels_after w.token d) rs (h (λ o. rw l at (room o))))
      met_at d k next (passes v) h f e = f v h e
      met_at d k next refuses h f e = none_some e

      after_at : {p : Phrase} (k : Around p) (v : Value p) → Meant k (w ∷ rs) v → after k v w.token w.place ≡ Some q → At q rs
      after_at nothing v h e = none_some e
      after_at (waiting p d f k) v h e =
          met_at d k (λ u. after k u w.token w.place) (meets w.token w.place (opened (f v)))
          (script_meets w rs (opened (f v)) (λ ms u. Meant k ms u) d (opened_yields (f v) (λ ms u. Meant k ms u) d (w ∷ rs) h)) (λ u. after_at k u) e

      pub moved_at : (s : State) → At s (w ∷ rs) → moved s w.token w.place ≡ Some q → At q rs
      moved_at (at d s k) h e =
          met_at d k (λ u. after k u w.token w.place) (meets w.token w.place (opened s))
          (script_meets w rs (opened s) (λ ms u. Meant k ms u) d (opened_yields s (λ ms u. Meant k ms u) d (w ∷ rs) h)) (λ u. after_at k u) e

    -- At the end of the words.
    ended_yields : {p : Phrase} (s : Script p) (R : List Word → Value p → Type 0) (d : ℕ) (v : Value p) → Yields limit R d [] s → ended s ≡ Some v → R [] v
    ended_yields (done u) R d v h e = rw (some_same e) at h
    ended_yields (word c y) R d v h e = none_some e
    ended_yields (either c y n) R d v h e = ended_yields n R d v h.1 e
    ended_yields (part g f) R d v h e = none_some e
    ended_yields (goto g) R d v h e = none_some e
    ended_yields {p} (within {q = q} s f) R d v h e = next (ended s) refl (λ u. ended_yields s (λ ms x. Yields limit R d ms (f x)) d u h) (λ u. ended_yields (f u) R d v) e
      where
        next : (o : Option (Value q)) → ended s ≡ o → ((u : Value q) → ended s ≡ Some u → Yields limit R d [] (f u)) → ((u : Value q) → Yields limit R d [] (f u) → ended (f u) ≡ Some v → R [] v)
            → then_ended (λ u. ended (f u)) o ≡ Some v → R [] v
        next None i g k e = none_some e
        next (Some u) i g k e = k u (g u i) e

    module _ (t : Program) where
      then_at : {p : Phrase} (k : Around p) (o : Option (Value p)) → ((u : Value p) → o ≡ Some u → Meant k [] u) → ((u : Value p) → Meant k [] u → ended_around k u ≡ Some t → Derives program limit whole [] t)
          → then_ended (λ u. ended_around k u) o ≡ Some t → Derives program limit whole [] t
      then_at k None g f e = none_some e
      then_at k (Some u) g f e = f u (g u refl) e

      around_at : {p : Phrase} (k : Around p) (v : Value p) → Meant k [] v → ended_around k v ≡ Some t → Derives program limit whole [] t
      around_at nothing v h e = rw (some_same e) at h
      around_at (waiting q d f k) v h e =
          then_at k (ended (opened (f v))) (λ u. ended_yields (opened (f v)) (λ ms x. Meant k ms x) d u (opened_yields (f v) (λ ms x. Meant k ms x) d [] h)) (λ u. around_at k u) e

      finished_at : (s : State) → At s [] → finished s ≡ Some t → Derives program limit whole [] t
      finished_at (at d s k) h e =
          then_at k (ended (opened s)) (λ u. ended_yields (opened s) (λ ms x. Meant k ms x) d u (opened_yields s (λ ms x. Meant k ms x) d [] h)) (λ u. around_at k u) e

      not_refused : {A : Type 0} (n : SentenceRefusal) (b : ℕ) → refused n b ≡ tree t → A
      not_refused n b e = let z : ◌≡◌ {A = ℕ} 0 1 = cc in absurd (omega arith)

      early_at : (end : ℕ) (o : Option Program) → early_or end o ≡ tree t → o ≡ Some t
      early_at end None e = not_refused Unexpected end e
      early_at end (Some u) e = let i : u ≡ t = cc in ap Some i

      pub run_at : (end : ℕ) (ws : List Word) (s : State) → At s ws → run limit end ws s ≡ tree t → Derives program limit whole [] t
      run_at end [] s h e = finished_at s h (early_at end (finished s) e)
      run_at end (w ∷ ws) s h e = next (moved s w.token w.place) refl (λ q. run_at end ws q) e
        where
          checked : (o l : Bool) (q : State) → (opens w.token ≡ o) → (leb (levels q) limit ≡ l) → moved s w.token w.place ≡ Some q → (At q ws → run limit end ws q ≡ tree t → Derives program limit whole [] t)
              → cond o (cond l (run limit end ws q) (refused TooDeep w.place)) (run limit end ws q) ≡ tree t → Derives program limit whole [] t
          checked true true q i j m rec e = rec (moved_at w ws q (λ _. leb-true (levels q) limit j) s h m) e
          checked true false q i j m rec e = not_refused TooDeep w.place e
          checked false l q i j m rec e = rec (moved_at w ws q (λ o. let z : false ≡ true = sym i ∙ o in false_true z) s h m) e
            where
              false_true : {A : Type 0} → false ≡ true → A
              false_true z = let y : ◌≡◌ {A = ℕ} 0 1 = ap {B = ℕ} (λ b. cond b 1 0) z in absurd (omega arith)

          next : (o : Option State) → moved s w.token w.place ≡ o → ((q : State) → At q ws → run limit end ws q ≡ tree t → Derives program limit whole [] t)
              → onward limit w.place (opens w.token) (λ q. run limit end ws q) o ≡ tree t → Derives program limit whole [] t
          next None m rec e = not_refused Unexpected w.place e
          next (Some q) m rec e = checked (opens w.token) (leb (levels q) limit) q refl refl m (rec q) e
