-- Ways through the parser's code by the script in hand: the word that has to come, one of two, a level more.
use Rattle.std.proofs.Common.{◌≡◌, ℕ, suc, ◌+◌, ◌<◌, true, false, cond, leb, List, [], ◌∷◌, length, Some, None, sym, refl, ap, ◌∙◌, arith}
use borrow.Author.Tests.{lt-leb}
use Rattle.words.specs.declared.token.Mark.{Mark}
use Rattle.grammar.specs.declared.refusal.SentenceRefusal.TheVariants.{Unexpected, TooDeep}
use Rattle.words.specs.Token.{Word}
use Rattle.grammar.specs.Classes.{heads, Class, Content, the_mark, found, opens, levels_after}
use Rattle.grammar.specs.Grammar.{Part, Phrase, a, Value}
use Rattle.grammar.specs.Parser.{Goal, Script, begin, done, word, either, part, goto, Around, State, levels, refused, at, met, meets, after, moved, if_found, refuses, run, onward, start, opened, then_ended, ended, ended_around, early_or, waiting}
use Rattle.grammar.proofs.Found.{none_some, token_of, found_to_is}
use Rattle.grammar.proofs.Steps.{Fresh, part_waits, handed_on}
use Rattle.parser.specs.declared.refusal.Refusal.{Refusal}
use Rattle.parser.specs.declared.table.Parser.{Parser}
use Rattle.parser.specs.Records.{ahead}
use Rattle.parser.specs.Promises.{place_of, Moves, Spot, here, deeper, Goes, Fails}
use Rattle.parser.specs.Expecting.{Expected, Missed, Opened, IsTooDeep, Unopened, missing, too_deep}
use Rattle.parser.proofs.Moving.{moves_trans}
use Rattle.parser.proofs.Going.{goes_start, goes_word, goes_deeper, fails_here}

module _ (limit end : ℕ) where
  -- The next word is not the one that has to come.
  pub word_refused : {p : Phrase} (c : Class) (y : Content c → ℕ → Script p) (ws : List Word) (d : ℕ) (k : Around p) → heads c ws ≡ None
      → run limit end ws (at d (word c y) k) ≡ refused Unexpected (place_of end ws)
  word_refused c y [] d k e = refl
  word_refused c y (w ∷ ws) d k e =
      ap (λ o. onward limit w.place (opens w.token) (λ q. run limit end ws q) (met d (levels_after w.token d) k (λ v. after k v w.token w.place) (if_found (λ x. y x w.place) refuses o))) e

  -- A word opens a level, and none is left.
  pub deep_refused : (c : Class) (x : Content c) (ws : List Word) (s : State) → heads c ws ≡ Some x → opens (token_of c x) ≡ true
      → ((b : ℕ) → (q : State) × (moved s (token_of c x) b ≡ Some q) × (limit < levels q)) → run limit end ws s ≡ refused TooDeep (place_of end ws)
  deep_refused c x [] s e o f = none_some e
  deep_refused c x (w ∷ ws) s e o f =
      let t = (found_to_is c w.token x e).0 in
      let q = f w.place in
      ap (λ y. onward limit w.place (opens w.token) (λ r. run limit end ws r) y) (ap (λ u. moved s u w.place) t ∙ q.1)
      ∙ (ap (λ b. cond b (cond (leb (levels q.0) limit) (run limit end ws q.0) (refused TooDeep w.place)) (run limit end ws q.0)) (ap opens t ∙ o)
      ∙ ap (λ b. cond b (run limit end ws q.0) (refused TooDeep w.place)) (lt-leb (levels q.0) limit q.2))

-- Where a script's next word has the class, the word is taken; where it has not, the other script goes on.
module _ (limit end : ℕ) {p : Phrase} (c : Class) (y : Content c → ℕ → Script p) (n : Script p) (d : ℕ) (k : Around p) where
  first_run : (x : Content c) (ws : List Word) → heads c ws ≡ Some x → run limit end ws (at d (either c y n) k) ≡ run limit end ws (at d (word c y) k)
  first_run x [] e = none_some e
  first_run x (w ∷ ws) e =
      ap (λ o. onward limit w.place (opens w.token) (λ q. run limit end ws q) (met d (levels_after w.token d) k (λ v. after k v w.token w.place) (if_found (λ z. y z w.place) (meets w.token w.place n) o))) e
      ∙ sym (ap (λ o. onward limit w.place (opens w.token) (λ q. run limit end ws q) (met d (levels_after w.token d) k (λ v. after k v w.token w.place) (if_found (λ z. y z w.place) refuses o))) e)

  else_run : (ws : List Word) → heads c ws ≡ None → opened n ≡ n → run limit end ws (at d (either c y n) k) ≡ run limit end ws (at d n k)
  else_run [] e f = sym (ap (λ s. early_or end (then_ended (λ v. ended_around k v) (ended s))) f)
  else_run (w ∷ ws) e f =
      ap (λ o. onward limit w.place (opens w.token) (λ q. run limit end ws q) (met d (levels_after w.token d) k (λ v. after k v w.token w.place) (if_found (λ z. y z w.place) (meets w.token w.place n) o))) e
      ∙ sym (ap (λ s. onward limit w.place (opens w.token) (λ q. run limit end ws q) (met d (levels_after w.token d) k (λ v. after k v w.token w.place) (meets w.token w.place s))) f)

not_run : (limit end : ℕ) {p : Phrase} (c : Class) (y : Content c → ℕ → Script p) (e : Class) (z : Content e → ℕ → Script p) (d : ℕ) (k : Around p) (ws : List Word) → heads e ws ≡ None
    → run limit end ws (at d (either c y (word e z)) k) ≡ run limit end ws (at d (word c y) k)
not_run limit end c y e z d k [] i = refl
not_run limit end c y e z d k (w ∷ ws) i =
    ap (λ o. onward limit w.place (opens w.token) (λ q. run limit end ws q) (met d (levels_after w.token d) k (λ v. after k v w.token w.place) (if_found (λ x. y x w.place) (if_found (λ x. z x w.place) refuses o) (found c w.token)))) i

-- A word of the class moves a script that waits for it.
word_moves : {p : Phrase} (c : Class) (x : Content c) (y : Content c → ℕ → Script p) (d e n : ℕ) (k : Around p) → found c (token_of c x) ≡ Some x → levels_after (token_of c x) d ≡ e
    → moved (at d (word c y) k) (token_of c x) n ≡ Some (at e (y x n) k)
word_moves c x y d e n k is l =
    ap (λ o. met d (levels_after (token_of c x) d) k (λ v. after k v (token_of c x) n) (if_found (λ z. y z n) refuses o)) is
    ∙ ap (λ l. Some (at l (y x n) k)) l

opening : (c : Class) (x : Content c) (d : ℕ) → opens (token_of c x) ≡ true → levels_after (token_of c x) d ≡ suc d
opening c x d up = rw up

module _ {p : Phrase} {L : ℕ} {r : Parser} {a : Spot p} {s : Parser} where
  pub goes_first : {c : Class} {y : Content c → ℕ → Script p} {n : Script p} {x : Content c} → heads c (ahead s) ≡ Some x → Goes L r s a (here (either c y n)) → Goes L r s a (here (word c y))
  goes_first {c} {y} {n} {x} e g = record { moves = g.moves; leads = λ limit d k h. g.leads limit d k h ∙ first_run limit (length r.text.now) c y n d k x (ahead s) e }

  pub goes_else : {c : Class} {y : Content c → ℕ → Script p} {n : Script p} → heads c (ahead s) ≡ None → opened n ≡ n → Goes L r s a (here (either c y n)) → Goes L r s a (here n)
  goes_else {c} {y} {n} e f g = record { moves = g.moves; leads = λ limit d k h. g.leads limit d k h ∙ else_run limit (length r.text.now) c y n d k (ahead s) e f }

  pub goes_else_deeper : {c : Class} {y : Content c → ℕ → Script p} {n : Script p} → heads c (ahead s) ≡ None → opened n ≡ n → Goes L r s a (deeper (either c y n)) → Goes L r s a (deeper n)
  goes_else_deeper {c} {y} {n} e f g = record { moves = g.moves; leads = λ limit d k h. g.leads limit d k h ∙ else_run limit (length r.text.now) c y n (suc d) k (ahead s) e f }

  -- The word that has to come is taken: on the level where it stands, or closing the one deeper.
  module _ {c : Class} {y : Content c → ℕ → Script p} {x : Content c} {q : Parser} (h : Expected c x s q) (quiet : opens (token_of c x) ≡ false) (is : found c (token_of c x) ≡ Some x) where
    pub goes_on : ((d : ℕ) → levels_after (token_of c x) d ≡ d) → Goes L r s a (here (word c y)) → Goes L r q a (here (y x (place_of (length s.text.now) (ahead s))))
    goes_on l g = goes_word c x q (λ b. here (y x b)) g h.is h.took quiet (λ d n k. word_moves c x y d d n k is (l d))

    pub goes_on_deeper : ((d : ℕ) → levels_after (token_of c x) (suc d) ≡ suc d) → Goes L r s a (deeper (word c y)) → Goes L r q a (deeper (y x (place_of (length s.text.now) (ahead s))))
    goes_on_deeper l g = goes_word c x q (λ b. deeper (y x b)) g h.is h.took quiet (λ d n k. word_moves c x y (suc d) (suc d) n k is (l d))

    pub goes_closing : ((d : ℕ) → levels_after (token_of c x) (suc d) ≡ d) → Goes L r s a (deeper (word c y)) → Goes L r q a (here (y x (place_of (length s.text.now) (ahead s))))
    goes_closing l g = goes_word c x q (λ b. here (y x b)) g h.is h.took quiet (λ d n k. word_moves c x y (suc d) d n k is (l d))

  -- Of two words that may come it is not the second.
  pub goes_not : {c e : Class} {y : Content c → ℕ → Script p} {z : Content e → ℕ → Script p} → heads e (ahead s) ≡ None → Goes L r s a (here (either c y (word e z))) → Goes L r s a (here (word c y))
  goes_not {c} {e} {y} {z} i g = record { moves = g.moves; leads = λ limit d k h. g.leads limit d k h ∙ not_run limit (length r.text.now) c y e z d k (ahead s) i }

  -- It does not come.
  pub fails_missing : {c : Class} {y : Content c → ℕ → Script p} (e : Refusal) → Missed c s e → Goes L r s a (here (word c y)) → Fails L r a e
  fails_missing {c} {y} e h g = fails_here e g (λ limit d k i. rw (h.refused.reason, h.refused.place) (word_refused limit (length s.text.now) c y (ahead s) d k h.is))

  pub fails_missing_deeper : {c : Class} {y : Content c → ℕ → Script p} (e : Refusal) → Missed c s e → Goes L r s a (deeper (word c y)) → Fails L r a e
  fails_missing_deeper {c} {y} e h g = fails_here e g (λ limit d k i. rw (h.refused.reason, h.refused.place) (word_refused limit (length s.text.now) c y (ahead s) (suc d) k h.is))

  -- The word opens a level, or none is left.
  module _ {c : Class} {y : Content c → ℕ → Script p} {x : Content c} (e : heads c (ahead s) ≡ Some x) (is : found c (token_of c x) ≡ Some x) (up : opens (token_of c x) ≡ true) where
    pub goes_opening : {q : Parser} {l : ℕ} → Opened L s q l → Goes L r s a (here (word c y)) → Goes L r q a (deeper (y x (place_of (length s.text.now) (ahead s))))
    goes_opening {q} h g = goes_deeper c x q (λ b. y x b) g e h.took (omega (arith, h.level)) (λ d n k. word_moves c x y d (suc d) n k is (opening c x d up))

    pub fails_deep : (u : Refusal) → IsTooDeep L s u → Goes L r s a (here (word c y)) → Fails L r a u
    fails_deep u h g = fails_here u g (λ limit d k i. rw (h.refused.reason, h.refused.place)
        (deep_refused limit (length s.text.now) c x (ahead s) (at d (word c y) k) e up (λ b. (at (suc d) (y x b) k, word_moves c x y d (suc d) b k is (opening c x d up), omega (arith, h.none)))))

  pub fails_unopened : {m : Mark} {y : Content (the_mark m) → ℕ → Script p} (u : Refusal) → found (the_mark m) (token_of (the_mark m) tt) ≡ Some tt → opens (token_of (the_mark m) tt) ≡ true
      → Unopened m L s u → Goes L r s a (here (word (the_mark m) y)) → Fails L r a u
  fails_unopened u is up (missing h) g = fails_missing u h g
  fails_unopened u is up (too_deep e h) g = fails_deep e is up u h g

  -- A part is read, or refused: on the level where it stands, or one deeper.
  pub goes_behind : {o : Phrase} {g : Goal o} {f : Value o → Script p} {v : Value o} {q : Parser} → Fresh (start g)
      → Goes L s q (here (goto g)) (here (done v)) → Goes L r s a (here (part g f)) → Goes L r q a (here (f v))
  goes_behind {o} {g} {f} {v} {q} fr x w = record {
    moves = moves_trans r s q w.moves x.moves;
    leads = λ limit d k h. w.leads limit d k h ∙ ((part_waits {d = d} {g = g} {f = f} {k = k} fr).same
        ∙ (same_end limit d k h ∙ (handed_on {q = o} {d = d} {e = d} {v = v} {f = f} {k = k}).same));
  }
    where
      same_end : (limit d : ℕ) (k : Around p) → d + L ≡ limit → run limit (length r.text.now) (ahead s) (at d (goto g) (waiting o d f k)) ≡ run limit (length r.text.now) (ahead q) (at d (done v) (waiting o d f k))
      same_end limit d k h = rw (sym (ap length w.moves.same.text)) (x.leads limit d (waiting o d f k) h)

  pub goes_behind_deeper : {o : Phrase} {l : ℕ} {g : Goal o} {f : Value o → Script p} {v : Value o} {q : Parser} → suc l ≡ L → Fresh (start g)
      → Goes l s q (here (goto g)) (here (done v)) → Goes L r s a (deeper (part g f)) → Goes L r q a (deeper (f v))
  goes_behind_deeper {o} {l} {g} {f} {v} {q} le fr x w = record {
    moves = moves_trans r s q w.moves x.moves;
    leads = λ limit d k h. w.leads limit d k h ∙ ((part_waits {d = suc d} {g = g} {f = f} {k = k} fr).same
        ∙ (same_end limit d k h ∙ (handed_on {q = o} {d = suc d} {e = suc d} {v = v} {f = f} {k = k}).same));
  }
    where
      same_end : (limit d : ℕ) (k : Around p) → d + L ≡ limit → run limit (length r.text.now) (ahead s) (at (suc d) (goto g) (waiting o (suc d) f k)) ≡ run limit (length r.text.now) (ahead q) (at (suc d) (done v) (waiting o (suc d) f k))
      same_end limit d k h = rw (sym (ap length w.moves.same.text)) (x.leads limit (suc d) (waiting o (suc d) f k) (omega (arith, le)))

  pub fails_behind : {o : Phrase} {g : Goal o} {f : Value o → Script p} (e : Refusal) → Fresh (start g) → Fails L s (here (goto g)) e → Goes L r s a (here (part g f)) → Fails L r a e
  fails_behind {o} {g} {f} e fr x w limit d k h =
      w.leads limit d k h ∙ ((part_waits {d = d} {g = g} {f = f} {k = k} fr).same ∙ rw (sym (ap length w.moves.same.text)) (x limit d (waiting o d f k) h))

  pub fails_behind_deeper : {o : Phrase} {l : ℕ} {g : Goal o} {f : Value o → Script p} (e : Refusal) → suc l ≡ L → Fresh (start g) → Fails l s (here (goto g)) e → Goes L r s a (deeper (part g f)) → Fails L r a e
  fails_behind_deeper {o} {l} {g} {f} e le fr x w limit d k h =
      w.leads limit d k h ∙ ((part_waits {d = suc d} {g = g} {f = f} {k = k} fr).same ∙ rw (sym (ap length w.moves.same.text)) (x limit (suc d) (waiting o (suc d) f k) (omega (arith, le))))

-- The same refusals, with the parser's move up to them.
module _ {p : Phrase} {L : ℕ} {r : Parser} {a : Spot p} {s : Parser} (q : Parser) (e : Refusal) (m : Moves s q) where
  pub stops_behind : {o : Phrase} {g : Goal o} {f : Value o → Script p} → Fresh (start g) → Goes L r s a (here (part g f)) → Fails L s (here (goto g)) e
      → record { moves : Moves r q; reads : Fails L r a e }
  stops_behind fr g x = record { moves = moves_trans r s q g.moves m; reads = fails_behind e fr x g }

  pub stops_behind_deeper : {o : Phrase} {l : ℕ} {g : Goal o} {f : Value o → Script p} → suc l ≡ L → Fresh (start g) → Goes L r s a (deeper (part g f)) → Fails l s (here (goto g)) e
      → record { moves : Moves r q; reads : Fails L r a e }
  stops_behind_deeper le fr g x = record { moves = moves_trans r s q g.moves m; reads = fails_behind_deeper e le fr x g }

  pub stops_missing : {c : Class} {y : Content c → ℕ → Script p} → Goes L r s a (here (word c y)) → Missed c s e → record { moves : Moves r q; reads : Fails L r a e }
  stops_missing g h = record { moves = moves_trans r s q g.moves m; reads = fails_missing e h g }

  pub stops_missing_deeper : {c : Class} {y : Content c → ℕ → Script p} → Goes L r s a (deeper (word c y)) → Missed c s e → record { moves : Moves r q; reads : Fails L r a e }
  stops_missing_deeper g h = record { moves = moves_trans r s q g.moves m; reads = fails_missing_deeper e h g }

  pub stops_deep : {c : Class} {y : Content c → ℕ → Script p} (x : Content c) → heads c (ahead s) ≡ Some x → found c (token_of c x) ≡ Some x → opens (token_of c x) ≡ true
      → Goes L r s a (here (word c y)) → IsTooDeep L s e → record { moves : Moves r q; reads : Fails L r a e }
  stops_deep x i f o g h = record { moves = moves_trans r s q g.moves m; reads = fails_deep i f o e h g }

  pub stops_unopened : {b : Mark} {y : Content (the_mark b) → ℕ → Script p} → found (the_mark b) (token_of (the_mark b) tt) ≡ Some tt → opens (token_of (the_mark b) tt) ≡ true
      → Goes L r s a (here (word (the_mark b) y)) → Unopened b L s e → record { moves : Moves r q; reads : Fails L r a e }
  stops_unopened f o g h = record { moves = moves_trans r s q g.moves m; reads = fails_unopened e f o h g }

-- A part's first word opens a level, or none is left.
module _ {p : Part} (c : Class) (x : Content c) (f : ℕ → Script (a p)) {L : ℕ} {r : Parser} (e : heads c (ahead r) ≡ Some x)
    (takes : (d b : ℕ) (k : Around (a p)) → moved (at d (goto (begin (a p))) k) (token_of c x) b ≡ Some (at (suc d) (f b) k)) where
  pub part_opened : {s : Parser} {l : ℕ} → Opened L r s l → Goes L r s (here (goto (begin (a p)))) (deeper (f (place_of (length r.text.now) (ahead r))))
  part_opened {s} o = goes_deeper c x s f goes_start e o.took (omega (arith, o.level)) takes

  pub part_deep : (q : Parser) (u : Refusal) → opens (token_of c x) ≡ true → Moves r q → IsTooDeep L r u → record { moves : Moves r q; reads : Fails L r (here (goto (begin (a p)))) u }
  part_deep q u up m h = record {
    moves = m;
    reads = fails_here {r = r} {a = here (goto (begin (a p)))} {b = here (goto (begin (a p)))} u goes_start (λ limit d k i. rw (h.refused.reason, h.refused.place)
        (deep_refused limit (length r.text.now) c x (ahead r) (at d (goto (begin (a p))) k) e up (λ b. (at (suc d) (f b) k, takes d b k, omega (arith, h.none)))));
  }
