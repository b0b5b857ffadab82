-- Ways through the parser's code, step by step: what the parser did, and what the machine did meanwhile.
use Rattle.std.proofs.Common.{◌≡◌, ℕ, suc, ◌+◌, ◌-◌, ◌<◌, ◌≤◌, true, false, List, [], ◌∷◌, length, Some, None, Ok, Err, Result, sym, refl, ap, ◌∙◌, arith}
use Rattle.words.specs.Token.{Token, Word}
use Rattle.grammar.specs.Classes.{heads, Class, Content, opens}
use Rattle.grammar.specs.Grammar.{Phrase, Value}
use Rattle.grammar.specs.Parser.{Goal, Script, done, either, part, goto, Around, waiting, at, moved, finished, refused, run, start}
use Rattle.grammar.proofs.Found.{none_some, token_of, found_to_is}
use Rattle.grammar.proofs.Steps.{Fresh, alike, takes_word, takes_opening, handed_on, part_waits, or_done, done_alike}
use Rattle.parser.specs.declared.node.Node.{Node}
use Rattle.parser.specs.declared.refusal.Refusal.{Refusal}
use Rattle.parser.specs.declared.table.Parser.{Parser}
use Rattle.parser.specs.Records.{ahead, View}
use Rattle.parser.specs.Promises.{place_of, Took, Made, Spot, here, deeper, state, Goes, Fails, Read, Reads}
use Rattle.parser.proofs.Tables.{word_left}
use Rattle.parser.proofs.Moving.{moves_none, moves_trans, moves_took, moves_left, moves_made, took_ahead, left_ahead, made_ahead}

-- The next word, where a class has something of it.
record NextWord (c : Class) (x : Content c) (ws : List Word) : Type 0 where
  word : Word
  rest : List Word
  whole : ws ≡ word ∷ rest
  is : word.token ≡ token_of c x

next_word : (c : Class) (x : Content c) (ws : List Word) → heads c ws ≡ Some x → NextWord c x ws
next_word c x [] e = none_some e
next_word c x (w ∷ ws) e = record { word = w; rest = ws; whole = refl; is = (found_to_is c w.token x e).0 }

module _ {p : Phrase} {L : ℕ} {r : Parser} {a : Spot p} where
  pub goes_start : Goes L r r a a
  goes_start = record { moves = moves_none r; leads = λ limit d k e. refl }

  pub goes_trans : {s q : Parser} {b c : Spot p} → Goes L r s a b → Goes L s q b c → Goes L r q a c
  goes_trans {s} {q} {b} {c} g h = record {
    moves = moves_trans r s q g.moves h.moves;
    leads = λ limit d k e. g.leads limit d k e ∙ rw (sym (ap length g.moves.same.text)) (h.leads limit d k e);
  }

  -- The machine's state is another that goes on as it does.
  pub goes_alike : {s : Parser} {x y : Script p} → Goes L r s a (here x)
      → ((d : ℕ) (k : Around p) (t : Token) (n : ℕ) → moved (at d x k) t n ≡ moved (at d y k) t n) → ((d : ℕ) (k : Around p) → finished (at d x k) ≡ finished (at d y k)) → Goes L r s a (here y)
  goes_alike {s} {x} {y} g f e = record { moves = g.moves; leads = λ limit d k h. g.leads limit d k h ∙ (alike {ws = ahead s} {s = at d x k} {q = at d y k} (f d k) (e d k)).same }

  -- A word is taken that opens no level.
  pub goes_word : {s : Parser} {b : Spot p} (c : Class) (x : Content c) (q : Parser) (next : ℕ → Spot p) → Goes L r s a b → heads c (ahead s) ≡ Some x → Took true s q → opens (token_of c x) ≡ false
      → ((d n : ℕ) (k : Around p) → moved (state b d k) (token_of c x) n ≡ Some (state (next n) d k)) → Goes L r q a (next (place_of (length s.text.now) (ahead s)))
  goes_word {s} {b} c x q next g e t o m =
      let w = next_word c x (ahead s) e in
      let i : place_of (length s.text.now) (ahead s) ≡ w.word.place = ap (place_of (length s.text.now)) w.whole in
      record {
        moves = moves_trans r s q g.moves (moves_took s q (word_left c x s e) t);
        leads = λ limit d k h.
            g.leads limit d k h
            ∙ (ap (λ ws. run limit (length r.text.now) ws (state b d k)) w.whole
            ∙ ((takes_word {w = w.word} {ws = w.rest} {s = state b d k} {q = state (next w.word.place) d k} w.is (m d w.word.place k) o).same
            ∙ (ap (λ ws. run limit (length r.text.now) ws (state (next w.word.place) d k)) (sym (took_ahead s q w.word w.rest t w.whole))
            ∙ ap (λ n. run limit (length r.text.now) (ahead q) (state (next n) d k)) (sym i))));
      }

  -- A word is taken that opens a level, where one is left.
  pub goes_deeper : {s : Parser} {b : Spot p} (c : Class) (x : Content c) (q : Parser) (next : ℕ → Script p) → Goes L r s a b → heads c (ahead s) ≡ Some x → Took true s q → 1 ≤ L
      → ((d n : ℕ) (k : Around p) → moved (state b d k) (token_of c x) n ≡ Some (at (suc d) (next n) k)) → Goes L r q a (deeper (next (place_of (length s.text.now) (ahead s))))
  goes_deeper {s} {b} c x q next g e t le m =
      let w = next_word c x (ahead s) e in
      let i : place_of (length s.text.now) (ahead s) ≡ w.word.place = ap (place_of (length s.text.now)) w.whole in
      record {
        moves = moves_trans r s q g.moves (moves_took s q (word_left c x s e) t);
        leads = λ limit d k h.
            g.leads limit d k h
            ∙ (ap (λ ws. run limit (length r.text.now) ws (state b d k)) w.whole
            ∙ ((takes_opening {w = w.word} {ws = w.rest} {s = state b d k} {q = at (suc d) (next w.word.place) k} w.is (m d w.word.place k) (omega arith)).same
            ∙ (ap (λ ws. run limit (length r.text.now) ws (at (suc d) (next w.word.place) k)) (sym (took_ahead s q w.word w.rest t w.whole))
            ∙ ap (λ n. run limit (length r.text.now) (ahead q) (at (suc d) (next n) k)) (sym i))));
      }

  -- A word is left.
  pub goes_left : {s : Parser} {b : Spot p} (q : Parser) → Goes L r s a b → Took false s q → Goes L r q a b
  goes_left {s} {b} q g t = record {
    moves = moves_trans r s q g.moves (moves_left s q t);
    leads = λ limit d k h. g.leads limit d k h ∙ ap (λ ws. run limit (length r.text.now) ws (state b d k)) (sym (left_ahead s q t));
  }

  -- No word of the class comes, and the script is done.
  pub goes_done : {s : Parser} {c : Class} {y : Content c → ℕ → Script p} {v : Value p} → Goes L r s a (here (either c y (done v))) → heads c (ahead s) ≡ None → Goes L r s a (here (done v))
  goes_done {s} {c} {y} {v} g e = record { moves = g.moves; leads = λ limit d k h. g.leads limit d k h ∙ (or_done {ws = ahead s} {d = d} {c = c} {y = y} {v = v} {k = k} e).same }

  -- A part that is done is done at any level.
  pub goes_out : {s : Parser} {v : Value p} → Goes L r s a (deeper (done v)) → Goes L r s a (here (done v))
  goes_out {s} {v} g = record { moves = g.moves; leads = λ limit d k h. g.leads limit d k h ∙ (done_alike {d = suc d} {e = d} {v = v} {k = k}).same }

  -- A node is made.
  pub goes_made : {s : Parser} {b : Spot p} (n : Node) (i : ℕ) (q : Parser) → Goes L r s a b → s.made < s.at → s.made + r.at < r.made + s.at → Made n i s q → Goes L r q a b
  goes_made {s} {b} n i q g paid lt t = record {
    moves = moves_made n i r s q g.moves paid lt t;
    leads = λ limit d k h. g.leads limit d k h ∙ ap (λ ws. run limit (length r.text.now) ws (state b d k)) (sym (made_ahead n i s q t));
  }

  -- A part is read, and the rest of the script goes on with its tree.
  pub goes_part : {o : Phrase} {s : Parser} {g : Goal o} {f : Value o → Script p} {At : View → Value o → ℕ → Type 0} (q : Parser) (i : ℕ) → Fresh (start g)
      → Goes L r s a (here (part g f)) → (x : Read At L s q (here (goto g)) i) → Goes L r q a (here (f x.tree))
  goes_part {o} {s} {g} {f} q i fr w x = record {
    moves = moves_trans r s q w.moves x.goes.moves;
    leads = λ limit d k h. w.leads limit d k h ∙ ((part_waits {d = d} {g = g} {f = f} {k = k} fr).same
        ∙ (same_end limit d k h ∙ (handed_on {q = o} {d = d} {e = d} {v = x.tree} {f = f} {k = k}).same));
  }
    where
      same_end : (limit d : ℕ) (k : Around p) → d + L ≡ limit → run limit (length r.text.now) (ahead s) (at d (goto g) (waiting o d f k)) ≡ run limit (length r.text.now) (ahead q) (at d (done x.tree) (waiting o d f k))
      same_end limit d k h = rw (sym (ap length w.moves.same.text)) (x.goes.leads limit d (waiting o d f k) h)

  -- A part is read one level deeper.
  pub goes_part_deeper : {o : Phrase} {s : Parser} {g : Goal o} {f : Value o → Script p} {At : View → Value o → ℕ → Type 0} (q : Parser) (i : ℕ) → Fresh (start g) → 1 ≤ L
      → Goes L r s a (deeper (part g f)) → (x : Read At (L - 1) s q (here (goto g)) i) → Goes L r q a (deeper (f x.tree))
  goes_part_deeper {o} {s} {g} {f} q i fr le w x = record {
    moves = moves_trans r s q w.moves x.goes.moves;
    leads = λ limit d k h. w.leads limit d k h ∙ ((part_waits {d = suc d} {g = g} {f = f} {k = k} fr).same
        ∙ (same_end limit d k h ∙ (handed_on {q = o} {d = suc d} {e = suc d} {v = x.tree} {f = f} {k = k}).same));
  }
    where
      same_end : (limit d : ℕ) (k : Around p) → d + L ≡ limit → run limit (length r.text.now) (ahead s) (at (suc d) (goto g) (waiting o (suc d) f k)) ≡ run limit (length r.text.now) (ahead q) (at (suc d) (done x.tree) (waiting o (suc d) f k))
      same_end limit d k h = rw (sym (ap length w.moves.same.text)) (x.goes.leads limit (suc d) (waiting o (suc d) f k) (omega arith))

  -- A refusal of a part that is read here, or one level deeper.
  pub fails_part : {o : Phrase} {s : Parser} {g : Goal o} {f : Value o → Script p} (e : Refusal) → Fresh (start g) → Goes L r s a (here (part g f)) → Fails L s (here (goto g)) e → Fails L r a e
  fails_part {o} {s} {g} {f} e fr w x limit d k h =
      w.leads limit d k h ∙ ((part_waits {d = d} {g = g} {f = f} {k = k} fr).same ∙ rw (sym (ap length w.moves.same.text)) (x limit d (waiting o d f k) h))

  pub fails_part_deeper : {o : Phrase} {s : Parser} {g : Goal o} {f : Value o → Script p} (e : Refusal) → Fresh (start g) → 1 ≤ L → Goes L r s a (deeper (part g f)) → Fails (L - 1) s (here (goto g)) e → Fails L r a e
  fails_part_deeper {o} {s} {g} {f} e fr le w x limit d k h =
      w.leads limit d k h ∙ ((part_waits {d = suc d} {g = g} {f = f} {k = k} fr).same ∙ rw (sym (ap length w.moves.same.text)) (x limit (suc d) (waiting o (suc d) f k) (omega arith)))

  -- A refusal here.
  pub fails_here : {s : Parser} {b : Spot p} (e : Refusal) → Goes L r s a b
      → ((limit d : ℕ) (k : Around p) → d + L ≡ limit → run limit (length s.text.now) (ahead s) (state b d k) ≡ refused e.reason e.place) → Fails L r a e
  fails_here {s} {b} e w x limit d k h = w.leads limit d k h ∙ rw (sym (ap length w.moves.same.text)) (x limit d k h)

-- What another call read or refused, behind the way so far.
pub reads_behind : {p : Phrase} (At : View → Value p → ℕ → Type 0) {L : ℕ} {r s : Parser} (q : Parser) {a b : Spot p} (res : Result ℕ Refusal) → Goes L r s a b → Reads At L s q b res → Reads At L r q a res
reads_behind At q (Ok i) g x = record { tree = x.tree; below = x.below; held = x.held; goes = goes_trans g x.goes }
reads_behind At q (Err e) g f = λ limit d k h. g.leads limit d k h ∙ rw (sym (ap length g.moves.same.text)) (f limit d k h)
