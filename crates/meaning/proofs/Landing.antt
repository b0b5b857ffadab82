-- The go tos of an accepted text lead to the statements behind their labels.
use Rattle.std.proofs.Common.{◌≡◌, ℕ, Bool, true, false, cond, not, ◌&&◌, ◌||◌, List, [], ◌++◌, Some, None, Option, sym, refl, ap, ◌∙◌, subst, append-nil}
use Rattle.std.specs.Str.{bytes_eq}
use Rattle.grammar.specs.Tree.{one, more, Name, Exp, Element, Statement, labelled, conditional, repeated, assigned, go, switched, input, printed, stop, sequence, Item, comment, integer, boolean, array, switch, action, Program}
use Rattle.symbols.specs.declared.refusal.NameRefusal.TheVariants.{JumpIntoFor}
use Rattle.symbols.specs.Occurrences.{Occurrence, as_target, as_selector, in_switch, at, each, in_exp, in_element, in_statement, in_item, occurrences}
use Rattle.symbols.specs.Symbols.{symbols, kind_in}
use Rattle.symbols.specs.Jumps.{open_labels, item_labels, outer_labels, is_among, is_label, leads_inside, switch_leads, jump_offences, item_jumps}
use Rattle.symbols.specs.Rules.{accepted, verdict}
use Rattle.symbols.specs.Laws.{In, here, later}
use Rattle.symbols.proofs.Lists.{in_left, in_right}
use Rattle.symbols.proofs.Offences.{empty_left, empty_right, nothing_told, accepted_to_keeps_all}
use Rattle.symbols.proofs.Names.{names_agree}
use Rattle.symbols.proofs.Table.{from_same, name_said}
use Rattle.figures.specs.Kinds.{Kind}
use Rattle.meaning.specs.Names.{labels_of, names_of}
use Rattle.meaning.specs.Positions.{Loop, Continuation, nothing, rest, turn, Position, end, enter, find, find_in_text, destination, statement_of, followed_by, statements}
use Rattle.meaning.specs.Machine.{State}
use Rattle.meaning.specs.Laws.{has_label}
use Rattle.meaning.specs.Accepted.{Stands, label_here, past_label, past_if, past_for, in_front, at_back, StandsInText, Lands, Reached, LandingLaw}
use Rattle.meaning.proofs.Jumping.{true_is_not_false, among_both, find_misses}
use Rattle.meaning.proofs.Switches.{in_cases, from_is_switch, declares, label_named}
use Rattle.meaning.proofs.Reaching.{PassesOn, For, After, at_nothing, at_rest, at_turn, At, OfText, beginning_keeps, run_keeps}

-- The statement that `find` comes to.
pub record Finds (l : List ℕ) (whole : Statement) (p : Position) : Type 0 where
  pub statement : Statement
  pub surroundings : Continuation
  pub stands : Stands l statement whole
  pub found : p ≡ enter statement surroundings

finds_within : {l : List ℕ} {a b : Statement} {p q : Position} → ((s : Statement) → Stands l s a → Stands l s b) → q ≡ p → Finds l a p → Finds l b q
finds_within up e h = record { statement = h.statement; surroundings = h.surroundings; stands = up h.statement h.stands; found = e ∙ h.found }

no_label : {A : Type 0} → false ≡ true → A
no_label e = absurd (true_is_not_false (sym e))

hits_label : (l : List ℕ) (m : Name) (s : Statement) (k : Continuation) (o : Position) (b : Bool) → bytes_eq l m.letters ≡ b → (b || has_label l s) ≡ true
    → (has_label l s ≡ true → Finds l s (find l s k o)) → Finds l (labelled m s) (cond b (enter s k) (find l s k o))
hits_label l m s k o true e h next = record { statement = s; surroundings = k; stands = label_here (from_same l m.letters e); found = refl }
hits_label l m s k o false e h next = finds_within (λ r. past_label) refl (next h)

hits_sequence : (l : List ℕ) (a b : Statement) (k : Continuation) (o : Position) (x : Bool) → has_label l a ≡ x → (x || has_label l b) ≡ true
    → (has_label l a ≡ true → Finds l a (find l a (rest b k) (find l b k o))) → (has_label l b ≡ true → Finds l b (find l b k o))
    → Finds l (sequence a b) (find l a (rest b k) (find l b k o))
hits_sequence l a b k o true e h first second = finds_within (λ r. in_front) refl (first e)
hits_sequence l a b k o false e h first second = finds_within (λ r. at_back) (find_misses l a (rest b k) (find l b k o) e) (second h)

-- A label that is there is found.
find_hits : (l : List ℕ) (s : Statement) (k : Continuation) (o : Position) → has_label l s ≡ true → Finds l s (find l s k o)
find_hits l (labelled m s) k o e = hits_label l m s k o (bytes_eq l m.letters) refl e (find_hits l s k o)
find_hits l (sequence a b) k o e =
    hits_sequence l a b k o (has_label l a) refl (sym (among_both (open_labels a) (open_labels b) l) ∙ e) (find_hits l a (rest b k) (find l b k o)) (find_hits l b k o)
find_hits l (conditional p x s) k o e = finds_within (λ r. past_if) refl (find_hits l s k o e)
find_hits l (repeated p x es s) k o e = no_label e
find_hits l (assigned v x) k o e = no_label e
find_hits l (go p m) k o e = no_label e
find_hits l (switched p x y) k o e = no_label e
find_hits l (input p v) k o e = no_label e
find_hits l (printed p es) k o e = no_label e
find_hits l (stop p) k o e = no_label e

-- The labels that a text has outside of its fors.
abbrev text_labels : Option Statement → List (List ℕ)
text_labels None = []
text_labels (Some s) = open_labels s

item_text : (i : Item) → item_labels i ≡ text_labels (statement_of i)
item_text comment = refl
item_text (integer xs) = refl
item_text (boolean xs) = refl
item_text (array gs) = refl
item_text (switch x xs) = refl
item_text (action s) = refl

joined_labels : (a b : Option Statement) → text_labels a ++ text_labels b ≡ text_labels (followed_by a b)
joined_labels None b = refl
joined_labels (Some a) None = append-nil (open_labels a)
joined_labels (Some a) (Some b) = refl

outer_text : (t : Program) → outer_labels t ≡ text_labels (statements t)
outer_text (one i) = item_text i
outer_text (more is i) =
    ap (λ l. l ++ item_labels i) (outer_text is) ∙ ap (λ l. text_labels (statements is) ++ l) (item_text i) ∙ joined_labels (statements is) (statement_of i)

module _ (t : Program) where
  -- The labels that a go to before k sees.
  abbrev seen_by : Continuation → List (List ℕ)
  seen_by nothing = outer_labels t
  seen_by (rest s k) = seen_by k
  seen_by (turn loop e es k) = open_labels loop.body ++ seen_by k

  -- A statement of the text, whose go tos see their labels.
  pub record Part (k : Continuation) (s : Statement) : Type 0 where
    pub quiet : jump_offences (symbols t) (seen_by k) s ≡ []
    pub listed : (o : Occurrence) → In o (in_statement s) → In o (occurrences t)
    pub placed : (l : List ℕ) (r : Statement) → Stands l r s → StandsInText l r (statements t)

  part_parts : PassesOn Part
  part_parts = record {
    labelled_part = λ h. record { quiet = h.quiet; listed = λ o i. h.listed o (later i); placed = λ l r i. h.placed l r (past_label i) };
    first_part = λ {k} {a} {b} h. record {
      quiet = empty_left (jump_offences (symbols t) (seen_by k) a) (jump_offences (symbols t) (seen_by k) b) h.quiet;
      listed = λ o i. h.listed o (in_left o (in_statement a) (in_statement b) i);
      placed = λ l r i. h.placed l r (in_front i);
    };
    second_part = λ {k} {a} {b} h. record {
      quiet = empty_right (jump_offences (symbols t) (seen_by k) a) (jump_offences (symbols t) (seen_by k) b) h.quiet;
      listed = λ o i. h.listed o (in_right o (in_statement a) (in_statement b) i);
      placed = λ l r i. h.placed l r (at_back i);
    };
    governed_part = λ {k} {p} {e} {s} h. record { quiet = h.quiet; listed = λ o i. h.listed o (in_right o (in_exp e) (in_statement s) i); placed = λ l r i. h.placed l r (past_if i) };
    body_part = λ {k} {p} {x} {es} {s} h e es'. record {
      quiet = h.quiet;
      listed = λ o i. h.listed o (later (in_right o (each in_element es) (in_statement s) i));
      placed = λ l r i. h.placed l r (past_for i);
    };
  }

  -- A label that is seen is landed on.
  text_lands : (l : List ℕ) (text : Option Statement) → is_among (text_labels text) l ≡ true → Lands text l (find_in_text l text)
  text_lands l None e = no_label e
  text_lands l (Some s) e =
      let h = find_hits l s nothing end e in
      record { statement = h.statement; surroundings = h.surroundings; stands = h.stands; lands = h.found }

  turn_lands : (l : List ℕ) (loop : Loop) (e : Element) (es : List Element) (k : Continuation) → For Part k loop → (b : Bool) → has_label l loop.body ≡ b
      → (b || is_among (seen_by k) l) ≡ true → (is_among (seen_by k) l ≡ true → Lands (statements t) l (destination (statements t) l k))
      → Lands (statements t) l (destination (statements t) l (turn loop e es k))
  turn_lands l loop e es k f true m h next =
      let i = find_hits l loop.body (turn loop e es k) (destination (statements t) l k) m in
      record { statement = i.statement; surroundings = i.surroundings; stands = f.said.placed l i.statement (past_for i.stands); lands = i.found }
  turn_lands l loop e es k f false m h next =
      let i = next h in
      record {
        statement = i.statement;
        surroundings = i.surroundings;
        stands = i.stands;
        lands = find_misses l loop.body (turn loop e es k) (destination (statements t) l k) m ∙ i.lands;
      }

  destination_lands : (l : List ℕ) {k : Continuation} → After Part k → is_among (seen_by k) l ≡ true → Lands (statements t) l (destination (statements t) l k)
  destination_lands l at_nothing e = text_lands l (statements t) (ap (λ ls. is_among ls l) (sym (outer_text t)) ∙ e)
  destination_lands l (at_rest h j) e = destination_lands l j e
  destination_lands l (at_turn {loop} {e = x} {es} {k} h j) e =
      turn_lands l loop x es k h (has_label l loop.body) refl (sym (among_both (open_labels loop.body) (seen_by k) l) ∙ e) (destination_lands l j)

  -- A label that does not lead inside is seen.
  seen : (a b : Bool) → a ≡ true → (a && not b) ≡ false → b ≡ true
  seen true true e h = refl
  seen true false e h = absurd (true_is_not_false h)
  seen false b e h = no_label e

  module _ (ok : verdict t ≡ accepted) where
    go_lands : (p : ℕ) (l : Name) (k : Continuation) → Part k (go p l) → After Part k → Lands (statements t) l.letters (destination (statements t) l.letters k)
    go_lands p l k h j =
        let suits_label = (names_agree t ok).uses_suit (at as_target l) (h.listed (at as_target l) here) in
        let inside = nothing_told (leads_inside (symbols t) (seen_by k) l) l.place h.quiet in
        destination_lands l.letters j (seen (is_label (kind_in (symbols t) l.letters)) (is_among (seen_by k) l.letters) suits_label inside)

    -- Every label of a switch that stands in the text is a label, by the switch's own declaration.
    switch_lands : (p : ℕ) (x : Name) (e : Exp) (k : Continuation) → Part k (switched p x e) → After Part k
        → (l : List ℕ) → In l ((names_of t).labels x.letters) → Lands (statements t) l (destination (statements t) l k)
    switch_lands p x e k h j l i =
        let o = at as_selector x in
        let stands = h.listed o here in
        let s = from_is_switch (kind_in (symbols t) x.letters) ((names_agree t ok).uses_suit o stands) in
        let d = declares t x.letters s.0 (sym (name_said t o stands).0 ∙ s.1) in
        let n = label_named l s.0 (subst (λ y. In l (labels_of y)) s.1 i) in
        let y = n.name in
        let inside = nothing_told (switch_leads (leads_inside (symbols t) (seen_by k)) (kind_in (symbols t) x.letters)) x.place h.quiet in
        let quiet = n.not_said (leads_inside (symbols t) (seen_by k)) (ap (switch_leads (leads_inside (symbols t) (seen_by k))) (sym s.1) ∙ inside) in
        let sees = seen (is_label (kind_in (symbols t) y.letters)) (is_among (seen_by k) y.letters) ((names_agree t ok).uses_suit (at in_switch y) (d (at in_switch y) n.listed)) quiet in
        destination_lands l j (subst (λ m. is_among (seen_by k) m ≡ true) n.spelled sees)

  -- The text is a part of itself.
  abbrev Quiet : Option Statement → Type 0
  Quiet None = Unit {0}
  Quiet (Some s) = jump_offences (symbols t) (outer_labels t) s ≡ []

  abbrev Listed : List Occurrence → Option Statement → Type 0
  Listed os None = Unit {0}
  Listed os (Some s) = (o : Occurrence) → In o (in_statement s) → In o os

  item_quiet : (i : Item) → item_jumps (symbols t) (outer_labels t) i ≡ [] → Quiet (statement_of i)
  item_quiet comment e = tt
  item_quiet (integer xs) e = tt
  item_quiet (boolean xs) e = tt
  item_quiet (array gs) e = tt
  item_quiet (switch x xs) e = tt
  item_quiet (action s) e = e

  joined_quiet : (a b : Option Statement) → Quiet a → Quiet b → Quiet (followed_by a b)
  joined_quiet None b h j = j
  joined_quiet (Some a) None h j = h
  joined_quiet (Some a) (Some b) h j = ap (λ l. l ++ jump_offences (symbols t) (outer_labels t) b) h ∙ j

  quiet_text : (is : Program) → each (item_jumps (symbols t) (outer_labels t)) is ≡ [] → Quiet (statements is)
  quiet_text (one i) e = item_quiet i e
  quiet_text (more is i) e =
      let f = item_jumps (symbols t) (outer_labels t) in
      joined_quiet (statements is) (statement_of i) (quiet_text is (empty_left (each f is) (f i) e)) (item_quiet i (empty_right (each f is) (f i) e))

  item_listed : (i : Item) → Listed (in_item i) (statement_of i)
  item_listed comment = tt
  item_listed (integer xs) = tt
  item_listed (boolean xs) = tt
  item_listed (array gs) = tt
  item_listed (switch x xs) = tt
  item_listed (action s) = λ o h. h

  joined_listed : (os ps : List Occurrence) (a b : Option Statement) → Listed os a → Listed ps b → Listed (os ++ ps) (followed_by a b)
  joined_listed os ps None None h j = tt
  joined_listed os ps None (Some b) h j = λ o i. in_right o os ps (j o i)
  joined_listed os ps (Some a) None h j = λ o i. in_left o os ps (h o i)
  joined_listed os ps (Some a) (Some b) h j = λ o i.
      in_cases o (in_statement a) (in_statement b) (In o (os ++ ps)) (λ q. in_left o os ps (h o q)) (λ q. in_right o os ps (j o q)) i

  listed_text : (is : Program) → Listed (occurrences is) (statements is)
  listed_text (one i) = item_listed i
  listed_text (more is i) = joined_listed (occurrences is) (in_item i) (statements is) (statement_of i) (listed_text is) (item_listed i)

  whole_text : (text : Option Statement) → text ≡ statements t → Quiet text → Listed (occurrences t) text → OfText Part text
  whole_text None e q h = tt
  whole_text (Some s) e q h = record { quiet = q; listed = h; placed = λ l r i. subst (StandsInText l r) e i }

module _ {V : Type 0} (kind : Kind V) (t : Program) (u : State V) (r : Reached kind t u) where
  -- What stands at a position that is reached is a part of the text.
  reached_parts : At (Part t) u.position
  reached_parts =
      let start = whole_text t (statements t) refl (quiet_text t t (accepted_to_keeps_all t r.is_accepted JumpIntoFor)) (listed_text t t) in
      run_keeps (Part t) (part_parts t) kind (names_of t) (statements t) start r.steps (beginning_keeps (Part t) (part_parts t) (statements t) start)

pub landing_law : {V : Type 0} (kind : Kind V) → LandingLaw kind
landing_law kind = record {
  go_lands = λ t u r p l k e.
      let h = subst (At (Part t)) e (reached_parts kind t u r) in
      go_lands t r.is_accepted p l k h.0 h.1;
  switch_lands = λ t u r p x e k q l i.
      let h = subst (At (Part t)) q (reached_parts kind t u r) in
      switch_lands t r.is_accepted p x e k h.0 h.1 l i;
}
