-- Every go to of an accepted text sees its label, and so does every go to of a switch the labels of its list.
use Rattle.std.proofs.Common.{◌≡◌, ℕ, Bool, true, false, not, ◌&&◌, ◌||◌, List, [], ◌∷◌, ◌++◌, sym, refl, ap, ◌∙◌, subst}
use Rattle.grammar.specs.Tree.{Row, Name, Statement, labelled, conditional, repeated, assigned, go, switched, input, printed, stop, sequence, Program}
use Rattle.symbols.specs.Occurrences.{in_switch, as_target, as_selector, Occurrence, at, each, in_exp, in_element, in_statement, occurrences}
use Rattle.symbols.specs.Symbols.{a_switch, symbols, kind_in}
use Rattle.symbols.specs.Jumps.{open_labels, is_among, is_label, leads_inside, switch_leads, jump_offences}
use Rattle.symbols.specs.Rules.{accepted, verdict}
use Rattle.symbols.specs.Laws.{In, here, later}
use Rattle.symbols.proofs.Lists.{in_left, in_right}
use Rattle.symbols.proofs.Offences.{empty_left, empty_right, nothing_told}
use Rattle.symbols.proofs.Names.{names_agree}
use Rattle.symbols.proofs.Table.{name_said}
use Rattle.meaning.specs.Names.{names_in, labels_of}
use Rattle.meaning.specs.Laws.{has_label}
use Rattle.meaning.proofs.Jumping.{true_is_not_false, among_both}
use Rattle.meaning.proofs.Switches.{from_is_switch, declares, label_named}
use Rattle.translator.specs.Compiled.{AllSeen, seen_inside, Sees}

-- A label that does not lead inside is seen.
label_seen : (a b : Bool) → a ≡ true → (a && not b) ≡ false → b ≡ true
label_seen true true e h = refl
label_seen true false e h = absurd (true_is_not_false h)
label_seen false b e h = absurd (true_is_not_false (sym e))

-- What is seen at each place of a list is seen in all of it.
all_seen : (seen : List ℕ → Bool) (ls : List (List ℕ)) → ((l : List ℕ) → In l ls → seen l ≡ true) → AllSeen seen ls
all_seen seen [] h = tt
all_seen seen (l ∷ ls) h = (h l here, all_seen seen ls (λ k i. h k (later i)))

-- A function that says which labels are seen, and the list of those labels.
abbrev Lists : List (List ℕ) → (List ℕ → Bool) → Type 0
Lists ls seen = (l : List ℕ) → is_among ls l ≡ seen l

module _ (t : Program) (ok : verdict t ≡ accepted) where
  -- A label that a go to names, and each label of a switch that it names, is seen.
  target_seen : (ls : List (List ℕ)) (seen : List ℕ → Bool) → Lists ls seen → (x : Name) → is_label (kind_in (symbols t) x.letters) ≡ true
      → leads_inside (symbols t) ls x ≡ false → seen x.letters ≡ true
  target_seen ls seen same x label outside =
      sym (same x.letters) ∙ label_seen (is_label (kind_in (symbols t) x.letters)) (is_among ls x.letters) label outside

  switch_seen : (ls : List (List ℕ)) (seen : List ℕ → Bool) → Lists ls seen → (x : Name) → In (at as_selector x) (occurrences t)
      → switch_leads (leads_inside (symbols t) ls) (kind_in (symbols t) x.letters) ≡ false → AllSeen seen (labels_of (kind_in (symbols t) x.letters))
  switch_seen ls seen same x i outside =
      let s = from_is_switch (kind_in (symbols t) x.letters) ((names_agree t ok).uses_suit (at as_selector x) i) in
      subst (λ k. AllSeen seen (labels_of k)) (sym s.1) (all_seen seen (labels_of (a_switch s.0)) (each_seen s.0 s.1))
    where
      each_seen : (xs : Row Name) → kind_in (symbols t) x.letters ≡ a_switch xs → (l : List ℕ) → In l (labels_of (a_switch xs)) → seen l ≡ true
      each_seen xs e l j =
          let n = label_named l xs j in
          let y = n.name in
          let declared = declares t x.letters xs (sym (name_said t (at as_selector x) i).0 ∙ e) (at in_switch y) n.listed in
          let quiet = n.not_said (leads_inside (symbols t) ls) (ap (switch_leads (leads_inside (symbols t) ls)) (sym e) ∙ outside) in
          subst (λ m. seen m ≡ true) n.spelled (target_seen ls seen same y ((names_agree t ok).uses_suit (at in_switch y) declared) quiet)

  -- The statement stands in the text, and its go tos lead into no for from outside.
  pub sees : (s : Statement) (ls : List (List ℕ)) (seen : List ℕ → Bool) → Lists ls seen → jump_offences (symbols t) ls s ≡ []
      → ((o : Occurrence) → In o (in_statement s) → In o (occurrences t)) → Sees (names_in (symbols t)) seen s
  sees (labelled l s) ls seen same q h = sees s ls seen same q (λ o i. h o (later i))
  sees (conditional p e s) ls seen same q h = sees s ls seen same q (λ o i. h o (in_right o (in_exp e) (in_statement s) i))
  sees (repeated p x es s) ls seen same q h =
      sees s (open_labels s ++ ls) (seen_inside s seen) (λ l. among_both (open_labels s) ls l ∙ ap (λ b. has_label l s || b) (same l)) q
      (λ o i. h o (later (in_right o (each in_element es) (in_statement s) i)))
  sees (assigned v e) ls seen same q h = tt
  sees (go p x) ls seen same q h =
      target_seen ls seen same x ((names_agree t ok).uses_suit (at as_target x) (h (at as_target x) here)) (nothing_told (leads_inside (symbols t) ls x) x.place q)
  sees (switched p x e) ls seen same q h =
      switch_seen ls seen same x (h (at as_selector x) here)
      (nothing_told (switch_leads (leads_inside (symbols t) ls) (kind_in (symbols t) x.letters)) x.place q)
  sees (input p v) ls seen same q h = tt
  sees (printed p es) ls seen same q h = tt
  sees (stop p) ls seen same q h = tt
  sees (sequence s u) ls seen same q h = (
    sees s ls seen same (empty_left (jump_offences (symbols t) ls s) (jump_offences (symbols t) ls u) q) (λ o i. h o (in_left o (in_statement s) (in_statement u) i)),
    sees u ls seen same (empty_right (jump_offences (symbols t) ls s) (jump_offences (symbols t) ls u) q) (λ o i. h o (in_right o (in_statement s) (in_statement u) i)),
  )
