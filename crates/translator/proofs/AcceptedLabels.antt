-- Every label of an accepted text stands where the code has it: no two labels have the same letters, so the place that is
-- found for a label is its own.
use Rattle.std.proofs.Common.{◌≡◌, ℕ, ◌+◌, Bool, true, false, cond, List, [], ◌∷◌, ◌++◌, map, Some, refl, ap, ◌∙◌, subst, ap₂}
use Rattle.std.specs.Str.{bytes_eq}
use Rattle.std.proofs.lemmas.List.{map-append}
use Rattle.grammar.specs.Tree.{Statement, labelled, conditional, repeated, assigned, go, switched, input, printed, stop, sequence, Program}
use Rattle.symbols.specs.Occurrences.{occurrences}
use Rattle.symbols.specs.Rules.{accepted, verdict}
use Rattle.symbols.specs.Laws.{In, here, later}
use Rattle.symbols.specs.ForsAround.{Label, labels_in, of_statement}
use Rattle.symbols.proofs.Lists.{in_left, in_right}
use Rattle.symbols.proofs.Names.{names_agree}
use Rattle.symbols.proofs.Table.{from_same, to_same}
use Rattle.symbols.proofs.Labels.{Differ, labels_differ, program_labels}
use Rattle.meaning.specs.Names.{Names}
use Rattle.meaning.specs.Positions.{statements}
use Rattle.translator.specs.Generator.{all_of, exp_size, type_of, elements_size, size, label_place}
use Rattle.translator.specs.Compiled.{LabelsPlaced}
use Rattle.translator.proofs.AcceptedParts.{whole_statement}

-- The labels of a statement by their letters, at whatever depth.
abbrev pub all_labels : Statement → List (List ℕ)
all_labels (labelled l s) = l.letters ∷ all_labels s
all_labels (conditional p e s) = all_labels s
all_labels (repeated p x es s) = all_labels s
all_labels (assigned v e) = []
all_labels (go p l) = []
all_labels (switched p x e) = []
all_labels (input p v) = []
all_labels (printed p es) = []
all_labels (stop p) = []
all_labels (sequence s t) = all_labels s ++ all_labels t

-- They are the labels that the rule on jumps speaks of, without the fors around them.
abbrev letters_of : List Label → List (List ℕ)
letters_of ls = map (λ (l : Label). l.letters) ls

labels_by_letters : (fs : List ℕ) (s : Statement) → letters_of (labels_in fs s) ≡ all_labels s
labels_by_letters fs (labelled l s) = ap (λ (ls : List (List ℕ)). l.letters ∷ ls) (labels_by_letters fs s)
labels_by_letters fs (conditional p e s) = labels_by_letters fs s
labels_by_letters fs (repeated p x es s) = labels_by_letters (p ∷ fs) s
labels_by_letters fs (assigned v e) = refl
labels_by_letters fs (go p l) = refl
labels_by_letters fs (switched p x e) = refl
labels_by_letters fs (input p v) = refl
labels_by_letters fs (printed p es) = refl
labels_by_letters fs (stop p) = refl
labels_by_letters fs (sequence s t) =
    map-append (λ (l : Label). l.letters) (labels_in fs s) (labels_in fs t)
    ∙ ap₂ (λ (k l : List (List ℕ)). k ++ l) (labels_by_letters fs s) (labels_by_letters fs t)

-- No two labels of an accepted text have the same letters.
labels_all_differ : (t : Program) (s : Statement) → verdict t ≡ accepted → statements t ≡ Some s → Differ (all_labels s)
labels_all_differ t s ok e =
    let of_text = whole_statement (labels_in []) (λ a b. refl) (of_statement (labels_in [])) (λ i. refl) t s e in
    subst Differ (program_labels t ∙ ap letters_of of_text ∙ labels_by_letters [] s) (labels_differ (occurrences t) (names_agree t ok).defined_once)

-- Of two lists that differ together, each differs, and nothing stands in both.
differ_left : (xs ys : List (List ℕ)) → Differ (xs ++ ys) → Differ xs
differ_left [] ys d = tt
differ_left (x ∷ xs) ys d = (λ i. d.0 (in_left x xs ys i), differ_left xs ys d.1)

differ_right : (xs ys : List (List ℕ)) → Differ (xs ++ ys) → Differ ys
differ_right [] ys d = d
differ_right (x ∷ xs) ys d = differ_right xs ys d.1

apart : (xs ys : List (List ℕ)) → Differ (xs ++ ys) → (l : List ℕ) → In l xs → In l ys → ⊥
apart [] ys d l i j = elim i [ ]
apart (x ∷ xs) ys d l here j = d.0 (in_right x xs ys j)
apart (x ∷ xs) ys d l (later i) j = apart xs ys d.1 l i j

module _ (names : Names) where
  -- Where a label is missing, its place is what it was to be otherwise.
  place_otherwise : (l : List ℕ) (s : Statement) (a o : ℕ) → (In l (all_labels s) → ⊥) → label_place names l s a o ≡ o
  place_otherwise l (labelled m s) a o h = by (bytes_eq l m.letters) refl (place_otherwise l s a o (λ i. h (later i)))
    where
      by : (b : Bool) → bytes_eq l m.letters ≡ b → label_place names l s a o ≡ o → cond b a (label_place names l s a o) ≡ o
      by true e next = let P : List ℕ → Type 0 = λ k. In l (k ∷ all_labels s) in absurd (h (subst P (from_same l m.letters e) here))
      by false e next = next
  place_otherwise l (conditional p e s) a o h = place_otherwise l s (a + (exp_size e + 2)) o h
  place_otherwise l (repeated p x es s) a o h = place_otherwise l s (a + elements_size names (type_of names x) (all_of es)) o h
  place_otherwise l (assigned v e) a o h = refl
  place_otherwise l (go p m) a o h = refl
  place_otherwise l (switched p x e) a o h = refl
  place_otherwise l (input p v) a o h = refl
  place_otherwise l (printed p es) a o h = refl
  place_otherwise l (stop p) a o h = refl
  place_otherwise l (sequence s t) a o h =
      place_otherwise l s a (label_place names l t (a + size names s) o) (λ i. h (in_left l (all_labels s) (all_labels t) i))
      ∙ place_otherwise l t (a + size names s) o (λ i. h (in_right l (all_labels s) (all_labels t) i))

  -- Each label of the statement is looked for where this statement, which stands at a, has it.
  abbrev LookedFor : (List ℕ → ℕ) → ℕ → Statement → Type 0
  LookedFor label_at a s = (l : List ℕ) → In l (all_labels s) → (o : ℕ) × (label_at l ≡ label_place names l s a o)

  -- So each label stands where it is looked for.
  labels_placed : (label_at : List ℕ → ℕ) (a : ℕ) (s : Statement) → Differ (all_labels s) → LookedFor label_at a s → LabelsPlaced names label_at a s
  labels_placed label_at a (labelled m s) d f =
      (here_found, labels_placed label_at a s d.1 inside)
    where
      here_found : label_at m.letters ≡ a
      here_found =
          let h = f m.letters here in
          h.1 ∙ ap (λ b. cond b a (label_place names m.letters s a h.0)) (to_same m.letters m.letters refl)

      past : (l : List ℕ) → In l (all_labels s) → (o : ℕ) (b : Bool) → bytes_eq l m.letters ≡ b → cond b a (label_place names l s a o) ≡ label_place names l s a o
      past l i o true e = let P : List ℕ → Type 0 = λ k. In k (all_labels s) in absurd (d.0 (subst P (from_same l m.letters e) i))
      past l i o false e = refl

      inside : LookedFor label_at a s
      inside l i = let h = f l (later i) in (h.0, h.1 ∙ past l i h.0 (bytes_eq l m.letters) refl)
  labels_placed label_at a (conditional p e s) d f = labels_placed label_at (a + (exp_size e + 2)) s d f
  labels_placed label_at a (repeated p x es s) d f = labels_placed label_at (a + elements_size names (type_of names x) (all_of es)) s d f
  labels_placed label_at a (assigned v e) d f = tt
  labels_placed label_at a (go p l) d f = tt
  labels_placed label_at a (switched p x e) d f = tt
  labels_placed label_at a (input p v) d f = tt
  labels_placed label_at a (printed p es) d f = tt
  labels_placed label_at a (stop p) d f = tt
  labels_placed label_at a (sequence s t) d f = (
    labels_placed label_at a s (differ_left (all_labels s) (all_labels t) d) in_first,
    labels_placed label_at (a + size names s) t (differ_right (all_labels s) (all_labels t) d) in_second,
  )
    where
      in_first : LookedFor label_at a s
      in_first l i = let h = f l (in_left l (all_labels s) (all_labels t) i) in (label_place names l t (a + size names s) h.0, h.1)

      in_second : LookedFor label_at (a + size names s) t
      in_second l j =
          let h = f l (in_right l (all_labels s) (all_labels t) j) in (
            h.0,
            h.1 ∙ place_otherwise l s a (label_place names l t (a + size names s) h.0) (λ i. apart (all_labels s) (all_labels t) d l i j),
          )

-- The labels of a whole text.
pub text_labels_placed : (names : Names) (t : Program) (s : Statement) → verdict t ≡ accepted → statements t ≡ Some s
    → LabelsPlaced names (λ l. label_place names l s 0 (size names s)) 0 s
text_labels_placed names t s ok e =
    labels_placed names (λ l. label_place names l s 0 (size names s)) 0 s (labels_all_differ t s ok e) (λ l i. (size names s, refl))
