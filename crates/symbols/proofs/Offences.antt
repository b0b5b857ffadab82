-- Lists of offences: when they are empty, and which is the earliest.
use Rattle.std.proofs.Common.{◌≡◌, ℕ, suc, ◌<◌, ◌≤◌, min, Bool, true, false, ◌⊎◌, List, [], ◌∷◌, ◌++◌, sym, refl, subst, inl, inr, arith}
use Rattle.std.proofs.lemmas.Bool.{cases_lt}
use Rattle.grammar.specs.Tree.{Program}
use Rattle.symbols.specs.declared.refusal.NameRefusal.{NameRefusal}
use Rattle.symbols.specs.declared.refusal.NameRefusal.TheVariants.{SecondDefinition, MisusedName, WrongType, JumpIntoFor, WrongBounds, TooManyCells}
use Rattle.symbols.specs.Refusal.{number}
use Rattle.symbols.specs.Types.{told}
use Rattle.symbols.specs.Rules.{offences, accepted, refused, earliest, or_next, first_broken, rules, verdict}
use Rattle.symbols.specs.Laws.{In, here, later, FirstBroken, KeepsAll}

-- Where two lists together are empty, both are.
pub empty_left : {A : Type 0} (xs ys : List A) → xs ++ ys ≡ [] → xs ≡ []
empty_left [] ys e = refl
empty_left (x ∷ xs) ys e = let z : ◌≡◌ {A = ℕ} 0 1 = cc in absurd (omega arith)

pub empty_right : {A : Type 0} (xs ys : List A) → xs ++ ys ≡ [] → ys ≡ []
empty_right [] ys e = e
empty_right (x ∷ xs) ys e = let z : ◌≡◌ {A = ℕ} 0 1 = cc in absurd (omega arith)

-- What holds of a list's head and of its tail holds of each of its elements.
pub by_place : {A : Type 0} (P : A → Type 0) (q x : A) (xs : List A) → In q (x ∷ xs) → P x → (In q xs → P q) → P q
by_place P q x xs here h f = h
by_place P q x xs (later i) h f = f i

-- Nothing is told only if the test failed.
pub nothing_told : (b : Bool) (p : ℕ) → told b p ≡ [] → b ≡ false
nothing_told true p e = let z : ◌≡◌ {A = ℕ} 0 1 = cc in absurd (omega arith)
nothing_told false p e = refl

-- The earliest of some places is one of them, and at most as late as each.
pub earliest_in : (p : ℕ) (qs : List ℕ) → In (earliest p qs) (p ∷ qs)
earliest_in p [] = here
earliest_in p (q ∷ qs) = go (cases_lt p q) (earliest_in (min p q) qs)
  where
    moved : (m : ℕ) → (m ≡ p) ⊎ (m ≡ q) → In (earliest m qs) (m ∷ qs) → In (earliest m qs) (p ∷ (q ∷ qs))
    moved m (inl e) i = let P : ℕ → Type 0 = λ x. In (earliest m qs) (x ∷ qs) in step (subst P e i)
      where
        step : {x : ℕ} → In x (p ∷ qs) → In x (p ∷ (q ∷ qs))
        step here = here
        step (later i) = later (later i)
    moved m (inr e) i = let P : ℕ → Type 0 = λ x. In (earliest m qs) (x ∷ qs) in later (subst P e i)

    go : (p < q) ⊎ (q ≤ p) → In (earliest (min p q) qs) (min p q ∷ qs) → In (earliest (min p q) qs) (p ∷ (q ∷ qs))
    go (inl h) i = moved (min p q) (inl (omega arith)) i
    go (inr h) i = moved (min p q) (inr (omega arith)) i

pub earliest_first : (p : ℕ) (qs : List ℕ) → earliest p qs ≤ p
earliest_first p [] = omega arith
earliest_first p (q ∷ qs) = let h : earliest (min p q) qs ≤ min p q = earliest_first (min p q) qs in omega arith

pub earliest_rest : (q p : ℕ) (qs : List ℕ) → In q qs → earliest p qs ≤ q
earliest_rest q p [] i = elim i [ ]
earliest_rest q p (r ∷ qs) here = let h : earliest (min p r) qs ≤ min p r = earliest_first (min p r) qs in omega arith
earliest_rest q p (r ∷ qs) (later i) = earliest_rest q (min p r) qs i

pub earliest_least : (q p : ℕ) (qs : List ℕ) → In q (p ∷ qs) → earliest p qs ≤ q
earliest_least q p qs i = by_place (λ x. earliest p qs ≤ x) q p qs i (earliest_first p qs) (earliest_rest q p qs)

-- How a list of rules, tested in order, comes to a refusal: those before the broken one are kept.
pub data Broken (t : Program) (r : NameRefusal) (p : ℕ) : List NameRefusal → Type 0 where
  this : {rs : List NameRefusal} (q : ℕ) (qs : List ℕ) → offences t r ≡ q ∷ qs → p ≡ earliest q qs → Broken t r p (r ∷ rs)
  next : {q : NameRefusal} {rs : List NameRefusal} → offences t q ≡ [] → Broken t r p rs → Broken t r p (q ∷ rs)

pub refused_to_broken : (t : Program) (r : NameRefusal) (p : ℕ) (rs : List NameRefusal) → first_broken t rs ≡ refused r p → Broken t r p rs
refused_to_broken t r p [] e = let z : ◌≡◌ {A = ℕ} 0 1 = cc in absurd (omega arith)
refused_to_broken t r p (q ∷ rs) e = go (offences t q) refl e (refused_to_broken t r p rs)
  where
    first : (x : NameRefusal) → x ≡ r → (y : ℕ) (ys : List ℕ) → offences t x ≡ y ∷ ys → p ≡ earliest y ys → Broken t r p (x ∷ rs)
    first x e y ys o l =
        let P : NameRefusal → Type 0 = λ v. Broken t r p (v ∷ rs) in
        let Q : NameRefusal → Type 0 = λ v. offences t v ≡ y ∷ ys in
        subst P (sym e) (this y ys (subst Q e o) l)

    go : (ps : List ℕ) → offences t q ≡ ps → or_next q ps (first_broken t rs) ≡ refused r p → (first_broken t rs ≡ refused r p → Broken t r p rs) → Broken t r p (q ∷ rs)
    go [] o e rest = next o (rest e)
    go (y ∷ ys) o e rest = let a : q ≡ r = cc in let l : p ≡ earliest y ys = cc in first q a y ys o l

pub accepted_to_kept : (t : Program) (rs : List NameRefusal) → first_broken t rs ≡ accepted → (q : NameRefusal) → In q rs → offences t q ≡ []
accepted_to_kept t [] e q i = elim i [ ]
accepted_to_kept t (r ∷ rs) e q i = go (offences t r) refl e (accepted_to_kept t rs)
  where
    go : (ps : List ℕ) → offences t r ≡ ps → or_next r ps (first_broken t rs) ≡ accepted → (first_broken t rs ≡ accepted → (q : NameRefusal) → In q rs → offences t q ≡ []) → offences t q ≡ []
    go [] o e rest = by_place (λ x. offences t x ≡ []) q r rs i o (rest e q)
    go (y ∷ ys) o e rest = let z : ◌≡◌ {A = ℕ} 0 1 = cc in absurd (omega arith)

-- Rules listed by ascending numbers, from n on.
abbrev pub Ascending : ℕ → List NameRefusal → Type 0
Ascending n [] = Unit {0}
Ascending n (r ∷ rs) = (n ≤ number r) × Ascending (suc (number r)) rs

ascending_above : (n : ℕ) (rs : List NameRefusal) → Ascending n rs → (q : NameRefusal) → In q rs → n ≤ number q
ascending_above n [] a q i = elim i [ ]
ascending_above n (r ∷ rs) a q here = a.0
ascending_above n (r ∷ rs) a q (later i) = let h : suc (number r) ≤ number q = ascending_above (suc (number r)) rs a.1 q i in let k : n ≤ number r = a.0 in omega arith

pub broken_to_lesser_kept : (t : Program) (r : NameRefusal) (p n : ℕ) (rs : List NameRefusal) → Ascending n rs → Broken t r p rs → (q : NameRefusal) → In q rs → number q < number r → offences t q ≡ []
broken_to_lesser_kept t r p n [] a b q i l = elim i [ ]
broken_to_lesser_kept t r p n (x ∷ rs) a (this y ys o e) q here l = absurd (omega arith)
broken_to_lesser_kept t r p n (x ∷ rs) a (this y ys o e) q (later i) l = let h : suc (number r) ≤ number q = ascending_above (suc (number r)) rs a.1 q i in absurd (omega arith)
broken_to_lesser_kept t r p n (x ∷ rs) a (next k b) q here l = k
broken_to_lesser_kept t r p n (x ∷ rs) a (next k b) q (later i) l = broken_to_lesser_kept t r p (suc (number x)) rs a.1 b q i l

pub broken_in : (t : Program) (r : NameRefusal) (p : ℕ) (rs : List NameRefusal) → Broken t r p rs → In p (offences t r)
broken_in t r p [] b = elim b [ ]
broken_in t r p (x ∷ rs) (this y ys o e) = let P : List ℕ → Type 0 = λ l. In p l in let Q : ℕ → Type 0 = λ v. In v (y ∷ ys) in subst P (sym o) (subst Q (sym e) (earliest_in y ys))
broken_in t r p (x ∷ rs) (next k b) = broken_in t r p rs b

pub broken_earliest : (t : Program) (r : NameRefusal) (p : ℕ) (rs : List NameRefusal) → Broken t r p rs → (q : ℕ) → In q (offences t r) → p ≤ q
broken_earliest t r p [] b q i = elim b [ ]
broken_earliest t r p (x ∷ rs) (this y ys o e) q i = let P : List ℕ → Type 0 = λ l. In q l in let h : earliest y ys ≤ q = earliest_least q y ys (subst P o i) in omega arith
broken_earliest t r p (x ∷ rs) (next k b) q i = broken_earliest t r p rs b q i

-- Every rule is tested, in the order of the numbers.
pub all_rules : (q : NameRefusal) → In q rules
all_rules SecondDefinition = here
all_rules MisusedName = later here
all_rules WrongType = later (later here)
all_rules JumpIntoFor = later (later (later here))
all_rules WrongBounds = later (later (later (later here)))
all_rules TooManyCells = later (later (later (later (later here))))

rules_ascending : Ascending 7 rules
rules_ascending = (omega arith, (omega arith, (omega arith, (omega arith, (omega arith, (omega arith, tt))))))

pub accepted_to_keeps_all : (t : Program) → verdict t ≡ accepted → KeepsAll t
unfolding verdict
accepted_to_keeps_all t e r = accepted_to_kept t rules e r (all_rules r)

pub refused_to_first_broken : (t : Program) (r : NameRefusal) (p : ℕ) → verdict t ≡ refused r p → FirstBroken t r p
unfolding verdict
refused_to_first_broken t r p e =
    let b : Broken t r p rules = refused_to_broken t r p rules e in
    record {
      offends = broken_in t r p rules b;
      earliest = broken_earliest t r p rules b;
      least = λ q l. broken_to_lesser_kept t r p 7 rules rules_ascending b q (all_rules q) l;
    }
