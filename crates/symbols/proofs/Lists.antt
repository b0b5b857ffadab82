-- Elements of lists, and where they stand.
use Rattle.std.proofs.Common.{◌≡◌, List, [], ◌∷◌, ◌++◌, refl, ap}
use Rattle.symbols.specs.Laws.{In, here, later}

pub in_middle : {A : Type 0} (xs : List A) (x : A) (ys : List A) → In x (xs ++ x ∷ ys)
in_middle [] x ys = here
in_middle (y ∷ xs) x ys = later (in_middle xs x ys)

pub in_left : {A : Type 0} (x : A) (xs ys : List A) → In x xs → In x (xs ++ ys)
in_left x [] ys i = elim i [ ]
in_left x (z ∷ xs) ys here = here
in_left x (z ∷ xs) ys (later i) = later (in_left x xs ys i)

pub in_right : {A : Type 0} (x : A) (xs ys : List A) → In x ys → In x (xs ++ ys)
in_right x [] ys i = i
in_right x (z ∷ xs) ys i = later (in_right x xs ys i)

-- A list with x in it is a part before x, x, and a part behind it.
pub record Split {A : Type 0} (x : A) (xs : List A) : Type 0 where
  pub before : List A
  pub after : List A
  pub whole : xs ≡ before ++ x ∷ after

pub in_to_split : {A : Type 0} (x : A) (xs : List A) → In x xs → Split x xs
in_to_split x [] i = elim i [ ]
in_to_split x (z ∷ xs) here = record { before = []; after = xs; whole = refl }
in_to_split {A} x (z ∷ xs) (later i) =
    let s : Split x xs = in_to_split x xs i in
    record { before = z ∷ s.before; after = s.after; whole = ap (λ (l : List A). z ∷ l) s.whole }
