-- A name that was taken.
use Rattle.std.proofs.Common.{◌≡◌, ℕ, zero, suc, ◌<◌, List, [], ◌∷◌, length, get_or, drop, true, cond, is_some, Some, None, Option, sym, refl, ap, ◌∙◌, arith}
use Rattle.words.specs.Token.{Token, Word, name}
use Rattle.grammar.specs.Tree.{Name}
use Rattle.grammar.specs.Classes.{heads, a_name}
use Rattle.grammar.proofs.Found.{none_some, some_same, found_to_is}
use Rattle.parser.specs.declared.table.Parser.{Parser}
use Rattle.parser.specs.Records.{all, ahead, view, Named}
use Rattle.parser.specs.Promises.{instead, place_of}

drop_get : (xs ws : List Word) (w : Word) (i : ℕ) → drop i xs ≡ w ∷ ws → (i < length xs) × ((d : Word) → get_or xs i d ≡ w)
drop_get [] ws w zero e = let z : ◌≡◌ {A = ℕ} 0 1 = cc in absurd (omega arith)
drop_get [] ws w (suc i) e = let z : ◌≡◌ {A = ℕ} 0 1 = cc in absurd (omega arith)
drop_get (x ∷ xs) ws w zero e = (omega arith, λ d. cc)
drop_get (x ∷ xs) ws w (suc i) e = let h = drop_get xs ws w i e in (omega (arith, h.0), h.1)

-- The place of the next word, and the name that it is with the letters x.
abbrev pub next_place : Parser → ℕ
next_place r = place_of (length r.text.now) (ahead r)

abbrev pub next_named : Parser → List ℕ → Name
next_named r x = record { letters = x; place = next_place r }

-- Word w, the next one of r, is a name.
pub record NameTaken (r : Parser) (w : ℕ) : Type 0 where
  pub word : w ≡ r.at
  pub letters : List ℕ
  pub next : heads a_name (ahead r) ≡ Some letters
  pub named : (q : Parser) → all q ≡ all r → Named (view q) w (record { letters = letters; place = place_of (length r.text.now) (ahead r) })

named_word : (r : Parser) (x : List ℕ) (ws : List Word) → ahead r ≡ ws → heads a_name ws ≡ Some x
    → (q : Parser) → all q ≡ all r → Named (view q) r.at (record { letters = x; place = place_of (length r.text.now) ws })
named_word r x [] i e q s = none_some e
named_word r x (w ∷ ws) i e q s =
    let h = drop_get (all r) ws w r.at i in
    let t : w.token ≡ name x = (found_to_is a_name w.token x e).0 in
    (omega (arith, h.0, ap length s), λ d. ap (λ (l : List Word). get_or l r.at d) s ∙ (h.1 d ∙ ap {B = Word} (λ (u : Token). record { token = u; place = w.place }) t))

pub name_taken : (r : Parser) (w : ℕ) → Some w ≡ instead r.at (heads a_name (ahead r)) → NameTaken r w
name_taken r w e = by (heads a_name (ahead r)) refl e
  where
    by : (o : Option (List ℕ)) → heads a_name (ahead r) ≡ o → Some w ≡ instead r.at o → NameTaken r w
    by None i e = none_some (sym e)
    by (Some x) i e = let j : w ≡ r.at = some_same e in record { word = j; letters = x; next = i; named = λ q s. rw j (named_word r x (ahead r) refl i q s) }

-- No name comes.
pub name_missing : (r : Parser) → None ≡ instead r.at (heads a_name (ahead r)) → heads a_name (ahead r) ≡ None
name_missing r e = by (heads a_name (ahead r)) e
  where
    by : (o : Option (List ℕ)) → None ≡ instead r.at o → o ≡ None
    by None e = refl
    by (Some x) e = none_some e

-- A name comes where the number of one is told.
pub name_comes : (r : Parser) (o : Option ℕ) → is_some o ≡ true → o ≡ instead r.at (heads a_name (ahead r)) → (x : List ℕ) × (heads a_name (ahead r) ≡ Some x)
name_comes r None i e = let z : ◌≡◌ {A = ℕ} 0 1 = ap {B = ℕ} (λ b. cond b 1 0) i in absurd (omega arith)
name_comes r (Some w) i e = let n = name_taken r w e in (n.letters, n.next)
