-- What a class has of the next word, from what it has of the word in the record; and the word that is left.
use Rattle.std.proofs.Common.{◌≡◌, List, [], ◌∷◌, length, is_some, Some, None, Option, sym, refl, ap, ◌∙◌}
use Rattle.words.specs.Token.{Word}
use Rattle.grammar.specs.declared.refusal.SentenceRefusal.TheVariants.{Unexpected}
use Rattle.grammar.specs.Classes.{heads, found, Class, Content, when}
use Rattle.grammar.proofs.Found.{none_some, some_same}
use Rattle.parser.specs.declared.refusal.Refusal.{Refusal}
use Rattle.parser.specs.declared.table.Parser.{Parser}
use Rattle.parser.specs.Records.{ahead}
use Rattle.parser.specs.Promises.{next, place_of}
use Rattle.parser.specs.Expecting.{Finds, Comes, NotTaken, Missed}
use Rattle.parser.proofs.Moving.{left_ahead}

-- There is a word.
pub comes_some : {A : Type 0} (c : Class) (f : A → Content c) (w : Word) (ws : List Word) (o : Option A) → Some w ≡ next ws → Finds c f w.token o → Comes c f ws o
comes_some c f w [] o e h = none_some (sym e)
comes_some c f w (x ∷ ws) None e h = ap (λ (v : Word). found c v.token) (sym (some_same e)) ∙ h
comes_some c f w (x ∷ ws) (Some y) e h = ap (λ (v : Word). found c v.token) (sym (some_same e)) ∙ h

-- There is none.
pub comes_none : (c : Class) (ws : List Word) → None ≡ next ws → heads c ws ≡ None
comes_none c [] e = refl
comes_none c (x ∷ ws) e = none_some e

-- Where nothing but the class is learned, it is whether the word is of it.
pub comes_when : (c : Class) (f : Unit {0} → Content c) (ws : List Word) (o : Option (Unit {0})) → Comes c f ws o → heads c ws ≡ when (is_some o) (f tt)
comes_when c f ws None h = h
comes_when c f ws (Some tt) h = h

-- A word that is left is refused where it stands.
pub missed : (c : Class) (r s : Parser) (e : Refusal) → NotTaken c r s → e.reason ≡ Unexpected → e.place ≡ place_of (length s.text.now) (ahead s) → Missed c r e
missed c r s e n i j = record {
  is = n.is;
  refused = record { reason = i; place = j ∙ (ap (λ k. place_of k (ahead s)) (ap length n.took.same.text) ∙ ap (place_of (length r.text.now)) (left_ahead r s n.took)) };
}
