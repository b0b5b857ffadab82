-- A rule's earliest offence decides whether it is told.
use Rattle.std.proofs.Common.{◌≡◌, ℕ, List, [], ◌∷◌, Some, None, Option, sym, refl, ap, ◌∙◌}
use Rattle.std.specs.Option.{option_or}
use Rattle.symbols.specs.declared.refusal.NameRefusal.{NameRefusal}
use Rattle.symbols.specs.Rules.{Verdict, accepted, or_next}
use Rattle.analysis.specs.declared.offence.Broken.{Broken}
use Rattle.analysis.specs.Earliest.{earliest_of}
use Rattle.analysis.specs.Verdicts.{told_or_next, verdict_in}

-- What is told by some rules, where the rest have their own verdict.
abbrev Tells : Option Broken → (Verdict → Verdict) → Type 0
Tells b f = (next : Option Broken) (rest : Verdict) → verdict_in next ≡ rest → verdict_in (option_or b next) ≡ f rest

here_or_next : (r : NameRefusal) (ps : List ℕ) → Tells (told_or_next r (earliest_of ps) None) (or_next r ps)
here_or_next r [] next rest e = e
here_or_next r (p ∷ ps) next rest e = refl

-- One rule, by its earliest offence.
pub one_tells : (r : NameRefusal) (ps : List ℕ) (o : Option ℕ) → o ≡ earliest_of ps → (b : Option Broken) → b ≡ told_or_next r o None → Tells b (or_next r ps)
one_tells r ps o e b f next rest g =
    ap (λ (q : Option Broken). verdict_in (option_or q next)) (f ∙ ap (λ (q : Option ℕ). told_or_next r q None) e) ∙ here_or_next r ps next rest g

or_after : (a b next : Option Broken) → option_or (option_or a b) next ≡ option_or a (option_or b next)
or_after (Some x) b next = refl
or_after None b next = refl

-- Some rules, and then others.
pub both_tell : (a b c : Option Broken) (f g : Verdict → Verdict) → c ≡ option_or a b → Tells a f → Tells b g → Tells c (λ v. f (g v))
both_tell a b c f g e left right next rest h =
    ap (λ (q : Option Broken). verdict_in (option_or q next)) e
    ∙ (ap verdict_in (or_after a b next) ∙ left (option_or b next) (g rest) (right next rest h))

or_none : (b : Option Broken) → option_or b None ≡ b
or_none (Some x) = refl
or_none None = refl

-- A text that breaks none is accepted.
pub all_told : (b : Option Broken) (f : Verdict → Verdict) → Tells b f → verdict_in b ≡ f accepted
all_told b f t = ap verdict_in (sym (or_none b)) ∙ t None accepted refl
