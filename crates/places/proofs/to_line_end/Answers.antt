use Rattle.std.proofs.Common.{◌≡◌, ℕ, ◌<◌, length, get_or, rules}
use Rattle.places.proofs.Ends.{end_at, no_end}
use Rattle.places.proofs.to_line_end.Goals as goal

pub returns-in-Some-clause-value : goal.returns-in-Some-clause-value
returns-in-Some-clause-value c =
    let bytes = c.args.bytes.now in
    let inside : c.in-Some.end < length bytes = search rules in
    let is : get_or bytes c.in-Some.end 0 ≡ 10 = search rules in
    let none : (k : ℕ) → k < c.in-Some.end → get_or bytes k 0 ≡ 10 → ⊥ = search rules in
    end_at bytes c.in-Some.end inside is none

pub returns-in-None-clause-value : goal.returns-in-None-clause-value
returns-in-None-clause-value c =
    let bytes = c.args.bytes.now in
    let none : (k : ℕ) → k < length bytes → get_or bytes k 0 ≡ 10 → ⊥ = search rules in
    no_end bytes none
