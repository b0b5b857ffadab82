use Rattle.std.proofs.Common.{◌≡◌, ℕ, ◌<◌, length, get_or, sym, rules}
use Rattle.places.proofs.Starts.{no_start, start_after}
use Rattle.places.proofs.line_start.Goals as goal

pub returns-in-Some-clause-value : goal.returns-in-Some-clause-value
returns-in-Some-clause-value c =
    let bytes = c.args.bytes.now in
    let inside : c.in-Some.end < length bytes = search rules in
    let is : get_or bytes c.in-Some.end 0 ≡ 10 = search rules in
    let none : (k : ℕ) → c.in-Some.end < k → k < length bytes → get_or bytes k 0 ≡ 10 → ⊥ = search rules in
    sym (start_after bytes c.in-Some.end inside is none)

pub returns-in-None-clause-value : goal.returns-in-None-clause-value
returns-in-None-clause-value c =
    let bytes = c.args.bytes.now in
    let none : (k : ℕ) → k < length bytes → get_or bytes k 0 ≡ 10 → ⊥ = search rules in
    sym (no_start 0 0 bytes none)
