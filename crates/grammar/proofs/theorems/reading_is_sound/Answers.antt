use Rattle.std.proofs.Common.{◌≡◌, ◌-◌, arith}
use Rattle.grammar.specs.Parser.{initial}
use Rattle.grammar.proofs.Sound.{run_at}
use Rattle.grammar.proofs.theorems.reading_is_sound.Goals as goal

pub returns : goal.returns
returns c = λ limit end ws t e.
    let z : limit - 0 ≡ limit = omega arith in
    run_at limit ws t end ws initial (λ rs v h. rw z at h) e
