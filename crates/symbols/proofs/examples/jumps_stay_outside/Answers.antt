use Rattle.std.proofs.Common.{refl}
use Rattle.words.specs.Words.{words_within, name_token, mark_at}
use Rattle.symbols.specs.Rules.{verdict}
use Rattle.symbols.proofs.examples.jumps_stay_outside.Goals as goal

pub returns : goal.returns
unfolding words_within name_token mark_at verdict
returns c =
    record { from_outside = refl; by_switch = refl; from_the_outer_body = refl; from_another_body = refl; within = refl; out_of = refl; to_the_outer_body = refl }
