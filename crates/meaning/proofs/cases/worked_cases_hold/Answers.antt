use Rattle.std.proofs.Common.{refl}
use Rattle.words.specs.Words.{words_within, name_token, mark_at}
use Rattle.symbols.specs.Rules.{verdict}
use Rattle.meaning.specs.Cases.{comes_of}
use Rattle.meaning.proofs.cases.worked_cases_hold.Goals as goal

pub returns : goal.returns
unfolding words_within name_token mark_at verdict comes_of
returns c = record {
  worked = record {
    quotient = refl;
    signed_quotient = refl;
    at_the_range = refl;
    past_the_range = refl;
    progression_tested_late = refl;
    switch_goes_on = refl;
    switch_goes_there = refl;
    truth_stored = refl;
    rounded = refl;
    leavers_dropped = refl;
    members_summed = refl;
  };
  more = record {
    counts_down = refl;
    goes_out = refl;
    goes_on_inside = refl;
    connectives = refl;
    relations_of_equals = refl;
    relations_of_others = refl;
    ranks = refl;
    both_operands = refl;
    subscript_first = refl;
    book_full = refl;
    roll_ended = refl;
    roll_damaged = refl;
    no_statement = refl;
  };
}
