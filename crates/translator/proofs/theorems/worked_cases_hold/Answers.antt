use Rattle.translator.proofs.Cases as cases
use Rattle.translator.proofs.theorems.worked_cases_hold.Goals as goal

pub returns : goal.returns
returns c = record {
  quotient = cases.quotient;
  signed_quotient = cases.signed_quotient;
  at_the_range = cases.at_the_range;
  past_the_range = cases.past_the_range;
  progression_tested_late = cases.progression_tested_late;
  switch_goes_on = cases.switch_goes_on;
  switch_goes_there = cases.switch_goes_there;
  truth_stored = cases.truth_stored;
  rounded = cases.rounded;
  subscript_first = cases.subscript_first;
  elements = cases.elements;
  members_summed = cases.members_summed;
}
