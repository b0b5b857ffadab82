use Rattle.std.proofs.Common.{refl}
use Rattle.words.specs.Words.{words_within, name_token, mark_at}
use Rattle.words.specs.declared.refusal.WordRefusal.TheVariants.{NoWord, WordTooLong}
use Rattle.words.proofs.law.worked_texts_hold.Goals as goal

pub returns : goal.returns
unfolding words_within name_token mark_at
returns c = record {
  nothing_at_all = refl;
  blanks_only = refl;
  no_word = (NoWord, refl, refl);
  long_number = (WordTooLong, refl, refl);
  nine_digits = refl;
  ten_digits = (WordTooLong, refl, refl);
  sixteen_bytes = refl;
  seventeen_bytes = (WordTooLong, refl, refl);
  number_then_name = refl;
  case_counts = refl;
  longest_mark = refl;
  marks_in_a_row = refl;
  input = refl;
  comment_to_semicolon = refl;
  comment_to_end = refl;
  no_comment = refl;
  line_ends = refl;
  tab = (NoWord, refl, refl);
}
