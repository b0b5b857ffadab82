-- The worked cases, each by computation. One declaration a case, since each computes much.
use Rattle.std.proofs.Common.{[], ◌∷◌, pos, refl}
use Rattle.words.specs.Words.{name_token, mark_at, words_within}
use Rattle.symbols.specs.Rules.{verdict}
use Rattle.meaning.specs.Cases.{comes_of}
use Rattle.code.specs.Operations.{operation}
use Rattle.code.specs.Codes.{operation_at}
use Rattle.code.specs.Check.{check}
use Rattle.machine.specs.Steps.{performed, run_to_end}
use Rattle.translator.specs.Translation.{translated}
use Rattle.translator.specs.Cases.{code_comes_of, WholeAgrees, HundredthsAgrees, MembersAgree}

pub quotient : WholeAgrees (pos 0 ∷ []) "x := 7/2"
unfolding name_token mark_at words_within verdict comes_of operation operation_at check performed run_to_end translated code_comes_of
quotient = refl

pub signed_quotient : WholeAgrees (pos 0 ∷ []) "x := -7/2"
unfolding name_token mark_at words_within verdict comes_of operation operation_at check performed run_to_end translated code_comes_of
signed_quotient = refl

pub at_the_range : WholeAgrees (pos 0 ∷ []) "x := 999999999+999999999+2"
unfolding name_token mark_at words_within verdict comes_of operation operation_at check performed run_to_end translated code_comes_of
at_the_range = refl

pub past_the_range : WholeAgrees (pos 0 ∷ []) "x := 999999999+999999999+3"
unfolding name_token mark_at words_within verdict comes_of operation operation_at check performed run_to_end translated code_comes_of
past_the_range = refl

pub progression_tested_late : WholeAgrees (pos 0 ∷ pos 0 ∷ []) "for i := 5(1)3; x := x+1"
unfolding name_token mark_at words_within verdict comes_of operation operation_at check performed run_to_end translated code_comes_of
progression_tested_late = refl

pub switch_goes_on : WholeAgrees (pos 0 ∷ pos 0 ∷ []) "switch s := (a, b); go to s[3]; x := 1; a: b: y := 1"
unfolding name_token mark_at words_within verdict comes_of operation operation_at check performed run_to_end translated code_comes_of
switch_goes_on = refl

pub switch_goes_there : WholeAgrees (pos 0 ∷ pos 0 ∷ []) "switch s := (a, b); go to s[2]; x := 1; a: b: y := 1"
unfolding name_token mark_at words_within verdict comes_of operation operation_at check performed run_to_end translated code_comes_of
switch_goes_there = refl

pub truth_stored : WholeAgrees (pos 7 ∷ pos 0 ∷ []) "boolean(p, q); q := p"
unfolding name_token mark_at words_within verdict comes_of operation operation_at check performed run_to_end translated code_comes_of
truth_stored = refl

pub rounded : HundredthsAgrees (pos 0 ∷ []) "integer(x); x := 7/2"
unfolding name_token mark_at words_within verdict comes_of operation operation_at check performed run_to_end translated code_comes_of
rounded = refl

pub subscript_first : WholeAgrees (pos 0 ∷ pos 0 ∷ []) "array(a[-1:0]); a[1] := 1/0"
unfolding name_token mark_at words_within verdict comes_of operation operation_at check performed run_to_end translated code_comes_of
subscript_first = refl

pub elements : WholeAgrees (pos 0 ∷ pos 0 ∷ []) "for i := 7, 2(-1)2; begin if (i > 2); go to a; x := x+i; a: x := x+1 end"
unfolding name_token mark_at words_within verdict comes_of operation operation_at check performed run_to_end translated code_comes_of
elements = refl

pub members_summed : MembersAgree "in=:(n); s:=0; for i:=1(1)n; begin in=:(x); s:=s+x end; print(s)"
unfolding name_token mark_at words_within verdict comes_of operation operation_at check performed run_to_end translated code_comes_of
members_summed = refl
