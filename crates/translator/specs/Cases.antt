-- Worked cases: each text of the statement machine's cases is translated, its code checked and run, and comes to what the
-- statement machine says: the same count, named cells, posted figures and end or fault. All by computation, from the bytes.
use Rattle.std.specs.Prelude.{◌≡◌, ℕ, zero, suc, ◌-◌, true, false, List, [], ◌∷◌, ◌++◌, take, replicate, ℤ, pos, codes, slice_index}
use Prim.Native.String.{String}
use Rattle.symbols.specs.Texts.{Answer, accepted, refused as text_refused, answer}
use Rattle.figures.specs.Kinds.{Kind}
use Rattle.figures.specs.Whole.{whole}
use Rattle.figures.specs.Hundredths.{hundredths}
use Rattle.rolls.specs.Contents.{Contents, all_of}
use Rattle.meaning.specs.Runs.{Status, going, over, ended, faulted}
use Rattle.meaning.specs.Cases.{Result, refused, ran, comes_of, none}
use Rattle.code.specs.Codes.{Code, operation_at}
use Rattle.code.specs.Check.{Verdict, passes, refused as code_refused, check}
use Rattle.machine.specs.Machine.{Memory, State, ResultOf, goes, faults, misses}
use Rattle.machine.specs.Steps.{halts, step}
use Rattle.translator.specs.Translation.{translated}

-- Hidden cells and the book hold the given figure at first.
module _ {V : Type 0} (kind : Kind V) (figure : V) (cells : List V) (roll : Contents V) (book_length : ℕ) where
  abbrev started : Code → State V
  started c = record {
    place = 0;
    stack = [];
    memory = record {
      cells = cells ++ replicate (c.sizes.cells - c.sizes.named) figure;
      book = replicate book_length figure;
      posted = 0;
      roll = roll;
    };
  }

  abbrev result_of : Code → ℕ → Memory V → Status → Result V
  result_of c n m status = ran n (take c.sizes.named m.cells) (take m.posted m.book) status

  -- What follows n steps of which the last began at a MARK with text place p.
  abbrev after_step : Code → ℕ → ℕ → (State V → Result V) → ResultOf V → Result V
  after_step c n p next (goes s) = next s
  after_step c n p next (faults f m) =
      result_of c n m (over (faulted (record { number = f.number; place = p; roll_place = f.roll_place })))
  after_step c n p next (misses l) = refused 0 0

  -- At most so many steps after the first n.
  abbrev run_on : Code → ℕ → ℕ → State V → Result V
  run_on c zero n s = result_of c n s.memory going
  run_on c (suc most) n s = elim (halts (operation_at c.operations s.place)) [
    | true ↦ result_of c n s.memory (over ended)
    | false ↦ after_step c n (slice_index c.operands s.place) (λ t. run_on c most (suc n) t) (step kind c s)
  ]

  abbrev run_checked : Code → Verdict → Result V
  run_checked c passes = run_on c 20 0 (started c)
  run_checked c (code_refused n i) = refused n 0

  abbrev run_answer : Answer → Result V
  run_answer (text_refused n p) = refused n p
  run_answer (accepted t) = run_checked (translated t) (check (translated t))

  unfoldable pub code_comes_of : String → Result V
  code_comes_of text = run_answer (answer (codes text))

-- Over whole figures and over hundredths, with no roll and no book.
abbrev pub WholeAgrees : List ℤ → String → Type 0
WholeAgrees cells text = code_comes_of whole (pos 0) cells none 0 text ≡ comes_of whole cells none 0 text

abbrev pub HundredthsAgrees : List ℤ → String → Type 0
HundredthsAgrees cells text = code_comes_of hundredths (pos 0) cells none 0 text ≡ comes_of hundredths cells none 0 text

-- With four cells, a roll of two members and a book of one figure.
abbrev pub MembersAgree : String → Type 0
MembersAgree text =
    let cells = pos 0 ∷ pos 0 ∷ pos 0 ∷ pos 0 ∷ [] in
    let roll = all_of (pos 2 ∷ pos 10 ∷ pos 20 ∷ []) in
    code_comes_of whole (pos 0) cells roll 1 text ≡ comes_of whole cells roll 1 text

pub record WorkedCases : Type 0 where
  pub quotient : WholeAgrees (pos 0 ∷ []) "x := 7/2"
  pub signed_quotient : WholeAgrees (pos 0 ∷ []) "x := -7/2"
  pub at_the_range : WholeAgrees (pos 0 ∷ []) "x := 999999999+999999999+2"
  pub past_the_range : WholeAgrees (pos 0 ∷ []) "x := 999999999+999999999+3"
  pub progression_tested_late : WholeAgrees (pos 0 ∷ pos 0 ∷ []) "for i := 5(1)3; x := x+1"
  pub switch_goes_on : WholeAgrees (pos 0 ∷ pos 0 ∷ []) "switch s := (a, b); go to s[3]; x := 1; a: b: y := 1"
  pub switch_goes_there : WholeAgrees (pos 0 ∷ pos 0 ∷ []) "switch s := (a, b); go to s[2]; x := 1; a: b: y := 1"
  pub truth_stored : WholeAgrees (pos 7 ∷ pos 0 ∷ []) "boolean(p, q); q := p"
  pub rounded : HundredthsAgrees (pos 0 ∷ []) "integer(x); x := 7/2"
  -- a subscript outside its bounds, tested before the right side
  pub subscript_first : WholeAgrees (pos 0 ∷ pos 0 ∷ []) "array(a[-1:0]); a[1] := 1/0"
  -- elements one after the other, a go to within the body, and a step below 0
  pub elements : WholeAgrees (pos 0 ∷ pos 0 ∷ []) "for i := 7, 2(-1)2; begin if (i > 2); go to a; x := x+i; a: x := x+1 end"
  -- the sum of two members
  pub members_summed : MembersAgree "in=:(n); s:=0; for i:=1(1)n; begin in=:(x); s:=s+x end; print(s)"
