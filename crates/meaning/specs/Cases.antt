-- Worked cases: from the bytes of a text through its words, its tree and its symbol table to what the run comes to.
use Rattle.std.specs.Prelude.{◌≡◌, ℕ, List, [], ◌∷◌, ℤ, pos, negsuc, Some, None, codes}
use Prim.Native.String.{String}
use Rattle.symbols.specs.Texts.{Answer, accepted, refused as text_refused, answer}
use Rattle.figures.specs.Kinds.{Kind, is_zero}
use Rattle.figures.specs.Whole.{whole}
use Rattle.figures.specs.Hundredths.{hundredths}
use Rattle.rolls.specs.Contents.{Contents, damaged_at, all_of}
use Rattle.rolls.specs.Groups.{kept}
use Rattle.meaning.specs.Names.{names_of}
use Rattle.meaning.specs.Positions.{statements}
use Rattle.meaning.specs.Runs.{initial, ended, faulted, Status, over, Progress, advance}

-- What comes of a text: a refusal and its place, or the steps made, the cells and the posted figures after them, and
-- whether the run is over.
pub data Result (V : Type 0) : Type 0 where
  refused : ℕ → ℕ → Result V
  ran : ℕ → List V → List V → Status → Result V

module _ {V : Type 0} (kind : Kind V) (cells : List V) (roll : Contents V) (book_length : ℕ) where
  abbrev result_of : Progress V → Result V
  result_of p = ran p.made p.reached.memory.cells p.reached.memory.posted p.status

  -- A hundred steps at most.
  abbrev result_for : Answer → Result V
  result_for (text_refused n p) = refused n p
  result_for (accepted t) = result_of (advance kind (names_of t) (statements t) 100 (initial (statements t) cells roll book_length))

  unfoldable pub comes_of : String → Result V
  comes_of text = result_for (answer (codes text))

abbrev pub none : Contents ℤ
none = all_of []

-- Cells are listed in the order in which their names first appear.
pub record WorkedCases : Type 0 where
  -- 7/2 drops the fraction, and so does -7/2; the leading sign bears on 7/2
  pub quotient : comes_of whole (pos 0 ∷ []) none 0 "x := 7/2" ≡ ran 1 (pos 3 ∷ []) [] (over ended)
  pub signed_quotient : comes_of whole (pos 0 ∷ []) none 0 "x := -7/2" ≡ ran 1 (negsuc 2 ∷ []) [] (over ended)
  -- the range ends at 2,000,000,000; past it is 31, at the assignment
  pub at_the_range : comes_of whole (pos 0 ∷ []) none 0 "x := 999999999+999999999+2" ≡ ran 1 (pos 2000000000 ∷ []) [] (over ended)
  pub past_the_range : comes_of whole (pos 0 ∷ []) none 0 "x := 999999999+999999999+3"
      ≡ ran 0 (pos 0 ∷ []) [] (over (faulted (record { number = 31; place = 0; roll_place = None })))
  -- a progression runs its body before the first test: i 6, x 1
  pub progression_tested_late : comes_of whole (pos 0 ∷ pos 0 ∷ []) none 0 "for i := 5(1)3; x := x+1" ≡ ran 4 (pos 6 ∷ pos 1 ∷ []) [] (over ended)
  -- a switch without a third label goes on; with the second it goes there: x, y
  pub switch_goes_on : comes_of whole (pos 0 ∷ pos 0 ∷ []) none 0 "switch s := (a, b); go to s[3]; x := 1; a: b: y := 1"
      ≡ ran 3 (pos 1 ∷ pos 1 ∷ []) [] (over ended)
  pub switch_goes_there : comes_of whole (pos 0 ∷ pos 0 ∷ []) none 0 "switch s := (a, b); go to s[2]; x := 1; a: b: y := 1"
      ≡ ran 2 (pos 0 ∷ pos 1 ∷ []) [] (over ended)
  -- a Boolean cell that holds 7 is true, and true is stored as 1: p, q
  pub truth_stored : comes_of whole (pos 7 ∷ pos 0 ∷ []) none 0 "boolean(p, q); q := p" ≡ ran 1 (pos 7 ∷ pos 1 ∷ []) [] (over ended)
  -- 3.50 is rounded to 4.00 for an integer name
  pub rounded : comes_of hundredths (pos 0 ∷ []) none 0 "integer(x); x := 7/2" ≡ ran 1 (pos 400 ∷ []) [] (over ended)
  -- groups of two whose first figure is 0 are dropped, also a short one at the end
  pub leavers_dropped : kept (is_zero whole) 2 (all_of (pos 1 ∷ pos 10 ∷ pos 0 ∷ pos 20 ∷ pos 1 ∷ pos 30 ∷ pos 0 ∷ []))
      ≡ all_of (pos 1 ∷ pos 10 ∷ pos 1 ∷ pos 30 ∷ [])
  -- the sum of two members: n, s, i, x
  pub members_summed : comes_of whole (pos 0 ∷ pos 0 ∷ pos 0 ∷ pos 0 ∷ []) (all_of (pos 2 ∷ pos 10 ∷ pos 20 ∷ [])) 1
      "in=:(n); s:=0; for i:=1(1)n; begin in=:(x); s:=s+x end; print(s)"
      ≡ ran 12 (pos 2 ∷ pos 30 ∷ pos 3 ∷ pos 20 ∷ []) (pos 30 ∷ []) (over ended)

-- A run that is over by a fault at a place of the text.
abbrev pub fault_at : ℕ → ℕ → Status
fault_at n p = over (faulted (record { number = n; place = p; roll_place = None }))

pub record MoreCases : Type 0 where
  -- a negative step counts down; the element after the progression comes next
  pub counts_down : comes_of whole (pos 0 ∷ []) none 4 "for i := 3(-1)1, 9; print(i)"
      ≡ ran 12 (pos 9 ∷ []) (pos 3 ∷ pos 2 ∷ pos 1 ∷ pos 9 ∷ []) (over ended)
  -- a go to leaves the loop; the control variable keeps its figure: i, j
  pub goes_out : comes_of whole (pos 0 ∷ pos 0 ∷ []) none 1 "i := 1; for j := 1(1)9; begin if (j >= 4); go to out; i := i*2 end; out: print(i)"
      ≡ ran 17 (pos 8 ∷ pos 4 ∷ []) (pos 8 ∷ []) (over ended)
  -- a go to inside the body of a for stays in the turn
  pub goes_on_inside : comes_of whole (pos 0 ∷ pos 0 ∷ []) none 0 "for i := 1, 2; begin go to a; stop; a: x := x+i end"
      ≡ ran 6 (pos 2 ∷ pos 3 ∷ []) [] (over ended)
  -- p, q, r, s, t
  pub connectives : comes_of whole (pos 0 ∷ pos 0 ∷ pos 0 ∷ pos 0 ∷ pos 0 ∷ []) none 0
      "boolean(p, q, r, s, t); p := 1; q := p and 0; r := q or p; s := not q eqv r; t := q eqv r"
      ≡ ran 5 (pos 1 ∷ pos 0 ∷ pos 1 ∷ pos 1 ∷ pos 0 ∷ []) [] (over ended)
  -- each relation between 1 and 1, and between 1 and 2
  pub relations_of_equals : comes_of whole (pos 9 ∷ pos 9 ∷ pos 9 ∷ pos 9 ∷ pos 9 ∷ pos 9 ∷ []) none 0
      "boolean(a, b, c, d, e, f); a := (1 < 1); b := (1 <= 1); c := (1 = 1); d := (1 /= 1); e := (1 >= 1); f := (1 > 1)"
      ≡ ran 6 (pos 0 ∷ pos 1 ∷ pos 1 ∷ pos 0 ∷ pos 1 ∷ pos 0 ∷ []) [] (over ended)
  pub relations_of_others : comes_of whole (pos 9 ∷ pos 9 ∷ pos 9 ∷ pos 9 ∷ pos 9 ∷ pos 9 ∷ []) none 0
      "boolean(a, b, c, d, e, f); a := (1 < 2); b := (1 <= 2); c := (1 = 2); d := (1 /= 2); e := (1 >= 2); f := (1 > 2)"
      ≡ ran 6 (pos 1 ∷ pos 1 ∷ pos 0 ∷ pos 1 ∷ pos 0 ∷ pos 0 ∷ []) [] (over ended)
  -- * before -, and both from the left
  pub ranks : comes_of whole (pos 0 ∷ []) none 0 "x := 20 - 2*3 - 8/2/2" ≡ ran 1 (pos 12 ∷ []) [] (over ended)
  -- both operands are worked out, also where the right one decides alone
  pub both_operands : comes_of whole (pos 0 ∷ []) none 0 "boolean(p); p := (1/0 > 1) and 0" ≡ ran 0 (pos 0 ∷ []) [] (fault_at 32 12)
  -- the subscript is tested before the right side is worked out
  pub subscript_first : comes_of whole (pos 0 ∷ pos 0 ∷ pos 0 ∷ []) none 0 "array(a[-1:1]); a[2] := 1/0"
      ≡ ran 0 (pos 0 ∷ pos 0 ∷ pos 0 ∷ []) [] (fault_at 36 16)
  -- each figure of a print is a step of its own
  pub book_full : comes_of whole [] none 1 "print(1, 2)" ≡ ran 1 [] (pos 1 ∷ []) (fault_at 35 0)
  -- an empty roll at its end, and at damage
  pub roll_ended : comes_of whole (pos 0 ∷ []) (all_of (pos 5 ∷ [])) 0 "in =: (x); a: in =: (x)" ≡ ran 1 (pos 5 ∷ []) [] (fault_at 33 14)
  pub roll_damaged : comes_of whole (pos 0 ∷ []) (record { figures = pos 5 ∷ []; ending = damaged_at 2 }) 0 "in =: (x); a: in =: (x)"
      ≡ ran 1 (pos 5 ∷ []) [] (over (faulted (record { number = 34; place = 14; roll_place = Some 2 })))
  -- a text without a statement is at its end
  pub no_statement : comes_of whole [] none 0 "comment nothing to do" ≡ ran 0 [] [] (over ended)
