-- Texts, and what is told of them, worked out by the definitions from the bytes on.
use Rattle.std.specs.Prelude.{◌≡◌, ℕ, Bool, true, false, List, [], ◌∷◌, map, codes}
use Rattle.symbols.specs.declared.value_type.ValueType.TheVariants.{Untyped, Integer}
use Rattle.symbols.specs.Symbols.{Symbol, count, symbols}
use Rattle.symbols.specs.Texts.{Answer, accepted, refused, answer}

abbrev pub Refuses : List ℕ → ℕ → ℕ → Type 0
Refuses text n p = answer text ≡ refused n p

abbrev pub is_accepted : Answer → Bool
is_accepted (accepted t) = true
is_accepted (refused n p) = false

abbrev pub Accepts : List ℕ → Type 0
Accepts text = is_accepted (answer text) ≡ true

-- The lines of an accepted text's table.
abbrev pub table_of : Answer → List Symbol
table_of (accepted t) = symbols t
table_of (refused n p) = []

abbrev pub four_names : List Symbol
four_names = table_of (answer (codes "integer(k); array(a, b[-1:1]); for i := 1; k := a[i]"))

pub record Table : Type 0 where
  pub places : map (λ s. s.name.place) four_names ≡ 8 ∷ (18 ∷ (21 ∷ (35 ∷ [])))
  pub first_cells : map (λ s. s.first) four_names ≡ 0 ∷ (1 ∷ (4 ∷ (7 ∷ [])))
  pub counts : map count four_names ≡ 1 ∷ (3 ∷ (3 ∷ (1 ∷ [])))
  pub types : map (λ s. s.type) four_names ≡ Integer ∷ (Untyped ∷ (Untyped ∷ (Untyped ∷ [])))

-- Rule 7: a name is defined once and typed once, and a label or a switch has no type.
pub record Definitions : Type 0 where
  pub second_label : Refuses (codes "a: a: stop") 7 3
  pub second_array : Refuses (codes "array(a[1:2], a[1:2])") 7 14
  pub label_and_array : Refuses (codes "array(a[1:2]); a: stop") 7 15
  pub second_type : Refuses (codes "integer(x, x)") 7 11
  pub other_type : Refuses (codes "integer(x); boolean(x)") 7 20
  pub typed_label : Refuses (codes "integer(a); a: stop") 7 8
  pub typed_switch : Refuses (codes "switch s := (a); boolean(s); a: stop") 7 25
  pub typed_array_and_label : Refuses (codes "array(a[1:2]); integer(a); a: stop") 7 23
  pub typed_later : Accepts (codes "x := 1; integer(x)")
  pub typed_array : Accepts (codes "integer(a); array(a[1:2])")
  pub only_typed : Accepts (codes "boolean(p)")
  pub least_number_first : Refuses (codes "x := (y > 1); a: a: stop") 7 17

-- Rule 8: a name is used as what it is defined to be, wherever the definition stands.
pub record Uses : Type 0 where
  pub array_as_variable : Refuses (codes "array(a[1:2]); x := a") 8 20
  pub array_declared_later : Refuses (codes "x := a; array(a[1:2])") 8 5
  pub variable_as_array : Refuses (codes "x[1] := 2") 8 0
  pub go_to_variable : Refuses (codes "go to x") 8 6
  pub go_to_label_with_subscript : Refuses (codes "a: go to a[1]") 8 9
  pub go_to_switch_without : Refuses (codes "switch s := (a); a: go to s") 8 26
  pub variable_in_switch : Refuses (codes "switch s := (a, b); a: stop") 8 16
  pub label_in_expression : Refuses (codes "a: x := a") 8 8
  pub label_assigned : Refuses (codes "a: a := 1") 8 3
  pub go_to_later_label : Accepts (codes "go to a; a: stop")
  pub go_to_later_switch : Accepts (codes "go to s[1]; switch s := (a); a: stop")

-- Rule 9: a part is of the type that is wanted.
pub record Types : Type 0 where
  pub comparison_assigned : Refuses (codes "x := (y > 1)") 9 5
  pub number_as_truth_value : Refuses (codes "boolean(p); p := 2") 9 17
  pub one_by_value : Accepts (codes "boolean(p); p := 01")
  pub signed_one : Refuses (codes "boolean(p); p := +1") 9 17
  pub variable_of_for : Refuses (codes "boolean(p); for p := 1; stop") 9 16
  pub variable_of_in : Refuses (codes "boolean(p); in =: (p)") 9 19
  pub condition : Refuses (codes "if x; stop") 9 3
  pub row_is_one_part : Refuses (codes "x := ((1 and 0))") 9 7
  pub operand : Refuses (codes "boolean(p); x := 1 + p") 9 21
  pub subscript : Refuses (codes "array(a[0:1]); boolean(p); x := a[p]") 9 34
  pub brackets_pass_inward : Accepts (codes "boolean(p); p := ((1) and (x > 2))")
  pub boolean_array : Accepts (codes "array(a[0:1]); boolean(a); a[0] := not a[1]")
  pub boolean_later : Accepts (codes "if p; stop; boolean(p)")

-- Rule 10: a for's body is entered by its for alone.
pub record Jumps : Type 0 where
  pub from_outside : Refuses (codes "go to a; for i := 1; a: x := 1") 10 6
  pub by_switch : Refuses (codes "switch s := (b, a); go to s[1]; for i := 1; a: x := 1; b: stop") 10 26
  pub from_the_outer_body : Refuses (codes "for i := 1; begin go to a; for j := 1; a: x := 1 end") 10 24
  pub from_another_body : Refuses (codes "for i := 1; a: x := 1; for i := 1; go to a") 10 41
  pub within : Accepts (codes "for i := 1; begin a: x := 1; go to a end")
  pub out_of : Accepts (codes "for i := 1; begin go to b; x := 1 end; b: stop")
  pub to_the_outer_body : Accepts (codes "for i := 1; begin a: x := 1; for j := 1; go to a end")

-- Rules 11 and 12: bounds in order within 9,999 either way, and at most 2,048 cells, the hidden ones counted last.
pub record Cells : Type 0 where
  pub reversed : Refuses (codes "array(a[2:1])") 11 7
  pub reversed_below_zero : Refuses (codes "array(a[-3:-4])") 11 7
  pub too_low : Refuses (codes "array(a, b[-10000:1])") 11 10
  pub too_high : Refuses (codes "array(a[1:10000])") 11 7
  pub lowest : Accepts (codes "array(a[-9999:-9999], b[9999:9999])")
  pub all_cells : Accepts (codes "array(a[1:2048])")
  pub one_array : Refuses (codes "array(a[1:2049])") 12 6
  pub one_name_more : Refuses (codes "array(a[1:2048]); x := 1") 12 18
  pub one_for_more : Refuses (codes "array(a[1:2047]); for x := 1; stop") 12 18
  pub names_before_fors : Refuses (codes "for x := 1; stop; array(a[1:2048])") 12 24
  pub for_before_names : Refuses (codes "for x := 1; stop; array(a[1:2047])") 12 0
  pub all_cells_with_a_for : Accepts (codes "array(a[1:2046]); for x := 1; stop")

-- Words and sentences are tested before names.
pub record EarlierTests : Type 0 where
  pub no_word : Refuses (codes "x := 1 # 2") 2 7
  pub long_number : Refuses (codes "x := 1234567890") 3 5
  pub early_end : Refuses (codes "x := 1 +") 5 8
