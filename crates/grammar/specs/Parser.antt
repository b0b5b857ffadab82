-- The defined reading of a text: a machine that takes one word at a time. The state is the script in hand, with the
-- scripts around it that wait for its tree, innermost first.
use Rattle.std.specs.Prelude.{ℕ, Bool, cond, List, [], ◌∷◌, Some, None, Option, nat_le}
use Rattle.words.specs.Token.{Token, Word}
use Rattle.grammar.specs.declared.refusal.SentenceRefusal.{SentenceRefusal}
use Rattle.grammar.specs.declared.refusal.SentenceRefusal.TheVariants.{Unexpected, TooDeep}
use Rattle.grammar.specs.Tree.{Program}
use Rattle.grammar.specs.Classes.{found, opens, levels_after}
use Rattle.grammar.specs.Grammar.{Phrase, program, Value}
pub use Rattle.grammar.specs.Scripts.{Goal, begin, operators, rest, Script, done, word, either, part, goto, within, named, name_script, variable_rest, variable_script, variable_factor, comparison_script, bracket_rest, bracket_script, factor_script, prefix_script, behind_factor, ranked_script, operator_script, operators_script, progression_script, element_rest, element_script, conditional_script, repetition_body, repetition_script, block_script, jump_rest, jump_script, input_script, print_script, indexed_assignment, named_script, statement_script, bound_script, row_rest, bounds_script, group_bounds, group_script, names_script, arrays_script, switch_script, statement_item, item_script, part_script, phrase_script, start}

-- A script that begins with a goal begins with the goal's own script.
abbrev pub opened : {p : Phrase} → Script p → Script p
opened (done t) = done t
opened (word c y) = word c y
opened (either c y n) = either c y n
opened (part g f) = within (start g) f
opened (goto g) = start g
opened (within s f) = within s f

-- What stands around a script: nothing, or a script that waits for its tree, with the levels that were open there.
pub data Around : Phrase → Type 0 where
  nothing : Around program
  waiting : {p : Phrase} (q : Phrase) (d : ℕ) (f : Value q → Script p) (k : Around p) → Around q

-- The open levels, the script in hand and what stands around it.
pub data State : Type 0 where
  at : {p : Phrase} (d : ℕ) (s : Script p) (k : Around p) → State

-- A word is taken: here, or inside a script for whose tree another waits.
pub data Taken : Phrase → Type 0 where
  here : {p : Phrase} → Script p → Taken p
  inside : {p q : Phrase} → Taken q → (Value q → Script p) → Taken p

-- A script meets a word: it takes the word, or it was done before it, or the word cannot stand there.
pub data Met : Phrase → Type 0 where
  takes : {p : Phrase} → Taken p → Met p
  passes : {p : Phrase} → Value p → Met p
  refuses : {p : Phrase} → Met p

abbrev pub if_found : {p : Phrase} {A : Type 0} → (A → Script p) → Met p → Option A → Met p
if_found y n (Some x) = takes (here (y x))
if_found y n None = n

abbrev pub met_within : {p q : Phrase} → (Value q → Script p) → (Value q → Met p) → Met q → Met p
met_within f next (takes t) = takes (inside t f)
met_within f next (passes v) = next v
met_within f next refuses = refuses

abbrev pub meets : {p : Phrase} → Token → ℕ → Script p → Met p
meets t b (done v) = passes v
meets t b (word c y) = if_found (λ x. y x b) refuses (found c t)
meets t b (either c y n) = if_found (λ x. y x b) (meets t b n) (found c t)
meets t b (part g f) = refuses
meets t b (goto g) = refuses
meets t b (within s f) = met_within f (λ v. meets t b (f v)) (meets t b s)

-- The state behind a word that was taken, with d levels open before it and e behind it.
abbrev pub entered : {p : Phrase} → ℕ → ℕ → Taken p → Around p → State
entered d e (here s) k = at e s k
entered d e (inside {q = q} t f) k = entered d e t (waiting q d f k)

abbrev pub met : {p : Phrase} → ℕ → ℕ → Around p → (Value p → Option State) → Met p → Option State
met d e k next (takes t) = Some (entered d e t k)
met d e k next (passes v) = next v
met d e k next refuses = None

-- A part is done, and a word comes.
abbrev pub after : {p : Phrase} → Around p → Value p → Token → ℕ → Option State
after nothing v t b = None
after (waiting q d f k) v t b = met d (levels_after t d) k (λ u. after k u t b) (meets t b (opened (f v)))

-- A word comes.
abbrev pub moved : State → Token → ℕ → Option State
moved (at d s k) t b = met d (levels_after t d) k (λ v. after k v t b) (meets t b (opened s))

-- The words are over: a script is done there, or it is not.
abbrev pub then_ended : {A B : Type 0} → (A → Option B) → Option A → Option B
then_ended f None = None
then_ended f (Some x) = f x

abbrev pub ended : {p : Phrase} → Script p → Option (Value p)
ended (done v) = Some v
ended (word c y) = None
ended (either c y n) = ended n
ended (part g f) = None
ended (goto g) = None
ended (within s f) = then_ended (λ v. ended (f v)) (ended s)

abbrev pub ended_around : {p : Phrase} → Around p → Value p → Option Program
ended_around nothing v = Some v
ended_around (waiting q d f k) v = then_ended (λ u. ended_around k u) (ended (opened (f v)))

abbrev pub finished : State → Option Program
finished (at d s k) = then_ended (λ v. ended_around k v) (ended (opened s))

-- What comes of a text: its tree, or a refusal and its place.
pub data Outcome : Type 0 where
  tree : Program → Outcome
  refused : SentenceRefusal → ℕ → Outcome

abbrev pub early_or : ℕ → Option Program → Outcome
early_or end (Some t) = tree t
early_or end None = refused Unexpected end

abbrev pub levels : State → ℕ
levels (at d s k) = d

-- A word leads on, or is refused: it cannot stand there, or it opens a level too many.
abbrev pub onward : ℕ → ℕ → Bool → (State → Outcome) → Option State → Outcome
onward limit b o next (Some s) = cond o (cond (nat_le (levels s) limit) (next s) (refused TooDeep b)) (next s)
onward limit b o next None = refused Unexpected b

abbrev pub run : ℕ → ℕ → List Word → State → Outcome
run limit end [] s = early_or end (finished s)
run limit end (w ∷ ws) s = onward limit w.place (opens w.token) (λ q. run limit end ws q) (moved s w.token w.place)

abbrev pub initial : State
initial = at 0 (goto (begin program)) nothing

-- The reading of a text's words, with so many levels at most; `end` is the text's length.
abbrev pub parsed : ℕ → ℕ → List Word → Outcome
parsed limit end ws = run limit end ws initial
