-- The statements of a text are joined to one: what a list says of the items of a text it says of that statement.
use Rattle.std.proofs.Common.{◌≡◌, ℕ, List, [], ◌++◌, Some, None, Option, sym, refl, ap, ◌∙◌, subst, ap₂, append-nil}
use Rattle.grammar.specs.Tree.{Row, one, more, Statement, sequence, Item, comment, integer, boolean, array, switch, action, Program}
use Rattle.symbols.specs.declared.refusal.NameRefusal.TheVariants.{WrongType, JumpIntoFor}
use Rattle.symbols.specs.Occurrences.{Occurrence, each, in_statement, in_item, occurrences}
use Rattle.symbols.specs.Symbols.{Symbol, symbols}
use Rattle.symbols.specs.Types.{statement_offences, item_offences}
use Rattle.symbols.specs.Jumps.{open_labels, item_labels, outer_labels, jump_offences, item_jumps}
use Rattle.symbols.specs.Rules.{accepted, verdict}
use Rattle.symbols.specs.Laws.{In}
use Rattle.symbols.specs.ForsAround.{of_statement}
use Rattle.symbols.proofs.Lists.{in_left, in_right}
use Rattle.symbols.proofs.Offences.{accepted_to_keeps_all}
use Rattle.meaning.specs.Positions.{statement_of, followed_by, statements}
use Rattle.meaning.proofs.Switches.{in_cases}

module _ {A : Type 0} (f : Statement → List A) (joins : (a b : Statement) → f (sequence a b) ≡ f a ++ f b) where
  -- What comes of a text, where it has a statement.
  abbrev of_text : Option Statement → List A
  of_text None = []
  of_text (Some s) = f s

  -- An item gives what its statement gives, and two that are joined give what both give.
  item_text : (i : Item) → of_statement f i ≡ of_text (statement_of i)
  item_text comment = refl
  item_text (integer xs) = refl
  item_text (boolean xs) = refl
  item_text (array gs) = refl
  item_text (switch x xs) = refl
  item_text (action s) = refl

  joined_text : (a b : Option Statement) → of_text a ++ of_text b ≡ of_text (followed_by a b)
  joined_text None b = refl
  joined_text (Some a) None = append-nil (f a)
  joined_text (Some a) (Some b) = sym (joins a b)

  whole_text : (g : Item → List A) → ((i : Item) → g i ≡ of_statement f i) → (t : Program) → each g t ≡ of_text (statements t)
  whole_text g same (one i) = same i ∙ item_text i
  whole_text g same (more is i) =
      ap₂ (λ (k l : List A). k ++ l) (whole_text g same is) (same i ∙ item_text i) ∙ joined_text (statements is) (statement_of i)

  -- What comes of the items, where only statements give anything, comes of the joined statement.
  pub whole_statement : (g : Item → List A) → ((i : Item) → g i ≡ of_statement f i) → (t : Program) (s : Statement) → statements t ≡ Some s → each g t ≡ f s
  whole_statement g same t s e = whole_text g same t ∙ ap of_text e

-- Every name of the joined statement stands in the text.
each_within : {A B : Type 0} (g h : A → List B) → ((a : A) (x : B) → In x (g a) → In x (h a)) → (row : Row A) (x : B) → In x (each g row) → In x (each h row)
each_within g h w (one a) x i = w a x i
each_within g h w (more row a) x i =
    in_cases x (each g row) (g a) (In x (each h row ++ h a))
    (λ j. in_left x (each h row) (h a) (each_within g h w row x j)) (λ j. in_right x (each h row) (h a) (w a x j)) i

item_within : (i : Item) (o : Occurrence) → In o (of_statement in_statement i) → In o (in_item i)
item_within comment o h = elim h [ ]
item_within (integer xs) o h = elim h [ ]
item_within (boolean xs) o h = elim h [ ]
item_within (array gs) o h = elim h [ ]
item_within (switch x xs) o h = elim h [ ]
item_within (action s) o h = h

pub occurs_in_text : (t : Program) (s : Statement) → statements t ≡ Some s → (o : Occurrence) → In o (in_statement s) → In o (occurrences t)
occurs_in_text t s e o i =
    let same = whole_statement in_statement (λ a b. refl) (of_statement in_statement) (λ j. refl) t s e in
    each_within (of_statement in_statement) in_item item_within t o (subst (λ os. In o os) (sym same) i)

-- The joined statement has no offence against the rules on types and jumps.
item_types : (ss : List Symbol) (i : Item) → item_offences ss i ≡ of_statement (statement_offences ss) i
item_types ss comment = refl
item_types ss (integer xs) = refl
item_types ss (boolean xs) = refl
item_types ss (array gs) = refl
item_types ss (switch x xs) = refl
item_types ss (action s) = refl

pub types_kept : (t : Program) (s : Statement) → verdict t ≡ accepted → statements t ≡ Some s → statement_offences (symbols t) s ≡ []
types_kept t s ok e =
    sym (whole_statement (statement_offences (symbols t)) (λ a b. refl) (item_offences (symbols t)) (item_types (symbols t)) t s e) ∙ accepted_to_keeps_all t ok WrongType

item_opens : (i : Item) → item_labels i ≡ of_statement open_labels i
item_opens comment = refl
item_opens (integer xs) = refl
item_opens (boolean xs) = refl
item_opens (array gs) = refl
item_opens (switch x xs) = refl
item_opens (action s) = refl

item_jumping : (ss : List Symbol) (seen : List (List ℕ)) (i : Item) → item_jumps ss seen i ≡ of_statement (jump_offences ss seen) i
item_jumping ss seen comment = refl
item_jumping ss seen (integer xs) = refl
item_jumping ss seen (boolean xs) = refl
item_jumping ss seen (array gs) = refl
item_jumping ss seen (switch x xs) = refl
item_jumping ss seen (action s) = refl

pub jumps_kept : (t : Program) (s : Statement) → verdict t ≡ accepted → statements t ≡ Some s → jump_offences (symbols t) (open_labels s) s ≡ []
jumps_kept t s ok e =
    let outer = whole_statement open_labels (λ a b. refl) item_labels item_opens t s e in
    let kept = sym (whole_statement (jump_offences (symbols t) (outer_labels t)) (λ a b. refl) (item_jumps (symbols t) (outer_labels t)) (item_jumping (symbols t) (outer_labels t)) t s e)
    ∙ accepted_to_keeps_all t ok JumpIntoFor in
    ap (λ seen. jump_offences (symbols t) seen s) (sym outer) ∙ kept
