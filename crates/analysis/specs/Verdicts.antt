-- The answer for a tree from the earliest offence against each rule.
use Rattle.std.specs.Prelude.{◌≡◌, ℕ, Some, None, Option}
use Rattle.grammar.specs.Tree.{Program}
use Rattle.symbols.specs.declared.refusal.NameRefusal.{NameRefusal}
use Rattle.symbols.specs.declared.refusal.NameRefusal.TheVariants.{SecondDefinition, MisusedName, WrongType, JumpIntoFor, WrongBounds, TooManyCells}
use Rattle.symbols.specs.Rules.{offences, Verdict, accepted, refused, verdict}
use Rattle.analysis.specs.declared.offence.Offences.{Offences}
use Rattle.analysis.specs.declared.offence.Broken.{Broken}
use Rattle.analysis.specs.Earliest.{earliest_of}

abbrev pub told_or_next : NameRefusal → Option ℕ → Option Broken → Option Broken
told_or_next r (Some p) next = Some (record { rule = r; place = p })
told_or_next r None next = next

-- What a result says of a tree.
abbrev pub verdict_in : Option Broken → Verdict
verdict_in (Some b) = refused b.rule b.place
verdict_in None = accepted

-- The earliest offence of a tree against each rule.
pub record OffencesOf (t : Program) (o : Offences) : Type 0 where
  pub second_definition : o.second_definition ≡ earliest_of (offences t SecondDefinition)
  pub misused_name : o.misused_name ≡ earliest_of (offences t MisusedName)
  pub wrong_type : o.wrong_type ≡ earliest_of (offences t WrongType)
  pub jump_into_for : o.jump_into_for ≡ earliest_of (offences t JumpIntoFor)
  pub wrong_bounds : o.wrong_bounds ≡ earliest_of (offences t WrongBounds)
  pub too_many_cells : o.too_many_cells ≡ earliest_of (offences t TooManyCells)

abbrev pub Decides : Offences → Option Broken → Type 0
Decides o r = (t : Program) → OffencesOf t o → verdict_in r ≡ verdict t
