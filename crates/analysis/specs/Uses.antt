-- What a use of a name wants it to be, as the code has it.
use Rattle.std.specs.Prelude.{Bool, true, false}
use Rattle.symbols.specs.Occurrences.{Role, as_target, as_selector, as_variable, as_element}
use Rattle.analysis.specs.declared.symbol.NameKind.{NameKind}
use Rattle.analysis.specs.declared.symbol.NameKind.TheVariants.{Label, Switch, Array, Variable}
use Rattle.analysis.specs.declared.name_use.NameUse.{NameUse}
use Rattle.analysis.specs.declared.name_use.NameUse.TheVariants.{AsTarget, AsSelector, AsVariable, AsElement}

-- A label in a switch's list is wanted as a go to's target is.
abbrev pub role_in : NameUse → Role
role_in AsTarget = as_target
role_in AsSelector = as_selector
role_in AsVariable = as_variable
role_in AsElement = as_element

-- Does what a record says that a name is suit the use?
abbrev pub kind_suits : NameKind → NameUse → Bool
kind_suits Label AsTarget = true
kind_suits Label AsSelector = false
kind_suits Label AsVariable = false
kind_suits Label AsElement = false
kind_suits (Switch i) AsTarget = false
kind_suits (Switch i) AsSelector = true
kind_suits (Switch i) AsVariable = false
kind_suits (Switch i) AsElement = false
kind_suits (Array l h) AsTarget = false
kind_suits (Array l h) AsSelector = false
kind_suits (Array l h) AsVariable = false
kind_suits (Array l h) AsElement = true
kind_suits Variable AsTarget = false
kind_suits Variable AsSelector = false
kind_suits Variable AsVariable = true
kind_suits Variable AsElement = false
