-- What a line of the name table tells by itself.
use Rattle.std.specs.Prelude.{Bool, true, false}
use Rattle.symbols.specs.declared.value_type.ValueType.{ValueType}
use Rattle.symbols.specs.declared.value_type.ValueType.TheVariants.{Untyped, Integer, Boolean}
use Rattle.analysis.specs.declared.symbol.NameKind.{NameKind}
use Rattle.analysis.specs.declared.symbol.NameKind.TheVariants.{Label, Switch, Array, Variable}

-- Is the name defined?
abbrev pub is_defined_kind : NameKind → Bool
is_defined_kind Label = true
is_defined_kind (Switch i) = true
is_defined_kind (Array l h) = true
is_defined_kind Variable = false

-- Does control go to it?
abbrev pub is_target_kind : NameKind → Bool
is_target_kind Label = true
is_target_kind (Switch i) = true
is_target_kind (Array l h) = false
is_target_kind Variable = false

-- Has it a type?
abbrev pub is_typed_as : ValueType → Bool
is_typed_as Untyped = false
is_typed_as Integer = true
is_typed_as Boolean = true
