use Rattle.symbols.specs.declared.value_type.ValueType.TheVariants.{Integer as IntegerType, Boolean as BooleanType}
use Rattle.symbols.specs.Occurrences.{as_label, as_switch, of_type}
use Rattle.analysis.specs.Heeding.{label, switch, integer, boolean}
use Rattle.analysis.proofs.Heeded.{heeds_as}
use Rattle.analysis.proofs.Found.{items_are}
use Rattle.analysis.proofs.Standing.{stands_as}
use Rattle.analysis.proofs.Declared.{heeds_joined, heeds_labelled, heeds_condition, heeds_repetition, heeds_arrays, heeds_integers, heeds_booleans, heeds_switch, heeds_rest}
use Rattle.analysis.proofs.declare.+declare_all.Goals as goal

pub returns-in-More : goal.returns-in-More
returns-in-More g t c = λ v ns whole u numbered h.
    let s = stands_as v c.args.i _ (items_are _ v c.args.i _ numbered.nodes c.in-More.ensures.is u h) u h in
    heeds_as c.earlier.ensures
    (heeds_joined (λ w k. c.declare_all-a.ensures v ns whole w numbered k) (λ w k. c.declare_all-b.ensures v ns whole w numbered k) s)

pub returns-in-Labelled : goal.returns-in-Labelled
returns-in-Labelled g t c = λ v ns whole u numbered h.
    let s = stands_as v c.args.i _ (items_are _ v c.args.i _ numbered.nodes c.in-Labelled.ensures.is u h) u h in
    heeds_as c.earlier-in-Labelled.ensures
    (heeds_labelled (λ x n. c.declare-a.ensures v ns whole x as_label numbered label n) (λ w k. c.declare_all-b-in-Labelled.ensures v ns whole w numbered k) s)

pub returns-in-Conditional : goal.returns-in-Conditional
returns-in-Conditional g t c = λ v ns whole u numbered h.
    let s = stands_as v c.args.i _ (items_are _ v c.args.i _ numbered.nodes c.in-Conditional.ensures.is u h) u h in
    heeds_condition (λ w k. c.declare_all.ensures v ns whole w numbered k) s

pub returns-in-Repeated : goal.returns-in-Repeated
returns-in-Repeated g t c = λ v ns whole u numbered h.
    let s = stands_as v c.args.i _ (items_are _ v c.args.i _ numbered.nodes c.in-Repeated.ensures.is u h) u h in
    heeds_repetition (λ w k. c.declare_all-in-Repeated.ensures v ns whole w numbered k) s

pub returns-in-Array : goal.returns-in-Array
returns-in-Array g t c = λ v ns whole u numbered h.
    let s = stands_as v c.args.i _ (items_are _ v c.args.i _ numbered.nodes c.in-Array.ensures.is u h) u h in
    heeds_arrays (λ gs k. c.declare_groups.ensures v ns whole gs numbered k) s

pub returns-in-Switch : goal.returns-in-Switch
returns-in-Switch g t c = λ v ns whole u numbered h.
    let s = stands_as v c.args.i _ (items_are _ v c.args.i _ numbered.nodes c.in-Switch.ensures.is u h) u h in
    heeds_switch (λ x xs n k. c.declare.ensures v ns whole x (as_switch xs) numbered (switch k) n) s

pub returns-in-Integer : goal.returns-in-Integer
returns-in-Integer g t c = λ v ns whole u numbered h.
    let s = stands_as v c.args.i _ (items_are _ v c.args.i _ numbered.nodes c.in-Integer.ensures.is u h) u h in
    heeds_integers (λ xs k. c.declare_row.ensures v ns whole xs (of_type IntegerType) numbered integer k) s

pub returns-in-Boolean : goal.returns-in-Boolean
returns-in-Boolean g t c = λ v ns whole u numbered h.
    let s = stands_as v c.args.i _ (items_are _ v c.args.i _ numbered.nodes c.in-Boolean.ensures.is u h) u h in
    heeds_booleans (λ xs k. c.declare_row-in-Boolean.ensures v ns whole xs (of_type BooleanType) numbered boolean k) s

pub returns-in_default : goal.returns-in_default
returns-in_default g t c = λ v ns whole u numbered h.
    let s = stands_as v c.args.i _ (items_are _ v c.args.i _ numbered.nodes c.ordered_node.ensures.is u h) u h in
    heeds_rest c.in_default.not-More c.in_default.not-Labelled c.in_default.not-Conditional c.in_default.not-Repeated c.in_default.not-Array c.in_default.not-Switch c.in_default.not-Integer c.in_default.not-Boolean s
