use Rattle.std.proofs.Common.{◌≡◌, ◌+◌, min, refl, arith}
use Rattle.analysis.proofs.Found.{items_are}
use Rattle.analysis.proofs.Standing.{stands_as}
use Rattle.analysis.proofs.Claims.{counts_one}
use Rattle.analysis.proofs.ForsAt.{counts_joined, counts_labelled, counts_condition, counts_repetition, counts_rest}
use Rattle.analysis.proofs.fors.+count_fors.Goals as goal

pub returns-in-More : goal.returns-in-More
returns-in-More t c = λ v u e h.
    let s = stands_as v c.args.i _ (items_are _ v c.args.i _ e c.in-More.ensures.is u h) u h in
    counts_joined (λ w k. c.count_fors-a.ensures v w e k) (λ w k. c.count_fors-b.ensures v w e k) c.earlier.ensures s

pub returns-in-Labelled : goal.returns-in-Labelled
returns-in-Labelled t c = λ v u e h.
    let s = stands_as v c.args.i _ (items_are _ v c.args.i _ e c.in-Labelled.ensures.is u h) u h in
    counts_labelled (λ w k. c.count_fors.ensures v w e k) s

pub returns-in-Conditional : goal.returns-in-Conditional
returns-in-Conditional t c = λ v u e h.
    let s = stands_as v c.args.i _ (items_are _ v c.args.i _ e c.in-Conditional.ensures.is u h) u h in
    counts_condition (λ w k. c.count_fors-in-Conditional.ensures v w e k) s

pub returns-in-Repeated : goal.returns-in-Repeated
returns-in-Repeated t c = λ v u e h.
    let s = stands_as v c.args.i _ (items_are _ v c.args.i _ e c.in-Repeated.ensures.is u h) u h in
    let m = c.min.ensures in
    let n : c.min.result + 1 ≡ min (c.args.c + 1) 2049 = omega arith in
    counts_repetition (counts_one c.args.c c.in-Repeated.place (record { cells = c.min.result + 1; offence = c.passing.result }) n c.passing.ensures)
    (λ w k. c.count_fors-b-in-Repeated.ensures v w e k) c.earlier-in-Repeated.ensures s

pub returns-in_default : goal.returns-in_default
returns-in_default t c = λ v u e h.
    let s = stands_as v c.args.i _ (items_are _ v c.args.i _ e c.ordered_node.ensures.is u h) u h in
    counts_rest c.in_default.not-More c.in_default.not-Labelled c.in_default.not-Conditional c.in_default.not-Repeated c.min-in_default.ensures refl s
