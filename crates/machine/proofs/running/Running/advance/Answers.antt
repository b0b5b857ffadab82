-- The refusals in the order of their numbers, and the steps.
use Rattle.std.proofs.Common.{◌≡◌, ◌+◌, ◌-◌, true, false, eqb, map, length, sym, refl, ap, ◌∙◌, arith}
use Rattle.std.proofs.lemmas.List.{length-map}
use Rattle.std.proofs.lemmas.Bool.{le-leb, lt-leb}
use Rattle.code.specs.CheckedCode.{code_in}
use Rattle.machine.specs.Runs.{ended}
use Rattle.machine.specs.RunViews.{progress_of, run_of}
use Rattle.machine.proofs.Advancing.{advances, ended_runs, goes_ahead, refused_41, refused_42, refused_44, refused_45, refused_46, refuses, run_more, run_none}
use Rattle.code.proofs.Targets.{passed_to_well_formed}
use Rattle.machine.proofs.Laws.{histories_sound}
use Rattle.machine.proofs.running.Running.advance.Goals as goal

pub returns-then-not-has_all_cells : goal.returns-then-not-has_all_cells
returns-then-not-has_all_cells g c =
    let kind = g.R.Figure.Figures.kind in
    let means = g.R.Figure.Figures.means in
    let r = c.args.self.now in
    let code = code_in r.code in
    let n = c.args.steps in
    let room = length c.args.stack.now in
    let before = run_of means r c.args.cells.now c.args.book.now (g.R.Roll.holds c.args.roll.now) in
    let sound = histories_sound kind code (passed_to_well_formed code r.code.passes) in
    let other : eqb (length (map means c.args.cells.now)) code.sizes.cells ≡ false = sym c.has_all_cells.ensures.values ∙ c.if-not-has_all_cells.true in
    record { advanced = refuses kind n room before 41 (refused_41 kind n room before other); code = refl; sound = sound }

pub returns-then-stack-sizes : goal.returns-then-stack-sizes
returns-then-stack-sizes g c =
    let kind = g.R.Figure.Figures.kind in
    let means = g.R.Figure.Figures.means in
    let r = c.args.self.now in
    let code = code_in r.code in
    let n = c.args.steps in
    let room = length c.args.stack.now in
    let before = run_of means r c.args.cells.now c.args.book.now (g.R.Roll.holds c.args.roll.now) in
    let sound = histories_sound kind code (passed_to_well_formed code r.code.passes) in
    let wide : eqb (length (map means c.args.cells.now)) code.sizes.cells ≡ true = sym c.has_all_cells.ensures.values ∙ c.if-not-has_all_cells.false in
    let stated = ap (λ s. s.depth) c.sizes.ensures in
    let short = lt-leb code.sizes.depth room (omega arith) in
    record { advanced = refuses kind n room before 42 (refused_42 kind n room before wide short); code = refl; sound = sound }

pub returns-then-has_ended : goal.returns-then-has_ended
returns-then-has_ended g c =
    let kind = g.R.Figure.Figures.kind in
    let means = g.R.Figure.Figures.means in
    let r = c.args.self.now in
    let code = code_in r.code in
    let n = c.args.steps in
    let room = length c.args.stack.now in
    let before = run_of means r c.args.cells.now c.args.book.now (g.R.Roll.holds c.args.roll.now) in
    let sound = histories_sound kind code (passed_to_well_formed code r.code.passes) in
    let wide : eqb (length (map means c.args.cells.now)) code.sizes.cells ≡ true = sym c.has_all_cells.ensures.values ∙ c.if-not-has_all_cells.false in
    let stated = ap (λ s. s.depth) c.sizes.ensures in
    let tall = le-leb code.sizes.depth room (omega arith) in
    let over : ended (progress_of r) ≡ true = sym c.has_ended.ensures ∙ c.if-has_ended.true in
    record { advanced = refuses kind n room before 44 (refused_44 kind n room before wide tall over); code = refl; sound = sound }

pub returns-then-steps-self : goal.returns-then-steps-self
returns-then-steps-self g c =
    let kind = g.R.Figure.Figures.kind in
    let means = g.R.Figure.Figures.means in
    let r = c.args.self.now in
    let code = code_in r.code in
    let n = c.args.steps in
    let room = length c.args.stack.now in
    let before = run_of means r c.args.cells.now c.args.book.now (g.R.Roll.holds c.args.roll.now) in
    let sound = histories_sound kind code (passed_to_well_formed code r.code.passes) in
    let wide : eqb (length (map means c.args.cells.now)) code.sizes.cells ≡ true = sym c.has_all_cells.ensures.values ∙ c.if-not-has_all_cells.false in
    let stated = ap (λ s. s.depth) c.sizes.ensures in
    let tall = le-leb code.sizes.depth room (omega arith) in
    let going : ended (progress_of r) ≡ false = sym c.has_ended.ensures ∙ c.if-has_ended.false in
    let most = r.few in
    let many = lt-leb (r.count + n) 4000000000 (omega arith) in
    record { advanced = refuses kind n room before 45 (refused_45 kind n room before wide tall going many); code = refl; sound = sound }

pub returns-then-book-self : goal.returns-then-book-self
returns-then-book-self g c =
    let kind = g.R.Figure.Figures.kind in
    let means = g.R.Figure.Figures.means in
    let r = c.args.self.now in
    let code = code_in r.code in
    let n = c.args.steps in
    let room = length c.args.stack.now in
    let before = run_of means r c.args.cells.now c.args.book.now (g.R.Roll.holds c.args.roll.now) in
    let sound = histories_sound kind code (passed_to_well_formed code r.code.passes) in
    let wide : eqb (length (map means c.args.cells.now)) code.sizes.cells ≡ true = sym c.has_all_cells.ensures.values ∙ c.if-not-has_all_cells.false in
    let stated = ap (λ s. s.depth) c.sizes.ensures in
    let tall = le-leb code.sizes.depth room (omega arith) in
    let going : ended (progress_of r) ≡ false = sym c.has_ended.ensures ∙ c.if-has_ended.false in
    let most = r.few in
    let few = le-leb (r.count + n) 4000000000 (omega arith) in
    let short = lt-leb r.posted (length (map means c.args.book.now)) (simp length-map c.if-book-self.true) in
    record { advanced = refuses kind n room before 46 (refused_46 kind n room before wide tall going few short); code = refl; sound = sound }

pub loop-made-preserved : goal.loop-made-preserved
loop-made-preserved g c =
    let kind = g.R.Figure.Figures.kind in
    let means = g.R.Figure.Figures.means in
    let r = c.args.self.now in
    let code = code_in r.code in
    let n = c.args.steps in
    let room = length c.args.stack.now in
    let before = run_of means r c.args.cells.now c.args.book.now (g.R.Roll.holds c.args.roll.now) in
    let sound = histories_sound kind code (passed_to_well_formed code r.code.passes) in
    let l = c.loop-made in
    let here = run_of means l.self l.cells l.book (g.R.Roll.holds l.roll) in
    let e = c.make_step.ensures in
    let m = c.make_step.new in
    let next = run_of means m.self m.cells m.book (g.R.Roll.holds m.roll) in
    (e.code ∙ l.invariant.0, l.invariant.1 ∙ run_more kind n l.made here next c.loop-made-test.true e.run, omega arith, omega arith)

pub returns-then-has_ended-2 : goal.returns-then-has_ended-2
returns-then-has_ended-2 g c =
    let kind = g.R.Figure.Figures.kind in
    let means = g.R.Figure.Figures.means in
    let r = c.args.self.now in
    let code = code_in r.code in
    let n = c.args.steps in
    let room = length c.args.stack.now in
    let before = run_of means r c.args.cells.now c.args.book.now (g.R.Roll.holds c.args.roll.now) in
    let sound = histories_sound kind code (passed_to_well_formed code r.code.passes) in
    let wide : eqb (length (map means c.args.cells.now)) code.sizes.cells ≡ true = sym c.has_all_cells.ensures.values ∙ c.if-not-has_all_cells.false in
    let stated = ap (λ s. s.depth) c.sizes.ensures in
    let tall = le-leb code.sizes.depth room (omega arith) in
    let going : ended (progress_of r) ≡ false = sym c.has_ended.ensures ∙ c.if-has_ended.false in
    let most = r.few in
    let few = le-leb (r.count + n) 4000000000 (omega arith) in
    let held = le-leb r.posted (length (map means c.args.book.now)) (simp length-map c.if-book-self.false) in
    let l = c.loop-made in
    let here = run_of means l.self l.cells l.book (g.R.Roll.holds l.roll) in
    let over : ended (progress_of l.self) ≡ true = sym c.has_ended-in-loop-made.ensures ∙ c.if-has_ended-2.true in
    record { advanced = advances kind n room before here (goes_ahead kind n room before wide tall going few held) (l.invariant.1 ∙ ended_runs kind (n - l.made) here over); code = l.invariant.0; sound = sound }

pub returns : goal.returns
returns g c =
    let kind = g.R.Figure.Figures.kind in
    let means = g.R.Figure.Figures.means in
    let r = c.args.self.now in
    let code = code_in r.code in
    let n = c.args.steps in
    let room = length c.args.stack.now in
    let before = run_of means r c.args.cells.now c.args.book.now (g.R.Roll.holds c.args.roll.now) in
    let sound = histories_sound kind code (passed_to_well_formed code r.code.passes) in
    let wide : eqb (length (map means c.args.cells.now)) code.sizes.cells ≡ true = sym c.has_all_cells.ensures.values ∙ c.if-not-has_all_cells.false in
    let stated = ap (λ s. s.depth) c.sizes.ensures in
    let tall = le-leb code.sizes.depth room (omega arith) in
    let going : ended (progress_of r) ≡ false = sym c.has_ended.ensures ∙ c.if-has_ended.false in
    let most = r.few in
    let few = le-leb (r.count + n) 4000000000 (omega arith) in
    let held = le-leb r.posted (length (map means c.args.book.now)) (simp length-map c.if-book-self.false) in
    let l = c.loop-made in
    let here = run_of means l.self l.cells l.book (g.R.Roll.holds l.roll) in
    record { advanced = advances kind n room before here (goes_ahead kind n room before wide tall going few held) (l.invariant.1 ∙ run_none kind n l.made here c.loop-made-test.false); code = l.invariant.0; sound = sound }
