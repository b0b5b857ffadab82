-- What each form of operation comes to, by the work of the method that it calls.
use Rattle.std.proofs.Common.{◌≡◌, ℕ, List, map, length, get_or, sym, refl, ap, ◌∙◌, subst, ap₂, arith}
use Rattle.std.proofs.lemmas.Result.{err_from_is_err_and}
use Rattle.code.specs.CheckedCode.{code_in}
use Rattle.code.specs.Descriptors.{unpacked}
use Rattle.code.specs.WellFormed.{NamesCells}
use Rattle.machine.specs.declared.instruction.Instruction.TheVariants.{Pass, Calculate, Transfer, Go, Take, Post}
use Rattle.machine.specs.Faults.{fault_of}
use Rattle.machine.specs.Fits.{BranchOperand, TransferOperand}
use Rattle.machine.specs.Machine.{gives, gone, faults}
use Rattle.machine.specs.Views.{laid, memory, state, valued}
use Rattle.machine.proofs.Arrays.{laid_length}
use Rattle.code.proofs.Targets.{passed_to_well_formed, stands_to_sound}
use Rattle.machine.proofs.Facts.{facts_at, follows_on, room}
use Rattle.machine.proofs.Performing.{branch_low, branch_names, calculate_fails, calculate_goes, follows_branch, go_goes, pass_goes, post_fails, post_goes, take_fails, take_goes, transfer_fails, transfer_goes}
use Rattle.machine.proofs.Stepping.{follows_as}
use Rattle.machine.proofs.state.State.perform.Goals as goal

pub returns-in-Pass-clause-done : goal.returns-in-Pass-clause-done
returns-in-Pass-clause-done g c =
    let code = code_in c.args.code.now in
    let w = passed_to_well_formed code c.args.code.now.passes in
    let r = c.args.self.now in
    let h = facts_at code w r.place c.args.operation Pass c.operand_at-operand.result c.requires.at c.in-Pass.ensures c.operand_at-operand.ensures in
    let kind = g.R.Figure.Figures.kind in
    let means = g.R.Figure.Figures.means in
    let s = state means g.R.Roll.holds c.args.stack.now r in
    let enough = room code w c.requires.fits h in
    let long = laid_length means c.args.stack.now in
    pass_goes kind code s c.args.operation c.operand_at-operand.result c.requires.at c.operand_at-operand.ensures c.in-Pass.ensures (omega arith)

pub returns-in-Pass-clause-next : goal.returns-in-Pass-clause-next
returns-in-Pass-clause-next g c =
    let code = code_in c.args.code.now in
    let w = passed_to_well_formed code c.args.code.now.passes in
    let r = c.args.self.now in
    let h = facts_at code w r.place c.args.operation Pass c.operand_at-operand.result c.requires.at c.in-Pass.ensures c.operand_at-operand.ensures in
    follows_on code w c.requires.fits h c.args.stack.now.depth (omega arith)

pub calculate-requires : goal.calculate-requires
calculate-requires g c =
    let code = code_in c.args.code.now in
    let w = passed_to_well_formed code c.args.code.now.passes in
    let r = c.args.self.now in
    let h = facts_at code w r.place c.args.operation (Calculate c.in-Calculate.calculation) c.operand_at-operand.result c.requires.at c.in-Calculate.ensures c.operand_at-operand.ensures in
    let enough = room code w c.requires.fits h.0 in
    record { low = enough.low; high = omega arith; operand = h.1 }

pub returns-in_err-calculate-in-Calculate-clause-done : goal.returns-in_err-calculate-in-Calculate-clause-done
returns-in_err-calculate-in-Calculate-clause-done g c =
    let kind = g.R.Figure.Figures.kind in
    let means = g.R.Figure.Figures.means in
    let code = code_in c.args.code.now in
    let s = state means g.R.Roll.holds c.args.stack.now c.args.self.now in
    let q = err_from_is_err_and c.from_residual.result c.from_residual.ensures.1 in
    let e = c.in_err-calculate-in-Calculate in
    rw (q.1, q.2) (calculate_fails kind code s c.args.operation c.operand_at-operand.result c.requires.at c.operand_at-operand.ensures c.in-Calculate.calculation c.in-Calculate.ensures (fault_of e.field-0.0) e.ensures.work)

pub returns-in_ok-calculate-in-Calculate-clause-done : goal.returns-in_ok-calculate-in-Calculate-clause-done
returns-in_ok-calculate-in-Calculate-clause-done g c =
    let code = code_in c.args.code.now in
    let w = passed_to_well_formed code c.args.code.now.passes in
    let r = c.args.self.now in
    let h = facts_at code w r.place c.args.operation (Calculate c.in-Calculate.calculation) c.operand_at-operand.result c.requires.at c.in-Calculate.ensures c.operand_at-operand.ensures in
    let kind = g.R.Figure.Figures.kind in
    let means = g.R.Figure.Figures.means in
    let s = state means g.R.Roll.holds c.args.stack.now r in
    let enough = room code w c.requires.fits h.0 in
    let e = c.in_ok-calculate-in-Calculate.ensures in
    let after = c.calculate.new.self in
    let deep = e.depth in
    let long = laid_length means after in
    calculate_goes kind code s c.args.operation c.operand_at-operand.result c.requires.at c.operand_at-operand.ensures c.in-Calculate.calculation c.in-Calculate.ensures (laid means after) e.work (omega arith)

pub returns-in_ok-calculate-in-Calculate-clause-next : goal.returns-in_ok-calculate-in-Calculate-clause-next
returns-in_ok-calculate-in-Calculate-clause-next g c =
    let code = code_in c.args.code.now in
    let w = passed_to_well_formed code c.args.code.now.passes in
    let r = c.args.self.now in
    let h = facts_at code w r.place c.args.operation (Calculate c.in-Calculate.calculation) c.operand_at-operand.result c.requires.at c.in-Calculate.ensures c.operand_at-operand.ensures in
    let e = c.in_ok-calculate-in-Calculate.ensures in
    follows_as (follows_on code w c.requires.fits h.0 c.calculate.new.self.depth e.depth) refl (sym e.size)

pub transfer-requires : goal.transfer-requires
transfer-requires g c =
    let code = code_in c.args.code.now in
    let w = passed_to_well_formed code c.args.code.now.passes in
    let r = c.args.self.now in
    let h = facts_at code w r.place c.args.operation (Transfer c.in-Transfer.transfer) c.operand_at-operand.result c.requires.at c.in-Transfer.ensures c.operand_at-operand.ensures in
    let enough = room code w c.requires.fits h.0 in
    record {
      low = enough.low;
      high = omega arith;
      operand = subst (λ (m : ℕ). TransferOperand c.in-Transfer.transfer c.operand_at-operand.result m) (sym c.requires.fits.wide) h.1;
    }

pub returns-in_err-transfer-in-Transfer-clause-done : goal.returns-in_err-transfer-in-Transfer-clause-done
returns-in_err-transfer-in-Transfer-clause-done g c =
    let kind = g.R.Figure.Figures.kind in
    let means = g.R.Figure.Figures.means in
    let code = code_in c.args.code.now in
    let r = c.args.self.now in
    let s = state means g.R.Roll.holds c.args.stack.now r in
    let q = err_from_is_err_and c.from_residual-in_err-transfer-in-Transfer.result c.from_residual-in_err-transfer-in-Transfer.ensures.1 in
    let e = c.in_err-transfer-in-Transfer in
    let fault = fault_of e.field-0.0 in
    rw (q.1, q.2) (transfer_fails kind code s c.args.operation c.operand_at-operand.result c.requires.at c.operand_at-operand.ensures c.in-Transfer.transfer c.in-Transfer.ensures fault e.ensures.work
    ∙ ap (λ cells. faults fault (memory means r.posted cells r.book.now (g.R.Roll.holds r.roll.now))) (sym e.ensures.depth))

pub returns-in_ok-transfer-in-Transfer-clause-done : goal.returns-in_ok-transfer-in-Transfer-clause-done
returns-in_ok-transfer-in-Transfer-clause-done g c =
    let code = code_in c.args.code.now in
    let w = passed_to_well_formed code c.args.code.now.passes in
    let r = c.args.self.now in
    let h = facts_at code w r.place c.args.operation (Transfer c.in-Transfer.transfer) c.operand_at-operand.result c.requires.at c.in-Transfer.ensures c.operand_at-operand.ensures in
    let kind = g.R.Figure.Figures.kind in
    let means = g.R.Figure.Figures.means in
    let s = state means g.R.Roll.holds c.args.stack.now r in
    let enough = room code w c.requires.fits h.0 in
    let e = c.in_ok-transfer-in-Transfer.ensures in
    let after = c.transfer.new.self in
    let deep = e.depth in
    let long = laid_length means after in
    transfer_goes kind code s c.args.operation c.operand_at-operand.result c.requires.at c.operand_at-operand.ensures c.in-Transfer.transfer c.in-Transfer.ensures (laid means after) (map means c.transfer.new.cells) e.work (omega arith)

pub returns-in_ok-transfer-in-Transfer-clause-next : goal.returns-in_ok-transfer-in-Transfer-clause-next
returns-in_ok-transfer-in-Transfer-clause-next g c =
    let code = code_in c.args.code.now in
    let w = passed_to_well_formed code c.args.code.now.passes in
    let r = c.args.self.now in
    let h = facts_at code w r.place c.args.operation (Transfer c.in-Transfer.transfer) c.operand_at-operand.result c.requires.at c.in-Transfer.ensures c.operand_at-operand.ensures in
    let e = c.in_ok-transfer-in-Transfer.ensures in
    follows_as (follows_on code w c.requires.fits h.0 c.transfer.new.self.depth e.depth) (sym c.transfer.auto.cells) (sym e.size)

pub go-self-requires : goal.go-self-requires
go-self-requires g c =
    let code = code_in c.args.code.now in
    let w = passed_to_well_formed code c.args.code.now.passes in
    let r = c.args.self.now in
    let h = facts_at code w r.place c.args.operation (Go c.in-Go.branch) c.operand_at-operand.result c.requires.at c.in-Go.ensures c.operand_at-operand.ensures in
    let fits = c.requires.fits in
    let inside = fits.inside in
    let long = w.operations_long in
    let few = w.few_operations in
    let kind = g.R.Figure.Figures.kind in
    let x = c.operand_at-operand.result in
    record {
      low = branch_low kind code w fits c.in-Go.branch x h;
      place = omega arith;
      operand = subst (λ (ns : List ℕ). BranchOperand c.in-Go.branch (length ns) (get_or ns x 0) x) (sym c.operands.ensures) (branch_names kind code w fits c.in-Go.branch x h);
    }

pub returns-in-Go-clause-done : goal.returns-in-Go-clause-done
returns-in-Go-clause-done g c =
    let code = code_in c.args.code.now in
    let w = passed_to_well_formed code c.args.code.now.passes in
    let r = c.args.self.now in
    let h = facts_at code w r.place c.args.operation (Go c.in-Go.branch) c.operand_at-operand.result c.requires.at c.in-Go.ensures c.operand_at-operand.ensures in
    let found = (stands_to_sound code w r.place c.args.operation c.requires.at).found in
    let fits = c.requires.fits in
    let kind = g.R.Figure.Figures.kind in
    let means = g.R.Figure.Figures.means in
    let s = state means g.R.Roll.holds c.args.stack.now r in
    let e = c.go-self.ensures in
    let after = c.go-self.new.self in
    let x = c.operand_at-operand.result in
    let led : gone kind code.operands c.in-Go.branch x r.place (laid means c.args.stack.now) ≡ gives (c.go-self.result, laid means after) = sym (ap (λ ns. gone kind ns c.in-Go.branch x r.place (laid means c.args.stack.now)) c.operands.ensures) ∙ e.work in
    let deep = fits.deep in
    let less = e.depth in
    let long = laid_length means after in
    go_goes kind code s c.args.operation c.operand_at-operand.result c.requires.at c.operand_at-operand.ensures c.in-Go.branch c.in-Go.ensures c.go-self.result (laid means after) led (omega arith)

pub returns-in-Go-clause-next : goal.returns-in-Go-clause-next
returns-in-Go-clause-next g c =
    let code = code_in c.args.code.now in
    let w = passed_to_well_formed code c.args.code.now.passes in
    let r = c.args.self.now in
    let h = facts_at code w r.place c.args.operation (Go c.in-Go.branch) c.operand_at-operand.result c.requires.at c.in-Go.ensures c.operand_at-operand.ensures in
    let kind = g.R.Figure.Figures.kind in
    let means = g.R.Figure.Figures.means in
    let e = c.go-self.ensures in
    let after = c.go-self.new.self in
    let x = c.operand_at-operand.result in
    let led : gone kind code.operands c.in-Go.branch x r.place (laid means c.args.stack.now) ≡ gives (c.go-self.result, laid means after) = sym (ap (λ ns. gone kind ns c.in-Go.branch x r.place (laid means c.args.stack.now)) c.operands.ensures) ∙ e.work in
    follows_as (follows_branch kind code w c.requires.fits c.in-Go.branch x h (laid means c.args.stack.now) (laid means after) c.go-self.result after.depth led e.depth) refl (sym e.size)

pub pop-subscript-requires : goal.pop-subscript-requires
pop-subscript-requires g c =
    let code = code_in c.args.code.now in
    let w = passed_to_well_formed code c.args.code.now.passes in
    let r = c.args.self.now in
    let h = facts_at code w r.place c.args.operation (Take c.in-Take.is_rounded) c.operand_at-operand.result c.requires.at c.in-Take.ensures c.operand_at-operand.ensures in
    let enough = room code w c.requires.fits h.0 in
    let low = enough.low in
    omega arith

pub take_into-requires : goal.take_into-requires
take_into-requires g c =
    let code = code_in c.args.code.now in
    let w = passed_to_well_formed code c.args.code.now.passes in
    let r = c.args.self.now in
    let h = facts_at code w r.place c.args.operation (Take c.in-Take.is_rounded) c.operand_at-operand.result c.requires.at c.in-Take.ensures c.operand_at-operand.ensures in
    subst (λ (m : ℕ). NamesCells m (unpacked c.operand_at-operand.result)) (sym c.requires.fits.wide) h.1

pub returns-in_err-take_into-in-Take-clause-done : goal.returns-in_err-take_into-in-Take-clause-done
returns-in_err-take_into-in-Take-clause-done g c =
    let kind = g.R.Figure.Figures.kind in
    let means = g.R.Figure.Figures.means in
    let code = code_in c.args.code.now in
    let r = c.args.self.now in
    let s = state means g.R.Roll.holds c.args.stack.now r in
    let q = err_from_is_err_and c.from_residual-in_err-take_into-in-Take.result c.from_residual-in_err-take_into-in-Take.ensures.1 in
    let e = c.in_err-take_into-in-Take in
    let fault = fault_of e.field-0.0 in
    rw (q.1, q.2) (take_fails kind code s c.args.operation c.operand_at-operand.result c.requires.at c.operand_at-operand.ensures c.in-Take.is_rounded c.in-Take.ensures (means c.pop-subscript.result) (laid means c.pop-subscript.new.self) c.pop-subscript.ensures.laid fault e.ensures.work
    ∙ ap₂ (λ cells roll. faults fault (memory means r.posted cells r.book.now roll)) (sym e.ensures.kept.0) (sym e.ensures.kept.1))

pub returns-in_ok-take_into-in-Take-clause-done : goal.returns-in_ok-take_into-in-Take-clause-done
returns-in_ok-take_into-in-Take-clause-done g c =
    let code = code_in c.args.code.now in
    let w = passed_to_well_formed code c.args.code.now.passes in
    let r = c.args.self.now in
    let h = facts_at code w r.place c.args.operation (Take c.in-Take.is_rounded) c.operand_at-operand.result c.requires.at c.in-Take.ensures c.operand_at-operand.ensures in
    let kind = g.R.Figure.Figures.kind in
    let means = g.R.Figure.Figures.means in
    let s = state means g.R.Roll.holds c.args.stack.now r in
    let enough = room code w c.requires.fits h.0 in
    let e = c.in_ok-take_into-in-Take.ensures in
    let after = c.pop-subscript.new.self in
    let deep = c.pop-subscript.ensures.depth in
    let long = laid_length means after in
    take_goes kind code s c.args.operation c.operand_at-operand.result c.requires.at c.operand_at-operand.ensures c.in-Take.is_rounded c.in-Take.ensures (means c.pop-subscript.result) (laid means after) c.pop-subscript.ensures.laid (map means c.take_into.new.cells) (valued means (g.R.Roll.holds c.take_into.new.roll)) e.work (omega arith)

pub returns-in_ok-take_into-in-Take-clause-next : goal.returns-in_ok-take_into-in-Take-clause-next
returns-in_ok-take_into-in-Take-clause-next g c =
    let code = code_in c.args.code.now in
    let w = passed_to_well_formed code c.args.code.now.passes in
    let r = c.args.self.now in
    let h = facts_at code w r.place c.args.operation (Take c.in-Take.is_rounded) c.operand_at-operand.result c.requires.at c.in-Take.ensures c.operand_at-operand.ensures in
    let e = c.pop-subscript.ensures in
    let deep = e.depth in
    follows_as (follows_on code w c.requires.fits h.0 c.pop-subscript.new.self.depth (omega arith)) (sym c.take_into.auto.cells) (sym e.size)

pub pop-figure-requires : goal.pop-figure-requires
pop-figure-requires g c =
    let code = code_in c.args.code.now in
    let w = passed_to_well_formed code c.args.code.now.passes in
    let r = c.args.self.now in
    let h = facts_at code w r.place c.args.operation Post c.operand_at-operand.result c.requires.at c.in-Post.ensures c.operand_at-operand.ensures in
    let enough = room code w c.requires.fits h in
    let low = enough.low in
    omega arith

pub returns-in_err-post-in-Post-clause-done : goal.returns-in_err-post-in-Post-clause-done
returns-in_err-post-in-Post-clause-done g c =
    let kind = g.R.Figure.Figures.kind in
    let means = g.R.Figure.Figures.means in
    let code = code_in c.args.code.now in
    let r = c.args.self.now in
    let s = state means g.R.Roll.holds c.args.stack.now r in
    let q = err_from_is_err_and c.from_residual-in_err-post-in-Post.result c.from_residual-in_err-post-in-Post.ensures.1 in
    let e = c.in_err-post-in-Post in
    let fault = fault_of e.field-0.0 in
    rw (q.1, q.2) (post_fails kind code s c.args.operation c.operand_at-operand.result c.requires.at c.operand_at-operand.ensures c.in-Post.ensures (means c.pop-figure.result) (laid means c.pop-figure.new.self) c.pop-figure.ensures.laid fault e.ensures.work
    ∙ ap (λ book. faults fault (memory means r.posted r.cells.now book (g.R.Roll.holds r.roll.now))) (sym e.ensures.kept))

pub returns-in_ok-post-in-Post-clause-done : goal.returns-in_ok-post-in-Post-clause-done
returns-in_ok-post-in-Post-clause-done g c =
    let code = code_in c.args.code.now in
    let w = passed_to_well_formed code c.args.code.now.passes in
    let r = c.args.self.now in
    let h = facts_at code w r.place c.args.operation Post c.operand_at-operand.result c.requires.at c.in-Post.ensures c.operand_at-operand.ensures in
    let kind = g.R.Figure.Figures.kind in
    let means = g.R.Figure.Figures.means in
    let s = state means g.R.Roll.holds c.args.stack.now r in
    let enough = room code w c.requires.fits h in
    let e = c.in_ok-post-in-Post.ensures in
    let after = c.pop-figure.new.self in
    let deep = c.pop-figure.ensures.depth in
    let long = laid_length means after in
    post_goes kind code s c.args.operation c.operand_at-operand.result c.requires.at c.operand_at-operand.ensures c.in-Post.ensures (means c.pop-figure.result) (laid means after) c.pop-figure.ensures.laid (map means c.post.new.book) e.work (omega arith)

pub returns-in_ok-post-in-Post-clause-next : goal.returns-in_ok-post-in-Post-clause-next
returns-in_ok-post-in-Post-clause-next g c =
    let code = code_in c.args.code.now in
    let w = passed_to_well_formed code c.args.code.now.passes in
    let r = c.args.self.now in
    let h = facts_at code w r.place c.args.operation Post c.operand_at-operand.result c.requires.at c.in-Post.ensures c.operand_at-operand.ensures in
    let e = c.pop-figure.ensures in
    let deep = e.depth in
    follows_as (follows_on code w c.requires.fits h c.pop-figure.new.self.depth (omega arith)) refl (sym e.size)
