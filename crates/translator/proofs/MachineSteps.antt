-- The stack machine's own step agrees with the statement machine's: the law over all positions, over the bridge.
use Rattle.std.proofs.Common.{◌≡◌, ℕ, Bool, List, ◌++◌, length, sym, subst, arith, length-append}
use Rattle.figures.specs.Kinds.{Kind}
use Rattle.code.specs.declared.operations.Operation.TheVariants.{Mark, Halt}
use Rattle.code.specs.declared.sizes.Sizes.{Sizes}
use Rattle.code.specs.WellFormed.{WellFormed}
use Rattle.meaning.specs.Names.{Names}
use Rattle.meaning.specs.Machine as statements
use Rattle.translator.specs.Generator.{Entry, entry, plain}
use Rattle.translator.specs.Translation.{laid_out}
use Rattle.translator.specs.Simulation.{spread}
use Rattle.translator.specs.Agreement.{Valid, Agrees, AgreesAt, both_end, both_step, MachineAgreesAt, at_halt, at_mark, MachineLaw}
use Rattle.translator.proofs.AllPositions.{simulation_law}
use Rattle.translator.proofs.Bridge.{operation_there, operand_read, steps_are_runs}

module _ {V : Type 0} (kind : Kind V) (c : List Entry) (names : Names) (label_at table_at : List ℕ → ℕ) (halt_at v m : ℕ) (outer : List ℕ → Bool)
    (sizes : Sizes) (w : WellFormed (laid_out sizes c)) (wide : sizes.cells ≡ m) (mem : statements.Memory V) (hidden unposted : List V) (val : Valid v m mem hidden unposted) where
  -- Named and hidden cells are all cells.
  all_cells : length (mem.cells ++ hidden) ≡ sizes.cells
  all_cells = omega (arith, length-append mem.cells hidden, val.named, val.all)

  machine_agrees : (a : ℕ) (n : statements.Next V) → AgreesAt kind c names label_at table_at halt_at v m outer (spread mem hidden unposted) a n
      → MachineAgreesAt kind c names label_at table_at halt_at v m outer sizes (spread mem hidden unposted) a n
  machine_agrees a n (both_end {rest = r} e) = at_halt (operation_there a c (plain Halt) r e)
  machine_agrees a n (both_step q) =
      let p = q.text_place in
      let M = spread mem hidden unposted in
      at_mark p (operation_there a c (entry Mark p) q.rest q.begins) (operand_read a c (entry Mark p) q.rest q.begins)
      (subst (Agrees kind c names label_at table_at halt_at v m outer M p n) (sym (steps_are_runs kind sizes c w a p q.rest M q.begins all_cells)) q.agrees)

pub machine_law : {V : Type 0} (kind : Kind V) → MachineLaw kind
machine_law kind c names label_at table_at halt_at v m outer root setting sizes w wide position mem hidden unposted a val q =
    machine_agrees kind c names label_at table_at halt_at v m outer sizes w wide mem hidden unposted val a _
    ((simulation_law kind c names label_at table_at halt_at v m outer root setting).agree position mem hidden unposted a val q)
