-- Every step of the statement machine is the code's step, position by position.
use Rattle.std.proofs.Common.{ℕ, Bool, List}
use Rattle.grammar.specs.Tree.{Exp, Variable, whole, indexed, Statement}
use Rattle.figures.specs.Kinds.{Kind}
use Rattle.meaning.specs.Names.{Names}
use Rattle.meaning.specs.Positions.{Continuation, at_assignment, at_input}
use Rattle.translator.specs.Generator.{Entry}
use Rattle.translator.specs.Agreement.{Setting, Simulates, StepLaw}
use Rattle.translator.proofs.Stepping.{sim_assign_whole, sim_assign_indexed, sim_go, sim_if, sim_print, sim_stop}
use Rattle.translator.proofs.Taking.{sim_input_whole, sim_input_indexed}
use Rattle.translator.proofs.Switching.{sim_switch}
use Rattle.translator.proofs.Looping.{sim_element, sim_addition}
use Rattle.translator.proofs.Testing.{sim_test}

module _ {V : Type 0} (kind : Kind V) (c : List Entry) (names : Names) (label_at table_at : List ℕ → ℕ) (halt_at v m : ℕ) (outer : List ℕ → Bool) (root : Statement)
    (setting : Setting kind c names label_at table_at halt_at v m outer root) where
  sim_assign : (x : Variable) (e : Exp) (k : Continuation) → Simulates kind c names label_at table_at halt_at v m outer root (at_assignment x e k)
  sim_assign (whole x) e k mem hidden unposted a val q = sim_assign_whole kind c names label_at table_at halt_at v m outer root setting mem hidden unposted val x e k a q
  sim_assign (indexed x i) e k mem hidden unposted a val q = sim_assign_indexed kind c names label_at table_at halt_at v m outer root setting mem hidden unposted val x i e k a q

module _ {V : Type 0} (kind : Kind V) (c : List Entry) (names : Names) (label_at table_at : List ℕ → ℕ) (halt_at v m : ℕ) (outer : List ℕ → Bool) (root : Statement)
    (setting : Setting kind c names label_at table_at halt_at v m outer root) where
  sim_input : (p : ℕ) (x : Variable) (k : Continuation) → Simulates kind c names label_at table_at halt_at v m outer root (at_input p x k)
  sim_input p (whole x) k mem hidden unposted a val q = sim_input_whole kind c names label_at table_at halt_at v m outer root setting mem hidden unposted val p x k a q
  sim_input p (indexed x i) k mem hidden unposted a val q = sim_input_indexed kind c names label_at table_at halt_at v m outer root setting mem hidden unposted val p x i k a q

pub step_law : {V : Type 0} (kind : Kind V) → StepLaw kind
step_law kind c names label_at table_at halt_at v m outer root setting = record {
  assignments = sim_assign kind c names label_at table_at halt_at v m outer root setting;
  prints = λ p e es k mem hidden unposted a val q. sim_print kind c names label_at table_at halt_at v m outer root setting mem hidden unposted val p e es k a q;
  gos = λ p l k mem hidden unposted a val q. sim_go kind c names label_at table_at halt_at v m outer root setting mem hidden unposted val p l k a q;
  ifs = λ p e s k mem hidden unposted a val q. sim_if kind c names label_at table_at halt_at v m outer root setting mem hidden unposted val p e s k a q;
  elements = λ l e es k mem hidden unposted a val q. sim_element kind c names label_at table_at halt_at v m outer root setting mem hidden unposted val l e es k a q;
  additions = λ l f s b es k mem hidden unposted a val q. sim_addition kind c names label_at table_at halt_at v m outer root setting mem hidden unposted val l f s b es k a q;
  tests = λ l f s b es k mem hidden unposted a val q. sim_test kind c names label_at table_at halt_at v m outer root setting mem hidden unposted val l f s b es k a q;
  inputs = sim_input kind c names label_at table_at halt_at v m outer root setting;
  switches = λ p x e k mem hidden unposted a val q. sim_switch kind c names label_at table_at halt_at v m outer root setting mem hidden unposted val p x e k a q;
  stops = λ p mem hidden unposted a val q. sim_stop kind c names label_at table_at halt_at v m outer root setting mem hidden unposted val p a q;
}
