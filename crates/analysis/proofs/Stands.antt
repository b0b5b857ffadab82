-- The node that a walk finds, where a tree stands whose node has its parts before it.
use Rattle.std.proofs.Common.{◌≡◌, ℕ, ◌<◌, Bool, true, cond, ◌&&◌, ltb, List, get_or, sym, ap, ◌∙◌}
use Rattle.std.proofs.lemmas.Bool.{lt-ltb}
use Rattle.parser.specs.declared.node.Node.{Node}
use Rattle.parser.specs.declared.node.Node.TheVariants.{Empty}
use Rattle.parser.specs.declared.table.Record.{Record}
use Rattle.parser.specs.Records.{View, nodes, node}
use Rattle.analysis.specs.Views.{node_of}
use Rattle.analysis.specs.Ordered.{are_before, ordered}

pub stands : (rs : List Record) (v : View) (i : ℕ) (n : Node) → v.nodes ≡ nodes rs → n ≡ ordered (node_of rs i) i → (m : Node) → node v i ≡ m → are_before m i ≡ true → m ≡ n
stands rs v i n held is m e b =
    let q : node_of rs i ≡ m = ap (λ (l : List Node). get_or l i Empty) (sym held) ∙ e in
    sym (is ∙ (ap (λ (k : Node). ordered k i) q ∙ ap (λ (t : Bool). cond t m Empty) b))

pub two_before : (a b i : ℕ) → a < i → b < i → (ltb a i && ltb b i) ≡ true
two_before a b i l m = ap (λ (t : Bool). t && ltb b i) (lt-ltb a i l) ∙ lt-ltb b i m

pub three_before : (a b c i : ℕ) → a < i → b < i → c < i → (ltb a i && (ltb b i && ltb c i)) ≡ true
three_before a b c i l m k = ap (λ (t : Bool). t && (ltb b i && ltb c i)) (lt-ltb a i l) ∙ two_before b c i m k
