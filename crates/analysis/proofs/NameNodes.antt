-- What row of names can stand at a node.
use Rattle.std.proofs.Common.{◌≡◌, ℕ, List, refl, subst}
use Rattle.grammar.specs.Tree.{Row, one, more, Name}
use Rattle.parser.specs.declared.node.Node.{Node}
use Rattle.parser.specs.declared.node.Node.TheVariants.{Simple, More}
use Rattle.parser.specs.declared.table.Record.{Record}
use Rattle.parser.specs.Records.{View, nodes, Named, NameAt, RowAt}
use Rattle.analysis.specs.Views.{node_of}
use Rattle.analysis.specs.Ordered.{ordered}
use Rattle.analysis.proofs.Stands.{stands, two_before}

pub data NamesNode (v : View) : Node → Row Name → Type 0 where
  name_at : {w : ℕ} {x : Name} → Named v w x → NamesNode v (Simple w) (one x)
  names_at : {a b : ℕ} {xs : Row Name} {x : Name} → RowAt NameAt v xs a → NameAt v x b → NamesNode v (More a b) (more xs x)

-- Where the walk finds node n, the names are such as can stand there.
module _ (rs : List Record) (v : View) (i : ℕ) (n : Node) (held : v.nodes ≡ nodes rs) (is : n ≡ ordered (node_of rs i) i) where
  pub names_node : (xs : Row Name) → RowAt NameAt v xs i → NamesNode v n xs
  names_node (one x) h = let P : Node → Type 0 = λ k. NamesNode v k (one x) in subst P (stands rs v i n held is (Simple h.0) h.1 refl) (name_at h.2)
  names_node (more xs x) h =
      let P : Node → Type 0 = λ k. NamesNode v k (more xs x) in
      subst P (stands rs v i n held is (More h.0 h.1) h.2 (two_before h.0 h.1 i h.3 h.4)) (names_at h.5 h.6)

-- What holds of all rows that can stand at a node holds of the one that does.
module _ {v : View} (P : Row Name → Type 0) where
  pub from_name : {w : ℕ} {xs : Row Name} → NamesNode v (Simple w) xs → ((x : Name) → Named v w x → P (one x)) → P xs
  from_name (name_at {x = x} n) f = f x n

  pub from_names : {a b : ℕ} {xs : Row Name} → NamesNode v (More a b) xs → ((ys : Row Name) (x : Name) → RowAt NameAt v ys a → NameAt v x b → P (more ys x)) → P xs
  from_names (names_at {xs = ys} {x = x} h k) f = f ys x h k

pub no_names : {v : View} {n : Node} {xs : Row Name} → NamesNode v n xs → ((a b : ℕ) → n ≡ More a b → ⊥) → ((w : ℕ) → n ≡ Simple w → ⊥) → ⊥
no_names (name_at {w = w} n) m s = s w refl
no_names (names_at {a = a} {b = b} h k) m s = m a b refl
