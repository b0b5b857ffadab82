-- The outline of a node from those of its parts.
use Rattle.std.proofs.Common.{◌≡◌, ℕ, zero, suc, ◌+◌, ◌-◌, ◌^◌, ◌<◌, min, append_assoc, Bool, true, false, cond, List, [], ◌∷◌, ◌++◌, Option, None, Some, nat_lt, refl, ap, ap₂, sym, ◌∙◌, arith}
use Rattle.std.proofs.lemmas.Bool.{ltb-true}
use Rattle.std.specs.List.{flat_map, filter_map}
use Rattle.parser.specs.declared.node.Node.{Node}
use Rattle.parser.specs.declared.node.Node.TheVariants.{More}
use Rattle.parser.specs.declared.table.Record.{Record}
use Rattle.analysis.specs.Views.{node_of}
use Rattle.reports.specs.Captions.{node_shown}
use Rattle.reports.specs.Outlines.{parts_of, outline_line, own_line, depth_below, outline_before, outline_of, part_outline, OutlineLaw}

-- What f gives of what is there.
abbrev pub of_some : (ℕ → List ℕ) → Option ℕ → List ℕ
of_some f None = []
of_some f (Some p) = f p

-- The same of those that are there.
pub of_somes : (f : ℕ → List ℕ) (os : List (Option ℕ)) → flat_map (of_some f) os ≡ flat_map f (filter_map (λ o. o) os)
of_somes f [] = refl
of_somes f (None ∷ os) = of_somes f os
of_somes f (Some p ∷ os) = ap (λ (t : List ℕ). f p ++ t) (of_somes f os)

-- Functions that agree give the same of a list.
flat_map_same : (f g : ℕ → List ℕ) → ((p : ℕ) → f p ≡ g p) → (ps : List ℕ) → flat_map f ps ≡ flat_map g ps
flat_map_same f g h [] = refl
flat_map_same f g h (p ∷ ps) = ap₂ (λ (s t : List ℕ). s ++ t) (h p) (flat_map_same f g h ps)

-- Below the limit i all parts that count have the same outline by two functions, if each part before i has.
same_parts : (f g : ℕ → List ℕ) (i : ℕ) → ((p : ℕ) → p < i → f p ≡ g p) → (ps : List ℕ)
    → flat_map (λ p. cond (nat_lt p i) (f p) []) ps ≡ flat_map (λ p. cond (nat_lt p i) (g p) []) ps
same_parts f g i h ps = flat_map_same (λ p. cond (nat_lt p i) (f p) []) (λ p. cond (nat_lt p i) (g p) []) (λ p. part p (nat_lt p i) refl) ps
  where
    part : (p : ℕ) (b : Bool) → nat_lt p i ≡ b → cond b (f p) [] ≡ cond b (g p) []
    part p true e = h p (ltb-true p i e)
    part p false e = refl

module _ (text : List ℕ) (rs : List Record) where
  -- One limit serves as well as another, where both are high enough.
  any_limit : (k m d i : ℕ) → i < k → i < m → outline_before k text rs d i ≡ outline_before m text rs d i
  any_limit zero m d i h g = absurd (omega arith)
  any_limit (suc k) zero d i h g = absurd (omega arith)
  any_limit (suc k) (suc m) d i h g =
      let n = node_of rs i in
      ap (λ (t : List ℕ). own_line text rs d n ++ t)
      (same_parts (outline_before k text rs (depth_below d n)) (outline_before m text rs (depth_below d n)) i
      (λ p l. any_limit k m (depth_below d n) p (omega arith) (omega arith)) (parts_of n))

  pub outline_step : OutlineLaw text rs
  outline_step d i =
      let n = node_of rs i in
      ap (λ (t : List ℕ). own_line text rs d n ++ t)
      (same_parts (outline_before i text rs (depth_below d n)) (outline_of text rs (depth_below d n)) i
      (λ p l. any_limit i (suc p) (depth_below d n) p (omega arith) (omega arith)) (parts_of n))

  -- The node's own line, and then its parts' outlines, are its outline.
  pub outlined : (d i below : ℕ) (n : Node) (before here after : List ℕ) (os : List (Option ℕ)) → n ≡ node_of rs i
      → here ≡ before ++ own_line text rs d n → below ≡ depth_below d n → after ≡ here ++ flat_map (of_some (part_outline text rs below i)) os
      → filter_map (λ o. o) os ≡ parts_of n → after ≡ before ++ outline_of text rs d i
  outlined d i below n before here after os e own deeper parts all =
      parts
      ∙ ap₂ (λ (s t : List ℕ). s ++ t) own
      (of_somes (part_outline text rs below i) os
      ∙ ap₂ (λ (b : ℕ) (ps : List ℕ). flat_map (part_outline text rs b i) ps) deeper all)
      ∙ append_assoc before (own_line text rs d n) _
      ∙ ap (λ (m : Node). before ++ (own_line text rs d m ++ flat_map (part_outline text rs (depth_below d m) i) (parts_of m))) e
      ∙ ap (λ (t : List ℕ). before ++ t) (sym (outline_step d i))

  -- A row has no own line, any other node has one.
  pub row_is_silent : (d a b : ℕ) (n : Node) → n ≡ More a b → (own_line text rs d n ≡ []) × (depth_below d n ≡ d)
  row_is_silent d a b n e = rw e (refl, refl)

  pub others_tell : (d : ℕ) (n : Node) → ((a b : ℕ) → n ≡ More a b → ⊥)
      → (own_line text rs d n ≡ outline_line d (node_shown text rs n)) × (depth_below d n ≡ min (d + 1) (2 ^ 64 - 1))
  others_tell d (More a b) h = absurd (h a b refl)
  others_tell d n h = (refl, refl)
