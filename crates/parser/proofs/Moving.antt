-- How the parser moves: words taken, nodes made, and what stays.
use Rattle.std.proofs.Common.{◌≡◌, ℕ, zero, suc, ◌+◌, ◌<◌, true, false, ◌≢◌, List, [], ◌∷◌, get_or, drop, set, refl, ap, ◌∙◌, add-one, arith, get_or-set_other}
use Rattle.words.specs.Token.{Word}
use Rattle.parser.specs.declared.node.Node.{Node}
use Rattle.parser.specs.declared.node.Node.TheVariants.{Empty}
use Rattle.parser.specs.declared.table.Parser.{Parser}
use Rattle.parser.specs.Records.{nodes, all, ahead}
use Rattle.parser.specs.Promises.{SameText, Took, Made, Moves}

pub same_trans : (r s q : Parser) → SameText r s → SameText s q → SameText r q
same_trans r s q h k = record { text = k.text ∙ h.text; words = k.words ∙ h.words; count = k.count ∙ h.count; lent = k.lent ∙ h.lent; size = k.size ∙ h.size }

pub moves_none : (r : Parser) → Moves r r
moves_none r = record { same = record { text = refl; words = refl; count = refl; lent = refl; size = refl }; on = omega arith; more = omega arith; thrift = omega arith; kept = λ j x. refl }

pub moves_trans : (r s q : Parser) → Moves r s → Moves s q → Moves r q
moves_trans r s q h k = record {
  same = same_trans r s q h.same k.same;
  on = omega (arith, h.on, k.on);
  more = omega (arith, h.more, k.more);
  thrift = omega (arith, h.thrift, k.thrift);
  kept = λ j x. k.kept j (omega (arith, h.more)) ∙ h.kept j x;
}

-- A word is taken.
pub moves_took : (r s : Parser) → r.at < r.count → Took true r s → Moves r s
moves_took r s lt t = record {
  same = t.same;
  on = omega (arith, t.at);
  more = omega (arith, t.made);
  thrift = omega (arith, t.at, t.made);
  kept = λ j x. ap (λ (l : List Node). get_or l j Empty) t.nodes;
}

-- None is taken.
pub moves_left : (r s : Parser) → Took false r s → Moves r s
moves_left r s t = record {
  same = t.same;
  on = omega (arith, t.at);
  more = omega (arith, t.made);
  thrift = omega (arith, t.at, t.made);
  kept = λ j x. ap (λ (l : List Node). get_or l j Empty) t.nodes;
}

-- A node is made, which a word has paid for since r.
pub moves_made : (n : Node) (i : ℕ) (r s q : Parser) → Moves r s → s.made < s.at → s.made + r.at < r.made + s.at → Made n i s q → Moves r q
moves_made n i r s q m paid lt k = record {
  same = same_trans r s q m.same k.same;
  on = omega (arith, k.at, m.on);
  more = omega (arith, k.made, m.more);
  thrift = omega (arith, k.at, k.made);
  kept = λ j x.
      let ne : j ≢ s.made = omega (arith, m.more) in
      ap (λ (l : List Node). get_or l j Empty) k.nodes ∙ (other (nodes s.table.now) j s.made ne ∙ m.kept j x);
}
  where
    other : (l : List Node) (j i : ℕ) → j ≢ i → get_or (set l i n) j Empty ≡ get_or l j Empty
    other l j i ne = rw get_or-set_other

drop_next : (xs ws : List Word) (w : Word) (i : ℕ) → drop i xs ≡ w ∷ ws → drop (suc i) xs ≡ ws
drop_next [] ws w zero e = let z : ◌≡◌ {A = ℕ} 0 1 = cc in absurd (omega arith)
drop_next [] ws w (suc i) e = let z : ◌≡◌ {A = ℕ} 0 1 = cc in absurd (omega arith)
drop_next (x ∷ xs) ws w zero e = cc
drop_next (x ∷ xs) ws w (suc i) e = drop_next xs ws w i e

-- What is ahead behind a word that was taken.
pub took_ahead : (r s : Parser) (w : Word) (ws : List Word) → Took true r s → ahead r ≡ w ∷ ws → ahead s ≡ ws
took_ahead r s w ws t e =
    let i : s.at ≡ suc r.at = t.at ∙ add-one r.at in
    ap (λ n. drop n (all s)) i ∙ (ap (λ (l : List Word). drop (suc r.at) l) t.same.words ∙ drop_next (all r) ws w r.at e)

pub left_ahead : (r s : Parser) → Took false r s → ahead s ≡ ahead r
left_ahead r s t = ap (λ n. drop n (all s)) t.at ∙ ap (λ (l : List Word). drop r.at l) t.same.words

pub made_ahead : (n : Node) (i : ℕ) (r s : Parser) → Made n i r s → ahead s ≡ ahead r
made_ahead n i r s t = ap (λ n. drop n (all s)) t.at ∙ ap (λ (l : List Word). drop r.at l) t.same.words
