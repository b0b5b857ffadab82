-- The words that a phrase takes pay for its code: by induction over derivations.
use Rattle.std.proofs.Common.{◌≡◌, ℕ, ◌+◌, ◌≤◌, List, length, refl, subst, arith}
use Rattle.std.specs.List.{AllByRecursion as All}
use Rattle.words.specs.Token.{Word}
use Rattle.words.specs.Reading.{WithinBounds}
use Rattle.grammar.specs.Grammar.{Phrase, Value, Derives, alone, another, a_name, a_whole, an_indexed, a_number, a_value, in_brackets, a_comparison, a_factor, an_operand, operated, after_prefix, a_single, a_progression, a_label, an_assignment, a_conditional, a_repetition, a_block, a_jump, a_switched_jump, an_input, a_print, a_stop, a_signed_bound, a_plain_bound, a_group, a_comment, integers, booleans, arrays, a_switch, an_action}
use Rattle.meaning.specs.Names.{Names}
use Rattle.translator.specs.Generator.{type_of}
use Rattle.meaning.specs.Machine.{variable_name}
use Rattle.translator.proofs.LimitsCosts.{ready_short, prefix_short, relation_short, assigned_shallow, ExpCosts, VariableCosts, StatementCosts, PhraseCosts, posts_cost, ElementsCost, elements_cost, block_costs, labels_cost}

-- What holds of each word of an accepted text.
abbrev pub WordSmall : Word → Type 0
WordSmall w = WithinBounds w.token × (w.place ≤ 8191)

-- The words from ws up to rs, and what they pay for.
pub record Taken (names : Names) (p : Phrase) (ws rs : List Word) (t : Value p) : Type 0 where
  pub words : ℕ
  pub long : length ws ≡ words + length rs
  pub rest : All WordSmall rs
  pub costs : PhraseCosts names p words t

module _ (names : Names) where
  pub taken : {p : Phrase} {l : ℕ} {ws rs : List Word} {t : Value p} → Derives p l ws rs t → All WordSmall ws → length ws ≤ 500 → Taken names p ws rs t
  taken (alone x) all few = let r = taken x all few in record { words = r.words; long = r.long; rest = r.rest; costs = r.costs }
  taken (another xs e x) all few =
      let r = taken xs all few in
      let q = taken x r.rest.1 (omega (arith, r.long)) in
      record { words = r.words + 1 + q.words; long = omega (arith, r.long, q.long); rest = q.rest; costs = (r.words, q.words, refl, r.costs, q.costs) }
  taken (a_name e) all few = record { words = 1; long = omega arith; rest = all.1; costs = omega arith }
  taken (a_whole e) all few = record {
    words = 1;
    long = omega arith;
    rest = all.1;
    costs = record { some = omega arith; stored = omega arith; taken = omega arith; depth = omega arith; small = tt; place = all.0.1; value = record { some = omega arith; size = omega arith; depth = omega arith; small = tt } };
  }
  taken (an_indexed {i = i} lt e f x g) all few =
      let r = taken x all.1.1 (omega arith) in
      let c : ExpCosts r.words i = r.costs in
      record {
        words = r.words + 3;
        long = omega (arith, r.long);
        rest = r.rest.1;
        costs = record {
          some = omega arith;
          stored = omega (arith, c.size);
          taken = omega (arith, c.size);
          depth = omega (arith, c.depth);
          small = c.small;
          place = all.0.1;
          value = record { some = omega arith; size = omega (arith, c.size); depth = omega (arith, c.depth); small = c.small };
        };
      }
  taken (a_number e) all few = record { words = 1; long = omega arith; rest = all.1; costs = record { some = omega arith; size = omega arith; depth = omega arith; small = subst WithinBounds e all.0.0 } }
  taken (a_value x) all few = let r = taken x all few in record { words = r.words; long = r.long; rest = r.rest; costs = r.costs.value }
  taken (in_brackets {x = y} lt f x g) all few =
      let r = taken x all.1 (omega arith) in
      let c : ExpCosts r.words y = r.costs in
      record {
        words = r.words + 2;
        long = omega (arith, r.long);
        rest = r.rest.1;
        costs = record { some = omega arith; size = omega (arith, c.size); depth = omega (arith, c.depth); small = c.small };
      }
  taken (a_comparison {q = o} {x = y} {y = z} lt e x f v g) all few =
      let r = taken x all.1 (omega arith) in
      let q = taken v r.rest.1 (omega (arith, r.long)) in
      let c : ExpCosts r.words y = r.costs in
      let d : ExpCosts q.words z = q.costs in
      record {
        words = r.words + q.words + 3;
        long = omega (arith, r.long, q.long);
        rest = q.rest.1;
        costs = record { some = omega arith; size = omega (arith, c.size, d.size, relation_short o); depth = omega (arith, c.depth, d.depth, c.some); small = (c.small, d.small) };
      }
  taken (a_factor h x) all few = let r = taken x all few in record { words = r.words; long = r.long; rest = r.rest; costs = r.costs }
  taken (an_operand x) all few = let r = taken x all few in record { words = r.words; long = r.long; rest = r.rest; costs = r.costs }
  taken (operated {x = y} {y = z} x e v) all few =
      let r = taken x all few in
      let q = taken v r.rest.1 (omega (arith, r.long)) in
      let c : ExpCosts r.words y = r.costs in
      let d : ExpCosts q.words z = q.costs in
      record {
        words = r.words + q.words + 1;
        long = omega (arith, r.long, q.long);
        rest = q.rest;
        costs = record { some = omega arith; size = omega (arith, c.size, d.size); depth = omega (arith, c.depth, d.depth, c.some); small = (c.small, d.small) };
      }
  taken (after_prefix {o = o} {x = y} e x) all few =
      let r = taken x all.1 (omega arith) in
      let c : ExpCosts r.words y = r.costs in
      record {
        words = r.words + 1;
        long = omega (arith, r.long);
        rest = r.rest;
        costs = record { some = omega arith; size = omega (arith, c.size, prefix_short o); depth = omega (arith, c.depth); small = c.small };
      }
  taken (a_single {x = y} x) all few =
      let r = taken x all few in
      let c : ExpCosts r.words y = r.costs in
      record {
        words = r.words;
        long = r.long;
        rest = r.rest;
        costs = record { some = c.some; size = λ t. omega (arith, ready_short t, c.some, c.size); depth = c.depth; small = c.small };
      }
  taken (a_progression {x = x} {y = y} {z = z} lt u e v f w) all few =
      let r = taken u all few in
      let q = taken v r.rest.1 (omega (arith, r.long)) in
      let p = taken w q.rest.1 (omega (arith, r.long, q.long)) in
      let c : ExpCosts r.words x = r.costs in
      let d : ExpCosts q.words y = q.costs in
      let g : ExpCosts p.words z = p.costs in
      record {
        words = r.words + q.words + p.words + 2;
        long = omega (arith, r.long, q.long, p.long);
        rest = p.rest;
        costs = record {
          some = omega arith;
          size = λ t. omega (arith, ready_short t, c.some, d.some, g.some, c.size, d.size, g.size);
          depth = omega (arith, c.some, d.some, g.some, c.depth, d.depth, g.depth);
          small = (c.small, d.small, g.small);
        };
      }
  taken (a_label {s = s} e f x) all few =
      let r = taken x all.1.1 (omega arith) in
      let c : StatementCosts names r.words s = r.costs in
      record {
        words = r.words + 2;
        long = omega (arith, r.long);
        rest = r.rest;
        costs = record { some = omega arith; size = omega (arith, c.size); depth = omega (arith, c.depth); small = c.small };
      }
  taken (an_assignment {v = v} {x = y} u e x) all few =
      let r = taken u all few in
      let q = taken x r.rest.1 (omega (arith, r.long)) in
      let c : VariableCosts names r.words v = r.costs in
      let d : ExpCosts q.words y = q.costs in
      record {
        words = r.words + q.words + 1;
        long = omega (arith, r.long, q.long);
        rest = q.rest;
        costs = record {
          some = omega arith;
          size = omega (arith, c.some, d.some, c.stored, d.size, ready_short (type_of names (variable_name v)));
          depth = omega (arith, c.some, assigned_shallow v y, c.depth, d.depth);
          small = (c.place, c.small, d.small);
        };
      }
  taken (a_conditional {x = y} {s = s} lt e x f z) all few =
      let r = taken x all.1 (omega arith) in
      let q = taken z r.rest.1 (omega (arith, r.long)) in
      let c : ExpCosts r.words y = r.costs in
      let d : StatementCosts names q.words s = q.costs in
      record {
        words = r.words + q.words + 2;
        long = omega (arith, r.long, q.long);
        rest = q.rest;
        costs = record { some = omega arith; size = omega (arith, c.size, d.size); depth = omega (arith, c.depth, d.depth); small = (all.0.1, c.small, d.small) };
      }
  taken (a_repetition {n = n} {w = w} {es = es} {s = s} lt e f g x h z) all few =
      let r = taken x all.1.1.1 (omega arith) in
      let q = taken z r.rest.1 (omega (arith, r.long)) in
      let c : ElementsCost names r.words _ = elements_cost names r.words es r.costs in
      let d : StatementCosts names q.words s = q.costs in
      let short : r.words ≤ 500 = omega (arith, r.long) in
      record {
        words = r.words + q.words + 4;
        long = omega (arith, r.long, q.long);
        rest = q.rest;
        costs = record {
          some = omega arith;
          size = omega (arith, c.size (names.type n), d.size);
          depth = omega (arith, c.depth, d.depth);
          small = (all.0.1, omega (arith, c.few), c.small, d.small);
        };
      }
  taken (a_block {ss = ss} lt e x f) all few =
      let r = taken x all.1 (omega arith) in
      let c = block_costs names r.words ss r.costs in
      record {
        words = r.words + 2;
        long = omega (arith, r.long);
        rest = r.rest.1;
        costs = record { some = omega arith; size = omega (arith, c.size); depth = omega (arith, c.depth); small = c.small };
      }
  taken (a_jump e f g) all few = record { words = 3; long = omega arith; rest = all.1.1.1; costs = record { some = omega arith; size = omega arith; depth = omega arith; small = all.0.1 } }
  taken (a_switched_jump {i = i} lt e f g h x k) all few =
      let r = taken x all.1.1.1.1 (omega arith) in
      let c : ExpCosts r.words i = r.costs in
      record {
        words = r.words + 5;
        long = omega (arith, r.long);
        rest = r.rest.1;
        costs = record { some = omega arith; size = omega (arith, c.size); depth = omega (arith, c.depth); small = (all.0.1, c.small) };
      }
  taken (an_input {v = v} lt e f g x h) all few =
      let r = taken x all.1.1.1 (omega arith) in
      let c : VariableCosts names r.words v = r.costs in
      record {
        words = r.words + 4;
        long = omega (arith, r.long);
        rest = r.rest.1;
        costs = record { some = omega arith; size = omega (arith, c.taken); depth = omega (arith, c.depth); small = (all.0.1, c.small) };
      }
  taken (a_print {xs = xs} lt e f x g) all few =
      let r = taken x all.1.1 (omega arith) in
      let c = posts_cost names r.words xs r.costs in
      record {
        words = r.words + 3;
        long = omega (arith, r.long);
        rest = r.rest.1;
        costs = record { some = omega arith; size = omega (arith, c.size); depth = omega (arith, c.depth); small = (all.0.1, c.small) };
      }
  taken (a_stop e) all few = record { words = 1; long = omega arith; rest = all.1; costs = record { some = omega arith; size = omega arith; depth = omega arith; small = all.0.1 } }
  taken (a_signed_bound e f) all few = record { words = 2; long = omega arith; rest = all.1.1; costs = tt }
  taken (a_plain_bound e) all few = record { words = 1; long = omega arith; rest = all.1; costs = tt }
  taken (a_group lt x e y f z g) all few =
      let r = taken x all few in
      let q = taken y r.rest.1 (omega (arith, r.long)) in
      let p = taken z q.rest.1 (omega (arith, r.long, q.long)) in
      record { words = r.words + q.words + p.words + 3; long = omega (arith, r.long, q.long, p.long); rest = p.rest.1; costs = tt }
  taken (a_comment e) all few = record { words = 1; long = omega arith; rest = all.1; costs = record { size = omega arith; depth = omega arith; small = tt } }
  taken (integers lt e f x g) all few =
      let r = taken x all.1.1 (omega arith) in
      record { words = r.words + 3; long = omega (arith, r.long); rest = r.rest.1; costs = record { size = omega arith; depth = omega arith; small = tt } }
  taken (booleans lt e f x g) all few =
      let r = taken x all.1.1 (omega arith) in
      record { words = r.words + 3; long = omega (arith, r.long); rest = r.rest.1; costs = record { size = omega arith; depth = omega arith; small = tt } }
  taken (arrays lt e f x g) all few =
      let r = taken x all.1.1 (omega arith) in
      record { words = r.words + 3; long = omega (arith, r.long); rest = r.rest.1; costs = record { size = omega arith; depth = omega arith; small = tt } }
  taken (a_switch {xs = xs} lt e f g h x k) all few =
      let r = taken x all.1.1.1.1 (omega arith) in
      record {
        words = r.words + 5;
        long = omega (arith, r.long);
        rest = r.rest.1;
        costs = record { size = omega (arith, labels_cost names r.words xs r.costs); depth = omega arith; small = tt };
      }
  taken (an_action {s = s} x) all few =
      let r = taken x all few in
      let c : StatementCosts names r.words s = r.costs in
      record { words = r.words; long = r.long; rest = r.rest; costs = record { size = omega (arith, c.size); depth = c.depth; small = c.small } }
