-- Code that passes the check, from a place and a depth on: each operation is sound where it stands, at the depth that the
-- operations before it leave. Code that passes from place 0 on is well formed.
use Rattle.std.proofs.Common.{◌≡◌, ℕ, suc, ◌+◌, ◌<◌, ◌≤◌, true, false, ◌⊎◌, List, [], ◌∷◌, map, length, drop, Some, sym, refl, ap, ◌∙◌, subst, inl, inr, arith}
use lib.ListN.{length-map}
use Rattle.std.proofs.lemmas.Bool.{both_ways, cases_lt}
use Rattle.code.specs.declared.operations.Operation.{Operation}
use Rattle.code.specs.declared.operations.Operation.TheVariants.{Halt, Mark, Jump, False, Table, Rows, Here}
use Rattle.code.specs.declared.operations.Operand.{Operand}
use Rattle.code.specs.declared.operations.Operand.TheVariants.{Unused}
use Rattle.code.specs.declared.operations.Role.{Role}
use Rattle.code.specs.declared.operations.Role.TheVariants.{Straight}
use Rattle.code.specs.declared.sizes.Sizes.{Sizes}
use Rattle.code.specs.Operations.{number, operand, role, taken, left}
use Rattle.code.specs.Codes.{operation_at}
use Rattle.code.specs.Check.{depth_after, empty_before, empty_after}
use Rattle.code.specs.WellFormed.{depth_at, depth_past, Names, Lands, on_mark, on_later_here, on_later_halt, HasRows, Leads, SoundAt, WellFormed}
use Rattle.code.proofs.Targets.{stands_to_inside}
use Rattle.translator.specs.Generator.{Entry, entry, plain}
use Rattle.translator.specs.Translation.{laid_out}
use Rattle.translator.proofs.Behind.{further}
use Rattle.translator.proofs.Bridge.{operation_there, operand_read}

abbrev pub operations_of : List Entry → List ℕ
operations_of c = map (λ e. number e.operation) c

-- The operation o with operand x is sound at place i, where it finds d figures and leaves d'.
pub record SoundHere (sizes : Sizes) (os : List ℕ) (i d d' : ℕ) (o : Operation) (x : ℕ) : Type 0 where
  pub names : Names sizes (operand o) x
  pub enough : taken o ≤ d
  pub after : d' ≡ depth_after o d
  pub within : d' ≤ sizes.depth
  pub none_before : empty_before (role o) ≡ true → d ≡ 0
  pub none_after : empty_after (role o) ≡ true → d' ≡ 0
  pub leads : Leads os i (role o) x

-- The entries from place i on, of which the first finds d figures.
pub data Passes (sizes : Sizes) (os : List ℕ) : ℕ → ℕ → List Entry → Type 0 where
  done : {i d : ℕ} → Passes sizes os i d []
  next : {i d : ℕ} {e : Entry} {r : List Entry} (d' : ℕ) → SoundHere sizes os i d d' e.operation e.operand → Passes sizes os (suc i) d' r → Passes sizes os i d (e ∷ r)

-- An operation that takes two figures and leaves one, or takes one and leaves one, and names nothing.
pub record Calculates (n : ℕ) (o : Operation) : Type 0 where
  pub straight : role o ≡ Straight
  pub unused : operand o ≡ Unused
  pub takes : taken o ≡ n
  pub leaves : left o ≡ 1

module _ (sizes : Sizes) (os : List ℕ) where
  abbrev T : ℕ → ℕ → List Entry → Type 0
  T = Passes sizes os

  pub at_place : {d i j : ℕ} {r : List Entry} → i ≡ j → T i d r → T j d r
  at_place {d} {i} {j} {r} e p = subst (λ (k : ℕ). Passes sizes os k d r) e p

  pub straight : (o : Operation) (x i q d d' : ℕ) {r : List Entry} → role o ≡ Straight → Names sizes (operand o) x → taken o ≤ d → d' ≡ depth_after o d → d' ≤ sizes.depth
      → suc i < length os → suc i ≡ q → T q d' r → T i d (entry o x ∷ r)
  straight o x i q d d' is names enough after within room to rest =
      next d'
      (record {
        names = names;
        enough = enough;
        after = after;
        within = within;
        none_before = λ t. absurd (both_ways (empty_before (role o)) (ap empty_before is) t);
        none_after = λ t. absurd (both_ways (empty_after (role o)) (ap empty_after is) t);
        leads = subst (λ (ρ : Role). Leads os i ρ x) (sym is) room;
      })
      (at_place (sym to) rest)

  pub binary : (o : Operation) → Calculates 2 o → (i q d : ℕ) {r : List Entry} → suc d ≤ sizes.depth → suc i < length os → suc i ≡ q → T q (suc d) r → T i (suc (suc d)) (plain o ∷ r)
  binary o c i q d within room to rest =
      straight o 0 i q (suc (suc d)) (suc d) c.straight (subst (λ (y : Operand). Names sizes y 0) (sym c.unused) refl) (omega (arith, c.takes)) (omega (arith, c.takes, c.leaves)) within room to rest

  pub unary : (o : Operation) → Calculates 1 o → (i q d : ℕ) {r : List Entry} → suc d ≤ sizes.depth → suc i < length os → suc i ≡ q → T q (suc d) r → T i (suc d) (plain o ∷ r)
  unary o c i q d within room to rest =
      straight o 0 i q (suc d) (suc d) c.straight (subst (λ (y : Operand). Names sizes y 0) (sym c.unused) refl) (omega (arith, c.takes)) (omega (arith, c.takes, c.leaves)) within room to rest

  pub mark : (p i q : ℕ) {r : List Entry} → p ≤ 8191 → suc i < length os → suc i ≡ q → T q 0 r → T i 0 (entry Mark p ∷ r)
  mark p i q small room to rest =
      next 0 (record { names = small; enough = omega arith; after = omega arith; within = omega arith; none_before = λ t. refl; none_after = λ t. refl; leads = room }) (at_place (sym to) rest)

  pub here : (i q : ℕ) {r : List Entry} → suc i < length os → suc i ≡ q → T q 0 r → T i 0 (plain Here ∷ r)
  here i q room to rest =
      next 0 (record { names = refl; enough = omega arith; after = omega arith; within = omega arith; none_before = λ t. refl; none_after = λ t. refl; leads = room }) (at_place (sym to) rest)

  pub halt : (i q : ℕ) {r : List Entry} → suc i ≡ q → T q 0 r → T i 0 (plain Halt ∷ r)
  halt i q to rest =
      next 0 (record { names = refl; enough = omega arith; after = omega arith; within = omega arith; none_before = λ t. refl; none_after = λ t. refl; leads = tt }) (at_place (sym to) rest)

  lands_to_inside : (i x : ℕ) → Lands os i x → x < length os
  lands_to_inside i x (on_mark e) = stands_to_inside os x Mark e
  lands_to_inside i x (on_later_here l e) = stands_to_inside os x Here e
  lands_to_inside i x (on_later_halt l e) = stands_to_inside os x Halt e

  module _ (long : length os ≡ sizes.operations) where
    pub jump : (x i q : ℕ) {r : List Entry} → Lands os i x → suc i ≡ q → T q 0 r → T i 0 (entry Jump x ∷ r)
    jump x i q lands to rest =
        next 0 (record { names = omega (arith, long, lands_to_inside i x lands); enough = omega arith; after = omega arith; within = omega arith; none_before = λ t. refl; none_after = λ t. refl; leads = lands }) (at_place (sym to) rest)

    pub branch : (x i q : ℕ) {r : List Entry} → Lands os i x → suc i < length os → suc i ≡ q → T q 0 r → T i 1 (entry False x ∷ r)
    branch x i q lands room to rest =
        next 0
        (record {
          names = omega (arith, long, lands_to_inside i x lands);
          enough = omega arith;
          after = omega arith;
          within = omega arith;
          none_before = λ t. absurd (both_ways false refl t);
          none_after = λ t. refl;
          leads = (lands, room);
        })
        (at_place (sym to) rest)

    pub table : (x i q : ℕ) {r : List Entry} → i < x → operation_at os x ≡ Some Rows → suc i < length os → suc i ≡ q → T q 0 r → T i 1 (entry Table x ∷ r)
    table x i q further rows room to rest =
        next 0
        (record {
          names = omega (arith, long, stands_to_inside os x Rows rows);
          enough = omega arith;
          after = omega arith;
          within = omega arith;
          none_before = λ t. absurd (both_ways false refl t);
          none_after = λ t. refl;
          leads = (further, rows, room);
        })
        (at_place (sym to) rest)

  pub rows : (k i q : ℕ) {r : List Entry} → 1 ≤ k → HasRows os i k → suc i < length os → suc i ≡ q → T q 0 r → T i 0 (entry Rows k ∷ r)
  rows k i q some has room to rest =
      next 0 (record { names = some; enough = omega arith; after = omega arith; within = omega arith; none_before = λ t. refl; none_after = λ t. refl; leads = (has, room) }) (at_place (sym to) rest)

module _ (sizes : Sizes) (c : List Entry) where
  -- The depth past a known operation.
  depth_past_it : (i : ℕ) (o : Operation) → operation_at (operations_of c) i ≡ Some o → depth_at (operations_of c) (suc i) ≡ depth_after o (depth_at (operations_of c) i)
  unfolding depth_at
  depth_past_it i o e = ap (λ p. depth_past p (depth_at (operations_of c) i)) e

  -- What stands at the front of code that passes is sound.
  front_sound : (i d d' : ℕ) (e : Entry) (r : List Entry) → drop i c ≡ e ∷ r → depth_at (operations_of c) i ≡ d → d ≤ sizes.depth
      → SoundHere sizes (operations_of c) i d d' e.operation e.operand → SoundAt (laid_out sizes c) i e.operation × (depth_at (operations_of c) (suc i) ≡ d')
  front_sound i d d' e r here deep within s =
      let o = e.operation in
      let stands = operation_there i c e r here in
      let reads = operand_read i c e r here in
      let deeper : depth_at (operations_of c) (suc i) ≡ d' = depth_past_it i o stands ∙ ap (depth_after o) deep ∙ sym s.after in (
        record {
          stands = stands;
          names = subst (λ (y : ℕ). Names sizes (operand o) y) (sym reads) s.names;
          enough = omega (arith, deep, s.enough);
          found = omega (arith, deep);
          left = omega (arith, deeper, s.within);
          none_before = λ t. deep ∙ s.none_before t;
          none_after = λ t. deeper ∙ s.none_after t;
          leads = subst (λ (y : ℕ). Leads (operations_of c) i (role o) y) (sym reads) s.leads;
        },
        deeper,
      )

  sound_from : {i d : ℕ} {r : List Entry} → drop i c ≡ r → depth_at (operations_of c) i ≡ d → d ≤ sizes.depth → Passes sizes (operations_of c) i d r
      → (k : ℕ) → i ≤ k → k < i + length r → (o : Operation) × SoundAt (laid_out sizes c) k o
  sound_from at deep within done k from below = absurd (omega arith)
  sound_from {i} {d} at deep within (next {e = e} {r = r} d' s p) k from below =
      let f = front_sound i d d' e r at deep within s in
      go_on f (λ lt. sound_from (further c i 1 (suc i) _ at (omega arith)) f.1 s.within p k lt (omega arith)) (cases_lt i k)
    where
      go_on : SoundAt (laid_out sizes c) i e.operation × (depth_at (operations_of c) (suc i) ≡ d') → (i < k → (o : Operation) × SoundAt (laid_out sizes c) k o)
          → (i < k) ⊎ (k ≤ i) → (o : Operation) × SoundAt (laid_out sizes c) k o
      go_on f later (inl lt) = later lt
      go_on f later (inr le) = let same : i ≡ k = omega arith in (e.operation, subst (λ (j : ℕ). SoundAt (laid_out sizes c) j e.operation) same f.0)

  pub passes_to_well_formed : 1 ≤ length c → length c ≤ 4096 → sizes.operations ≡ length c → sizes.named ≤ sizes.cells → sizes.cells ≤ 2048 → sizes.depth ≤ 256
      → (operation_at (operations_of c) 0 ≡ Some Mark) ⊎ (operation_at (operations_of c) 0 ≡ Some Halt) → Passes sizes (operations_of c) 0 0 c → WellFormed (laid_out sizes c)
  unfolding depth_at
  passes_to_well_formed some few is named wide shallow opens p = record {
    some_operation = omega arith;
    few_operations = omega arith;
    few_named = named;
    few_cells = wide;
    shallow = shallow;
    operations_long = length-map c (λ e. number e.operation) ∙ sym is;
    operands_long = length-map c (λ e. e.operand) ∙ sym is;
    opens = opens;
    sound = λ i l. sound_from {i = 0} {d = 0} refl refl (omega arith) p i (omega arith) (omega arith);
  }
