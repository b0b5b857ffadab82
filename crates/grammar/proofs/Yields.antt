-- What the scripts promise: whichever words a script takes, its tree derives from them.
use Rattle.std.proofs.Common.{◌≡◌, ℕ, zero, suc, ◌+◌, ◌-◌, ◌<◌, ◌≤◌, true, List, ◌∷◌, refl, arith}
use Rattle.words.specs.Token.{Word, mark}
use Rattle.grammar.specs.Tree.{Row, Exp}
use Rattle.grammar.specs.Classes.{rank, prefix_rank, Content, levels_after}
use Rattle.grammar.specs.Grammar.{Part, ranked, factor, variable, identifier, bound, group, element, statement, item, exp, Phrase, a, row, separator, Tree, Value, Derives, alone, another, a_name, a_whole, an_indexed, a_number, a_value, in_brackets, a_comparison, a_factor, an_operand, operated, after_prefix, a_single, a_progression, a_label, an_assignment, a_conditional, a_repetition, a_block, a_jump, a_switched_jump, an_input, a_print, a_stop, a_signed_bound, a_plain_bound, a_group, a_comment, integers, booleans, arrays, a_switch, an_action}
use Rattle.grammar.specs.Parser.{Goal, begin, operators, rest, Script, done, word, either, part, goto, within, name_script, variable_script, factor_script, ranked_script, operators_script, element_script, statement_script, bound_script, group_script, item_script, part_script, phrase_script, variable_factor, behind_factor, element_rest, row_rest, group_bounds, statement_item, start}
use Rattle.grammar.proofs.Found.{token_of, InRank, class_opens, class_levels}

-- An expression that can be taken as one of any rank from r to q, and of rank r.
pub record Ranked (r q l : ℕ) (es ws : List Word) (x : Exp) : Type 0 where
  pub at_least : Derives (a (ranked r)) l es ws x
  pub up_to : (m : ℕ) → r ≤ m → m ≤ q → Derives (a (ranked m)) l es ws x

-- What a goal's tree derives from: of operators and of a row's rest, together with what stands before.
abbrev pub Reaches : {p : Phrase} → Goal p → ℕ → List Word → List Word → Value p → Type 0
Reaches (begin p) l ws rs v = Derives p l ws rs v
Reaches (operators r q x) l ws rs v = (es : List Word) → Ranked r q l es ws x → Derives (a (ranked r)) l es rs v
Reaches (rest p ts) l ws rs v = (es : List Word) → Derives (row p) l es ws ts → Derives (row p) l es rs v

module _ (limit : ℕ) where
  -- With d levels open before ws, the script ends only before words rs and with a tree v such that R rs v.
  abbrev pub Yields : {p : Phrase} → (List Word → Value p → Type 0) → ℕ → List Word → Script p → Type 0
  Yields R d ws (done v) = R ws v
  Yields R d ws (word c y) = (w : Word) (rs : List Word) (x : Content c) → ws ≡ w ∷ rs → w.token ≡ token_of c x
      → (class_opens c ≡ true → class_levels c d ≤ limit) → Yields R (class_levels c d) rs (y x w.place)
  Yields R d ws (either c y n) = ((w : Word) (rs : List Word) (x : Content c) → ws ≡ w ∷ rs → w.token ≡ token_of c x → InRank c x
      → (class_opens c ≡ true → class_levels c d ≤ limit) → Yields R (class_levels c d) rs (y x w.place)) × Yields R d ws n
  Yields R d ws (part g f) = (rs : List Word) (v : _) → Reaches g (limit - d) ws rs v → Yields R d rs (f v)
  Yields R d ws (goto g) = (rs : List Word) (v : _) → Reaches g (limit - d) ws rs v → R rs v
  Yields R d ws (within s f) = Yields (λ rs v. Yields R d rs (f v)) d ws s

  -- What R allows, Q may allow.
  pub yields_more : {p : Phrase} (s : Script p) (R Q : List Word → Value p → Type 0) (d : ℕ) (ws : List Word) → ((rs : List Word) (v : Value p) → R rs v → Q rs v) → Yields R d ws s → Yields Q d ws s
  yields_more (done v) R Q d ws f h = f ws v h
  yields_more (word c y) R Q d ws f h = λ w rs x e i o. yields_more (y x w.place) R Q (class_levels c d) rs f (h w rs x e i o)
  yields_more (either c y n) R Q d ws f h = (λ w rs x e i r o. yields_more (y x w.place) R Q (class_levels c d) rs f (h.0 w rs x e i r o), yields_more n R Q d ws f h.1)
  yields_more (part g k) R Q d ws f h = λ rs v x. yields_more (k v) R Q d rs f (h rs v x)
  yields_more (goto g) R Q d ws f h = λ rs v x. f rs v (h rs v x)
  yields_more (within s k) R Q d ws f h = yields_more s (λ rs v. Yields R d rs (k v)) (λ rs v. Yields Q d rs (k v)) d ws (λ rs v x. yields_more (k v) R Q d rs f x) h

  -- What an inner script yields, the rest of the script goes on with.
  pub yields_within : {p q : Phrase} (s : Script q) (f : Value q → Script p) (Q : List Word → Value q → Type 0) (R : List Word → Value p → Type 0) (d : ℕ) (ws : List Word)
      → ((rs : List Word) (v : Value q) → Q rs v → Yields R d rs (f v)) → Yields Q d ws s → Yields R d ws (within s f)
  yields_within s f Q R d ws g h = yields_more s Q (λ rs v. Yields R d rs (f v)) d ws g h

-- An expression of a rank is one of any lower rank.
lowered : (n m q : ℕ) {l : ℕ} {ws rs : List Word} {x : Exp} → q - m ≡ n → m ≤ q → Derives (a (ranked q)) l ws rs x → Derives (a (ranked m)) l ws rs x
lowered zero m q e h x = let i : q ≡ m = omega arith in rw i at x
lowered (suc n) m q e h x = an_operand (lowered n (suc m) q (omega arith) (omega arith) x)

pub of_lower_rank : (m q : ℕ) {l : ℕ} {ws rs : List Word} {x : Exp} → m ≤ q → Derives (a (ranked q)) l ws rs x → Derives (a (ranked m)) l ws rs x
of_lower_rank m q h x = lowered (q - m) m q refl h x

ranked_up_to : (r q : ℕ) {l : ℕ} {es ws : List Word} {x : Exp} → r ≤ q → Derives (a (ranked q)) l es ws x → Ranked r q l es ws x
ranked_up_to r q h x = record { at_least = of_lower_rank r q h x; up_to = λ m _ k. of_lower_rank m q k x }

pub of_any_rank : (r : ℕ) {l : ℕ} {ws rs : List Word} {x : Exp} → Derives (a factor) l ws rs x → Derives (a (ranked r)) l ws rs x
of_any_rank r x = of_lower_rank r (r + 7) (omega arith) (a_factor (omega arith) x)

separator_levels : (p : Part) (d : ℕ) → levels_after (mark (separator p)) d ≡ d
separator_levels (ranked r) d = refl
separator_levels factor d = refl
separator_levels variable d = refl
separator_levels identifier d = refl
separator_levels bound d = refl
separator_levels group d = refl
separator_levels element d = refl
separator_levels statement d = refl
separator_levels item d = refl

-- Each goal's script yields what the grammar derives: one line for each way in which a phrase is written.
module _ (limit d : ℕ) (ws : List Word) where
  -- What is read here: the phrase p from ws on.
  abbrev From : (p : Phrase) → List Word → Value p → Type 0
  From p rs v = Derives p (limit - d) ws rs v

  deeper : suc d ≤ limit → limit - suc d < limit - d
  deeper h = omega arith

  name_yields : Yields limit (From (a identifier)) d ws name_script
  name_yields = λ w rs n e i _. rw e (a_name i)

  variable_yields : Yields limit (From (a variable)) d ws variable_script
  variable_yields = λ w rs n e i _. (
    λ o ms _ e₂ i₂ _ h ns x dx c ts _ e₃ i₃ _. rw (e, e₂) (an_indexed (deeper (h refl)) i i₂ (rw e₃ at dx) i₃),
    rw e (a_whole i),
  )

  factor_yields : Yields limit (From (a factor)) d ws factor_script
  factor_yields = (
    λ o ms _ e i _ h ns x dx. (
      λ r ms₂ q e₂ i₂ _ _ ns₂ y dy c ts _ e₃ i₃ _. rw e (a_comparison (deeper (h refl)) i (rw e₂ at dx) i₂ (rw e₃ at dy) i₃),
      λ c ts _ e₂ i₂ _. rw e (in_brackets (deeper (h refl)) i (rw e₂ at dx) i₂),
    ),
    (
      λ w rs n e i _ _. rw e (a_number i),
      yields_within limit variable_script variable_factor (From (a variable)) (From (a factor)) d ws (λ rs v dv. a_value dv) variable_yields,
    ),
  )

  ranked_yields : (r : ℕ) → Yields limit (From (a (ranked r))) d ws (ranked_script r)
  ranked_yields r = (
    λ w rs o e i h _ ns x dx ts v k. k ws (ranked_up_to r (prefix_rank o) h (rw e (after_prefix i dx))),
    yields_within limit factor_script (behind_factor r) (From (a factor)) (From (a (ranked r))) d ws (λ rs x dx ts v k. k ws (record { at_least = of_any_rank r dx; up_to = λ m _ _. of_any_rank m dx })) factor_yields,
  )

  operators_yields : (r q : ℕ) (x : Exp) → Yields limit (λ rs v. Reaches (operators r q x) (limit - d) ws rs v) d ws (operators_script r q x)
  operators_yields r q x = (
    λ w rs o e i h _ ns y dy ts v k es f. k es (ranked_up_to r (rank o) h.0 (operated (rw e at (f.up_to (rank o) h.0 h.1)) i dy)),
    λ es f. f.at_least,
  )

  element_yields : Yields limit (From (a element)) d ws element_script
  element_yields = yields_within limit (ranked_script 1) element_rest (From (a exp)) (From (a element)) d ws
      (λ ms x dx. (
        λ o ns _ e i _ h ns₂ y dy c ts _ e₂ i₂ _ us z dz. a_progression (deeper (h refl)) (rw e at dx) i (rw e₂ at dy) i₂ dz,
        a_single dx,
      ))
      (ranked_yields 1)

  statement_yields : Yields limit (From (a statement)) d ws statement_script
  statement_yields = (
    λ w rs _ e i _ h ms x dx c ns _ e₂ i₂ _ ts s ds. rw e (a_conditional (deeper (h refl)) i (rw e₂ at dx) i₂ ds),
    (
      λ f r₁ _ e i _ h w r₂ n e₂ i₂ _ b r₃ _ e₃ i₃ _ ms es des c ns _ e₄ i₄ _ ts s ds.
          rw (e, e₂, e₃) (a_repetition (deeper (h refl)) i i₂ i₃ (rw e₄ at des) i₄ ds),
      (
        λ b r₁ _ e i _ h ms ss dss c ns _ e₂ i₂ _. rw e (a_block (deeper (h refl)) i (rw e₂ at dss) i₂),
        (
          λ g r₁ _ e i _ _ t r₂ _ e₂ i₂ _ w r₃ n e₃ i₃ _. (
            λ o r₄ _ e₄ i₄ _ h ms x dx c ts _ e₅ i₅ _. rw (e, e₂, e₃, e₄) (a_switched_jump (deeper (h refl)) i i₂ i₃ i₄ (rw e₅ at dx) i₅),
            rw (e, e₂, e₃) (a_jump i i₂ i₃),
          ),
          (
            λ j r₁ _ e i _ _ t r₂ _ e₂ i₂ _ o r₃ _ e₃ i₃ h ms v dv c ts _ e₄ i₄ _. rw (e, e₂, e₃) (an_input (deeper (h refl)) i i₂ i₃ (rw e₄ at dv) i₄),
            (
              λ j r₁ _ e i _ _ o r₂ _ e₂ i₂ h ms xs dxs c ts _ e₃ i₃ _. rw (e, e₂) (a_print (deeper (h refl)) i i₂ (rw e₃ at dxs) i₃),
              (
                λ w r₁ n e i _ _. (
                  λ c r₂ _ e₂ i₂ _ _ ts s ds. rw (e, e₂) (a_label i i₂ ds),
                  (
                    λ b r₂ _ e₂ i₂ _ _ ts x dx. rw (e, e₂) (an_assignment (a_whole i) i₂ dx),
                    λ o r₂ _ e₂ i₂ h ms x dx c r₃ _ e₃ i₃ _ b r₄ _ e₄ i₄ _ ts y dy. rw (e, e₂) (an_assignment (an_indexed (deeper (h refl)) i i₂ (rw (e₃, e₄) at dx) i₃) i₄ dy),
                  ),
                ),
                λ w rs _ e i _. rw e (a_stop i),
              ),
            ),
          ),
        ),
      ),
    ),
  )

  bound_yields : Yields limit (From (a bound)) d ws bound_script
  bound_yields = (
    λ w rs s e i _ _ v ms n e₂ i₂ _. rw (e, e₂) (a_signed_bound i i₂),
    λ w rs n e i _. rw e (a_plain_bound i),
  )

  row_yields : (p : Part) → Yields limit (From (a p)) d ws (part_script p) → Yields limit (From (row p)) d ws (phrase_script (row p))
  row_yields p h = yields_within limit (part_script p) (row_rest p) (From (a p)) (From (row p)) d ws (λ rs t dt ts v k. k ws (alone dt)) h

  group_yields : Yields limit (From (a group)) d ws group_script
  group_yields = yields_within limit (phrase_script (row identifier)) group_bounds (From (row identifier)) (From (a group)) d ws
      (λ ms xs dxs o r₁ _ e i h ns x dx c r₂ _ e₂ i₂ _ ns₂ y dy b ts _ e₃ i₃ _. a_group (deeper (h refl)) (rw e at dxs) i (rw e₂ at dx) i₂ (rw e₃ at dy) i₃)
      (row_yields identifier name_yields)

  item_yields : Yields limit (From (a item)) d ws item_script
  item_yields = (
    λ w rs _ e i _ _. rw e (a_comment i),
    (
      λ w r₁ _ e i _ _ o r₂ _ e₂ i₂ h ms xs dxs c ts _ e₃ i₃ _. rw (e, e₂) (integers (deeper (h refl)) i i₂ (rw e₃ at dxs) i₃),
      (
        λ w r₁ _ e i _ _ o r₂ _ e₂ i₂ h ms xs dxs c ts _ e₃ i₃ _. rw (e, e₂) (booleans (deeper (h refl)) i i₂ (rw e₃ at dxs) i₃),
        (
          λ w r₁ _ e i _ _ o r₂ _ e₂ i₂ h ms gs dgs c ts _ e₃ i₃ _. rw (e, e₂) (arrays (deeper (h refl)) i i₂ (rw e₃ at dgs) i₃),
          (
            λ w r₁ _ e i _ _ v r₂ n e₂ i₂ _ b r₃ _ e₃ i₃ _ o r₄ _ e₄ i₄ h ms xs dxs c ts _ e₅ i₅ _.
                rw (e, e₂, e₃, e₄) (a_switch (deeper (h refl)) i i₂ i₃ i₄ (rw e₅ at dxs) i₅),
            yields_within limit statement_script statement_item (From (a statement)) (From (a item)) d ws (λ rs s ds. an_action ds) statement_yields,
          ),
        ),
      ),
    ),
  )

  part_yields : (p : Part) → Yields limit (From (a p)) d ws (part_script p)
  part_yields (ranked r) = ranked_yields r
  part_yields factor = factor_yields
  part_yields variable = variable_yields
  part_yields identifier = name_yields
  part_yields bound = bound_yields
  part_yields group = group_yields
  part_yields element = element_yields
  part_yields statement = statement_yields
  part_yields item = item_yields

  rest_yields : (p : Part) (ts : Row (Tree p)) → Yields limit (λ rs v. Reaches (rest p ts) (limit - d) ws rs v) d ws (start (rest p ts))
  rest_yields p ts = (
    λ w rs _ e i _ _ ns t dt us v k es f. (rw (separator_levels p d) at k) es (another (rw e at f) i (rw (separator_levels p d) at dt)),
    λ es f. f,
  )

  pub start_yields : {p : Phrase} (g : Goal p) → Yields limit (λ rs v. Reaches g (limit - d) ws rs v) d ws (start g)
  start_yields (begin (a p)) = part_yields p
  start_yields (begin (row p)) = row_yields p (part_yields p)
  start_yields (operators r q x) = operators_yields r q x
  start_yields (rest p ts) = rest_yields p ts
