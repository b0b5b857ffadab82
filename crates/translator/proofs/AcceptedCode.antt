-- The code of every accepted text passes the check: its statements are set in it, and it keeps the limits.
use Rattle.std.proofs.Common.{◌≡◌, ℕ, suc, ◌+◌, ◌≤◌, not, ◌||◌, List, length, ℤ, pos, ◌+ℤ◌, ◌-ℤ◌, ◌*ℤ◌, neg_ℤ, Some, Option, sym, refl, ap, subst, arith}
use lib.Signed.{lt_z}
use Rattle.grammar.specs.Tree.{Statement, Program}
use Rattle.symbols.specs.Symbols.{symbols, named_cells}
use Rattle.symbols.specs.Texts.{answer, accepted}
use Rattle.figures.specs.Kinds.{Kind, Counts, Tells, value}
use Rattle.meaning.specs.Names.{names_of}
use Rattle.meaning.specs.Positions.{statements}
use Rattle.meaning.specs.Laws.{has_label}
use Rattle.translator.specs.Generator.{size}
use Rattle.translator.specs.Translation.{entries, entries_of, table_place, text_label, text_loops, text_size}
use Rattle.translator.specs.Agreement.{Setting}
use Rattle.translator.specs.AcceptedCode.{HasSetting, AcceptedCodeLaw}
use Rattle.translator.proofs.AcceptedSetting.{accepted_setting}
use Rattle.translator.proofs.AcceptedTexts.{text_to_verdict}
use Rattle.translator.proofs.FewElements.{code_long, few_elements}
use Rattle.translator.proofs.LimitsTexts.{limits_law}
use Rattle.translator.proofs.PassingTexts.{set_code_passes}

module _ {V : Type 0} (kind : Kind V) (counts : (n : ℕ) → n ≤ 2048 → Counts kind n) (tells : Tells kind) where
  -- The setting of an accepted text's statements, as its own symbols and statements give it: its code is short enough for its
  -- fors to have few elements.
  module _ (text : List ℕ) (t : Program) (ok : answer text ≡ accepted t) (root : Statement) (is : statements t ≡ Some root) where
    SetAs : Option Statement → Type 0
    SetAs o =
        Setting kind (entries_of (symbols t) o) (names_of t) (text_label (names_of t) (Some root)) (table_place (suc (size (names_of t) root)) (symbols t)) (size (names_of t) root)
        (named_cells (symbols t)) (named_cells (symbols t) + text_loops (names_of t) o) (λ l. has_label l root) root

    root_setting : SetAs (Some root)
    unfolding SetAs
    root_setting =
        let short = (limits_law text t ok).few_operations in
        let long = code_long (symbols t) root in
        let same : length (entries t) ≡ length (entries_of (symbols t) (Some root)) = ap (λ o. length (entries_of (symbols t) o)) is in
        accepted_setting kind counts tells t root (text_to_verdict t text ok) is (few_elements (names_of t) root (omega arith))

    pub text_setting : Setting kind (entries t) (names_of t) (text_label (names_of t) (Some root)) (table_place (suc (size (names_of t) root)) (symbols t)) (size (names_of t) root)
        (named_cells (symbols t)) (named_cells (symbols t) + text_loops (names_of t) (statements t)) (λ l. has_label l root) root
    unfolding SetAs
    text_setting = subst SetAs (sym is) root_setting

    -- The same with all its places told by the tree's statements.
    named_setting : Setting kind (entries t) (names_of t) (text_label (names_of t) (statements t)) (table_place (suc (text_size (names_of t) (statements t))) (symbols t)) (text_size (names_of t) (statements t))
        (named_cells (symbols t)) (named_cells (symbols t) + text_loops (names_of t) (statements t)) (λ l. has_label l root) root
    unfolding SetAs
    named_setting =
        subst (λ (o : Option Statement). Setting kind (entries_of (symbols t) o) (names_of t) (text_label (names_of t) o) (table_place (suc (text_size (names_of t) o)) (symbols t)) (text_size (names_of t) o)
        (named_cells (symbols t)) (named_cells (symbols t) + text_loops (names_of t) o) (λ l. has_label l root) root)
        (sym is) root_setting

  has_setting : (text : List ℕ) (t : Program) → answer text ≡ accepted t → HasSetting kind t
  has_setting text t ok s is = (λ l. has_label l s, named_setting text t ok s is)

  pub accepted_code : AcceptedCodeLaw
  accepted_code text t ok = set_code_passes kind text t ok (has_setting text t ok)

-- Whether code passes does not hang on the figures it will run over. The whole numbers without a range are a kind whose two
-- laws hold by computation.
abbrev unbounded : Kind ℤ
unbounded = record {
  of = λ n. value (pos n);
  add = λ a b. value (a +ℤ b);
  subtract = λ a b. value (a -ℤ b);
  multiply = λ a b. value (a *ℤ b);
  divide = λ a b. value a;
  negate = neg_ℤ;
  round = λ a. a;
  nearest = λ a. a;
  less = lt_z;
  same = λ a b. not (lt_z a b || lt_z b a);
}

-- The code of every accepted text passes the check.
pub every_code_passes : AcceptedCodeLaw
every_code_passes =
    accepted_code unbounded (λ n h. record { figure = pos n; given = refl; nearest_is = refl })
    (record { zero = pos 0; one = pos 1; of_zero = refl; of_one = refl; zero_is_zero = refl; one_is_not = refl })
