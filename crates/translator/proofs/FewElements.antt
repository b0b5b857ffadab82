-- No for has more elements than its code has room for: code of at most 4,096 operations has no for of more than 2,048.
use Rattle.std.proofs.Common.{◌<◌, ◌≤◌, List, [], ◌∷◌, length, Some, ap, arith}
use Rattle.std.proofs.lemmas.List.{length-drop}
use Rattle.grammar.specs.Tree.{Element, single, progression, Statement, labelled, conditional, repeated, assigned, go, switched, input, printed, stop, sequence}
use Rattle.symbols.specs.declared.value_type.ValueType.{ValueType}
use Rattle.symbols.specs.Symbols.{Symbol}
use Rattle.meaning.specs.Names.{Names, names_in}
use Rattle.translator.specs.Generator.{all_of, type_of, element_size, elements_size, size}
use Rattle.translator.specs.Translation.{entries_of}
use Rattle.translator.specs.Accepted.{FewElements}
use Rattle.translator.proofs.AcceptedTables.{behind_text}

module _ (names : Names) where
  -- Every element has an operation.
  some_operations : (t : ValueType) (e : Element) → 1 ≤ element_size names t e
  some_operations t (single e) = omega arith
  some_operations t (progression a s b) = omega arith

  elements_long : (t : ValueType) (es : List Element) → length es ≤ elements_size names t es
  elements_long t [] = omega arith
  elements_long t (e ∷ es) = omega (arith, some_operations t e, elements_long t es)

  -- Each element has a row beside its operations.
  pub few_elements : (s : Statement) → size names s ≤ 4096 → FewElements s
  few_elements (labelled l s) h = few_elements s h
  few_elements (conditional p e s) h = few_elements s (omega arith)
  few_elements (repeated p x es s) h = (omega (arith, elements_long (type_of names x) (all_of es)), few_elements s (omega arith))
  few_elements (assigned v e) h = tt
  few_elements (go p l) h = tt
  few_elements (switched p x e) h = tt
  few_elements (input p v) h = tt
  few_elements (printed p es) h = tt
  few_elements (stop p) h = tt
  few_elements (sequence s t) h = (few_elements s (omega arith), few_elements t (omega arith))

-- The code of a text is longer than that of its statement.
pub code_long : (ss : List Symbol) (s : Statement) → size (names_in ss) s < length (entries_of ss (Some s))
code_long ss s =
    let left = ap length (behind_text ss s (size (names_in ss) s) 0 (omega arith)) in
    omega (arith, left, length-drop (size (names_in ss) s) (entries_of ss (Some s)))
