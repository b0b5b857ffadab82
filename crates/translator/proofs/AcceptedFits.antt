-- Every expression and every statement of an accepted text fits: its names have their cells among the named ones.
use Rattle.std.proofs.Common.{◌≡◌, ℕ, List, [], ◌∷◌, ◌++◌}
use Rattle.grammar.specs.Tree.{Row, one, more, Exp, literal, simple, subscripted, prefixed, joined, bracketed, compared, Variable, whole, indexed, value_of, Element, single, progression, Statement, labelled, conditional, repeated, assigned, go, switched, input, printed, stop, sequence, Program}
use Rattle.symbols.specs.declared.value_type.ValueType.TheVariants.{Boolean}
use Rattle.symbols.specs.Occurrences.{as_selector, as_variable, as_element, Occurrence, at, each, in_exp, in_element, in_statement, occurrences}
use Rattle.symbols.specs.Symbols.{symbols, type_in, named_cells}
use Rattle.symbols.specs.Types.{arithmetic, truth_value, differs, name_type, told, exp_offences, element_offences, statement_offences}
use Rattle.symbols.specs.Rules.{accepted, verdict}
use Rattle.symbols.specs.Laws.{In, here, later}
use Rattle.symbols.proofs.Lists.{in_left, in_right}
use Rattle.symbols.proofs.Offences.{empty_left, empty_right, nothing_told}
use Rattle.meaning.specs.Names.{Names, names_in}
use Rattle.meaning.proofs.Storing.{cells_there}
use Rattle.translator.specs.Generator.{all_of}
use Rattle.translator.specs.Fits.{ExpFits}
use Rattle.translator.specs.Compiled.{VariableFits, ExpsFit, ElementFits, ElementsFit, variable_type, Fits}
use Rattle.translator.specs.Accepted.{FewElements}
use Rattle.translator.proofs.AcceptedNames.{not_boolean, variable_count, variable_low, variable_extent, array_extent, switch_has_label}

-- One more at the end of a list that fits.
elements_and : (names : Names) (v : ℕ) (es : List Element) (e : Element) → ElementsFit names v es → ElementFits names v e → ElementsFit names v (es ++ e ∷ [])
elements_and names v [] e h j = (j, tt)
elements_and names v (x ∷ es) e h j = (h.0, elements_and names v es e h.1 j)

exps_and : (names : Names) (v : ℕ) (es : List Exp) (e : Exp) → ExpsFit names v es → ExpFits names v e → ExpsFit names v (es ++ e ∷ [])
exps_and names v [] e h j = (j, tt)
exps_and names v (x ∷ es) e h j = (h.0, exps_and names v es e h.1 j)

module _ (t : Program) (ok : verdict t ≡ accepted) where
  abbrev names : Names
  names = names_in (symbols t)

  abbrev v : ℕ
  v = named_cells (symbols t)

  -- All these names stand in the text.
  abbrev Listed : List Occurrence → Type 0
  Listed os = (o : Occurrence) → In o os → In o (occurrences t)

  -- Of two lists joined, the names of each stand there.
  left : (os ps : List Occurrence) → Listed (os ++ ps) → Listed os
  left os ps h o i = h o (in_left o os ps i)

  right : (os ps : List Occurrence) → Listed (os ++ ps) → Listed ps
  right os ps h o i = h o (in_right o os ps i)

  -- Expressions, the parts of a row, elements of fors, and what figures are stored in.
  exp_fits : (e : Exp) → Listed (in_exp e) → ExpFits names v e
  exp_fits (literal n p) h = tt
  exp_fits (simple x) h = (cells_there t ok).simple x (h (at as_variable x) here)
  exp_fits (subscripted x e) h = (array_extent t ok x (h (at as_element x) here), exp_fits e (λ o i. h o (later i)))
  exp_fits (prefixed o p e) h = exp_fits e h
  exp_fits (joined o a b) h = (exp_fits a (left (in_exp a) (in_exp b) h), exp_fits b (right (in_exp a) (in_exp b) h))
  exp_fits (bracketed p e) h = exp_fits e h
  exp_fits (compared c p a b) h = (exp_fits a (left (in_exp a) (in_exp b) h), exp_fits b (right (in_exp a) (in_exp b) h))

  exps_fit : (es : Row Exp) → Listed (each in_exp es) → ExpsFit names v (all_of es)
  exps_fit (one e) h = (exp_fits e h, tt)
  exps_fit (more es e) h =
      exps_and names v (all_of es) e (exps_fit es (left (each in_exp es) (in_exp e) h)) (exp_fits e (right (each in_exp es) (in_exp e) h))

  element_fits : (e : Element) → Listed (in_element e) → ElementFits names v e
  element_fits (single e) h = exp_fits e h
  element_fits (progression a b c) h =
      let r = right (in_exp a) (in_exp b ++ in_exp c) h in
      (exp_fits a (left (in_exp a) (in_exp b ++ in_exp c) h), exp_fits b (left (in_exp b) (in_exp c) r), exp_fits c (right (in_exp b) (in_exp c) r))

  elements_fit : (es : Row Element) → Listed (each in_element es) → ElementsFit names v (all_of es)
  elements_fit (one e) h = (element_fits e h, tt)
  elements_fit (more es e) h =
      elements_and names v (all_of es) e (elements_fit es (left (each in_element es) (in_element e) h))
      (element_fits e (right (each in_element es) (in_element e) h))

  variable_fits : (x : Variable) → Listed (in_exp (value_of x)) → VariableFits names v x
  variable_fits (whole x) h =
      let i = h (at as_variable x) here in
      (variable_extent t ok x i, (cells_there t ok).simple x i, variable_count t ok x i, variable_low t ok x i)
  variable_fits (indexed x e) h = (array_extent t ok x (h (at as_element x) here), exp_fits e (λ o i. h o (later i)))

  -- A figure is taken into no Boolean name.
  input_type : (x : Variable) → exp_offences (symbols t) arithmetic (value_of x) ≡ [] → variable_type names x ≡ Boolean → ⊥
  input_type (whole x) q = not_boolean (type_in (symbols t) x.letters) (nothing_told (differs arithmetic (name_type (symbols t) x)) x.place q)
  input_type (indexed x e) q =
      not_boolean (type_in (symbols t) x.letters)
      (nothing_told (differs arithmetic (name_type (symbols t) x)) x.place
      (empty_left (told (differs arithmetic (name_type (symbols t) x)) x.place) (exp_offences (symbols t) arithmetic e) q))

  -- A statement of the text without offences against the types, whose fors have few elements, fits.
  pub statement_fits : (s : Statement) → Listed (in_statement s) → statement_offences (symbols t) s ≡ [] → FewElements s → Fits names v s
  statement_fits (labelled l s) h q n = statement_fits s (λ o i. h o (later i)) q n
  statement_fits (conditional p e s) h q n = (
    exp_fits e (left (in_exp e) (in_statement s) h),
    statement_fits s (right (in_exp e) (in_statement s) h) (empty_right (exp_offences (symbols t) truth_value e) (statement_offences (symbols t) s) q) n,
  )
  statement_fits (repeated p x es s) h q n =
      let r = λ (o : Occurrence) (i : In o (each in_element es ++ in_statement s)). h o (later i) in
      let E = each (element_offences (symbols t)) es in
      let S = statement_offences (symbols t) s in (
        (cells_there t ok).simple x (h (at as_variable x) here),
        elements_fit es (left (each in_element es) (in_statement s) r),
        statement_fits s (right (each in_element es) (in_statement s) r) (empty_right E S (empty_right (exp_offences (symbols t) arithmetic (simple x)) (E ++ S) q)) n.1,
        n.0,
      )
  statement_fits (assigned x e) h q n =
      (variable_fits x (left (in_exp (value_of x)) (in_exp e) h), exp_fits e (right (in_exp (value_of x)) (in_exp e) h))
  statement_fits (go p l) h q n = tt
  statement_fits (switched p x e) h q n = (exp_fits e (λ o i. h o (later i)), switch_has_label t ok x (h (at as_selector x) here))
  statement_fits (input p x) h q n = (variable_fits x h, input_type x q)
  statement_fits (printed p es) h q n = exps_fit es h
  statement_fits (stop p) h q n = tt
  statement_fits (sequence s u) h q n =
      let S = statement_offences (symbols t) s in
      let U = statement_offences (symbols t) u in (
        statement_fits s (left (in_statement s) (in_statement u) h) (empty_left S U q) n.0,
        statement_fits u (right (in_statement s) (in_statement u) h) (empty_right S U q) n.1,
      )
