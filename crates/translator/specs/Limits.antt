-- The limits that a text's words put on its code. No refusal exists for too much code: at most 500 words give at most 4,096
-- operations and a stack of at most 256 figures; the numbers, places and lists of the tree fit the operands.
use Rattle.std.specs.Prelude.{◌≡◌, ℕ, ◌≤◌, List, [], ◌∷◌, length, Some, None, Option}
use Rattle.grammar.specs.Tree.{Exp, literal, simple, subscripted, prefixed, joined, bracketed, compared, Variable, whole, indexed, Element, single, progression, Statement, labelled, conditional, repeated, assigned, go, switched, input, printed, stop, sequence, Program}
use Rattle.symbols.specs.Texts.{answer, accepted}
use Rattle.meaning.specs.Positions.{statements}
use Rattle.meaning.specs.Machine.{variable_place}
use Rattle.translator.specs.Generator.{all_of}
use Rattle.translator.specs.Translation.{entries, text_depth}

-- Every number is at most 999,999,999.
abbrev pub ExpSmall : Exp → Type 0
ExpSmall (literal n p) = n ≤ 999999999
ExpSmall (simple x) = Unit {0}
ExpSmall (subscripted x e) = ExpSmall e
ExpSmall (prefixed o p e) = ExpSmall e
ExpSmall (joined o a b) = ExpSmall a × ExpSmall b
ExpSmall (bracketed p e) = ExpSmall e
ExpSmall (compared c p a b) = ExpSmall a × ExpSmall b

abbrev pub ExpsSmall : List Exp → Type 0
ExpsSmall [] = Unit {0}
ExpsSmall (e ∷ es) = ExpSmall e × ExpsSmall es

abbrev pub VariableSmall : Variable → Type 0
VariableSmall (whole x) = Unit {0}
VariableSmall (indexed x i) = ExpSmall i

abbrev pub ElementSmall : Element → Type 0
ElementSmall (single e) = ExpSmall e
ElementSmall (progression a s b) = ExpSmall a × ExpSmall s × ExpSmall b

abbrev pub ElementsSmall : List Element → Type 0
ElementsSmall [] = Unit {0}
ElementsSmall (e ∷ es) = ElementSmall e × ElementsSmall es

-- Every statement's place is at most 8,191, and a for has at most 2,048 elements.
abbrev pub Small : Statement → Type 0
Small (labelled l s) = Small s
Small (conditional p e s) = (p ≤ 8191) × ExpSmall e × Small s
Small (repeated p x es s) = (p ≤ 8191) × (length (all_of es) ≤ 2048) × ElementsSmall (all_of es) × Small s
Small (assigned v e) = (variable_place v ≤ 8191) × VariableSmall v × ExpSmall e
Small (go p l) = p ≤ 8191
Small (switched p x e) = (p ≤ 8191) × ExpSmall e
Small (input p v) = (p ≤ 8191) × VariableSmall v
Small (printed p es) = (p ≤ 8191) × ExpsSmall (all_of es)
Small (stop p) = p ≤ 8191
Small (sequence s t) = Small s × Small t

abbrev pub TextSmall : Option Statement → Type 0
TextSmall None = Unit {0}
TextSmall (Some s) = Small s

pub record Limits (t : Program) : Type 0 where
  pub few_operations : length (entries t) ≤ 4096
  pub shallow : text_depth (statements t) ≤ 256
  pub small : TextSmall (statements t)

-- Every accepted text keeps them.
abbrev pub LimitsLaw : Type 0
LimitsLaw = (text : List ℕ) (t : Program) → answer text ≡ accepted t → Limits t
