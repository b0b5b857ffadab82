-- What the answers of the calls say: the number of each refusal, and the operation that it tells.
use Rattle.std.specs.Prelude.{ℕ, Some, None, Ok, Err, Option, Result}
use Rattle.code.specs.declared.refusals.Refusal.{Refusal}
use Rattle.code.specs.declared.refusals.Refusal.TheVariants.{BadSizes, UnknownOperation, BadOperand, BadDepth, BadTarget, BadLast, BadLength, ShortBuffer}
use Rattle.code.specs.Check.{Ruling, goes_on, breaks, Verdict, passes, refused}

abbrev pub number : Refusal → ℕ
number BadSizes = 21
number (UnknownOperation i) = 22
number (BadOperand i) = 23
number (BadDepth i) = 24
number (BadTarget i) = 25
number (BadLast i) = 26
number BadLength = 27
number ShortBuffer = 47

abbrev pub told_at : Refusal → Option ℕ
told_at BadSizes = None
told_at (UnknownOperation i) = Some i
told_at (BadOperand i) = Some i
told_at (BadDepth i) = Some i
told_at (BadTarget i) = Some i
told_at (BadLast i) = Some i
told_at BadLength = None
told_at ShortBuffer = None

-- The answer of the check, and of its look at one operation.
abbrev pub verdict_of : {X : Type 0} → Result X Refusal → Verdict
verdict_of (Ok x) = passes
verdict_of (Err e) = refused (number e) (told_at e)

abbrev pub ruling_of : Result ℕ Refusal → Ruling
ruling_of (Ok d) = goes_on d
ruling_of (Err e) = breaks (number e)
