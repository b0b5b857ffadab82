-- The words that a reader of a report sees: the name of each operation, the reason of each refusal, and sizes in a line.
use Rattle.std.specs.Prelude.{ℕ, List, ◌++◌, Some, None, Option, codes}
use Rattle.std.specs.Fmt.{decimal}
use Rattle.code.specs.declared.operations.Operation.{Operation}
use Rattle.code.specs.declared.operations.Operation.TheVariants.{Halt, Mark, Const, Load, Store, Get, Put, Test, Round, Truth, Add, Sub, Mul, Div, Neg, Less, Same, More, Not, And, Or, Eqv, Jump, False, Table, Rows, Here, Take, TakeW, Post}
use Rattle.code.specs.declared.refusals.Refusal.{Refusal}
use Rattle.code.specs.declared.refusals.Refusal.TheVariants.{BadSizes, UnknownOperation, BadOperand, BadDepth, BadTarget, BadLast, BadLength, ShortBuffer}
use Rattle.code.specs.declared.sizes.Sizes.{Sizes}
use Rattle.code.specs.Answers.{number, told_at}

abbrev pub name : Operation → List ℕ
name Halt = codes "HALT"
name Mark = codes "MARK"
name Const = codes "CONST"
name Load = codes "LOAD"
name Store = codes "STORE"
name Get = codes "GET"
name Put = codes "PUT"
name Test = codes "TEST"
name Round = codes "ROUND"
name Truth = codes "TRUTH"
name Add = codes "ADD"
name Sub = codes "SUB"
name Mul = codes "MUL"
name Div = codes "DIV"
name Neg = codes "NEG"
name Less = codes "LESS"
name Same = codes "SAME"
name More = codes "MORE"
name Not = codes "NOT"
name And = codes "AND"
name Or = codes "OR"
name Eqv = codes "EQV"
name Jump = codes "JUMP"
name False = codes "FALSE"
name Table = codes "TABLE"
name Rows = codes "ROWS"
name Here = codes "HERE"
name Take = codes "TAKE"
name TakeW = codes "TAKEW"
name Post = codes "POST"

abbrev pub reason : Refusal → List ℕ
reason BadSizes = codes "sizes beyond their limits, or arrays shorter than n"
reason (UnknownOperation i) = codes "unknown operation"
reason (BadOperand i) = codes "operand against its rule"
reason (BadDepth i) = codes "depth under 0, over the limit, or not 0 where due"
reason (BadTarget i) = codes "jump, ROWS or place 0 against its rule"
reason (BadLast i) = codes "last operation is neither HALT nor JUMP"
reason BadLength = codes "file is not 16 + 9n bytes"
reason ShortBuffer = codes "buffer shorter than the file"

-- What an error says of a byte that is no operation's number.
abbrev pub unknown_operation : ℕ → List ℕ
unknown_operation byte = codes "no operation has number " ++ decimal byte

-- What a refusal says: its number, the operation where there is one, and its reason.
abbrev pub refusal_line : ℕ → Option ℕ → List ℕ → List ℕ
refusal_line k None why = codes "refused " ++ (decimal k ++ (codes ": " ++ why))
refusal_line k (Some place) why = codes "refused " ++ (decimal k ++ (codes " at operation " ++ (decimal place ++ (codes ": " ++ why))))

-- The same of a refusal.
abbrev pub refusal_text : Refusal → List ℕ
refusal_text e = refusal_line (number e) (told_at e) (reason e)

-- Sizes as a listing states them.
abbrev pub sizes_text : Sizes → List ℕ
sizes_text s =
    codes "n " ++ (decimal s.operations ++ (codes ", named cells " ++ (decimal s.named
    ++ (codes ", cells " ++ (decimal s.cells ++ (codes ", depth " ++ decimal s.depth))))))
