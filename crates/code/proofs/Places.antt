-- The operation at a place, by the byte there, and back.
use Rattle.std.proofs.Common.{◌≡◌, ℕ, zero, suc, ◌+◌, ◌<◌, ◌≤◌, Bool, true, ◌&&◌, eqb, List, [], ◌∷◌, map, length, get_or, drop, Some, None, Option, sym, refl, ap, ◌∙◌, arith}
use Rattle.std.proofs.lemmas.List.{get_or-map, get_or_past, get_or-drop, drop-map, length-map}
use Rattle.std.proofs.lemmas.Bool.{and_parts, eqb-true}
use Rattle.std.specs.Option.{option_map}
use Rattle.code.specs.declared.operations.Operation.{Operation}
use Rattle.code.specs.declared.operations.Operation.TheVariants.{Halt, Mark, Const, Load, Store, Get, Put, Test, Round, Truth, Add, Sub, Mul, Div, Neg, Less, Same, More, Not, And, Or, Eqv, Jump, False, Table, Rows, Here, Take, TakeW, Post}
use Rattle.code.specs.declared.operations.Role.{Role}
use Rattle.code.specs.declared.operations.Role.TheVariants.{End, Step, Label, Goto, Branch, Switch, JumpTable, Straight}
use Rattle.code.specs.Operations.{operation, number, role, all_operations}
use Rattle.code.specs.Codes.{operation_at, role_at}

-- Within the code it is the byte's.
pub operation_at_inside : (os : List ℕ) (i : ℕ) → i < length os → operation_at os i ≡ operation (get_or os i 0)
unfolding operation_at
operation_at_inside os i l = get_or-map operation os i 0 None l

-- Past the end there is none.
pub operation_at_past : (os : List ℕ) (i : ℕ) → length os ≤ i → operation_at os i ≡ None
unfolding operation_at
operation_at_past os i l = get_or_past (map operation os) i None (rw length-map l)

-- In the rest of the code it is the operation further on.
pub operation_at_drop : (n : ℕ) (os : List ℕ) (j : ℕ) → operation_at (drop n os) j ≡ operation_at os (n + j)
unfolding operation_at
operation_at_drop n os j = ap (λ ps. get_or ps j None) (sym (drop-map operation n os)) ∙ get_or-drop n (map operation os) j None

-- A list holds the operations of the numbers from k on.
abbrev numbered : ℕ → List Operation → Bool
numbered k [] = true
numbered k (o ∷ os) = eqb (number o) k && numbered (suc k) os

numbered_to_number : (k : ℕ) (os : List Operation) → numbered k os ≡ true → (b : ℕ) (o : Operation) → get_or (map Some os) b None ≡ Some o
    → number o ≡ k + b
numbered_to_number k [] t b o e = cc
numbered_to_number k (p ∷ ps) t zero o e =
    let q : p ≡ o = cc in
    omega (arith, eqb-true (number p) k (and_parts (eqb (number p) k) (numbered (suc k) ps) t).0, ap number q)
numbered_to_number k (p ∷ ps) t (suc b) o e =
    omega (arith, numbered_to_number (suc k) ps (and_parts (eqb (number p) k) (numbered (suc k) ps) t).1 b o e)

-- A byte's operation has the byte for its number.
pub operation_to_number : (b : ℕ) (o : Operation) → operation b ≡ Some o → number o ≡ b
unfolding operation
operation_to_number b o e = omega (arith, numbered_to_number 0 all_operations refl b o e)

-- The one operation of a role, if there is just one.
abbrev pub sole : Role → Option Operation
sole End = Some Halt
sole Step = Some Mark
sole Label = Some Here
sole Goto = Some Jump
sole Branch = Some False
sole Switch = Some Table
sole JumpTable = Some Rows
sole Straight = None

pub role_to_operation : (o p : Operation) → sole (role o) ≡ Some p → o ≡ p
role_to_operation Halt p e = cc
role_to_operation Mark p e = cc
role_to_operation Const p e = cc
role_to_operation Load p e = cc
role_to_operation Store p e = cc
role_to_operation Get p e = cc
role_to_operation Put p e = cc
role_to_operation Test p e = cc
role_to_operation Round p e = cc
role_to_operation Truth p e = cc
role_to_operation Add p e = cc
role_to_operation Sub p e = cc
role_to_operation Mul p e = cc
role_to_operation Div p e = cc
role_to_operation Neg p e = cc
role_to_operation Less p e = cc
role_to_operation Same p e = cc
role_to_operation More p e = cc
role_to_operation Not p e = cc
role_to_operation And p e = cc
role_to_operation Or p e = cc
role_to_operation Eqv p e = cc
role_to_operation Jump p e = cc
role_to_operation False p e = cc
role_to_operation Table p e = cc
role_to_operation Rows p e = cc
role_to_operation Here p e = cc
role_to_operation Take p e = cc
role_to_operation TakeW p e = cc
role_to_operation Post p e = cc

-- Where a role has one operation, that one stands at the place.
pub role_at_to_operation_at : (os : List ℕ) (i : ℕ) (r : Role) (p : Operation) → role_at os i ≡ Some r → sole r ≡ Some p
    → operation_at os i ≡ Some p
role_at_to_operation_at os i r p e q = go (operation_at os i) e
  where
    go : (o : Option Operation) → option_map role o ≡ Some r → o ≡ Some p
    go None h = cc
    go (Some o) h =
        let k : role o ≡ r = cc in
        ap Some (role_to_operation o p (ap sole k ∙ q))
