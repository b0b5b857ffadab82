-- What the methods promise that take a word which has to come, or open a level.
use Rattle.std.specs.Prelude.{◌≡◌, ℕ, suc, Bool, true, false, List, length, Some, None, Option, Ok, Err, Result}
use Rattle.words.specs.declared.token.Mark.{Mark}
use Rattle.words.specs.declared.token.Keyword.{Keyword}
use Rattle.words.specs.Token.{Token, Word}
use Rattle.grammar.specs.declared.refusal.SentenceRefusal.{SentenceRefusal}
use Rattle.grammar.specs.declared.refusal.SentenceRefusal.TheVariants.{Unexpected, TooDeep}
use Rattle.grammar.specs.Classes.{heads, found, Class, Content, the_mark, a_name, is_keyword}
use Rattle.parser.specs.declared.refusal.Refusal.{Refusal}
use Rattle.parser.specs.declared.table.Parser.{Parser}
use Rattle.parser.specs.Records.{ahead}
use Rattle.parser.specs.Promises.{instead, place_of, Took}

-- Is it this reserved word?
abbrev pub is_that : Keyword → Option Keyword → Bool
is_that k None = false
is_that k (Some j) = is_keyword k j

-- The next word is of the class, with this content, and was taken.
pub record Expected (c : Class) (x : Content c) (r s : Parser) : Type 0 where
  pub is : heads c (ahead r) ≡ Some x
  pub took : Took true r s

-- The refusal is told at the next word, or at the text's end.
pub record RefusedAt (why : SentenceRefusal) (r : Parser) (e : Refusal) : Type 0 where
  pub reason : e.reason ≡ why
  pub place : e.place ≡ place_of (length r.text.now) (ahead r)

-- The next word is not of the class.
pub record Missed (c : Class) (r : Parser) (e : Refusal) : Type 0 where
  pub is : heads c (ahead r) ≡ None
  pub refused : RefusedAt Unexpected r e

-- What the code learns from a word is what the class has of it.
abbrev pub Finds : (c : Class) {A : Type 0} → (A → Content c) → Token → Option A → Type 0
Finds c f t (Some x) = found c t ≡ Some (f x)
Finds c f t None = found c t ≡ None

-- The same of the next word.
abbrev pub Comes : (c : Class) {A : Type 0} → (A → Content c) → List Word → Option A → Type 0
Comes c f ws (Some x) = heads c ws ≡ Some (f x)
Comes c f ws None = heads c ws ≡ None

-- The next word is not of the class, and was left.
pub record NotTaken (c : Class) (r s : Parser) : Type 0 where
  pub is : heads c (ahead r) ≡ None
  pub took : Took false r s

-- The next word was taken if it is of the class.
abbrev pub Takes : (c : Class) {A : Type 0} → (A → Content c) → Parser → Parser → Option A → Type 0
Takes c f r s (Some x) = Expected c (f x) r s
Takes c f r s None = NotTaken c r s

-- The next word was taken, or it is not of the class and that is refused.
abbrev pub Expects : (c : Class) {A : Type 0} → (A → Content c) → Parser → Parser → Result A Refusal → Type 0
Expects c f r s (Ok x) = Expected c (f x) r s
Expects c f r s (Err e) = Missed c r e

-- The next word is a name, and was taken.
pub record NameExpected (r s : Parser) (w : ℕ) : Type 0 where
  pub is : Some w ≡ instead r.at (heads a_name (ahead r))
  pub took : Took true r s

abbrev pub ExpectsName : Parser → Parser → Result ℕ Refusal → Type 0
ExpectsName r s (Ok w) = NameExpected r s w
ExpectsName r s (Err e) = Missed a_name r e

-- The next word was taken, and behind it there are so many levels left.
pub record Opened (levels : ℕ) (r s : Parser) (inner : ℕ) : Type 0 where
  pub level : suc inner ≡ levels
  pub took : Took true r s

-- No level is left.
pub record IsTooDeep (levels : ℕ) (r : Parser) (e : Refusal) : Type 0 where
  pub none : levels ≡ 0
  pub refused : RefusedAt TooDeep r e

abbrev pub Opens : ℕ → Parser → Parser → Result ℕ Refusal → Type 0
Opens levels r s (Ok inner) = Opened levels r s inner
Opens levels r s (Err e) = IsTooDeep levels r e

-- The bracket does not come, or it does and no level is left.
pub data Unopened (m : Mark) (levels : ℕ) (r : Parser) (e : Refusal) : Type 0 where
  missing : Missed (the_mark m) r e → Unopened m levels r e
  too_deep : heads (the_mark m) (ahead r) ≡ Some tt → IsTooDeep levels r e → Unopened m levels r e

abbrev pub OpensMark : Mark → ℕ → Parser → Parser → Result ℕ Refusal → Type 0
OpensMark m levels r s (Ok inner) = (heads (the_mark m) (ahead r) ≡ Some tt) × Opened levels r s inner
OpensMark m levels r s (Err e) = Unopened m levels r e
