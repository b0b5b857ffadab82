-- A word of a text as the grammar sees it: a name with its bytes, a number with its value, or one of the fixed words;
-- and the place of its first byte, counted from 0.
use Rattle.std.specs.Prelude.{ℕ, List}
use Rattle.words.specs.declared.token.Sign.{Sign}
use Rattle.words.specs.declared.token.Scaling.{Scaling}
use Rattle.words.specs.declared.token.Relation.{Relation}
use Rattle.words.specs.declared.token.Mark.{Mark}
use Rattle.words.specs.declared.token.Keyword.{Keyword}

pub data Token : Type 0 where
  name : List ℕ → Token
  number : ℕ → Token
  keyword : Keyword → Token
  mark : Mark → Token
  sign : Sign → Token
  scaling : Scaling → Token
  relation : Relation → Token

pub record Word : Type 0 where
  pub token : Token
  pub place : ℕ
