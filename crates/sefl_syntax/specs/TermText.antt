-- The canonical texts of addresses, targets, expressions and conditions.
use Rattle.std.specs.Prelude.{ℕ, ℤ, pos, int_lt, ◌==◌, List, [], ◌∷◌, ◌++◌, Bool, true, false, Option, None, Some, if◌then◌else◌, codes, decimal}
use Rattle.std.specs.Fmt.{signed_decimal}
use Rattle.sn_width.specs.Rel.{sign_of}
use Rattle.sefl_syntax.specs.declared.reference.Scope.{Scope}
use Rattle.sefl_syntax.specs.declared.reference.Scope.TheVariants.{Global, Local}
use Rattle.sefl_syntax.specs.declared.reference.Addr.{Addr}
use Rattle.sefl_syntax.specs.declared.reference.Target.{Target}
use Rattle.sefl_syntax.specs.declared.reference.Target.TheVariants.{Header, Meta, Bound}
use Rattle.sefl_syntax.specs.declared.expr.Sign.{Sign}
use Rattle.sefl_syntax.specs.declared.expr.Sign.TheVariants.{Plus, Minus}
use Rattle.sefl_syntax.specs.declared.cond.Joint.{Joint}
use Rattle.sefl_syntax.specs.declared.cond.Joint.TheVariants.{All, Any}
use Rattle.sefl_syntax.specs.Trees.{ExprTree, constant, reading, sum, SummandTrees, no_summands, summand, CondTree, always, compare, member, all_of, any_of, negation, CondTrees, no_conds, cond_and}

-- a tag, and the sign before an offset; a negative offset brings its own sign
abbrev pub tag_text : Option (List ℕ) → ℤ → List ℕ
tag_text None offset = []
tag_text (Some tag) offset = if int_lt offset (pos 0) then tag else (tag ++ codes "+")

-- an address: an offset in bits, from a tag where there is one
unfoldable pub addr_text : Addr → List ℕ
addr_text addr = tag_text addr.tag addr.offset ++ signed_decimal addr.offset

abbrev pub scope_text : Scope → List ℕ
scope_text Global = codes "global"
scope_text Local = codes "local"

unfoldable pub target_text : Target → List ℕ
target_text (Header addr width) = codes "head " ++ addr_text addr ++ codes ":" ++ decimal width
target_text (Meta scope name width) = scope_text scope ++ codes " " ++ name ++ codes ":" ++ decimal width
target_text (Bound var width) = codes "$" ++ var ++ codes ":" ++ decimal width

abbrev pub sign_text : Sign → List ℕ
sign_text Plus = codes "+"
sign_text Minus = codes "-"

abbrev mutual
  pub expr_text : ExprTree → List ℕ
  expr_text (constant n) = decimal n
  expr_text (reading target) = target_text target
  expr_text (sum first rest) = operand_text first ++ summands_text rest

  -- an operand of a sum that is a sum is in parentheses
  pub operand_text : ExprTree → List ℕ
  operand_text (constant n) = decimal n
  operand_text (reading target) = target_text target
  operand_text (sum first rest) = codes "(" ++ (operand_text first ++ summands_text rest) ++ codes ")"

  pub summands_text : SummandTrees → List ℕ
  summands_text no_summands = []
  summands_text (summand sign e rest) = codes " " ++ sign_text sign ++ codes " " ++ operand_text e ++ summands_text rest

-- a range of one number is written as that number
unfoldable pub range_text : ℕ × ℕ → List ℕ
range_text range = if range.0 == range.1 then decimal range.0 else (decimal range.0 ++ codes ".." ++ decimal range.1)

-- each range with a comma before it
abbrev pub more_ranges_text : List (ℕ × ℕ) → List ℕ
more_ranges_text [] = []
more_ranges_text (range ∷ ranges) = codes ", " ++ range_text range ++ more_ranges_text ranges

-- ranges with commas between them
abbrev pub ranges_text : List (ℕ × ℕ) → List ℕ
ranges_text [] = []
ranges_text (range ∷ ranges) = range_text range ++ more_ranges_text ranges

abbrev pub joint_text : Joint → List ℕ
joint_text All = codes " and "
joint_text Any = codes " or "

-- what would be read as a part of the chain that it stands in
abbrev pub needs_brackets : Joint → CondTree → Bool
needs_brackets All (all_of members) = true
needs_brackets All (any_of members) = true
needs_brackets Any (any_of members) = true
needs_brackets joint _ = false

abbrev pub bracketed : Bool → List ℕ → List ℕ
bracketed true text = codes "[" ++ text ++ codes "]"
bracketed false text = text

abbrev mutual
  pub cond_text : CondTree → List ℕ
  cond_text always = codes "true"
  cond_text (compare rel left right) = expr_text left ++ codes " " ++ sign_of rel ++ codes " " ++ expr_text right
  cond_text (member value ranges) = expr_text value ++ codes " in {" ++ ranges_text ranges ++ codes "}"
  cond_text (all_of members) = chain_text All members
  cond_text (any_of members) = chain_text Any members
  cond_text (negation c) = codes "not " ++ bracketed (needs_brackets All c) (cond_text c)

  -- the members of a chain
  pub chain_text : Joint → CondTrees → List ℕ
  chain_text joint no_conds = []
  chain_text joint (cond_and c cs) = bracketed (needs_brackets joint c) (cond_text c) ++ more_conds_text joint cs

  -- each member with the word before it
  pub more_conds_text : Joint → CondTrees → List ℕ
  more_conds_text joint no_conds = []
  more_conds_text joint (cond_and c cs) =
      joint_text joint ++ bracketed (needs_brackets joint c) (cond_text c) ++ more_conds_text joint cs
