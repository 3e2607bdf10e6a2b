use Rattle.std.specs.Prelude.{ℕ, List, Bool, not, ◌==◌, nat_lt, nat_le, codes}
use Rattle.sn_width.specs.declared.rel.Rel.{Rel}
use Rattle.sn_width.specs.declared.rel.Rel.TheVariants.{Eq, Ne, Lt, Le, Gt, Ge}

-- whether the left number stands in the relation to the right one
abbrev pub relates : Rel → ℕ → ℕ → Bool
relates Eq left right = left == right
relates Ne left right = not (left == right)
relates Lt left right = nat_lt left right
relates Le left right = nat_le left right
relates Gt left right = nat_lt right left
relates Ge left right = nat_le right left

-- the sign of the relation in a text
abbrev pub sign_of : Rel → List ℕ
sign_of Eq = codes "=="
sign_of Ne = codes "!="
sign_of Lt = codes "<"
sign_of Le = codes "<="
sign_of Gt = codes ">"
sign_of Ge = codes ">="
