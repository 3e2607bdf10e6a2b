-- What a stack's fields are seen as.
use Rattle.std.specs.Prelude.{List, [], ◌∷◌, Option, Some, None}
use Rattle.std.specs.declared.alloc.Global.{Global}
use Rattle.std.specs.declared.rc.Rc.{Rc}
use Rattle.sn_tree.specs.declared.shared.Member.{Member}

-- the members, the newest first
abbrev pub members : {T : Type 0} → Option (Rc (Member T) Global) → List T
members None = []
members (Some m) = m.value.value ∷ m.value.below
