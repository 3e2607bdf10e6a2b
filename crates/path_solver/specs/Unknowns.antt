-- Unknowns of bounds, for the symbols of a list.
use Rattle.std.specs.Prelude.{◌≡◌, ℕ, suc, ◌==◌, Bool, List, [], ◌∷◌, map, Option, Some, None, slice_index, if◌then◌else◌}
use Rattle.std.specs.List.{list_any}
use Rattle.sn_width.specs.declared.ids.SymId.{SymId}
use Rattle.difference_solver.specs.declared.bound.Bound.{Bound}
use Rattle.path_formula.specs.Bounds.{Case}
use Rattle.path_formula.specs.declared.sym_bound.SymBound.{SymBound}

-- the symbol is one of the list
abbrev pub is_listed : List SymId → SymId → Bool
is_listed symbols s = list_any (λ r. r.0 == s.0) symbols

-- the unknown of the symbol, where that of the first of the list is this one; 0 where it is none of the list
abbrev pub unknown_from : ℕ → List SymId → SymId → ℕ
unknown_from first [] s = 0
unknown_from first (r ∷ symbols) s = if r.0 == s.0 then first else unknown_from (suc first) symbols s

-- the table has the unknown of each symbol at its place
abbrev pub IsTableOf : List SymId → List ℕ → Type 0
IsTableOf symbols table = (s : SymId) → slice_index table s.0 ≡ unknown_from 1 symbols s

-- the unknown of a symbol, counted from 1 in the order of the list, and 0 for the number zero
abbrev pub unknown_of : List SymId → Option SymId → ℕ
unknown_of symbols None = 0
unknown_of symbols (Some s) = unknown_from 1 symbols s

-- the bound, with unknowns for symbols
abbrev pub bound_of : List SymId → SymBound → Bound
bound_of symbols b = record { plus = unknown_of symbols b.plus; minus = unknown_of symbols b.minus; at_most = b.at_most }

-- a case, with unknowns for symbols
abbrev pub case_of : List SymId → Case → List Bound
case_of symbols case = map (bound_of symbols) case

-- cases, with unknowns for symbols
abbrev pub choice_of : List SymId → List Case → List (List Bound)
choice_of symbols cases = map (case_of symbols) cases
