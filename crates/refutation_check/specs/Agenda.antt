-- Alternatives as the checker keeps them.
use Rattle.std.specs.Prelude.{ℕ, ◌≤◌, List, [], ◌∷◌, ◌++◌, length, reverse, take}
use Rattle.std.specs.Global.{Vec}
use Rattle.path_formula.specs.Bounds.{Case}
use Rattle.path_formula.specs.declared.sym_bound.SymBound.{SymBound}
use Rattle.refutation_check.specs.declared.agenda.Agenda.{Agenda}
use Rattle.refutation_check.specs.declared.agenda.Alternative.{Alternative}

-- the bounds that are gathered where each alternative begins: the first of those gathered now, and its own
abbrev pub starts : Case → List Alternative → List Case
starts gathered [] = []
starts gathered (alternative ∷ rest) = (take alternative.kept gathered ++ alternative.case.items) ∷ starts gathered rest

-- each alternative keeps at most as many bounds as the one before it
abbrev pub AreNested : ℕ → List Alternative → Type 0
AreNested most [] = Unit {0}
AreNested most (alternative ∷ rest) = (alternative.kept ≤ most) × AreNested alternative.kept rest

-- the alternatives, the next one first; it stands at the end of the list
abbrev pub pending : Agenda → List Case
pending agenda = starts agenda.gathered.items (reverse agenda.alternatives.items)

abbrev pub IsNested : Agenda → Type 0
IsNested agenda = AreNested (length agenda.gathered.items) (reverse agenda.alternatives.items)

-- an alternative that keeps this many bounds
abbrev pub alternative_with : ℕ → Vec SymBound → Alternative
alternative_with kept case = record { kept = kept; case = case }
