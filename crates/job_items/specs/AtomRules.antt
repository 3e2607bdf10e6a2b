-- What may be wrong with one atom.
use Rattle.std.specs.Prelude.{ℕ, Bool, false, not, ◌||◌, ◌==◌, nat_lt, bytes_eq, List, [], ◌∷◌, length, ◌+◌}
use Rattle.std.specs.List.{list_any, list_all}
use Rattle.sn_width.specs.Width.{max_value}
use Rattle.sefl_syntax.specs.declared.reference.Target.{Target}
use Rattle.sefl_syntax.specs.declared.reference.Target.TheVariants.{Header, Meta, Bound}
pub use Rattle.sefl_syntax.specs.Widths.{width_of}
use Rattle.job_items.specs.Atoms.{Atom}

-- the width of the first reference, and 64 bits where there is none
abbrev pub common_width : List Target → ℕ
common_width [] = 64
common_width (target ∷ targets) = width_of target

abbrev pub atom_width : Atom → ℕ
atom_width a = common_width a.reads

-- the references differ in width
abbrev pub is_mixed : Atom → Bool
is_mixed a = not (list_all (λ target. width_of target == atom_width a) a.reads)

abbrev pub exceeds : ℕ → ℕ → Bool
exceeds width n = nat_lt (max_value width) n

abbrev pub end_exceeds : ℕ → ℕ × ℕ → Bool
end_exceeds width range = exceeds width range.0 || exceeds width range.1

-- a constant or an end of a range exceeds the atom's width
abbrev pub is_too_wide : Atom → Bool
is_too_wide a = list_any (exceeds (atom_width a)) a.constants || list_any (end_exceeds (atom_width a)) a.ranges

-- the first number of a range exceeds its second
abbrev pub is_reversed : Atom → Bool
is_reversed a = list_any (λ range. nat_lt range.1 range.0) a.ranges

-- none of these Fors has the variable of the reference
abbrev pub is_loose : List (List ℕ) → Target → Bool
is_loose vars (Header addr width) = false
is_loose vars (Meta scope name width) = false
is_loose vars (Bound var width) = not (list_any (bytes_eq var) vars)

abbrev pub has_loose : List (List ℕ) → Atom → Bool
has_loose vars a = list_any (is_loose vars) a.reads

-- the metadata name that a reference has
abbrev pub meta_name : Target → List (List ℕ)
meta_name (Header addr width) = []
meta_name (Meta scope name width) = name ∷ []
meta_name (Bound var width) = []

-- how many ranges these atoms have
abbrev pub ranges_in : List Atom → ℕ
ranges_in [] = 0
ranges_in (a ∷ atoms) = length a.ranges + ranges_in atoms
