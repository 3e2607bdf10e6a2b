-- The cases of a comparison of two symbols plus constants.
use Rattle.std.specs.Prelude.{◌≤ℤ◌, neg_ℤ, ℕ, ℤ, pos, ◌-ℤ◌, ◌^◌, ◌%◌, ◌==◌, List, [], ◌∷◌, ◌++◌, map, Option, Some, None, if◌then◌else◌, option_to_list, IfSome}
use Rattle.std.specs.List.{flat_map}
use Rattle.sn_width.specs.declared.ids.SymId.{SymId}
use Rattle.sn_width.specs.declared.rel.Rel.{Rel}
use Rattle.sn_width.specs.declared.rel.Rel.TheVariants.{Eq, Ne, Lt, Le, Gt, Ge}
use Rattle.lin_term.specs.Terms.{LinearTerm}
use Rattle.path_formula.specs.Bounds.{Case}
use Rattle.path_formula.specs.declared.sym_bound.SymBound.{SymBound}
use Rattle.path_formula.specs.declared.pairs.Region.{Region}
use Rattle.path_formula.specs.declared.pairs.Regions.{Regions}

-- the number is between -2^64 and 2^64
abbrev pub IsNear : ℤ → Type 0
IsNear number = (neg_ℤ (pos (2 ^ 64)) ≤ℤ number) × (number ≤ℤ pos (2 ^ 64))

-- the first symbol less the second is at most the number
abbrev pub difference : SymId → SymId → ℤ → SymBound
difference plus minus number = record { plus = Some plus; minus = Some minus; at_most = number }

-- the symbol is at most the number
abbrev pub upper : SymId → ℤ → SymBound
upper symbol number = record { plus = Some symbol; minus = None; at_most = number }

-- zero less the symbol is at most the number
abbrev pub lower : SymId → ℤ → SymBound
lower symbol number = record { plus = None; minus = Some symbol; at_most = number }

-- the values of a symbol for which its sum with a constant is below 2 to the width: that is all of them, where the
-- constant is 0
abbrev pub low_region : SymId → ℕ → ℕ → Region
low_region symbol width constant = record {
  symbol = symbol;
  bound = if constant == 0 then None else Some (upper symbol ((pos (2 ^ width) -ℤ pos constant) -ℤ pos 1));
  offset = pos constant;
}

-- the other values: 2 to the width is taken from their sum with the constant
abbrev pub high_region : SymId → ℕ → ℕ → Option Region
high_region symbol width constant =
    if constant == 0 then None
    else Some (record {
      symbol = symbol;
      bound = Some (lower symbol (pos constant -ℤ pos (2 ^ width)));
      offset = pos constant -ℤ pos (2 ^ width);
    })

-- the regions of a symbol plus a constant
abbrev pub both_regions : SymId → ℕ → ℕ → Regions
both_regions symbol width constant = record { low = low_region symbol width constant; high = high_region symbol width constant }

-- the regions of a symbol plus the constant of the term, modulo 2 to the width
abbrev pub regions_of : SymId → LinearTerm → Regions
regions_of symbol term = both_regions symbol term.width (term.constant % 2 ^ term.width)

-- the low region and, where there is one, the high region
abbrev pub list_of : Regions → List Region
list_of regions = regions.low ∷ option_to_list regions.high

-- the offsets are between -2^64 and 2^64
abbrev pub AreNear : Regions → Type 0
AreNear regions = IsNear regions.low.offset × IfSome regions.high (λ region. IsNear region.offset)

-- The value of a symbol in a region is the symbol plus the offset.

-- the value in the first region is at most that in the second, with the constants on the right
unfoldable pub weak_bound : Region → Region → SymBound
weak_bound p q = difference p.symbol q.symbol (q.offset -ℤ p.offset)

-- the value in the first region is below that in the second, with the constants on the right
unfoldable pub strict_bound : Region → Region → SymBound
strict_bound p q = difference p.symbol q.symbol ((q.offset -ℤ p.offset) -ℤ pos 1)

-- the relation of the values in two regions: one case, and two for `!=`
abbrev pub relation_cases : Rel → Region → Region → List Case
relation_cases Lt p q = (strict_bound p q ∷ []) ∷ []
relation_cases Le p q = (weak_bound p q ∷ []) ∷ []
relation_cases Gt p q = (strict_bound q p ∷ []) ∷ []
relation_cases Ge p q = (weak_bound q p ∷ []) ∷ []
relation_cases Eq p q = (weak_bound p q ∷ weak_bound q p ∷ []) ∷ []
relation_cases Ne p q = (strict_bound p q ∷ []) ∷ (strict_bound q p ∷ []) ∷ []

-- the bounds of the two regions, before others
abbrev pub in_regions : Region → Region → Case → Case
in_regions p q bounds = option_to_list p.bound ++ (option_to_list q.bound ++ bounds)

-- the cases with the first symbol in the one region and the second in the other
abbrev pub region_cases : Rel → Region → Region → List Case
region_cases rel p q = map (in_regions p q) (relation_cases rel p q)

-- the cases with the first symbol in this region and the second in each of these
abbrev pub row_cases : Rel → List Region → Region → List Case
row_cases rel rights p = flat_map (region_cases rel p) rights

-- the cases with the first symbol in each of these regions and the second in each of those
abbrev pub pair_cases : Rel → List Region → List Region → List Case
pair_cases rel lefts rights = flat_map (row_cases rel rights) lefts
