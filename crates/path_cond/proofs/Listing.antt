-- The coupled symbols are symbols of the condition.
use Rattle.std.proofs.Common.{◌≡◌, ℕ, zero, suc, ◌+◌, ◌<◌, Bool, true, false, cond, List, ◌∷◌, length, refl, arith}
use Rattle.std.specs.List.{All}
use Rattle.sn_width.specs.declared.ids.SymId.{SymId}
use Rattle.path_formula.specs.declared.kinds.Kind.{Kind}
use Rattle.path_formula.specs.declared.kinds.Kind.TheVariants.{Constant, Simple, Inside, Outside}
use Rattle.path_cond.specs.Conditions.{Condition}
use Rattle.path_cond.specs.Coupled.{symbol_at, symbols_from, is_inside_kind, is_coupled, coupled_symbols}

-- a kind that is inside
pub inside_kind : (k : Kind) → is_inside_kind k ≡ true → k ≡ Inside
inside_kind (Constant truth) h = cc
inside_kind (Simple s) h = cc
inside_kind Inside h = refl
inside_kind Outside h = cc

all_more : (n : ℕ) (s : SymId) (rest : List SymId) → s.0 < n → All (λ (r : SymId). r.0 < n) rest → All (λ (r : SymId). r.0 < n) (s ∷ rest)
all_more n s rest lt h zero d less = lt
all_more n s rest lt h (suc k) d less = h k d (omega arith)

below_by : (n place : ℕ) (rest : List SymId) (on : Bool) → place < n → All (λ (s : SymId). s.0 < n) rest → All (λ (s : SymId). s.0 < n) (cond on (symbol_at place ∷ rest) rest)
below_by n place rest true lt h = all_more n (symbol_at place) rest lt h
below_by n place rest false lt h = h

below : (test : SymId → Bool) (n place k : ℕ) → place + k ≡ n → All (λ (s : SymId). s.0 < n) (symbols_from test place k)
below test n place zero e = λ k d less. absurd (omega arith)
below test n place (suc k) e = below_by n place (symbols_from test (suc place) k) (test (symbol_at place)) (omega arith) (below test n (suc place) k (omega arith))

-- the coupled symbols are symbols of the condition
pub coupled_known : (c : Condition) → All (λ (s : SymId). s.0 < length c.widths) (coupled_symbols c)
coupled_known c = below (is_coupled c) (length c.widths) 0 (length c.widths) (omega arith)
