-- When the bounds of one of the cases of a formula are met.
use Rattle.std.proofs.Common.{◌≡◌, ℕ, ◌+◌, ◌-◌, ◌%◌, ◌^◌, ◌<◌, ◌≤◌, ℤ, pos, ◌+ℤ◌, ◌-ℤ◌, Bool, true, false, not, cond, ◌&&◌, ◌||◌, nat_le, nat_lt, nat_eq, List, [], ◌∷◌, inl, inr, map, Some, None, refl, sym, ap, ap₂, ◌∙◌, subst, arith}
use Rattle.std.specs.Prelude.{int_le, int_lt, slice_index, option_to_list}
use Rattle.std.specs.List.{list_any}
use Rattle.std.proofs.Math.Nat.{mod-eq_of_lt, mod-add-mod, add-mod_right}
use Rattle.std.proofs.lemmas.Bool.Decides.{nat_tests}
use Rattle.std.proofs.lemmas.List.Folds.{list_all-append, list_any-append}
use Rattle.std.proofs.lemmas.Nat.{pow_pos, mod_below}
use Rattle.sn_width.specs.Rel.{relates}
use Rattle.sn_width.specs.Width.{FitsWidth}
use Rattle.sn_width.specs.declared.ids.SymId.{SymId}
use Rattle.sn_width.specs.declared.rel.Rel.{Rel}
use Rattle.sn_width.specs.declared.rel.Rel.TheVariants.{Eq, Ne, Lt, Le, Gt, Ge}
use Rattle.lin_term.specs.Terms.{LinearTerm, value_at}
use Rattle.sn_ranges.specs.Ranges.{Range, RangeSet, in_range, is_member}
use Rattle.path_formula.specs.Atoms.{comparison_kind, kind_by_shapes, membership_kind, kind_by_shape}
use Rattle.path_formula.specs.Formulas.{FormulaTree, always, compared, belongs, all_of, any_of, opposite, Formulas, no_formulas, formula, truth_at}
use Rattle.path_formula.specs.Kinds.{is_kind_on}
use Rattle.path_formula.specs.Solutions.{agrees, alone, all_agree, any_agrees}
use Rattle.path_formula.specs.Terms.{shape_of, same_term}
use Rattle.path_formula.specs.Typed.{PartsAreTyped, TermIsTyped, IsTyped, AreTyped}
use Rattle.path_formula.specs.declared.atom.AtomKind.{AtomKind}
use Rattle.path_formula.specs.declared.atom.AtomKind.TheVariants.{Constant, Single, Pair, Outside}
use Rattle.path_formula.specs.declared.atom.Shape.{Shape}
use Rattle.path_formula.specs.declared.atom.Shape.TheVariants.{Number, Symbol, Other}
use Rattle.path_formula.proofs.Shapes.{shape_by_parts-Symbol, value_at-Symbol, slice_index-alone, comparison_kind-Single, membership_kind-Single}
use Rattle.path_formula.proofs.Solving.{all_agree-true, all_agree-false, any_agrees-true, any_agrees-false}
use Rattle.path_formula.proofs.Truths.{truth_at-on, comparison-fixed, membership-fixed}
use Rattle.path_formula.specs.Bounds.{Case, is_met, is_case_met, is_one_met, AreValues}
use Rattle.path_formula.specs.Cases.{with_bounds, joined, constant_cases, range_case, single_cases, relation_with, cases_by_shapes, atom_cases, cases_of, cases_of_all, cases_of_any}
use Rattle.path_formula.specs.Pairs.{upper, lower, both_regions, regions_of, list_of, weak_bound, strict_bound, relation_cases, in_regions, region_cases, row_cases, pair_cases}
use Rattle.sn_ranges.specs.Sets.{ranges_where}
use Rattle.path_formula.specs.Splits.{AtomCanSplit, CanSplit, EachCanSplit}
use Rattle.path_formula.specs.declared.pairs.Region.{Region}
use Rattle.path_formula.proofs.Integers.{lower_met, upper_met, weak_met, strict_met, low_met, high_met, low_value, high_value, int_relates, int_relates-pos}
use Rattle.sn_ranges.proofs.TestSets.{ranges_where-member}

-- Tests

and_all : (a : Bool) → a && true ≡ a
and_all true = refl
and_all false = refl

or_none : (a : Bool) → a || false ≡ a
or_none true = refl
or_none false = refl

and_regroup : (a b c : Bool) → (a && b) && c ≡ a && (b && c)
and_regroup true b c = refl
and_regroup false b c = refl

or_regroup : (a b c : Bool) → (a || b) || c ≡ a || (b || c)
or_regroup true b c = refl
or_regroup false b c = refl

and_none : (a : Bool) → a && false ≡ false
and_none true = refl
and_none false = refl

and_or : (a b c : Bool) → (a && b) || (a && c) ≡ a && (b || c)
and_or true b c = refl
and_or false b c = refl

or_and : (a b c : Bool) → (a && c) || (b && c) ≡ (a || b) && c
or_and true true true = refl
or_and true true false = refl
or_and true false c = or_none c
or_and false b c = refl

-- Lists of cases

pub met_with : (vs : List ℕ) (cases : List Case) (bounds : Case) → is_one_met vs (with_bounds cases bounds) ≡ (is_case_met vs bounds && is_one_met vs cases)
met_with vs [] bounds = sym (and_none (is_case_met vs bounds))
met_with vs (c ∷ cases) bounds =
    ap₂ ◌||◌ (list_all-append (is_met vs) bounds c) (met_with vs cases bounds) ∙ and_or (is_case_met vs bounds) (is_case_met vs c) (is_one_met vs cases)

pub met_joined : (vs : List ℕ) (xs ys : List Case) → is_one_met vs (joined xs ys) ≡ (is_one_met vs xs && is_one_met vs ys)
met_joined vs [] ys = refl
met_joined vs (x ∷ xs) ys =
    list_any-append (is_case_met vs) (with_bounds ys x) (joined xs ys) ∙ ap₂ ◌||◌ (met_with vs ys x) (met_joined vs xs ys) ∙ or_and (is_case_met vs x) (is_one_met vs xs) (is_one_met vs ys)

met_constant : (vs : List ℕ) (truth : Bool) → is_one_met vs (constant_cases truth) ≡ truth
met_constant vs true = refl
met_constant vs false = refl

-- Singles

met_range : (vs : List ℕ) (s : SymId) (r : Range) → is_case_met vs (range_case s r) ≡ in_range r (slice_index vs s.0)
unfolding in_range
met_range vs s r = ap₂ ◌&&◌ (lower_met (slice_index vs s.0) r.0) (and_all (int_le (pos (slice_index vs s.0) -ℤ pos 0) (pos r.1)) ∙ upper_met (slice_index vs s.0) r.1)

met_ranges : (vs : List ℕ) (s : SymId) (ranges : List Range) → is_one_met vs (map (range_case s) ranges) ≡ is_member ranges (slice_index vs s.0)
unfolding is_member
met_ranges vs s [] = refl
met_ranges vs s (r ∷ ranges) = ap₂ ◌||◌ (met_range vs s r) (met_ranges vs s ranges)

fits_first : (x n : ℕ) (b : Bool) → x < n → (nat_lt x n && b) ≡ b
fits_first x n b h = grind (arith, nat_tests)

pub met_single : (vs : List ℕ) (s : SymId) (w : ℕ) (test : ℕ → Bool) → FitsWidth w (slice_index vs s.0) → is_one_met vs (single_cases s w test) ≡ test (slice_index vs s.0)
met_single vs s w test fits =
    met_ranges vs s (ranges_where w test) ∙ ranges_where-member w test (slice_index vs s.0) ∙ fits_first (slice_index vs s.0) (2 ^ w) (test (slice_index vs s.0)) fits

-- Pairs

-- the value in a region
abbrev value_in : List ℕ → Region → ℤ
value_in vs p = pos (slice_index vs p.symbol.0) +ℤ p.offset

-- the values are those of the region
abbrev is_in : List ℕ → Region → Bool
is_in vs p = is_case_met vs (option_to_list p.bound)

met_weak : (vs : List ℕ) (p q : Region) → is_met vs (weak_bound p q) ≡ int_le (value_in vs p) (value_in vs q)
unfolding weak_bound
met_weak vs p q = weak_met (slice_index vs p.symbol.0) (slice_index vs q.symbol.0) p.offset q.offset

met_strict : (vs : List ℕ) (p q : Region) → is_met vs (strict_bound p q) ≡ int_lt (value_in vs p) (value_in vs q)
unfolding strict_bound
met_strict vs p q = strict_met (slice_index vs p.symbol.0) (slice_index vs q.symbol.0) p.offset q.offset

one_bound : (a : Bool) → (a && true) || false ≡ a
one_bound true = refl
one_bound false = refl

two_bounds : (a b : Bool) → (a && (b && true)) || false ≡ a && b
two_bounds true true = refl
two_bounds true false = refl
two_bounds false b = refl

two_cases : (a b : Bool) → (a && true) || ((b && true) || false) ≡ a || b
two_cases true b = refl
two_cases false true = refl
two_cases false false = refl

met_relation : (vs : List ℕ) (rel : Rel) (p q : Region) → is_one_met vs (relation_cases rel p q) ≡ int_relates rel (value_in vs p) (value_in vs q)
met_relation vs Lt p q = one_bound (is_met vs (strict_bound p q)) ∙ met_strict vs p q
met_relation vs Le p q = one_bound (is_met vs (weak_bound p q)) ∙ met_weak vs p q
met_relation vs Gt p q = one_bound (is_met vs (strict_bound q p)) ∙ met_strict vs q p
met_relation vs Ge p q = one_bound (is_met vs (weak_bound q p)) ∙ met_weak vs q p
met_relation vs Eq p q = two_bounds (is_met vs (weak_bound p q)) (is_met vs (weak_bound q p)) ∙ ap₂ ◌&&◌ (met_weak vs p q) (met_weak vs q p)
met_relation vs Ne p q = two_cases (is_met vs (strict_bound p q)) (is_met vs (strict_bound q p)) ∙ ap₂ ◌||◌ (met_strict vs p q) (met_strict vs q p)

in_regions-with : (p q : Region) (cases : List Case) → map (in_regions p q) cases ≡ with_bounds (with_bounds cases (option_to_list q.bound)) (option_to_list p.bound)
in_regions-with p q [] = refl
in_regions-with p q (c ∷ cases) = ap (λ xs. in_regions p q c ∷ xs) (in_regions-with p q cases)

met_region : (vs : List ℕ) (rel : Rel) (p q : Region) → is_one_met vs (region_cases rel p q) ≡ (is_in vs p && (is_in vs q && int_relates rel (value_in vs p) (value_in vs q)))
met_region vs rel p q =
    ap (is_one_met vs) (in_regions-with p q (relation_cases rel p q))
    ∙ met_with vs (with_bounds (relation_cases rel p q) (option_to_list q.bound)) (option_to_list p.bound)
    ∙ ap (λ b. is_in vs p && b) (met_with vs (relation_cases rel p q) (option_to_list q.bound) ∙ ap (λ b. is_in vs q && b) (met_relation vs rel p q))

-- the values are in one of the regions, in which the value passes a test
abbrev passes_in : List ℕ → (ℤ → Bool) → List Region → Bool
passes_in vs test regions = list_any (λ (p : Region). is_in vs p && test (value_in vs p)) regions

met_row : (vs : List ℕ) (rel : Rel) (p : Region) (qs : List Region) → is_one_met vs (row_cases rel qs p) ≡ (is_in vs p && passes_in vs (int_relates rel (value_in vs p)) qs)
met_row vs rel p [] = sym (and_none (is_in vs p))
met_row vs rel p (q ∷ qs) =
    list_any-append (is_case_met vs) (region_cases rel p q) (row_cases rel qs p) ∙ ap₂ ◌||◌ (met_region vs rel p q) (met_row vs rel p qs)
    ∙ and_or (is_in vs p) (is_in vs q && int_relates rel (value_in vs p) (value_in vs q)) (passes_in vs (int_relates rel (value_in vs p)) qs)

met_rows : (vs : List ℕ) (rel : Rel) (ps qs : List Region) → is_one_met vs (pair_cases rel ps qs) ≡ passes_in vs (λ a. passes_in vs (int_relates rel a) qs) ps
met_rows vs rel [] qs = refl
met_rows vs rel (p ∷ ps) qs =
    list_any-append (is_case_met vs) (row_cases rel qs p) (pair_cases rel ps qs) ∙ ap₂ ◌||◌ (met_row vs rel p qs) (met_rows vs rel ps qs)

wrapped : (x c w : ℕ) → x < w → c < w → w ≤ c + x → (c + x) % w ≡ c + x - w
wrapped x c w fits reduced over =
    let rest : c + x ≡ (c + x - w) + w = omega arith in
    let below : c + x - w < w = omega arith in
    ap (λ n. n % w) rest ∙ add-mod_right (c + x - w) w ∙ mod-eq_of_lt below

low_passes : (a b g h v : Bool) → a ≡ true → b ≡ false → g ≡ v → ((a && true) && g) || (((b && true) && h) || false) ≡ v
low_passes a b g h v ea eb eg = ap₂ (λ x y. ((x && true) && g) || (((y && true) && h) || false)) ea eb ∙ or_none g ∙ eg

high_passes : (a b g h v : Bool) → a ≡ false → b ≡ true → h ≡ v → ((a && true) && g) || (((b && true) && h) || false) ≡ v
high_passes a b g h v ea eb eh = ap₂ (λ x y. ((x && true) && g) || (((y && true) && h) || false)) ea eb ∙ or_none h ∙ eh

below_true : (a b : ℕ) → a < b → nat_lt a b ≡ true
below_true a b h = grind (arith, nat_tests)

below_false : (a b : ℕ) → b ≤ a → nat_lt a b ≡ false
below_false a b h = grind (arith, nat_tests)

least_true : (a b : ℕ) → a ≤ b → nat_le a b ≡ true
least_true a b h = grind (arith, nat_tests)

least_false : (a b : ℕ) → b < a → nat_le a b ≡ false
least_false a b h = grind (arith, nat_tests)

-- the regions of a symbol plus a constant, which is 0 or is not
abbrev regions_by : Bool → SymId → ℕ → ℕ → List Region
regions_by zero_constant s w c =
    record { symbol = s; bound = cond zero_constant None (Some (upper s ((pos (2 ^ w) -ℤ pos c) -ℤ pos 1))); offset = pos c }
    ∷ option_to_list (cond zero_constant None (Some (record { symbol = s; bound = Some (lower s (pos c -ℤ pos (2 ^ w))); offset = pos c -ℤ pos (2 ^ w) })))

in_both : (vs : List ℕ) (test : ℤ → Bool) (s : SymId) (w c : ℕ) (b : Bool) → nat_lt (c + slice_index vs s.0) (2 ^ w) ≡ b → slice_index vs s.0 < 2 ^ w → c < 2 ^ w
    → passes_in vs test (regions_by false s w c) ≡ test (pos ((c + slice_index vs s.0) % 2 ^ w))
in_both vs test s w c true e fits reduced =
    let x = slice_index vs s.0 in
    let below : c + x < 2 ^ w = grind (arith, nat_tests) in
    low_passes (int_le (pos x -ℤ pos 0) ((pos (2 ^ w) -ℤ pos c) -ℤ pos 1)) (int_le (pos 0 -ℤ pos x) (pos c -ℤ pos (2 ^ w)))
    (test (pos x +ℤ pos c)) (test (pos x +ℤ (pos c -ℤ pos (2 ^ w)))) (test (pos ((c + x) % 2 ^ w)))
    (low_met x c (2 ^ w) reduced ∙ e)
    (high_met x c (2 ^ w) reduced ∙ least_false (2 ^ w) (c + x) below)
    (ap test (low_value x c ∙ ap pos (sym (mod-eq_of_lt below))))
in_both vs test s w c false e fits reduced =
    let x = slice_index vs s.0 in
    let over : 2 ^ w ≤ c + x = grind (arith, nat_tests) in
    high_passes (int_le (pos x -ℤ pos 0) ((pos (2 ^ w) -ℤ pos c) -ℤ pos 1)) (int_le (pos 0 -ℤ pos x) (pos c -ℤ pos (2 ^ w)))
    (test (pos x +ℤ pos c)) (test (pos x +ℤ (pos c -ℤ pos (2 ^ w)))) (test (pos ((c + x) % 2 ^ w)))
    (low_met x c (2 ^ w) reduced ∙ e)
    (high_met x c (2 ^ w) reduced ∙ least_true (2 ^ w) (c + x) over)
    (ap test (high_value x c (2 ^ w) reduced over ∙ ap pos (sym (wrapped x c (2 ^ w) fits reduced over))))

passes_by : (vs : List ℕ) (test : ℤ → Bool) (s : SymId) (w c : ℕ) (b : Bool) → nat_eq c 0 ≡ b → FitsWidth w (slice_index vs s.0) → c < 2 ^ w
    → passes_in vs test (regions_by b s w c) ≡ test (pos ((c + slice_index vs s.0) % 2 ^ w))
passes_by vs test s w c true e fits reduced =
    let none : c ≡ 0 = grind (arith, nat_tests) in
    let same : c + slice_index vs s.0 ≡ slice_index vs s.0 = omega arith in
    or_none (test (pos (slice_index vs s.0) +ℤ pos c))
    ∙ ap test (low_value (slice_index vs s.0) c ∙ ap pos (same ∙ sym (ap (λ n. n % 2 ^ w) same ∙ mod-eq_of_lt fits)))
passes_by vs test s w c false e fits reduced = in_both vs test s w c (nat_lt (c + slice_index vs s.0) (2 ^ w)) refl fits reduced

-- a symbol's values are in one region, and there the value is the sum with the constant
pub passes_both : (vs : List ℕ) (test : ℤ → Bool) (s : SymId) (w c : ℕ) → FitsWidth w (slice_index vs s.0) → c < 2 ^ w
    → passes_in vs test (list_of (both_regions s w c)) ≡ test (pos ((c + slice_index vs s.0) % 2 ^ w))
passes_both vs test s w c fits reduced = passes_by vs test s w c (nat_eq c 0) refl fits reduced

passes_term : (vs : List ℕ) (test : ℤ → Bool) (s : SymId) (t : LinearTerm) → shape_of t ≡ Symbol s → FitsWidth t.width (slice_index vs s.0)
    → passes_in vs test (list_of (regions_of s t)) ≡ test (pos (value_at t vs))
passes_term vs test s t shape fits =
    passes_both vs test s t.width (t.constant % 2 ^ t.width) fits (mod_below t.constant (2 ^ t.width) (pow_pos t.width))
    ∙ ap (λ n. test (pos n)) (mod-add-mod t.constant (2 ^ t.width) (slice_index vs s.0) ∙ sym (value_at-Symbol t s vs shape))

pub met_pair : (vs : List ℕ) (rel : Rel) (s r : SymId) (a b : LinearTerm) → shape_of a ≡ Symbol s → shape_of b ≡ Symbol r
    → FitsWidth a.width (slice_index vs s.0) → FitsWidth b.width (slice_index vs r.0)
    → is_one_met vs (pair_cases rel (list_of (regions_of s a)) (list_of (regions_of r b))) ≡ relates rel (value_at a vs) (value_at b vs)
met_pair vs rel s r a b left right fits_a fits_b =
    met_rows vs rel (list_of (regions_of s a)) (list_of (regions_of r b))
    ∙ passes_term vs (λ x. passes_in vs (int_relates rel x) (list_of (regions_of r b))) s a left fits_a
    ∙ passes_term vs (int_relates rel (pos (value_at a vs))) r b right fits_b
    ∙ int_relates-pos rel (value_at a vs) (value_at b vs)

-- Atoms

pair_shapes : (w : ℕ) (x y : Shape) → kind_by_shapes w x y ≡ Pair → (s : SymId) × (r : SymId) × (x ≡ Symbol s) × (y ≡ Symbol r)
pair_shapes w Number Number h = cc
pair_shapes w Number (Symbol r) h = cc
pair_shapes w Number Other h = cc
pair_shapes w (Symbol s) Number h = cc
pair_shapes w (Symbol s) (Symbol r) h = (s, r, refl, refl)
pair_shapes w (Symbol s) Other h = cc
pair_shapes w Other y h = cc

cond_pair : (b : Bool) (k : AtomKind) → cond b Constant k ≡ Pair → k ≡ Pair
cond_pair true k h = cc
cond_pair false k h = h

comparison_kind-Pair : (a b : LinearTerm) → comparison_kind a b ≡ Pair → (s : SymId) × (r : SymId) × (shape_of a ≡ Symbol s) × (shape_of b ≡ Symbol r)
comparison_kind-Pair a b h =
    pair_shapes a.width (shape_of a) (shape_of b) (cond_pair (same_term a b) (kind_by_shapes a.width (shape_of a) (shape_of b)) h)

-- of a typed term of the form of a symbol, the symbol's value is one of the term's width
symbol_fits : (widths vs : List ℕ) (t : LinearTerm) (s : SymId) → AreValues widths vs → TermIsTyped widths t → shape_of t ≡ Symbol s → FitsWidth t.width (slice_index vs s.0)
symbol_fits widths vs t s values typed h =
    values s.0 t.width (subst (PartsAreTyped widths t.width) (shape_by_parts-Symbol t.parts s h) typed).0

relates_with : (holds : Bool) (rel : Rel) (m n : ℕ) → relates (relation_with holds rel) m n ≡ agrees holds (relates rel m n)
relates_with true rel m n = refl
relates_with false Eq m n = refl
relates_with false Ne m n = grind (arith, nat_tests)
relates_with false Lt m n = grind (arith, nat_tests)
relates_with false Le m n = grind (arith, nat_tests)
relates_with false Gt m n = grind (arith, nat_tests)
relates_with false Ge m n = grind (arith, nat_tests)

single_is_on : (s : SymId) (k : AtomKind) → k ≡ Single s → (is_kind_on s k && true) ≡ true
single_is_on s k e =
    let self : (nat_eq s.0 s.0 && true) ≡ true = grind (arith, nat_tests) in
    ap (λ x. is_kind_on s x && true) e ∙ self

met_comparison : (widths vs : List ℕ) (rel : Rel) (a b : LinearTerm) (holds : Bool) (k : AtomKind) → comparison_kind a b ≡ k → AreValues widths vs → AtomCanSplit k a.width b.width → IsTyped widths (compared rel a b)
    → is_one_met vs (atom_cases k a.width (compared rel a b) holds (cases_by_shapes (relation_with holds rel) a b (shape_of a) (shape_of b))) ≡ agrees holds (relates rel (value_at a vs) (value_at b vs))
met_comparison widths vs rel a b holds Constant e values split typed =
    met_constant vs (agrees holds (relates rel (value_at a []) (value_at b []))) ∙ ap (agrees holds) (comparison-fixed rel a b [] vs e)
met_comparison widths vs rel a b holds (Single s) e values split typed =
    let x = slice_index vs s.0 in
    let fits : FitsWidth a.width x = elim (comparison_kind-Single a b s e) [
      | inl right ↦ subst (λ w. FitsWidth w x) (sym typed.0) (symbol_fits widths vs b s values typed.2 right.1)
      | inr left ↦ symbol_fits widths vs a s values typed.1 left.0
    ] in
    met_single vs s a.width (λ n. agrees holds (truth_at (compared rel a b) (alone s n))) fits
    ∙ ap (agrees holds) (truth_at-on s (compared rel a b) (alone s x) vs (slice_index-alone s x) (single_is_on s (comparison_kind a b) e))
met_comparison widths vs rel a b holds Pair e values split typed =
    let shapes = comparison_kind-Pair a b e in
    ap (is_one_met vs) (ap₂ (cases_by_shapes (relation_with holds rel) a b) shapes.2 shapes.3)
    ∙ met_pair vs (relation_with holds rel) shapes.0 shapes.1 a b shapes.2 shapes.3 (symbol_fits widths vs a shapes.0 values typed.1 shapes.2) (symbol_fits widths vs b shapes.1 values typed.2 shapes.3)
    ∙ relates_with holds rel (value_at a vs) (value_at b vs)
met_comparison widths vs rel a b holds Outside e values split typed = absurd split

met_membership : (widths vs : List ℕ) (t : LinearTerm) (set : RangeSet) (holds : Bool) (k : AtomKind) → membership_kind t ≡ k → (k ≡ Pair → ⊥) → AreValues widths vs → AtomCanSplit k t.width set.width → IsTyped widths (belongs t set)
    → is_one_met vs (atom_cases k t.width (belongs t set) holds []) ≡ agrees holds (is_member set.pairs (value_at t vs))
met_membership widths vs t set holds Constant e no_pair values split typed =
    met_constant vs (agrees holds (is_member set.pairs (value_at t []))) ∙ ap (agrees holds) (membership-fixed t set [] vs e)
met_membership widths vs t set holds (Single s) e no_pair values split typed =
    let x = slice_index vs s.0 in
    met_single vs s t.width (λ n. agrees holds (truth_at (belongs t set) (alone s n))) (symbol_fits widths vs t s values typed.1 (membership_kind-Single t s e))
    ∙ ap (agrees holds) (truth_at-on s (belongs t set) (alone s x) vs (slice_index-alone s x) (single_is_on s (membership_kind t) e))
met_membership widths vs t set holds Pair e no_pair values split typed = absurd (no_pair refl)
met_membership widths vs t set holds Outside e no_pair values split typed = absurd split

no_pair_by_shape : (x : Shape) → kind_by_shape x ≡ Pair → ⊥
no_pair_by_shape Number h = cc
no_pair_by_shape (Symbol s) h = cc
no_pair_by_shape Other h = cc

-- Formulas

agrees_not : (holds t : Bool) → agrees (not holds) t ≡ agrees holds (not t)
agrees_not true t = refl
agrees_not false true = refl
agrees_not false false = refl

module _ (widths vs : List ℕ) (values : AreValues widths vs) where
  mutual
    pub met_formula : (f : FormulaTree) (holds : Bool) → CanSplit f → IsTyped widths f → is_one_met vs (cases_of f holds) ≡ agrees holds (truth_at f vs)
    met_formula (always truth) holds split typed = met_constant vs (agrees holds truth)
    met_formula (compared rel a b) holds split typed = met_comparison widths vs rel a b holds (comparison_kind a b) refl values split typed
    met_formula (belongs t set) holds split typed = met_membership widths vs t set holds (membership_kind t) refl (no_pair_by_shape (shape_of t)) values split typed
    met_formula (all_of fs) true split typed = met_all fs true split typed ∙ all_agree-true fs vs
    met_formula (all_of fs) false split typed = met_any fs false split typed ∙ any_agrees-false fs vs
    met_formula (any_of fs) true split typed = met_any fs true split typed ∙ any_agrees-true fs vs
    met_formula (any_of fs) false split typed = met_all fs false split typed ∙ all_agree-false fs vs
    met_formula (opposite f) holds split typed = met_formula f (not holds) split typed ∙ agrees_not holds (truth_at f vs)

    pub met_all : (fs : Formulas) (holds : Bool) → EachCanSplit fs → AreTyped widths fs → is_one_met vs (cases_of_all fs holds) ≡ all_agree holds fs vs
    met_all no_formulas holds split typed = refl
    met_all (formula f fs) holds split typed =
        met_joined vs (cases_of f holds) (cases_of_all fs holds) ∙ ap₂ ◌&&◌ (met_formula f holds split.0 typed.0) (met_all fs holds split.1 typed.1)

    pub met_any : (fs : Formulas) (holds : Bool) → EachCanSplit fs → AreTyped widths fs → is_one_met vs (cases_of_any fs holds) ≡ any_agrees holds fs vs
    met_any no_formulas holds split typed = refl
    met_any (formula f fs) holds split typed =
        list_any-append (is_case_met vs) (cases_of f holds) (cases_of_any fs holds) ∙ ap₂ ◌||◌ (met_formula f holds split.0 typed.0) (met_any fs holds split.1 typed.1)
