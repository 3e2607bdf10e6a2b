-- What domains decide.
use Rattle.std.proofs.Common.{◌≡◌, ℕ, zero, suc, ◌+◌, ◌<◌, Bool, true, false, cond, not, ◌&&◌, List, [], ◌∷◌, ◌++◌, length, Option, Some, None, inl, inr, refl, sym, ap, ◌∙◌, subst, arith, nat_eq, nat_lt, ◌↔◌}
use Rattle.std.specs.Prelude.{slice_get, slice_index, ◌^◌}
use Rattle.std.specs.List.{list_all, position_from}
use Rattle.std.proofs.lemmas.Bool.{lt-ltb, ltb-true, le-leb, eq-eqb, eqb-true, cases_lt}
use Rattle.std.proofs.lemmas.Option.{slice_get_within, slice_get-get_or}
use Rattle.std.proofs.Math.ListN.{get_or-append}
use Rattle.std.proofs.Math.Seq.{get_or-append_seam}
use Rattle.sn_ranges.specs.Ranges.{Range, RangeSet, IsCanonical, IsLeast, in_range, is_member, fits_width}
use Rattle.sn_width.specs.declared.ids.SymId.{SymId}
use Rattle.path_formula.specs.Formulas.{FormulaTree, truth_at}
use Rattle.path_formula.specs.Kinds.{kind_of}
use Rattle.path_formula.specs.Solutions.{agrees, alone}
use Rattle.path_formula.specs.View.{view}
use Rattle.path_formula.specs.declared.kinds.Kind.{Kind}
use Rattle.path_formula.specs.declared.kinds.Kind.TheVariants.{Constant, Simple, Inside, Outside}
use Rattle.path_cond.specs.Conditions.{Condition, Entry, meets, entry_holds, is_entry_on, is_simple_on, is_broken, is_broken_kind, first_broken, holds_at, in_domain, is_possible}
use Rattle.interval_solver.specs.Domains.{IsDomainOf, AreDomainsOf, first_empty}
use Rattle.path_formula.specs.Typed.{AreValues}
use Rattle.interval_solver.specs.Verdicts.{IsLeastPossible, AreLeastOfFirst, AreLeastValues, IsFirstWithoutValue, IsWithoutValue, IsVerdictOn, is_refuting, is_false, is_empty_verdict, is_settled, holds_if_settled}
use Rattle.interval_solver.specs.declared.decide.SimpleVerdict.{SimpleVerdict}
use Rattle.interval_solver.specs.declared.decide.SimpleVerdict.TheVariants.{Values, False, Empty}
use Rattle.interval_solver.proofs.Firsts.{IsFirstAt, filled}
use Rattle.interval_solver.proofs.Meeting.{no_members, length_more}

and_second : (a b : Bool) → a && b ≡ true → b ≡ true
and_second true b h = h
and_second false b h = cc

and_first : (a b : Bool) → a && b ≡ true → a ≡ true
and_first true b h = refl
and_first false b h = h

both_true : (a b : Bool) → a ≡ true → b ≡ true → a && b ≡ true
both_true true b h k = k
both_true false b h k = h

not_true : (b : Bool) → (b ≡ true → ⊥) → b ≡ false
not_true true h = absurd (h refl)
not_true false h = refl

-- members of a domain are the possible values
possible : (path : Condition) (s : SymId) (set : RangeSet) (x : ℕ) → IsDomainOf path s set → is_member set.pairs x ≡ true → is_possible path s x ≡ true
possible path s set x d m = sym (d.members x) ∙ m

member : (path : Condition) (s : SymId) (set : RangeSet) (x : ℕ) → IsDomainOf path s set → is_possible path s x ≡ true → is_member set.pairs x ≡ true
member path s set x d p = d.members x ∙ p

least_possible : (path : Condition) (s : SymId) (set : RangeSet) (x : ℕ) → IsDomainOf path s set → IsLeast set.pairs x → IsLeastPossible path s x
least_possible path s set x d h = record {
  possible = possible path s set x d h.member;
  least = λ other p. h.least other (member path s set other d p);
}

-- a set with a range has a member
filled_member : (width : ℕ) (pairs : List Range) → IsCanonical width pairs → nat_eq (length pairs) 0 ≡ false → (x : ℕ) × (is_member pairs x ≡ true)
unfolding is_member in_range
filled_member width [] h off = cc
filled_member width (r ∷ pairs) h off =
    let ordered = h.ascending.1 in
    (r.0, rw (le-leb r.0 r.0 (omega arith), le-leb r.0 r.1 ordered))

-- a place in a list holds something
held : {X : Type 0} (xs : List X) (i : ℕ) → i < length xs → (x : X) × (slice_get xs i ≡ Some x)
held [] i lt = absurd (omega arith)
held (x ∷ xs) zero lt = (x, refl)
held (x ∷ xs) (suc i) lt = held xs i (omega arith)

pub not_past : {X : Type 0} (xs : List X) (i : ℕ) → None ≡ slice_get xs i → i < length xs → ⊥
not_past xs i e lt = let h = (held xs i lt).1 in cc

module _ (path : Condition) (sets : List RangeSet) (d : AreDomainsOf path sets) where
  pub has_member : (s : SymId) (set : RangeSet) → first_empty sets ≡ None → slice_get sets s.0 ≡ Some set → (x : ℕ) × (is_member set.pairs x ≡ true)
  has_member s set none at = filled_member set.width set.pairs (d.domains s set at).canonical (filled sets s.0 set none at)

  -- where no domain is empty, each symbol has a possible value
  pub has_value : first_empty sets ≡ None → (s : SymId) → s.0 < length path.widths → (value : ℕ) × (is_possible path s value ≡ true)
  has_value none s known =
      let count = d.count in
      let here = held sets s.0 (omega arith) in
      let one = has_member s here.0 none here.1 in
      (one.0, possible path s here.0 one.0 (d.domains s here.0 here.1) one.1)

  pub first_without : (s : SymId) → IsFirstAt sets s.0 → IsFirstWithoutValue path s
  first_without s h =
      let within : s.0 < length sets = slice_get_within sets s.0 h.found h.at in
      let count = d.count in
      record {
        known = omega arith;
        no_value = λ x. sym ((d.domains s h.found h.at).members x) ∙ no_members h.found.pairs h.empty x;
        earlier = λ r lt.
            let here = held sets r.0 (omega arith) in
            let domain = d.domains r here.0 here.1 in
            let one = filled_member here.0.width here.0.pairs domain.canonical (h.before r.0 here.0 lt here.1) in
            (one.0, possible path r here.0 one.0 domain one.1);
      }

  -- one more least value
  pub least_more : (k : ℕ) (set : RangeSet) (value : ℕ) (values : List ℕ) → slice_get sets k ≡ Some set → IsLeast set.pairs value → AreLeastOfFirst path k values → AreLeastOfFirst path (k + 1) (values ++ value ∷ [])
  least_more k set value values at least h =
      let count = h.count_is in
      let s : SymId = record { 0 = k } in
      let new : IsLeastPossible path s value = least_possible path s set value (d.domains s set at) least in
      record {
        count_is = length_more values value ∙ ap (λ n. n + 1) h.count_is;
        each = λ r lt. elim (cases_lt r.0 k) [
          | inl below ↦ subst (IsLeastPossible path r) (sym (get_or-append values (value ∷ []) 0 r.0 (omega arith))) (h.each r below)
          | inr above ↦
              let same : k ≡ r.0 = omega arith in
              let symbol : s ≡ r = λ i. record { 0 = same i } in
              let is : slice_index (values ++ value ∷ []) r.0 ≡ value = ap (slice_index (values ++ value ∷ [])) (sym same ∙ sym h.count_is) ∙ get_or-append_seam values value [] 0 in
              subst (IsLeastPossible path r) (sym is) (subst (λ q. IsLeastPossible path q value) symbol new)
        ];
      }

-- a broken constant formula
not_broken : (b : Bool) → not b ≡ true → b ≡ false
not_broken true h = cc
not_broken false h = refl

and_false : (b : Bool) → b && false ≡ false
and_false true = refl
and_false false = refl

broken_kind : (e : Entry) (k : Kind) (values : List ℕ) → ((truth : Bool) → k ≡ Constant truth → truth_at (view e.0) values ≡ truth) → is_broken_kind e.1 k ≡ true → entry_holds values e ≡ false
broken_kind e (Constant truth) values law broken = ap (agrees e.1) (law truth refl) ∙ not_broken (agrees e.1 truth) broken
broken_kind e (Simple s) values law broken = cc
broken_kind e Inside values law broken = cc
broken_kind e Outside values law broken = cc

broken_by : (b holds rest : Bool) (n pick : ℕ) (later : Option ℕ) → (b ≡ true → holds ≡ false) → (later ≡ Some pick → rest ≡ false) → cond b (Some n) later ≡ Some pick → holds && rest ≡ false
broken_by true holds rest n pick later off more h = ap (λ v. v && rest) (off refl)
broken_by false holds rest n pick later off more h = ap (λ v. holds && v) (more h) ∙ and_false holds

broken_false : ((f : FormulaTree) (truth : Bool) (values : List ℕ) → kind_of f ≡ Constant truth → truth_at f values ≡ truth)
    → (values : List ℕ) (n pick : ℕ) (entries : List Entry) → position_from is_broken n entries ≡ Some pick → list_all (entry_holds values) entries ≡ false
broken_false law values n pick [] h = cc
broken_false law values n pick (e ∷ entries) h =
    broken_by (is_broken e) (entry_holds values e) (list_all (entry_holds values) entries) n pick (position_from is_broken (n + 1) entries)
    (λ on. broken_kind e (kind_of (view e.0)) values (λ truth is. law (view e.0) truth values is) on)
    (broken_false law values (n + 1) pick entries) h

-- a symbol without a possible value
kind_simple : (s : SymId) (k : Kind) → is_simple_on s k ≡ true → k ≡ Simple s
kind_simple s (Constant b) h = cc
kind_simple s (Simple r) h = let same : r.0 ≡ s.0 = eqb-true r.0 s.0 h in λ i. Simple (record { 0 = same i })
kind_simple s Inside h = cc
kind_simple s Outside h = cc

meets_by : (b alone_holds holds : Bool) → (b ≡ true → alone_holds ≡ holds) → holds ≡ true → cond b alone_holds true ≡ true
meets_by true alone_holds holds same h = same refl ∙ h
meets_by false alone_holds holds same h = refl

simple_meet : ((f : FormulaTree) (s : SymId) (values : List ℕ) → kind_of f ≡ Simple s → truth_at f values ≡ truth_at f (alone s (slice_index values s.0)))
    → (s : SymId) (values : List ℕ) (entries : List Entry) → list_all (entry_holds values) entries ≡ true → list_all (meets s (alone s (slice_index values s.0))) entries ≡ true
simple_meet law s values [] h = refl
simple_meet law s values (e ∷ entries) h =
    let single = alone s (slice_index values s.0) in
    both_true (meets s single e) (list_all (meets s single) entries)
    (meets_by (is_entry_on s e) (entry_holds single e) (entry_holds values e)
    (λ on. ap (agrees e.1) (sym (law (view e.0) s values (kind_simple s (kind_of (view e.0)) on))))
    (and_first (entry_holds values e) (list_all (entry_holds values) entries) h))
    (simple_meet law s values entries (and_second (entry_holds values e) (list_all (entry_holds values) entries) h))

-- what a verdict says of the condition
pub refutes : ((f : FormulaTree) (truth : Bool) (values : List ℕ) → kind_of f ≡ Constant truth → truth_at f values ≡ truth)
    → ((f : FormulaTree) (s : SymId) (values : List ℕ) → kind_of f ≡ Simple s → truth_at f values ≡ truth_at f (alone s (slice_index values s.0)))
    → (path : Condition) (verdict : SimpleVerdict) (values : List ℕ) → IsVerdictOn path verdict → is_refuting verdict ≡ true → AreValues path.widths values → holds_at path values ≡ false
refutes constant simple path (Values least) values is refuting fits = cc
refutes constant simple path (False pick) values is refuting fits = broken_false constant values 0 pick path.entries is
refutes constant simple path (Empty s picks) values is refuting fits =
    let first = is.1 in
    let value = slice_index values s.0 in
    let width = slice_index path.widths s.0 in
    not_true (holds_at path values) (λ holds.
    let fitting = lt-ltb value (2 ^ width) (fits s.0 width (slice_get-get_or path.widths s.0 0 first.known)) in
    let some = both_true (fits_width width value) (in_domain s path value) fitting (simple_meet simple s values path.entries holds) in
    let none = first.no_value value in cc)

-- the least values give each settled formula the truth that it must have
not_false : (b : Bool) → not b ≡ false → b ≡ true
not_false true h = refl
not_false false h = cc

where_true : (b h : Bool) → (b ≡ true → h ≡ true) → cond b h true ≡ true
where_true true h all = all refl
where_true false h all = refl

unbroken : (b : Bool) (n : ℕ) (later : Option ℕ) → cond b (Some n) later ≡ None → (b ≡ false) × (later ≡ None)
unbroken true n later h = cc
unbroken false n later h = (refl, h)

settled_kind : (count : ℕ) (values : List ℕ) (e : Entry) (k : Kind)
    → ((truth : Bool) → k ≡ Constant truth → truth_at (view e.0) values ≡ truth)
    → ((s : SymId) → k ≡ Simple s → truth_at (view e.0) values ≡ truth_at (view e.0) (alone s (slice_index values s.0)))
    → is_broken_kind e.1 k ≡ false
    → ((s : SymId) → s.0 < count → cond (is_simple_on s k) (entry_holds (alone s (slice_index values s.0)) e) true ≡ true)
    → cond (is_settled count k) (entry_holds values e) true ≡ true
settled_kind count values e (Constant truth) constant simple off met = ap (agrees e.1) (constant truth refl) ∙ not_false (agrees e.1 truth) off
settled_kind count values e (Simple s) constant simple off met =
    let single = entry_holds (alone s (slice_index values s.0)) e in
    where_true (nat_lt s.0 count) (entry_holds values e) (λ known.
    let on : single ≡ cond (nat_eq s.0 s.0) single true = ap (λ b. cond b single true) (sym (eq-eqb s.0 s.0 refl)) in
    ap (agrees e.1) (simple s refl) ∙ on ∙ met s (ltb-true s.0 count known))
settled_kind count values e Inside constant simple off met = refl
settled_kind count values e Outside constant simple off met = refl

settled_all : ((f : FormulaTree) (truth : Bool) (values : List ℕ) → kind_of f ≡ Constant truth → truth_at f values ≡ truth)
    → ((f : FormulaTree) (s : SymId) (values : List ℕ) → kind_of f ≡ Simple s → truth_at f values ≡ truth_at f (alone s (slice_index values s.0)))
    → (path : Condition) (values : List ℕ) (n : ℕ) (entries : List Entry) → position_from is_broken n entries ≡ None
    → ((s : SymId) → s.0 < length path.widths → list_all (meets s (alone s (slice_index values s.0))) entries ≡ true) → list_all (holds_if_settled path values) entries ≡ true
settled_all constant simple path values n [] none met = refl
settled_all constant simple path values n (e ∷ entries) none met =
    let kind = kind_of (view e.0) in
    let parts = unbroken (is_broken e) n (position_from is_broken (n + 1) entries) none in
    both_true (holds_if_settled path values e) (list_all (holds_if_settled path values) entries)
    (settled_kind (length path.widths) values e kind (λ truth is. constant (view e.0) truth values is) (λ s is. simple (view e.0) s values is) parts.0
    (λ s lt. let single = alone s (slice_index values s.0) in and_first (meets s single e) (list_all (meets s single) entries) (met s lt)))
    (settled_all constant simple path values (n + 1) entries parts.1
    (λ s lt. let single = alone s (slice_index values s.0) in and_second (meets s single e) (list_all (meets s single) entries) (met s lt)))

pub least_settle : ((f : FormulaTree) (truth : Bool) (values : List ℕ) → kind_of f ≡ Constant truth → truth_at f values ≡ truth)
    → ((f : FormulaTree) (s : SymId) (values : List ℕ) → kind_of f ≡ Simple s → truth_at f values ≡ truth_at f (alone s (slice_index values s.0)))
    → (path : Condition) (values : List ℕ) → first_broken path ≡ None → AreLeastValues path values → list_all (holds_if_settled path values) path.entries ≡ true
least_settle constant simple path values none least =
    settled_all constant simple path values 0 path.entries none (λ s lt.
    and_second (fits_width (slice_index path.widths s.0) (slice_index values s.0)) (in_domain s path (slice_index values s.0)) (least.each s lt).possible)

-- which verdict it is
pub false_exactly : (path : Condition) (verdict : SimpleVerdict) → IsVerdictOn path verdict → (is_false verdict ≡ true) ↔ ((pick : ℕ) × (first_broken path ≡ Some pick))
false_exactly path (Values values) is = ((λ e. cc), (λ found. let some = found.1 in let none = is.0 in cc))
false_exactly path (False pick) is = ((λ e. (pick, is)), (λ found. refl))
false_exactly path (Empty s picks) is = ((λ e. cc), (λ found. let some = found.1 in let none = is.0 in cc))

pub empty_exactly : (path : Condition) (verdict : SimpleVerdict) → IsVerdictOn path verdict → (is_empty_verdict verdict ≡ true) ↔ ((s : SymId) × IsWithoutValue path s)
empty_exactly path (Values values) is = (
  (λ e. cc),
  (λ found.
      let none = found.1.no_value (slice_index values.items found.0.0) in let some = (is.1.each found.0 found.1.known).possible in cc),
)
empty_exactly path (False pick) is = ((λ e. cc), (λ found. let some : first_broken path ≡ Some pick = is in let none = found.1.unbroken in cc))
empty_exactly path (Empty s picks) is = ((λ e. (s, record { unbroken = is.0; known = is.1.known; no_value = is.1.no_value })), (λ found. refl))
