-- Domains of a condition after one formula or one symbol more.
use Rattle.std.proofs.Common.{◌≡◌, ℕ, zero, suc, ◌+◌, ◌<◌, ◌≤◌, Bool, true, false, cond, ◌&&◌, List, [], ◌∷◌, ◌++◌, length, Some, Result, Ok, Err, IfOk, ◌⊎◌, inl, inr, refl, sym, ap, ap₂, ◌∙◌, subst, arith, nat_eq}
use Rattle.std.specs.Prelude.{slice_get, slice_index, ◌^◌}
use Rattle.std.specs.List.{list_all}
use Rattle.std.proofs.lemmas.Bool.{cases_eq, eqb-true, eq-eqb, ne_eqb, lt-ltb}
use Rattle.std.proofs.lemmas.List.Folds.{list_all-append}
use Rattle.std.proofs.lemmas.Option.{slice_get_within, slice_get-get_or, same_Some}
use Rattle.std.proofs.Math.ListN.{set, get_or-append}
use Rattle.std.proofs.Math.Seq.{get_or-append_seam}
use Rattle.sn_ranges.specs.Laws.{OneListForEachSet}
use Rattle.sn_ranges.specs.Ranges.{Range, RangeSet, IsSetOf, is_member, fits_width}
use Rattle.sn_width.specs.declared.ids.SymId.{SymId}
use Rattle.path_formula.specs.Formulas.{truth_at}
use Rattle.path_formula.specs.Kinds.{kind_of}
use Rattle.path_formula.specs.Solutions.{agrees, alone}
use Rattle.path_formula.specs.View.{view}
use Rattle.path_formula.specs.declared.kinds.Kind.TheVariants.{Simple}
use Rattle.path_cond.specs.Conditions.{Condition, Entry, meets, entry_holds, is_entry_on, is_simple_on, in_domain, picks_from, simple_picks, AllTyped, is_possible}
use Rattle.interval_solver.specs.Domains.{IsDomainOf, AreDomainsOf, AreDomainsOfFirst, AreDomainsBefore, AreDomainsBeforeLast, is_empty, with_width}

pub true_or_false : (b : Bool) → (b ≡ true) ⊎ (b ≡ false)
true_or_false true = inl refl
true_or_false false = inr refl

pub slice_get-set_same : {X : Type 0} (xs : List X) (i : ℕ) (v : X) → i < length xs → slice_get (set xs i v) i ≡ Some v
slice_get-set_same [] i v lt = absurd (omega arith)
slice_get-set_same (x ∷ xs) zero v lt = refl
slice_get-set_same (x ∷ xs) (suc i) v lt = slice_get-set_same xs i v (omega arith)

pub slice_get-set_other : {X : Type 0} (xs : List X) (i j : ℕ) (v : X) → (i ≡ j → ⊥) → slice_get (set xs i v) j ≡ slice_get xs j
slice_get-set_other [] i j v other = refl
slice_get-set_other (x ∷ xs) zero zero v other = absurd (other refl)
slice_get-set_other (x ∷ xs) zero (suc j) v other = refl
slice_get-set_other (x ∷ xs) (suc i) zero v other = refl
slice_get-set_other (x ∷ xs) (suc i) (suc j) v other = slice_get-set_other xs i j v (λ e. other (ap suc e))

length_set : {X : Type 0} (xs : List X) (i : ℕ) (v : X) → length (set xs i v) ≡ length xs
length_set [] i v = refl
length_set (x ∷ xs) zero v = refl
length_set (x ∷ xs) (suc i) v = ap suc (length_set xs i v)

pub no_members : (pairs : List Range) → (nat_eq (length pairs) 0) ≡ true → (x : ℕ) → is_member pairs x ≡ false
unfolding is_member
no_members [] e x = refl
no_members (r ∷ pairs) e x = let none : length (r ∷ pairs) ≡ 0 = eqb-true (length (r ∷ pairs)) 0 e in absurd (omega arith)

and_last : (f l m : Bool) → (f && l) && m ≡ f && (l && (m && true))
and_last true true true = refl
and_last true true false = refl
and_last true false m = refl
and_last false l m = refl

and_true : (b : Bool) → b ≡ b && true
and_true true = refl
and_true false = refl

and_fits : (m f h : Bool) → (m ≡ true → f ≡ true) → m && (f && h) ≡ m && h
and_fits true f h fits = ap (λ b. b && h) (fits refl)
and_fits false f h fits = refl

module _ (path : Condition) (sets : List RangeSet) (e : Entry) (before : AreDomainsBefore path sets e) where
  possible_more : (s : SymId) (x : ℕ) → is_possible (record path { entries = before.entries }) s x && meets s (alone s x) e ≡ is_possible path s x
  possible_more s x =
      let fits = fits_width (slice_index path.widths s.0) x in
      and_last fits (list_all (meets s (alone s x)) before.entries) (meets s (alone s x) e)
      ∙ ap (λ b. fits && b) (sym (list_all-append (meets s (alone s x)) before.entries (e ∷ [])))
      ∙ ap (λ es. fits && list_all (meets s (alone s x)) es) (sym before.split)

  -- a set that has the members of the old domain that meet the formula
  met : (s : SymId) (found next : RangeSet) → slice_get sets s.0 ≡ Some found
      → IsSetOf (slice_index path.widths s.0) (λ x. is_member found.pairs x && meets s (alone s x) e) next → IsDomainOf path s next
  met s found next at h = record {
    same_width = h.same_width;
    canonical = h.canonical;
    members = λ x. h.members x ∙ ap (λ b. b && meets s (alone s x) e) ((before.domains.domains s found at).members x) ∙ possible_more s x;
  }

  -- a set whose members all meet the formula
  kept : (s : SymId) (found : RangeSet) → slice_get sets s.0 ≡ Some found → ((x : ℕ) → is_member found.pairs x ≡ is_member found.pairs x && meets s (alone s x) e) → IsDomainOf path s found
  kept s found at all =
      let d = before.domains.domains s found at in
      met s found found at (record { same_width = d.same_width; canonical = d.canonical; members = all })

  kept_off : (s : SymId) (found : RangeSet) → slice_get sets s.0 ≡ Some found → is_entry_on s e ≡ false → IsDomainOf path s found
  kept_off s found at off =
      kept s found at (λ x. and_true (is_member found.pairs x) ∙ ap (λ b. is_member found.pairs x && cond b (entry_holds (alone s x) e) true) (sym off))

  kept_empty : (s : SymId) (found : RangeSet) → slice_get sets s.0 ≡ Some found → is_empty found ≡ true → IsDomainOf path s found
  kept_empty s found at none =
      kept s found at (λ x. no_members found.pairs none x ∙ ap (λ b. b && meets s (alone s x) e) (sym (no_members found.pairs none x)))

  -- where the formula is simple on no symbol but one that has no domain or an empty one, the domains stay
  pub domains_stay : ((s : SymId) (found : RangeSet) → is_entry_on s e ≡ true → slice_get sets s.0 ≡ Some found → is_empty found ≡ true) → AreDomainsOf path sets
  domains_stay empty = record {
    count = before.domains.count;
    domains = λ s found at. elim (true_or_false (is_entry_on s e)) [
      | inl on ↦ kept_empty s found at (empty s found on at)
      | inr off ↦ kept_off s found at off
    ];
  }

  -- where the formula is simple on no symbol
  pub domains_stay_off : ((s : SymId) → is_entry_on s e ≡ false) → AreDomainsOf path sets
  domains_stay_off off = record { count = before.domains.count; domains = λ s found at. kept_off s found at (off s) }

  -- where it is simple on this one
  on_kind : (s r : SymId) → kind_of (view e.0) ≡ Simple s → is_entry_on r e ≡ nat_eq s.0 r.0
  on_kind s r kind = ap (is_simple_on r) kind

  same_symbol : (s r : SymId) → s.0 ≡ r.0 → s ≡ r
  same_symbol s r h = λ i. record { 0 = h i }

  pub domains_stay_at : (s : SymId) → kind_of (view e.0) ≡ Simple s → ((found : RangeSet) → slice_get sets s.0 ≡ Some found → is_empty found ≡ true) → AreDomainsOf path sets
  domains_stay_at s kind empty = domains_stay (λ r found on at.
      let same : s.0 ≡ r.0 = eqb-true s.0 r.0 (sym (on_kind s r kind) ∙ on) in
      empty found (ap (slice_get sets) same ∙ at))

  pub domains_met_at : (s : SymId) (found more next : RangeSet) → kind_of (view e.0) ≡ Simple s → slice_get sets s.0 ≡ Some found
      → IsSetOf found.width (λ x. fits_width found.width x && agrees e.1 (truth_at (view e.0) (alone s x))) more
      → IsSetOf found.width (λ x. is_member found.pairs x && is_member more.pairs x) next → AreDomainsOf path (set sets s.0 next)
  domains_met_at s found more next kind at hm hn =
      let d = before.domains.domains s found at in
      let on : is_entry_on s e ≡ true = on_kind s s kind ∙ eq-eqb s.0 s.0 refl in
      let width = d.same_width in
      let domain : IsDomainOf path s next = met s found next at (record {
        same_width = hn.same_width ∙ width;
        canonical = hn.canonical;
        members = λ x.
            hn.members x ∙ ap (λ b. is_member found.pairs x && b) (hm.members x)
            ∙ and_fits (is_member found.pairs x) (fits_width found.width x) (entry_holds (alone s x) e) (λ m. lt-ltb x (2 ^ found.width) (d.canonical.fits x m))
            ∙ ap (λ b. is_member found.pairs x && cond b (entry_holds (alone s x) e) true) (sym on);
      }) in
      let within : s.0 < length sets = slice_get_within sets s.0 found at in
      record {
        count = length_set sets s.0 next ∙ before.domains.count;
        domains = λ r other here. elim (cases_eq s.0 r.0) [
          | inl same ↦
              let is : next ≡ other = same_Some next other (sym (slice_get-set_same sets s.0 next within) ∙ ap (slice_get (set sets s.0 next)) same ∙ here) in
              subst (λ q. IsDomainOf path q other) (same_symbol s r same) (subst (IsDomainOf path s) is domain)
          | inr apart ↦ kept_off r other (sym (slice_get-set_other sets s.0 r.0 next apart) ∙ here) (on_kind s r kind ∙ ne_eqb s.0 r.0 apart)
        ];
      }

-- a list that ends in one element
ends_at : {X : Type 0} (ys : List X) (y : X) → slice_get (ys ++ y ∷ []) (length ys) ≡ Some y
ends_at [] y = refl
ends_at (x ∷ ys) y = ends_at ys y

pub length_more : {X : Type 0} (ys : List X) (y : X) → length (ys ++ y ∷ []) ≡ length ys + 1
length_more [] y = refl
length_more (x ∷ ys) y = ap suc (length_more ys y) ∙ omega arith

pub length_split : {X : Type 0} (xs ys : List X) (y : X) → xs ≡ ys ++ y ∷ [] → length xs ≡ length ys + 1
length_split xs ys y split = ap length split ∙ length_more ys y

pub last_at : {X : Type 0} (xs ys : List X) (y : X) (k : ℕ) → xs ≡ ys ++ y ∷ [] → k + 1 ≡ length xs → slice_get xs k ≡ Some y
last_at xs ys y k split is =
    let at : k ≡ length ys = omega (arith, length_split xs ys y split) in
    ap (slice_get xs) at ∙ ap (λ zs. slice_get zs (length ys)) split ∙ ends_at ys y

-- what holds of a list holds of an equal answer
pub ok_same : {E : Type 0} (out : Result (List RangeSet) E) (P : List RangeSet → Type 0) (sets : List RangeSet) → P sets → IfOk out (λ others. others ≡ sets) → IfOk out P
ok_same (Ok others) P sets h same = subst P (sym same) h
ok_same (Err e) P sets h same = tt

-- a member of a list with one more at its end
more_cases : {X : Type 0} (xs : List X) (x : X) (i : ℕ) (y : X) → slice_get (xs ++ x ∷ []) i ≡ Some y → (slice_get xs i ≡ Some y) ⊎ ((i ≡ length xs) × (y ≡ x))
more_cases [] x zero y at = inr (refl, sym (same_Some x y at))
more_cases [] x (suc i) y at = cc
more_cases (z ∷ xs) x zero y at = inl at
more_cases (z ∷ xs) x (suc i) y at = elim (more_cases xs x i y at) [
  | inl old ↦ inl old
  | inr new ↦ inr (ap suc new.0, new.1)
]

-- one set more than so far
pub domains_more : (path : Condition) (sets : List RangeSet) (next : RangeSet) (k : ℕ) → length sets ≡ k → ((s : SymId) (found : RangeSet) → slice_get sets s.0 ≡ Some found → IsDomainOf path s found)
    → IsDomainOf path (record { 0 = k }) next → (s : SymId) (found : RangeSet) → slice_get (sets ++ next ∷ []) s.0 ≡ Some found → IsDomainOf path s found
domains_more path sets next k is all domain s found at = elim (more_cases sets next s.0 found at) [
  | inl old ↦ all s found old
  | inr new ↦
      let same : k ≡ s.0 = sym is ∙ sym new.0 in
      let symbol : record { 0 = k } ≡ s = λ i. record { 0 = same i } in
      subst (IsDomainOf path s) (sym new.1) (subst (λ q. IsDomainOf path q next) symbol domain)
]

pub domains_step : (path : Condition) (sets longer : List RangeSet) (next : RangeSet) (k : ℕ) → longer ≡ sets ++ next ∷ [] → AreDomainsOfFirst path k sets → IsDomainOf path (record { 0 = k }) next → AreDomainsOfFirst path (k + 1) longer
domains_step path sets longer next k is h domain =
    subst (AreDomainsOfFirst path (k + 1)) (sym is) (record {
      count = length_more sets next ∙ ap (λ n. n + 1) h.count;
      domains = domains_more path sets next k h.count h.domains domain;
    })

-- a symbol that no formula is simple on may have each value
unmet : (b v : Bool) (n : ℕ) (picks : List ℕ) (all : Bool) → cond b (n ∷ picks) picks ≡ [] → (picks ≡ [] → all ≡ true) → cond b v true && all ≡ true
unmet true v n picks all h later = cc
unmet false v n picks all h later = later h

all_meet : (s : SymId) (values : List ℕ) (n : ℕ) (entries : List Entry) → picks_from s n entries ≡ [] → list_all (meets s values) entries ≡ true
all_meet s values n [] h = refl
all_meet s values n (e ∷ entries) h =
    unmet (is_entry_on s e) (entry_holds values e) n (picks_from s (suc n) entries) (list_all (meets s values) entries) h (all_meet s values (suc n) entries)

pub domains_wider : (path : Condition) (sets : List RangeSet) (width : ℕ) (next : RangeSet) → IsSetOf width (λ x. fits_width width x && true) next
    → AreDomainsOf path sets → simple_picks (record { 0 = length path.widths }) path ≡ [] → AreDomainsOf (with_width path width) (sets ++ next ∷ [])
domains_wider path sets width next all d none =
    let wider = path.widths ++ width ∷ [] in
    let last : slice_index wider (length path.widths) ≡ width = get_or-append_seam path.widths width [] 0 in
    let same_width_at : (s : SymId) → s.0 < length path.widths → slice_index wider s.0 ≡ slice_index path.widths s.0 = λ s lt. get_or-append path.widths (width ∷ []) 0 s.0 lt in
    let q : SymId = record { 0 = length path.widths } in
    let new : IsDomainOf (with_width path width) q next = record {
      same_width = all.same_width ∙ sym last;
      canonical = all.canonical;
      members = λ x. all.members x ∙ ap₂ (λ w b. fits_width w x && b) (sym last) (sym (all_meet q (alone q x) 0 path.entries none));
    } in
    let old : (s : SymId) (found : RangeSet) → slice_get sets s.0 ≡ Some found → IsDomainOf (with_width path width) s found = λ s found at.
    let within : s.0 < length sets = slice_get_within sets s.0 found at in
    let count = d.count in
    subst (λ w. IsSetOf w (λ x. fits_width w x && in_domain s path x) found) (sym (same_width_at s (omega arith))) (d.domains s found at) in
    record {
      count = length_more sets next ∙ ap (λ n. n + 1) d.count ∙ sym (length_more path.widths width);
      domains = domains_more (with_width path width) sets next (length path.widths) d.count old new;
    }

-- the law of conditions, as it is handed on
abbrev pub NoneUnknown : Type 0
NoneUnknown = (path : Condition) (s : SymId) → AllTyped path.widths path.entries → length path.widths ≤ s.0 → simple_picks s path ≡ []

pub domains_wider_ok : {E : Type 0} (law : NoneUnknown) (out : Result (List RangeSet) E) (sets : List RangeSet) (width : ℕ) (next : RangeSet) → IsSetOf width (λ x. fits_width width x && true) next
    → IfOk out (λ longer. longer ≡ sets ++ next ∷ [])
    → IfOk out (λ longer. (path : Condition) → AreDomainsOf path sets → AllTyped path.widths path.entries → AreDomainsOf (with_width path width) longer)
domains_wider_ok law (Ok longer) sets width next all is = λ path d typed.
    subst (AreDomainsOf (with_width path width)) (sym is) (domains_wider path sets width next all d (law path (record { 0 = length path.widths }) typed (omega arith)))
domains_wider_ok law (Err e) sets width next all is = tt

-- the width of a symbol whose domain is found
pub width_there : (path : Condition) (sets : List RangeSet) (e : Entry) → AreDomainsBefore path sets e → (s : SymId) (found : RangeSet) → slice_get sets s.0 ≡ Some found → slice_get path.widths s.0 ≡ Some found.width
width_there path sets e before s found at =
    let within : s.0 < length sets = slice_get_within sets s.0 found at in
    let count = before.domains.count in
    let width = (before.domains.domains s found at).same_width in
    slice_get-get_or path.widths s.0 0 (omega arith) ∙ ap Some (sym width)

-- a condition has one list of domains
same_lists : (xs ys : List RangeSet) → length xs ≡ length ys → ((i : ℕ) (x y : RangeSet) → slice_get xs i ≡ Some x → slice_get ys i ≡ Some y → x ≡ y) → xs ≡ ys
same_lists [] [] n same = refl
same_lists [] (y ∷ ys) n same = absurd (omega arith)
same_lists (x ∷ xs) [] n same = absurd (omega arith)
same_lists (x ∷ xs) (y ∷ ys) n same = ap₂ ◌∷◌ (same 0 x y refl refl) (same_lists xs ys (omega arith) (λ i u v. same (suc i) u v))

pub domains_same : OneListForEachSet → (path : Condition) (left right : List RangeSet) → AreDomainsOf path left → AreDomainsOf path right → left ≡ right
domains_same law path left right l r =
    same_lists left right (l.count ∙ sym r.count) (λ i x y hx hy.
    let s : SymId = record { 0 = i } in
    let dx = l.domains s x hx in
    let dy = r.domains s y hy in
    law x y dx.canonical dy.canonical (dx.same_width ∙ sym dy.same_width) (λ v fits. dx.members v ∙ sym (dy.members v)))

-- the domains of a condition, before one formula more
pub before_last : (path next : Condition) (last : Entry) (sets : List RangeSet) → next ≡ record path { entries = path.entries ++ last ∷ [] } → AreDomainsOf path sets → AreDomainsBeforeLast next sets
before_last path next last sets is d = (
  last,
  record {
    entries = path.entries;
    split = ap (λ (c : Condition). c.entries) is;
    domains = subst (λ (c : Condition). AreDomainsOf (record c { entries = path.entries }) sets) (sym is) d;
  },
)
