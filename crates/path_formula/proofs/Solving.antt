-- The sets of values that give an atom, or several formulas, a truth.
use Rattle.std.proofs.Common.{◌≡◌, ℕ, ◌+◌, ◌%◌, ◌^◌, ◌<◌, Bool, true, false, not, ◌&&◌, ◌||◌, List, [], ◌∷◌, ◌++◌, refl, sym, ap, ap₂, ◌∙◌, subst, arith, rules, inl, inr, length, get_or, take, Result, Vec, Global, zero, suc}
use Rattle.std.specs.Prelude.{slice_index, IfOk}
use Rattle.std.proofs.Math.Nat.{mod-eq_of_lt}
use Rattle.std.proofs.lemmas.Bool.{lt-ltb}
use Rattle.std.proofs.lemmas.List.{take_more}
use Rattle.std.proofs.lemmas.Nat.{pow_pos, mod_below}
use Rattle.std.proofs.lemmas.Result.{IfOk-weaker}
use Rattle.sn_width.specs.Rel.{relates}
use Rattle.sn_width.specs.Width.{FitsWidth, wrapped_difference}
use Rattle.sn_width.specs.declared.ids.SymId.{SymId}
use Rattle.sn_width.specs.declared.rel.Rel.{Rel}
use Rattle.lin_term.specs.Terms.{LinearTerm, IsReduced, value_at}
use Rattle.sn_ranges.specs.Ranges.{RangeSet, IsSetOf, fits_width, is_member}
use Rattle.path_formula.specs.Atoms.{comparison_kind, membership_kind}
use Rattle.path_formula.specs.Formulas.{all_of, any_of, Formulas, no_formulas, formula, truth_at, all_true, any_true}
use Rattle.path_formula.specs.Solutions.{AtomIsOver, IsOver, AreOver, agrees, alone, all_agree, any_agrees}
use Rattle.path_formula.specs.Terms.{shape_of}
use Rattle.path_formula.specs.View.{view, views}
use Rattle.path_formula.specs.declared.atom.AtomKind.{AtomKind}
use Rattle.path_formula.specs.declared.atom.AtomKind.TheVariants.{Constant, Single, Pair, Outside}
use Rattle.path_formula.specs.declared.atom.Shape.TheVariants.{Number, Symbol}
use Rattle.path_formula.specs.declared.formula.Formula.{Formula, And, Or, the_lemmas}
use Rattle.path_formula.proofs.Sets.{IsSetOf-by, wrapped_difference-back}
use Rattle.path_formula.proofs.Shapes.{value_at-Number, value_at-Symbol, slice_index-alone, comparison_kind-Single, membership_kind-Single}
use Rattle.path_formula.proofs.Truths.{comparison-fixed, membership-fixed}

-- a set of one test has each that is the same where the number fits
pub solves : {E : Type 0} (w : ℕ) (p q : ℕ → Bool) (out : Result RangeSet E) → ((x : ℕ) → p x ≡ q x) → IfOk out (IsSetOf w (λ x. fits_width w x && p x)) → IfOk out (IsSetOf w (λ x. fits_width w x && q x))
solves w p q out e h =
    IfOk-weaker out (IsSetOf w (λ x. fits_width w x && p x)) (IsSetOf w (λ x. fits_width w x && q x))
    (λ set. IsSetOf-by w (λ x. fits_width w x && p x) (λ x. fits_width w x && q x) set (λ x. ap (λ b. fits_width w x && b) (e x))) h

-- a set that was shifted the other way
pub moved_back : {E : Type 0} (set : RangeSet) (by w c : ℕ) (out : Result RangeSet E) → w ≡ set.width → c ≡ wrapped_difference w 0 by → FitsWidth set.width by
    → IfOk out (IsSetOf set.width (λ x. fits_width set.width x && is_member set.pairs (wrapped_difference set.width x c)))
    → IfOk out (IsSetOf set.width (λ x. fits_width set.width x && is_member set.pairs ((by + x) % 2 ^ set.width)))
moved_back set by w c out width is fits h =
    solves set.width (λ x. is_member set.pairs (wrapped_difference set.width x c)) (λ x. is_member set.pairs ((by + x) % 2 ^ set.width)) out
    (λ x. ap (is_member set.pairs) (ap (wrapped_difference set.width x) (is ∙ ap (λ n. wrapped_difference n 0 by) width) ∙ wrapped_difference-back set.width by x fits)) h

-- the atom's kind and widths, where it is single
pub single_over : (s r : SymId) (w : ℕ) (k : AtomKind) (u v : ℕ) → k ≡ Single r → AtomIsOver s w k u v → (r ≡ s) × (u ≡ w) × (v ≡ w)
single_over s r w k u v e h = subst (λ n. AtomIsOver s w n u v) e h

number_value : (t : LinearTerm) (s : SymId) (x : ℕ) → IsReduced t → shape_of t ≡ Number → value_at t (alone s x) ≡ t.constant
number_value t s x reduced h = value_at-Number t (alone s x) h ∙ mod-eq_of_lt reduced.constant

symbol_value : (t : LinearTerm) (r s : SymId) (w x : ℕ) → shape_of t ≡ Symbol r → r ≡ s → t.width ≡ w → value_at t (alone s x) ≡ (t.constant + x) % 2 ^ w
symbol_value t r s w x h same width =
    value_at-Symbol t r (alone s x) h
    ∙ ap (λ (q : SymId). (t.constant + slice_index (alone s x) q.0) % 2 ^ t.width) same
    ∙ ap (λ n. (t.constant + n) % 2 ^ t.width) (slice_index-alone s x)
    ∙ ap (λ n. (t.constant + x) % 2 ^ n) width

-- a single comparison with its symbol on the right
pub by_right : {E : Type 0} (rel exchanged : Rel) (a b : LinearTerm) (s r : SymId) (w : ℕ) (holds : Bool) (out : Result RangeSet E)
    → comparison_kind a b ≡ Single r → AtomIsOver s w (comparison_kind a b) a.width b.width → shape_of a ≡ Number → IsReduced a
    → ((left right : ℕ) → relates exchanged right left ≡ relates rel left right)
    → IfOk out (IsSetOf w (λ x. fits_width w x && agrees holds (relates exchanged ((b.constant + x) % 2 ^ w) a.constant)))
    → IfOk out (IsSetOf w (λ x. fits_width w x && agrees holds (relates rel (value_at a (alone s x)) (value_at b (alone s x)))))
by_right rel exchanged a b s r w holds out kind over number reduced ex h =
    let over_s = single_over s r w (comparison_kind a b) a.width b.width kind over in
    let right : shape_of b ≡ Symbol r = elim (comparison_kind-Single a b r kind) [ inl p ↦ p.1 | inr p ↦ let e : Number ≡ Symbol r = sym number ∙ p.0 in cc ] in
    solves w (λ x. agrees holds (relates exchanged ((b.constant + x) % 2 ^ w) a.constant)) (λ x. agrees holds (relates rel (value_at a (alone s x)) (value_at b (alone s x)))) out
    (λ x. ap (agrees holds) (ex a.constant ((b.constant + x) % 2 ^ w) ∙ sym (ap₂ (relates rel) (number_value a s x reduced number) (symbol_value b r s w x right over_s.0 over_s.2)))) h

-- a single comparison with its symbol on the left
pub by_left : {E : Type 0} (rel : Rel) (a b : LinearTerm) (s r : SymId) (w : ℕ) (holds : Bool) (out : Result RangeSet E)
    → comparison_kind a b ≡ Single r → AtomIsOver s w (comparison_kind a b) a.width b.width → (shape_of a ≡ Number → ⊥) → IsReduced b
    → IfOk out (IsSetOf w (λ x. fits_width w x && agrees holds (relates rel ((a.constant + x) % 2 ^ w) b.constant)))
    → IfOk out (IsSetOf w (λ x. fits_width w x && agrees holds (relates rel (value_at a (alone s x)) (value_at b (alone s x)))))
by_left rel a b s r w holds out kind over not_number reduced h =
    let over_s = single_over s r w (comparison_kind a b) a.width b.width kind over in
    let left : (shape_of a ≡ Symbol r) × (shape_of b ≡ Number) = elim (comparison_kind-Single a b r kind) [ inl p ↦ absurd (not_number p.0) | inr p ↦ p ] in
    solves w (λ x. agrees holds (relates rel ((a.constant + x) % 2 ^ w) b.constant)) (λ x. agrees holds (relates rel (value_at a (alone s x)) (value_at b (alone s x)))) out
    (λ x. ap (agrees holds) (sym (ap₂ (relates rel) (symbol_value a r s w x left.0 over_s.0 over_s.1) (number_value b s x reduced left.1)))) h

-- an atom that is not single is constant
constant_over : (s : SymId) (w : ℕ) (k : AtomKind) (u v : ℕ) → ((r : SymId) → k ≡ Single r → ⊥) → AtomIsOver s w k u v → k ≡ Constant
constant_over s w Constant u v no_single h = refl
constant_over s w (Single r) u v no_single h = absurd (no_single r refl)
constant_over s w Pair u v no_single h = absurd h
constant_over s w Outside u v no_single h = absurd h

-- a constant comparison
pub by_constant : {E : Type 0} (rel : Rel) (a b : LinearTerm) (s : SymId) (w : ℕ) (holds : Bool) (out : Result RangeSet E)
    → ((r : SymId) → comparison_kind a b ≡ Single r → ⊥) → AtomIsOver s w (comparison_kind a b) a.width b.width
    → IfOk out (IsSetOf w (λ x. fits_width w x && agrees holds (relates rel (value_at a []) (value_at b []))))
    → IfOk out (IsSetOf w (λ x. fits_width w x && agrees holds (relates rel (value_at a (alone s x)) (value_at b (alone s x)))))
by_constant rel a b s w holds out no_single over h =
    let constant = constant_over s w (comparison_kind a b) a.width b.width no_single over in
    solves w (λ x. agrees holds (relates rel (value_at a []) (value_at b []))) (λ x. agrees holds (relates rel (value_at a (alone s x)) (value_at b (alone s x)))) out
    (λ x. ap (agrees holds) (comparison-fixed rel a b [] (alone s x) constant)) h

-- a single membership, in a set that has the truth of the given one
pub by_member : {E : Type 0} (t : LinearTerm) (set given : RangeSet) (s r : SymId) (w : ℕ) (holds : Bool) (out : Result RangeSet E)
    → membership_kind t ≡ Single r → AtomIsOver s w (membership_kind t) t.width given.width → set.width ≡ given.width
    → ((y : ℕ) → FitsWidth w y → is_member set.pairs y ≡ agrees holds (is_member given.pairs y))
    → IfOk out (IsSetOf set.width (λ x. fits_width set.width x && is_member set.pairs ((t.constant + x) % 2 ^ set.width)))
    → IfOk out (IsSetOf w (λ x. fits_width w x && agrees holds (is_member given.pairs (value_at t (alone s x)))))
by_member t set given s r w holds out kind over width same h =
    let over_s = single_over s r w (membership_kind t) t.width given.width kind over in
    let h2 = subst (λ n. IfOk out (IsSetOf n (λ x. fits_width n x && is_member set.pairs ((t.constant + x) % 2 ^ n)))) (width ∙ over_s.2) h in
    solves w (λ x. is_member set.pairs ((t.constant + x) % 2 ^ w)) (λ x. agrees holds (is_member given.pairs (value_at t (alone s x)))) out
    (λ x. same ((t.constant + x) % 2 ^ w) (mod_below (t.constant + x) (2 ^ w) (pow_pos w)) ∙ ap (λ n. agrees holds (is_member given.pairs n)) (sym (symbol_value t r s w x (membership_kind-Single t r kind) over_s.0 over_s.1))) h2

-- a constant membership
pub by_constant_member : {E : Type 0} (t : LinearTerm) (set : RangeSet) (s : SymId) (w : ℕ) (holds : Bool) (out : Result RangeSet E)
    → ((r : SymId) → membership_kind t ≡ Single r → ⊥) → AtomIsOver s w (membership_kind t) t.width set.width
    → IfOk out (IsSetOf w (λ x. fits_width w x && agrees holds (is_member set.pairs (value_at t []))))
    → IfOk out (IsSetOf w (λ x. fits_width w x && agrees holds (is_member set.pairs (value_at t (alone s x)))))
by_constant_member t set s w holds out no_single over h =
    let constant = constant_over s w (membership_kind t) t.width set.width no_single over in
    solves w (λ x. agrees holds (is_member set.pairs (value_at t []))) (λ x. agrees holds (is_member set.pairs (value_at t (alone s x)))) out
    (λ x. ap (agrees holds) (membership-fixed t set [] (alone s x) constant)) h

and_regroup : (a b c : Bool) → (a && b) && c ≡ a && (b && c)
and_regroup true b c = refl
and_regroup false b c = refl

or_regroup : (a b c : Bool) → (a || b) || c ≡ a || (b || c)
or_regroup true b c = refl
or_regroup false b c = refl

and_all : (a : Bool) → a && true ≡ a
and_all true = refl
and_all false = refl

or_none : (a : Bool) → a || false ≡ a
or_none true = refl
or_none false = refl

-- one formula more
all_agree-more : (holds : Bool) (fs : List Formula) (f : Formula) (vs : List ℕ) → all_agree holds (views (fs ++ f ∷ [])) vs ≡ (all_agree holds (views fs) vs && agrees holds (truth_at (view f) vs))
all_agree-more holds [] f vs = and_all (agrees holds (truth_at (view f) vs))
all_agree-more holds (g ∷ fs) f vs =
    ap (λ b. agrees holds (truth_at (view g) vs) && b) (all_agree-more holds fs f vs) ∙ sym (and_regroup (agrees holds (truth_at (view g) vs)) (all_agree holds (views fs) vs) (agrees holds (truth_at (view f) vs)))

any_agrees-more : (holds : Bool) (fs : List Formula) (f : Formula) (vs : List ℕ) → any_agrees holds (views (fs ++ f ∷ [])) vs ≡ (any_agrees holds (views fs) vs || agrees holds (truth_at (view f) vs))
any_agrees-more holds [] f vs = or_none (agrees holds (truth_at (view f) vs))
any_agrees-more holds (g ∷ fs) f vs =
    ap (λ b. agrees holds (truth_at (view g) vs) || b) (any_agrees-more holds fs f vs) ∙ sym (or_regroup (agrees holds (truth_at (view g) vs)) (any_agrees holds (views fs) vs) (agrees holds (truth_at (view f) vs)))

both_fit : (f a b : Bool) → (f && a) && (f && b) ≡ f && (a && b)
both_fit true a b = refl
both_fit false a b = refl

either_fits : (f a b : Bool) → (f && a) || (f && b) ≡ f && (a || b)
either_fits true a b = refl
either_fits false a b = refl

-- the formulas up to one more
next_items : (fs : List Formula) (i : ℕ) (f : Formula) → i < length fs → f ≡ get_or fs i f → take (i + 1) fs ≡ take i fs ++ f ∷ []
next_items fs i f lt is = take_more fs i f lt ∙ ap (λ g. take i fs ++ g ∷ []) (sym is)

-- one step of the intersection
pub meet_more : (w : ℕ) (s : SymId) (holds : Bool) (fs : List Formula) (i : ℕ) (f : Formula) (set more next : RangeSet) → i < length fs → f ≡ get_or fs i f
    → IsSetOf w (λ x. fits_width w x && all_agree holds (views (take i fs)) (alone s x)) set
    → IsSetOf w (λ x. fits_width w x && agrees holds (truth_at (view f) (alone s x))) more
    → IsSetOf set.width (λ x. is_member set.pairs x && is_member more.pairs x) next
    → IsSetOf w (λ x. fits_width w x && all_agree holds (views (take (i + 1) fs)) (alone s x)) next
meet_more w s holds fs i f set more next lt is hs hm hn = record {
  same_width = hn.same_width ∙ hs.same_width;
  canonical = hn.canonical;
  members = λ x.
      hn.members x ∙ ap₂ ◌&&◌ (hs.members x) (hm.members x) ∙ both_fit (fits_width w x) (all_agree holds (views (take i fs)) (alone s x)) (agrees holds (truth_at (view f) (alone s x)))
      ∙ ap (λ b. fits_width w x && b) (sym (all_agree-more holds (take i fs) f (alone s x)) ∙ ap (λ gs. all_agree holds (views gs) (alone s x)) (sym (next_items fs i f lt is)));
}

-- one step of the union
pub join_more : (w : ℕ) (s : SymId) (holds : Bool) (fs : List Formula) (i : ℕ) (f : Formula) (set more next : RangeSet) → i < length fs → f ≡ get_or fs i f
    → IsSetOf w (λ x. fits_width w x && any_agrees holds (views (take i fs)) (alone s x)) set
    → IsSetOf w (λ x. fits_width w x && agrees holds (truth_at (view f) (alone s x))) more
    → IsSetOf set.width (λ x. is_member set.pairs x || is_member more.pairs x) next
    → IsSetOf w (λ x. fits_width w x && any_agrees holds (views (take (i + 1) fs)) (alone s x)) next
join_more w s holds fs i f set more next lt is hs hm hn = record {
  same_width = hn.same_width ∙ hs.same_width;
  canonical = hn.canonical;
  members = λ x.
      hn.members x ∙ ap₂ ◌||◌ (hs.members x) (hm.members x) ∙ either_fits (fits_width w x) (any_agrees holds (views (take i fs)) (alone s x)) (agrees holds (truth_at (view f) (alone s x)))
      ∙ ap (λ b. fits_width w x && b) (sym (any_agrees-more holds (take i fs) f (alone s x)) ∙ ap (λ gs. any_agrees holds (views gs) (alone s x)) (sym (next_items fs i f lt is)));
}

over_at : (s : SymId) (w : ℕ) (fs : List Formula) (i : ℕ) (f : Formula) → i < length fs → AreOver s w (views fs) → IsOver s w (view (get_or fs i f))
over_at s w [] i f lt h = absurd (omega arith)
over_at s w (g ∷ fs) zero f lt h = h.0
over_at s w (g ∷ fs) (suc i) f lt h = over_at s w fs i f (omega arith) h.1

-- each formula of a list that is over a symbol is
pub over_item : (s : SymId) (w : ℕ) (fs : List Formula) (i : ℕ) (f : Formula) → i < length fs → f ≡ get_or fs i f → AreOver s w (views fs) → IsOver s w (view f)
over_item s w fs i f lt is h = subst (λ g. IsOver s w (view g)) (sym is) (over_at s w fs i f lt h)

pub all_agree-true : (fs : Formulas) (vs : List ℕ) → all_agree true fs vs ≡ all_true fs vs
all_agree-true no_formulas vs = refl
all_agree-true (formula f fs) vs = ap (λ b. truth_at f vs && b) (all_agree-true fs vs)

pub any_agrees-true : (fs : Formulas) (vs : List ℕ) → any_agrees true fs vs ≡ any_true fs vs
any_agrees-true no_formulas vs = refl
any_agrees-true (formula f fs) vs = ap (λ b. truth_at f vs || b) (any_agrees-true fs vs)

not_and : (a b : Bool) → not a || not b ≡ not (a && b)
not_and true b = refl
not_and false b = refl

not_or : (a b : Bool) → not a && not b ≡ not (a || b)
not_or true b = refl
not_or false b = refl

pub any_agrees-false : (fs : Formulas) (vs : List ℕ) → any_agrees false fs vs ≡ not (all_true fs vs)
any_agrees-false no_formulas vs = refl
any_agrees-false (formula f fs) vs = ap (λ b. not (truth_at f vs) || b) (any_agrees-false fs vs) ∙ not_and (truth_at f vs) (all_true fs vs)

pub all_agree-false : (fs : Formulas) (vs : List ℕ) → all_agree false fs vs ≡ not (any_true fs vs)
all_agree-false no_formulas vs = refl
all_agree-false (formula f fs) vs = ap (λ b. not (truth_at f vs) && b) (all_agree-false fs vs) ∙ not_or (truth_at f vs) (any_true fs vs)

-- the members of a complement
pub others_of : (given others : RangeSet) (w : ℕ) (holds : Bool) → holds ≡ false → given.width ≡ w → IsSetOf given.width (λ v. fits_width given.width v && not (is_member given.pairs v)) others
    → (y : ℕ) → FitsWidth w y → is_member others.pairs y ≡ agrees holds (is_member given.pairs y)
others_of given others w holds e width h y fits =
    h.members y
    ∙ ap (λ b. b && not (is_member given.pairs y)) (ap (λ n. fits_width n y) width ∙ lt-ltb y (2 ^ w) fits)
    ∙ ap (λ b. agrees b (is_member given.pairs y)) (sym e)

view-And : (parts : Vec Formula Global) → view (And parts) ≡ all_of (views parts.items)
view-And parts = search (rules, the_lemmas)

view-Or : (parts : Vec Formula Global) → view (Or parts) ≡ any_of (views parts.items)
view-Or parts = search (rules, the_lemmas)

-- the truth of a conjunction and of a disjunction by those of its parts
module _ (f : Formula) (parts : Vec Formula Global) (holds : Bool) (vs : List ℕ) where
  pub and_holds : f ≡ And parts → holds ≡ true → all_agree true (views parts.items) vs ≡ agrees holds (truth_at (view f) vs)
  and_holds is e = all_agree-true (views parts.items) vs ∙ sym (ap₂ (λ b t. agrees b (truth_at t vs)) e (ap view is ∙ view-And parts))

  pub and_fails : f ≡ And parts → holds ≡ false → any_agrees false (views parts.items) vs ≡ agrees holds (truth_at (view f) vs)
  and_fails is e = any_agrees-false (views parts.items) vs ∙ sym (ap₂ (λ b t. agrees b (truth_at t vs)) e (ap view is ∙ view-And parts))

  pub or_holds : f ≡ Or parts → holds ≡ true → any_agrees true (views parts.items) vs ≡ agrees holds (truth_at (view f) vs)
  or_holds is e = any_agrees-true (views parts.items) vs ∙ sym (ap₂ (λ b t. agrees b (truth_at t vs)) e (ap view is ∙ view-Or parts))

  pub or_fails : f ≡ Or parts → holds ≡ false → all_agree false (views parts.items) vs ≡ agrees holds (truth_at (view f) vs)
  or_fails is e = all_agree-false (views parts.items) vs ∙ sym (ap₂ (λ b t. agrees b (truth_at t vs)) e (ap view is ∙ view-Or parts))
