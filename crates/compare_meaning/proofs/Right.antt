-- Over whole records, what is known of a comparison is true.
use Rattle.std.proofs.Common.{◌≡◌, ℕ, suc, ◌⊎◌, inl, inr, Bool, true, false, true≢false, not, nat_lt, List, [], ◌∷◌, ◌++◌, length, map, refl, sym, ap, subst, ◌∙◌, if◌then◌else◌, arith}
use Rattle.std.specs.List.{AllByRecursion, list_all}
use Rattle.path_formula.specs.Formulas.{FormulaTree, truth_at}
use Rattle.path_formula.specs.Typed.{AreValues}
use Rattle.refutation_check.specs.Seen.{AreFitting}
use Rattle.sefl_meaning.specs.Injected.{FitWidths, unknown_widths}
use Rattle.sefl_meaning.specs.Order.{Has}
use Rattle.exact_records.specs.Records.{Satisfy, SymCondition}
use Rattle.compare_meaning.specs.Answers.{IsMissedBy}
use Rattle.compare_meaning.specs.Below.{Below}
use Rattle.compare_meaning.specs.Comparing.{IsFirstMet, IsMetAt, IsOutAt, same, other, unknown}
use Rattle.compare_meaning.specs.Facing.{AreFacingBy, AreFacingFormulas, Faces, IsApart, IsFacingFormula, IsImpossible, IsKnownMiss, joined, longer, longest, must_not}
use Rattle.compare_meaning.specs.Laws.{KnownIsRight}
use Rattle.compare_meaning.specs.Outputs.{Delivers, Output, layout_of, output_of}
use Rattle.compare_meaning.specs.Paths.{DeliveredPath, Half, IsWhole, paths_of}
use Rattle.compare_meaning.proofs.Formulas.{facing_taken, heads_laid, holds_there, taken_facing}
use Rattle.compare_meaning.proofs.Lists.{all_of_has, has_all, has_mapped, has_pass, later_fails, pass_append, pass_first, pass_later, right_fails}
use Rattle.compare_meaning.proofs.Walks.{PathWalk, TakenPath, heads_at, path_walk, path_widths, unknowns_are, walk_path}

-- ---- the paths that face one, and their formulas

facing_first : (p x : DeliveredPath) (qs rest : List DeliveredPath) (q : DeliveredPath) → Faces p x → (Has rest q → Has qs q × Faces p q)
    → Has (x ∷ rest) q → Has (x ∷ qs) q × Faces p q
facing_first p x qs rest q faces go (inl e) = (inl e, subst (Faces p) e faces)
facing_first p x qs rest q faces go (inr has) = let m = go has in (inr m.0, m.1)

facing_member : (Out : DeliveredPath → Type 0) (p : DeliveredPath) (qs fs : List DeliveredPath) (q : DeliveredPath) → AreFacingBy Out p qs fs → Has fs q
    → Has qs q × Faces p q
facing_member Out p [] fs q h has = absurd (subst (λ gs. Has gs q) h has)
facing_member Out p (x ∷ qs) fs q (inl h) has =
    facing_first p x qs h.1 q h.0 (facing_member Out p qs h.1 q h.3) (subst (λ gs. Has gs q) h.2 has)
facing_member Out p (x ∷ qs) fs q (inr h) has = let m = facing_member Out p qs fs q h.1 has in (inr m.0, m.1)

facing_or_out : (Out : DeliveredPath → Type 0) (p : DeliveredPath) (qs fs : List DeliveredPath) (q : DeliveredPath) → AreFacingBy Out p qs fs → Has qs q → Has fs q ⊎ Out q
facing_or_out Out p [] fs q h has = absurd has
facing_or_out Out p (x ∷ qs) fs q (inl h) (inl e) = inl (subst (λ gs. Has gs q) (sym h.2) (inl e))
facing_or_out Out p (x ∷ qs) fs q (inl h) (inr has) =
    elim (facing_or_out Out p qs h.1 q h.3 has) [ inl k ↦ inl (subst (λ gs. Has gs q) (sym h.2) (inr k)) | inr k ↦ inr k ]
facing_or_out Out p (x ∷ qs) fs q (inr h) (inl e) = inr (subst Out e h.0)
facing_or_out Out p (x ∷ qs) fs q (inr h) (inr has) = facing_or_out Out p qs fs q h.1 has

-- the formula of a path that faces it
record FormulaOf (p q : DeliveredPath) (fs : List FormulaTree) : Type 0 where
  pub formula : FormulaTree
  pub is : IsFacingFormula p q formula
  pub among : Has fs formula

formula_of : (p : DeliveredPath) (qs : List DeliveredPath) (fs : List FormulaTree) (q : DeliveredPath) → AreFacingFormulas p qs fs → Has qs q → FormulaOf p q fs
formula_of p [] fs q h has = absurd has
formula_of p (x ∷ qs) fs q h (inl e) = record {
  formula = h.0;
  is = subst (λ y. IsFacingFormula p y h.0) e h.1;
  among = subst (λ gs. Has gs h.0) (sym h.4) (inl refl);
}
formula_of p (x ∷ qs) fs q h (inr has) =
    let k = formula_of p qs h.2 q h.3 has in
    record { formula = k.formula; is = k.is; among = subst (λ gs. Has gs k.formula) (sym h.4) (inr k.among) }

-- where not all of them are false, one is true
record TrueOf (v : List ℕ) (p : DeliveredPath) (qs : List DeliveredPath) : Type 0 where
  pub facing : DeliveredPath
  pub among : Has qs facing
  pub formula : FormulaTree
  pub is : IsFacingFormula p facing formula
  pub held : truth_at formula v ≡ true

later_true : (v : List ℕ) (p x : DeliveredPath) (qs : List DeliveredPath) → TrueOf v p qs → TrueOf v p (x ∷ qs)
later_true v p x qs t = record { facing = t.facing; among = inr t.among; formula = t.formula; is = t.is; held = t.held }

first_true : (v : List ℕ) (p q : DeliveredPath) (qs : List DeliveredPath) (f : FormulaTree) → IsFacingFormula p q f → (rest : List FormulaTree)
    → (list_all (holds_there v) (map must_not rest) ≡ false → TrueOf v p qs) → list_all (holds_there v) (map must_not (f ∷ rest)) ≡ false
    → (b : Bool) → truth_at f v ≡ b → TrueOf v p (q ∷ qs)
first_true v p q qs f is rest go fails true e = record { facing = q; among = inl refl; formula = f; is = is; held = e }
first_true v p q qs f is rest go fails false e =
    later_true v p q qs (go (right_fails (not (truth_at f v)) (list_all (holds_there v) (map must_not rest)) (ap not e) fails))

true_of : (v : List ℕ) (p : DeliveredPath) (qs : List DeliveredPath) (fs : List FormulaTree) → AreFacingFormulas p qs fs
    → list_all (holds_there v) (map must_not fs) ≡ false → TrueOf v p qs
true_of v p [] fs h fails = absurd (true≢false (subst (λ gs. list_all (holds_there v) (map must_not gs) ≡ false) h fails))
true_of v p (q ∷ qs) fs h fails =
    first_true v p q qs h.0 h.1 h.2 (true_of v p qs h.2 h.3) (subst (λ gs. list_all (holds_there v) (map must_not gs) ≡ false) h.4 fails) (truth_at h.0 v) refl

-- ---- widths that begin with those of the unknown fields

abbrev StartsWith : List ℕ → List ℕ → Type 0
StartsWith us ws = (more : List ℕ) × (ws ≡ us ++ more)

longer_starts : (us ws vs : List ℕ) → StartsWith us ws → StartsWith us vs → StartsWith us (longer ws vs)
longer_starts us ws vs h k = chosen (nat_lt (length ws) (length vs))
  where
    chosen : (b : Bool) → StartsWith us (if b then vs else ws)
    chosen true = k
    chosen false = h

longest_starts : (us ws : List ℕ) (qs : List DeliveredPath) → StartsWith us ws → AllByRecursion (λ q. StartsWith us q.condition.widths) qs → StartsWith us (longest ws qs)
longest_starts us ws [] h k = h
longest_starts us ws (q ∷ qs) h k = longest_starts us (longer ws q.condition.widths) qs (longer_starts us ws q.condition.widths h k.0) k.1

fits_front : (us more vs : List ℕ) → AreValues (us ++ more) vs → length vs ≡ length (us ++ more) → FitWidths us vs
fits_front [] more vs h e = tt
fits_front (u ∷ us) more [] h e = let bad : 0 ≡ suc (length (us ++ more)) = e in omega (arith, bad)
fits_front (u ∷ us) more (v ∷ vs) h e =
    let rest : suc (length vs) ≡ suc (length (us ++ more)) = e in
    (h 0 u refl, fits_front us more vs (λ s w k. h (suc s) w k) (omega (arith, rest)))

-- ---- two nets

module _ (below : Below) (hops : ℕ) (l r : Half) (own : l.entry.own ≡ r.entry.own) (wl : IsWhole hops l) (wr : IsWhole hops r) where
  abbrev ls : List DeliveredPath
  ls = paths_of l

  abbrev rs : List DeliveredPath
  rs = paths_of r

  unknowns_alike : l.start.unknowns ≡ r.start.unknowns
  unknowns_alike = unknowns_are below hops l wl ∙ (ap (λ o. unknown_widths o.fields) own ∙ sym (unknowns_are below hops r wr))

  -- ---- where the miss condition of each left path is refuted, what is delivered on the left is so on the right

  delivered_too : AllByRecursion (IsOutAt IsKnownMiss IsImpossible rs) ls → (v : List ℕ) (seen : Output)
      → Delivers l.net l.entry hops v seen → Delivers r.net r.entry hops v seen
  delivered_too out v seen d =
      let t : TakenPath v (output_of l.net d.walk) ls = walk_path below hops l wl v d.walk d.is d.delivered in
      let p = t.path' in
      let here = has_all (IsOutAt IsKnownMiss IsImpossible rs) ls p out t.among in
      let c = here.0 in
      let miss = here.1 in
      let fails : list_all (holds_there v) c.entries ≡ false = here.2.never v in
      let later = later_fails (holds_there v) p.condition.entries (map must_not miss.formulas) t.holds
      (subst (λ es. list_all (holds_there v) es ≡ false) miss.entries fails) in
      let found = true_of v p miss.facing miss.formulas miss.are_formulas later in
      let q = found.facing in
      let member = facing_member (IsApart p) p rs miss.facing q miss.are_facing found.among in
      let taken = facing_taken v p q found.formula found.is (sym member.1.layout) t.holds found.held in
      let fits : FitWidths r.start.unknowns v =
      subst (λ ws. FitWidths ws v) (ap (λ o. unknown_widths o.fields) own ∙ sym (unknowns_are below hops r wr)) d.is.1.fits in
      let w : PathWalk below hops r wr v q = path_walk below hops r wr v q member.0 fits taken.0 in
      let exits = w.exit ∙ (member.1.exit ∙ t.exit) in
      let heads = w.heads ∙ (sym taken.1 ∙ t.heads) in
      let outputs : output_of r.net w.walk ≡ output_of l.net d.walk = λ i. record { exit = exits i; heads = heads i } in
      record { walk = w.walk; is = w.is; delivered = w.ended; output = outputs ∙ d.output }

  -- ---- where that of a left path is met, its values are delivered there as they are not on the right

  starts_alike : (q : DeliveredPath) → Has rs q → StartsWith l.start.unknowns q.condition.widths
  starts_alike q has = let k = path_widths below hops r wr q has in (k.0, k.1 ∙ ap (λ us. us ++ k.0) (sym unknowns_alike))

  module _ (p : DeliveredPath) (has : Has ls p) (values : List ℕ) (met : IsMetAt IsKnownMiss IsImpossible rs p values) where
    abbrev c : SymCondition
    c = met.0

    true_here : AreFitting c.widths values × Satisfy values c
    true_here = below.verdicts.met_is_true c values met.2

    all_here : list_all (holds_there values) (p.condition.entries ++ map must_not met.1.formulas) ≡ true
    all_here = subst (λ es. list_all (holds_there values) es ≡ true) met.1.entries true_here.1

    own_here : Satisfy values p.condition
    own_here = pass_first (holds_there values) p.condition.entries (map must_not met.1.formulas) all_here

    facing_starts : AllByRecursion (λ q. StartsWith l.start.unknowns q.condition.widths) met.1.facing
    facing_starts =
        all_of_has _ met.1.facing (λ q k. starts_alike q (facing_member (IsApart p) p rs met.1.facing q met.1.are_facing k).0)

    fits_here : FitWidths l.start.unknowns values
    fits_here =
        let k = longest_starts l.start.unknowns p.condition.widths met.1.facing (path_widths below hops l wl p has) facing_starts in
        let widths : c.widths ≡ l.start.unknowns ++ k.0 = met.1.widths ∙ k.1 in
        fits_front l.start.unknowns k.0 values (subst (λ ws. AreValues ws values) widths true_here.0.fit) (true_here.0.one_each ∙ ap length widths)

    its_walk : PathWalk below hops l wl values p
    its_walk = path_walk below hops l wl values p has fits_here own_here

    -- a path on the right with the same output would face it, and its formula be true
    not_faced : (q : DeliveredPath) → Satisfy values q.condition → heads_at values p.heads ≡ heads_at values q.heads → Has met.1.facing q → ⊥
    not_faced q holds heads k =
        let f = formula_of p met.1.facing met.1.formulas q met.1.are_formulas k in
        let held = taken_facing values p q f.formula f.is holds heads in
        let denied : not (truth_at f.formula values) ≡ true =
        has_pass (holds_there values) (map must_not met.1.formulas) (must_not f.formula)
        (pass_later (holds_there values) p.condition.entries (map must_not met.1.formulas) all_here) (has_mapped must_not met.1.formulas f.formula f.among) in
        true≢false (sym denied ∙ ap not held)

    -- and one that is apart has another
    not_apart : (q : DeliveredPath) → Satisfy values q.condition → heads_at values p.heads ≡ heads_at values q.heads → q.exit ≡ p.exit → IsApart p q → ⊥
    not_apart q holds heads exit (inl k) = k exit
    not_apart q holds heads exit (inr (inl k)) = k (sym (heads_laid values q.heads) ∙ (ap layout_of (sym heads) ∙ heads_laid values p.heads))
    not_apart q holds heads exit (inr (inr k)) =
        true≢false (sym (pass_append (holds_there values) p.condition.entries q.condition.entries own_here holds)
        ∙ k.never values)

    not_delivered : Delivers r.net r.entry hops values (output_of l.net its_walk.walk) → ⊥
    not_delivered d =
        let t : TakenPath values (output_of r.net d.walk) rs = walk_path below hops r wr values d.walk d.is d.delivered in
        let q = t.path' in
        let exits : q.exit ≡ p.exit = t.exit ∙ (ap (λ (o : Output). o.exit) d.output ∙ its_walk.exit) in
        let heads : heads_at values p.heads ≡ heads_at values q.heads = sym its_walk.heads ∙ (ap (λ (o : Output). o.heads) (sym d.output) ∙ sym t.heads) in
        elim (facing_or_out (IsApart p) p rs met.1.facing q met.1.are_facing t.among) [
          | inl k ↦ not_faced q t.holds heads k
          | inr k ↦ not_apart q t.holds heads exits k
        ]

    missed : IsMissedBy hops l r p.number values
    missed = record {
      shower = its_walk.shower;
      numbered = its_walk.at;
      walk = its_walk.walk;
      is = its_walk.is;
      decisions = its_walk.decisions;
      delivered = its_walk.ended;
      meets = below.alike l.net r.net l.entry r.entry wl.job wr.job own values (its_walk.is.0, its_walk.is.1);
      missed = not_delivered;
    }

  first_missed : (ps : List DeliveredPath) → ((p : DeliveredPath) → Has ps p → Has ls p) → (number : ℕ) (values : List ℕ)
      → IsFirstMet IsKnownMiss IsImpossible rs ps number values → IsMissedBy hops l r number values
  first_missed [] within number values h = absurd h
  first_missed (p ∷ ps) within number values (inl h) =
      subst (λ n. IsMissedBy hops l r n values) (sym h.0) (missed p (within p (inl refl)) values h.1)
  first_missed (p ∷ ps) within number values (inr h) = first_missed ps (λ q k. within q (inr k)) number values h.1

pub known_is_right : Below → (hops : ℕ) → KnownIsRight hops
known_is_right below hops l r own wl wr same h = λ v seen. (
  delivered_too below hops l r own wl wr h.0 v seen,
  delivered_too below hops r l (sym own) wr wl h.1 v seen,
)
known_is_right below hops l r own wl wr (other true number values) h = first_missed below hops l r own wl wr (paths_of l) (λ p k. k) number values h
known_is_right below hops l r own wl wr (other false number values) h =
    first_missed below hops r l (sym own) wr wl (paths_of r) (λ p k. k) number values h.1
known_is_right below hops l r own wl wr (unknown ns ms) h = tt
