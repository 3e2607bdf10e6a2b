-- The order of decisions, and lists of them that begin with others.
use Rattle.std.proofs.Common.{◌≡◌, ◌<◌, inl, inr, true, false, List, [], ◌∷◌, ◌++◌, refl, sym, ap, subst, ◌∙◌, append_assoc, arith}
use Rattle.sefl_meaning.specs.declared.walk.Decision.{Decision}
use Rattle.sefl_meaning.specs.Courses.{Asking, at_if, at_constrain}
use Rattle.sefl_meaning.specs.Taken.{decision_at}
use Rattle.sefl_meaning.specs.Order.{BeginsWith, Parts, rank}
use Rattle.exact_records.proofs.Lists.{cancel, same_first}

pub parts_at : (ds : List Decision) (c d : Decision) (cs es : List Decision) → rank c < rank d → Parts (ds ++ c ∷ cs) (ds ++ d ∷ es)
parts_at [] c d cs es h = inl h
parts_at (e ∷ ds) c d cs es h = inr (refl, parts_at ds c d cs es h)

-- behind one decision
pub behind_one : (ds : List Decision) (d : Decision) (whole : List Decision) → BeginsWith (ds ++ d ∷ []) whole → (rest : List Decision) × (whole ≡ ds ++ d ∷ rest)
behind_one ds d whole h = (h.0, sym h.1 ∙ append_assoc ds (d ∷ []) h.0)

pub begins_part : (ds : List Decision) (d : Decision) (whole : List Decision) → BeginsWith (ds ++ d ∷ []) whole → BeginsWith ds whole
begins_part ds d whole h = let q = behind_one ds d whole h in (d ∷ q.0, sym q.1)

pub parts_of : (ds : List Decision) (c d : Decision) (xs ys : List Decision) → BeginsWith (ds ++ c ∷ []) xs → BeginsWith (ds ++ d ∷ []) ys → rank c < rank d → Parts xs ys
parts_of ds c d xs ys h k less =
    let p = behind_one ds c xs h in
    let q = behind_one ds d ys k in
    subst (λ zs. Parts zs ys) (sym p.1) (subst (λ zs. Parts (ds ++ c ∷ p.0) zs) (sym q.1) (parts_at ds c d p.0 q.0 less))

-- of what begins with one decision and begins another, the decision is the same
pub same_decision : (ds : List Decision) (c d : Decision) (es xs : List Decision) → BeginsWith (ds ++ c ∷ []) xs → BeginsWith xs (ds ++ d ∷ es) → c ≡ d
same_decision ds c d es xs h k =
    let p = behind_one ds c xs h in
    let e : ds ++ d ∷ es ≡ ds ++ (c ∷ p.0 ++ k.0) = sym k.1 ∙ (ap (λ zs. zs ++ k.0) p.1 ∙ append_assoc ds (c ∷ p.0) k.0) in
    sym (same_first (cancel ds (d ∷ es) (c ∷ p.0 ++ k.0) e))

pub less_asked : (asking : Asking) → rank (decision_at asking true) < rank (decision_at asking false)
less_asked at_if = omega arith
less_asked at_constrain = omega arith

pub less_not_same : (c d : Decision) → rank c < rank d → c ≡ d → ⊥
less_not_same c d h e = let same : rank c ≡ rank d = ap rank e in omega (arith, h, same)

-- a list parts from none that it begins with
pub parts_apart : (xs rest : List Decision) → Parts xs (xs ++ rest) → ⊥
parts_apart [] rest h = h
parts_apart (x ∷ xs) rest (inl h) = omega (arith, h)
parts_apart (x ∷ xs) rest (inr h) = parts_apart xs rest h.1

pub parts_apart_back : (xs rest : List Decision) → Parts (xs ++ rest) xs → ⊥
parts_apart_back [] [] h = h
parts_apart_back [] (r ∷ rest) h = h
parts_apart_back (x ∷ xs) rest (inl h) = omega (arith, h)
parts_apart_back (x ∷ xs) rest (inr h) = parts_apart_back xs rest h.1

pub parts_asym : (xs ys : List Decision) → Parts xs ys → Parts ys xs → ⊥
parts_asym [] ys h k = h
parts_asym (x ∷ xs) [] h k = h
parts_asym (x ∷ xs) (y ∷ ys) (inl h) (inl k) = omega (arith, h, k)
parts_asym (x ∷ xs) (y ∷ ys) (inl h) (inr k) = less_not_same x y h (sym k.0)
parts_asym (x ∷ xs) (y ∷ ys) (inr h) (inl k) = less_not_same y x k (sym h.0)
parts_asym (x ∷ xs) (y ∷ ys) (inr h) (inr k) = parts_asym xs ys h.1 k.1

-- longer lists part as well
pub parts_longer : (xs ys us vs : List Decision) → Parts xs ys → Parts (xs ++ us) (ys ++ vs)
parts_longer [] ys us vs h = absurd h
parts_longer (x ∷ xs) [] us vs h = absurd h
parts_longer (x ∷ xs) (y ∷ ys) us vs (inl h) = inl h
parts_longer (x ∷ xs) (y ∷ ys) us vs (inr h) = inr (h.0, parts_longer xs ys us vs h.1)
