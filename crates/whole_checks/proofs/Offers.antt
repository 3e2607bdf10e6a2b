-- What one instruction offers, by the places in the order of decisions.
use Rattle.std.proofs.Common.{◌≡◌, ◌∙◌, ◌⊎◌, ◌<◌, ◌≤◌, ◌+◌, inl, inr, ℕ, zero, suc, true, false, refl, sym, ap, subst, arith}
use Rattle.sefl_meaning.specs.declared.walk.Decision.{Decision}
use Rattle.sefl_meaning.specs.declared.walk.Decision.TheVariants.{Then, Else, Pass, Broken, Copy}
use Rattle.sefl_meaning.specs.Courses.{Asking, at_if, at_constrain}
use Rattle.sefl_meaning.specs.Order.{Has, rank}
use Rattle.sefl_meaning.specs.Routes.{offered_copies, offers}
use Rattle.sefl_meaning.specs.Trees.{Copies, Tree, copy_and, no_copies, over, arrives, tests, splits}
use Rattle.whole_checks.specs.Chains.{base}

-- ---- places

-- the decision of a place
abbrev decision_of : ℕ → Decision
decision_of zero = Then
decision_of (suc zero) = Else
decision_of (suc (suc zero)) = Pass
decision_of (suc (suc (suc zero))) = Broken
decision_of (suc (suc (suc (suc n)))) = Copy n

there : (d : Decision) → decision_of (rank d) ≡ d
there Then = refl
there Else = refl
there Pass = refl
there Broken = refl
there (Copy n) = let same : 4 + n ≡ suc (suc (suc (suc n))) = omega arith in ap decision_of same

pub one_place : (c d : Decision) → rank c ≡ rank d → c ≡ d
one_place c d e = sym (there c) ∙ (ap decision_of e ∙ there d)

pub same_or_less : (a b : ℕ) → a ≤ b → (a ≡ b) ⊎ (a < b)
same_or_less zero zero h = inl refl
same_or_less zero (suc b) h = inr (omega arith)
same_or_less (suc a) zero h = absurd (omega (arith, h))
same_or_less (suc a) (suc b) h =
    elim (same_or_less a b (omega (arith, h))) [
      | inl e ↦ inl (ap suc e)
      | inr k ↦ inr (omega (arith, k))
    ]

-- ---- copies

module _ {V F : Type 0} where
  copy_is : (first : ℕ) (branches : Copies V F) (d : Decision) → Has (offered_copies first branches) d → (n : ℕ) × (d ≡ Copy n)
  copy_is first no_copies d h = absurd h
  copy_is first (copy_and t branches) d (inl e) = (first, sym e)
  copy_is first (copy_and t branches) d (inr h) = copy_is (suc first) branches d h

  copies_filled : (more first : ℕ) (branches : Copies V F) (n : ℕ) → Has (offered_copies first branches) (Copy n) → first + more ≤ n
      → Has (offered_copies first branches) (Copy (first + more))
  copies_filled more first no_copies n h few = absurd h
  copies_filled zero first (copy_and t branches) n h few = inl (let same : first ≡ first + 0 = omega arith in ap Copy same)
  copies_filled (suc more) first (copy_and t branches) n (inl e) few =
      let same : first ≡ n = let places : 4 + first ≡ 4 + n = ap rank e in omega (arith, places) in
      absurd (omega (arith, few, same))
  copies_filled (suc more) first (copy_and t branches) n (inr h) few =
      let same : suc first + more ≡ first + suc more = omega arith in
      inr (subst (λ k. Has (offered_copies (suc first) branches) (Copy k)) same (copies_filled more (suc first) branches n h (omega (arith, few))))

  -- ---- all instructions

  least_of_copies : (branches : Copies V F) (c d : Decision) → Has (offered_copies 0 branches) c → Has (offered_copies 0 branches) d → base c ≤ rank d
  least_of_copies branches c d h k =
      let a = copy_is 0 branches c h in
      let b = copy_is 0 branches d k in
      subst (λ (x : Decision). base x ≤ rank d) (sym a.1) (subst (λ (x : Decision). 4 ≤ rank x) (sym b.1) (omega arith))

  -- none that is offered beside it comes before the least of its kind
  pub least : (t : Tree V F) (c d : Decision) → Has (offers t) c → Has (offers t) d → base c ≤ rank d
  least (over p end') c d h k = absurd h
  least (arrives place p t) c d h k = least t c d h k
  least (tests at_if p test held broken) c d (inl e) k = subst (λ (x : Decision). base x ≤ rank d) e (omega arith)
  least (tests at_if p test held broken) c d (inr (inl e)) k = subst (λ (x : Decision). base x ≤ rank d) e (omega arith)
  least (tests at_if p test held broken) c d (inr (inr h)) k = absurd h
  least (tests at_constrain p test held broken) c d (inl e) (inl f) =
      subst (λ (x : Decision). base x ≤ rank d) e (subst (λ (x : Decision). 2 ≤ rank x) f (omega arith))
  least (tests at_constrain p test held broken) c d (inl e) (inr (inl f)) =
      subst (λ (x : Decision). base x ≤ rank d) e (subst (λ (x : Decision). 2 ≤ rank x) f (omega arith))
  least (tests at_constrain p test held broken) c d (inl e) (inr (inr k)) = absurd k
  least (tests at_constrain p test held broken) c d (inr (inl e)) (inl f) =
      subst (λ (x : Decision). base x ≤ rank d) e (subst (λ (x : Decision). 2 ≤ rank x) f (omega arith))
  least (tests at_constrain p test held broken) c d (inr (inl e)) (inr (inl f)) =
      subst (λ (x : Decision). base x ≤ rank d) e (subst (λ (x : Decision). 2 ≤ rank x) f (omega arith))
  least (tests at_constrain p test held broken) c d (inr (inl e)) (inr (inr k)) = absurd k
  least (tests at_constrain p test held broken) c d (inr (inr h)) k = absurd h
  least (splits p branches) c d h k = least_of_copies branches c d h k

  -- a decision of this place, if one is offered
  abbrev pub OfferedAt : Tree V F → ℕ → Type 0
  OfferedAt t place = (d : Decision) × Has (offers t) d × (rank d ≡ place)

  at_place : (t : Tree V F) (d : Decision) (place : ℕ) → Has (offers t) d → rank d ≡ place → OfferedAt t place
  at_place t d place h e = (d, h, e)

  filled_copies : (p : _) (branches : Copies V F) (n place : ℕ) → Has (offered_copies 0 branches) (Copy n) → 4 ≤ place → place ≤ 4 + n → OfferedAt (splits p branches) place
  filled_copies p branches n zero h low high = absurd (omega (arith, low))
  filled_copies p branches n (suc zero) h low high = absurd (omega (arith, low))
  filled_copies p branches n (suc (suc zero)) h low high = absurd (omega (arith, low))
  filled_copies p branches n (suc (suc (suc zero))) h low high = absurd (omega (arith, low))
  filled_copies p branches n (suc (suc (suc (suc k)))) h low high =
      let same : 0 + k ≡ k = omega arith in
      (Copy k, subst (λ m. Has (offered_copies 0 branches) (Copy m)) same (copies_filled k 0 branches n h (omega (arith, high))), omega arith)

  -- between the least of its kind and itself each place has one that is offered
  pub filled : (t : Tree V F) (c : Decision) (place : ℕ) → Has (offers t) c → base c ≤ place → place ≤ rank c → OfferedAt t place
  filled (over p end') c place h low high = absurd h
  filled (arrives at p t) c place h low high = filled t c place h low high
  filled (tests at_if p test held broken) c zero h low high = (Then, inl refl, refl)
  filled (tests at_if p test held broken) c (suc zero) h low high = (Else, inr (inl refl), refl)
  filled (tests at_if p test held broken) c (suc (suc k)) (inl e) low high = absurd (let r : rank Then ≡ rank c = ap rank e in omega (arith, r, high))
  filled (tests at_if p test held broken) c (suc (suc k)) (inr (inl e)) low high = absurd (let r : rank Else ≡ rank c = ap rank e in omega (arith, r, high))
  filled (tests at_if p test held broken) c (suc (suc k)) (inr (inr h)) low high = absurd h
  filled (tests at_constrain p test held broken) c (suc (suc zero)) h low high = (Pass, inl refl, refl)
  filled (tests at_constrain p test held broken) c (suc (suc (suc zero))) h low high = (Broken, inr (inl refl), refl)
  filled (tests at_constrain p test held broken) c (suc (suc (suc (suc k)))) (inl e) low high = absurd (let r : rank Pass ≡ rank c = ap rank e in omega (arith, r, high))
  filled (tests at_constrain p test held broken) c (suc (suc (suc (suc k)))) (inr (inl e)) low high = absurd (let r : rank Broken ≡ rank c = ap rank e in omega (arith, r, high))
  filled (tests at_constrain p test held broken) c (suc (suc (suc (suc k)))) (inr (inr h)) low high = absurd h
  filled (tests at_constrain p test held broken) c zero (inl e) low high = absurd (let r : base Pass ≡ base c = ap base e in omega (arith, r, low))
  filled (tests at_constrain p test held broken) c zero (inr (inl e)) low high = absurd (let r : base Broken ≡ base c = ap base e in omega (arith, r, low))
  filled (tests at_constrain p test held broken) c zero (inr (inr h)) low high = absurd h
  filled (tests at_constrain p test held broken) c (suc zero) (inl e) low high = absurd (let r : base Pass ≡ base c = ap base e in omega (arith, r, low))
  filled (tests at_constrain p test held broken) c (suc zero) (inr (inl e)) low high = absurd (let r : base Broken ≡ base c = ap base e in omega (arith, r, low))
  filled (tests at_constrain p test held broken) c (suc zero) (inr (inr h)) low high = absurd h
  filled (splits p branches) c place h low high =
      let a = copy_is 0 branches c h in
      filled_copies p branches a.0 place (subst (Has (offered_copies 0 branches)) a.1 h)
      (subst (λ (x : Decision). base x ≤ place) a.1 low) (subst (λ (x : Decision). place ≤ rank x) a.1 high)

  -- a test offers both of its sides
  pub else_offered : (t : Tree V F) → Has (offers t) Then → Has (offers t) Else
  else_offered (over p end') h = h
  else_offered (arrives place p t) h = else_offered t h
  else_offered (tests at_if p test held broken) h = inr (inl refl)
  else_offered (tests at_constrain p test held broken) (inl e) = absurd (let r : rank Pass ≡ rank Then = ap rank e in omega (arith, r))
  else_offered (tests at_constrain p test held broken) (inr (inl e)) = absurd (let r : rank Broken ≡ rank Then = ap rank e in omega (arith, r))
  else_offered (tests at_constrain p test held broken) (inr (inr h)) = absurd h
  else_offered (splits p branches) h = absurd (let a = copy_is 0 branches Then h in let r : rank Then ≡ rank (Copy a.0) = ap rank a.1 in omega (arith, r))

  pub broken_offered : (t : Tree V F) → Has (offers t) Pass → Has (offers t) Broken
  broken_offered (over p end') h = h
  broken_offered (arrives place p t) h = broken_offered t h
  broken_offered (tests at_constrain p test held broken) h = inr (inl refl)
  broken_offered (tests at_if p test held broken) (inl e) = absurd (let r : rank Then ≡ rank Pass = ap rank e in omega (arith, r))
  broken_offered (tests at_if p test held broken) (inr (inl e)) = absurd (let r : rank Else ≡ rank Pass = ap rank e in omega (arith, r))
  broken_offered (tests at_if p test held broken) (inr (inr h)) = absurd h
  broken_offered (splits p branches) h = absurd (let a = copy_is 0 branches Pass h in let r : rank Pass ≡ rank (Copy a.0) = ap rank a.1 in omega (arith, r))
