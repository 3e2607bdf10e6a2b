-- Tables in which the first entry of a key counts.
use Rattle.std.proofs.Common.{◌≡◌, ℕ, Bool, true, false, cond, ◌&&◌, Option, Some, None, refl, sym, ◌∙◌, ap, ap₂, subst}
use Rattle.std.specs.Cmp.{unsigned_tied}
use Rattle.std.specs.Option.{option_or, is_some}
use Rattle.std.specs.Ordering.{is_eq, nat_cmp, ordering_then}
use Rattle.std.specs.declared.cmp.Ordering.{Ordering}
use Rattle.std.specs.declared.cmp.Ordering.TheVariants.{Less, Equal, Greater}
use Rattle.std.proofs.lemmas.Bool.{and_parts, eqb-true, false≢true}
use Rattle.sn_width.specs.declared.ids.NodeId.{NodeId}
use Rattle.net_check.specs.Lookups.{port_cmp, port_of}
use Rattle.net_check.specs.Places.{is_same_port}

pub option_or-none : {A : Type 0} (o : Option A) → option_or o None ≡ o
option_or-none None = refl
option_or-none (Some x) = refl

pub option_or-option_or : {A : Type 0} (a b c : Option A) → option_or (option_or a b) c ≡ option_or a (option_or b c)
option_or-option_or None b c = refl
option_or-option_or (Some x) b c = refl

pub option_or-cond : {A : Type 0} (t : Bool) (x : A) (rest : Option A) → option_or (cond t (Some x) None) rest ≡ cond t (Some x) rest
option_or-cond true x rest = refl
option_or-cond false x rest = refl

pub none_from_test : {A : Type 0} (o : Option A) → is_some o ≡ false → o ≡ None
none_from_test None h = refl
none_from_test (Some x) h = absurd (false≢true (sym h))

module _ {K V : Type 0} (same : K → K → Bool) (is_exact : (a b : K) → same a b ≡ true → a ≡ b) where
  enters_by : (old : K → Option V) (k q : K) (v : V) (b : Bool) → same k q ≡ b → old k ≡ None
      → cond b (Some v) (old q) ≡ option_or (old q) (cond b (Some v) None)
  enters_by old k q v true e none =
      let P : K → Type 0 = λ x. old x ≡ None in sym (ap (λ o. option_or o (Some v)) (subst P (is_exact k q e) none))
  enters_by old k q v false e none = sym (option_or-none (old q))

  -- a value that is entered at a key without one
  pub enters : (old new : K → Option V) (k : K) (v : V) → old k ≡ None → ((q : K) → new q ≡ cond (same k q) (Some v) (old q))
      → (q : K) → new q ≡ option_or (old q) (cond (same k q) (Some v) None)
  enters old new k v none made q = made q ∙ enters_by old k q v (same k q) refl none

  stays_by : (o : Option V) (old : K → Option V) (k q : K) (v : V) (b : Bool) → same k q ≡ b → old k ≡ o → is_some o ≡ true
      → old q ≡ option_or (old q) (cond b (Some v) None)
  stays_by None old k q v b e is there = absurd (false≢true there)
  stays_by (Some w) old k q v true e is there =
      let P : K → Type 0 = λ x. old x ≡ Some w in
      let here = subst P (is_exact k q e) is in here ∙ sym (ap (λ o. option_or o (Some v)) here)
  stays_by (Some w) old k q v false e is there = sym (option_or-none (old q))

  -- a key that has a value keeps it
  pub stays : (old : K → Option V) (k : K) (v : V) → is_some (old k) ≡ true → (q : K) → old q ≡ option_or (old q) (cond (same k q) (Some v) None)
  stays old k v there q = stays_by (old k) old k q v (same k q) refl refl there

is_eq-ordering_then : (o p : Ordering) → is_eq (ordering_then o p) ≡ (is_eq o && is_eq p)
is_eq-ordering_then Less p = refl
is_eq-ordering_then Equal p = refl
is_eq-ordering_then Greater p = refl

-- ports compare as equal where both numbers are
pub is_eq-port_cmp : (a b : NodeId × ℕ) → is_eq (port_cmp a b) ≡ is_same_port (port_of a) (port_of b)
is_eq-port_cmp a b =
    is_eq-ordering_then (nat_cmp a.0.0 b.0.0) (nat_cmp a.1 b.1) ∙ ap₂ (λ s t. s && t) (unsigned_tied a.0.0 b.0.0) (unsigned_tied a.1 b.1)

pub port_is_exact : (a b : NodeId × ℕ) → is_eq (port_cmp a b) ≡ true → a ≡ b
port_is_exact a b h =
    let parts = and_parts _ _ (sym (is_eq-port_cmp a b) ∙ h) in
    let node : a.0.0 ≡ b.0.0 = eqb-true a.0.0 b.0.0 parts.0 in
    let port : a.1 ≡ b.1 = eqb-true a.1 b.1 parts.1 in
    λ i. (record { 0 = node i }, port i)
