-- The walk with given decisions among those of a list of packets on their way.
use Rattle.std.proofs.Common.{◌≡◌, List, [], ◌∷◌, ◌++◌, map, reverse, refl, ap, ◌∙◌, subst, ◌⊎◌, inl, inr}
use Rattle.std.proofs.lemmas.List.{reverse-append}
use Rattle.std.specs.List.{AllByRecursion}
use Rattle.sefl_meaning.specs.declared.walk.Decision.{Decision}
use Rattle.sefl_meaning.specs.declared.walk.Place.{Place}
use Rattle.sefl_meaning.specs.Routes.{Has}
use Rattle.sefl_meaning.specs.Walks.{Passage, Trail}
use Rattle.sefl_meaning.specs.Network.{Network}
use Rattle.concrete_run.specs.declared.pending.Pending.{Pending}
use Rattle.packet_run.specs.Packets.{given_of, progress_of}
use Rattle.concrete_run.specs.Pending.{BeginsWith, Sought, led, walks_at, walks_of, walks_of_all}

has_first : (xs ys : List Trail) (t : Trail) → Has xs t → Has (xs ++ ys) t
has_first [] ys t h = absurd h
has_first (x ∷ xs) ys t (inl e) = inl e
has_first (x ∷ xs) ys t (inr h) = inr (has_first xs ys t h)

has_second : (xs ys : List Trail) (t : Trail) → Has ys t → Has (xs ++ ys) t
has_second [] ys t h = h
has_second (x ∷ xs) ys t h = inr (has_second xs ys t h)

has_either : (xs ys : List Trail) (t : Trail) → Has (xs ++ ys) t → Has xs t ⊎ Has ys t
has_either [] ys t h = inr h
has_either (x ∷ xs) ys t (inl e) = inl (inl e)
has_either (x ∷ xs) ys t (inr h) = elim (has_either xs ys t h) [ inl l ↦ inl (inr l) | inr r ↦ inr r ]

all_of : (P : Trail → Type 0) (ts : List Trail) → ((t : Trail) → Has ts t → P t) → AllByRecursion P ts
all_of P [] h = tt
all_of P (t ∷ ts) h = (h t (inl refl), all_of P ts (λ u m. h u (inr m)))

-- walks behind decisions begin with these
led_begins : (ds : List Decision) (ps : List Place) (ts : List Passage) (t : Trail) → Has (map (led ds ps) ts) t → BeginsWith ds t.decisions
led_begins ds ps [] t h = absurd h
led_begins ds ps (u ∷ us) t (inl e) = (u.decisions, ap (λ (x : Trail). x.decisions) e)
led_begins ds ps (u ∷ us) t (inr h) = led_begins ds ps us t h

module _ (net : Network) (ds : List Decision) where
  -- without a packet that has no walk with the decisions
  pub sought_less : (p : Pending) (work : List Pending) (all : List Trail)
      → ((t : Trail) → Has (walks_of net p) t → t.decisions ≡ ds → ⊥) → Sought net ds (p ∷ work) all → Sought net ds work all
  sought_less p work all none before = record {
    within = λ t h. before.within t (has_second (walks_of net p) (walks_of_all net work) t h);
    kept = λ t h d. elim (has_either (walks_of net p) (walks_of_all net work) t (before.kept t h d)) [ inl l ↦ absurd (none t l d) | inr r ↦ r ];
  }

  pub none_sought : (work : List Pending) (all : List Trail) → work ≡ [] → Sought net ds work all → AllByRecursion (λ t. t.decisions ≡ ds → ⊥) all
  none_sought work all e before =
      all_of (λ t. t.decisions ≡ ds → ⊥) all (λ t h d. subst (λ l. Has (walks_of_all net l) t) e (before.kept t h d))

  -- no walk of a packet whose decisions are not the first of those that are sought
  pub none_led : (p : Pending) → (BeginsWith p.packet.decisions.items ds → ⊥) → (t : Trail) → Has (walks_of net p) t → t.decisions ≡ ds → ⊥
  none_led p other t h e =
      let begins = led_begins p.packet.decisions.items p.places.items (walks_at net (given_of p.packet) p.stage p.hops (progress_of p.packet)) t h in
      other (begins.0, begins.1 ∙ e)

-- the last of a stack is the first of its work
pub popped : (old new : List Pending) (p : Pending) → old ≡ new ++ p ∷ [] → reverse old ≡ p ∷ reverse new
popped old new p e = ap reverse e ∙ reverse-append new (p ∷ [])
