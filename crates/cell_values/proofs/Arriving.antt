-- What is behind an arrival at an input port.
use Rattle.std.proofs.Common.{◌≡◌, ℕ, zero, suc, ◌-◌, ◌≤◌, List, map, Option, None, Some, SomeIff, refl, sym, ap, subst, arith}
use Rattle.sn_width.specs.declared.ids.NodeId.{NodeId}
use Rattle.sefl_syntax.specs.declared.net.Side.{Side}
use Rattle.sefl_syntax.specs.declared.net.Side.TheVariants.{Inward}
use Rattle.sefl_meaning.specs.Network.{Network}
use Rattle.sefl_meaning.specs.Runs.{Progress}
use Rattle.sefl_meaning.specs.Walks.{by_way_of, enter, place_at}
use Rattle.cell_values.specs.Hops.{AreLeft, behind_arrival, from_port}

-- one hop less is left, where there is one
one_less : (hops : ℕ) (left : Option ℕ) → SomeIff left (1 ≤ hops) (hops - 1) → AreLeft Inward hops left
one_less zero None none = refl
one_less (suc hops) None none = absurd (none (omega arith))
one_less hops (Some left) some = omega (arith, some.0, some.1)

pub less_inward : (side : Side) (hops : ℕ) (left : Option ℕ) → side ≡ Inward → SomeIff left (1 ≤ hops) (hops - 1) → AreLeft side hops left
less_inward side hops left is some = subst (λ (s : Side). AreLeft s hops left) (sym is) (one_less hops left some)

module _ (net : Network) (v : List ℕ) (unknowns : ℕ) (node : NodeId) (port : ℕ) (p : Progress ℕ) where
  -- the walks from a port go by the hops that are left
  abbrev pub GoesBy : Side → ℕ → Option ℕ → Type 0
  GoesBy side hops left =
      from_port net v unknowns side hops node port p ≡ map (by_way_of (place_at node side port) p) (behind_arrival net v unknowns side node port left p)

  entered : (hops : ℕ) (left : Option ℕ) → AreLeft Inward hops left → GoesBy Inward hops left
  entered hops None h = ap (λ (n : ℕ). enter net v unknowns n node port p) h
  entered hops (Some left) h = ap (λ (n : ℕ). enter net v unknowns n node port p) h

  pub goes_inward : (side : Side) (hops : ℕ) (left : Option ℕ) → side ≡ Inward → SomeIff left (1 ≤ hops) (hops - 1) → GoesBy side hops left
  goes_inward side hops left is some = subst (λ (s : Side). GoesBy s hops left) (sym is) (entered hops left (one_less hops left some))
