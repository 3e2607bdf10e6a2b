-- The places of instructions as the code keeps them.
use Rattle.std.specs.Prelude.{ℕ, List, [], ◌∷◌}
use Rattle.job_items.specs.declared.place.Vars.{Vars}
use Rattle.job_items.specs.declared.place.Vars.TheVariants.{Free, One, Two}
use Rattle.job_items.specs.declared.place.Place as code
use Rattle.job_items.specs.Items.{Place}

abbrev pub vars_of : Vars → List (List ℕ)
vars_of Free = []
vars_of (One inner) = inner.now ∷ []
vars_of (Two inner outer) = inner.now ∷ outer.now ∷ []

abbrev pub place_of : code.Place → Place
place_of p = record { outs = p.outs; side = p.side; vars = vars_of p.vars }
