-- What the values of a program are seen as.
use Rattle.sefl_meaning.specs.declared.walk.Carried as walk
use Rattle.sefl_meaning.specs.declared.walk.Walk.{Walk}
use Rattle.sefl_meaning.specs.Carried.{Carried}
use Rattle.sefl_meaning.specs.Walks.{Trail}

abbrev pub carried_of : {V : Type 0} → walk.Carried V → Carried V
carried_of s = record { layers = s.layers; scopes = s.scopes }

abbrev pub trail_of : Walk → Trail
trail_of w = record { decisions = w.decisions.items; places = w.places.items; end' = w.end; state = carried_of w.state }
