-- What changes what is carried: steps, and choices.
use Rattle.std.specs.Prelude.{ℕ, List, [], ◌∷◌, ◌++◌, length, Result}
use Rattle.sn_width.specs.declared.faults.LayoutFault.{LayoutFault}
use Rattle.sefl_syntax.specs.declared.reference.Target.{Target}
use Rattle.cell_stacks.specs.Outcome.{on_ok}
use Rattle.job_items.specs.AtomRules.{width_of}
use Rattle.sefl_meaning.specs.Values.{Values}
use Rattle.sefl_meaning.specs.Carried.{Carried, Scene}
use Rattle.sefl_meaning.specs.Steps.{assigned}
pub use Rattle.instr_steps.specs.Stepping.{stepped}

-- what is carried, and the widths of the choices so far
abbrev pub Held : Type 0 → Type 0
Held V = Carried V × List ℕ

abbrev pub with_choices : {V : Type 0} → List ℕ → Carried V → Held V
with_choices choices s = (s, choices)

-- the next choice, at the target's width, is put into the top cell
abbrev pub chosen : {V F : Type 0} → Values V F → Scene → Target → Held V → Result (Held V) LayoutFault
chosen o at target h =
    on_ok (with_choices (h.1 ++ width_of target ∷ [])) (assigned at target (o.choice (width_of target) (length h.1)) h.0)
