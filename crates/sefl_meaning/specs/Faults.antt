-- The faults of expressions and conditions, by the references that they read.
use Rattle.std.specs.Prelude.{ℕ, List, [], ◌∷◌, Option, None, Some, Result, Ok, Err}
use Rattle.sn_width.specs.declared.faults.LayoutFault.{LayoutFault}
use Rattle.sefl_syntax.specs.declared.reference.Target.{Target}
use Rattle.job_items.specs.Atoms.{Atom}
use Rattle.job_items.specs.AtomRules.{atom_width}
use Rattle.sefl_meaning.specs.Carried.{Carried, Scene, read_at}

abbrev pub fault_of : {A : Type 0} → Result A LayoutFault → Option LayoutFault
fault_of (Ok x) = None
fault_of (Err fault) = Some fault

-- the earlier fault, or the later one where there is none
abbrev pub earlier : Option LayoutFault → Option LayoutFault → Option LayoutFault
earlier None later = later
earlier (Some fault) later = Some fault

module _ {V : Type 0} (at : Scene) where
  -- the first fault of reading these references at a width, in their order
  abbrev pub reads_fault : ℕ → List Target → Carried V → Option LayoutFault
  reads_fault w [] s = None
  reads_fault w (target ∷ targets) s = earlier (fault_of (read_at at w target s)) (reads_fault w targets s)

  -- the first fault of reading the references of these atoms, in their order
  abbrev pub atoms_fault : List Atom → Carried V → Option LayoutFault
  atoms_fault [] s = None
  atoms_fault (a ∷ atoms) s = earlier (reads_fault (atom_width a) a.reads s) (atoms_fault atoms s)
