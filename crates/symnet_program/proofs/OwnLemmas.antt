-- Where all inputs are good, the status tells what the own work comes to.
use Rattle.std.proofs.Common.{◌≡◌, ◌⊎◌, inl, inr, refl, subst, List, ℕ, Bool, Option, None, Some}
use Rattle.command_runs.specs.Outside.{World, world}
use Rattle.command_runs.specs.Inputs.{Input, Given, AllOpen, FirstFails, IsSettled}
use Rattle.command_edge.specs.Puts.{Outcome, text, refused}
use Rattle.command_runs.specs.Runs.{OwnWork}
use Rattle.command_edge.specs.declared.ending.Ending.TheVariants as ending
use Rattle.command_edge.specs.declared.fault.InputFault.{InputFault}
use Rattle.command_edge.specs.declared.fault.InputFault.TheVariants as input
use Rattle.command_edge.specs.declared.fault.OwnFault.TheVariants as own
use Rattle.symnet_program.specs.Program.{Cause, Comes}
use Rattle.command_runs.specs.Status.{outcome_status}
use Rattle.symnet_program.specs.Told.{MayStop}
use Rattle.command_runs.specs.declared.status.Status.{Status}
use Rattle.command_runs.specs.declared.status.Status.TheVariants.{Done, NoMemory, Usage, NoFile, ReadFault, WriteFault, TooBig, Syntax, BadPattern, Refused, BadTable, BadPacket, Partial, TooMany, BadReport, NotConfirmed, BadAsk, BadCompare}

module _ (is : List Input) (w : OwnWork) (p : World) (given : List Given)
    (once : (other : List Given) → AllOpen (world p) tt is other tt → other ≡ given)
    (excludes : (fault : InputFault) → IsSettled p fault → FirstFails (world p) tt is fault tt → ⊥) where
  abbrev Told : Status → Type 0
  Told status = ((outcome : Outcome) × w.comes given outcome × (status ≡ outcome_status outcome)) ⊎ MayStop p status

  comes : (outcome : Outcome) → Comes (world p) tt tt is w outcome → Told (outcome_status outcome)
  comes outcome (other, opened, h) = inl (outcome, subst (λ gs. w.comes gs outcome) (once other opened) h, refl)

  pub own_told : (status : Status) → Cause (world p) tt tt is w status → Told status
  own_told Done h = comes (text ending.Done h.0) h.1
  own_told NoMemory h = inr tt
  own_told Usage h = absurd h
  own_told (NoFile name) h = absurd (excludes (input.NoFile name) tt h)
  own_told (ReadFault name) h = inr tt
  own_told WriteFault h = inr tt
  own_told (TooBig name) h = absurd (excludes (input.TooBig name) tt h)
  own_told (Syntax line column kind) h = absurd (excludes (input.Syntax line column kind) tt h)
  own_told (BadPattern site) h = by p.is_bad refl
    where
      by : (told : Option (List ℕ → Bool)) → p.is_bad ≡ told → Told (BadPattern site)
      by None is_none = inr is_none
      by (Some is_bad) is_some = absurd (excludes (input.BadPattern site) (is_bad, is_some) h)
  own_told (Refused site kind) h = absurd (excludes (input.Refused site kind) tt h)
  own_told (BadTable name line kind) (inl h) = absurd (excludes (input.BadTable name line kind) tt h)
  own_told (BadTable name line kind) (inr h) = comes (refused (own.BadTable name line kind)) h
  own_told (BadPacket kind) h = comes (refused (own.BadPacket kind)) h
  own_told Partial h = comes (text ending.Partial h.0) h.1
  own_told (TooMany count) h = comes (refused (own.TooMany count)) h
  own_told (BadReport kind pointer) h = comes (refused (own.BadReport kind pointer)) h
  own_told (NotConfirmed number kind) h = comes (refused (own.NotConfirmed number kind)) h
  own_told (BadAsk number kind) h = comes (refused (own.BadAsk number kind)) h
  own_told (BadCompare kind one other) h = comes (refused (own.BadCompare kind one other)) h
