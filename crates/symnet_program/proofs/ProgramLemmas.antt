-- What a status says of a run, once for all commands.
use Rattle.std.proofs.Common.{◌≡◌, ◌⊎◌, inl, inr, ap, sym, subst, refl, List, ℕ, Option, Some, None, Bool, Result, Ok, Err, arith}
use Rattle.sn_edge.specs.Told.{FolderTold, PatternsTold, SinkTold}
use Rattle.sn_edge.specs.declared.folder.Loaded.{Loaded}
use Rattle.sn_edge.specs.declared.patterns.Found.{Found}
use Rattle.command_runs.specs.Outside.{Outside, World, Tells, outside, world}
use Rattle.command_runs.specs.Inputs.{Input, Given, AllOpen, FirstFails, IsSettled}
use Rattle.command_edge.specs.Files.{InputShows}
use Rattle.command_edge.specs.Puts.{Outcome, text, refused}
use Rattle.command_runs.specs.Runs.{OwnWork, Shows}
use Rattle.command_edge.specs.declared.fault.InputFault.{InputFault}
use Rattle.command_edge.specs.declared.fault.InputFault.TheVariants as input
use Rattle.command_edge.specs.declared.fault.OwnFault.{OwnFault}
use Rattle.command_edge.specs.declared.fault.OwnFault.TheVariants as own
use Rattle.command_edge.specs.declared.ending.Ending.{Ending}
use Rattle.command_edge.specs.declared.ending.Ending.TheVariants as ending
use Rattle.command_edge.specs.declared.ending.Stop.{Stop}
use Rattle.command_edge.specs.declared.ending.Stop.TheVariants.{Input as ByInput, Own, Write, NoMemory as NoRoom}
use Rattle.symnet_program.proofs.ToldLemmas.{first_told, all_told}
use Rattle.command_runs.specs.Status.{input_status, own_status, status_of}
use Rattle.symnet_program.specs.Told.{MayBeUnread}
use Rattle.symnet_program.specs.Commands.{inputs, work}
use Rattle.command_words.specs.Commands.{Command}
use Rattle.symnet_program.specs.Program.{Cause, Comes, IsAnswered, IsCaused, RefusesInput, Shown, Stops}
use Rattle.command_runs.specs.declared.status.Status.{Status}
use Rattle.command_runs.specs.declared.status.Status.TheVariants.{Done, NoMemory, Usage, NoFile, ReadFault, WriteFault, TooBig, Syntax, BadPattern, Refused, BadTable, BadPacket, Partial, TooMany, BadReport, NotConfirmed, BadAsk, BadCompare}

module _ {S : Type 0} (o : Outside S) (u v : S) (is : List Input) (w : OwnWork) where
  -- ---- with no count raised

  pub complete_of : (old new : FolderTold) (before after : PatternsTold) (held now : SinkTold) (status : Status) → Shown old new before after held now status
      → new ≡ old → now.faults ≡ held.faults → ((s : Status) → RefusesInput s → Cause o u v is w s → ⊥)
      → Cause o u v is w status → IsAnswered status
  complete_of old new before after held now Done s f b good h = tt
  complete_of old new before after held now NoMemory s f b good h = tt
  complete_of old new before after held now Partial s f b good h = tt
  complete_of old new before after held now (TooMany count) s f b good h = tt
  complete_of old new before after held now (NotConfirmed number kind) s f b good h = tt
  complete_of old new before after held now Usage s f b good h = h
  complete_of old new before after held now (NoFile name) s f b good h = absurd (omega (arith, s, ap (λ t. t.misses) f))
  complete_of old new before after held now (ReadFault name) s f b good h = absurd (omega (arith, s, ap (λ t. t.faults) f))
  complete_of old new before after held now (TooBig name) s f b good h = absurd (omega (arith, s, ap (λ t. t.excesses) f))
  complete_of old new before after held now WriteFault s f b good h = absurd (omega (arith, s, b))
  complete_of old new before after held now (Syntax line column kind) s f b good h = good (Syntax line column kind) tt h
  complete_of old new before after held now (BadPattern site) s f b good h = good (BadPattern site) tt h
  complete_of old new before after held now (Refused site kind) s f b good h = good (Refused site kind) tt h
  complete_of old new before after held now (BadTable name line kind) s f b good h = good (BadTable name line kind) tt h
  complete_of old new before after held now (BadPacket kind) s f b good h = good (BadPacket kind) tt h
  complete_of old new before after held now (BadReport kind pointer) s f b good h = good (BadReport kind pointer) tt h
  complete_of old new before after held now (BadAsk number kind) s f b good h = good (BadAsk number kind) tt h
  complete_of old new before after held now (BadCompare kind one other) s f b good h = tt

-- ---- in a world

module _ {S : Type 0} (o : Outside S) (u v : S) (is : List Input) (w : OwnWork) (p : World)
    (first : (fault : InputFault) → Stops o u v is w fault → Stops (world p) tt tt is w fault)
    (all : (given : List Given) → AllOpen o u is given v → AllOpen (world p) tt is given tt) where
  comes : (outcome : Outcome) → Comes o u v is w outcome → Comes (world p) tt tt is w outcome
  comes outcome (given, opened, h) = (given, all given opened, h)

  cause_in : (status : Status) → Cause o u v is w status → Cause (world p) tt tt is w status
  cause_in Done h = (h.0, comes (text ending.Done h.0) h.1)
  cause_in NoMemory h = tt
  cause_in Usage h = h
  cause_in (NoFile name) h = first (input.NoFile name) h
  cause_in (ReadFault name) h = first (input.ReadFault name) h
  cause_in WriteFault h = (h.0, all h.0 h.1)
  cause_in (TooBig name) h = first (input.TooBig name) h
  cause_in (Syntax line column kind) h = first (input.Syntax line column kind) h
  cause_in (BadPattern site) h = first (input.BadPattern site) h
  cause_in (Refused site kind) h = first (input.Refused site kind) h
  cause_in (BadTable name line kind) (inl h) = inl (first (input.BadTable name line kind) h)
  cause_in (BadTable name line kind) (inr h) = inr (comes (refused (own.BadTable name line kind)) h)
  cause_in (BadPacket kind) h = comes (refused (own.BadPacket kind)) h
  cause_in Partial h = (h.0, comes (text ending.Partial h.0) h.1)
  cause_in (TooMany count) h = comes (refused (own.TooMany count)) h
  cause_in (BadReport kind pointer) h = comes (refused (own.BadReport kind pointer)) h
  cause_in (NotConfirmed number kind) h = comes (refused (own.NotConfirmed number kind)) h
  cause_in (BadAsk number kind) h = comes (refused (own.BadAsk number kind)) h
  cause_in (BadCompare kind one other) h = comes (refused (own.BadCompare kind one other)) h

module _ {F P : Type 0} (files : F → FolderTold) (gives : F → List ℕ → ℕ → Loaded → F → Type 0)
    (patterns : P → PatternsTold) (finds : P → List ℕ → List ℕ → Found → P → Type 0) where
  pub told_of : (u v : F × P) (is : List Input) (w : OwnWork) (p : World) → Tells (files u.0).files (patterns u.1) p → (status : Status)
      → Cause (outside files gives patterns finds) u v is w status → Cause (world p) tt tt is w status
  told_of u v is w p told status h =
      cause_in (outside files gives patterns finds) u v is w p
      (λ fault. first_told files gives patterns finds p u v is fault (told.files_told, (told.finds_told, told.bad_told)))
      (λ given. all_told files gives patterns finds p u v is given (told.files_told, (told.finds_told, told.bad_told))) status h

-- the inputs of a world are refused in one way, and then they are not all good
pub record Decides (p : World) : Type 0 where
  pub first : (is : List Input) (f g : InputFault) → IsSettled p f → IsSettled p g → FirstFails (world p) tt is f tt → FirstFails (world p) tt is g tt → f ≡ g
  pub excludes : (is : List Input) (given : List Given) (f : InputFault) → IsSettled p f → AllOpen (world p) tt is given tt → FirstFails (world p) tt is f tt → ⊥

-- an input that is refused in the world is refused
module _ (is : List Input) (w : OwnWork) (p : World) (decides : Decides p) (fault : InputFault) (settled : IsSettled p fault) (fails : FirstFails (world p) tt is fault tt) where
  one : (other : InputFault) → IsSettled p other → Stops (world p) tt tt is w other → (input_status other ≡ input_status fault) ⊎ MayBeUnread p (input_status other)
  one other s h = inl (ap input_status (decides.first is other fault s settled h fails))

  none : {A : Type 0} (outcome : Outcome) → Comes (world p) tt tt is w outcome → A
  none outcome (given, opened, h) = absurd (decides.excludes is given fault settled opened fails)

  pub exact_of : (status : Status) → Cause (world p) tt tt is w status → (status ≡ input_status fault) ⊎ MayBeUnread p status
  exact_of Done h = none (text ending.Done h.0) h.1
  exact_of NoMemory h = inr tt
  exact_of Usage h = absurd h
  exact_of (NoFile name) h = one (input.NoFile name) tt h
  exact_of (ReadFault name) h = inr tt
  exact_of WriteFault (given, opened) = absurd (decides.excludes is given fault settled opened fails)
  exact_of (TooBig name) h = one (input.TooBig name) tt h
  exact_of (Syntax line column kind) h = one (input.Syntax line column kind) tt h
  exact_of (BadPattern site) h = by p.is_bad refl
    where
      by : (told : Option (List ℕ → Bool)) → p.is_bad ≡ told → (BadPattern site ≡ input_status fault) ⊎ MayBeUnread p (BadPattern site)
      by None is = inr is
      by (Some is_bad) is = one (input.BadPattern site) (is_bad, is) h
  exact_of (Refused site kind) h = one (input.Refused site kind) tt h
  exact_of (BadTable name line kind) (inl h) = one (input.BadTable name line kind) tt h
  exact_of (BadTable name line kind) (inr h) = none (refused (own.BadTable name line kind)) h
  exact_of (BadPacket kind) h = none (refused (own.BadPacket kind)) h
  exact_of Partial h = none (text ending.Partial h.0) h.1
  exact_of (TooMany count) h = none (refused (own.TooMany count)) h
  exact_of (BadReport kind pointer) h = none (refused (own.BadReport kind pointer)) h
  exact_of (NotConfirmed number kind) h = none (refused (own.NotConfirmed number kind)) h
  exact_of (BadAsk number kind) h = none (refused (own.BadAsk number kind)) h
  exact_of (BadCompare kind one other) h = none (refused (own.BadCompare kind one other)) h

-- memory ended while the words were read
pub unread : (p : World) (said : Option Command) → IsCaused (world p) tt tt said NoMemory
unread p None = (inr refl, refl)
unread p (Some c) = tt

-- ---- of the call, whose status has its cause

module _ {F P : Type 0} (files : F → FolderTold) (gives : F → List ℕ → ℕ → Loaded → F → Type 0)
    (patterns : P → PatternsTold) (finds : P → List ℕ → List ℕ → Found → P → Type 0) (u v : F × P) where
  pub told_said : (said : Option Command) (status : Status) (p : World) → IsCaused (outside files gives patterns finds) u v said status
      → Tells (files u.0).files (patterns u.1) p → IsCaused (world p) tt tt said status
  told_said None status p caused told = (caused.0, refl)
  told_said (Some c) status p caused told = told_of files gives patterns finds u v (inputs c) (work c) p told status caused

  pub exact_said : (said : Option Command) (status : Status) (command : Command) (p : World) (fault : InputFault) → Decides p
      → IsCaused (outside files gives patterns finds) u v said status → said ≡ Some command → Tells (files u.0).files (patterns u.1) p
      → FirstFails (world p) tt (inputs command) fault tt → IsSettled p fault → (status ≡ input_status fault) ⊎ MayBeUnread p status
  exact_said said status command p fault decides caused is told fails settled =
      exact_of (inputs command) (work command) p decides fault settled fails status
      (subst (λ r. IsCaused (world p) tt tt r status) is (told_said said status p caused told))

pub complete_said : {S : Type 0} (o : Outside S) (u v : S) (said : Option Command) (status : Status) (command : Command) (old new : FolderTold) (before after : PatternsTold) (held sink : SinkTold)
    → IsCaused o u v said status → said ≡ Some command
    → Shown old new before after held sink status → new ≡ old → sink.faults ≡ held.faults
    → ((s : Status) → RefusesInput s → Cause o u v (inputs command) (work command) s → ⊥) → IsAnswered status
complete_said o u v said status command old new before after held sink caused is shown f b good =
    complete_of o u v (inputs command) (work command) old new before after held sink status shown f b good
    (subst (λ r. IsCaused o u v r status) is caused)

-- the counts that rose, by the status
shown_input : (old new : FolderTold) (before after : PatternsTold) (held now : SinkTold) (fault : InputFault) → InputShows old new before after fault → Shown old new before after held now (input_status fault)
shown_input old new before after held now (input.NoFile name) h = h
shown_input old new before after held now (input.ReadFault name) h = h
shown_input old new before after held now (input.TooBig name) h = h
shown_input old new before after held now (input.BadPattern site) h = h
shown_input old new before after held now (input.Syntax line column kind) h = tt
shown_input old new before after held now (input.BadTable name line kind) h = tt
shown_input old new before after held now (input.Refused site kind) h = tt
shown_input old new before after held now input.NoMemory h = tt

shown_own : (old new : FolderTold) (before after : PatternsTold) (held now : SinkTold) (fault : OwnFault) → Shown old new before after held now (own_status fault)
shown_own old new before after held now (own.BadTable name line kind) = tt
shown_own old new before after held now (own.BadPacket kind) = tt
shown_own old new before after held now (own.TooMany count) = tt
shown_own old new before after held now (own.BadReport kind pointer) = tt
shown_own old new before after held now (own.NotConfirmed number kind) = tt
shown_own old new before after held now (own.BadAsk number kind) = tt
shown_own old new before after held now (own.BadCompare kind one other) = tt
shown_own old new before after held now own.NoMemory = tt

shown_answer : (old new : FolderTold) (before after : PatternsTold) (held now : SinkTold) (answer : Result Ending Stop) → Shows old new before after held now answer → Shown old new before after held now (status_of answer)
shown_answer old new before after held now (Ok ending.Done) h = tt
shown_answer old new before after held now (Ok ending.Partial) h = tt
shown_answer old new before after held now (Err (ByInput fault)) h = shown_input old new before after held now fault h
shown_answer old new before after held now (Err (Own fault)) h = shown_own old new before after held now fault
shown_answer old new before after held now (Err Write) h = h
shown_answer old new before after held now (Err NoRoom) h = tt

pub shown_said : (old new : FolderTold) (before after : PatternsTold) (held now : SinkTold) (answer : Result Ending Stop) (status : Status) → status ≡ status_of answer
    → Shows old new before after held now answer → Shown old new before after held now status
shown_said old new before after held now answer status tells h =
    subst (Shown old new before after held now) (sym tells) (shown_answer old new before after held now answer h)
