-- What is known of a run over an empty output, with no pattern refused before.
use Rattle.std.proofs.Common.{ℕ, ◌≡◌, ◌⊎◌, List, [], ◌++◌, Option, Some, ap, sym, subst, refl, ◌∙◌, unwrap_or, arith}
use Rattle.std.specs.Io.KnownBytes.{append_known}
use Rattle.sn_edge.specs.MemFolder.{file_at}
use Rattle.caller_edge.specs.Outside.{GivenState, IsKeptPut, files_told, output_told}
use Rattle.command_runs.specs.Inputs.{Input, FirstFails, IsSettled}
use Rattle.command_runs.specs.Outside.{Outside, Tells, World, world}
use Rattle.command_runs.specs.Runs.{OwnWork}
use Rattle.command_runs.specs.Status.{input_status}
use Rattle.command_runs.specs.declared.status.Status.{Status}
use Rattle.command_runs.specs.declared.status.Status.TheVariants.{Usage, NoFile, ReadFault, WriteFault, TooBig, Syntax, BadPattern, Refused, BadTable, BadPacket, BadReport, BadAsk}
use Rattle.command_edge.specs.declared.fault.InputFault.{InputFault}
use Rattle.command_words.specs.Commands.{Command, read_command}
use Rattle.symnet_program.specs.Commands.{inputs, work}
use Rattle.symnet_program.specs.Program.{Cause, IsAnswered, IsCaused, Shown}
use Rattle.symnet_program.specs.Run.{IsPutWith, IsRun}
use Rattle.symnet_program.specs.Told.{MayBeUnread}
use Rattle.symnet_c.specs.Calls.{BlamesInput, IsShown, RanAfter, around, listed_world, regex_told}

-- all that an output has which was empty is what it gained
all_gained : (old new part : List ℕ) → old ≡ [] → Some new ≡ append_known (Some old) part → part ≡ new
all_gained old new part none is = sym (ap (λ (known : Option (List ℕ)). unwrap_or known []) is ∙ ap (λ (xs : List ℕ). xs ++ part) none)

-- neither the files nor the output count a fault
shown_of : (before after : GivenState) (u v : ℕ) (old new : List ℕ) (status : Status)
    → Shown (files_told before) (files_told after) (regex_told u) (regex_told v) (output_told old) (output_told new) status → IsShown u v status
shown_of before after u v old new (ReadFault name) shown = absurd (omega (arith, shown))
shown_of before after u v old new WriteFault shown = absurd (omega (arith, shown))
shown_of before after u v old new (BadPattern site) shown = shown
shown_of before after u v old new status shown = tt

-- what blames no input, and has its cause, is an answer
answered : (o : Outside (GivenState × ℕ)) (u v : GivenState × ℕ) (is : List Input) (w : OwnWork) (status : Status) → IsShown u.1 v.1 status → Cause o u v is w status
    → ((blamed : Status) → BlamesInput blamed → Cause o u v is w blamed → ⊥) → IsAnswered status
answered o u v is w Usage shown cause none = absurd cause
answered o u v is w (NoFile name) shown cause none = absurd (none (NoFile name) tt cause)
answered o u v is w (ReadFault name) shown cause none = absurd shown
answered o u v is w WriteFault shown cause none = absurd shown
answered o u v is w (TooBig name) shown cause none = absurd (none (TooBig name) tt cause)
answered o u v is w (Syntax line column kind) shown cause none = absurd (none (Syntax line column kind) tt cause)
answered o u v is w (BadPattern site) shown cause none = absurd (none (BadPattern site) tt cause)
answered o u v is w (Refused site kind) shown cause none = absurd (none (Refused site kind) tt cause)
answered o u v is w (BadTable name line kind) shown cause none = absurd (none (BadTable name line kind) tt cause)
answered o u v is w (BadPacket kind) shown cause none = absurd (none (BadPacket kind) tt cause)
answered o u v is w (BadReport kind pointer) shown cause none = absurd (none (BadReport kind pointer) tt cause)
answered o u v is w (BadAsk number kind) shown cause none = absurd (none (BadAsk number kind) tt cause)
answered o u v is w status shown cause none = tt

module _ (words : List (List ℕ)) (before after : GivenState) (status : Status) (old new : List ℕ) (u v : ℕ) where
  -- where no input is to blame, the command ran to its end
  completes : IsShown u v status → IsCaused around (before, u) (after, v) (read_command words) status → (command : Command) → read_command words ≡ Some command
      → ((blamed : Status) → BlamesInput blamed → Cause around (before, u) (after, v) (inputs command) (work command) blamed → ⊥) → IsAnswered status
  completes shown cause command named none =
      answered around (before, u) (after, v) (inputs command) (work command) status shown
      (subst (λ (read : Option Command). IsCaused around (before, u) (after, v) read status) named cause) none

  pub ran : u ≡ 0 → old ≡ []
      → ((part : List ℕ) → IsRun around (before, u) (after, v) (read_command words) status part
      → IsCaused around (before, u) (after, v) (read_command words) status)
      → Shown (files_told before) (files_told after) (regex_told u) (regex_told v) (output_told old) (output_told new) status
      → ((part : List ℕ) × IsRun around (before, u) (after, v) (read_command words) status part × IsPutWith output_told IsKeptPut old new status part
      × (Some new ≡ append_known (Some old) part))
      → ((w : World) → Tells (Some (file_at before.entries)) (regex_told u) w → IsCaused (world w) tt tt (read_command words) status)
      → ((command : Command) (w : World) (fault : InputFault) → read_command words ≡ Some command → Tells (Some (file_at before.entries)) (regex_told u) w
      → FirstFails (world w) tt (inputs command) fault tt → IsSettled w fault → (status ≡ input_status fault) ⊎ MayBeUnread w status)
      → RanAfter before 0 words status new
  ran fresh none causes shown (part, run, put, grows) told exact =
      let tells : Tells (Some (file_at before.entries)) (regex_told u) (listed_world before.entries) = record { files_told = refl; finds_told = refl; bad_told = refl } in
      let is_shown : IsShown u v status = shown_of before after u v old new status shown in
      let all : RanAfter before u words status new = record {
        left = after;
        refusals = v;
        run = subst (λ (text : List ℕ). IsRun around (before, u) (after, v) (read_command words) status text) (all_gained old new part none grows) run;
        shown = is_shown;
        told = told (listed_world before.entries) tells;
        exact = λ command fault named fails settled. exact command (listed_world before.entries) fault named tells fails settled;
        complete = completes is_shown (causes part run);
      } in subst (λ (refused : ℕ). RanAfter before refused words status new) fresh all
