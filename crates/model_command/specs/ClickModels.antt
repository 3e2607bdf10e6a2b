-- What `model click` writes of the bytes of a configuration's file.
use Rattle.std.specs.Prelude.{ℕ, ◌≡◌, List, [], ◌∷◌, Option, None, Some, Result, Ok, Err}
use Rattle.sefl_syntax.specs.NetText.{net_text}
use Rattle.click_model.specs.declared.fault.ClickFault.{ClickFault}
use Rattle.click_model.specs.declared.fault.ClickFault.TheVariants.{BadLine, Conflict, Limit, NoClass, BadArgument, PortClash, NoElement, NoMemory}
use Rattle.click_model.specs.Configs.{ConfigSeen, click_of}
use Rattle.click_model.specs.Nets.{click_net}
use Rattle.command_runs.specs.Inputs.{Given, some_bytes}
use Rattle.command_edge.specs.Puts.{Outcome, text, refused}
use Rattle.command_runs.specs.Runs.{IsRefusal}
use Rattle.command_edge.specs.declared.ending.Ending.TheVariants.{Done}
use Rattle.command_edge.specs.declared.fault.OwnFault.{OwnFault}
use Rattle.command_edge.specs.declared.fault.OwnFault.TheVariants.{BadTable, NoMemory as OutOfMemory}

-- the line of a fault, and the number of the rule that is broken
abbrev pub place_of : ClickFault → Option (ℕ × ℕ)
place_of (BadLine line) = Some (line, 1)
place_of (Conflict line earlier) = Some (line, 2)
place_of (Limit line) = Some (line, 3)
place_of (NoClass line) = Some (line, 4)
place_of (BadArgument line) = Some (line, 5)
place_of (PortClash line) = Some (line, 6)
place_of (NoElement line) = Some (line, 7)
place_of NoMemory = None

-- the refusal that tells a fault of the file with this name
abbrev pub fault_at : List ℕ → Option (ℕ × ℕ) → OwnFault
fault_at name None = OutOfMemory
fault_at name (Some place) = BadTable name place.0 place.1

abbrev pub own_fault : List ℕ → ClickFault → OwnFault
own_fault name fault = fault_at name (place_of fault)

-- the canonical text of the nodes and links, or the first line that breaks a rule
abbrev pub model_of : List ℕ → Result ConfigSeen ClickFault → Outcome
model_of name (Ok config) = text Done (net_text (click_net config))
model_of name (Err fault) = refused (own_fault name fault)

-- `model click` of a file with this name
abbrev pub ClickComes : List ℕ → List Given → Outcome → Type 0
ClickComes name (some_bytes bytes ∷ []) outcome = outcome ≡ model_of name (click_of bytes)
ClickComes name _ outcome = ⊥

-- why the bytes have no text
abbrev pub IsClickRefusal : List ℕ → List ℕ → OwnFault → Type 0
IsClickRefusal name bytes fault = IsRefusal (λ outcome. outcome ≡ model_of name (click_of bytes)) fault
