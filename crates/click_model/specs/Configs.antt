-- The configuration of a text, or the fault that is told.
use Rattle.std.specs.Prelude.{◌≡◌, ℕ, List, Option, None, Some, Result, Ok, Err}
use Rattle.sefl_syntax.specs.declared.net.Link.{Link}
use Rattle.click_text.specs.declared.fault.Unread.{Unread}
use Rattle.click_text.specs.declared.fault.Unread.TheVariants as unread
use Rattle.click_text.specs.Items.{ItemSeen, items_of}
use Rattle.click_model.specs.declared.fault.ClickFault.{ClickFault}
use Rattle.click_model.specs.declared.fault.ClickFault.TheVariants.{BadLine, Conflict, Limit, NoClass, BadArgument, PortClash, NoElement, NoMemory}
use Rattle.click_model.specs.declared.flaw.Flaw.{Flaw}
use Rattle.click_model.specs.Faults.{fault_at}
use Rattle.click_model.specs.Declarations.{ElementSeen, DeclaredSeen, declared_from, nothing_declared}
use Rattle.click_model.specs.Connections.{ConnectedSeen, connected_from, nothing_connected}

-- the elements and the connections, in the order of the text
pub record ConfigSeen : Type 0 where
  pub elements : List ElementSeen
  pub connections : List Link

abbrev pub finished : List ElementSeen → List Link → Option Flaw → Result ConfigSeen ClickFault
finished elements links None = Ok (record { elements = elements; connections = links })
finished elements links (Some flaw) = Err (fault_at flaw.line flaw.wrong)

-- all declarations first, since a connection may use a name before it is declared
abbrev pub connect_all : DeclaredSeen → List ItemSeen → ConnectedSeen
connect_all d items = connected_from d.names (nothing_connected d.flaw) items

abbrev pub config_with : DeclaredSeen → List ItemSeen → Result ConfigSeen ClickFault
config_with d items = finished d.elements (connect_all d items).links (connect_all d items).flaw

abbrev pub config_of : List ItemSeen → Result ConfigSeen ClickFault
config_of items = config_with (declared_from nothing_declared items) items

abbrev pub unread_fault : Unread → ClickFault
unread_fault (unread.BadLine line) = BadLine line
unread_fault unread.NoMemory = NoMemory

-- the line of a token that the grammar does not allow comes before all else
abbrev pub config_if : Result (List ItemSeen) Unread → Result ConfigSeen ClickFault
config_if (Ok items) = config_of items
config_if (Err fault) = Err (unread_fault fault)

abbrev pub click_of : List ℕ → Result ConfigSeen ClickFault
click_of bytes = config_if (items_of bytes)

-- what a call answers: exactly this, or want of memory
abbrev pub Answers : {A : Type 0} → Result A ClickFault → Result A ClickFault → Type 0
Answers is (Ok x) = is ≡ Ok x
Answers is (Err (BadLine line)) = is ≡ Err (BadLine line)
Answers is (Err (Conflict line earlier)) = is ≡ Err (Conflict line earlier)
Answers is (Err (Limit line)) = is ≡ Err (Limit line)
Answers is (Err (NoClass line)) = is ≡ Err (NoClass line)
Answers is (Err (BadArgument line)) = is ≡ Err (BadArgument line)
Answers is (Err (PortClash line)) = is ≡ Err (PortClash line)
Answers is (Err (NoElement line)) = is ≡ Err (NoElement line)
Answers is (Err NoMemory) = Unit {0}
