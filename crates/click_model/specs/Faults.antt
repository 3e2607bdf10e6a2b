-- Faults of configurations, and which of them is told.
use Rattle.std.specs.Prelude.{ℕ, Bool, ◌==◌, ◌&&◌, ◌||◌, nat_lt, if◌then◌else◌, Option, None, Some}
use Rattle.click_model.specs.declared.fault.ClickFault.{ClickFault}
use Rattle.click_model.specs.declared.fault.ClickFault.TheVariants as fault
use Rattle.click_model.specs.declared.flaw.Wrong.{Wrong}
use Rattle.click_model.specs.declared.flaw.Wrong.TheVariants.{Conflict, Limit, NoClass, BadArgument, PortClash, NoElement}
use Rattle.click_model.specs.declared.flaw.Flaw.{Flaw}

-- a bad line is number 1
abbrev pub number_of : Wrong → ℕ
number_of (Conflict earlier) = 2
number_of Limit = 3
number_of NoClass = 4
number_of BadArgument = 5
number_of PortClash = 6
number_of NoElement = 7

-- by the line, and then by the number
abbrev pub precedes : Flaw → Flaw → Bool
precedes f g = nat_lt f.line g.line || (f.line == g.line && nat_lt (number_of f.wrong) (number_of g.wrong))

-- of those that neither precedes the first in the text
abbrev pub lesser : Option Flaw → Flaw → Flaw
lesser None g = g
lesser (Some f) g = if precedes g f then g else f

-- the flaw that is told, with what is wrong in one line more
abbrev pub noted : Option Flaw → ℕ → Option Wrong → Option Flaw
noted found line None = found
noted found line (Some wrong) = Some (lesser found (record { line = line; wrong = wrong }))

abbrev pub fault_at : ℕ → Wrong → ClickFault
fault_at line (Conflict earlier) = fault.Conflict line earlier
fault_at line Limit = fault.Limit line
fault_at line NoClass = fault.NoClass line
fault_at line BadArgument = fault.BadArgument line
fault_at line PortClash = fault.PortClash line
fault_at line NoElement = fault.NoElement line
