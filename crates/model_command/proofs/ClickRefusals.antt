-- Why a configuration's file has no text.
use Rattle.std.proofs.Common.{sym, ap, ℕ, List, Err}
use Rattle.click_model.specs.declared.fault.ClickFault.{ClickFault}
use Rattle.click_model.specs.declared.fault.ClickFault.TheVariants.{BadLine, Conflict, Limit, NoClass, BadArgument, PortClash, NoElement, NoMemory}
use Rattle.click_model.specs.Configs.{Answers, click_of}
use Rattle.model_command.specs.ClickModels.{IsClickRefusal, model_of, own_fault}

pub refused : (name bytes : List ℕ) (fault : ClickFault) → Answers (click_of bytes) (Err fault) → IsClickRefusal name bytes (own_fault name fault)
refused name bytes (BadLine line) is = ap (model_of name) (sym is)
refused name bytes (Conflict line earlier) is = ap (model_of name) (sym is)
refused name bytes (Limit line) is = ap (model_of name) (sym is)
refused name bytes (NoClass line) is = ap (model_of name) (sym is)
refused name bytes (BadArgument line) is = ap (model_of name) (sym is)
refused name bytes (PortClash line) is = ap (model_of name) (sym is)
refused name bytes (NoElement line) is = ap (model_of name) (sym is)
refused name bytes NoMemory is = tt
