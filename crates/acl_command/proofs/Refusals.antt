-- Why a file has no list.
use Rattle.std.proofs.Common.{refl, ap, ℕ, List, Err}
use Rattle.acl_model.specs.declared.fault.AclFault.{AclFault}
use Rattle.acl_model.specs.declared.fault.AclFault.TheVariants.{BadLine, Limit, NoMemory}
use Rattle.acl_model.specs.Rules.{Reads}
use Rattle.acl_command.specs.Lists.{IsBadFile, bad_line, fault_at, place_of}

pub bad_file : (name bytes : List ℕ) (fault : AclFault) → Reads bytes (Err fault) → IsBadFile name bytes (fault_at name (place_of fault))
bad_file name bytes (BadLine line) is = (refl, ap bad_line is)
bad_file name bytes (Limit line) is = (refl, ap bad_line is)
bad_file name bytes NoMemory is = tt
