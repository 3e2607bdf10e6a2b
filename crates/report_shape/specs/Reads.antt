-- What the reader of a part answers.
use Rattle.std.specs.Prelude.{◌≡◌, ℕ, List, Bool, Some, None, Result, Ok, Err, string_bytes, IsUtf8}
use Rattle.serde_json.specs.Data.{Data}
use Rattle.serde_json.specs.Read.{read}
use Rattle.serde_json.specs.View.{view}
use Rattle.serde_json.specs.declared.value.Value.{Value}
use Rattle.report_shape.specs.Faults.{fault}
use Rattle.report_shape.specs.declared.part.Part.{Part}
use Rattle.report_shape.specs.declared.read.ShapeFault.{ShapeFault}
use Rattle.report_shape.specs.declared.read.ShapeFault.TheVariants.{NotJson, NotShaped, NoMemory}

-- the bytes are the text of this value, as serde_json reads them
pub record IsTextOf (bytes : List ℕ) (d : Data) : Type 0 where
  pub utf8 : IsUtf8 bytes
  pub value : read bytes ≡ Some d

-- the value of the bytes, where it has its form; no value where serde_json reads none; else the first place of the value
-- that has not its form
abbrev pub Reads : (Part → List ℕ → Bool) → Part → List ℕ → Result Value ShapeFault → Type 0
Reads knows p bytes (Ok value) = IsTextOf bytes (view value) × (fault knows p (view value) ≡ None)
Reads knows p bytes (Err NotJson) = (d : Data) → IsTextOf bytes d → ⊥
Reads knows p bytes (Err (NotShaped pointer)) = (d : Data) × IsTextOf bytes d × (fault knows p d ≡ Some (string_bytes pointer))
Reads knows p bytes (Err NoMemory) = Unit {0}
