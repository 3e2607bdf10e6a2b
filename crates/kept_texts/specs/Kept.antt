-- Texts that are kept from one record to the next.
use Rattle.std.specs.Prelude.{ℕ, ◌≡◌, ◌+◌, ℤ, Bool, true, false, List, [], ◌∷◌, ◌++◌, length, Option}
use Rattle.serde_json.specs.Data.{Data}
use Rattle.serde_json.specs.Written.{comma_if, compact_text}
use Rattle.sn_width.specs.declared.ids.NodeId.{NodeId}
use Rattle.sn_width.specs.declared.ids.NameId.{NameId}
use Rattle.lin_term.specs.Terms.{LinearTerm}
use Rattle.cell_stacks.specs.declared.cell.Cell.{Cell}
use Rattle.net_check.specs.Network.{Network}
use Rattle.run_text.specs.Forms.{head_data, meta_data, term_data}
use Rattle.record_text.specs.Reports.{record_pieces}

-- a text has gained these bytes
pub record Grows (bytes old new : List ℕ) : Type 0 where
  pub gained : new ≡ old ++ bytes

abbrev pub has_some : {A : Type 0} → List A → Bool
has_some [] = false
has_some (x ∷ xs) = true

-- the text of a value, behind a comma where another one comes before it
abbrev pub piece : Bool → Data → List ℕ
piece later d = comma_if later ++ compact_text d

-- where the pieces of values begin, the first of them at this place
abbrev pub starts_from : ℕ → Bool → List Data → List ℕ
starts_from n later [] = []
starts_from n later (d ∷ ds) = n ∷ starts_from (n + length (piece later d)) true ds

-- the texts of values, joined by commas, and where the piece of each begins
pub record AreKept (ds : List Data) (starts text : List ℕ) : Type 0 where
  pub places : starts ≡ starts_from 0 false ds
  pub joined : text ≡ record_pieces false ds

-- the cells at an address, and those of metadata
abbrev pub head_shown : Network → ℤ → List (Cell LinearTerm) → Data
head_shown net address cells = head_data term_data address cells

abbrev pub meta_shown : Network → Option NodeId × NameId → List (Cell LinearTerm) → Data
meta_shown net key cells = meta_data term_data net key.0 key.1 cells

-- a net without nodes; nothing of it is written
abbrev pub no_net : Network
no_net = record {
  own = record { nodes = []; links = [] };
  names = record { metas = []; tags = []; patterns = [] };
  found = [];
}
