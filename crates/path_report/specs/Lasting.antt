-- What is kept of the last record that was read.
use Rattle.sn_width.specs.declared.ids.NodeId.{NodeId}
use Rattle.sn_width.specs.declared.ids.NameId.{NameId}
use Rattle.std.specs.Prelude.{Option}
use Rattle.net_check.specs.Network.{Network}
use Rattle.report_names.specs.Own.{IsOwnName}
use Rattle.report_forms.specs.Fits.{OwnerFits}

-- the owner and the name of metadata of the net
abbrev pub KeyFits : Network → Option NodeId × NameId → Type 0
KeyFits net key = OwnerFits net key.0 × IsOwnName net key.1
