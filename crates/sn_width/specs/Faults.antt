use Rattle.std.specs.Prelude.{ℕ}
use Rattle.sn_width.specs.declared.faults.LayoutFault.{LayoutFault}
use Rattle.sn_width.specs.declared.faults.LayoutFault.TheVariants.{NoTag, AddressRange, NoField, WidthDiffers, Overlap, Unset, NoMeta}

-- the number of a fault in reports
abbrev pub fault_number : LayoutFault → ℕ
fault_number NoTag = 1
fault_number AddressRange = 2
fault_number NoField = 3
fault_number WidthDiffers = 4
fault_number Overlap = 5
fault_number Unset = 6
fault_number NoMeta = 7
