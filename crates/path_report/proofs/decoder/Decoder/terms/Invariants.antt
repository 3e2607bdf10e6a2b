use Rattle.std.proofs.Common.{◌≡◌, map, take, drop, None}
use Rattle.serde_json.specs.View.{view, items_view}
use Rattle.net_check.specs.Network.{network}
use Rattle.report_shape.specs.declared.part.Part.TheVariants as part
use Rattle.report_shape.specs.Forms.{same}
use Rattle.report_shape.specs.Faults.{items_fault}
use Rattle.run_text.specs.Forms.{term_part_data}
use Rattle.std.specs.List.{AllByRecursion}
use Rattle.path_report.specs.Having.{IsTermPart}
use Rattle.report_names.specs.Names.{knows}
use Rattle.path_report.proofs.decoder.Decoder.terms.Given as goal

-- what was read is what the first items show, and fits; the others have their form
abbrev pub invariant-loop-item : goal.invariant-loop-item
invariant-loop-item l = record {
  read : map term_part_data l.found.items ≡ map view (take l.item-index l.item-items);
  left : items_fault (knows (network l.self.net.now)) (same part.Term) l.item-index (items_view (drop l.item-index l.item-items)) ≡ None;
  fits : AllByRecursion IsTermPart l.found.items;
}
