use Rattle.net_check.specs.Sound.{IsAcceptedNet}
use Rattle.report_forms.proofs.Fitting.{records_fit}
use Rattle.report_forms.proofs.own_laws.exact_records_fit.Goals as goal

pub returns : goal.returns
returns c = λ net i hops limit records one spelled exact ranges.
    let accepted : IsAcceptedNet net = (one.0, one.1, one.2) in
    records_fit net i hops limit (c.names_and_widths.ensures net i) (record {
      nodes = c.ids_are_found.ensures.nodes net accepted spelled;
      metas = c.ids_are_found.ensures.metas net accepted spelled;
      tags = c.ids_are_found.ensures.tags net accepted spelled;
    }) one records exact ranges
