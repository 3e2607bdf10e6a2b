use Rattle.std.proofs.Common.{Some, ap, ◌∙◌}
use Rattle.serde_json.specs.View.{members_view}
use Rattle.net_check.specs.Network.{network}
use Rattle.record_text.specs.Records.{records_data}
use Rattle.path_report.proofs.Whole.{report_is}
use Rattle.path_report.proofs.decoder.Decoder.report_of.Goals as goal

pub returns-clause-shown : goal.returns-clause-shown
returns-clause-shown c =
    let net = network c.args.self.now.net.now in
    report_is net (members_view c.args.members.now.entries) c.requires c.cases_of-cases.result c.hops-hops.result c.limit-limit.result c.count-refuted.result (records_data net c.in_ok-records.records.items) c.complete-complete.result
    c.cases_of-cases.ensures.shown (ap Some c.hops-hops.ensures.shown ∙ c.field.ensures) (ap Some c.limit-limit.ensures.shown ∙ c.field-2.ensures) (ap Some c.in_ok-records.ensures.shown ∙ c.field-3.ensures)
    (ap Some c.count-refuted.ensures ∙ c.field-4.ensures) (ap Some c.complete-complete.ensures ∙ c.field-5.ensures)
