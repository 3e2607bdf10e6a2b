use Rattle.std.proofs.Common.{refl}
use Rattle.std.proofs.lemmas.Result.{err_from_is_err_and}
use Rattle.net_check.specs.Network.{entry, network}
use Rattle.explore_command.proofs.PutLemmas.{rest_put, rest_stopped}
use Rattle.explore_command.proofs.report.put_rest.Goals as goal

pub returns-in_err-tail-clause-puts : goal.returns-in_err-tail-clause-puts
returns-in_err-tail-clause-puts g c =
    let p = err_from_is_err_and c.from_residual.result c.from_residual.ensures.1 in
    rw (p.1, p.2) (rest_stopped c.args.hops c.args.limit c.args.sides (network c.args.job.now.net) (entry c.args.job.now.injection)
    g.K.Sink.told g.K.Sink.put_gives c.args.out.now c.put_records.new.out c.in_err-tail.field-0.0 c.in_err-tail.ensures.puts)

pub returns-clause-puts : goal.returns-clause-puts
returns-clause-puts g c =
    rest_put c.args.hops c.args.limit c.args.sides (network c.args.job.now.net) (entry c.args.job.now.injection)
    g.K.Sink.told g.K.Sink.put_gives c.args.out.now c.put_records.new.out c.put_end.new.out
    c.in_ok-tail.tail c.put_end.result c.in_ok-tail.ensures.puts c.put_end.ensures.puts
