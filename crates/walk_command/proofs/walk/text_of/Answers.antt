use Rattle.std.proofs.Common.{◌≡◌, Some, map, subst, string_bytes}
use Rattle.std.proofs.lemmas.Result.{err_from_is_err_and}
use Rattle.sefl_syntax.specs.Views.{ask_tree}
use Rattle.net_check.specs.Network.{entry, network}
use Rattle.sefl_lex.specs.Packets.{packet_of}
use Rattle.walk_command.specs.Walks.{IsNoPacket, IsWalkRefusal, IsWalksText}
use Rattle.walk_command.proofs.ComesLemmas.{no_packet, no_walks, walks_come}
use Rattle.walk_command.proofs.walk.text_of.Goals as goal

pub returns-in_err-values-clause-refused : goal.returns-in_err-values-clause-refused
returns-in_err-values-clause-refused c =
    let job = c.args.given.now.first in
    let p = err_from_is_err_and c.from_residual.result c.from_residual.ensures.1 in
    let why = subst (λ bs. IsNoPacket bs c.in_err-values.field-0.0) c.deref.ensures.value c.in_err-values.ensures.refused in
    rw (p.1, p.2) (no_packet c.args.hops c.args.limit (network job.net) (entry job.injection) (map ask_tree job.asks.items) c.args.given.now.second.items c.in_err-values.field-0.0 why)

pub returns-in_err-text-clause-refused : goal.returns-in_err-text-clause-refused
returns-in_err-text-clause-refused c =
    let job = c.args.given.now.first in
    let hops = c.args.hops in
    let limit = c.args.limit in
    let p = err_from_is_err_and c.from_residual-in_err-text.result c.from_residual-in_err-text.ensures.1 in
    let v = c.in_ok-values.values.items in
    let are = subst (λ bs. packet_of bs ≡ Some v) c.deref.ensures.value c.in_ok-values.ensures.numbers in
    let why = subst (λ n. IsWalkRefusal hops limit (network job.net) (entry job.injection) n c.in_err-text.field-0.0) c.deref-2.ensures.value c.in_err-text.ensures.refused in
    rw (p.1, p.2) (no_walks hops limit (network job.net) (entry job.injection) (map ask_tree job.asks.items) c.args.given.now.second.items v are c.in_err-text.field-0.0 why)

pub returns-clause-text : goal.returns-clause-text
returns-clause-text c =
    let job = c.args.given.now.first in
    let hops = c.args.hops in
    let limit = c.args.limit in
    let v = c.in_ok-values.values.items in
    let are = subst (λ bs. packet_of bs ≡ Some v) c.deref.ensures.value c.in_ok-values.ensures.numbers in
    let whole = string_bytes c.in_ok-text.text in
    let is = subst (λ n. IsWalksText hops limit (network job.net) (entry job.injection) n whole) c.deref-2.ensures.value c.in_ok-text.ensures.text in
    walks_come hops limit (network job.net) (entry job.injection) (map ask_tree job.asks.items) c.args.given.now.second.items v are whole is
