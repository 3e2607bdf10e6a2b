use Rattle.std.proofs.Common.{◌≡◌, [], ◌++◌, List, ℕ, sym, ap, subst, ◌∙◌, string_bytes}
use Rattle.std.proofs.lemmas.List.{append-nil, append_assoc}
use Rattle.net_check.specs.Network.{entry, network}
use Rattle.walk_command.specs.Lines.{AreLinesOf, lines}
use Rattle.walk_command.proofs.LineLemmas.{line_more, no_lines, nothing_left}
use Rattle.walk_command.proofs.lines.text_of_lines.Goals as goal

pub loop-rest-preserved : goal.loop-rest-preserved
loop-rest-preserved c = λ whole are.
    let hops = c.args.hops in
    let limit = c.args.limit in
    let net = network c.args.job.now.net in
    let i = entry c.args.job.now.injection in
    let line = string_bytes c.in_ok-line_of.field-0 in
    let put : string_bytes c.push_str.new.self ≡ string_bytes c.loop-rest.out ++ line = c.in_ok-push_str.ensures.bytes ∙ ap (λ (t : List ℕ). string_bytes c.loop-rest.out ++ t) c.deref.ensures in
    let more = line_more hops limit net i c.next_line.result.0.now (lines c.next_line.result.1.now) line whole c.in_ok-line_of.ensures are in
    let of_rest = subst (λ (ls : List (List ℕ)). AreLinesOf hops limit net i ls (line ++ whole)) (sym c.next_line.ensures.line) more in
    subst (λ (w : List ℕ). AreLinesOf hops limit net i (lines c.args.bytes.now) w)
    (sym (append_assoc (string_bytes c.loop-rest.out) line whole) ∙ ap (λ (w : List ℕ). w ++ whole) (sym put)) (c.loop-rest.invariant (line ++ whole) of_rest)

pub returns : goal.returns
returns c =
    let none = nothing_left c.loop-rest.rest.now (sym c.is_empty.ensures ∙ c.loop-rest-test.false) in
    subst (λ (w : List ℕ). AreLinesOf c.args.hops c.args.limit (network c.args.job.now.net) (entry c.args.job.now.injection) (lines c.args.bytes.now) w)
    (append-nil (string_bytes c.loop-rest.out)) (c.loop-rest.invariant [] (no_lines c.args.hops c.args.limit (network c.args.job.now.net) (entry c.args.job.now.injection) c.loop-rest.rest.now none))
