use Rattle.std.proofs.Common.{◌≡◌, ◌≢◌, [], length, map, string_bytes, rules}
use Rattle.caller_edge.proofs.Gathering.{empty, pushed, texts_end, texts_go_on, texts_stop}
use Rattle.caller_edge.proofs.lists.read_texts.Goals as goal

pub loop-text-preserved : goal.loop-text-preserved
loop-text-preserved c =
    texts_go_on c.args.bytes.now c.loop-text.left.now c.in-Some.rest.now (map string_bytes c.loop-text.texts.items) (map string_bytes c.push.new.self.items) c.in-Some.text.now
    (pushed string_bytes c.loop-text.texts.items c.push.new.self.items c.in_ok-from_str.field-0 c.in-Some.text.now c.in_ok-push.ensures.items c.in_ok-from_str.ensures.ok) c.loop-text.invariant c.in-Some.ensures.some

pub returns-then-not-is_empty-clause-none : goal.returns-then-not-is_empty-clause-none
returns-then-not-is_empty-clause-none c =
    let more : c.loop-text.left.now ≢ [] = search rules in
    texts_stop c.args.bytes.now c.loop-text.left.now (map string_bytes c.loop-text.texts.items) more c.in_default.ensures.none c.loop-text.invariant

pub returns-clause-some : goal.returns-clause-some
returns-clause-some c =
    let none : length c.loop-text.left.now ≡ 0 = search rules in
    texts_end c.args.bytes.now c.loop-text.left.now (map string_bytes c.loop-text.texts.items) (empty c.loop-text.left.now none) c.loop-text.invariant
