use Rattle.std.proofs.Common.{◌≡◌, ◌≢◌, [], length, map, rules}
use Rattle.sn_edge.specs.MemFolder.{entry_of}
use Rattle.caller_edge.proofs.Gathering.{empty, pushed, files_end, files_go_on, files_stop}
use Rattle.caller_edge.proofs.lists.read_files.Goals as goal

pub loop-name-preserved : goal.loop-name-preserved
loop-name-preserved c =
    files_go_on c.args.bytes.now c.loop-name.left.now c.in-Some.rest.now (map entry_of c.loop-name.files.items) (map entry_of c.push.new.self.items) (c.in-Some.name.now, c.in-Some.file.now)
    (pushed entry_of c.loop-name.files.items c.push.new.self.items c.in_ok-named_file.field-0 (c.in-Some.name.now, c.in-Some.file.now) c.in_ok-push.ensures.items c.in_ok-named_file.ensures) c.loop-name.invariant c.in-Some.ensures.some

pub returns-then-not-is_empty-clause-none : goal.returns-then-not-is_empty-clause-none
returns-then-not-is_empty-clause-none c =
    let more : c.loop-name.left.now ≢ [] = search rules in
    files_stop c.args.bytes.now c.loop-name.left.now (map entry_of c.loop-name.files.items) more c.in_default.ensures.none c.loop-name.invariant

pub returns-clause-some : goal.returns-clause-some
returns-clause-some c =
    let none : length c.loop-name.left.now ≡ 0 = search rules in
    files_end c.args.bytes.now c.loop-name.left.now (map entry_of c.loop-name.files.items) (empty c.loop-name.left.now none) c.loop-name.invariant
