use mir.Val.{SFits}
use Rattle.std.proofs.Common.{w32, w64, Some, refl, rules}
use Rattle.std.proofs.lemmas.Int.{to_z-of_z}
use Rattle.job_items.proofs.LentLemmas.{tag_made}
use Rattle.job_items.proofs.tags.make_tag_at.Goals as goal

pub returns-in_ok-insert-in-Some : goal.returns-in_ok-insert-in-Some
returns-in_ok-insert-in-Some c =
    let same = to_z-of_z w64 c.args.number c.ranges.number in
    let fits : SFits w32 c.in-Some.address = search rules in
    let narrow = to_z-of_z w32 c.in-Some.address fits in
    tag_made c.args.tags.now.entries c.insert.new.self.entries c.args.name c.in-Some.address c.args.number (Some c.args.number) refl
    (rw same at c.in-Some.ensures.is_there)
    (rw same at c.in-Some.ensures.value)
    (rw narrow at c.in_ok-insert-in-Some.ensures.entries)
