use Rattle.std.proofs.Common.{length, reverse, ap, ◌∙◌}
use Rattle.std.proofs.lemmas.List.{reverse-append}
use Rattle.sefl_syntax.specs.Views.{code_tree}
use Rattle.sefl_meaning.specs.Carried.{Key}
use Rattle.code_frames.specs.Weights.{code_weight, frames_weight}
use Rattle.code_frames.proofs.Counting.{by_top}
use Rattle.code_frames.proofs.Framing.{put, iteration_taken}
use Rattle.code_frames.proofs.Weighing.{iteration_weighs}
use Rattle.code_frames.proofs.run.begin_iteration.Goals as goal

pub returns-clause-course : goal.returns-clause-course
returns-clause-course g c = λ o net at.
    let key : Key = (c.in-Some.owner, c.in-Some.name) in
    iteration_taken o net at c.sequences_associate.ensures.courses c.args.iterations c.in_ok-inner.inner c.args.var.now c.in_ok-clone.field-0 c.args.site (code_tree c.args.body.now)
    c.args.keys c.in_ok-behind.behind c.in-Some.owner c.in-Some.name
    (reverse c.args.frames.now.items) (reverse c.push-2.new.self.items) (reverse c.push-3.new.self.items)
    (by_top c.args.keys c.in_ok-behind.behind key c.in-Some.ensures c.in_ok-behind.ensures)
    c.in_ok-inner.ensures.on_top c.in_ok-clone.ensures.cases
    (put o net at c.args.frames.now.items c.push-2.new.self.items _ c.in_ok-push.ensures.items)
    (put o net at c.push-2.new.self.items c.push-3.new.self.items _ c.in_ok-push-2.ensures.items)

pub returns-clause-weight : goal.returns-clause-weight
returns-clause-weight g c = λ net.
    let key : Key = (c.in-Some.owner, c.in-Some.name) in
    iteration_weighs (length c.args.keys) (length c.in_ok-behind.behind) (code_weight net (code_tree c.args.body.now))
    (frames_weight net (reverse c.args.frames.now.items)) (frames_weight net (reverse c.push-2.new.self.items)) (frames_weight net (reverse c.push-3.new.self.items))
    (ap length (by_top c.args.keys c.in_ok-behind.behind key c.in-Some.ensures c.in_ok-behind.ensures))
    (ap (frames_weight net) (ap reverse c.in_ok-push.ensures.items ∙ reverse-append c.args.frames.now.items _))
    (ap (frames_weight net) (ap reverse c.in_ok-push-2.ensures.items ∙ reverse-append c.push-2.new.self.items _))
