use Rattle.std.proofs.Common.{rules, ◌≡◌, ◌∙◌, ap, ◌<◌, [], ◌∷◌, ◌++◌, length, map, arith}
use Rattle.sefl_syntax.specs.declared.net.Body.TheVariants.{Code}
use Rattle.sefl_syntax.specs.Views.{decl_tree, node_tree}
use Rattle.sefl_syntax.specs.Trees.{code}
use Rattle.job_gen.specs.declared.split.Split.{Split}
use Rattle.job_gen.specs.Grown.{box_name, router}
use Rattle.job_gen.specs.Splits.{split_of}
use Rattle.job_gen.proofs.Known.{as_many}
use Rattle.job_gen.proofs.Parts.{box_more, split_here}
use Rattle.job_gen.proofs.job.boxes_of.Goals as goal

pub index-requires : goal.index-requires
index-requires c =
    let many : length c.in_ok-splits.splits.items ≡ c.args.boxes = as_many c.args.seed c.args.boxes c.in_ok-splits.splits.items c.in_ok-splits.ensures in
    let below : c.loop-number.number < c.args.boxes = search rules in
    let less : c.loop-number.number < length c.in_ok-splits.splits.items = omega (arith, many, below) in
    search (rules, less)

pub loop-number-preserved : goal.loop-number-preserved
loop-number-preserved c =
    let n = c.loop-number.number in
    let below : n < c.args.boxes = search rules in
    let split : c.index.result.now ≡ split_of c.args.seed n = c.index.ensures ∙ split_here c.args.seed c.args.boxes n c.in_ok-splits.splits.items c.index.result.now c.in_ok-splits.ensures below in
    let node : node_tree c.in_ok-node.node ≡ router (split_of c.args.seed n).cut = c.in_ok-node.ensures ∙ ap (λ (s : Split). router s.cut) split in
    let name : c.in_ok-box_name.field-0 ≡ box_name n = c.in_ok-box_name.ensures in
    let pushed : c.push.new.self.items ≡ c.loop-number.decls.items ++ (record { name = c.in_ok-box_name.field-0; body = Code c.in_ok-node.node }) ∷ [] = search rules in
    ap (map decl_tree) pushed ∙ box_more c.args.seed n c.loop-number.decls.items (record { name = c.in_ok-box_name.field-0; body = Code c.in_ok-node.node })
    c.loop-number.invariant (λ k. record { name = name k; body = code (node k) })
