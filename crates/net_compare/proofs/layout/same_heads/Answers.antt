use Rattle.std.proofs.Common.{◌∙◌, map, true≢false, sym}
use Rattle.path_records.specs.Shown.{held_head}
use Rattle.net_compare.proofs.LayoutLemmas.{as_many_heads, mapped_length}
use Rattle.net_compare.proofs.layout.same_heads.Goals as goal

pub returns-then-heads-others : goal.returns-then-heads-others
returns-then-heads-others c = (
  λ e. absurd (true≢false (sym e)),
  λ same. absurd (c.if-heads-others.true
      (sym (mapped_length held_head c.args.heads.now)
      ∙ (as_many_heads (map held_head c.args.heads.now) (map held_head c.args.others.now) same ∙ mapped_length held_head c.args.others.now))),
)
