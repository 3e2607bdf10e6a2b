use Rattle.std.proofs.Common.{List, ℕ, subst}
use Rattle.serde_json.specs.Data.{string}
use Rattle.run_text.specs.Tokens.{Adds}
use Rattle.compare_command.proofs.text.write_other.Goals as goal

pub returns : goal.returns
returns c =
    let written = c.objects_are_written.ensures in
    let side = subst (λ (word : List ℕ). Adds (string word) c.key-3.new.self c.string-2.new.self) c.side_of.ensures c.in_ok-string-2.ensures in
    written.opened _ _ _ _ c.in_ok-begin_object.ensures
    (written.member _ _ _ _ _ _ _ c.in_ok-key.ensures c.in_ok-string.ensures
    (c.in_ok-write_cuts.ensures _ _
    (written.member _ _ _ _ _ _ _ c.in_ok-key-2.ensures c.in_ok-count.ensures
    (written.member _ _ _ _ _ _ _ c.in_ok-key-3.ensures side
    (written.member _ _ _ _ _ _ _ c.in_ok-key-4.ensures c.in_ok-count-2.ensures
    (written.member _ _ _ _ _ _ _ c.in_ok-key-5.ensures c.in_ok-write_values.ensures (written.closed _ _ c.in_ok-end_object.ensures)))))))
