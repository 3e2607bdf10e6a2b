use Rattle.std.proofs.Common.{◌≡◌, [], drop}
use Rattle.click_text.specs.declared.comment.Mode.TheVariants.{Plain}
use Rattle.click_text.specs.Arguments.{without_comments}
use Rattle.click_text.proofs.arguments.without_comments.Given as goal

abbrev pub invariant-loop-byte : goal.invariant-loop-byte
invariant-loop-byte l = without_comments l.mode l.text.items (drop l.byte-index l.bytes) ≡ without_comments Plain [] l.bytes
