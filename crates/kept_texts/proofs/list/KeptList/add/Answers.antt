use Rattle.std.proofs.Common.{subst, string_bytes}
use Rattle.kept_texts.specs.Kept.{Grows, has_some, piece}
use Rattle.kept_texts.proofs.ListLemmas.{kept_with}
use Rattle.kept_texts.proofs.list.KeptList.add.Goals as goal

pub invariant_of-self : goal.invariant_of-self
invariant_of-self g c =
    let own : Grows (piece (has_some c.self.inside.members.items) (g.T.Member.shown g.N.OfNet.net c.args.member)) (string_bytes c.self.inside.text) (string_bytes c.push_member.new.text) =
    subst (λ n. Grows (piece (has_some c.self.inside.members.items) (g.T.Member.shown n c.args.member)) (string_bytes c.self.inside.text) (string_bytes c.push_member.new.text)) c.requires c.in-Ok.ensures.text in
    rw (c.in-Ok.ensures.members, c.in-Ok.ensures.starts)
    (kept_with (g.T.Member.shown g.N.OfNet.net) c.self.inside.members.items c.args.member c.self.inside.starts.items (string_bytes c.self.inside.text) (string_bytes c.push_member.new.text) c.self.invariant own)
