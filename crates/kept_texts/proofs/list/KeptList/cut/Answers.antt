use Rattle.std.proofs.Common.{rules, ◌≡◌, ◌∙◌, ap, sym, string_bytes, take, None, Some}
use Rattle.std.specs.Prelude.{slice_get}
use Rattle.kept_texts.proofs.ListLemmas.{kept_cut, may_cut, none_cut}
use Rattle.kept_texts.proofs.list.KeptList.cut.Goals as goal

pub returns-in_default : goal.returns-in_default
returns-in_default g c =
    let past : slice_get c.self.inside.starts.items c.args.count ≡ None = search rules in
    let kept = none_cut (g.T.Member.shown g.N.OfNet.net) c.self.inside.members.items c.self.inside.starts.items (string_bytes c.self.inside.text) c.args.count c.self.invariant past in
    sym c.self.view_is ∙ (kept ∙ ap (take c.args.count) c.self.view_is)

pub truncate-requires-3 : goal.truncate-requires-3
truncate-requires-3 g c _ =
    let got : slice_get c.self.inside.starts.items c.args.count ≡ Some c.in-Some.start = search rules in
    may_cut (g.T.Member.shown g.N.OfNet.net) c.self.inside.members.items c.self.inside.starts.items (string_bytes c.self.inside.text) c.args.count c.in-Some.start c.self.invariant got

pub invariant_of-self : goal.invariant_of-self
invariant_of-self g c =
    let got : slice_get c.self.inside.starts.items c.args.count ≡ Some c.in-Some.start = search rules in
    rw (c.truncate.ensures.items, c.truncate-2.ensures.items, c.truncate-3.ensures.bytes)
    (kept_cut (g.T.Member.shown g.N.OfNet.net) c.self.inside.members.items c.self.inside.starts.items (string_bytes c.self.inside.text) c.args.count c.in-Some.start c.self.invariant got)
