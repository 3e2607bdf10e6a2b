use Rattle.std.proofs.Common.{◌≡◌, List, [], ◌++◌, ap, sym, ◌∙◌, map, reverse, rules}
use Rattle.std.proofs.lemmas.List.{append-nil}
use Rattle.cell_stacks.proofs.ListingLemmas.{map_reverse}
use Rattle.header_layers.specs.Layout.{tag_pair}
use Rattle.header_layers.proofs.layers.tag_entries.Goals as goal

-- with nothing left, what was listed is the whole
nothing_left : {X Y : Type 0} (f : X → Y) (listed : List Y) (left : List X) (whole : List Y) → listed ++ map f left ≡ whole → left ≡ [] → listed ≡ whole
nothing_left f listed left whole h e = sym (append-nil listed) ∙ ap (λ z. listed ++ map f z) (sym e) ∙ h

pub returns : goal.returns
returns c =
    c.reverse.ensures.items
    ∙ ap reverse (nothing_left (tag_pair c.args.tag) c.loop-address.entries.items c.loop-address.address-iterator (map (tag_pair c.args.tag) c.args.addresses.now) c.loop-address.invariant (search rules))
    ∙ sym (map_reverse (tag_pair c.args.tag) c.args.addresses.now)
