-- The tags of an injection that keeps the rules: each line gives its tag the address that the rules find.
use Rattle.std.proofs.Common.{◌≡◌, ◌∙◌, refl, sym, ap, subst, ℕ, ℤ, ◌+ℤ◌, Bool, true, false, cond, if◌then◌else◌, List, [], ◌∷◌, Option, None, Some, option_map, Result, Ok, Err, bytes_eq, true≢false}
use Rattle.std.specs.Prelude.{is_none}
use Rattle.std.specs.BTreeMap.{insert_entry}
use Rattle.std.specs.Cmp.Lexicographic.{nat_list_eq_equiv, slice_cmp}
use Rattle.std.specs.List.{AllByRecursion}
use Rattle.std.specs.Ordering.{is_eq, match_ordering, nat_cmp}
use Rattle.std.specs.declared.cmp.Ordering.{Ordering}
use Rattle.std.specs.declared.cmp.Ordering.TheVariants.{Less, Equal, Greater}
use Rattle.std.proofs.Math.IntN.{+ℤ_idl}
use Rattle.std.proofs.lemmas.Bool.{not-false}
use Rattle.std.proofs.lemmas.Map.Text.{is_eq-slice_cmp}
use Rattle.std.proofs.lemmas.Option.{none-some, same_Some}
use Rattle.sn_width.specs.declared.faults.LayoutFault.{LayoutFault}
use Rattle.sn_width.specs.declared.faults.LayoutFault.TheVariants.{AddressRange}
use Rattle.sn_width.specs.declared.ids.NodeId.{NodeId}
use Rattle.sn_tree.specs.Ends.{tail}
use Rattle.sefl_syntax.specs.declared.reference.Addr.{Addr}
use Rattle.cell_stacks.specs.Outcome.{and_then, on_ok}
use Rattle.cell_stacks.specs.Stacks.{stack_at, with_stack}
use Rattle.header_layers.specs.Layout as layout
use Rattle.header_layers.specs.Layout.{address_of, in_range, top_address}
use Rattle.job_items.specs.Items.{tag_items}
use Rattle.job_items.specs.Rules.{is_outside}
use Rattle.sn_width.specs.Address.{is_address}
use Rattle.job_items.specs.Tags.{Tags, resolved, resolved_by, tag_address, tags_after, with_address, with_tag}
use Rattle.net_check.specs.Keeping.{HasNamesOf, IsAmong, KeepsRules}
use Rattle.sefl_meaning.specs.Network.{Network, tag_id}
use Rattle.sefl_meaning.specs.Carried.{Carried, base_tag, scene_at, with_layers}
use Rattle.sefl_meaning.specs.Injected.{with_tags}
use Rattle.sefl_meaning.specs.Laws.{ChangeLaws}
use Rattle.sefl_meaning.specs.Values.{Values}
use Rattle.sefl_meaning.proofs.NameIds.{same_bytes, same_tag}

-- the tags that the rules know have these addresses
abbrev pub HaveAddresses : Network → Tags → List (ℕ × List ℤ) → Type 0
HaveAddresses net known tags =
    (name : List ℕ) (a : ℤ) → tag_address known name ≡ Some a
    → IsAmong net.names.tags name × (top_address (stack_at nat_cmp (tag_id net name).0 tags) ≡ Ok a)

-- ---- addresses

inside : (a : ℤ) → is_address a ≡ true → in_range a ≡ Ok a
inside a h = ap (λ b. if b then Ok a else Err AddressRange) h

module _ (net : Network) (known : Tags) (tags : List (ℕ × List ℤ)) (have : HaveAddresses net known tags) where
  pub address_found : (addr : Addr) (a : ℤ) → resolved known addr ≡ Some a → is_address a ≡ true
      → address_of (base_tag net addr) addr.offset tags ≡ Ok a
  address_found addr a at ok = by addr.tag at
    where
      of_tag : (name : List ℕ) (t : Option ℤ) → tag_address known name ≡ t → option_map (λ base. base +ℤ addr.offset) t ≡ Some a
          → address_of (Some (tag_id net name)) addr.offset tags ≡ Ok a
      of_tag name None p h = absurd (none-some a h)
      of_tag name (Some b) p h =
          ap (λ r. and_then r (λ base. in_range (base +ℤ addr.offset))) (have name b p).1
          ∙ (ap in_range (same_Some (b +ℤ addr.offset) a h) ∙ inside a ok)

      by : (tag : Option (List ℕ)) → resolved_by known tag addr.offset ≡ Some a
          → address_of (option_map (tag_id net) tag) addr.offset tags ≡ Ok a
      by None h = ap in_range (+ℤ_idl addr.offset ∙ same_Some addr.offset a h) ∙ inside a ok
      by (Some name) h = of_tag name (tag_address known name) refl h

-- ---- a line

-- what is found after a name was put in: its own address, or that of another name, which was found before
after_put : (C : Type 0) (known : Tags) (name q : List ℕ) (a b : ℤ)
    → tag_address (insert_entry (slice_cmp nat_cmp) known name a) q ≡ Some b
    → (q ≡ name → a ≡ b → C) → (bytes_eq q name ≡ false → tag_address known q ≡ Some b → C) → C
after_put C [] name q a b h own other = by (bytes_eq q name) refl (ap (λ t. cond t (Some a) None) (sym (is_eq-slice_cmp q name)) ∙ h)
  where
    by : (t : Bool) → bytes_eq q name ≡ t → cond t (Some a) None ≡ Some b → C
    by true p h = own (same_bytes q name p) (same_Some a b h)
    by false p h = absurd (none-some b h)
after_put C (e ∷ es) name q a b h own other = by (slice_cmp nat_cmp name e.0) refl h (after_put C es name q a b)
  where
    is_at_q : List ℕ → Bool
    is_at_q k = is_eq (slice_cmp nat_cmp q k)

    new : (t : Bool) → bytes_eq q name ≡ t → cond t (Some a) (cond (is_eq (slice_cmp nat_cmp q e.0)) (Some e.1) (tag_address es q)) ≡ Some b → C
    new true p h = own (same_bytes q name p) (same_Some a b h)
    new false p h = other p h

    replaced : (t : Bool) → bytes_eq q e.0 ≡ t → bytes_eq name e.0 ≡ true → cond t (Some a) (tag_address es q) ≡ Some b → C
    replaced true p same h = own (same_bytes q e.0 p ∙ sym (same_bytes name e.0 same)) (same_Some a b h)
    replaced false p same h =
        other (subst (λ k. bytes_eq q k ≡ false) (sym (same_bytes name e.0 same)) p)
        (ap (λ t. cond t (Some e.1) (tag_address es q)) (is_eq-slice_cmp q e.0 ∙ p) ∙ h)

    later : (t : Bool) → bytes_eq q e.0 ≡ t → bytes_eq name e.0 ≡ false
        → cond t (Some e.1) (tag_address (insert_entry (slice_cmp nat_cmp) es name a) q) ≡ Some b
        → (tag_address (insert_entry (slice_cmp nat_cmp) es name a) q ≡ Some b
        → (q ≡ name → a ≡ b → C) → (bytes_eq q name ≡ false → tag_address es q ≡ Some b → C) → C) → C
    later true p differs h rest =
        other (subst (λ k. bytes_eq k name ≡ false) (sym (same_bytes q e.0 p)) (nat_list_eq_equiv.symm e.0 name ∙ differs))
        (ap (λ t. cond t (Some e.1) (tag_address es q)) (is_eq-slice_cmp q e.0 ∙ p) ∙ h)
    later false p differs h rest =
        rest h own (λ apart found. other apart (ap (λ t. cond t (Some e.1) (tag_address es q)) (is_eq-slice_cmp q e.0 ∙ p) ∙ found))

    by : (r : Ordering) → slice_cmp nat_cmp name e.0 ≡ r
        → tag_address (match_ordering r ((name, a) ∷ e ∷ es) ((e.0, a) ∷ es) (e ∷ insert_entry (slice_cmp nat_cmp) es name a)) q ≡ Some b
        → (tag_address (insert_entry (slice_cmp nat_cmp) es name a) q ≡ Some b
        → (q ≡ name → a ≡ b → C) → (bytes_eq q name ≡ false → tag_address es q ≡ Some b → C) → C) → C
    by Less p h rest =
        new (bytes_eq q name) refl
        (ap (λ t. cond t (Some a) (cond (is_eq (slice_cmp nat_cmp q e.0)) (Some e.1) (tag_address es q))) (sym (is_eq-slice_cmp q name)) ∙ h)
    by Equal p h rest =
        replaced (bytes_eq q e.0) refl (sym (is_eq-slice_cmp name e.0) ∙ ap is_eq p)
        (ap (λ t. cond t (Some a) (tag_address es q)) (sym (is_eq-slice_cmp q e.0)) ∙ h)
    by Greater p h rest =
        later (bytes_eq q e.0) refl (sym (is_eq-slice_cmp name e.0) ∙ ap is_eq p)
        (ap (λ t. cond t (Some e.1) (tag_address (insert_entry (slice_cmp nat_cmp) es name a) q)) (sym (is_eq-slice_cmp q e.0)) ∙ h) rest

-- a tag that is set, with older addresses below
with_one_more : (laws : ChangeLaws nat_cmp ℤ) (net : Network) (known : Tags) (tags : List (ℕ × List ℤ)) (name : List ℕ) (a : ℤ) (older : List ℤ)
    → HaveAddresses net known tags → IsAmong net.names.tags name
    → HaveAddresses net (insert_entry (slice_cmp nat_cmp) known name a) (with_stack nat_cmp (tag_id net name).0 (a ∷ older) tags)
with_one_more laws net known tags name a older have among q b found =
    let next = with_stack nat_cmp (tag_id net name).0 (a ∷ older) tags in
    let Found = IsAmong net.names.tags q × (top_address (stack_at nat_cmp (tag_id net q).0 next) ≡ Ok b) in
    after_put Found known name q a b found
    (λ same value. (
      subst (IsAmong net.names.tags) (sym same) among,
      ap (λ k. top_address (stack_at nat_cmp (tag_id net k).0 next)) same
          ∙ (ap top_address (laws.there (tag_id net name).0 (a ∷ older) tags) ∙ ap Ok value),
    ))
    (λ apart before.
    let old = have q b before in
    let differs : nat_cmp (tag_id net q).0 (tag_id net name).0 ≡ Equal → ⊥
    = λ e. true≢false (sym (nat_list_eq_equiv.refl name) ∙ (ap (λ k. bytes_eq k name) (sym (same_tag net q name old.0 e)) ∙ apart)) in
    (old.0, ap top_address (laws.elsewhere (tag_id net name).0 (tag_id net q).0 (a ∷ older) tags differs) ∙ old.1))

-- ---- all lines

-- the lines go through, and leave all but the tags as it was
pub record TagsGo {V : Type 0} (net : Network) (known : Tags) (s : Carried V) (r : Result (Carried V) LayoutFault) : Type 0 where
  pub next : Carried V
  pub goes : r ≡ Ok next
  pub have : HaveAddresses net known next.layers.tags
  pub heads : next.layers.heads ≡ s.layers.heads
  pub scopes : next.scopes ≡ s.scopes

pub tags_go : {V F : Type 0} (laws : ChangeLaws nat_cmp ℤ) (o : Values V F) (net : Network) (node : NodeId) (known : Tags) (lines : List (List ℕ × Addr)) (s : Carried V)
    → HaveAddresses net known s.layers.tags → AllByRecursion KeepsRules (tag_items known lines) → AllByRecursion (HasNamesOf net.names) (tag_items known lines)
    → TagsGo net (tags_after known lines) s (with_tags o (scene_at net node) lines s)
tags_go laws o net node known [] s have keeps names = record { next = s; goes = refl; have = have; heads = refl; scopes = refl }
tags_go {V} laws o net node known (line ∷ lines) s have keeps names =
    by (resolved known line.1) refl keeps.0.bound keeps.0.address
    (λ a more. tags_go laws o net node (with_tag known line) lines (set a) more keeps.1 names.1)
  where
    older : List ℤ
    older = tail (stack_at nat_cmp (tag_id net line.0).0 s.layers.tags)

    set : ℤ → Carried V
    set a = record { layers = record { tags = with_stack nat_cmp (tag_id net line.0).0 (a ∷ older) s.layers.tags; heads = s.layers.heads }; scopes = s.scopes }

    -- the line's tag is set to this address, and the other lines follow
    go_on : Result ℤ LayoutFault → Result (Carried V) LayoutFault
    go_on address =
        and_then (on_ok (with_layers s) (on_ok (λ x. layout.with_tag s.layers (tag_id net line.0) (x ∷ older)) address)) (with_tags o (scene_at net node) lines)

    by : (t : Option ℤ) → resolved known line.1 ≡ t → is_none t ≡ false → is_outside t ≡ false
        → ((a : ℤ) → HaveAddresses net (with_tag known line) (set a).layers.tags
        → TagsGo net (tags_after (with_tag known line) lines) (set a) (with_tags o (scene_at net node) lines (set a)))
        → TagsGo net (tags_after (with_tag known line) lines) s (go_on (address_of (base_tag net line.1) line.1.offset s.layers.tags))
    by None p bound outside rest = absurd (true≢false bound)
    by (Some a) p bound outside rest =
        let ok : is_address a ≡ true = not-false (is_address a) outside in
        let known_now : with_tag known line ≡ insert_entry (slice_cmp nat_cmp) known line.0 a
        = ap (with_address known line.0) p ∙ ap (λ b. if b then insert_entry (slice_cmp nat_cmp) known line.0 a else known) ok in
        let more = rest a (subst (λ k. HaveAddresses net k (set a).layers.tags) (sym known_now)
        (with_one_more laws net known s.layers.tags line.0 a older have names.0.tags.0)) in
        record {
          next = more.next;
          goes = ap go_on (address_found net known s.layers.tags have line.1 a p ok) ∙ more.goes;
          have = more.have;
          heads = more.heads;
          scopes = more.scopes;
        }
