-- The same injection is met alike.
use Rattle.std.proofs.Common.{◌≡◌, ◌∙◌, refl, sym, subst, ℕ, List, [], ◌∷◌, ◌++◌, length, map, flat_map, Result, Ok, Err}
use Rattle.std.specs.List.{AllByRecursion}
use Rattle.sn_width.specs.declared.faults.LayoutFault.{LayoutFault}
use Rattle.sn_width.specs.declared.ids.NodeId.{NodeId}
use Rattle.sefl_syntax.specs.declared.job.RawField.{RawField}
use Rattle.sefl_syntax.specs.declared.reference.Addr.{Addr}
use Rattle.sefl_syntax.specs.declared.reference.Target.{Target}
use Rattle.sefl_syntax.specs.Trees.{CondTree, InjectionTree}
use Rattle.job_items.specs.AtomRules.{meta_name}
use Rattle.job_items.specs.Atoms.{Atom, cond_atoms}
use Rattle.job_items.specs.Items.{field_items, tag_items, test_item, value_items}
use Rattle.job_items.specs.Rules.{names_in}
use Rattle.job_items.specs.Tags.{Tags, tags_after, with_tag}
use Rattle.job_names.specs.Occurrences.{addr_tags, tags_in, target_tags}
use Rattle.net_check.specs.Keeping.{HasNamesOf, IsAmong, line_items}
use Rattle.net_check.specs.Sound.{AreOfOneJob}
use Rattle.sefl_meaning.specs.Carried.{Carried, scene_at}
use Rattle.sefl_meaning.specs.Injected.{FitWidths, IsTrueIn, Meets, injected, unknown_count, unknown_widths}
use Rattle.sefl_meaning.specs.Laws.{StackLaws}
use Rattle.sefl_meaning.specs.Network.{Network, Entry}
use Rattle.sefl_meaning.specs.Values.{numbers}
use Rattle.same_injections.proofs.Names.{all_both, all_first, all_flat, all_later}
use Rattle.same_injections.proofs.Steps.{Alike, BothAlike, KnownLine, KnownName, KnownTag, KnownTarget, injected_alike}
use Rattle.same_injections.proofs.Truths.{truth_alike}

-- ---- the names of the lines are known

module _ (a b : Network) (m n : NodeId) where
  tags_known : (xs : List (List ℕ)) → AllByRecursion (IsAmong a.names.tags) xs → AllByRecursion (IsAmong b.names.tags) xs → AllByRecursion (KnownTag a b m n) xs
  tags_known xs h k = all_both _ _ _ xs (λ x p q. (p, q)) h k

  names_known : (xs : List (List ℕ)) → AllByRecursion (IsAmong a.names.metas) xs → AllByRecursion (IsAmong b.names.metas) xs → AllByRecursion (KnownName a b m n) xs
  names_known xs h k = all_both _ _ _ xs (λ x p q. (p, q)) h k

  lines_known : (known : Tags) (lines : List (List ℕ × Addr)) → AllByRecursion (HasNamesOf a.names) (tag_items known lines)
      → AllByRecursion (HasNamesOf b.names) (tag_items known lines) → AllByRecursion (KnownLine a b m n) lines
  lines_known known [] h k = tt
  lines_known known (line ∷ lines) h k = (
    (
      (h.0.tags.0, k.0.tags.0),
      all_first (KnownTag a b m n) (addr_tags line.1) [] (tags_known (addr_tags line.1 ++ []) h.0.tags.1 k.0.tags.1),
    ),
    lines_known (with_tag known line) lines h.1 k.1,
  )

  fields_known : (known : Tags) (before fs : List RawField) → AllByRecursion (HasNamesOf a.names) (field_items known before fs)
      → AllByRecursion (HasNamesOf b.names) (field_items known before fs) → AllByRecursion (λ (f : RawField). KnownTarget a b m n f.target) fs
  fields_known known before [] h k = tt
  fields_known known before (f ∷ fs) h k = (
    (
      all_first (KnownTag a b m n) (target_tags f.target) []
          (all_first (KnownTag a b m n) (target_tags f.target ++ []) [] (tags_known ((target_tags f.target ++ []) ++ []) h.0.tags k.0.tags)),
      all_first (KnownName a b m n) (meta_name f.target) []
          (all_first (KnownName a b m n) (meta_name f.target ++ []) [] (names_known ((meta_name f.target ++ []) ++ []) h.0.metas k.0.metas)),
    ),
    fields_known known (before ++ f ∷ []) fs h.1 k.1,
  )

  targets_known : (ts : List Target) → AllByRecursion (KnownTag a b m n) (flat_map target_tags ts) → AllByRecursion (KnownName a b m n) (flat_map meta_name ts)
      → AllByRecursion (KnownTarget a b m n) ts
  targets_known ts h k =
      all_both _ _ _ ts (λ t p q. (p, q)) (all_flat (KnownTag a b m n) target_tags ts h) (all_flat (KnownName a b m n) meta_name ts k)

  atoms_known : (atoms : List Atom) → AllByRecursion (KnownTag a b m n) (tags_in atoms) → AllByRecursion (KnownName a b m n) (names_in atoms)
      → AllByRecursion (λ (atom : Atom). AllByRecursion (KnownTarget a b m n) atom.reads) atoms
  atoms_known atoms h k =
      all_both _ _ _ atoms (λ atom p q. targets_known atom.reads p q)
      (all_flat (KnownTag a b m n) (λ (atom : Atom). flat_map target_tags atom.reads) atoms h)
      (all_flat (KnownName a b m n) (λ (atom : Atom). flat_map meta_name atom.reads) atoms k)

  abbrev KnownTest : CondTree → Type 0
  KnownTest c = AllByRecursion (λ (atom : Atom). AllByRecursion (KnownTarget a b m n) atom.reads) (cond_atoms c)

  tests_known : (known : Tags) (fields : List RawField) (tests : List CondTree) → AllByRecursion (HasNamesOf a.names) (map (test_item known fields) tests)
      → AllByRecursion (HasNamesOf b.names) (map (test_item known fields) tests) → AllByRecursion KnownTest tests
  tests_known known fields [] h k = tt
  tests_known known fields (c ∷ tests) h k = (
    atoms_known (cond_atoms c) (tags_known (tags_in (cond_atoms c)) h.0.tags k.0.tags) (names_known (names_in (cond_atoms c)) h.0.metas k.0.metas),
    tests_known known fields tests h.1 k.1,
  )

  -- ---- it starts there too

  module _ (laws : StackLaws ℕ) (v : List ℕ) (count : ℕ) (w : InjectionTree) (names_a : AllByRecursion (HasNamesOf a.names) (line_items w)) (names_b : AllByRecursion (HasNamesOf b.names) (line_items w)) where
    abbrev known : Tags
    known = tags_after [] w.tags

    fields_here : AllByRecursion (λ (f : RawField). KnownTarget a b m n f.target) w.fields
    fields_here =
        fields_known known [] w.fields
        (all_first (HasNamesOf a.names) (field_items known [] w.fields) (map (test_item known w.fields) w.tests)
        (all_later (HasNamesOf a.names) (tag_items [] w.tags) (value_items known w) names_a))
        (all_first (HasNamesOf b.names) (field_items known [] w.fields) (map (test_item known w.fields) w.tests)
        (all_later (HasNamesOf b.names) (tag_items [] w.tags) (value_items known w) names_b))

    tests_here : AllByRecursion KnownTest w.tests
    tests_here =
        tests_known known w.fields w.tests
        (all_later (HasNamesOf a.names) (field_items known [] w.fields) (map (test_item known w.fields) w.tests)
        (all_later (HasNamesOf a.names) (tag_items [] w.tags) (value_items known w) names_a))
        (all_later (HasNamesOf b.names) (field_items known [] w.fields) (map (test_item known w.fields) w.tests)
        (all_later (HasNamesOf b.names) (tag_items [] w.tags) (value_items known w) names_b))

    injected_here : BothAlike a b m n ℕ (injected (numbers v count) (scene_at a m) w) (injected (numbers v count) (scene_at b n) w)
    injected_here =
        injected_alike a b m n laws (numbers v count) w
        (lines_known [] w.tags (all_first (HasNamesOf a.names) (tag_items [] w.tags) (value_items known w) names_a)
        (all_first (HasNamesOf b.names) (tag_items [] w.tags) (value_items known w) names_b))
        fields_here

    all_true : (s t : Carried ℕ) → Alike a b m n ℕ s t → (tests : List CondTree) → AllByRecursion KnownTest tests
        → AllByRecursion (IsTrueIn (scene_at a m) (numbers v count) s) tests → AllByRecursion (IsTrueIn (scene_at b n) (numbers v count) t) tests
    all_true s t alike [] k h = tt
    all_true s t alike (c ∷ tests) k h =
        (sym (truth_alike a b m n laws (numbers v count) s t alike c k.0) ∙ h.0, all_true s t alike tests k.1 h.1)

    record StartsThere : Type 0 where
      pub state : Carried ℕ
      pub carries : injected (numbers v count) (scene_at b n) w ≡ Ok state
      pub holds : AllByRecursion (IsTrueIn (scene_at b n) (numbers v count) state) w.tests

    starts_by : (s : Carried ℕ) → AllByRecursion (IsTrueIn (scene_at a m) (numbers v count) s) w.tests → (r : Result (Carried ℕ) LayoutFault)
        → injected (numbers v count) (scene_at b n) w ≡ r → BothAlike a b m n ℕ (Ok s) r → StartsThere
    starts_by s h (Ok t) e alike = record { state = t; carries = e; holds = all_true s t alike w.tests tests_here h }
    starts_by s h (Err fault) e alike = absurd alike

    starts_there : (s : Carried ℕ) → injected (numbers v count) (scene_at a m) w ≡ Ok s → AllByRecursion (IsTrueIn (scene_at a m) (numbers v count) s) w.tests → StartsThere
    starts_there s e h =
        starts_by s h (injected (numbers v count) (scene_at b n) w) refl
        (subst (λ r. BothAlike a b m n ℕ r (injected (numbers v count) (scene_at b n) w)) e injected_here)

-- the injection of an entry, as one of its text
meets_by : (b : Network) (j : Entry) (v : List ℕ) (w : InjectionTree) → w ≡ j.own → FitWidths (unknown_widths w.fields) v
    → (t : Carried ℕ) → injected (numbers v (length (unknown_widths w.fields))) (scene_at b j.node) w ≡ Ok t
    → AllByRecursion (IsTrueIn (scene_at b j.node) (numbers v (length (unknown_widths w.fields))) t) w.tests → Meets b j v
meets_by b j v w e fits t carries holds = (
  t,
  record {
    fits = subst (λ x. FitWidths (unknown_widths x.fields) v) e fits;
    carries = subst (λ x. injected (numbers v (length (unknown_widths x.fields))) (scene_at b j.node) x ≡ Ok t) e carries;
    holds = subst (λ x. AllByRecursion (IsTrueIn (scene_at b j.node) (numbers v (length (unknown_widths x.fields))) t) x.tests) e holds;
  },
)

pub met_alike : StackLaws ℕ → ((net : Network) (i : Entry) → AreOfOneJob net i → AllByRecursion (HasNamesOf net.names) (line_items i.own))
    → (a b : Network) (i j : Entry) → AreOfOneJob a i → AreOfOneJob b j → i.own ≡ j.own → (v : List ℕ) → Meets a i v → Meets b j v
met_alike laws names a b i j one other same v met =
    let there = starts_there a b i.node j.node laws v (unknown_count i) i.own (names a i one)
    (subst (λ x. AllByRecursion (HasNamesOf b.names) (line_items x)) (sym same) (names b j other)) met.0 met.1.carries met.1.holds in
    meets_by b j v i.own same met.1.fits there.state there.carries there.holds
