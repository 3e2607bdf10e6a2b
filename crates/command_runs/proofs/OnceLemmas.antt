-- In a world, inputs come to one thing.
use Rattle.std.proofs.Common.{◌≡◌, inl, inr, ◌∙◌, ap, sym, subst, refl, List, [], ◌∷◌, ◌<◌, ℕ, length, Option, Some, None, arith}
use Rattle.std.proofs.lemmas.Option.{none-some, same_Some}
use Rattle.std.specs.Prelude.{IsSomeAnd, Bool}
use Rattle.std.specs.Option.{ForSome}
use Rattle.sn_width.specs.declared.ids.Site.{Site}
use Rattle.sefl_syntax.specs.declared.net.Style.{Style}
use Rattle.sefl_syntax.specs.declared.net.TableKind.{TableKind}
use Rattle.sefl_syntax.specs.Trees.{NodeTree, BodyTree, code, table, DeclTree, JobTree}
use Rattle.table_files.specs.FileNodes.{FilesHaveOneNode, IsNodeOf, NodesHaveNoBadLine}
use Rattle.sefl_reader.specs.Outcome.{Outcome, a_job}
use Rattle.job_items.specs.declared.rule.Rule.{Rule}
use Rattle.net_check.specs.Places.{node_position}
use Rattle.net_check.specs.Network.{Network, Entry}
use Rattle.net_check.specs.Sound.{IsSound, IsNetOf, IsGivenEntry}
use Rattle.command_edge.specs.Files.{Files, HasFile, LoadFails}
use Rattle.command_runs.specs.Flaws.{Flaw, syntax}
use Rattle.command_runs.specs.Refusals.{fault_by_number, fault_by_rule, rule_number}
use Rattle.command_runs.specs.Tables.{AllFilled, CodeFails, FirstUnfilled, IsCodeOf, IsFilled, TableFails}
use Rattle.command_runs.specs.Jobs.{AcceptFails, HasFilled, HasJob, IsOnlyFlaw, IsOnlyJob, IsRefusedAt, JobFails, ReadFails, first_bad}
use Rattle.command_runs.specs.Outside.{World, world}
use Rattle.command_runs.specs.Inputs.{Input, Given, a_job as of_job, a_made_job, a_file, a_net, some_bytes, AllOpen, FirstFails, Opens, Fails, IsSettled}
use Rattle.command_edge.specs.declared.limits.TheConstants.{FILE_LIMIT}
use Rattle.command_edge.specs.declared.fault.InputFault.{InputFault}
use Rattle.command_edge.specs.declared.fault.InputFault.TheVariants.{NoFile, ReadFault, TooBig, Syntax, BadTable, BadPattern, Refused, NoMemory}

same_in : {T : Type 0} (o : Option T) (x y : T) → o ≡ Some x → o ≡ Some y → x ≡ y
same_in o x y h k = same_Some x y (sym h ∙ k)

some_and : {T : Type 0} (o : Option T) (P : T → Type 0) (x : T) → o ≡ Some x → IsSomeAnd o P → P x
some_and o P x is h = subst (λ p. IsSomeAnd p P) is h

-- ---- texts

abbrev tree_or : Outcome → JobTree → JobTree
tree_or (a_job j) other = j
tree_or _ other = other

job_of_bytes : (bytes : List ℕ) (j k : JobTree) → IsOnlyJob bytes j → IsOnlyJob bytes k → j ≡ k
job_of_bytes bytes j k a b = ap (λ o. tree_or o j) (b.only (a_job j) a.text)

read_excludes : (w : World) (bytes : List ℕ) (j : JobTree) (f : InputFault) → IsSettled w f → IsOnlyJob bytes j → ReadFails bytes f → ⊥
read_excludes w bytes j (Syntax line column kind) s a f = none-some (record { line = line; column = column; kind = kind }) (f.only (a_job j) a.text)
read_excludes w bytes j NoMemory s a f = s
read_excludes w bytes j f s a h = h

flaw_once : (bytes : List ℕ) (a b : Flaw) → IsOnlyFlaw bytes a → IsOnlyFlaw bytes b → syntax a ≡ syntax b
flaw_once bytes a b f g =
    let (outcome, is, has) = f.has in
    ap syntax (same_Some a b (sym has ∙ g.only outcome is))

read_once : (w : World) (bytes : List ℕ) (f g : InputFault) → IsSettled w f → IsSettled w g → ReadFails bytes f → ReadFails bytes g → f ≡ g
read_once w bytes (Syntax a b c) (Syntax x y z) s t h k =
    flaw_once bytes (record { line = a; column = b; kind = c }) (record { line = x; column = y; kind = z }) h k
read_once w bytes NoMemory g s t h k = absurd s
read_once w bytes f NoMemory s t h k = absurd t
read_once w bytes (Syntax a b c) g s t h k = absurd k
read_once w bytes f g s t h k = absurd h

-- ---- acceptance

same_site : (a x : Site) → a.0 ≡ x.0 → a ≡ x
same_site a x same = λ i. record { 0 = same i }

of_rule : (site : Site) (rule : Rule) (kind : ℕ) → rule_number rule ≡ Some kind → Refused site kind ≡ fault_by_rule site rule
of_rule site rule kind is = sym (ap (fault_by_number site) is)

same_rule : (a x : Site) (r s : Rule) → ◌≡◌ {A = Option (ℕ × Rule)} (Some (a.0, r)) (Some (x.0, s)) → fault_by_rule a r ≡ fault_by_rule x s
same_rule a x r s same =
    let pairs : ◌≡◌ {A = ℕ × Rule} (a.0, r) (x.0, s) = same_Some (a.0, r) (x.0, s) same in
    λ k. fault_by_rule (record { 0 = (pairs k).0 }) (pairs k).1

pub refused_once : (j : JobTree) (a x : Site) (b y : ℕ) → IsRefusedAt j a b → IsRefusedAt j x y → Refused a b ≡ Refused x y
refused_once j a x b y (r, breaks, number) (s, breaks', number') =
    of_rule a r b number ∙ (same_rule a x r s (sym breaks ∙ breaks') ∙ sym (of_rule x s y number'))

sound_or_refused : (j : JobTree) (site : Site) (kind : ℕ) → IsSound j → IsRefusedAt j site kind → ⊥
sound_or_refused j site kind sound (rule, breaks, number) = none-some (site.0, rule) (sym sound ∙ breaks)

-- a job is accepted as one net, where it is known what its patterns find
same_net : (j : JobTree) (a b : Network) → IsNetOf j a → IsNetOf j b → a.found ≡ b.found → a ≡ b
same_net j a b of_a of_b found = λ k. record {
  own = (of_a.own ∙ sym of_b.own) k;
  names = (of_a.names ∙ sym of_b.names) k;
  found = found k;
}

-- and as one injection
same_entry : (j : JobTree) (a b : Entry) → IsGivenEntry j a → IsGivenEntry j b → a ≡ b
same_entry j a b of_a of_b =
    let own : a.own ≡ b.own = of_a.0.own ∙ sym of_b.0.own in
    let node : a.node.0 ≡ b.node.0 =
    same_Some a.node.0 b.node.0 (sym of_a.0.node ∙ (ap (λ o. node_position j.net o.node) own ∙ of_b.0.node)) in
    let most : a.most_choices ≡ b.most_choices = of_a.1 ∙ sym of_b.1 in
    λ k. record { own = own k; node = record { 0 = node k }; most_choices = most k }

module _ (one_node : FilesHaveOneNode) (no_bad : NodesHaveNoBadLine) (w : World) where
  abbrev files : Files
  files = Some w.at

  -- ---- files

  bytes_once : (limit : ℕ) (name b c : List ℕ) → HasFile files limit name b → HasFile files limit name c → b ≡ c
  bytes_once limit name b c h k = same_in (w.at name) b c (h.1 w.at refl) (k.1 w.at refl)

  has_none : (limit : ℕ) (name b : List ℕ) → HasFile files limit name b → w.at name ≡ None → ⊥
  has_none limit name b h none = none-some b (sym none ∙ h.1 w.at refl)

  has_long : (limit : ℕ) (name b : List ℕ) → HasFile files limit name b → IsSomeAnd (w.at name) (λ bytes. limit < length bytes) → ⊥
  has_long limit name b h long =
      let more = some_and (w.at name) (λ bytes. limit < length bytes) b (h.1 w.at refl) long in
      let short = h.0 in absurd (omega (arith, more, short))

  loads : (limit : ℕ) (name b : List ℕ) (f : InputFault) → HasFile files limit name b → IsSettled w f → LoadFails files limit name f → ⊥
  loads limit name b (NoFile own) h s k = has_none limit name b h (k.1 w.at refl)
  loads limit name b (TooBig own) h s k = has_long limit name b h (k.1 w.at refl)
  loads limit name b (ReadFault own) h s k = s
  loads limit name b NoMemory h s k = s
  loads limit name b f h s k = k

  none_long : (limit : ℕ) (name : List ℕ) → w.at name ≡ None → IsSomeAnd (w.at name) (λ bytes. limit < length bytes) → ⊥
  none_long limit name none long = subst (λ o. IsSomeAnd o (λ bytes. limit < length bytes)) none long

  load_once : (limit : ℕ) (name : List ℕ) (f g : InputFault) → IsSettled w f → IsSettled w g → LoadFails files limit name f → LoadFails files limit name g → f ≡ g
  load_once limit name (NoFile a) (NoFile b) s t h k = ap NoFile (h.0 ∙ sym k.0)
  load_once limit name (NoFile a) (TooBig b) s t h k = absurd (none_long limit name (h.1 w.at refl) (k.1 w.at refl))
  load_once limit name (TooBig a) (NoFile b) s t h k = absurd (none_long limit name (k.1 w.at refl) (h.1 w.at refl))
  load_once limit name (TooBig a) (TooBig b) s t h k = ap TooBig (h.0 ∙ sym k.0)
  load_once limit name (ReadFault a) g s t h k = absurd s
  load_once limit name NoMemory g s t h k = absurd s
  load_once limit name f (ReadFault b) s t h k = absurd t
  load_once limit name f NoMemory s t h k = absurd t
  load_once limit name (NoFile a) g s t h k = absurd k
  load_once limit name (TooBig a) g s t h k = absurd k
  load_once limit name f g s t h k = absurd h

  -- ---- tables

  table_excludes : (kind : TableKind) (name bytes : List ℕ) (style : Style) (node : NodeTree) (f : InputFault) → IsSettled w f → IsNodeOf kind bytes style node
      → TableFails kind name bytes f → ⊥
  table_excludes kind name bytes style node (BadTable own line rule) s is k = none-some (line, rule) (sym (no_bad kind bytes style node is) ∙ k.1)
  table_excludes kind name bytes style node NoMemory s is k = s
  table_excludes kind name bytes style node f s is k = k

  table_once : (kind : TableKind) (name bytes : List ℕ) (f g : InputFault) → IsSettled w f → IsSettled w g → TableFails kind name bytes f → TableFails kind name bytes g → f ≡ g
  table_once kind name bytes (BadTable own line rule) (BadTable other at kind') s t h k =
      let names = h.0 ∙ sym k.0 in
      let lines : ◌≡◌ {A = ℕ × ℕ} (line, rule) (at, kind') = same_Some (line, rule) (at, kind') (sym h.1 ∙ k.1) in
      λ i. BadTable (names i) (lines i).0 (lines i).1
  table_once kind name bytes NoMemory g s t h k = absurd s
  table_once kind name bytes f NoMemory s t h k = absurd t
  table_once kind name bytes (BadTable own line rule) g s t h k = absurd k
  table_once kind name bytes f g s t h k = absurd h

  code_once : (body : BodyTree) (a b : NodeTree) → IsCodeOf files body a → IsCodeOf files body b → a ≡ b
  code_once (code own) a b h k = h ∙ sym k
  code_once (table kind name style) a b (x, file, is) (y, file', is') =
      one_node kind y style a b (subst (λ bs. IsNodeOf kind bs style a) (bytes_once FILE_LIMIT name x y file file') is) is'

  code_excludes : (body : BodyTree) (node : NodeTree) (f : InputFault) → IsSettled w f → IsCodeOf files body node → CodeFails files body f → ⊥
  code_excludes (code own) node f s h k = k
  code_excludes (table kind name style) node f s (x, file, is) (inl k) = loads FILE_LIMIT name x f file s k
  code_excludes (table kind name style) node f s (x, file, is) (inr (y, file', k)) =
      table_excludes kind name y style node f s (subst (λ bs. IsNodeOf kind bs style node) (bytes_once FILE_LIMIT name x y file file') is) k

  code_fails_once : (body : BodyTree) (f g : InputFault) → IsSettled w f → IsSettled w g → CodeFails files body f → CodeFails files body g → f ≡ g
  code_fails_once (code own) f g s t h k = absurd h
  code_fails_once (table kind name style) f g s t (inl h) (inl k) = load_once FILE_LIMIT name f g s t h k
  code_fails_once (table kind name style) f g s t (inl h) (inr (y, file, k)) = absurd (loads FILE_LIMIT name y f file s h)
  code_fails_once (table kind name style) f g s t (inr (x, file, h)) (inl k) = absurd (loads FILE_LIMIT name x g file t k)
  code_fails_once (table kind name style) f g s t (inr (x, file, h)) (inr (y, file', k)) =
      table_once kind name y f g s t (subst (λ bs. TableFails kind name bs f) (bytes_once FILE_LIMIT name x y file file') h) k

  nodes_once : (ds a b : List DeclTree) → AllFilled files ds a → AllFilled files ds b → a ≡ b
  nodes_once [] a b h k = h ∙ sym k
  nodes_once (d ∷ ds) a b (x, is, rest, more, same) (y, is', rest', more', same') =
      let codes = code_once d.body x y is is' in
      let later = nodes_once ds rest rest' more more' in
      same ∙ ((λ i. record { name = d.name; body = code (codes i) } ∷ later i) ∙ sym same')

  pub nodes_exclude : (ds a : List DeclTree) (f : InputFault) → IsSettled w f → AllFilled files ds a → FirstUnfilled files ds f → ⊥
  nodes_exclude [] a f s h k = k
  nodes_exclude (d ∷ ds) a f s (x, is, rest, more, same) (inl k) = code_excludes d.body x f s is k
  nodes_exclude (d ∷ ds) a f s (x, is, rest, more, same) (inr (y, is', k)) = nodes_exclude ds rest f s more k

  pub unfilled_once : (ds : List DeclTree) (f g : InputFault) → IsSettled w f → IsSettled w g → FirstUnfilled files ds f → FirstUnfilled files ds g → f ≡ g
  unfilled_once [] f g s t h k = absurd h
  unfilled_once (d ∷ ds) f g s t (inl h) (inl k) = code_fails_once d.body f g s t h k
  unfilled_once (d ∷ ds) f g s t (inl h) (inr (y, is, k)) = absurd (code_excludes d.body y f s is h)
  unfilled_once (d ∷ ds) f g s t (inr (x, is, h)) (inl k) = absurd (code_excludes d.body x g t is k)
  unfilled_once (d ∷ ds) f g s t (inr (x, is, h)) (inr (y, is', k)) = unfilled_once ds f g s t h k

  pub full_once : (j a b : JobTree) → IsFilled files j a → IsFilled files j b → a ≡ b
  full_once j a b of_a of_b =
      let nodes = nodes_once j.net.nodes a.net.nodes b.net.nodes of_a.nodes of_b.nodes in
      let links = of_a.links ∙ sym of_b.links in
      let injection = of_a.injection ∙ sym of_b.injection in
      let asks = of_a.asks ∙ sym of_b.asks in
      λ i. record { net = record { nodes = nodes i; links = links i }; injection = injection i; asks = asks i }

  -- ---- a job

  job_once : (name : List ℕ) (j k : JobTree) → HasJob files name j → HasJob files name k → j ≡ k
  job_once name j k (b, file, is) (c, file', is') =
      job_of_bytes c j k (subst (λ bs. IsOnlyJob bs j) (bytes_once FILE_LIMIT name b c file file') is) is'

  filled_once : (name : List ℕ) (a b : JobTree) → HasFilled files name a → HasFilled files name b → a ≡ b
  filled_once name a b (j, has, is) (k, has', is') =
      full_once k a b (subst (λ (x : JobTree). IsFilled files x a) (job_once name j k has has') is) is'

  filled_excludes : (name : List ℕ) (full : JobTree) (f : InputFault) → IsSettled w f → HasFilled files name full → JobFails files name f → ⊥
  filled_excludes name full f s (j, (b, file, is), filled) (inl k) = loads FILE_LIMIT name b f file s k
  filled_excludes name full f s (j, (b, file, is), filled) (inr (inl (c, file', k))) =
      read_excludes w c j f s (subst (λ bs. IsOnlyJob bs j) (bytes_once FILE_LIMIT name b c file file') is) k
  filled_excludes name full f s (j, has, filled) (inr (inr (k, has', fails))) =
      nodes_exclude j.net.nodes full.net.nodes f s filled.nodes
      (subst (λ (x : JobTree). FirstUnfilled files x.net.nodes f) (job_once name k j has' has) fails)

  job_fails_once : (name : List ℕ) (f g : InputFault) → IsSettled w f → IsSettled w g → JobFails files name f → JobFails files name g → f ≡ g
  job_fails_once name f g s t (inl h) (inl k) = load_once FILE_LIMIT name f g s t h k
  job_fails_once name f g s t (inl h) (inr (inl (c, file, k))) = absurd (loads FILE_LIMIT name c f file s h)
  job_fails_once name f g s t (inl h) (inr (inr (j, (c, file, is), k))) = absurd (loads FILE_LIMIT name c f file s h)
  job_fails_once name f g s t (inr (inl (b, file, h))) (inl k) = absurd (loads FILE_LIMIT name b g file t k)
  job_fails_once name f g s t (inr (inr (j, (b, file, is), h))) (inl k) = absurd (loads FILE_LIMIT name b g file t k)
  job_fails_once name f g s t (inr (inl (b, file, h))) (inr (inl (c, file', k))) =
      read_once w c f g s t (subst (λ bs. ReadFails bs f) (bytes_once FILE_LIMIT name b c file file') h) k
  job_fails_once name f g s t (inr (inl (b, file, h))) (inr (inr (j, (c, file', is), k))) =
      absurd (read_excludes w c j f s is (subst (λ bs. ReadFails bs f) (bytes_once FILE_LIMIT name b c file file') h))
  job_fails_once name f g s t (inr (inr (j, (b, file, is), h))) (inr (inl (c, file', k))) =
      absurd (read_excludes w b j g t is (subst (λ bs. ReadFails bs g) (bytes_once FILE_LIMIT name c b file' file) k))
  job_fails_once name f g s t (inr (inr (j, has, h))) (inr (inr (k, has', m))) =
      unfilled_once k.net.nodes f g s t (subst (λ (x : JobTree). FirstUnfilled files x.net.nodes f) (job_once name j k has has') h) m

  -- ---- its acceptance

  accept_excludes : (j : JobTree) (f : InputFault) → IsSettled w f → IsSound j → ForSome w.is_bad (λ b. first_bad b j ≡ None) → AcceptFails (world w).refuses tt j f tt → ⊥
  accept_excludes j (Refused site kind) s h g k = sound_or_refused j site kind h k.0
  accept_excludes j (BadPattern site) s h g k = none-some site.0 (sym (g s.0 s.1) ∙ k.1 s.0 s.1)
  accept_excludes j NoMemory s h g k = s
  accept_excludes j f s h g k = k

  accept_once : (j : JobTree) (f g : InputFault) → IsSettled w f → IsSettled w g → AcceptFails (world w).refuses tt j f tt → AcceptFails (world w).refuses tt j g tt → f ≡ g
  accept_once j (Refused a b) (Refused x y) s t h k = refused_once j a x b y h.0 k.0
  accept_once j (Refused a b) (BadPattern x) s t h k = absurd (sound_or_refused j a b k.0 h.0)
  accept_once j (BadPattern a) (Refused x y) s t h k = absurd (sound_or_refused j x y h.0 k.0)
  accept_once j (BadPattern a) (BadPattern x) s t h k =
      ap BadPattern (same_site a x (same_in (first_bad s.0 j) a.0 x.0 (h.1 s.0 s.1) (k.1 s.0 s.1)))
  accept_once j NoMemory g s t h k = absurd s
  accept_once j f NoMemory s t h k = absurd t
  accept_once j (Refused a b) g s t h k = absurd k
  accept_once j (BadPattern a) g s t h k = absurd k
  accept_once j f g s t h k = absurd h

  -- ---- inputs

  taken_once : (j : JobTree) (net other : Network) (i e : Entry) (finds : List ℕ → List ℕ → Bool) → w.finds ≡ Some finds
      → (world w).takes tt j net i tt → (world w).takes tt j other e tt → (net ≡ other) × (i ≡ e)
  taken_once j net other i e finds told (sound, of_net, of_entry, found, good) (sound', of_net', of_entry', found', good') =
      (same_net j net other of_net of_net' (found finds told ∙ sym (found' finds told)), same_entry j i e of_entry of_entry')

  same_given : (j k : JobTree) (net other : Network) (i e : Entry) → j ≡ k → net ≡ other → i ≡ e → a_net net i j.asks ≡ a_net other e k.asks
  same_given j k net other i e jobs nets entries = λ l. a_net (nets l) (entries l) (jobs l).asks

  opens_once : (i : Input) (a b : Given) (finds : List ℕ → List ℕ → Bool) → w.finds ≡ Some finds → Opens (world w) tt i a tt → Opens (world w) tt i b tt → a ≡ b
  opens_once (a_file limit name) a b finds told (x, file, is) (y, file', is') = is ∙ (ap some_bytes (bytes_once limit name x y file file') ∙ sym is')
  opens_once (of_job name) a b finds told (j, m, has, net, i, taken, is) (k, n, has', other, e, taken', is') =
      let jobs = filled_once name j k has has' in
      let (nets, entries) = taken_once k net other i e finds told (subst (λ (x : JobTree). (world w).takes tt x net i tt) jobs taken) taken' in
      is ∙ (same_given j k net other i e jobs nets entries ∙ sym is')
  opens_once (a_made_job j) a b finds told (net, i, taken, is) (other, e, taken', is') =
      let (nets, entries) = taken_once j net other i e finds told taken taken' in
      is ∙ (same_given j j net other i e refl nets entries ∙ sym is')

  opens_exclude : (i : Input) (a : Given) (f : InputFault) → IsSettled w f → Opens (world w) tt i a tt → Fails (world w) tt i f tt → ⊥
  opens_exclude (a_file limit name) a f s (x, file, is) k = loads limit name x f file s k
  opens_exclude (of_job name) a f s (j, m, has, net, i, taken, is) (inl k) = filled_excludes name j f s has k
  opens_exclude (of_job name) a f s (j, m, has, net, i, (sound, of_net, of_entry, found, good), is) (inr (other, n, has', k)) =
      let same = filled_once name j other has has' in
      accept_excludes other f s (subst IsSound same sound) (subst (λ (x : JobTree). ForSome w.is_bad (λ b. first_bad b x ≡ None)) same good) k
  opens_exclude (a_made_job j) a f s (net, i, (sound, of_net, of_entry, found, good), is) k = accept_excludes j f s sound good k

  fails_once : (i : Input) (f g : InputFault) → IsSettled w f → IsSettled w g → Fails (world w) tt i f tt → Fails (world w) tt i g tt → f ≡ g
  fails_once (a_file limit name) f g s t h k = load_once limit name f g s t h k
  fails_once (of_job name) f g s t (inl h) (inl k) = job_fails_once name f g s t h k
  fails_once (of_job name) f g s t (inl h) (inr (j, m, has, k)) = absurd (filled_excludes name j f s has h)
  fails_once (of_job name) f g s t (inr (j, m, has, h)) (inl k) = absurd (filled_excludes name j g t has k)
  fails_once (of_job name) f g s t (inr (j, m, has, h)) (inr (other, n, has', k)) =
      accept_once other f g s t (subst (λ (x : JobTree). AcceptFails (world w).refuses tt x f tt) (filled_once name j other has has') h) k
  fails_once (a_made_job j) f g s t h k = accept_once j f g s t h k

  -- all inputs are good in one way, and then none is refused
  pub all_once : (is : List Input) (a b : List Given) (finds : List ℕ → List ℕ → Bool) → w.finds ≡ Some finds → AllOpen (world w) tt is a tt → AllOpen (world w) tt is b tt → a ≡ b
  all_once [] a b finds told h k = h.0 ∙ sym k.0
  all_once (i ∷ is) a b finds told (x, m, o, r, more, same) (y, n, p, q, more', same') =
      same ∙ (ap (λ z. z ∷ r) (opens_once i x y finds told o p) ∙ (ap (λ z. y ∷ z) (all_once is r q finds told more more') ∙ sym same'))

  pub all_exclude : (is : List Input) (a : List Given) (f : InputFault) → IsSettled w f → AllOpen (world w) tt is a tt → FirstFails (world w) tt is f tt → ⊥
  all_exclude [] a f s h k = k
  all_exclude (i ∷ is) a f s (x, m, o, r, more, same) (inl k) = opens_exclude i x f s o k
  all_exclude (i ∷ is) a f s (x, m, o, r, more, same) (inr (y, n, p, k)) = all_exclude is r f s more k

  -- the first that is refused, is refused in one way
  pub first_once : (is : List Input) (f g : InputFault) → IsSettled w f → IsSettled w g → FirstFails (world w) tt is f tt → FirstFails (world w) tt is g tt → f ≡ g
  first_once [] f g s t h k = absurd h
  first_once (i ∷ is) f g s t (inl h) (inl k) = fails_once i f g s t h k
  first_once (i ∷ is) f g s t (inl h) (inr (y, n, p, k)) = absurd (opens_exclude i y f s p h)
  first_once (i ∷ is) f g s t (inr (x, m, o, h)) (inl k) = absurd (opens_exclude i x g t o k)
  first_once (i ∷ is) f g s t (inr (x, m, o, h)) (inr (y, n, p, k)) = first_once is f g s t h k
