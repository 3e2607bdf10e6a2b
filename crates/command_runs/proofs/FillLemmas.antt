-- Jobs whose tables are given code, one after another.
use Rattle.std.proofs.Common.{◌≡◌, ◌∙◌, refl, sym, ap, subst, ℕ, zero, suc, ◌+◌, ◌<◌, ◌≤◌, ◌&&◌, inl, inr, Bool, true, false, true≢false, List, [], ◌∷◌, length, map, take, Some, add-one, slice_index_or, arith}
use Rattle.std.specs.Prelude.{not, slice_get}
use Rattle.std.proofs.lemmas.List.{take_all}
use Rattle.std.proofs.lemmas.Option.{none-some, same_Some}
use Rattle.sefl_syntax.specs.declared.net.NodeDecl.{NodeDecl}
use Rattle.sefl_syntax.specs.Filled.{all_code, is_code, is_table_in, nodes_with_code, with_code}
use Rattle.sefl_syntax.specs.Trees.{NodeTree, BodyTree, code, table, DeclTree, JobTree}
use Rattle.sefl_syntax.specs.Views.{decl_tree}
use Rattle.sn_edge.specs.Told.{FolderTold}
use Rattle.sn_edge.specs.declared.folder.Loaded.{Loaded}
use Rattle.command_runs.specs.Loading.{Fills, LoadsCode, LoadsNoCode, LoadsTables, LoadsUpTo}
use Rattle.command_edge.specs.declared.fault.InputFault.{InputFault}

-- ---- the node at an index

pub decl_at : (i : ℕ) (xs : List NodeDecl) (x : NodeDecl) → i < length xs → x ≡ slice_index_or xs i x → slice_get (map decl_tree xs) i ≡ Some (decl_tree x)
decl_at i [] x less is = absurd (omega (arith, less))
decl_at zero (y ∷ ys) x less is = ap (λ (z : NodeDecl). Some (decl_tree z)) (sym is)
decl_at (suc i) (y ∷ ys) x less is = decl_at i ys x (omega (arith, less)) is

pub table_at : (i : ℕ) (ds : List DeclTree) (d : DeclTree) → slice_get ds i ≡ Some d → is_code d.body ≡ false → is_table_in i ds ≡ true
table_at zero [] d is h = absurd (none-some d is)
table_at (suc i) [] d is h = absurd (none-some d is)
table_at zero (x ∷ ds) d is h = ap not (ap (λ (y : DeclTree). is_code y.body) (same_Some x d is) ∙ h)
table_at (suc i) (x ∷ ds) d is h = table_at i ds d is h

pub as_many : (i : ℕ) (node : NodeTree) (ds : List DeclTree) → length (nodes_with_code i node ds) ≡ length ds
as_many i node [] = refl
as_many zero node (d ∷ ds) = refl
as_many (suc i) node (d ∷ ds) = ap suc (as_many i node ds)

-- ---- which nodes have code

pub code_so_far : (i : ℕ) (ds : List DeclTree) (d : DeclTree) → slice_get ds i ≡ Some d → is_code d.body ≡ true → all_code (take i ds) ≡ true → all_code (take (i + 1) ds) ≡ true
code_so_far i ds d is h all = rw add-one (by i ds d is h all)
  where
    by : (i : ℕ) (ds : List DeclTree) (d : DeclTree) → slice_get ds i ≡ Some d → is_code d.body ≡ true → all_code (take i ds) ≡ true → all_code (take (suc i) ds) ≡ true
    by zero [] d is h all = absurd (none-some d is)
    by (suc i) [] d is h all = absurd (none-some d is)
    by zero (x ∷ ds) d is h all = ap (λ b. b && true) (ap (λ (y : DeclTree). is_code y.body) (same_Some x d is) ∙ h)
    by (suc i) (x ∷ ds) d is h all = both (is_code x.body) all (λ rest. by i ds d is h rest)
      where
        both : (b : Bool) → (b && all_code (take i ds)) ≡ true → (all_code (take i ds) ≡ true → all_code (take (suc i) ds) ≡ true) → (b && all_code (take (suc i) ds)) ≡ true
        both true all more = more all
        both false all more = all

pub code_filled : (i : ℕ) (node : NodeTree) (ds : List DeclTree) (d : DeclTree) → slice_get ds i ≡ Some d → all_code (take i ds) ≡ true
    → all_code (take (i + 1) (nodes_with_code i node ds)) ≡ true
code_filled i node ds d is all = rw add-one (by i node ds d is all)
  where
    by : (i : ℕ) (node : NodeTree) (ds : List DeclTree) (d : DeclTree) → slice_get ds i ≡ Some d → all_code (take i ds) ≡ true
        → all_code (take (suc i) (nodes_with_code i node ds)) ≡ true
    by zero node [] d is all = absurd (none-some d is)
    by (suc i) node [] d is all = absurd (none-some d is)
    by zero node (x ∷ ds) d is all = refl
    by (suc i) node (x ∷ ds) d is all = both (is_code x.body) all (λ rest. by i node ds d is rest)
      where
        both : (b : Bool) → (b && all_code (take i ds)) ≡ true → (all_code (take i ds) ≡ true → all_code (take (suc i) (nodes_with_code i node ds)) ≡ true)
            → (b && all_code (take (suc i) (nodes_with_code i node ds))) ≡ true
        both true all more = more all
        both false all more = all

-- ---- filling

module _ {S : Type 0} (told : S → FolderTold) (gives : S → List ℕ → ℕ → Loaded → S → Type 0) where
  abbrev Codes : S → BodyTree → NodeTree → S → Type 0
  Codes = LoadsCode told gives

  abbrev Tables : S → List DeclTree → List DeclTree → S → Type 0
  Tables = LoadsTables told gives

  abbrev UpTo : S → List DeclTree → InputFault → S → Type 0
  UpTo = LoadsUpTo told gives

  -- nodes that have code are loaded without a load
  pub own_filled : (u : S) (ds : List DeclTree) → all_code ds ≡ true → Tables u ds ds u
  own_filled u [] all = (refl, refl)
  own_filled u (d ∷ ds) all = by d.body refl all (λ rest. own_filled u ds rest)
    where
      by : (body : BodyTree) → d.body ≡ body → (is_code body && all_code ds) ≡ true → (all_code ds ≡ true → Tables u ds ds u) → Tables u (d ∷ ds) (d ∷ ds) u
      by (code own) is all rest =
          (own, u, subst (λ b. Codes u b own u) (sym is) (refl, refl), ds, rest all, λ i. record { name = d.name; body = is i } ∷ ds)
      by (table kind name style) is all rest = absurd (true≢false (sym all))

  -- a node that has code is not loaded
  own_state : (u v : S) (body : BodyTree) (node : NodeTree) → is_code body ≡ true → Codes u body node v → v ≡ u
  own_state u v (code own) node is codes = codes.1
  own_state u v (table kind name style) node is codes = absurd (true≢false (sym is))

  own_codes : (u v : S) (body : BodyTree) (node : NodeTree) → is_code body ≡ true → Codes u body node v → (w : S) → Codes w body node w
  own_codes u v (code own) node is codes w = (codes.0, refl)
  own_codes u v (table kind name style) node is codes w = absurd (true≢false (sym is))

  first_and : (x : DeclTree) (i : ℕ) (ds : List DeclTree) → all_code (take (suc i) (x ∷ ds)) ≡ true → (is_code x.body ≡ true) × (all_code (take i ds) ≡ true)
  first_and x i ds all = both (is_code x.body) (all_code (take i ds)) all
    where
      both : (a b : Bool) → (a && b) ≡ true → (a ≡ true) × (b ≡ true)
      both true b h = (refl, h)
      both false b h = absurd (true≢false (sym h))

  -- what loads the nodes after one was given its code loads the nodes as they were: those before it have code
  pub filled_on : (i : ℕ) (node : NodeTree) (ds full : List DeclTree) (d : DeclTree) (u m v : S) → slice_get ds i ≡ Some d → all_code (take i ds) ≡ true
      → Codes u d.body node m → Tables m (nodes_with_code i node ds) full v → Tables u ds full v
  filled_on zero node [] full d u m v is all has tables = absurd (none-some d is)
  filled_on (suc i) node [] full d u m v is all has tables = absurd (none-some d is)
  filled_on zero node (x ∷ ds) full d u m v is all has (own, n, codes, rest, more, made) = (
    own,
    m,
    subst (λ b. Codes u x.body b m) (sym codes.0) (subst (λ (y : DeclTree). Codes u y.body node m) (sym (same_Some x d is)) has),
    rest,
    subst (λ s. Tables s ds rest v) codes.1 more,
    made,
  )
  filled_on (suc i) node (x ∷ ds) full d u m v is all has (own, n, codes, rest, more, made) =
      let (first, others) = first_and x i ds all in (
        own,
        u,
        own_codes m n x.body own first codes u,
        rest,
        filled_on i node ds rest d u m v is others has (subst (λ s. Tables s (nodes_with_code i node ds) rest v) (own_state m n x.body own first codes) more),
        made,
      )

  -- and the first that gives no code is the same
  pub unfilled_on : (i : ℕ) (node : NodeTree) (ds : List DeclTree) (fault : InputFault) (d : DeclTree) (u m v : S) → slice_get ds i ≡ Some d → all_code (take i ds) ≡ true
      → Codes u d.body node m → UpTo m (nodes_with_code i node ds) fault v → UpTo u ds fault v
  unfilled_on i node [] fault d u m v is all has h = absurd h
  unfilled_on zero node (x ∷ ds) fault d u m v is all has (inl h) = absurd h
  unfilled_on zero node (x ∷ ds) fault d u m v is all has (inr (own, n, codes, h)) =
      inr (node, m, subst (λ (y : DeclTree). Codes u y.body node m) (sym (same_Some x d is)) has, subst (λ s. UpTo s ds fault v) codes.1 h)
  unfilled_on (suc i) node (x ∷ ds) fault d u m v is all has (inl h) = absurd (no_fault x.body (first_and x i ds all).0 h)
    where
      no_fault : (body : BodyTree) → is_code body ≡ true → LoadsNoCode told gives m body fault v → ⊥
      no_fault (code own) is h = h
      no_fault (table kind name style) is h = true≢false (sym is)
  unfilled_on (suc i) node (x ∷ ds) fault d u m v is all has (inr (own, n, codes, h)) =
      let (first, others) = first_and x i ds all in
      inr (
        own,
        u,
        own_codes m n x.body own first codes u,
        unfilled_on i node ds fault d u m v is others has (subst (λ s. UpTo s (nodes_with_code i node ds) fault v) (own_state m n x.body own first codes) h),
      )

  pub fails_at : (i : ℕ) (ds : List DeclTree) (fault : InputFault) (d : DeclTree) (u v : S) → slice_get ds i ≡ Some d → all_code (take i ds) ≡ true
      → LoadsNoCode told gives u d.body fault v → UpTo u ds fault v
  fails_at zero [] fault d u v is all h = absurd (none-some d is)
  fails_at (suc i) [] fault d u v is all h = absurd (none-some d is)
  fails_at zero (x ∷ ds) fault d u v is all h = inl (subst (λ (y : DeclTree). LoadsNoCode told gives u y.body fault v) (sym (same_Some x d is)) h)
  fails_at (suc i) (x ∷ ds) fault d u v is all h = by x.body refl all (λ rest. fails_at i ds fault d u v is rest h)
    where
      by : (body : BodyTree) → x.body ≡ body → (is_code body && all_code (take i ds)) ≡ true → (all_code (take i ds) ≡ true → UpTo u ds fault v)
          → UpTo u (x ∷ ds) fault v
      by (code own) same all rest = inr (own, u, subst (λ b. Codes u b own u) (sym same) (refl, refl), rest all)
      by (table kind name style) same all rest = absurd (true≢false (sym all))

  -- ---- a step: from the job to one in which the node at the index has code, as have those before it

  pub record Steps (i : ℕ) (j next : JobTree) (u m : S) : Type 0 where
    pub many : length next.net.nodes ≡ length j.net.nodes
    pub have : all_code (take (i + 1) next.net.nodes) ≡ true
    pub fills : (full : JobTree) (v : S) → Fills told gives m next full v → Fills told gives u j full v
    pub fails : (fault : InputFault) (v : S) → UpTo m next.net.nodes fault v → UpTo u j.net.nodes fault v

  pub given_code : (i : ℕ) (node : NodeTree) (j : JobTree) (d : DeclTree) (u m : S) → slice_get j.net.nodes i ≡ Some d → all_code (take i j.net.nodes) ≡ true
      → Codes u d.body node m → Steps i j (with_code i node j) u m
  given_code i node j d u m is all has = record {
    many = as_many i node j.net.nodes;
    have = code_filled i node j.net.nodes d is all;
    fills = λ full v f. record {
      nodes = filled_on i node j.net.nodes full.net.nodes d u m v is all has f.nodes;
      links = f.links;
      injection = f.injection;
      asks = f.asks;
    };
    fails = λ fault v. unfilled_on i node j.net.nodes fault d u m v is all has;
  }

  pub had_code : (i : ℕ) (j : JobTree) (d : DeclTree) (u m : S) → slice_get j.net.nodes i ≡ Some d → all_code (take i j.net.nodes) ≡ true → is_code d.body ≡ true → m ≡ u
      → Steps i j j u m
  had_code i j d u m is all own same = record {
    many = refl;
    have = code_so_far i j.net.nodes d is own all;
    fills = λ full v f. subst (λ s. Fills told gives s j full v) same f;
    fails = λ fault v f. subst (λ s. UpTo s j.net.nodes fault v) same f;
  }

  pub all_filled : (i : ℕ) (j : JobTree) (u : S) → length j.net.nodes ≤ i → all_code (take i j.net.nodes) ≡ true → Fills told gives u j j u
  all_filled i j u less all = record {
    nodes = own_filled u j.net.nodes (subst (λ ds. all_code ds ≡ true) (take_all i j.net.nodes less) all);
    links = refl;
    injection = refl;
    asks = refl;
  }
