-- What clap takes has a reading, where no word before `--` begins with one dash.
use Rattle.std.proofs.Common.{◌==◌, ◌≡◌, refl, sym, ap, ◌∙◌, ℕ, List, [], ◌∷◌, ◌++◌, Option, Some, None, true, false, Bool, slice_get, ◌+◌, ◌<◌, ◌||◌, ◌&&◌, not, inl, inr, true≢false, is_some, if◌then◌else◌, length, subst}
use Rattle.std.specs.List.{list_all}
use Rattle.std.specs.Option.{option_map_or}
use Rattle.clap.specs.Kinds.{Kinds, or_else, HasKind, IsAmong}
use Rattle.clap.specs.declared.error.Error.{Error}
use Rattle.clap.specs.declared.error.kind.ErrorKind.TheVariants.{OutOfMemory}
use Rattle.clap.specs.Words.{kind_of, matches_of}
use Rattle.clap.specs.Lexer.{long_of}
use Rattle.clap.specs.Words.{fault_of}
use Rattle.clap.specs.Walk.{Rule, Text, Waiting, Row, Walk, idle, option, walked, walk, settled_rows, is_pending, nothing_held, arg_by_long}
use Rattle.clap.specs.Faults.{settle_fault, use_fault, turn_fault, walk_fault, check_fault, long_fault, positional_fault, stray_fault, built_fault}
use Rattle.command_words.specs.Forms.{Form, Given, add, ends, option_of, option_value, read_places, read_words, has_name, is_option, begins_with_dash, is_dashes, is_single_dash, has_single_dash, read_form}
use Rattle.command_words.specs.Apps.{rows, form_app}
use Rattle.command_words.proofs.Names.{option_is, split}
use Rattle.command_words.proofs.ReadSteps.{Serves, Holds, settles, shape_with, at_place, no_dash_dashes, no_dash_long, no_dash_short, held, one, option_found, place_found, has_row_is, pending_holds, place_walked, free_walked, value_walked, name_walked, wait_walked, dashes_walked}
use Rattle.command_words.proofs.ReadLaw.{as_long, end_of, last_fault, branch, none_some, added, placed, optioned}
use Rattle.command_words.proofs.FormRules.{built_rules, serves, form_built, shut, form_law}

-- ---- small laws

abbrev is_nil : {A : Type 0} → List A → Bool
is_nil [] = true
is_nil (x ∷ xs) = false

cons_nil : {A : Type 0} {x : A} {xs : List A} → x ∷ xs ≡ [] → ⊥
cons_nil e = true≢false (sym (ap is_nil e))

parts : (a b : Kinds) → or_else a b ≡ [] → (a ≡ []) × (b ≡ [])
parts [] b e = (refl, e)
parts (k ∷ ks) b e = absurd (cons_nil e)

or_last : (a b : Bool) → (a || b) ≡ false → b ≡ false
or_last true b e = absurd (true≢false e)
or_last false b e = e

-- a word that begins with one dash, by what `clap` takes it for
abbrev lone : Text → Bool
lone w = begins_with_dash w && not (is_some (long_of w) || is_dashes w)

is_lone : (w : Text) → lone w ≡ is_single_dash w
is_lone [] = refl
is_lone (a ∷ []) = elim (split (a == 45)) [ inl h ↦ rw (h) refl | inr h ↦ rw (h) refl ]
is_lone (a ∷ b ∷ []) = elim (split (a == 45)) [
  | inl h ↦ elim (split (b == 45)) [ inl k ↦ rw (h, k) refl | inr k ↦ rw (h, k) refl ]
  | inr h ↦ rw (h) refl
]
is_lone (a ∷ b ∷ x ∷ xs) = elim (split (a == 45)) [
  | inl h ↦ elim (split (b == 45)) [ inl k ↦ rw (h, k) refl | inr k ↦ rw (h, k) refl ]
  | inr h ↦ rw (h) refl
]

no_dashes : (w : Text) (ws : List Text) → has_single_dash (w ∷ ws) ≡ false → is_dashes w ≡ false → (is_single_dash w || has_single_dash ws) ≡ false
no_dashes w ws s d = go (is_dashes w) d s
  where
    go : (b : Bool) → b ≡ false → (if b then false else is_single_dash w || has_single_dash ws) ≡ false → (is_single_dash w || has_single_dash ws) ≡ false
    go true n e = absurd (true≢false n)
    go false n e = e

rest_single : (w : Text) (ws : List Text) → has_single_dash (w ∷ ws) ≡ false → is_dashes w ≡ false → has_single_dash ws ≡ false
rest_single w ws s d = or_last (is_single_dash w) (has_single_dash ws) (no_dashes w ws s d)

dash_long : (w : Text) (ws : List Text) → has_single_dash (w ∷ ws) ≡ false → is_dashes w ≡ false → begins_with_dash w ≡ true → (q : Text × Option Text) × (long_of w ≡ Some q)
dash_long w ws s d b = go (long_of w) (begins_with_dash w) (is_dashes w) b d (ap (λ x. x || has_single_dash ws) (is_lone w) ∙ no_dashes w ws s d)
  where
    go : (o : Option (Text × Option Text)) (x y : Bool) → x ≡ true → y ≡ false → ((x && not (is_some o || y)) || has_single_dash ws) ≡ false → (q : Text × Option Text) × (o ≡ Some q)
    go None true false b1 d1 e = absurd (true≢false e)
    go None false y b1 d1 e = absurd (true≢false (sym b1))
    go None true true b1 d1 e = absurd (true≢false d1)
    go (Some q) x y b1 d1 e = (q, refl)

-- ---- what passes

pub record Passes (c : List Rule) (w : Walk) (words : List Text) : Type 0 where
  pub walks : walk_fault (shape_with c) [] w words ≡ []
  pub lasts : last_fault c (end_of c w words) ≡ []

turn_of : (c : List Rule) (w : Walk) (word : Text) (words : List Text) → Passes c w (word ∷ words) → turn_fault (shape_with c) [] w word ≡ []
unfolding walk_fault
turn_of c w word words pass = (parts _ _ pass.walks).0

rest_of : (c : List Rule) (w next : Walk) (word : Text) (words : List Text) → Passes c w (word ∷ words) → walked c [] w word ≡ next → Passes c next words
unfolding walk_fault
rest_of c w next word words pass goes = record {
  walks = sym (ap (λ x. walk_fault (shape_with c) [] x words) goes) ∙ (parts _ _ pass.walks).1;
  lasts = sym (ap (λ x. last_fault c (end_of c x words)) goes) ∙ pass.lasts;
}

-- a use that passes is of a name that had no value
use_new : (id v : Text) (i : Option ℕ) (l : Option Text) (r : Bool) (given : Given) → use_fault false (one id i l r) (v ∷ []) (rows given) ≡ [] → has_name id given ≡ false
use_new id v i l r given e = elim (split (has_name id given)) [
  | inl h ↦ absurd (cons_nil (rw (has_row_is id given, h) at e))
  | inr h ↦ h
]

module _ (f : Form) (c : List Rule) (serving : Serves f c) where
  pending_new : (given : Given) (id v : Text) → settles c id → settle_fault c false (held (rows given) (Some (id, v ∷ []))) ≡ [] → has_name id given ≡ false
  pending_new given id v s e = use_new id v s.0 s.1 s.2 given (rw s.3 at e)

  unsettled : (rs : List Row) (id : Text) → settles c id → settle_fault c false (held rs (Some (id, []))) ≡ [] → ⊥
  unsettled rs id s e = cons_nil (rw s.3 at e)

  -- a word for a place: there is one, and what was pending passes
  placed_back : (rs : List Row) (p : Option (Text × List Text)) (k : ℕ) (o : Option Text)
      → option_map_or (λ a. positional_fault c false a (held rs p)) (place_found (k + 1) o) (stray_fault (shape_with c)) ≡ []
      → (id : Text) × (o ≡ Some id) × (settle_fault c false (held rs p) ≡ [])
  placed_back rs p k None e = absurd (cons_nil e)
  placed_back rs p k (Some id) e = (id, refl, go (is_pending (one id (Some (k + 1)) None true) p) e)
    where
      go : (b : Bool) → (if b && false then [] else settle_fault c false (held rs p)) ≡ [] → settle_fault c false (held rs p) ≡ []
      go true x = x
      go false x = x

  free_back : (rs : List Row) (p : Option (Text × List Text)) (k : ℕ) (w : Text) → turn_fault (shape_with c) [] (at_place rs p idle k true) w ≡ []
      → (id : Text) × (slice_get f.positionals k ≡ Some id) × (settle_fault c false (held rs p) ≡ [])
  free_back rs p k w e = placed_back rs p k (slice_get f.positionals k) (rw (serving.by_index k) at e)

  place_back : (rs : List Row) (p : Option (Text × List Text)) (k : ℕ) (w : Text) → begins_with_dash w ≡ false → turn_fault (shape_with c) [] (at_place rs p idle k false) w ≡ []
      → (id : Text) × (slice_get f.positionals k ≡ Some id) × (settle_fault c false (held rs p) ≡ [])
  place_back rs p k w b e = placed_back rs p k (slice_get f.positionals k)
      (rw (no_dash_dashes w b, no_dash_long w b, no_dash_short w b, serving.by_index k) at e)

  found_back : (rs : List Row) (p : Option (Text × List Text)) (name : Text) (known : Bool) (v : Option Text)
      → long_fault c false (option_found name known) v (held rs p) ≡ [] → (known ≡ true) × (settle_fault c false (held rs p) ≡ [])
  found_back rs p name false v e = absurd (cons_nil e)
  found_back rs p name true (Some v) e = (refl, (parts _ _ e).0)
  found_back rs p name true None e = (refl, e)

  word_back : (rs : List Row) (p : Option (Text × List Text)) (name : Text) (v : Option Text) → long_fault c false (arg_by_long c name) v (held rs p) ≡ []
      → (is_option f name ≡ true) × (settle_fault c false (held rs p) ≡ [])
  word_back rs p name v e = found_back rs p name (is_option f name) v (rw (serving.by_long name) at e)

  idle_back : (rs : List Row) (p : Option (Text × List Text)) (k : ℕ) (w name : Text) (v : Option Text) → is_dashes w ≡ false → long_of w ≡ Some (name, v)
      → turn_fault (shape_with c) [] (at_place rs p idle k false) w ≡ [] → long_fault c false (arg_by_long c name) v (held rs p) ≡ []
  idle_back rs p k w name v d long e = (parts _ _ (rw (d, long) at e)).0

  waiting_back : (rs : List Row) (p : Option (Text × List Text)) (id : Text) (k : ℕ) (w name : Text) (v : Option Text) → is_dashes w ≡ false → long_of w ≡ Some (name, v)
      → turn_fault (shape_with c) [] (at_place rs p (option id) k false) w ≡ [] → long_fault c false (arg_by_long c name) v (held rs p) ≡ []
  waiting_back rs p id k w name v d long e = (parts _ _ (rw (d, long) at e)).0

  -- what is pending is found to pass, here or later
  free_settles : (words : List Text) (rs : List Row) (p : Option (Text × List Text)) (k : ℕ) → Passes c (at_place rs p idle k true) words → settle_fault c false (held rs p) ≡ []
  free_settles [] rs p k pass = (parts _ _ pass.lasts).0
  free_settles (w ∷ ws) rs p k pass = (free_back rs p k w (turn_of c _ w ws pass)).2

  -- so it is after `--`, where an option waits
  trailing_settles : (words : List Text) (rs : List Row) (p : Option (Text × List Text)) (waiting : Waiting) (k : ℕ) → Passes c (at_place rs p waiting k true) words → settle_fault c false (held rs p) ≡ []
  trailing_settles [] rs p waiting k pass = (parts _ _ pass.lasts).0
  trailing_settles (w ∷ ws) rs p waiting k pass = (placed_back rs p k (slice_get f.positionals k) (rw (serving.by_index k) at (turn_of c _ w ws pass))).2

  idle_settles : (words : List Text) → has_single_dash words ≡ false → (rs : List Row) (p : Option (Text × List Text)) (k : ℕ) → Passes c (at_place rs p idle k false) words
      → settle_fault c false (held rs p) ≡ []
  idle_settles [] s rs p k pass = (parts _ _ pass.lasts).0
  idle_settles (w ∷ ws) s rs p k pass = elim (split (is_dashes w)) [
    | inl d ↦ free_settles ws rs p k (rest_of c _ _ w ws pass (dashes_walked c rs p k w d))
    | inr d ↦ elim (split (begins_with_dash w)) [
      | inl b ↦ let q = dash_long w ws s d b in (word_back rs p q.0.0 q.0.1 (idle_back rs p k w q.0.0 q.0.1 d q.1 (turn_of c _ w ws pass))).1
      | inr b ↦ (place_back rs p k w b (turn_of c _ w ws pass)).2
    ]
  ]

  -- ---- what passes has a reading

  abbrev Read : Option Given → Type 0
  Read o = (out : Given) × (o ≡ Some out)

  last_back : (given : Given) (rs : List Row) (p : Option (Text × List Text)) → Holds c given (held rs p) → last_fault c (held rs p) ≡ [] → Read (ends f given)
  last_back given rs p holds e =
      let ok : list_all (λ id. has_name id given) f.positionals ≡ true = serving.checks_back given
      (sym (ap (λ x. check_fault (shape_with c) x false) (serving.fills _ ∙ holds.stands)) ∙ (parts _ _ (parts _ _ e).1).1) in
      (given, rw (ok) refl)

  add_back : (id v : Text) (given : Given) (next : Given → Option Given) → has_name id given ≡ false → Read (next (given ++ (id, v) ∷ [])) → Read (add id v given next)
  add_back id v given next new r = (r.0, rw (new) r.1)

  places_back : (words : List Text) (k : ℕ) (given : Given) (rs : List Row) (p : Option (Text × List Text)) → Holds c given (held rs p)
      → Passes c (at_place rs p idle k true) words → Read (read_places f k given words)
  places_back [] k given rs p holds pass = last_back given rs p holds pass.lasts
  places_back (w ∷ ws) k given rs p holds pass =
      let h = free_back rs p k w (turn_of c _ w ws pass) in
      let more = rest_of c _ _ w ws pass (free_walked f c serving given rs p holds k w h.0 h.1) in
      let s = serving.place_by_id k h.0 h.1 in
      let new = pending_new given h.0 w s (free_settles ws (rows given) (Some (h.0, w ∷ [])) (k + 1) more) in
      let r = places_back ws (k + 1) (given ++ (h.0, w) ∷ []) (rows given) (Some (h.0, w ∷ [])) (pending_holds c given h.0 w s new) more in
      (r.0, rw (h.1, new) r.1)

  abbrev IdleBack : List Text → Type 0
  IdleBack words = has_single_dash words ≡ false → (k : ℕ) (given : Given) (rs : List Row) (p : Option (Text × List Text)) → Holds c given (held rs p)
      → Passes c (at_place rs p idle k false) words → Read (read_words f None k given words)

  abbrev WaitsBack : List Text → Type 0
  WaitsBack words = has_single_dash words ≡ false → (name : Text) → is_option f name ≡ true → (k : ℕ) (given : Given)
      → Passes c (at_place (rows given) (Some (name, [])) (option name) k false) words → Read (read_words f (Some name) k given words)

  option_read : (w : Text) (ws : List Text) → IdleBack ws → WaitsBack ws → has_single_dash ws ≡ false → (k : ℕ) (given : Given) (rs : List Row) (p : Option (Text × List Text)) → Holds c given (held rs p)
      → Passes c (at_place rs p idle k false) (w ∷ ws) → is_dashes w ≡ false → (name : Text) (v : Option Text) → long_of w ≡ Some (name, v) → is_option f name ≡ true
      → long_fault c false (option_found name true) v (held rs p) ≡ []
      → Read (option_value name v given (λ waits g. read_words f waits k g ws))
  option_read w ws idles waits s k given rs p holds pass d name (Some v) long known e =
      let new : has_name name given ≡ false = use_new name v None (Some name) false given (sym (ap (use_fault false (one name None (Some name) false) (v ∷ [])) holds.stands) ∙ (parts (settle_fault c false (held rs p)) (use_fault false (one name None (Some name) false) (v ∷ []) (settled_rows c p rs)) e).1) in
      let more = rest_of c _ _ w ws pass (value_walked f c serving given rs p holds k w name v long d known new) in
      let r = idles s k (given ++ (name, v) ∷ []) (rows (given ++ (name, v) ∷ [])) None (record { passes = refl; stands = refl }) more in
      (r.0, rw (new) r.1)
  option_read w ws idles waits s k given rs p holds pass d name None long known e =
      waits s name known k given (rest_of c _ _ w ws pass (name_walked f c serving given rs p holds k w name long d known))

  idle_word : (w : Text) (ws : List Text) → IdleBack ws → WaitsBack ws → IdleBack (w ∷ ws)
  idle_word w ws idles waits s k given rs p holds pass = elim (split (is_dashes w)) [
    | inl d ↦ let r = places_back ws k given rs p holds (rest_of c _ _ w ws pass (dashes_walked c rs p k w d)) in (r.0, rw (d) r.1)
    | inr d ↦ elim (split (begins_with_dash w)) [
      | inl b ↦ let q = dash_long w ws s d b in
          let e = idle_back rs p k w q.0.0 q.0.1 d q.1 (turn_of c _ w ws pass) in
          let known = (word_back rs p q.0.0 q.0.1 e).0 in
          let r = option_read w ws idles waits (rest_single w ws s d) k given rs p holds pass d q.0.0 q.0.1 q.1 known (rw (serving.by_long q.0.0, known) at e) in
          let named : option_of w ≡ Some q.0 = option_is w ∙ q.1 in
          (r.0, rw (d, b, named, known) r.1)
      | inr b ↦ let h = place_back rs p k w b (turn_of c _ w ws pass) in
          let more = rest_of c _ _ w ws pass (place_walked f c serving given rs p holds k w h.0 h.1 b) in
          let pl = serving.place_by_id k h.0 h.1 in
          let new = pending_new given h.0 w pl (idle_settles ws (rest_single w ws s d) (rows given) (Some (h.0, w ∷ [])) (k + 1) more) in
          let r = idles (rest_single w ws s d) (k + 1) (given ++ (h.0, w) ∷ []) (rows given) (Some (h.0, w ∷ [])) (pending_holds c given h.0 w pl new) more in
          (r.0, rw (d, b, h.1, new) r.1)
    ]
  ]

  dashes_waiting : (rs : List Row) (p : Option (Text × List Text)) (waiting : Text) (k : ℕ) (w : Text) → is_dashes w ≡ true
      → walked c [] (at_place rs p (option waiting) k false) w ≡ at_place rs p (option waiting) k true
  unfolding walked
  dashes_waiting rs p waiting k w d = rw d refl

  waiting_word : (w : Text) (ws : List Text) → IdleBack ws → WaitsBack (w ∷ ws)
  waiting_word w ws idles s name known k given pass = elim (split (is_dashes w)) [
    | inl d ↦ absurd (unsettled (rows given) name (serving.option_by_id name known)
        (trailing_settles ws (rows given) (Some (name, [])) (option name) k (rest_of c _ _ w ws pass (dashes_waiting (rows given) (Some (name, [])) name k w d))))
    | inr d ↦ elim (split (begins_with_dash w)) [
      | inl b ↦ let q = dash_long w ws s d b in
          absurd (unsettled (rows given) name (serving.option_by_id name known)
          (word_back (rows given) (Some (name, [])) q.0.0 q.0.1 (waiting_back (rows given) (Some (name, [])) name k w q.0.0 q.0.1 d q.1 (turn_of c _ w ws pass))).1)
      | inr b ↦ let more = rest_of c _ _ w ws pass (wait_walked f c serving (rows given) k name w known b) in
          let s2 = serving.option_by_id name known in
          let new = pending_new given name w s2 (idle_settles ws (rest_single w ws s d) (rows given) (Some (name, w ∷ [])) k more) in
          let r = idles (rest_single w ws s d) k (given ++ (name, w) ∷ []) (rows given) (Some (name, w ∷ [])) (pending_holds c given name w s2 new) more in
          (r.0, rw (b, new) r.1)
    ]
  ]

  pub words_back : (words : List Text) → IdleBack words × WaitsBack words
  words_back [] = (
    λ s k given rs p holds pass. last_back given rs p holds pass.lasts,
    λ s name known k given pass. absurd (unsettled (rows given) name (serving.option_by_id name known) (parts _ _ pass.lasts).0),
  )
  words_back (w ∷ ws) = let more = words_back ws in (idle_word w ws more.0 more.1, waiting_word w ws more.0)

pub taken_law : (f : Form) (words : List Text) → length f.positionals < 1000 → has_single_dash words ≡ false → fault_of (form_app f) words ≡ []
    → (given : Given) × (read_form f words ≡ Some given)
taken_law f words few single e =
    let c = built_rules f in
    let is = form_built f few in
    let whole = sym (shut c words (walk c [] nothing_held words).stopped) ∙ sym (ap (λ a. built_fault a nothing_held words) is) ∙ e in
    (words_back f c (serves f few) words).0 single 0 [] [] None (record { passes = refl; stands = refl })
    (record { walks = (parts _ _ whole).0; lasts = (parts _ _ whole).1 })

-- an answer but want of memory comes only where there is no reading
pub refused_law : (f : Form) (words : List Text) (e : Error) → length f.positionals < 1000 → HasKind (fault_of (form_app f) words) e → (kind_of e ≡ OutOfMemory → ⊥)
    → read_form f words ≡ None
refused_law f words e few has other = go (read_form f words) refl
  where
    go : (o : Option Given) → read_form f words ≡ o → o ≡ None
    go None is = refl
    go (Some given) is = elim has [
      | inl memory ↦ absurd (other memory)
      | inr among ↦ absurd (subst (λ k. IsAmong (kind_of e) k) (form_law f words given few is).0 among)
    ]

-- what clap takes is the reading
pub taken_rows : (f : Form) (words : List Text) → length f.positionals < 1000 → has_single_dash words ≡ false → fault_of (form_app f) words ≡ []
    → (given : Given) × (read_form f words ≡ Some given) × (matches_of (form_app f) words ≡ rows given)
taken_rows f words few single e =
    let t = taken_law f words few single e in
    (t.0, t.1, (form_law f words t.0 few t.1).1)

-- ---- what has a reading has no word with one dash before `--`

clean_of : (w : Text) (ws : List Text) → lone w ≡ false → has_single_dash ws ≡ false → has_single_dash (w ∷ ws) ≡ false
clean_of w ws l more = go (is_dashes w) (is_single_dash w) (sym (is_lone w) ∙ l)
  where
    go : (d s : Bool) → s ≡ false → (if d then false else s || has_single_dash ws) ≡ false
    go true s e = refl
    go false true e = absurd (true≢false e)
    go false false e = more

module _ (f : Form) where
  abbrev CleanIdle : List Text → Type 0
  CleanIdle words = (k : ℕ) (given out : Given) → read_words f None k given words ≡ Some out → has_single_dash words ≡ false

  abbrev CleanWaits : List Text → Type 0
  CleanWaits words = (name : Text) (k : ℕ) (given out : Given) → read_words f (Some name) k given words ≡ Some out → has_single_dash words ≡ false

  clean_word : (w : Text) (ws : List Text) → CleanIdle ws → CleanWaits ws → CleanIdle (w ∷ ws)
  clean_word w ws idles waits k given out e = elim (branch (is_dashes w) _ _ out e) [
    | inl d ↦ rw (d.0) refl
    | inr d ↦ elim (branch (begins_with_dash w) _ _ out d.1) [
      | inl b ↦ let o = optioned f (long_of w) given (λ waiting g. read_words f waiting k g ws) out (as_long f w given (λ waiting g. read_words f waiting k g ws) out b.1) in elim o.2 [
        | inl h ↦ clean_of w ws (rw (b.0, h.1) refl) (idles k (given ++ (o.0, h.0) ∷ []) out h.3)
        | inr h ↦ clean_of w ws (rw (b.0, h.0) refl) (waits o.0 k given out h.1)
      ]
      | inr b ↦ let h = placed (slice_get f.positionals k) w given (λ g. read_words f None (k + 1) g ws) out b.1 in
          clean_of w ws (rw (b.0) refl) (idles (k + 1) (given ++ (h.0, w) ∷ []) out h.3)
    ]
  ]

  clean_value : (w : Text) (ws : List Text) → CleanIdle ws → CleanWaits (w ∷ ws)
  clean_value w ws idles name k given out e = elim (branch (begins_with_dash w) None _ out e) [
    | inl b ↦ absurd (none_some b.1)
    | inr b ↦ let h = added name w given (λ g. read_words f None k g ws) out b.1 in
        clean_of w ws (rw (b.0) refl) (idles k (given ++ (name, w) ∷ []) out h.1)
  ]

  clean_words : (words : List Text) → CleanIdle words × CleanWaits words
  clean_words [] = (λ k given out e. refl, λ name k given out e. refl)
  clean_words (w ∷ ws) = let more = clean_words ws in (clean_word w ws more.0 more.1, clean_value w ws more.0)

  pub dashed_law : (words : List Text) → has_single_dash words ≡ true → read_form f words ≡ None
  dashed_law words dashed = go (read_form f words) refl
    where
      go : (o : Option Given) → read_form f words ≡ o → o ≡ None
      go None is = refl
      go (Some out) is = absurd (true≢false (sym dashed ∙ (clean_words words).0 0 [] out is))
