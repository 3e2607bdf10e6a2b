use Rattle.std.proofs.Common.{◌≡◌, refl, ap, ap₂, ◌∙◌, ℕ, List, [], ◌∷◌, ◌++◌, Option, Some, None, true, false, Bool, fold, slice_get, ◌+◌, min, true≢false, ◌&&◌}
use Rattle.std.specs.List.{list_all}
use Rattle.std.specs.Str.{bytes_eq}
use Rattle.std.proofs.lemmas.Slice.Eq.{bytes_eq-Decides}
use Rattle.clap.specs.Kinds.{or_else}
use Rattle.clap.specs.Lexer.{long_of, short_of, usize_max}
use Rattle.clap.specs.Walk.{Rule, Held, Text, Waiting, Row, Walk, word_met, long_or_other, short_or_plain, idle, option, value, arg_by_long, arg_by_id, arg_by_index, settled, settled_rows, walked, used, has_row, with_default, positional_held, pushed, is_pending}
use Rattle.clap.specs.Simple.{Shape, new_shape}
use Rattle.std.proofs.Common.{◌||◌, if◌then◌else◌}
use Rattle.clap.specs.Faults.{settle_fault, use_fault, turn_fault, defaults_fault, check_fault, positional_fault}
use Rattle.clap.specs.declared.builder.action.ArgAction.TheVariants.{Set}
use Rattle.clap.specs.declared.builder.value_parser.ValueParser.TheVariants as vp
use Rattle.clap.specs.Simple.{new_rule}
use Rattle.command_words.specs.Forms.{Form, Given, has_name, is_option, begins_with_dash, is_dashes}
use Rattle.command_words.specs.Apps.{row, rows}

-- an argument of a form that is built
abbrev pub one : Text → Option ℕ → Option Text → Bool → Rule
one id index long required = record (new_rule id) { index = index; long = long; action = Some Set; required = required; parser = Some vp.String; range = Some (record { start_inclusive = 1; end_inclusive = 1 }) }

abbrev pub shape_with : List Rule → Shape
shape_with c = record (new_shape []) { rules = c; no_binary_name = true; disable_help_flag = true; disable_help_subcommand = true; is_built = true }

abbrev pub held : List Row → Option (Text × List Text) → Held
held rs p = record { rows = rs; pending = p; skip = 0 }

abbrev pub at_place : List Row → Option (Text × List Text) → Waiting → ℕ → Bool → Walk
at_place rs p waiting k t = record { held = held rs p; waiting = waiting; position = k + 1; is_trailing = t; stopped = None }

-- a word that is no flag, where nothing waits
pub plain_word_met : (c : List Rule) (w : Text) (h : Held) (p : ℕ) → long_of w ≡ None → short_of w ≡ None → is_dashes w ≡ false
    → word_met c [] false idle p w h ≡ (h, value)
plain_word_met c w h p l s d = rw (d) (ap (λ o. long_or_other c idle w o h) l ∙ ap (λ o. short_or_plain c idle w o h) s)

-- what a word with no dash is
pub no_dash_long : (w : Text) → begins_with_dash w ≡ false → long_of w ≡ None
no_dash_long [] d = refl
no_dash_long (x ∷ xs) d = rw d refl

pub no_dash_short : (w : Text) → begins_with_dash w ≡ false → short_of w ≡ None
no_dash_short [] d = refl
no_dash_short (x ∷ xs) d = rw d refl

pub no_dash_dashes : (w : Text) → begins_with_dash w ≡ false → is_dashes w ≡ false
no_dash_dashes [] d = refl
no_dash_dashes (x ∷ xs) d = rw d refl

-- `--` where nothing waits
pub dashes_walked : (c : List Rule) (rs : List Row) (p : Option (Text × List Text)) (k : ℕ) (w : Text) → is_dashes w ≡ true
    → walked c [] (at_place rs p idle k false) w ≡ at_place rs p idle k true
unfolding walked
dashes_walked c rs p k w d = rw d refl

pub dashes_fault : (c : List Rule) (rs : List Row) (p : Option (Text × List Text)) (k : ℕ) (w : Text) → is_dashes w ≡ true
    → turn_fault (shape_with c) [] (at_place rs p idle k false) w ≡ []
dashes_fault c rs p k w d = rw d refl

-- ---- the rules of a form, by what the walk asks of them

abbrev pub settles : List Rule → Text → Type 0
settles c id = (i : Option ℕ) × (l : Option Text) × (r : Bool) × (arg_by_id c id ≡ Some (one id i l r))

abbrev pub option_found : Text → Bool → Option Rule
option_found name true = Some (one name None (Some name) false)
option_found name false = None

abbrev pub place_found : ℕ → Option Text → Option Rule
place_found k (Some id) = Some (one id (Some k) None true)
place_found k None = None

pub record Serves (f : Form) (c : List Rule) : Type 0 where
  pub by_long : (name : Text) → arg_by_long c name ≡ option_found name (is_option f name)
  pub by_index : (k : ℕ) → arg_by_index c (k + 1) ≡ place_found (k + 1) (slice_get f.positionals k)
  pub option_by_id : (name : Text) → is_option f name ≡ true → settles c name
  pub place_by_id : (k : ℕ) (id : Text) → slice_get f.positionals k ≡ Some id → settles c id
  pub small : (k : ℕ) (id : Text) → slice_get f.positionals k ≡ Some id → min (k + 1 + 1) usize_max ≡ k + 1 + 1
  pub fills : (rs : List Row) → fold with_default rs c ≡ rs
  pub no_default : (rs : List Row) → defaults_fault rs c ≡ []
  pub checks : (given : Given) → list_all (λ id. has_name id given) f.positionals ≡ true → check_fault (shape_with c) (rows given) false ≡ []
  pub checks_back : (given : Given) → check_fault (shape_with c) (rows given) false ≡ [] → list_all (λ id. has_name id given) f.positionals ≡ true

-- what is held stands for these names
pub record Holds (c : List Rule) (given : Given) (h : Held) : Type 0 where
  pub passes : settle_fault c false h ≡ []
  pub stands : settled_rows c h.pending h.rows ≡ rows given

pub has_row_is : (id : Text) (given : Given) → has_row id (rows given) ≡ has_name id given
has_row_is id [] = refl
has_row_is id (p ∷ ps) = ap (λ b. bytes_eq p.0 id || b) (has_row_is id ps)

-- a use of a name that has no value yet
pub use_passes_new : (id v : Text) (i : Option ℕ) (l : Option Text) (r : Bool) (given : Given) → has_name id given ≡ false
    → use_fault false (one id i l r) (v ∷ []) (rows given) ≡ []
use_passes_new id v i l r given new = rw (has_row_is id given, new) refl

pub use_adds : (id v : Text) (i : Option ℕ) (l : Option Text) (r : Bool) (given : Given) → has_name id given ≡ false
    → used (one id i l r) (v ∷ []) (rows given) ≡ rows (given ++ (id, v) ∷ [])
use_adds id v i l r [] new = refl
use_adds id v i l r (p ∷ ps) new = go (bytes_eq p.0 id) refl (use_adds id v i l r ps)
  where
    go : (b : Bool) → bytes_eq p.0 id ≡ b → (has_name id ps ≡ false → used (one id i l r) (v ∷ []) (rows ps) ≡ rows (ps ++ (id, v) ∷ []))
        → used (one id i l r) (v ∷ []) (rows (p ∷ ps)) ≡ rows ((p ∷ ps) ++ (id, v) ∷ [])
    go true e more = absurd (true≢false (rw e at new))
    go false e more = rw (e, e) (ap (λ rs. row p ∷ rs) (more (rw e at new)))

-- a name that is pending with its value
pub pending_holds : (c : List Rule) (given : Given) (id v : Text) → settles c id → has_name id given ≡ false
    → Holds c (given ++ (id, v) ∷ []) (held (rows given) (Some (id, v ∷ [])))
pending_holds c given id v s new = record {
  passes = rw (s.3) (use_passes_new id v s.0 s.1 s.2 given new);
  stands = rw (s.3) (use_adds id v s.0 s.1 s.2 given new);
}

-- ---- the steps where the word is read

module _ (f : Form) (c : List Rule) (serves : Serves f c) (given : Given) (rs : List Row) (p : Option (Text × List Text)) (holds : Holds c given (held rs p)) (k : ℕ) where
  pub positional_is : (w id : Text) (i : Option ℕ) (l : Option Text) (r : Bool)
      → positional_held c (one id i l r) w (held rs p) ≡ held (rows given) (Some (id, w ∷ []))
  positional_is w id i l r = go (is_pending (one id i l r) p)
    where
      go : (b : Bool) → pushed id w (if b && false then held rs p else settled c (held rs p)) ≡ held (rows given) (Some (id, w ∷ []))
      go true = ap (λ x. held x (Some (id, w ∷ []))) holds.stands
      go false = ap (λ x. held x (Some (id, w ∷ []))) holds.stands

  pub positional_passes : (id : Text) (i : Option ℕ) (l : Option Text) (r : Bool)
      → positional_fault c false (one id i l r) (held rs p) ≡ []
  positional_passes id i l r = go (is_pending (one id i l r) p)
    where
      go : (b : Bool) → (if b && false then [] else settle_fault c false (held rs p)) ≡ []
      go true = holds.passes
      go false = holds.passes

  pub place_turn : (w id : Text) → slice_get f.positionals k ≡ Some id → begins_with_dash w ≡ false
      → turn_fault (shape_with c) [] (at_place rs p idle k false) w ≡ []
  place_turn w id here plain = rw (no_dash_dashes w plain, no_dash_long w plain, no_dash_short w plain, serves.by_index k, here) (positional_passes id (Some (k + 1)) None true)

  pub place_walked : (w id : Text) → slice_get f.positionals k ≡ Some id → begins_with_dash w ≡ false
      → walked c [] (at_place rs p idle k false) w ≡ at_place (rows given) (Some (id, w ∷ [])) idle (k + 1) false
  unfolding walked
  place_walked w id here plain =
      rw (plain_word_met c w (held rs p) (k + 1) (no_dash_long w plain) (no_dash_short w plain) (no_dash_dashes w plain), serves.by_index k, here)
      (ap₂ (λ h n. record { held = h; waiting = idle; position = n; is_trailing = false; stopped = None }) (positional_is w id (Some (k + 1)) None true) (serves.small k id here))

  pub free_turn : (w id : Text) → slice_get f.positionals k ≡ Some id
      → turn_fault (shape_with c) [] (at_place rs p idle k true) w ≡ []
  free_turn w id here = rw (serves.by_index k, here) (positional_passes id (Some (k + 1)) None true)

  pub free_walked : (w id : Text) → slice_get f.positionals k ≡ Some id
      → walked c [] (at_place rs p idle k true) w ≡ at_place (rows given) (Some (id, w ∷ [])) idle (k + 1) true
  unfolding walked
  free_walked w id here = rw (serves.by_index k, here)
      (ap₂ (λ h n. record { held = h; waiting = idle; position = n; is_trailing = true; stopped = None }) (positional_is w id (Some (k + 1)) None true) (serves.small k id here))

  pub value_turn : (w name v : Text) → long_of w ≡ Some (name, Some v) → is_dashes w ≡ false → is_option f name ≡ true → has_name name given ≡ false
      → turn_fault (shape_with c) [] (at_place rs p idle k false) w ≡ []
  value_turn w name v long d known new = rw (d, long) (rw (serves.by_long name, known)
      (ap (λ x. or_else x []) (ap₂ or_else holds.passes (ap (use_fault false (one name None (Some name) false) (v ∷ [])) holds.stands
      ∙ use_passes_new name v None (Some name) false given new))))

  pub value_walked : (w name v : Text) → long_of w ≡ Some (name, Some v) → is_dashes w ≡ false → is_option f name ≡ true → has_name name given ≡ false
      → walked c [] (at_place rs p idle k false) w ≡ at_place (rows (given ++ (name, v) ∷ [])) None idle k false
  unfolding walked
  value_walked w name v long d known new = rw (d, long) (rw (serves.by_long name, known)
      (ap (λ x. at_place x None idle k false) (ap (used (one name None (Some name) false) (v ∷ [])) holds.stands
      ∙ use_adds name v None (Some name) false given new)))

  pub name_turn : (w name : Text) → long_of w ≡ Some (name, None) → is_dashes w ≡ false → is_option f name ≡ true
      → turn_fault (shape_with c) [] (at_place rs p idle k false) w ≡ []
  name_turn w name long d known = rw (d, long) (rw (serves.by_long name, known) (ap (λ x. or_else x []) holds.passes))

  pub name_walked : (w name : Text) → long_of w ≡ Some (name, None) → is_dashes w ≡ false → is_option f name ≡ true
      → walked c [] (at_place rs p idle k false) w ≡ at_place (rows given) (Some (name, [])) (option name) k false
  unfolding walked
  name_walked w name long d known = rw (d, long) (rw (serves.by_long name, known) (ap (λ x. at_place x (Some (name, [])) (option name) k false) holds.stands))

pub bytes_eq_refl : (a : List ℕ) → bytes_eq a a ≡ true
bytes_eq_refl a = (bytes_eq-Decides a a).1 refl

module _ (f : Form) (c : List Rule) (serves : Serves f c) (rs : List Row) (k : ℕ) (name w : Text) (known : is_option f name ≡ true) (plain : begins_with_dash w ≡ false) where
  pub wait_turn : turn_fault (shape_with c) [] (at_place rs (Some (name, [])) (option name) k false) w ≡ []
  wait_turn = rw (no_dash_dashes w plain, no_dash_long w plain, no_dash_short w plain) refl

  pub wait_walked : walked c [] (at_place rs (Some (name, [])) (option name) k false) w ≡ at_place rs (Some (name, w ∷ [])) idle k false
  unfolding walked
  wait_walked = rw (no_dash_dashes w plain, no_dash_long w plain, no_dash_short w plain, (serves.option_by_id name known).3, bytes_eq_refl name) refl
