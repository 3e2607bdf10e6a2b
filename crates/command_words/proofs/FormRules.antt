use Rattle.std.proofs.Common.{rules, ◌≡◌, refl, sym, ap, ap₂, ◌∙◌, ℕ, List, [], ◌∷◌, ◌++◌, Option, Some, None, true, false, Bool, fold, slice_get, ◌+◌, ◌<◌, ◌||◌, ◌&&◌, ◌==◌, length, true≢false, is_some, min, map, zero, suc, arith, not, subst, if◌then◌else◌, ne_eqb, count_by}
use Rattle.std.specs.List.{list_any, list_all}
use Rattle.std.specs.Str.{bytes_eq}
use Rattle.std.proofs.lemmas.Slice.Eq.{bytes_eq-Decides}
use Rattle.clap.specs.Kinds.{Kinds, or_else, check_kinds}
use Rattle.clap.specs.Lexer.{usize_max}
use Rattle.clap.specs.Walk.{Rule, Text, Row, arg_by_index, arg_by_long, with_default, has_row, first_of, nothing_held, rows_after, walk, is_early_multiple}
use Rattle.clap.specs.Takes.{is_given}
use Rattle.clap.specs.Simple.{filled_from, built, names_of, is_buildable, is_ready, is_ready_leaf, entered}
use Rattle.clap.specs.Simple.{on_top}
use Rattle.clap.specs.Words.{App, new_app, with_rule, matches_of, fault_of, is_simple_and_free}
use Rattle.clap.specs.Faults.{defaults_fault, built_fault, level_fault, entered_fault, is_free_app}
use Rattle.command_words.specs.Forms.{Form, Given, has_name, read_form, value_of}
use Rattle.command_words.specs.Apps.{rows, place_rule, option_rule, form_app}
use Rattle.command_words.proofs.ReadLaw.{some_is, words_law}
use Rattle.command_words.proofs.ReadSteps.{Serves, settles, shape_with, one, option_found, place_found}

abbrev pub built_option : Text → Rule
built_option name = one name None (Some name) false

abbrev pub places_from : ℕ → List Text → List Rule
places_from k [] = []
places_from k (id ∷ ids) = one id (Some (k + 1)) None true ∷ places_from (k + 1) ids

-- what building makes of the rules
filled_options : (k : ℕ) (os : List Text) → filled_from (k + 1) (map option_rule os) ≡ map built_option os
filled_options k [] = refl
filled_options k (o ∷ os) = ap (λ r. built_option o ∷ r) (filled_options k os)

pub filled_form : (k : ℕ) (ps os : List Text) → k + length ps < usize_max → filled_from (k + 1) (map place_rule ps ++ map option_rule os) ≡ places_from k ps ++ map built_option os
filled_form k [] os small = filled_options k os
filled_form k (p ∷ ps) os small =
    let next : min (k + 1 + 1) usize_max ≡ k + 1 + 1 = omega arith in
    ap (λ r. one p (Some (k + 1)) None true ∷ r) (ap (λ i. filled_from i (map place_rule ps ++ map option_rule os)) next ∙ filled_form (k + 1) ps os (omega arith))

same : (xs ys : List ℕ) → bytes_eq xs ys ≡ true → xs ≡ ys
same xs ys e = (bytes_eq-Decides xs ys).0 e

-- by long name
options_by_long : (name : Text) (os : List Text) → arg_by_long (map built_option os) name ≡ option_found name (list_any (λ o. bytes_eq o name) os)
options_by_long name [] = refl
options_by_long name (o ∷ os) = go (bytes_eq o name) refl (options_by_long name os)
  where
    go : (b : Bool) → bytes_eq o name ≡ b → arg_by_long (map built_option os) name ≡ option_found name (list_any (λ x. bytes_eq x name) os)
        → arg_by_long (map built_option (o ∷ os)) name ≡ option_found name (list_any (λ x. bytes_eq x name) (o ∷ os))
    go true e more = rw (e) (ap (λ n. Some (built_option n)) (same o name e))
    go false e more = rw (e) more

form_by_long : (name : Text) (k : ℕ) (ps os : List Text) → arg_by_long (places_from k ps ++ map built_option os) name ≡ option_found name (list_any (λ o. bytes_eq o name) os)
form_by_long name k [] os = options_by_long name os
form_by_long name k (p ∷ ps) os = form_by_long name (k + 1) ps os

-- by place
options_by_index : (i : ℕ) (os : List Text) → arg_by_index (map built_option os) i ≡ None
options_by_index i [] = refl
options_by_index i (o ∷ os) = options_by_index i os

form_by_index : (k j : ℕ) (ps os : List Text) → arg_by_index (places_from k ps ++ map built_option os) (k + j + 1) ≡ place_found (k + j + 1) (slice_get ps j)
form_by_index k zero [] os = options_by_index (k + 0 + 1) os
form_by_index k (suc j) [] os = options_by_index (k + suc j + 1) os
form_by_index k zero (p ∷ ps) os =
    let here : (k + 1 == k + 0 + 1) ≡ true = search rules in
    let moved : k + 1 ≡ k + 0 + 1 = omega arith in
    rw (here) (ap (λ i. Some (one p (Some i) None true)) moved)
form_by_index k (suc j) (p ∷ ps) os =
    let other : (k + 1 == k + suc j + 1) ≡ false = ne_eqb _ _ (λ e. omega arith) in
    let moved : k + 1 + j + 1 ≡ k + suc j + 1 = omega arith in
    rw (other) (subst (λ i. arg_by_index (places_from (k + 1) ps ++ map built_option os) i ≡ place_found i (slice_get ps j)) moved (form_by_index (k + 1) j ps os))

-- by id
by_id_here : (id x : Text) (i : Option ℕ) (l : Option Text) (r : Bool) (c : List Rule) → (bytes_eq x id ≡ false → settles c id) → settles (one x i l r ∷ c) id
by_id_here id x i l r c more = go (bytes_eq x id) refl more
  where
    go : (b : Bool) → bytes_eq x id ≡ b → (bytes_eq x id ≡ false → settles c id) → settles (one x i l r ∷ c) id
    go true e rest = (i, l, r, rw (e) (ap (λ n. Some (one n i l r)) (same x id e)))
    go false e rest = let h = rest e in (h.0, h.1, h.2, rw (e) h.3)

options_by_id : (id : Text) (os : List Text) → list_any (λ o. bytes_eq o id) os ≡ true → settles (map built_option os) id
options_by_id id [] e = absurd (true≢false (sym e))
options_by_id id (o ∷ os) e = by_id_here id o None (Some o) false (map built_option os) (λ no. options_by_id id os (rw no at e))

form_option_by_id : (id : Text) (k : ℕ) (ps os : List Text) → list_any (λ o. bytes_eq o id) os ≡ true → settles (places_from k ps ++ map built_option os) id
form_option_by_id id k [] os e = options_by_id id os e
form_option_by_id id k (p ∷ ps) os e = by_id_here id p (Some (k + 1)) None true (places_from (k + 1) ps ++ map built_option os) (λ no. form_option_by_id id (k + 1) ps os e)

form_place_by_id : (id : Text) (k j : ℕ) (ps os : List Text) → slice_get ps j ≡ Some id → settles (places_from k ps ++ map built_option os) id
form_place_by_id id k zero [] os e = absurd (true≢false (sym (ap is_some e)))
form_place_by_id id k (suc j) [] os e = absurd (true≢false (sym (ap is_some e)))
form_place_by_id id k zero (p ∷ ps) os e = by_id_here id p (Some (k + 1)) None true (places_from (k + 1) ps ++ map built_option os) (λ no. absurd (true≢false (sym ((bytes_eq-Decides p id).1 (some_is e)) ∙ no)))
form_place_by_id id k (suc j) (p ∷ ps) os e = by_id_here id p (Some (k + 1)) None true (places_from (k + 1) ps ++ map built_option os) (λ no. form_place_by_id id (k + 1) j ps os e)

-- the position stays small
place_in : (j : ℕ) (ps : List Text) (id : Text) → slice_get ps j ≡ Some id → j < length ps
place_in zero [] id e = absurd (true≢false (sym (ap is_some e)))
place_in (suc j) [] id e = absurd (true≢false (sym (ap is_some e)))
place_in zero (p ∷ ps) id e = omega arith
place_in (suc j) (p ∷ ps) id e = let less = place_in j ps id e in omega arith

-- no defaults
no_fill : (b : Bool) (rs : List Row) → (if b then rs else rs) ≡ rs
no_fill true rs = refl
no_fill false rs = refl

no_fault : (b : Bool) (x : Kinds) → (if b || true then [] else x) ≡ []
no_fault true x = refl
no_fault false x = refl

options_fill : (rs : List Row) (os : List Text) → fold with_default rs (map built_option os) ≡ rs
options_fill rs [] = refl
options_fill rs (o ∷ os) = ap (λ x. fold with_default x (map built_option os)) (no_fill (has_row o rs) rs) ∙ options_fill rs os

form_fills : (rs : List Row) (k : ℕ) (ps os : List Text) → fold with_default rs (places_from k ps ++ map built_option os) ≡ rs
form_fills rs k [] os = options_fill rs os
form_fills rs k (p ∷ ps) os = ap (λ x. fold with_default x (places_from (k + 1) ps ++ map built_option os)) (no_fill (has_row p rs) rs) ∙ form_fills rs (k + 1) ps os

options_default : (rs : List Row) (os : List Text) → defaults_fault rs (map built_option os) ≡ []
unfolding defaults_fault
options_default rs [] = refl
options_default rs (o ∷ os) = ap₂ or_else (no_fault (has_row o rs) _) (ap (λ x. defaults_fault x (map built_option os)) (no_fill (has_row o rs) rs) ∙ options_default rs os)

form_default : (rs : List Row) (k : ℕ) (ps os : List Text) → defaults_fault rs (places_from k ps ++ map built_option os) ≡ []
unfolding defaults_fault
form_default rs k [] os = options_default rs os
form_default rs k (p ∷ ps) os = ap₂ or_else (no_fault (has_row p rs) _) (ap (λ x. defaults_fault x (places_from (k + 1) ps ++ map built_option os)) (no_fill (has_row p rs) rs) ∙ form_default rs (k + 1) ps os)

-- what is required is there
pub is_given_is : (id : Text) (given : Given) → is_given id (rows given) ≡ has_name id given
is_given_is id [] = refl
is_given_is id (p ∷ ps) = go (bytes_eq p.0 id) refl (is_given_is id ps)
  where
    go : (b : Bool) → bytes_eq p.0 id ≡ b → is_given id (rows ps) ≡ has_name id ps → is_given id (rows (p ∷ ps)) ≡ has_name id (p ∷ ps)
    go true e more = rw (e) refl
    go false e more = rw (e) more

abbrev wanted : Given → List Rule → Bool
wanted given c = list_any (λ a. a.required && not (is_given a.id (rows given))) c

options_wanted : (given : Given) (os : List Text) → wanted given (map built_option os) ≡ false
options_wanted given [] = refl
options_wanted given (o ∷ os) = options_wanted given os

pub form_wanted : (given : Given) (k : ℕ) (ps os : List Text) → wanted given (places_from k ps ++ map built_option os) ≡ not (list_all (λ id. has_name id given) ps)
form_wanted given k [] os = options_wanted given os
form_wanted given k (p ∷ ps) os = ap (λ b. not b || wanted given (places_from (k + 1) ps ++ map built_option os)) (is_given_is p given) ∙ go (has_name p given) (form_wanted given (k + 1) ps os)
  where
    go : (b : Bool) → wanted given (places_from (k + 1) ps ++ map built_option os) ≡ not (list_all (λ id. has_name id given) ps)
        → (not b || wanted given (places_from (k + 1) ps ++ map built_option os)) ≡ not (b && list_all (λ id. has_name id given) ps)
    go true more = more
    go false more = refl

check_back : (b : Bool) → check_kinds false false (not b) ≡ [] → b ≡ true
check_back true e = refl
check_back false e = absurd (true≢false (ap has_some e))
  where
    has_some : Kinds → Bool
    has_some [] = false
    has_some (k ∷ ks) = true

abbrev pub built_rules : Form → List Rule
built_rules f = places_from 0 f.positionals ++ map built_option f.options

pub serves : (f : Form) → length f.positionals < 1000 → Serves f (built_rules f)
serves f few = record {
  by_long = λ name. form_by_long name 0 f.positionals f.options;
  by_index = λ k. let z : 0 + k + 1 ≡ k + 1 = omega arith in subst (λ i. arg_by_index (built_rules f) i ≡ place_found i (slice_get f.positionals k)) z (form_by_index 0 k f.positionals f.options);
  option_by_id = λ name e. form_option_by_id name 0 f.positionals f.options e;
  place_by_id = λ k id e. form_place_by_id id 0 k f.positionals f.options e;
  small = λ k id e. let less = place_in k f.positionals id e in omega arith;
  fills = λ rs. form_fills rs 0 f.positionals f.options;
  no_default = λ rs. form_default rs 0 f.positionals f.options;
  checks = λ given e. rw (form_wanted given 0 f.positionals f.options, e) refl;
  checks_back = λ given e. check_back (list_all (λ id. has_name id given) f.positionals) (rw (form_wanted given 0 f.positionals f.options) at e);
}

-- ---- the app of a form

pub form_built : (f : Form) → length f.positionals < 1000 → built (form_app f) ≡ record { top = shape_with (built_rules f); subs = [] }
form_built f few = ap (λ c. record { top = shape_with c; subs = [] }) (filled_form 0 f.positionals f.options (omega arith))

-- an app without subcommands enters none
pub shut : (c : List Rule) (words : List Text) (stop : Option (Text × List Text))
    → level_fault (shape_with c) [] nothing_held words (is_some (entered (record { top = shape_with c; subs = [] }) stop)) (entered_fault (record { top = shape_with c; subs = [] }) stop)
    ≡ level_fault (shape_with c) [] nothing_held words false []
shut c words None = refl
shut c words (Some p) = refl

pub form_law : (f : Form) (words : List Text) (given : Given) → length f.positionals < 1000 → read_form f words ≡ Some given
    → (fault_of (form_app f) words ≡ []) × (matches_of (form_app f) words ≡ rows given)
form_law f words given few e =
    let c = built_rules f in
    let reads = (words_law f c (serves f few) words).0 0 [] given [] None (record { passes = refl; stands = refl }) e in
    let is = form_built f few in (
      ap (λ a. built_fault a nothing_held words) is ∙ (shut c words (walk c [] nothing_held words).stopped ∙ ap₂ or_else reads.walks reads.lasts),
      ap (λ a. rows_after a.top.rules (names_of a) words) is ∙ reads.leaves,
    )

-- each argument is simple and free, and takes one value
places_plain : (k : ℕ) (ps os : List Text) → list_all (λ a. a.is_free) (places_from k ps ++ map built_option os) ≡ true
places_plain k [] [] = refl
places_plain k [] (o ∷ os) = places_plain k [] os
places_plain k (p ∷ ps) os = places_plain (k + 1) ps os

built_simple : (k : ℕ) (ps os : List Text) → list_all (λ a. a.is_simple) (places_from k ps ++ map built_option os) ≡ true
built_simple k [] [] = refl
built_simple k [] (o ∷ os) = built_simple k [] os
built_simple k (p ∷ ps) os = built_simple (k + 1) ps os

rules_simple : (ps os : List Text) → list_all (λ a. a.is_simple) (map place_rule ps ++ map option_rule os) ≡ true
rules_simple [] [] = refl
rules_simple [] (o ∷ os) = rules_simple [] os
rules_simple (p ∷ ps) os = rules_simple ps os

none_early : (n k : ℕ) (ps os : List Text) → list_any (is_early_multiple n) (places_from k ps ++ map built_option os) ≡ false
none_early n k [] [] = refl
none_early n k [] (o ∷ os) = none_early n k [] os
none_early n k (p ∷ ps) os = none_early n (k + 1) ps os

pub form_simple : (f : Form) → length f.positionals < 1000 → is_simple_and_free (form_app f) ≡ true
form_simple f few =
    let c = built_rules f in
    let is = form_built f few in
    ap (λ b. (is_buildable (form_app f) && (is_ready b.top && list_all is_ready_leaf b.subs)) && is_free_app b) is
    ∙ rw (rules_simple f.positionals f.options, built_simple 0 f.positionals f.options, none_early (count_by (λ a. is_some a.index) c) 0 f.positionals f.options, places_plain 0 f.positionals f.options) refl

-- ---- the steps of building

more_places : (ps : List Text) (x : Text) → (map place_rule ps ++ []) ++ place_rule x ∷ [] ≡ map place_rule (ps ++ x ∷ []) ++ []
more_places [] x = refl
more_places (p ∷ ps) x = ap (λ r. place_rule p ∷ r) (more_places ps x)

more_options : (ps os : List Text) (x : Text) → (map place_rule ps ++ map option_rule os) ++ option_rule x ∷ [] ≡ map place_rule ps ++ map option_rule (os ++ x ∷ [])
more_options [] [] x = refl
more_options [] (o ∷ os) x = ap (λ r. option_rule o ∷ r) (more_options [] os x)
more_options (p ∷ ps) os x = ap (λ r. place_rule p ∷ r) (more_options ps os x)

abbrev app_with : List Rule → App
app_with rules = on_top (λ s. record s { no_binary_name = true; disable_help_flag = true; rules = rules }) (new_app [])

pub adds_place : (ps : List Text) (x : Text) → with_rule (form_app (record { positionals = ps; options = [] })) (place_rule x) ≡ form_app (record { positionals = ps ++ x ∷ []; options = [] })
adds_place ps x = ap app_with (more_places ps x)

pub adds_option : (ps os : List Text) (x : Text) → with_rule (form_app (record { positionals = ps; options = os })) (option_rule x) ≡ form_app (record { positionals = ps; options = os ++ x ∷ [] })
adds_option ps os x = ap app_with (more_options ps os x)

-- the value of a name in the rows of a reading
pub first_is : (name : Text) (given : Given) → first_of name (rows given) ≡ value_of given name
first_is name [] = refl
first_is name (p ∷ ps) = go (bytes_eq p.0 name) refl (first_is name ps)
  where
    go : (b : Bool) → bytes_eq p.0 name ≡ b → first_of name (rows ps) ≡ value_of ps name → first_of name (rows (p ∷ ps)) ≡ value_of (p ∷ ps) name
    go true e more = rw (e) refl
    go false e more = rw (e) more
