use Rattle.std.proofs.Common.{rules, ◌≡◌, ◌∙◌, map, refl, sym, ap, subst, true, Bool, ◌&&◌, false, length, ◌<◌, string_bytes}
use Rattle.std.proofs.lemmas.List.{length-map}
use Rattle.clap.specs.Kinds.{HasKind, Kinds}
use Rattle.clap.specs.Words.{matches_of, is_simple_and_free, fault_of, app_of}
use Rattle.command_words.specs.Shapes.{form_of}
use Rattle.command_words.proofs.FormRules.{form_simple}
use Rattle.command_words.proofs.TakenLaw.{dashed_law, taken_rows, refused_law}
use Rattle.command_words.proofs.values.read.Goals as goal

and_first : (a b : Bool) → (a && b) ≡ true → a ≡ true
and_first true b e = refl
and_first false b e = e

pub returns-in-Ok : goal.returns-in-Ok
returns-in-Ok c =
    let f = form_of c.args.form.now in
    let words = map (λ w. string_bytes w) c.args.words.now in
    let few : length f.positionals < 1000 = subst (λ n. n < 1000) (sym (length-map c.args.form.now.positionals.now (λ s. s.now))) c.requires in
    let simple : is_simple_and_free (app_of c.in_ok-command.command) ≡ true = ap is_simple_and_free c.in_ok-command.ensures ∙ form_simple f few in
    let t = taken_rows f words few (search rules) (sym (ap (λ a. fault_of a words) c.in_ok-command.ensures) ∙ c.in-Ok.ensures.kinds simple) in
    (t.0, t.1, (c.in-Ok.ensures.matches (and_first _ _ simple)).0 ∙ ap (λ a. matches_of a words) c.in_ok-command.ensures ∙ t.2)

pub returns : goal.returns
returns c =
    let f = form_of c.args.form.now in
    let words = map (λ w. string_bytes w) c.args.words.now in
    let few : length f.positionals < 1000 = subst (λ n. n < 1000) (sym (length-map c.args.form.now.positionals.now (λ s. s.now))) c.requires in
    let simple : is_simple_and_free (app_of c.in_ok-command.command) ≡ true = ap is_simple_and_free c.in_ok-command.ensures ∙ form_simple f few in
    let has = subst (λ (k : Kinds). HasKind k c.in-Err.error) (ap (λ a. fault_of a words) c.in_ok-command.ensures) (c.in-Err.ensures.kinds simple) in
    refused_law f words c.in-Err.error few has (λ m. c.in_default.not-OutOfMemory (search rules))

pub returns-then-has_single_dash : goal.returns-then-has_single_dash
returns-then-has_single_dash c =
    dashed_law (form_of c.args.form.now) (map (λ w. string_bytes w) c.args.words.now) (sym c.has_single_dash.ensures ∙ c.if-has_single_dash.true)
