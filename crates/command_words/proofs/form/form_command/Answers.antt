use Rattle.std.proofs.Common.{rules, ◌≡◌, ◌∙◌, List, [], ◌∷◌, map, take, get_or, sym, ap, ap₂}
use Rattle.std.proofs.lemmas.List.{take_more, map-append}
use Rattle.std.specs.Borrow.{Bor}
use Rattle.clap.specs.Words.{rule_of, with_rule, Text}
use Rattle.command_words.specs.Apps.{form_app, place_rule, option_rule}
use Rattle.command_words.proofs.FormRules.{adds_place, adds_option}
use Rattle.command_words.proofs.form.form_command.Goals as goal

abbrev now_of : List (Bor Text) → List Text
now_of = map (λ s. s.now)

pub loop-id-preserved : goal.loop-id-preserved
loop-id-preserved c =
    let xs = c.args.form.now.positionals.now in
    let i = c.loop-id.id-index in
    let d : Bor Text = record { ref_ptr = (0, 0); now = [] } in
    let x = get_or xs i d in
    let grew = take_more xs i d c.loop-id-test.true in
    let rule : rule_of c.action-positional.result ≡ place_rule x.now = search rules in
    c.in_ok-command.ensures.shape (search rules) ∙ ap₂ with_rule c.loop-id.invariant rule
    ∙ adds_place (now_of (take i xs)) x.now
    ∙ ap (λ ps. form_app (record { positionals = ps; options = [] })) (sym (ap now_of grew ∙ map-append (λ s. s.now) (take i xs) (x ∷ [])))

pub loop-name-preserved : goal.loop-name-preserved
loop-name-preserved c =
    let xs = c.args.form.now.options.now in
    let ps = now_of c.args.form.now.positionals.now in
    let i = c.loop-name.name-index in
    let d : Bor Text = record { ref_ptr = (0, 0); now = [] } in
    let x = get_or xs i d in
    let grew = take_more xs i d c.loop-name-test.true in
    let rule : rule_of c.action-option.result ≡ option_rule x.now = search rules in
    c.in_ok-command-2.ensures.shape (search rules) ∙ ap₂ with_rule c.loop-name.invariant rule
    ∙ adds_option ps (now_of (take i xs)) x.now
    ∙ ap (λ os. form_app (record { positionals = ps; options = os })) (sym (ap now_of grew ∙ map-append (λ s. s.now) (take i xs) (x ∷ [])))
