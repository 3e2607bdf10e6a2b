use Rattle.std.proofs.Common.{◌≡◌, is_some}
use Rattle.regex.specs.Patterns.{find_str}
use Rattle.regex.specs.Strings.{regex_pattern, regex_source}
use Rattle.regex_patterns.specs.Found.{finds_match}
use Rattle.regex_patterns.proofs.Regexes.{pattern_of_compiled, match_of_compiled}
use Rattle.regex_patterns.proofs.patterns.has_match.Goals as goal

pub returns-clause-pattern : goal.returns-clause-pattern
returns-clause-pattern c = pattern_of_compiled c.args.regex.now c.requires

pub returns-clause-found : goal.returns-clause-found
returns-clause-found c =
    let name = c.args.name.now in
    let regex = c.args.regex.now in
    let by_text : is_some (find_str (regex_pattern regex) name 0) ≡ finds_match (regex_source regex) name =
    match_of_compiled regex c.requires name (λ k. (c.type_inv.name k).fits) in
    cc (by_text, c.is_match.ensures.found, c.in_ok-matcher.ensures.pattern)
