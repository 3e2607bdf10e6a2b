use Rattle.regex_patterns.proofs.patterns.RegexPatternsPatterns.find.Goals as goal

pub has_match-requires : goal.has_match-requires
has_match-requires c = c.self.invariant _ c.in-Some.ensures.kept
