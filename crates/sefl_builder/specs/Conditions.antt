-- Relations, ranges and conditions.
use Rattle.std.specs.Prelude.{ℕ, zero, suc, Bool, ◌||◌, List, [], ◌∷◌, Option, None, Some, codes, if◌then◌else◌}
use Rattle.sn_width.specs.declared.rel.Rel.{Rel}
use Rattle.sn_width.specs.declared.rel.Rel.TheVariants.{Eq, Ne, Lt, Le, Gt, Ge}
use Rattle.sefl_syntax.specs.Trees.{CondTree, always, compare, member, all_of, any_of, negation}
use Rattle.sefl_syntax.specs.Views.{conds_of}
use Rattle.sefl_grammar.specs.Word.{Word}
use Rattle.sefl_builder.specs.Reading.{Reader, then', known, all, added, begins_with, begins_number}
use Rattle.sefl_builder.specs.Leaves.{key, skip, number, word}
use Rattle.sefl_builder.specs.Terms.{expr}

-- the relation that comes
unfoldable pub rel_ahead : List Word → Option Rel
rel_ahead ws =
    if begins_with (codes "==") ws then Some Eq
    else (if begins_with (codes "!=") ws then Some Ne
    else (if begins_with (codes "<") ws then Some Lt
    else (if begins_with (codes "<=") ws then Some Le
    else (if begins_with (codes ">") ws then Some Gt
    else (if begins_with (codes ">=") ws then Some Ge
    else None)))))

unfoldable pub rel : Reader Rel
rel ws = known (rel_ahead ws) (λ r. then' (skip ws) (λ _ ws. Some (r, ws)))

-- a number, or two with dots between them
unfoldable pub range : Reader (ℕ × ℕ)
range ws =
    then' (number ws) (λ first ws.
    if begins_with (codes "..") ws then then' (key (codes "..") ws) (λ _ ws. then' (number ws) (λ last ws. Some ((first, last), ws)))
    else Some ((first, first), ws))

abbrev pub goes_comma : List Word → Bool
goes_comma ws = begins_with (codes ",") ws

unfoldable pub next_range : Reader (ℕ × ℕ)
next_range ws = then' (key (codes ",") ws) (λ _ ws. range ws)

-- the range that is known, and those behind commas
abbrev pub ranges_from : ℕ × ℕ → Reader (List (ℕ × ℕ))
ranges_from first ws = added (first ∷ []) (all goes_comma next_range ws)

unfoldable pub ranges : Reader (List (ℕ × ℕ))
ranges ws = then' (range ws) (λ first ws. ranges_from first ws)

-- an expression comes
unfoldable pub goes_expr : List Word → Bool
goes_expr ws =
    begins_number ws || begins_with (codes "(") ws || begins_with (codes "head") ws || begins_with (codes "global") ws
    || begins_with (codes "local") ws || begins_with (codes "$") ws

unfoldable pub braced_ranges : Reader (List (ℕ × ℕ))
braced_ranges ws =
    then' (key (codes "in") ws) (λ _ ws. then' (key (codes "{") ws) (λ _ ws. then' (ranges ws) (λ rs ws. then' (key (codes "}") ws) (λ _ ws. Some (rs, ws)))))

-- a comparison, or a test on ranges
unfoldable pub atom : ℕ → Reader CondTree
atom room ws =
    then' (expr room ws) (λ left ws.
    if begins_with (codes "in") ws then then' (braced_ranges ws) (λ rs ws. Some (member left rs, ws))
    else then' (rel ws) (λ r ws. then' (expr room ws) (λ right ws. Some (compare r left right, ws))))

unfoldable pub truth : Reader CondTree
truth ws = word (codes "true") always ws

abbrev pub goes_and : List Word → Bool
goes_and ws = begins_with (codes "and") ws

abbrev pub goes_or : List Word → Bool
goes_or ws = begins_with (codes "or") ws

-- a further member of a chain, behind its word
abbrev pub next_by : List ℕ → Reader CondTree → Reader CondTree
next_by word member' ws = then' (key word ws) (λ _ ws. member' ws)

abbrev pub conj_by : Reader CondTree → Reader CondTree
conj_by neg ws =
    then' (neg ws) (λ c ws.
    if goes_and ws then then' (added (c ∷ []) (all goes_and (next_by (codes "and") neg) ws)) (λ cs ws. Some (all_of (conds_of cs), ws))
    else Some (c, ws))

abbrev pub cond_by : Reader CondTree → Reader CondTree
cond_by neg ws =
    then' (conj_by neg ws) (λ c ws.
    if goes_or ws then then' (added (c ∷ []) (all goes_or (next_by (codes "or") (conj_by neg)) ws)) (λ cs ws. Some (any_of (conds_of cs), ws))
    else Some (c, ws))

abbrev pub opposite_by : Reader CondTree → Reader CondTree
opposite_by neg ws = then' (key (codes "not") ws) (λ _ ws. then' (neg ws) (λ c ws. Some (negation c, ws)))

abbrev pub bracket_by : Reader CondTree → Reader CondTree
bracket_by neg ws = then' (key (codes "[") ws) (λ _ ws. then' (cond_by neg ws) (λ c ws. then' (key (codes "]") ws) (λ _ ws. Some (c, ws))))

abbrev pub nothing : Reader CondTree
nothing ws = None

-- a condition without a chain, where a `not` and brackets are read so
abbrev pub neg_by : Reader CondTree → Reader CondTree → ℕ → Reader CondTree
neg_by opposite bracket room ws =
    if goes_expr ws then atom room ws
    else (if begins_with (codes "not") ws then opposite ws
    else (if begins_with (codes "[") ws then bracket ws
    else truth ws))

-- where `room` more constructs may be open
unfoldable pub neg : ℕ → Reader CondTree
neg zero ws = neg_by nothing nothing zero ws
neg (suc room) ws = neg_by (opposite_by (neg room)) (bracket_by (neg room)) (suc room) ws

unfoldable pub next_neg : ℕ → Reader CondTree
next_neg room ws = next_by (codes "and") (neg room) ws

-- the member that is known, and those behind it
abbrev pub negs_from : CondTree → ℕ → Reader (List CondTree)
negs_from first room ws = added (first ∷ []) (all goes_and (next_neg room) ws)

unfoldable pub conj : ℕ → Reader CondTree
conj room ws =
    then' (neg room ws) (λ c ws.
    if goes_and ws then then' (negs_from c room ws) (λ cs ws. Some (all_of (conds_of cs), ws)) else Some (c, ws))

unfoldable pub next_conj : ℕ → Reader CondTree
next_conj room ws = next_by (codes "or") (conj room) ws

abbrev pub conjs_from : CondTree → ℕ → Reader (List CondTree)
conjs_from first room ws = added (first ∷ []) (all goes_or (next_conj room) ws)

unfoldable pub cond : ℕ → Reader CondTree
cond room ws =
    then' (conj room ws) (λ c ws.
    if goes_or ws then then' (conjs_from c room ws) (λ cs ws. Some (any_of (conds_of cs), ws)) else Some (c, ws))

unfoldable pub opposite : ℕ → Reader CondTree
opposite zero ws = None
opposite (suc room) ws = then' (key (codes "not") ws) (λ _ ws. then' (neg room ws) (λ c ws. Some (negation c, ws)))

unfoldable pub bracket : ℕ → Reader CondTree
bracket zero ws = None
bracket (suc room) ws = then' (key (codes "[") ws) (λ _ ws. then' (cond room ws) (λ c ws. then' (key (codes "]") ws) (λ _ ws. Some (c, ws))))
