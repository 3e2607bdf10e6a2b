-- The numbers that the items of a job have in its text, where it names tables.
use Rattle.std.specs.Prelude.{ℕ, ◌+◌, ◌-◌, nat_lt, if◌then◌else◌, List, [], ◌∷◌}
use Rattle.sefl_syntax.specs.Trees.{BodyTree, code, table, DeclTree}
use Rattle.net_check.specs.Places.{decl_size}

-- the number of an item behind the first of its node: none in a table
abbrev pub inner_number : BodyTree → ℕ → ℕ
inner_number (code node) place = place
inner_number (table kind file style) place = 0

-- the number in the text of the item of a site, where the first of these nodes has a number there and a site
abbrev pub number_from : ℕ → ℕ → ℕ → List DeclTree → List DeclTree → ℕ
number_from site number begin own [] = number + (site - begin)
number_from site number begin [] (f ∷ fs) = number + (site - begin)
number_from site number begin (d ∷ ds) (f ∷ fs) =
    if nat_lt site (begin + decl_size f)
    then number + inner_number d.body (site - begin)
    else number_from site (number + decl_size d) (begin + decl_size f) ds fs

-- the number in the text of the item of a site, by the nodes of the text and the same with their code
abbrev pub own_number : ℕ → List DeclTree → List DeclTree → ℕ
own_number site own filled = number_from site 0 0 own filled
