-- One box more, and its links.
use Rattle.std.proofs.Common.{◌≡◌, ◌∙◌, sym, ap, ℕ, ◌+◌, ◌*◌, ◌<◌, List, [], ◌∷◌, ◌++◌, map, length, slice_index_or, append_assoc, append-nil, arith}
use Rattle.std.specs.List.{flat_map}
use Rattle.std.proofs.lemmas.List.{map-append}
use Rattle.std.proofs.lemmas.List.Concat.{flat_map-append}
use Rattle.sefl_syntax.specs.declared.net.Link.{Link}
use Rattle.sefl_syntax.specs.declared.net.NodeDecl.{NodeDecl}
use Rattle.sefl_syntax.specs.Views.{decl_tree}
use Rattle.job_gen.specs.declared.split.Split.{Split}
use Rattle.job_gen.specs.Grown.{box_of, link_to, links_of, numbers_from}
use Rattle.job_gen.specs.Splits.{split_of}
use Rattle.job_gen.proofs.Known.{AreFirst, as_many, first_are, known_split}
use Rattle.job_gen.proofs.Numbers.{map_next, numbers_next}

pub split_here : (seed n i : ℕ) (splits : List Split) (d : Split) → AreFirst seed n splits → i < n → slice_index_or splits i d ≡ split_of seed i
split_here seed n i splits d same below =
    let many : length splits ≡ n = as_many seed n splits same in
    let less : i < length splits = omega (arith, many, below) in
    known_split seed splits i d (first_are seed n splits same) less

pub box_more : (seed n : ℕ) (decls : List NodeDecl) (decl : NodeDecl) → map decl_tree decls ≡ map (box_of seed) (numbers_from 0 n) → decl_tree decl ≡ box_of seed n
    → map decl_tree (decls ++ decl ∷ []) ≡ map (box_of seed) (numbers_from 0 (n + 1))
box_more seed n decls decl same is =
    map-append decl_tree decls (decl ∷ []) ∙ ((λ k. same k ++ is k ∷ []) ∙ sym (map_next (box_of seed) n))

flat_next : {A : Type 0} (f : ℕ → List A) (n : ℕ) → flat_map f (numbers_from 0 (n + 1)) ≡ flat_map f (numbers_from 0 n) ++ f n
flat_next f n =
    ap (flat_map f) (numbers_next n)
    ∙ (flat_map-append f (numbers_from 0 n) (n ∷ []) ∙ ap (λ zs. flat_map f (numbers_from 0 n) ++ zs) (append-nil (f n)))

pub links_more : (boxes n first : ℕ) (links mid new : List Link) → links ≡ flat_map (links_of boxes) (numbers_from 0 n) → first ≡ 2 * n + 1
    → mid ≡ links ++ link_to boxes n 0 first → new ≡ mid ++ link_to boxes n 1 (first + 1) → new ≡ flat_map (links_of boxes) (numbers_from 0 (n + 1))
links_more boxes n first links mid new same at left right =
    let later : first + 1 ≡ 2 * n + 2 = omega (arith, at) in
    right ∙ ((λ k. (left ∙ (λ j. same j ++ link_to boxes n 0 (at j))) k ++ link_to boxes n 1 (later k))
    ∙ (append_assoc (flat_map (links_of boxes) (numbers_from 0 n)) (link_to boxes n 0 (2 * n + 1)) (link_to boxes n 1 (2 * n + 2)) ∙ sym (flat_next (links_of boxes) n)))
