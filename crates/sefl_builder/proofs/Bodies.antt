-- What stands between two quotes.
use Rattle.std.proofs.Common.{◌≡◌, ℕ, ◌-◌, List, [], ◌∷◌, ◌++◌, length, ap, ◌∙◌, arith, length-append}
use Rattle.std.proofs.Math.Seq.{take-append_seam}
use Rattle.sefl_builder.specs.Leaves.{body_of}

cut : (body : List ℕ) → length (34 ∷ (body ++ 34 ∷ [])) - 2 ≡ length body
cut body = simp length-append (omega arith)

pub body_of_quoted : (body : List ℕ) → body_of (34 ∷ (body ++ 34 ∷ [])) ≡ body
body_of_quoted body = rw (cut body) (take-append_seam body (34 ∷ []))

pub body_between : (word body : List ℕ) → word ≡ 34 ∷ (body ++ 34 ∷ []) → body_of word ≡ body
body_between word body e = ap body_of e ∙ body_of_quoted body
