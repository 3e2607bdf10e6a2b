-- What a sink takes of a piece, where no put fails.
use Rattle.std.proofs.Common.{ℕ, ◌≡◌, List, [], ◌++◌, Contains, Some, ap, sym, subst, refl, append-nil, arith}
use Rattle.sn_edge.specs.MemSink.{SinkState, after_put}
use Rattle.sn_edge.specs.Pieces.{IsPrefix}
use Rattle.sn_edge.specs.declared.sink.Put.{Put}
use Rattle.sn_edge.specs.declared.sink.Put.TheVariants.{All, Failed, NoMemory}

-- the part of the piece that came behind the old bytes
abbrev pub HasPart : List ℕ → List ℕ → List ℕ → Type 0
HasPart old piece new = (part : List ℕ) × IsPrefix part piece × (Some new ≡ Some (old ++ part))

part_of : (old : SinkState) (piece : List ℕ) (answer : Put) → (answer ≡ Failed → ⊥) → HasPart old.bytes piece (after_put old piece answer).bytes
part_of old piece All never = (piece, ([], append-nil piece), refl)
part_of old piece Failed never = absurd (never refl)
part_of old piece NoMemory never = ([], (piece, refl), ap (λ (xs : List ℕ). Some xs) (sym (append-nil old.bytes)))

pub put_part : (bytes : List ℕ) (old new : SinkState) (piece : List ℕ) (answer : Put) → bytes ≡ old.bytes → old.failing ≡ []
    → (answer ≡ Failed → Contains old.failing old.calls) → new ≡ after_put old piece answer → HasPart bytes piece new.bytes
put_part bytes old new piece answer same none fails is =
    let never : answer ≡ Failed → ⊥ = λ failed. nowhere old.calls (subst (λ (list : List ℕ). Contains list old.calls) none (fails failed)) in
    subst (λ (xs : List ℕ). HasPart xs piece new.bytes) (sym same)
    (subst (λ (s : SinkState). HasPart old.bytes piece s.bytes) (sym is) (part_of old piece answer never))
  where
    nowhere : (n : ℕ) → Contains [] n → ⊥
    nowhere n (at, inside, is) = absurd (omega (arith, inside))
