-- What a put took.
use Rattle.std.proofs.Common.{◌≡◌, ℕ, List, [], Some, take, drop, refl, ap, sym, append-nil, take-append-drop}
use Rattle.std.specs.Io.KnownBytes.{append_known}
use Rattle.sn_edge.specs.Pieces.{IsPrefix}
use Rattle.sn_edge.specs.MemSink.{SinkState, after_put}
use Rattle.sn_edge.specs.declared.sink.Put.{Put}
use Rattle.sn_edge.specs.declared.sink.Put.TheVariants.{All, Failed, NoMemory}

-- whatever a put answers, it took a prefix of its piece
pub part_taken : (old : SinkState) (piece : List ℕ) (answer : Put) →
    (part : List ℕ) × IsPrefix part piece × (Some (after_put old piece answer).bytes ≡ append_known (Some old.bytes) part)
part_taken old piece All = (piece, ([], append-nil piece), refl)
part_taken old piece Failed = (take old.kept piece, (drop old.kept piece, take-append-drop old.kept piece), refl)
part_taken old piece NoMemory = ([], (piece, refl), ap Some (sym (append-nil old.bytes)))
