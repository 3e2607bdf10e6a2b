-- Texts that are put one behind the other.
use Rattle.std.proofs.Common.{◌≡◌, ◌∙◌, ◌⊎◌, inl, inr, ap, refl, sym, subst, ℕ, List, [], ◌∷◌, ◌++◌, Option, Some, None, append_assoc}
use Rattle.std.proofs.lemmas.List.{append-nil}
use Rattle.std.proofs.lemmas.List.Folds.{concat-append}
use Rattle.std.specs.Io.KnownBytes.{append_known}
use Rattle.std.specs.List.{concat}
use Rattle.sn_edge.specs.Pieces.{IsPrefix, append_known-append}
use Rattle.sn_edge.specs.Putting.{AllPut, Takes, TakesPart, TakesUntil}
use Rattle.sn_edge.specs.Told.{SinkTold}
use Rattle.sn_edge.specs.declared.sink.Put.{Put}
use Rattle.sn_edge.specs.declared.sink.Put.TheVariants.{All, Failed, NoMemory}

-- what is known with nothing behind it
pub known_alone : (known : Option (List ℕ)) → known ≡ append_known known []
known_alone None = refl
known_alone (Some bytes) = ap Some (sym (append-nil bytes))

module _ {S : Type 0} (told : S → SinkTold) (gives : S → List ℕ → Put → S → Type 0) where
  then_put : (u m v : S) (first second : List (List ℕ)) → AllPut told gives u first m → AllPut told gives m second v → AllPut told gives u (first ++ second) v
  then_put u m v [] second is puts = subst (λ s. AllPut told gives s second v) is puts
  then_put u m v (piece ∷ first) second (next, put, rest) puts = (next, put, then_put next m v first second rest puts)

  -- the bytes of both are put behind what was taken first
  behind : (u m v : S) (first second : List ℕ) → (told m).taken ≡ append_known (told u).taken first → (told v).taken ≡ append_known (told m).taken second
      → (told v).taken ≡ append_known (told u).taken (first ++ second)
  behind u m v first second is gained = gained ∙ (ap (λ known. append_known known second) is ∙ append_known-append (told u).taken first second)

  pub takes_none : (u : S) → Takes told gives u [] u
  takes_none u = record { pieces = []; joined = refl; puts = refl; taken = known_alone (told u).taken }

  pub takes_one : (u v : S) (piece : List ℕ) → gives u piece All v → (told v).taken ≡ append_known (told u).taken piece → Takes told gives u piece v
  takes_one u v piece put is = record { pieces = piece ∷ []; joined = append-nil piece; puts = (v, put, refl); taken = is }

  pub takes_both : (u m v : S) (first second : List ℕ) → Takes told gives u first m → Takes told gives m second v → Takes told gives u (first ++ second) v
  takes_both u m v first second one other = record {
    pieces = one.pieces ++ other.pieces;
    joined = concat-append one.pieces other.pieces ∙ (ap (λ bytes. bytes ++ concat other.pieces) one.joined ∙ ap (λ bytes. first ++ bytes) other.joined);
    puts = then_put u m v one.pieces other.pieces one.puts other.puts;
    taken = behind u m v first second one.taken other.taken;
  }

  -- a piece that failed
  pub part_alone : (u v : S) (piece part : List ℕ) → gives u piece Failed v → IsPrefix part piece → (told v).taken ≡ append_known (told u).taken part
      → TakesPart told gives u part v
  part_alone u v piece part put begins is = record {
    whole = [];
    before = u;
    takes = takes_none u;
    piece = piece;
    fails = put;
    part = part;
    begins = begins;
    is = refl;
    taken = is;
  }

  pub part_behind : (u m v : S) (first part : List ℕ) → Takes told gives u first m → TakesPart told gives m part v → TakesPart told gives u (first ++ part) v
  part_behind u m v first part one other = record {
    whole = first ++ other.whole;
    before = other.before;
    takes = takes_both u m other.before first other.whole one other.takes;
    piece = other.piece;
    fails = other.fails;
    part = other.part;
    begins = other.begins;
    is = ap (λ bytes. first ++ bytes) other.is ∙ sym (append_assoc first other.whole other.part);
    taken = behind u m v first part one.taken other.taken;
  }

  -- a text behind which nothing is put, and a piece for which there was no memory
  pub until_all : (u v : S) (bytes : List ℕ) → Takes told gives u bytes v → TakesUntil told gives u bytes v
  until_all u v bytes all = record { before = v; takes = all; rest = inl refl }

  pub until_none : (u v : S) (piece : List ℕ) → gives u piece NoMemory v → (told v).taken ≡ (told u).taken → TakesUntil told gives u [] v
  until_none u v piece put is = record { before = u; takes = takes_none u; rest = inr (piece, put, is) }

  pub until_behind : (u m v : S) (first second : List ℕ) → Takes told gives u first m → TakesUntil told gives m second v → TakesUntil told gives u (first ++ second) v
  until_behind u m v first second one other =
      record { before = other.before; takes = takes_both u m other.before first second one other.takes; rest = other.rest }

  -- what is told of it
  told_until : (v before : S) (known : Option (List ℕ)) (bytes : List ℕ)
      → ((v ≡ before) ⊎ ((piece : List ℕ) × gives before piece NoMemory v × ((told v).taken ≡ (told before).taken)))
      → (told before).taken ≡ append_known known bytes → (told v).taken ≡ append_known known bytes
  told_until v before known bytes (inl same) is = ap (λ s. (told s).taken) same ∙ is
  told_until v before known bytes (inr (piece, put, same)) is = same ∙ is

  pub until_taken : (u v : S) (bytes : List ℕ) → TakesUntil told gives u bytes v → (told v).taken ≡ append_known (told u).taken bytes
  until_taken u v bytes until = told_until v until.before (told u).taken bytes until.rest until.takes.taken
