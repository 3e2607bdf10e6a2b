-- What the parts of a report come to together.
use Rattle.std.proofs.Common.{◌≡◌, ◌∙◌, inl, inr, ap, refl, sym, subst, ℕ, Bool, true, false, List, [], ◌∷◌, ◌++◌, Option, Result, Ok, Err}
use Rattle.std.proofs.lemmas.List.{append-nil, same_from_push}
use Rattle.std.specs.Prelude.{IfErr}
use Rattle.std.specs.List.{AllByRecursion}
use Rattle.sn_edge.specs.Pieces.{IsPrefix}
use Rattle.sn_edge.specs.Putting.{Takes, TakesPart, TakesUntil}
use Rattle.sn_edge.specs.Told.{SinkTold}
use Rattle.sn_edge.specs.declared.sink.Put.{Put}
use Rattle.sn_edge.proofs.Putting.{part_behind, takes_both, takes_none, until_all, until_behind}
use Rattle.sn_edge.specs.declared.sink.Put.TheVariants as putting
use Rattle.sefl_syntax.specs.Trees.{AskTree}
use Rattle.net_check.specs.Network.{Network, Entry}
use Rattle.path_records.specs.declared.records.Record.{Record}
use Rattle.path_exec.specs.declared.exploration.Ended.{Ended}
use Rattle.path_exec.specs.declared.exploration.Ended.TheVariants as ended
use Rattle.path_exec.specs.Receiving.{Receiving}
use Rattle.exact_records.specs.Packets.{AreExactFor, AreExactUpToFor}
use Rattle.exact_records.specs.View.{record_tree, record_trees}
use Rattle.report_forms.specs.Fits.{RecordFits}
use Rattle.report_forms.specs.Ranges.{RecordInRange}
use Rattle.record_text.specs.Reports.{head_text, report_line, tail_text}
use Rattle.record_lines.specs.Lines.{AreOfTypes, HasLines, PutAs, PutSo, StopsInLine, has_some, records_text, refuted_count, written_of}
use Rattle.path_records.specs.declared.sides.RefutedSides.{RefutedSides}
use Rattle.path_records.specs.declared.sides.RefutedSides.TheVariants.{Written, Counted}
use Rattle.record_lines.proofs.LineLemmas.{none_of_types}
use Rattle.symbolic_engine.specs.Exploring.{ExploredFor}
use Rattle.command_runs.specs.Inputs.{a_net}
use Rattle.command_edge.specs.Puts.{WriteShows}
use Rattle.command_runs.specs.Runs.{Performs}
use Rattle.command_edge.specs.declared.ending.Ending.{Ending}
use Rattle.command_edge.specs.declared.ending.Ending.TheVariants.{Done, Partial}
use Rattle.command_edge.specs.declared.ending.Stop.{Stop}
use Rattle.command_edge.specs.declared.ending.Stop.TheVariants.{Input, Own, Write, NoMemory}
use Rattle.explore_command.specs.Explores.{AreFound, IsEnding, end_of, explore_work, is_done, said_by}
use Rattle.explore_command.specs.Putting.{PutsEnd, PutsRecords, PutsRest, StopShows, tail_of, tail_unless}
use Rattle.explore_command.specs.declared.report.Tail.{Tail}
use Rattle.explore_command.proofs.SoFarLemmas.{so_far}

-- no lines yet
module _ {K : Type 0} (told : K → SinkTold) (gives : K → List ℕ → Put → K → Type 0) (net : Network) (sides : RefutedSides) (IsFirst : K → Type 0) (own_sides : RefutedSides) (now : K) where
  abbrev no_text : RefutedSides → List ℕ
  no_text own = records_text net (written_of own [])

  none_put : (own : RefutedSides) → Takes told gives now (no_text own) now
  none_put Written = takes_none told gives now
  none_put Counted = takes_none told gives now

  none_written : (own : RefutedSides) → false ≡ has_some (written_of own [])
  none_written Written = refl
  none_written Counted = refl

  pub no_lines : own_sides ≡ sides → IsFirst now → HasLines told gives net sides IsFirst now own_sides false false 0 []
  no_lines same first = record {
    same_sides = same;
    start = now;
    first = first;
    puts = none_put sides;
    has = none_written sides;
    counted = refl;
    of_types = none_of_types net sides;
  }

-- the head, the records and the tail are the line
abbrev pub Joins : Type 0
Joins = (net : Network) (cases : Option ℕ) (hops limit : ℕ) (records : List Record) (refuted : ℕ) (complete : Bool)
    → report_line net cases hops limit records refuted complete ≡ head_text cases hops limit ++ (records_text net records ++ tail_text refuted complete)

-- where an answer shows that a put failed
pub write_shows : (held now : SinkTold) (answer : Result Ending Stop) → IfErr answer (StopShows held now) → WriteShows held now answer
write_shows held now (Ok ending) h = tt
write_shows held now (Err (Input fault)) h = absurd h
write_shows held now (Err (Own fault)) h = absurd h
write_shows held now (Err Write) h = h
write_shows held now (Err NoMemory) h = tt

module _ (hops limit : ℕ) (sides : RefutedSides) (net : Network) (i : Entry) where
  same_up_to : (items done : List Record) (end' last : Record) → items ++ end' ∷ [] ≡ done ++ last ∷ []
      → AreExactUpToFor net i hops limit (record_trees items) (record_tree end') → AreExactUpToFor net i hops limit (record_trees done) (record_tree last)
  same_up_to items done end' last is h =
      let (fronts, ends) = same_from_push items done end' last is in
      subst (λ r. AreExactUpToFor net i hops limit (record_trees done) (record_tree r)) ends
      (subst (λ rs. AreExactUpToFor net i hops limit (record_trees rs) (record_tree end')) fronts h)

  -- records that are exact and of their types fit
  abbrev pub FitSo : Type 0
  FitSo = (items : List Record) → AreExactFor net i hops limit (record_trees items) → AllByRecursion RecordInRange items → AllByRecursion (RecordFits net) items

  found_so : FitSo → (ending : Ending) (items : List Record) → AreExactFor net i hops limit (record_trees items) → IsEnding ending (record_trees items)
      → AreOfTypes net sides items → AreFound hops limit sides net i ending items
  found_so fits ending items exact ends types = record {
    exact = exact;
    ends = ends;
    fit = fits items exact types.ranges;
    few = types.few;
    utf8 = types.utf8;
  }

  -- an exploration over lines ended so
  module _ {K : Type 0} (told : K → SinkTold) (gives : K → List ℕ → Put → K → Type 0) (IsFirst : K → Type 0) (start now : K)
      (alone : (u : K) → IsFirst u → u ≡ start) (own_sides : RefutedSides) (some : Bool) (refuted : ℕ) (fits : FitSo) (stops before after : ℕ) where
    from_start : (u : K) (bytes : List ℕ) → IsFirst u → Takes told gives u bytes now → Takes told gives start bytes now
    from_start u bytes first takes = subst (λ s. Takes told gives s bytes now) (alone u first) takes

    until_start : (u : K) (bytes : List ℕ) → IsFirst u → TakesUntil told gives u bytes now → TakesUntil told gives start bytes now
    until_start u bytes first takes = subst (λ s. TakesUntil told gives s bytes now) (alone u first) takes

    -- whether memory ended or not
    until_so : (over : Bool) (u : K) (bytes : List ℕ) → IsFirst u → PutSo told gives over u bytes now → TakesUntil told gives start bytes now
    until_so true u bytes first takes = until_start u bytes first takes
    until_so false u bytes first takes = until_all told gives start now bytes (from_start u bytes first takes)

    module _ (over : Bool) (m : Receiving Record)
        (stands : (items : List Record) → m.StandsFor items → HasLines told gives net sides IsFirst now own_sides over some refuted items)
        (stopped : (items : List Record) → m.StoppedIn items → StopsInLine told gives net sides IsFirst now items) where
      abbrev Put' : Result Tail Stop → Type 0
      Put' = PutsRecords told gives hops limit sides net i start now

      ended_so : (ending : Ending) (items : List Record) → m.StandsFor items → AreExactFor net i hops limit (record_trees items) → IsEnding ending (record_trees items)
          → Put' (tail_unless over ending refuted)
      ended_so ending items stand exact ends =
          by over (stands items stand)
        where
          by : (own : Bool) → HasLines told gives net sides IsFirst now own_sides own some refuted items → Put' (tail_unless own ending refuted)
          by false has = (
            records_text net (written_of sides items),
            record { records = items; found = found_so fits ending items exact ends has.of_types; counted = has.counted; pieces = refl },
            from_start has.start (records_text net (written_of sides items)) has.first has.puts,
          )
          by true has = (
            records_text net (written_of sides items),
            record { records = items; exact = so_far net i hops limit (record_trees items) exact; pieces = refl },
            until_start has.start (records_text net (written_of sides items)) has.first has.puts,
          )

      pub records_put : {E : Type 0} (answer : Result Ended E) → ExploredFor net i hops limit stops m before after answer → Put' (tail_of answer over refuted)
      records_put (Ok ended.Whole) h = ended_so Done h.items h.stands h.exact h.tried
      records_put (Ok ended.Partial) h = ended_so Partial h.items h.stands h.exact h.untried
      records_put (Ok ended.Stopped) h =
          let cut = stopped (h.items ++ h.last ∷ []) h.stopped in (
            records_text net (written_of sides cut.done) ++ cut.part,
            record {
              done = cut.done;
              last = cut.last;
              exact = same_up_to h.items cut.done h.last cut.last cut.is h.exact;
              put = cut.put;
              own = cut.part;
              begins = cut.begins;
              pieces = refl;
            },
            subst (λ s. TakesPart told gives s (records_text net (written_of sides cut.done) ++ cut.part) now) (alone cut.start cut.first) cut.puts,
          )
      records_put (Err e) h =
          let has = stands h.items h.stands in (
            records_text net (written_of sides h.items),
            record { records = h.items; exact = h.exact; pieces = refl },
            until_so over has.start (records_text net (written_of sides h.items)) has.first has.puts,
          )

  module _ {K : Type 0} (told : K → SinkTold) (gives : K → List ℕ → Put → K → Type 0) where
    -- the tail comes behind all records
    module _ (start mid now : K) where
      pub rest_put : (tail : Tail) (answer : Result Ending Stop) → PutsRecords told gives hops limit sides net i start mid (Ok tail) → PutsEnd told gives mid now tail answer
          → PutsRest told gives hops limit sides net i start now answer
      rest_put tail (Ok ending) (part, all, is) (same, gained) = (
        part ++ tail_text tail.refuted (is_done tail.ending),
        record {
          records = all.records;
          found = subst (λ e. AreFound hops limit sides net i e all.records) (sym same) all.found;
          pieces = ap (λ s. s ++ tail_text tail.refuted (is_done tail.ending)) all.pieces
              ∙ (ap (λ n. records_text net (written_of sides all.records) ++ tail_text n (is_done tail.ending)) all.counted
              ∙ ap (λ e. records_text net (written_of sides all.records) ++ end_of e all.records) (sym same));
        },
        takes_both told gives start mid now part (tail_text tail.refuted (is_done tail.ending)) is gained,
      )
      rest_put tail (Err Write) (part, all, is) (own, begins, gained) = (
        part ++ own,
        inr (record {
          ending = tail.ending;
          records = all.records;
          found = all.found;
          own = own;
          begins = subst (λ n. IsPrefix own (tail_text n (is_done tail.ending))) all.counted begins;
          pieces = ap (λ s. s ++ own) all.pieces;
        }),
        part_behind told gives start mid now part own is gained,
      )
      rest_put tail (Err NoMemory) (part, all, is) none = (
        part,
        record { records = all.records; exact = so_far net i hops limit (record_trees all.records) all.found.exact; pieces = all.pieces },
        subst (λ bytes. TakesUntil told gives start bytes now) (append-nil part) (until_behind told gives start mid now part [] is none),
      )
      rest_put tail (Err (Input fault)) records h = absurd h
      rest_put tail (Err (Own fault)) records h = absurd h

      -- and all that behind the head
      put_behind : Joins → (asks : List AskTree) (answer : Result Ending Stop) → Takes told gives start (head_text (said_by i) hops limit) mid
          → PutsRest told gives hops limit sides net i mid now answer → Performs told gives start now (explore_work i.most_choices hops limit sides) (a_net net i asks ∷ []) answer
      put_behind joins asks (Ok ending) is (part, rest, gained) = (
        head_text (said_by i) hops limit ++ part,
        record {
          records = rest.records;
          found = rest.found;
          line = ap (λ s. head_text (said_by i) hops limit ++ s) rest.pieces
              ∙ sym (joins net (said_by i) hops limit (written_of sides rest.records) (refuted_count rest.records) (is_done ending));
        },
        takes_both told gives start mid now (head_text (said_by i) hops limit) part is gained,
      )
      put_behind joins asks (Err Write) is (part, cut, gained) =
          (head_text (said_by i) hops limit ++ part, inr (part, cut, refl), part_behind told gives start mid now (head_text (said_by i) hops limit) part is gained)
      put_behind joins asks (Err NoMemory) is (part, far, gained) =
          (head_text (said_by i) hops limit ++ part, inr (part, far, refl), until_behind told gives start mid now (head_text (said_by i) hops limit) part is gained)
      put_behind joins asks (Err (Input fault)) is h = absurd h
      put_behind joins asks (Err (Own fault)) is h = absurd h

      pub report_put : Joins → (asks : List AskTree) (answer : Result Ending Stop) (cases : Option ℕ) → cases ≡ said_by i
          → Takes told gives start (head_text cases hops limit) mid → PutsRest told gives hops limit sides net i mid now answer
          → Performs told gives start now (explore_work i.most_choices hops limit sides) (a_net net i asks ∷ []) answer
      report_put joins asks answer cases said is rest =
          put_behind joins asks answer (subst (λ s. Takes told gives start (head_text s hops limit) mid) said is) rest

    module _ (start now : K) where
      -- no more was put than some of the records
      pub rest_stopped : (stop : Stop) → PutsRecords told gives hops limit sides net i start now (Err stop) → PutsRest told gives hops limit sides net i start now (Err stop)
      rest_stopped Write (part, cut, gained) = (part, inl cut, gained)
      rest_stopped NoMemory h = h
      rest_stopped (Input fault) h = absurd h
      rest_stopped (Own fault) h = absurd h

      -- or than a beginning of the head, or nothing
      pub head_cut : (asks : List AskTree) (cases : Option ℕ) → cases ≡ said_by i → PutAs told gives start now (head_text cases hops limit) putting.Failed
          → Performs told gives start now (explore_work i.most_choices hops limit sides) (a_net net i asks ∷ []) (Err Write)
      head_cut asks cases said (part, begins, gained) = (part, inl (subst (λ s. IsPrefix part (head_text s hops limit)) said begins), gained)

      pub head_left : (asks : List AskTree) → PutAs told gives start now (head_text (said_by i) hops limit) putting.NoMemory
          → Performs told gives start now (explore_work i.most_choices hops limit sides) (a_net net i asks ∷ []) (Err NoMemory)
      head_left asks none = ([], inl refl, none)
