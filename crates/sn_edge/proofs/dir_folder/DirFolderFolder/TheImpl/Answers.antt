use Rattle.std.proofs.Common.{refl, subst, sym}
use Rattle.sn_edge.proofs.Answers.{untold, at_bytes, at_absent, at_too_big, Counts, counts}
use Rattle.sn_edge.proofs.dir_folder.DirFolderFolder.TheImpl.Goals as goal

pub load-tells : goal.load-tells
load-tells g c =
    let moved = subst (λ n. Counts c.args.self.now c.result n) (sym c.ensures.next) (counts c.args.self.now c.result) in
    record {
      kept = record { files = refl; faults = moved.faults_stay; misses = moved.misses_stay; excesses = moved.excesses_stay };
      gives = (c.ensures.within, c.ensures.next);
      failed = moved.failed;
      absent = moved.absent;
      too_big = moved.too_big;
      within = c.ensures.within;
      bytes = at_bytes c.result (λ _. untold _);
      no_file = at_absent c.result (untold _);
      long_file = at_too_big c.result (untold _);
      at_none = untold _;
      at_long = untold _;
      at_file = untold _;
    }
