-- Demand 3: after an accepted start, whatever is fed and closed, each stream that gets one accepted book and its own buffer back is answered as on
-- paper, where each record is judged alone. Assumes nothing.
use Rattle.stream.specs.Claim.{Demand3}
use Rattle.stream.specs.Bytes.{Reading}
use Rattle.stream.proofs.Demand.{demand-3 as demand-3-of-bytes}
use Rattle.follows.specs.Follows.{Tracks}
use Rattle.follows.proofs.TrackLaws.{tracks-start, tracks-step, tracks-judged}
use Rattle.progress.proofs.MemoryLaws.{length-step_mem}
use Rattle.demand.specs.Book.{Book}
use Rattle.demand.proofs.BookLaws.{carries-of-book, plain-of-book, sound-of-book}

-- with an accepted book, the memory of the reader follows the track of a record, byte by byte
pub reading : Reading Book Tracks
reading =
    record {
      sound = λ book. sound-of-book book;
      start = λ {t} {es} book n least most w long. tracks-start es n w long;
      byte = λ book {n} least most {m} {s} tracks b other. tracks-step (carries-of-book book) (plain-of-book book) n most m s b other tracks;
      verdict = λ book {n} {m} {s} tracks. tracks-judged m s tracks;
      length_kept = length-step_mem;
    }

pub demand-3 : Demand3 Book
demand-3 = demand-3-of-bytes reading
