-- The tests of the record of one rank, from its plays to its shares.
use Rattle.std.proofs.Common.{◌≡◌, ℕ, ◌+◌, ◌<◌, ◌≤◌, List, Some, slice_index, sym, ap}
use Rattle.std.proofs.Common.{subst, ◌∙◌, arith, rules}
use Rattle.race_model.specs.Prelude.{Board, IsPosition, IsFinished, pips, rank, count_to, at_rank, Throw, roll_at}
use Rattle.race_model.specs.Prelude.{Legal, IsBestPlay, Holds, IsLocalAt, bound_of, record_at, mean_of, share_of}
use Rattle.race_model.specs.Prelude.{mean_at, play_of, play, book_of}
use Rattle.race_model.proofs.Dice.Throws.{roll_of_index}
use Rattle.race_model.proofs.Plays.Results.{legal_position, legal_pips}
use Rattle.race_model.proofs.Plays.Spent.{legal_takes}
use Rattle.race_model.proofs.Ranks.RankOrder.{rank_bound}
use Rattle.race_model.proofs.Ranks.BestPlays.{legal_lower}
use Rattle.race_model.proofs.RightFiles.Right.{bound_of-most}
use Rattle.least_plays.specs.Recorded.{IsLeastPlay}
use Rattle.least_plays.specs.declared.recorded.PlayFault.{PlayFault}
use Rattle.least_plays.specs.declared.recorded.PlayFault.TheVariants.{NotLegal, NotLeast}
use Rattle.certificate.specs.declared.check_fault.RecordFault.{RecordFault}
use Rattle.certificate.specs.declared.check_fault.RecordFault.TheVariants.{Read as ReadRecord}
use Rattle.db_layout.proofs.Bounds.{bound-most}
use Rattle.least_plays.specs.Known.{HasRows, Knows}
use Rattle.db_reader.specs.TableStays.{TableStays}
use Rattle.db_reader.specs.Reads.{HasRecord}
use Rattle.db_reader.proofs.Failures.{rose_as, table_as, table_more, err-same}
use Rattle.std.proofs.lemmas.Bool.{false≢true}
use Rattle.certificate.specs.KeptMeans.{kept_mean}
use Rattle.certificate.specs.RecordFaults.{IsFirstFaultAt, IsNumberFault, of_refused}
use Rattle.certificate.specs.RecordNumbers.{IsMeanOf, IsShareOf, AreSumsOf, sums_if}
use Rattle.certificate.proofs.Accepted.{play-of_lent}
use Rattle.certificate.proofs.RecordBytes.{mean-of_record, get_or-plays_of}
use Rattle.certificate.proofs.KeptMeans.{accepted-mean_more}
use Rattle.certificate.proofs.NumberTests.{first-wrong, right-numbers}
use Rattle.certificate.proofs.RecordTests.{ArePlays, plays-hold, first-refused}
use Rattle.certificate.proofs.record_check.check_record.Given.{Over}
use Rattle.certificate.proofs.record_check.check_record.Goals.{After-lend-view, After-unwrap-position}
use Rattle.certificate.proofs.record_check.check_record.Goals.{After-plays_in-recorded}
use Rattle.certificate.proofs.record_check.check_record.Goals as goal

-- the position of the rank, of whose record the tests are
module _ (g : Over) (c : After-unwrap-position g) where
  ranked : rank c.unwrap-position.result ≡ c.args.rank
  ranked = rw c.unwrap-position.ensures at c.unrank.ensures.ranked

  at : IsPosition c.unwrap-position.result
  at = rw c.unwrap-position.ensures at c.unrank.ensures.position

  low : pips c.unwrap-position.result ≤ c.args.header.bound
  low =
      (rank_bound c.unwrap-position.result c.args.header.bound at).0
      (omega (arith, ranked, c.requires.rank, c.args.header.counted))

  short : pips c.unwrap-position.result ≤ 58
  short = omega (arith, low, bound-most c.args.header)

pub best_plays-best-requires : goal.best_plays-best-requires
best_plays-best-requires g c =
    let here = (goal.at.best_plays-best-requires g c).After-unwrap-position in
    let is = ranked g here in (
      search rules,
      (
        at g here,
        (
          omega (arith, is, c.requires.rank, c.requires.room),
          (
            subst (HasRows g.row.ROWS) (sym is) c.requires.rows,
            subst (Knows (kept_mean g.row.ROOM c.args.lower.now.means) c.args.lower.now.plays)
                (sym is) c.requires.kept.known,
          ),
        ),
      ),
    )

pub sum_plays-requires-clause-short : goal.sum_plays-requires-clause-short
sum_plays-requires-clause-short g c =
    short g (goal.at.sum_plays-requires-clause-short g c).After-unwrap-position

-- what the record says of the rolls
recorded_at : (g : Over) (c : After-plays_in-recorded g) (file : List ℕ)
    → g.T.Table.tells c.load.new.self ≡ Some file → (i : ℕ) → i < 21
    → slice_index c.plays_in-recorded.result i ≡ play file c.unwrap-position.result (roll_at i)
recorded_at g c file told i lt =
    let ranked = rw c.unwrap-position.ensures at c.unrank.ensures.ranked in
    let bytes = c.lend.result in
    let roll = roll_of_index i lt in
    ap (λ xs. slice_index xs i) c.plays_in-recorded.ensures
    ∙ (get_or-plays_of bytes i lt
    ∙ (ap (play_of bytes) (sym roll.1)
    ∙ play-of_lent file bytes c.unwrap-position.result c.args.rank (c.lend.ensures file told)
    (sym ranked) (roll_at i)))

-- the means that are kept are recorded of all that a roll leads to
kept-is : (g : Over) (c : After-plays_in-recorded g) (file : List ℕ)
    → g.T.Table.tells c.args.table.now ≡ Some file → ¬ IsFinished c.unwrap-position.result
    → (v : Throw) (z : Board) → Legal c.unwrap-position.result v z
    → kept_mean g.row.ROOM c.best_plays-best.new.self.means (rank z) ≡ mean_at file (rank z)
kept-is g c file told unfinished v z legal =
    let x = c.unwrap-position.result in
    let ranked = rw c.unwrap-position.ensures at c.unrank.ensures.ranked in
    let at = rw c.unwrap-position.ensures at c.unrank.ensures.position in
    let there = legal_position x v z at legal in
    let below = legal_lower x v z at unfinished legal in
    let taken = (rank_bound x (pips z + 24) at).1 (legal_takes x v z legal) in
    let near = c.requires.near z there (omega (arith, ranked)) in
    ap (λ means. kept_mean g.row.ROOM means (rank z)) c.best_plays-best.ensures.means
    ∙ c.requires.kept.means_are file told (rank z) (omega (arith, ranked)) (omega arith)

-- what the tests of the plays tell of the file
held-here : (g : Over) (c : After-plays_in-recorded g) (file : List ℕ)
    → g.T.Table.tells c.args.table.now ≡ Some file
    → ((i : ℕ) → i < 21 → IsLeastPlay (kept_mean g.row.ROOM c.best_plays-best.new.self.means)
    c.unwrap-position.result (roll_at i) (slice_index c.plays_in-recorded.result i))
    → ArePlays (book_of file) c.unwrap-position.result
held-here g c file told =
    plays-hold (book_of file) c.unwrap-position.result (slice_index c.plays_in-recorded.result)
    (recorded_at g c file ((c.in_default.ensures {u = tt}).stays ∙ told))
    (rw c.unwrap-position.ensures at c.unrank.ensures.position)
    (kept_mean g.row.ROOM c.best_plays-best.new.self.means) (kept-is g c file told)

pub check_plays-requires-clause-next : goal.check_plays-requires-clause-next
check_plays-requires-clause-next g c =
    let here = (goal.at.check_plays-requires-clause-next g c).After-unwrap-position in
    omega (arith, ranked g here, c.requires.rank, c.requires.room)

pub check_plays-requires-clause-best : goal.check_plays-requires-clause-best
check_plays-requires-clause-best g c i lt =
    subst
    (λ means. IsBestPlay (kept_mean g.row.ROOM means) c.unwrap-position.result (roll_at i)
    (slice_index c.best_plays-best.result i))
    (sym c.best_plays-best.ensures.means) (c.best_plays-best.ensures.best i lt)

pub sum_plays-requires-clause-recorded : goal.sum_plays-requires-clause-recorded
sum_plays-requires-clause-recorded g c file told =
    recorded_at g (goal.at.sum_plays-requires-clause-recorded g c).After-plays_in-recorded file told

pub sum_plays-requires-clause-played : goal.sum_plays-requires-clause-played
sum_plays-requires-clause-played g c file told i lt =
    (held-here g (goal.at.sum_plays-requires-clause-played g c).After-plays_in-recorded file
    (sym (c.in_default.ensures {u = tt}).stays ∙ told)
    (c.in_default-check_plays.ensures {u = tt}).least i lt).0

-- a rank that is played has a record
pub sum_plays-requires-clause-have : goal.sum_plays-requires-clause-have
sum_plays-requires-clause-have g c i lt =
    let here = (goal.at.sum_plays-requires-clause-have g c).After-unwrap-position in
    let is = ((c.in_default-check_plays.ensures {u = tt}).least i lt).result in
    let r = slice_index c.plays_in-recorded.result i in
    let y = legal_position c.unwrap-position.result (roll_at i) (at_rank r) (at g here) is.0 in
    let fewer = legal_pips c.unwrap-position.result (roll_at i) (at_rank r) is.0 in
    let under = (rank_bound (at_rank r) c.args.header.bound y).1
    (omega (arith, fewer, low g here)) in
    subst (λ accepted. HasRecord accepted r)
    (sym ((c.in_default.ensures {u = tt}).accepted ∙ c.requires.header))
    (omega (arith, c.args.header.counted, under, is.1))

pub sum_plays-requires-clause-lower : goal.sum_plays-requires-clause-lower
sum_plays-requires-clause-lower g c file told =
    let here = (goal.at.sum_plays-requires-clause-lower g c).After-unwrap-position in
    subst (λ r. (z : Board) → IsPosition z → rank z < r → IsLocalAt file z) (sym (ranked g here))
    (c.requires.lower file (sym (c.in_default.ensures {u = tt}).stays ∙ told))

pub returns-in-Err-check_plays-clause-first : goal.returns-in-Err-check_plays-clause-first
returns-in-Err-check_plays-clause-first g c file told =
    let here = (goal.at.returns-in-Err-check_plays-clause-first g c).After-plays_in-recorded in
    let same = rw c.unwrap-position.ensures at c.unrank.ensures.value in
    let whole = c.requires.file file told in
    let lt : c.args.rank < count_to (bound_of file) =
    let count = ap count_to whole.bound_is in omega (
      arith,
      c.requires.rank,
      c.args.header.counted,
      count,
    ) in
    subst (IsFirstFaultAt file c.args.rank) (sym c.of_refused.ensures)
    (first-refused (book_of file) c.unwrap-position.result
    (slice_index c.plays_in-recorded.result)
    (recorded_at g here file ((c.in_default.ensures {u = tt}).stays ∙ told))
    (rw c.unwrap-position.ensures at c.unrank.ensures.position)
    (kept_mean g.row.ROOM c.best_plays-best.new.self.means) (kept-is g here file told) (Holds file)
    (Unit {0}) c.args.rank lt same (λ i. (λ h. h, λ h. h)) (λ i. (λ h. h, λ h. h))
    c.in-Err-check_plays.refused (c.in-Err-check_plays.ensures {u = tt}).fault)

-- a refused play is no failed read
play-unread : (roll : ℕ) (fault : PlayFault) → of_refused roll fault ≡ ReadRecord → ⊥
play-unread roll NotLegal e = cc
play-unread roll NotLeast e = cc

pub returns-in-Err-check_plays-clause-stays : goal.returns-in-Err-check_plays-clause-stays
returns-in-Err-check_plays-clause-stays g c =
    let loaded = c.in_default.ensures {u = tt} in
    let refused = c.in-Err-check_plays.refused in
    record {
      told = loaded.stays;
      accepted = loaded.accepted;
      cause = λ file told. rose_as (loaded.cause file told)
          (λ e. absurd (play-unread refused.roll refused.fault
          (sym c.of_refused.ensures ∙ err-same e)))
          (λ no. absurd (false≢true no));
    }

-- what is known when the numbers of the record are tested, where the bytes are told
module _ (g : Over) (c : After-lend-view g) (file : List ℕ)
    (told : g.T.Table.tells c.args.table.now ≡ Some file) where
  -- the rank has a record
  below_count : c.args.rank < count_to (bound_of file)
  below_count =
      let count = ap count_to (c.requires.file file told).bound_is in
      omega (arith, c.requires.rank, c.args.header.counted, count)

  -- the position is that of the rank
  position-is : c.unwrap-position.result ≡ at_rank c.args.rank
  position-is = rw c.unwrap-position.ensures at c.unrank.ensures.value

  -- the loaded bytes are the record
  lent : c.lend-view.result ≡ record_at file c.args.rank
  lent =
      c.lend-view.ensures file
      ((c.in-Ok.ensures {u = tt}).stays.told ∙ ((c.in_default.ensures {u = tt}).stays ∙ told))

  -- its plays hold
  plays-here : ArePlays (book_of file) c.unwrap-position.result
      → ArePlays (book_of file) (at_rank c.args.rank)
  plays-here = subst (ArePlays (book_of file)) position-is

  -- the sums are those of its plays
  summed : AreSumsOf file (at_rank c.args.rank) (sums_if c.in-Ok.has_sums c.sum_plays.new.sums)
  summed =
      subst (λ (x : Board). AreSumsOf file x (sums_if c.in-Ok.has_sums c.sum_plays.new.sums))
      position-is
      ((c.in-Ok.ensures {u = tt}).totals file ((c.in_default.ensures {u = tt}).stays ∙ told))

-- no read failed where the numbers of the record are tested
unread : (g : Over) (c : After-lend-view g) →
    TableStays g.T.Table c.args.table.now c.sum_plays.new.table ⊥
unread g c =
    let loaded = c.in_default.ensures {u = tt} in
    let first : TableStays g.T.Table c.args.table.now c.load.new.self ⊥ = record {
      told = loaded.stays;
      accepted = loaded.accepted;
      cause = λ file told. rose_as (loaded.cause file told) (λ no. absurd no) false≢true;
    } in
    table_more first (c.in-Ok.ensures {u = tt}).stays (λ no. cc)

-- a fault of the numbers is no failed read
number-read : (mean : Type 0) (share : ℕ → Type 0) (most : ℕ) (fault : RecordFault) →
    IsNumberFault mean share most fault → fault ≡ ReadRecord → ⊥
number-read mean share most fault wrong e = subst (IsNumberFault mean share most) e wrong

pub returns-in-Err-check_numbers-clause-stays : goal.returns-in-Err-check_numbers-clause-stays
returns-in-Err-check_numbers-clause-stays g c =
    let at = (goal.at.returns-in-Err-check_numbers-clause-stays g c).After-lend-view in
    table_as (unread g at)
    (λ e. number-read
    (IsMeanOf (mean_of c.lend-view.result) (sums_if c.in-Ok.has_sums c.sum_plays.new.sums))
    (IsShareOf (share_of c.lend-view.result) (sums_if c.in-Ok.has_sums c.sum_plays.new.sums))
    22 c.in-Err-check_numbers.fault
    (c.in-Err-check_numbers.ensures {u = tt}).fault (err-same e))
    (λ no. absurd no)

pub returns-in-Err-check_numbers-clause-first : goal.returns-in-Err-check_numbers-clause-first
returns-in-Err-check_numbers-clause-first g c file told =
    let at = (goal.at.returns-in-Err-check_numbers-clause-first g c).After-lend-view in
    first-wrong file c.lend-view.result c.args.rank
    (sums_if c.in-Ok.has_sums c.sum_plays.new.sums) (below_count g at file told)
    (bound_of-most file (c.requires.file file told).file) (c.requires.lower file told)
    (lent g at file told) (plays-here g at file told
    (held-here g (goal.at.returns-in-Err-check_numbers-clause-first g c).After-plays_in-recorded
    file told (c.in_default-check_plays.ensures {u = tt}).least))
    (summed g at file told)
    c.in-Err-check_numbers.fault (c.in-Err-check_numbers.ensures {u = tt}).fault

pub returns-clause-stays : goal.returns-clause-stays
returns-clause-stays g c =
    let at = (goal.at.returns-clause-stays g c).After-lend-view in
    table_as (unread g at) (λ e. cc) (λ no. absurd no)

pub returns-clause-local : goal.returns-clause-local
returns-clause-local g c file told =
    let at = (goal.at.returns-clause-local g c).After-lend-view in
    right-numbers file c.lend-view.result c.args.rank
    (sums_if c.in-Ok.has_sums c.sum_plays.new.sums) (below_count g at file told)
    (bound_of-most file (c.requires.file file told).file) (c.requires.lower file told)
    (lent g at file told) (plays-here g at file told
    (held-here g (goal.at.returns-clause-local g c).After-plays_in-recorded file told
    (c.in_default-check_plays.ensures {u = tt}).least))
    (summed g at file told) (c.in_default-check_numbers.ensures {u = tt}).mean
    (c.in_default-check_numbers.ensures {u = tt}).each

pub returns-clause-kept : goal.returns-clause-kept
returns-clause-kept g c = record {
  known = c.accept.ensures.known;
  means_are = λ file told.
      let now = (c.in_default.ensures {u = tt}).stays ∙ told in
      let fine = c.in-Ok.ensures {u = tt} in
      let before = c.args.lower.now.means in
      let read = c.mean.ensures ∙ (ap mean_of (c.lend-view.ensures file (fine.stays.told ∙ now))
      ∙ mean-of_record file c.args.rank) in
      accepted-mean_more file before c.accept.new.self.means g.row.ROOM c.args.rank
      (c.accept.ensures.mean ∙ read)
      (λ r other. c.accept.ensures.others r other
      ∙ ap (λ means. kept_mean g.row.ROOM means r) c.best_plays-best.ensures.means)
      (c.requires.kept.means_are file told);
}
