use Rattle.std.proofs.Common.{◌≡◌, ℕ, ◌*◌, ◌<◌, ◌≤◌, List, sum, sym, ap, subst, ◌∙◌, arith}
use Rattle.std.proofs.lemmas.Bool.{false≢true}
use Rattle.race_model.specs.Prelude.{Board, pips, at_rank, count_to, version_by, bound_of, mean_of, whole}
use Rattle.race_model.proofs.FirstFaults.Questions.{within_bound}
use Rattle.race_model.proofs.Ranks.PositionTotals.{count_to-most}
use Rattle.db_layout.specs.Records.{IsHeld}
use Rattle.db_layout.specs.Writes.{AppendsPart}
use Rattle.db_layout.specs.declared.header.Header.{Header}
use Rattle.db_layout.proofs.Known.{on-error}
use Rattle.std.specs.Io.KnownBytes.{Appends}
use Rattle.certificate.specs.RecordNumbers.{shares_of}
use Rattle.certificate.proofs.Upgrades.{mean-here, total-here, held-here, record-same}
use Rattle.certificate.proofs.upgrading.write_compact.Goals as goal

-- a rank of the header is one of a file that has its bound
rank-under : (header : Header) (file : List ℕ) (rank : ℕ) → rank < header.count →
    header.bound ≡ bound_of file → rank < count_to (bound_of file)
rank-under header file rank under bound_is =
    omega (arith, under, header.counted, ap count_to bound_is)

-- the position of such a rank has no more pips than the bound
pips-low : (header : Header) (rank p : ℕ) (x : Board) → rank < header.count → p ≡ pips x →
    x ≡ at_rank rank → p ≤ header.bound
pips-low header rank p x under pips_are is =
    subst (λ n. n ≤ header.bound) (sym (pips_are ∙ ap pips is))
    (within_bound header.bound rank (omega (arith, under, header.counted))).1

pub returns-in_default-clause-stays : goal.returns-in_default-clause-stays
returns-in_default-clause-stays g c =
    let ok = c.in_ok-load.ensures {u = tt} in
    record {
      told = ok.stays;
      accepted = ok.accepted;
      cause = λ file told.
          let accepted = c.requires.local file told in
          let lent = c.lend.ensures file (ok.stays ∙ told) in
          let under = rank-under c.args.header.now file c.args.rank c.requires.rank accepted.1 in
          absurd (false≢true ((c.in_default.ensures {u = tt}).some.1 (
            subst (λ bytes. mean_of bytes ≤ 22 * whole) (sym lent)
                (mean-here file accepted.0 c.args.rank under),
            subst (λ bytes. sum (shares_of bytes) ≡ whole) (sym lent)
                (total-here file accepted.0 c.args.rank under),
          )));
    }

pub unwrap-requires : goal.unwrap-requires
unwrap-requires g c =
    c.unrank.ensures.some.1 (omega (
      arith,
      c.requires.rank,
      c.args.header.now.counted,
      count_to-most c.args.header.now.bound,
    ))

pub holds-requires : goal.holds-requires
holds-requires g c =
    pips-low c.args.header.now c.args.rank c.pips-pips.result c.unwrap.result c.requires.rank
    c.pips-pips.ensures.value (rw c.unwrap.ensures at c.unrank.ensures.value)

pub returns-then-not-holds-clause-stays : goal.returns-then-not-holds-clause-stays
returns-then-not-holds-clause-stays g c =
    let ok = c.in_ok-load.ensures {u = tt} in
    record {
      told = ok.stays;
      accepted = ok.accepted;
      cause = λ file told.
          let accepted = c.requires.local file told in
          let lent = c.lend.ensures file (ok.stays ∙ told) in
          let under = rank-under c.args.header.now file c.args.rank c.requires.rank accepted.1 in
          let is = rw c.unwrap.ensures at c.unrank.ensures.value in
          let pips_are = c.pips-pips.ensures.value ∙ ap pips is in
          let shares_are = (c.in-Some.ensures {u = tt}).spread ∙ ap shares_of lent in
          let held : IsHeld (version_by c.args.header.now.version) c.pips-pips.result
          c.in-Some.numbers.spread =
          rw (c.requires.compact, pips_are, shares_are)
          (held-here file accepted.0 c.args.rank under) in
          absurd (false≢true (sym c.if-not-holds.true ∙ c.holds.ensures.1 held));
    }

pub write_record-requires-clause-low : goal.write_record-requires-clause-low
write_record-requires-clause-low g c =
    pips-low c.args.header.now c.args.rank c.pips-pips.result c.unwrap.result c.requires.rank
    c.pips-pips.ensures.value (rw c.unwrap.ensures at c.unrank.ensures.value)

pub returns-in_err-write_record-clause-part : goal.returns-in_err-write_record-clause-part
returns-in_err-write_record-clause-part g c file told =
    let ok = c.in_ok-load.ensures {u = tt} in
    let lent = c.lend.ensures file (ok.stays ∙ told) in
    let is = rw c.unwrap.ensures at c.unrank.ensures.value in
    let some = c.in-Some.ensures {u = tt} in
    let old = g.W.Write.contents c.args.writer.now in
    let new = g.W.Write.contents c.write_record.new.writer in
    on-error c.from_residual-in_err-write_record.result
    (subst (λ (bs : List ℕ). AppendsPart old new bs)
    (record-same file c.lend.result c.args.rank c.pips-pips.result c.in-Some.numbers.mean
    (version_by c.args.header.now.version) c.in-Some.numbers.plays c.in-Some.numbers.spread lent
    c.requires.compact (c.pips-pips.ensures.value ∙ ap pips is) some.mean some.plays some.spread)
    c.in_err-write_record.ensures.part)

pub returns-clause-all : goal.returns-clause-all
returns-clause-all g c file told =
    let ok = c.in_ok-load.ensures {u = tt} in
    let lent = c.lend.ensures file (ok.stays ∙ told) in
    let is = rw c.unwrap.ensures at c.unrank.ensures.value in
    let some = c.in-Some.ensures {u = tt} in
    let old = g.W.Write.contents c.args.writer.now in
    let new = g.W.Write.contents c.write_record.new.writer in
    subst (λ (bs : List ℕ). Appends old new bs)
    (record-same file c.lend.result c.args.rank c.pips-pips.result c.in-Some.numbers.mean
    (version_by c.args.header.now.version) c.in-Some.numbers.plays c.in-Some.numbers.spread lent
    c.requires.compact (c.pips-pips.ensures.value ∙ ap pips is) some.mean some.plays some.spread)
    c.in_ok-write_record.ensures.all
