use Rattle.std.proofs.Common.{◌≤◌, arith}
use Rattle.race_model.specs.Prelude.{pips, bound_of, book_of}
use Rattle.race_model.proofs.RightFiles.Right.{short}
use Rattle.epc_query.proofs.pages.losses.lost_beside.Goals as goal

pub recorded_mean-requires : goal.recorded_mean-requires
recorded_mean-requires g c =
    let fewer = c.law_results.ensures.pips _ _ _ c.requires.legal in
    omega (arith, fewer, c.requires.within)

pub returns-in-Some-clause-recorded : goal.returns-in-Some-clause-recorded
returns-in-Some-clause-recorded g c = λ file t.
    let least = c.requires.least file t in
    let after = (c.in_ok-after.ensures {u = tt}).recorded file t in
    let difference = (c.in-Some.ensures {u = tt}).value in
    omega (arith, least, after, difference)

pub returns-in-None-clause-stays : goal.returns-in-None-clause-stays
returns-in-None-clause-stays g c =
    let stays = c.recorded_mean.ensures.stays in
    record {
      told = stays.told;
      bound = stays.bound;
      version = stays.version;
      cause = λ file t.
          let right = c.bound-bound.ensures.right file t in
          let within : pips c.args.position.now ≤ bound_of file = omega (
            arith,
            c.requires.within,
            right.1,
          ) in
          let low = c.law_loss.ensures.least (book_of file) (short file right.0.file) right.0.book
          c.args.position.now c.requires.position within
          c.args.roll c.args.to.now c.requires.legal in
          let least = c.requires.least file t in
          let after = (c.in_ok-after.ensures {u = tt}).recorded file t in
          let none = (c.in-None.ensures {u = tt}).some.1 (omega (arith, low, least, after)) in
          cc;
    }
