use Rattle.std.proofs.Common.{◌≡◌, ◌<◌, length, sum, get_or, All, sym, refl, arith, subst, ◌∙◌}
use Rattle.std.proofs.lemmas.List.{take_all}
use Rattle.std.proofs.lemmas.List.Elements.{All-more}
use Rattle.race_model.specs.Prelude.{whole}
use Rattle.fixed_fraction.proofs.spread.leaves_room.Goals as goal

pub loop-spread-preserved : goal.loop-spread-preserved
loop-spread-preserved c =
    let lt : c.loop-spread.spread-index < length c.args.parts.now = omega arith in
    record {
      room =
          All-more (λ part. get_or part.1 22 0 ≡ 0) c.args.parts.now c.loop-spread.spread-index
          c.loop-spread-item.result lt c.loop-spread.invariant.room
          (sym c.at.ensures.value ∙ c.if-at-ne0.false);
      wholes =
          All-more (λ part. (sum part.1 ≡ whole) × (length part.1 ≡ 23)) c.args.parts.now
          c.loop-spread.spread-index c.loop-spread-item.result lt
          c.loop-spread.invariant.wholes (c.at.ensures.total, c.at.ensures.len);
    }

pub returns-clause-room : goal.returns-clause-room
returns-clause-room c =
    let all = take_all c.loop-spread.spread-index c.args.parts.now (omega arith) in (
      λ _.
          subst (λ parts. All (λ part. get_or part.1 22 0 ≡ 0) parts) all
          c.loop-spread.invariant.room,
      λ _. refl,
    )

pub returns-clause-wholes : goal.returns-clause-wholes
returns-clause-wholes c =
    let all = take_all c.loop-spread.spread-index c.args.parts.now (omega arith) in
    λ _.
    subst (λ parts. All (λ part. (sum part.1 ≡ whole) × (length part.1 ≡ 23)) parts) all
    c.loop-spread.invariant.wholes
