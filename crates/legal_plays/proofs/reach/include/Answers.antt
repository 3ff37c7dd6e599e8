use Rattle.std.proofs.Common.{inl, inr, sym, ◌∙◌}
use Rattle.legal_plays.proofs.OrderLemmas.{Contains-insert, AllPairs-insert, rising}
use Rattle.legal_plays.proofs.RankLemmas.{rank_cmp_total, rank_cmp_apart}
use Rattle.legal_plays.proofs.reach.include.Goals as goal

pub returns-in-Err-clause-members : goal.returns-in-Err-clause-members
returns-in-Err-clause-members g c y =
    rw c.insert.ensures.items
    (Contains-insert c.args.found.now.items c.in-Err.place c.args.position y)

pub returns-in-Err-clause-ordered : goal.returns-in-Err-clause-ordered
returns-in-Err-clause-ordered g c =
    let found =
    c.in-Err.ensures.position (rising rank_cmp_total _ c.args.position
    (rw c.as_slice.ensures.value c.requires.ordered.pairs)) in
    let at = rw c.as_slice.ensures.value at found in
    let bound = rw c.as_slice.ensures.value at c.in-Err.ensures.bound in
    record {
      pairs = rw c.insert.ensures.items
          (AllPairs-insert rank_cmp_total c.args.found.now.items c.in-Err.place c.args.position
          bound c.requires.ordered.pairs at.0 at.1);
    }

pub returns-in_default-clause-members : goal.returns-in_default-clause-members
returns-in_default-clause-members g c y = (
  λ old. inl old,
  λ h. elim h [
    | inl old ↦ old
    | inr new ↦
        rw (← c.as_slice.ensures.value) (
          c.in_default.field-0,
          c.in_default.ensures.bound,
          rank_cmp_apart _ _ (c.in_default.ensures.ok y) ∙ sym new,
        )
  ],
)
