-- Each number is the one that the file says.
use Rattle.std.proofs.Common.{◌∙◌, ◌*◌, ◌<◌, ℕ, List, ap, ap₂, refl, subst, arith, rules}
use Rattle.db_layout.specs.declared.stated.Kind.{Kind}
use Rattle.db_layout.specs.declared.stated.Kind.TheVariants.{Database, Board}
use Rattle.race_model.specs.Prelude.{whole_in}
use Rattle.epc_query.specs.Kinds.{book_as, book_by, rolls_in, scale_as}
use Rattle.race_summary.specs.Sides.{IsRoot, IsRounded, variance}
use Rattle.race_summary.proofs.sides.Side.of.Goals as goal

-- a file has a share of less than 34 rolls
rolls_few : (kind : Kind) (f : List ℕ) → rolls_in (book_as kind f) < 34
rolls_few Database f = omega arith
rolls_few Board f = omega arith

pub returns : goal.returns
returns c =
    let opened = c.args.opened.now in
    let at = c.rank-rank.ensures.value in
    record {
      position = refl;
      rolls = subst (λ r. IsRounded ((book_by opened).means r) (whole_in (book_by opened))
          c.in_ok-rolls.rolls) at (record {
            exact = (c.in_ok-rolls.ensures {u = tt}).exact;
            rounded = (c.in_ok-rolls.ensures {u = tt}).rounded;
          });
      epc = subst (λ r. IsRounded (49 * (book_by opened).means r) (6 * whole_in (book_by opened))
          c.in_ok-epc.epc) at (record {
            exact = (c.in_ok-epc.ensures {u = tt}).exact;
            rounded = (c.in_ok-epc.ensures {u = tt}).rounded;
          });
      wastage = search rules;
      deviation = λ mean same few. subst (λ m. IsRoot (variance m c.in_ok-shares.shares)
          c.deviation.result) (grind (arith, rules, same, few, c.min.ensures)) c.deviation.ensures;
      shares = λ k most. c.in_ok-shares.ensures {u = tt} k
          (omega (arith, most, rolls_few opened.0 opened.1))
          ∙ ap₂ (λ kind s. scale_as kind * s) c.kind.ensures
          ((c.in_ok-told.ensures {u = tt}).recorded k most
          ∙ ap (λ r. (book_by opened).shares r k) at);
    }
