-- A share is added exactly if it is not zero.
use Rattle.std.proofs.Common.{◌≡◌, ℕ, ◌<◌, List, [], ◌∷◌, slice_index, true, false, nat_lt, ap, subst, arith}
use Rattle.arrayvec.specs.ArrayString.{array_string_len}
use Rattle.race_summary.specs.Printed.{Adds}
use Rattle.race_summary.specs.Values.{share_values}
use Rattle.race_summary.specs.declared.sides.Side.{Side}
use Rattle.race_summary.specs.declared.values.Value.TheVariants.{Whole, Rolls, ExactRolls}
use Rattle.race_summary.proofs.Printed.{adds_below, adds_below_none, adds_if, adds_then, adds_unless}
use Rattle.race_summary.proofs.json.push_shares.Goals.{then-is_less, else-is_less}
use Rattle.race_summary.proofs.json.push_shares.Goals as goal

-- a share was added that is not zero
added : (side : Side) (k share : ℕ) {a b : List ℕ} → share ≡ slice_index side.shares k → 0 < share
    → Adds (Whole k ∷ Rolls share ∷ ExactRolls share ∷ []) a b → Adds (share_values side k) a b
added side k share {a} {b} same some p =
    let told : nat_lt 0 (slice_index side.shares k) ≡ true = grind (arith, same, some) in
    adds_if told (subst (λ s. Adds (Whole k ∷ Rolls s ∷ ExactRolls s ∷ []) a b) same p)

-- no share was added that is zero
left_out : (side : Side) (k share : ℕ) (a : List ℕ) → share ≡ slice_index side.shares k
    → ¬ (0 < share) → Adds (share_values side k) a a
left_out side k share a same none =
    let told : nat_lt 0 (slice_index side.shares k) ≡ false = grind (arith, same, none) in
    adds_unless _ a told

pub loop-k-init : goal.loop-k-init
loop-k-init c = record { values = adds_below_none _ _; len = omega arith }

pub loop-k-preserved : goal.loop-k-preserved
loop-k-preserved c =
    let side = c.args.side.now in
    let k = c.loop-k.k in
    let before = c.loop-k.invariant in
    elim c.if-is_less.branch [
      | then-is_less w ↦ record {
        values = rw w.text-is (adds_below (share_values side) k before.values
            (added side k c.share-share.result c.share-share.ensures
            (grind (arith, w.if-is_less.true, c.is_less.ensures))
            (adds_then w.push_words.ensures.values (adds_then w.push_field.ensures.values
            (adds_then w.push_words-then-is_less.ensures.values w.push_number.ensures.values)))));
        len = omega (
          arith,
          before.len,
          w.separator.ensures.len,
          w.push_words.ensures.len,
          w.push_field.ensures.len,
          w.push_words-then-is_less.ensures.len,
          w.push_number.ensures.len,
          ap array_string_len w.text-is,
        );
      }
      | else-is_less w ↦ record {
        values = rw w.text-is (adds_below (share_values side) k before.values
            (left_out side k c.share-share.result _ c.share-share.ensures
            (grind (arith, w.if-is_less.false, c.is_less.ensures))));
        len = omega (arith, before.len, ap array_string_len w.text-is);
      }
    ]
