-- What is recorded of a position where it and each position of lower rank meet the equations.
use Rattle.std.proofs.Common.{◌≡◌, ⊎_elim, ℕ, zero, suc, ◌+◌, ◌*◌, ◌<◌, ◌≤◌, List, [], ◌∷◌, map, length}
use Rattle.std.proofs.Common.{get_or, sum, refl, sym, ap, ◌∙◌, arith}
use Rattle.std.specs.List.{range_with_len}
use Rattle.std.proofs.lemmas.List.Elements.{All-map}
use Rattle.std.proofs.lemmas.List.Sums.{sum-map}
use Rattle.race_model.specs.Prelude.{Board, IsPosition, IsFinished, checkers, Die, number, Throw, all_rolls, weight}
use Rattle.race_model.specs.Prelude.{Step, Run, Legal, in_order, in_reverse, double, rank, record_at, share_of, play}
use Rattle.race_model.specs.Prelude.{spread, spread_at, book_of, recorded, whole, IsPlayed, IsLocalAt, EndsIn}
use Rattle.race_model.proofs.Plays.Steps.{Change, moved, borne_off, changed}
use Rattle.race_model.proofs.Dice.Throws.{played_by_rolls}
use Rattle.race_model.proofs.Numbers.Sums.{sum_by-equal, sum_by-equal_within, sum_by-map, sum_by-zero}
use Rattle.race_model.proofs.Dice.RollSums.{sum_by-weight}
use Rattle.race_model.proofs.Numbers.Members.{all_of_members}
use Rattle.race_model.proofs.Plays.Results.{legal_position, finished_or_not}
use Rattle.race_model.proofs.RightFiles.Bounded.{recorded_lower}
use Rattle.fixed_fraction.specs.Totals.{weighted_share}
use Rattle.fixed_fraction.proofs.Shares.{moved_whole}
use Rattle.certificate.specs.RecordNumbers.{shares_of}
use Rattle.certificate.proofs.RecordBytes.{share-of_record, get_or-shares_of}

-- the shares of the record of a rank
shares_at : List ℕ → ℕ → List ℕ
shares_at f r = shares_of (record_at f r)

-- one of them
share_at : (f : List ℕ) (r k : ℕ) → k < 23 → get_or (shares_at f r) k 0 ≡ spread_at f r k
unfolding shares_at
share_at f r k lt = get_or-shares_of (record_at f r) k lt ∙ share-of_record f r k

shares_at-length : (f : List ℕ) (r : ℕ) → length (shares_at f r) ≡ 23
unfolding shares_at shares_of
shares_at-length f r = refl

-- what a position meets, and each of no higher rank
abbrev Meets : List ℕ → Board → Type 0
Meets f x = (z : Board) → IsPosition z → rank z ≤ rank x → IsLocalAt f z

-- what follows of that for the recorded positions of one that isn't finished
module _ (f : List ℕ) (x : Board) (at : IsPosition x) (meets : Meets f x)
    (unfinished : ¬ IsFinished x) where
  played : (v : Throw) → IsPlayed f x v
  played = played_by_rolls (book_of f) x (meets x at (omega arith)).means.played

  after_is : (v : Throw) → IsPosition (recorded f x v)
  after_is v = legal_position x v (recorded f x v) at (played v).legal

  after_meets : (v : Throw) → Meets f (recorded f x v)
  after_meets v z is le =
      let lower = recorded_lower f x v at unfinished (played v) in
      meets z is (omega arith)

-- no share is recorded beyond the rolls that a game can take
pub count_of-beyond : (f : List ℕ) (n : ℕ) (x : Board) → EndsIn n x → IsPosition x → Meets f x
    → (k : ℕ) → n < k → k ≤ 22 → spread f x k ≡ 0
count_of-beyond f n x ends at meets zero beyond few = absurd (omega arith)
count_of-beyond f zero x ends at meets (suc k) beyond few = ((meets x at (omega arith)).shares
    (suc k) few).0 ends
count_of-beyond f (suc n) x ends at meets (suc k) beyond few = ⊎_elim
    (λ end. ((meets x at (omega arith)).shares (suc k) few).0 end)
    (λ unfinished. further unfinished (λ v.
    count_of-beyond f n (recorded f x v) (ends unfinished v (recorded f x v)
    (played f x at meets unfinished v).legal)
    (after_is f x at meets unfinished v) (after_meets f x at meets unfinished v) k (omega arith)
    (omega arith)))
    (finished_or_not x)
  where
    further : (unfinished : ¬ IsFinished x) → ((v : Throw) → spread f (recorded f x v) k ≡ 0)
        → spread f x (suc k) ≡ 0
    further unfinished each =
        let none = sum_by-zero (λ v. weight v * spread_at f (play f x v) k) all_rolls (λ v.
        ap (λ n. weight v * n)
        (ap (λ r. spread_at f r k) (sym (played f x at meets unfinished v).ranked) ∙ each v)
        ∙ omega arith) in
        omega (arith, ((meets x at (omega arith)).shares (suc k) few).1 unfinished, none)

-- where no throw leads to a share of k rolls there is none of one roll more
none_after : (f : List ℕ) (x : Board) (at : IsPosition x) (meets : Meets f x)
    (unfinished : ¬ IsFinished x) (k : ℕ) → suc k ≤ 22
    → ((v : Throw) → spread f (recorded f x v) k ≡ 0) → spread f x (suc k) ≡ 0
none_after f x at meets unfinished k few each =
    let none = sum_by-zero (λ v. weight v * spread_at f (play f x v) k) all_rolls (λ v.
    ap (λ n. weight v * n)
    (ap (λ r. spread_at f r k) (sym (played f x at meets unfinished v).ranked) ∙ each v)
    ∙ omega arith) in
    omega (arith, ((meets x at (omega arith)).shares (suc k) few).1 unfinished, none)

-- a step takes one checker off at most
step_takes : (x : Board) (d : Die) (y : Board) → Step x d y → checkers x ≤ checkers y + 1
step_takes x d y s = by (changed x d y s)
  where
    by : Change x (number d) y → checkers x ≤ checkers y + 1
    by (moved l) = omega (arith, l.checkers_lost)
    by (borne_off t positive why top l) = omega (arith, l.checkers_lost)

-- dice take one each at most
run_takes : (dice : List Die) (x y : Board) → Run x dice y
    → checkers x ≤ checkers y + length dice
run_takes [] x y same = omega (arith, ap (λ z. checkers z) same)
run_takes (d ∷ dice) x y run = ⊎_elim
    (λ stays. omega (arith, ap (λ z. checkers z) stays.1))
    (λ goes.
    let first = step_takes x d goes.1.0 goes.1.1.0 in
    let rest = run_takes dice goes.1.0 y goes.1.1.1 in
    omega arith)
    run

-- a throw takes four off at most
pub throw_takes : (x : Board) (v : Throw) (y : Board) → Legal x v y → checkers x ≤ checkers y + 4
throw_takes x v y (in_order apart run) =
    omega (arith, run_takes (v.first ∷ v.second ∷ []) x y run)
throw_takes x v y (in_reverse apart run) =
    omega (arith, run_takes (v.second ∷ v.first ∷ []) x y run)
throw_takes x v y (double same run) =
    omega (arith, run_takes (v.first ∷ v.first ∷ v.first ∷ v.first ∷ []) x y run)

-- so no share is recorded before all checkers can be off
pub count_of-before : (f : List ℕ) (x : Board) → IsPosition x → Meets f x
    → (k : ℕ) → 4 * k < checkers x → k ≤ 22 → spread f x k ≡ 0
count_of-before f x at meets zero less few =
    ((meets x at (omega arith)).shares zero few).1 (λ end. omega (arith, end, less))
count_of-before f x at meets (suc k) less few =
    let unfinished : ¬ IsFinished x = λ end. omega (arith, end, less) in
    none_after f x at meets unfinished k few (λ v.
    count_of-before f (recorded f x v) (after_is f x at meets unfinished v)
    (after_meets f x at meets unfinished v) k
    (omega (
      arith,
      throw_takes x v (recorded f x v) (played f x at meets unfinished v).legal,
      less,
    ))
    (omega arith))

-- the shares of the finished position: the whole at 0 rolls
abbrev end_share : ℕ → ℕ
end_share zero = whole
end_share (suc k) = 0

-- they add up to the whole
total-at_end : (f : List ℕ) (x : Board) → IsFinished x → IsLocalAt f x
    → sum (shares_of (record_at f (rank x))) ≡ whole
unfolding shares_of
total-at_end f x end local =
    sum-map (share_of (record_at f (rank x))) (range_with_len 0 23)
    ∙ (sum_by-equal_within (share_of (record_at f (rank x))) end_share 0 23 each
    ∙ omega arith)
  where
    each : (k : ℕ) → k < 0 + 23 → share_of (record_at f (rank x)) k ≡ end_share k
    each zero lt = share-of_record f (rank x) 0 ∙ (local.shares 0 (omega arith)).0 end
    each (suc k) lt =
        share-of_record f (rank x) (suc k) ∙ (local.shares (suc k) (omega arith)).0 end

-- what the 21 rolls lead to: the weight of each, and the shares that are recorded there
parts_of : List ℕ → Board → List (ℕ × List ℕ)
parts_of f x = map (λ v. (weight v, shares_at f (play f x v))) all_rolls

-- the shares of an unfinished position add up to the whole where those of what is recorded do
total-before : (f : List ℕ) (n : ℕ) (x : Board) → suc n ≤ 22 → (unfinished : ¬ IsFinished x)
    → EndsIn (suc n) x → (at : IsPosition x) → (meets : Meets f x)
    → ((v : Throw) → sum (shares_at f (rank (recorded f x v))) ≡ whole)
    → sum (shares_at f (rank x)) ≡ whole
unfolding parts_of
total-before f n x small unfinished ends at meets wholes =
    moved_whole (shares_at f (rank x)) (parts_of f x) (shares_at-length f (rank x))
    (share_at f (rank x) 0 (omega arith) ∙ (local.shares 0 (omega arith)).1 unfinished)
    moved
    (All-map (λ part. get_or part.1 22 0 ≡ 0) of_roll all_rolls
    (all_of_members (λ v. get_or (of_roll v).1 22 0 ≡ 0) all_rolls (λ v _. room v)))
    (All-map (λ part. (sum part.1 ≡ whole) × (length part.1 ≡ 23)) of_roll all_rolls
    (all_of_members (λ v. (sum (of_roll v).1 ≡ whole) × (length (of_roll v).1 ≡ 23)) all_rolls
    (λ v _. (part_whole v, shares_at-length f (play f x v)))))
    (sum_by-map (λ part. part.0) of_roll all_rolls ∙ sum_by-weight)
  where
    of_roll : Throw → ℕ × List ℕ
    of_roll v = (weight v, shares_at f (play f x v))

    local : IsLocalAt f x
    local = meets x at (omega arith)

    ranked : (v : Throw) → rank (recorded f x v) ≡ play f x v
    ranked v = (played f x at meets unfinished v).ranked

    part_whole : (v : Throw) → sum (shares_at f (play f x v)) ≡ whole
    part_whole v = ap (λ r. sum (shares_at f r)) (sym (ranked v)) ∙ wholes v

    room : (v : Throw) → get_or (shares_at f (play f x v)) 22 0 ≡ 0
    room v =
        share_at f (play f x v) 22 (omega arith)
        ∙ (ap (λ r. spread_at f r 22) (sym (ranked v))
        ∙ count_of-beyond f n (recorded f x v)
        (ends unfinished v (recorded f x v) (played f x at meets unfinished v).legal)
        (after_is f x at meets unfinished v) (after_meets f x at meets unfinished v) 22
        (omega arith) (omega arith))

    moved : (j : ℕ) → j < 22 → 36 * get_or (shares_at f (rank x)) (suc j) 0 ≡ weighted_share
        (parts_of f x) j
    moved j lt =
        ap (λ n. 36 * n) (share_at f (rank x) (suc j) (omega arith))
        ∙ ((local.shares (suc j) (omega arith)).1 unfinished
        ∙ sym (sum_by-map (λ part. part.0 * get_or part.1 j 0) of_roll all_rolls
        ∙ sum_by-equal (λ v. weight v * get_or (shares_at f (play f x v)) j 0)
        (λ v. weight v * spread_at f (play f x v) j)
        all_rolls (λ v. ap (λ n. weight v * n) (share_at f (play f x v) j (omega arith)))))

-- the recorded shares add up to the whole
pub shares_whole : (f : List ℕ) (n : ℕ) (x : Board) → n ≤ 22 → EndsIn n x → IsPosition x →
    Meets f x
    → sum (shares_of (record_at f (rank x))) ≡ whole
unfolding shares_at
shares_whole f zero x small ends at meets = total-at_end f x ends (meets x at (omega arith))
shares_whole f (suc n) x small ends at meets = ⊎_elim
    (λ end. total-at_end f x end (meets x at (omega arith)))
    (λ unfinished. total-before f n x small unfinished ends at meets (λ v.
    shares_whole f n (recorded f x v) (omega arith)
    (ends unfinished v (recorded f x v) (played f x at meets unfinished v).legal)
    (after_is f x at meets unfinished v) (after_meets f x at meets unfinished v)))
    (finished_or_not x)
