use Rattle.std.proofs.Common.{◌≡◌, ℕ, suc, ◌+◌, ◌-◌, ◌≤◌, ◌^◌, min, map, slice_index, sum_by, ap, subst, ◌∙◌, arith}
use Rattle.std.specs.List.{range_with_len}
use Rattle.std.proofs.Math.Nat.{one-le-pow}
use Rattle.std.proofs.lemmas.Bool.{false≢true}
use Rattle.race_model.specs.Prelude.{Board, IsPosition, pips, count_over, Book, share_in, follow_in, whole_in}
use Rattle.race_model.specs.Prelude.{IsRightBook, IsLong}
use Rattle.race_model.proofs.Numbers.Sums.{sum_by-equal_within}
use Rattle.race_model.proofs.Books.Losses.{shares_add_up}
use Rattle.fixed_fraction.specs.Board.{board_whole}
use Rattle.fixed_fraction.proofs.TwoParts.{power_within}
use Rattle.epc_query.specs.Kinds.{book_by, rolls_in}
use Rattle.bearoff_c.specs.declared.calls.distributions.Chance.{Chance}
use Rattle.bearoff_c.specs.FileBooks.{chance_in}
use Rattle.bearoff_c.specs.Told.{SaysChance}
use Rattle.bearoff_c.specs.Longs.{long_number_of}
use Rattle.bearoff_c.proofs.AddedShares.{sum_rises}
use Rattle.bearoff_c.proofs.calls.distributions.chance_within.Goals as goal
use Rattle.bearoff_c.proofs.calls.distributions.chance_within.Goals.{After-shares_to}

-- numbers that are the shares of a position by a right book
module _ (b : Book) (right : IsRightBook b) (long : IsLong b) (x : Board) (at : IsPosition x)
    (low : pips x ≤ b.bound) (shares : ℕ → ℕ)
    (same : (k : ℕ) → k ≤ rolls_in b → shares k ≡ share_in b x k) where
  -- they add up to the whole
  all_of : sum_by shares (range_with_len 0 (rolls_in b + 1)) ≡ whole_in b
  all_of =
      let end : suc (suc b.further) ≡ rolls_in b + 1 = omega arith in
      sum_by-equal_within shares (share_in b x) 0 (rolls_in b + 1)
      (λ k under. same k (omega (arith, under)))
      ∙ subst (λ m. sum_by (share_in b x) (range_with_len 0 m) ≡ whole_in b) end
      (shares_add_up b right long x at low)

  -- some of the shares add up to no more than the whole
  some_of : (n : ℕ) → n ≤ rolls_in b → sum_by shares (range_with_len 0 (n + 1)) ≤ whole_in b
  some_of n few =
      let end : n + 1 + (rolls_in b - n) ≡ rolls_in b + 1 = omega (arith, few) in
      subst (λ s. sum_by shares (range_with_len 0 (n + 1)) ≤ s) all_of
      (subst (λ m. sum_by shares (range_with_len 0 (n + 1)) ≤ sum_by shares (range_with_len 0 m))
      end (sum_rises shares (n + 1) (rolls_in b - n)))

  -- the sum of the first ones is the chance to be off by then
  chance_of : (n : ℕ) →
      sum_by shares (range_with_len 0 (min n (rolls_in b) + 1)) ≡ chance_in b x n
  chance_of n =
      let m = rolls_in b in
      let few : min n m ≤ m = omega arith in
      sum_by-equal_within shares (count_over m (follow_in b m x)) 0 (min n m + 1)
      (λ k under.
      let short : k ≤ m = omega (arith, under, few) in
      same k short ∙ (right x at low).spread_is k short)

-- the whole of a file is not 0, and at most that of a board file
whole_least : (b : Book) → 1 ≤ whole_in b
whole_least b = one-le-pow (rolls_in b) 36 (omega arith)

-- the whole of a file whose games take at most 33 rolls is at most that of a board file
whole_most : (b : Book) → rolls_in b ≤ 33 → whole_in b ≤ board_whole
whole_most b few = power_within (rolls_in b) 33 few

-- the numbers that were read
abbrev read : After-shares_to → ℕ → ℕ
read c = slice_index (map long_number_of c.longs-shares.result)

-- the numbers that were read are the shares of the position
shares_are : (c : After-shares_to) (k : ℕ) → k ≤ rolls_in (book_by c.in_ok-opened.opened) →
    read c k ≡ share_in (book_by c.in_ok-opened.opened) c.args.position.now.points k
shares_are c k few =
    ap (λ ss. slice_index ss k) c.longs-shares.ensures ∙ (c.in-Some.ensures {u = tt}).recorded k few
    ∙ ap (λ r. (book_by c.in_ok-opened.opened).shares r k) c.rank.ensures.value
    ∙ ap (λ y. share_in (book_by c.in_ok-opened.opened) y k) (c.in_ok-found.ensures {u = tt}).value

-- their sum up to so many rolls
sum_is : (c : After-shares_to) (n : ℕ) → n ≤ rolls_in (book_by c.in_ok-opened.opened) →
    sum_by (read c) (range_with_len 0 (n + 1)) ≤ whole_in (book_by c.in_ok-opened.opened)
sum_is c =
    let told = c.in_ok-found.ensures {u = tt} in
    some_of (book_by c.in_ok-opened.opened) c.bound-bound.ensures.right c.bound-bound.ensures.long
    c.args.position.now.points told.position told.within (read c) (shares_are c)

-- how many rolls are asked of
rolls_are : (c : After-shares_to) →
    c.min.result ≡ min c.args.rolls (rolls_in (book_by c.in_ok-opened.opened))
rolls_are c = omega (arith, c.min.ensures, c.most_rolls-most.ensures.value)

pub returns-in_default-shares_to-clause-refusal : goal.returns-in_default-shares_to-clause-refusal
returns-in_default-shares_to-clause-refusal c =
    let at = (goal.at.returns-in_default-shares_to-clause-refusal c).After-shares_to in
    let b = book_by c.in_ok-opened.opened in
    let most = c.most_rolls-most.result in
    let over : 2 ^ 192 ≤ sum_by (read at) (range_with_len 0 (most + 1)) =
    (c.in_default-shares_to.ensures {u = tt}).none in
    let within = sum_is at most (omega (arith, c.most_rolls-most.ensures.value)) in
    let short = whole_most b
    (omega (arith, c.most_rolls-most.ensures.value, c.most_rolls-most.ensures.range)) in
    absurd (omega (arith, over, within, short))

pub returns-in-Some-wide_thousandths-clause-chance :
    goal.returns-in-Some-wide_thousandths-clause-chance
returns-in-Some-wide_thousandths-clause-chance c =
    let at = (goal.at.returns-in-Some-wide_thousandths-clause-chance c).After-shares_to in
    let told = c.in_ok-found.ensures {u = tt} in
    let near = (c.in-Some-wide_thousandths.ensures {u = tt}).value in
    let x = c.args.position.now.points in
    let answer : Chance = record {
      numerator = c.in-Some-shares_to.numerator;
      thousandths = c.in-Some-wide_thousandths.thousandths;
    } in
    subst (λ b. SaysChance b x c.args.rolls answer) (c.in_ok-opened.ensures {u = tt}).book
    (record {
      chance =
          (c.in-Some-shares_to.ensures {u = tt}).value
          ∙ ap (λ n. sum_by (read at) (range_with_len 0 (n + 1))) (rolls_are at)
          ∙ chance_of (book_by c.in_ok-opened.opened) c.bound-bound.ensures.right
          c.bound-bound.ensures.long x told.position told.within (read at) (shares_are at)
          c.args.rolls;
      rounded = rw (c.number.ensures, c.whole.ensures) at near;
    })

pub returns-in-None-clause-refusal : goal.returns-in-None-clause-refusal
returns-in-None-clause-refusal c =
    let at = (goal.at.returns-in-None-clause-refusal c).After-shares_to in
    let b = book_by c.in_ok-opened.opened in
    let few : c.min.result ≤ rolls_in b = omega (arith, rolls_are at) in
    let total = (c.in-Some-shares_to.ensures {u = tt}).value in
    let within = sum_is at c.min.result few in
    let short = whole_most b
    (omega (arith, c.most_rolls-most.ensures.value, c.most_rolls-most.ensures.range)) in
    absurd (false≢true ((c.in-None.ensures {u = tt}).some.1 (
      omega (arith, c.whole.ensures, whole_least b),
      omega (arith, c.whole.ensures, short),
      omega (arith, c.whole.ensures, c.number.ensures, total, within),
    )))
