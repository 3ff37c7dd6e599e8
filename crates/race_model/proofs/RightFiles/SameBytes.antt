-- Two files of one kind that hold the same numbers, and whose bytes are under 256, are byte for
-- byte one: databases of one version, and board files whose numbers are written in the one way.
use Rattle.std.proofs.Common.{◌≡◌, ℕ, zero, suc, ◌+◌, ◌-◌, ◌*◌, ◌^◌, ◌<◌, ◌≤◌, List, refl, ap}
use Rattle.std.proofs.Common.{sym, subst, ◌∙◌, arith, add-one, le_trans}
use Rattle.race_model.specs.Prelude.{Board, IsPosition, pips, roll_at, rank, at_rank, most_rolls, Book, Version, full}
use Rattle.race_model.specs.Prelude.{compact, first_share, share_count, record_length, IsBytes, bytes_at, version_of}
use Rattle.race_model.specs.Prelude.{bound_of, IsFileBy, IsFile, layout_of, record_place, told_record, record_at}
use Rattle.race_model.specs.Prelude.{mean_of, play_of, share_of, mean_at, play_at, spread_at, book_of, Parts}
use Rattle.race_model.specs.Prelude.{value_of_parts, count_place, board_layout, board_length, board_place, board_record}
use Rattle.race_model.specs.Prelude.{mean_parts, board_play_of, count_parts, count_at, board_book, IsRightBoard}
use Rattle.race_model.specs.Prelude.{HasSameNumbersIn, HasSameNumbers}
use Rattle.race_model.proofs.Dice.Throws.{roll_of_index}
use Rattle.race_model.proofs.Numbers.LowestTerms.{cancel}
use Rattle.race_model.proofs.Ranks.RankOrder.{at_rank-rank, pips-range}
use Rattle.race_model.proofs.Replies.OneReply.{power_positive}
use Rattle.race_model.proofs.Strategies.Horizons.{most_rolls-most, most_rolls-board}
use Rattle.race_model.proofs.RightFiles.Right.{bound_of-most}
use Rattle.race_model.proofs.RightFiles.CountParts.{same_parts, by_throws, told_some}
use Rattle.race_model.proofs.RightFiles.CountParts.{count-short, count-middle, count-long}
use Rattle.race_model.proofs.RightFiles.Fields.{AreBytes, AreSameTo, shorts, word, wide, same_records}
use Rattle.race_model.proofs.RightFiles.ToldRecords.{told_mean, told_play, told_stored}

-- the plays of a position are the same by their indices
same_plays : (f g : Book) → HasSameNumbersIn f g → (x : Board) → IsPosition x →
    pips x ≤ f.bound → (i : ℕ) → i < 21 → f.plays (rank x) i ≡ g.plays (rank x) i
same_plays f g same x at low i inside =
    subst (λ j. f.plays (rank x) j ≡ g.plays (rank x) j) (roll_of_index i inside).1
    (same.plays x (roll_at i) at low)

-- the pip count of a position, by its rank
abbrev ranked_pips : Board → ℕ
ranked_pips x = pips (at_rank (rank x))

-- files whose bytes are under 256, of one version, that hold the same numbers
module _ (f g : List ℕ) (small_f : IsBytes f) (small_g : IsBytes g) (file_f : IsFile f)
    (file_g : IsFile g) (versions : version_of f ≡ version_of g) (same : HasSameNumbers f g) where
  abbrev version : Version
  version = version_of f

  -- what they store for a position
  module _ (x : Board) (at : IsPosition x) (low : pips x ≤ bound_of f) where
    abbrev stored : List ℕ → List ℕ
    stored h = bytes_at h (record_place version (rank x)) (record_length version (ranked_pips x))

    module _ (two : AreBytes (record_length version (ranked_pips x)) (stored f) (stored g)) where
      few : most_rolls (ranked_pips x) ≤ 22
      few =
          subst (λ y. most_rolls (pips y) ≤ 22) (sym (at_rank-rank x at))
          (most_rolls-most (pips x) (le_trans low (bound_of-most f file_f)))

      full_record : record_at g (rank x) ≡ told_record version (ranked_pips x) (stored g)
      full_record =
          ap (λ v. told_record v (ranked_pips x) (bytes_at g (record_place v (rank x))
          (record_length v (ranked_pips x)))) (sym versions)

      -- says the same mean
      same_mean : mean_of (stored f) ≡ mean_of (stored g)
      unfolding mean_at
      same_mean =
          sym (told_mean version (ranked_pips x) (stored f) few two.long_f)
          ∙ same.means x at low
          ∙ ap mean_of full_record
          ∙ told_mean version (ranked_pips x) (stored g) few two.long_g

      -- it says the same plays
      same_play : (i : ℕ) → i < 21 → play_of (stored f) i ≡ play_of (stored g) i
      unfolding play_at
      same_play i inside =
          sym (told_play version (ranked_pips x) (stored f) i few two.long_f inside)
          ∙ same_plays (book_of f) (book_of g) same x at low i inside
          ∙ ap (λ bs. play_of bs i) full_record
          ∙ told_play version (ranked_pips x) (stored g) i few two.long_g inside

      -- it says the same shares
      same_share : (j : ℕ) → j < share_count version (ranked_pips x) →
          share_of (stored f) j ≡ share_of (stored g) j
      unfolding spread_at
      same_share j inside =
          sym (told_stored version (ranked_pips x) (stored f) j few two.long_f inside)
          ∙ same.shares x (first_share version + j) at low
          (in_time version (ranked_pips x) few inside)
          ∙ ap (λ bs. share_of bs (first_share version + j)) full_record
          ∙ told_stored version (ranked_pips x) (stored g) j few two.long_g inside
        where
          in_time : (v : Version) (p : ℕ) → most_rolls p ≤ 22 → j < share_count v p →
              first_share v + j ≤ 22
          in_time full p h inside = omega (arith, inside)
          in_time compact p h inside = omega (arith, h, inside)

      -- so it is the same
      shares_to : (j : ℕ) → j ≤ share_count version (ranked_pips x) →
          AreSameTo (stored f) (stored g) (58 + 16 * j)
      unfolding mean_of play_of share_of
      shares_to zero le =
          shorts two 16 21 refl (omega arith) same_play
          (wide two 0 refl (omega arith) same_mean refl)
      shares_to (suc j) le =
          wide two (58 + 16 * j) (omega arith) (omega (arith, le))
          (same_share j (omega (arith, le))) (shares_to j (omega (arith, le)))

  -- so they are one
  pub one_file : f ≡ g
  unfolding record_place
  one_file =
      same_records (layout_of version) (record_length version) refl f g small_f small_g file_f
      (subst (λ v. IsFileBy (layout_of v) g) (sym versions) file_g) same.bound
      (λ x at low two. shares_to x at low two (share_count version (ranked_pips x)) (omega arith))

-- two parts of one number
one_way : (a b : Parts) → a.lower < 36 ^ 11 → b.lower < 36 ^ 11 →
    value_of_parts a ≡ value_of_parts b → a ≡ b
one_way a b small_a small_b e =
    let upper : a.upper ≡ b.upper = omega arith in
    let lower : a.lower ≡ b.lower = omega arith in
    same_parts upper lower

-- the upper parts of two that are alike
uppers : {a b : Parts} → a ≡ b → a.upper ≡ b.upper
uppers = ap (λ (parts : Parts). parts.upper)

-- the lower parts of two numbers that are alike
lowers : {a b : Parts} → a ≡ b → a.lower ≡ b.lower
lowers = ap (λ (parts : Parts). parts.lower)

-- right board files whose bytes are under 256 that hold the same numbers
module _ (f g : List ℕ) (small_f : IsBytes f) (small_g : IsBytes g) (right_f : IsRightBoard f)
    (right_g : IsRightBoard g) (same : HasSameNumbersIn (board_book f) (board_book g)) where
  -- the records of a position
  module _ (x : Board) (at : IsPosition x) (low : pips x ≤ bound_of f)
      (two : AreBytes (board_length (ranked_pips x)) (board_record f (rank x))
      (board_record g (rank x))) where
    abbrev ours : List ℕ
    ours = board_record f (rank x)

    abbrev theirs : List ℕ
    theirs = board_record g (rank x)

    low_g : pips x ≤ bound_of g
    low_g = subst (λ b. pips x ≤ b) same.bound low

    means : mean_parts ours ≡ mean_parts theirs
    means =
        one_way (mean_parts ours) (mean_parts theirs) (right_f.written x at low).mean
        (right_g.written x at low_g).mean (same.means x at low)

    -- of some throws, which are to the most rolls
    module _ (k : ℕ) (some : 0 < k) (within : k ≤ most_rolls (ranked_pips x)) where
      here : k ≤ most_rolls (pips x)
      here = subst (λ y. k ≤ most_rolls (pips y)) (at_rank-rank x at) within

      in_33 : k ≤ 33
      in_33 = omega (arith, here, most_rolls-board (pips x) (pips-range x at))

      -- they have the same count
      values : value_of_parts (count_parts ours k) ≡ value_of_parts (count_parts theirs k)
      unfolding count_at
      values =
          sym (told_some (ranked_pips x) k ours some within)
          ∙ cancel (36 ^ (33 - k)) (count_at f (rank x) k) (count_at g (rank x) k)
          (power_positive (33 - k)) (same.shares x k at low in_33)
          ∙ told_some (ranked_pips x) k theirs some within

      -- from 12 throws on the counts have the same parts
      counts : 11 < k → count_parts ours k ≡ count_parts theirs k
      counts many =
          one_way (count_parts ours k) (count_parts theirs k)
          ((right_f.written x at low).counts k in_33 many here)
          ((right_g.written x at low_g).counts k in_33 many here) values

      -- so they are the same beyond it, where they are to it
      next : AreSameTo ours theirs (count_place k) → AreSameTo ours theirs (count_place (k + 1))
      next before = by_throws k
          (λ few.
          let one = ap value_of_parts (count-short ours k few) in
          let other = ap value_of_parts (count-short theirs k few) in
          word two (count_place k) (omega arith) (omega arith)
          (omega (arith, sym one ∙ values ∙ other)) before)
          (λ many few.
          let parts =
          sym (count-middle ours k many few) ∙ counts many ∙ count-middle theirs k many few in
          word two (count_place k + 8) (omega arith) (omega arith) (lowers parts)
          (word two (count_place k) refl (omega arith) (uppers parts) before))
          (λ many.
          let parts =
          sym (count-long ours k many) ∙ counts (omega arith) ∙ count-long theirs k many in
          word two (count_place k + 16) (omega arith) (omega arith) (lowers parts)
          (wide two (count_place k) refl (omega arith) (uppers parts) before))

    -- so they are the same
    counts_to : (j : ℕ) → j ≤ most_rolls (ranked_pips x) →
        AreSameTo ours theirs (count_place (j + 1))
    unfolding mean_parts board_play_of
    counts_to zero le =
        shorts two 24 21 refl (omega arith)
        (same_plays (board_book f) (board_book g) same x at low)
        (word two 16 refl (omega arith) (lowers means)
        (wide two 0 refl (omega arith) (uppers means) refl))
    counts_to (suc j) le =
        next (suc j) (omega arith) le
        (subst (λ k. AreSameTo ours theirs (count_place k)) (add-one j)
        (counts_to j (omega (arith, le))))

  -- so they are one
  pub one_board_file : f ≡ g
  unfolding board_place
  one_board_file =
      same_records board_layout board_length refl f g small_f small_g right_f.file right_g.file
      same.bound
      (λ x at low two. counts_to x at low two (most_rolls (ranked_pips x)) (omega arith))
