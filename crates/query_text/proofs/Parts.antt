-- Texts of parts, one after another.
use Rattle.std.proofs.Common.{◌≡◌, ℕ, zero, suc, ◌+◌, ◌*◌, ◌<◌, ◌≤◌, List, [], ◌∷◌, ◌++◌, length, codes, refl, ap, sym}
use Rattle.std.proofs.Common.{subst, ◌∙◌, arith, append_assoc, below_more, length-append, slice_index_or}
use Rattle.std.specs.List.{concat}
use Rattle.std.proofs.lemmas.List.{append-nil, get_or_append_left, get_or_push}
use Rattle.std.proofs.lemmas.List.Folds.{concat-append}
use Rattle.race_model.specs.Prelude.{IsFraction, whole, IsSharePartOver, IsDistReplyOver, IsDistReply}
use Rattle.race_model.proofs.Replies.Multiples.{carried_up}
use Rattle.fixed_fraction.specs.Board.{board_whole, part}
use Rattle.fixed_fraction.specs.Ratios.{Ratio}
use Rattle.query_text.specs.Texts.{ratio_text, share_text}

-- n parts of which this is true, after what stands before them
pub record AreParts (P : ℕ → List ℕ → Type 0) (n : ℕ) (before text : List ℕ) : Type 0 where
  pub parts : List (List ℕ)
  pub count : length parts ≡ n
  pub each : (k : ℕ) → k < n → P k (slice_index_or parts k [])
  pub written : text ≡ before ++ concat parts

-- none
pub no_parts : (P : ℕ → List ℕ → Type 0) (before : List ℕ) → AreParts P 0 before before
no_parts P before = record {
  parts = [];
  count = refl;
  each = λ k low. absurd (omega arith);
  written = sym (append-nil before);
}

-- one more
pub one_more_part : (P : ℕ → List ℕ → Type 0) (n : ℕ) (before text more part : List ℕ) →
    AreParts P n before text → P n part → more ≡ text ++ part → AreParts P (n + 1) before more
one_more_part P n before text more part are is e = record {
  parts = are.parts ++ part ∷ [];
  count = omega (arith, are.count, length-append are.parts (part ∷ []));
  each = below_more (λ k. P k (slice_index_or (are.parts ++ part ∷ []) k [])) n
      (λ k low. subst (P k)
      (sym (get_or_append_left are.parts (part ∷ []) [] k (omega (arith, are.count))))
      (are.each k low))
      (subst (P n) (sym (get_or_push are.parts part [] n are.count)) is);
  written = e ∙ ap (λ t. t ++ part) are.written ∙ append_assoc before (concat are.parts) part
      ∙ ap (λ t. before ++ t) (sym (concat-append are.parts (part ∷ [])
      ∙ ap (λ t. concat are.parts ++ t) (append-nil part)));
}

-- the part of a share
pub some_part : (whole share k : ℕ) (told : Ratio) → 0 < share →
    IsFraction share whole told.numerator told.denominator →
    IsSharePartOver whole share k (share_text k told)
some_part whole share k told more is = record {
  none = λ e. absurd (omega (arith, e));
  some = λ _. (
    ratio_text told,
    record { numerator = _; denominator = _; lowest = is; written = refl },
    refl,
  );
}

-- no share has no part
pub none_part : (whole share k : ℕ) → share ≡ 0 → IsSharePartOver whole share k []
none_part whole share k none = record {
  none = λ _. refl;
  some = λ more. absurd (omega (arith, none, more));
}

-- the parts of a distribution, with one more that is none
pub one_more_none : (whole : ℕ) (share : ℕ → ℕ) (n : ℕ) (before text : List ℕ) → share n ≡ 0 →
    AreParts (λ k. IsSharePartOver whole (share k) k) n before text →
    AreParts (λ k. IsSharePartOver whole (share k) k) (n + 1) before text
one_more_none whole share n before text none are =
    one_more_part (λ k. IsSharePartOver whole (share k) k) n before text text [] are
    (none_part whole (share n) n none) (sym (append-nil text))

-- a space, a text, a colon and another one, added one after the other
pub pair_added : (before one other : List ℕ) →
    (((before ++ codes " ") ++ one) ++ codes ":") ++ other
    ≡ before ++ (codes " " ++ one ++ codes ":" ++ other)
pair_added before one other = simp append_assoc

-- the parts of all shares are a distribution
pub dist_of : (whole most n : ℕ) (share : ℕ → ℕ) (text : List ℕ) → n ≡ suc most →
    AreParts (λ k. IsSharePartOver whole (share k) k) n (codes "dist") text →
    IsDistReplyOver whole most share text
dist_of whole most n share text all are = record {
  parts = are.parts;
  count = are.count ∙ all;
  each = λ k low. are.each k (omega (arith, all));
  written = are.written;
}

-- equal shares have the same parts
pub same_dist : (whole most : ℕ) (share other : ℕ → ℕ) (text : List ℕ) →
    ((k : ℕ) → k ≤ most → share k ≡ other k) → IsDistReplyOver whole most share text →
    IsDistReplyOver whole most other text
same_dist whole most share other text same is = record {
  parts = is.parts;
  count = is.count;
  each = λ k low. subst (λ n. IsSharePartOver whole n k (slice_index_or is.parts k []))
      (same k (omega arith)) (is.each k low);
  written = is.written;
}

-- shares over 36 ^ 22 that are those over 36 ^ 33, where there are none beyond, have the same parts
pub dist_up : (share other : ℕ → ℕ) (text : List ℕ) →
    ((k : ℕ) → k ≤ 22 → other k ≡ part * share k) →
    ((k : ℕ) → 22 < k → k ≤ 33 → other k ≡ 0) →
    IsDistReply share text → IsDistReplyOver board_whole 33 other text
unfolding whole
dist_up share other text same none is =
    dist_of board_whole 33 34 other text refl (to 11 (omega arith))
  where
    up : (k : ℕ) (text : List ℕ) → other k ≡ part * share k →
        IsSharePartOver whole (share k) k text → IsSharePartOver board_whole (other k) k text
    up k text e is = record {
      none = λ none. is.none (omega (arith, e, none));
      some = λ some.
          let told = is.some (omega (arith, e, some)) in
          let carried = carried_up part whole (omega arith) in
          (told.0, carried.text (share k) (other k) told.0 e told.1, told.2);
    }

    to : (n : ℕ) → n ≤ 11 → AreParts (λ k. IsSharePartOver board_whole (other k) k) (n + 23)
        (codes "dist") text
    to zero few = record {
      parts = is.parts;
      count = is.count;
      each = λ k low.
          up k (slice_index_or is.parts k []) (same k (omega arith)) (is.each k (omega arith));
      written = is.written;
    }
    to (suc n) few =
        let e : n + 23 + 1 ≡ suc n + 23 = omega arith in
        subst (λ m. AreParts (λ k. IsSharePartOver board_whole (other k) k) m (codes "dist") text) e
        (one_more_none board_whole other (n + 23) (codes "dist") text
        (none (n + 23) (omega arith) (omega arith)) (to n (omega arith)))
