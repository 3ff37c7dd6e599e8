-- A whole file is put where a path leads.
use Rattle.std.proofs.Common.{◌≡◌, ℕ, inl, inr, ⊎_elim, List, [], ◌∷◌, ◌++◌, Option, Some, None, Result, Ok, Err}
use Rattle.std.proofs.Common.{IsSome, refl, sym, subst, ap, ◌∙◌, append_assoc, OnOk, IfErr}
use Rattle.std.specs.Io.KnownBytes.{Appends}
use Rattle.std.specs.String.{string_bytes}
use Rattle.whole_file.specs.Disks.{Moment, IsSameAt, Goes}
use Rattle.whole_file.specs.Drafts.{IsOldOrWhole, IsBegun, IsGone, IsPut, IsTidy, IsTidyBesides, Finishes}
use Rattle.whole_file.specs.Paths.{Paths, LeadsTo, IsSameBehind, place_of}
use Rattle.whole_file.specs.Puts.{IsPutAt, Puts}
use Rattle.whole_file.specs.declared.draft.Names.{Names}
use Rattle.whole_file.proofs.Ends.{less_left}
use Rattle.whole_file.proofs.Links.{one_place}
use Rattle.whole_file.proofs.Stays.{all_of_both, all_so, runs_on, same_again, told_on}

-- bytes that were handed to a file without any are all of it
pub handed_all : (old new : Option (List ℕ)) (bytes : List ℕ) → Appends old new bytes
    → old ≡ Some [] → new ≡ Some bytes
handed_all None new bytes appended empty = cc
handed_all (Some xs) None bytes appended empty = absurd appended
handed_all (Some xs) (Some ys) bytes appended empty =
    let none : xs ≡ [] = cc in
    ap (λ zs. Some zs) (subst (λ z. ys ≡ z ++ bytes) none appended)

-- old or whole twice
pub old_twice : (place : ℕ × List ℕ) (Whole : List ℕ → Type 0) (old mid new : Moment)
    → IsOldOrWhole place Whole old mid → IsOldOrWhole place Whole mid new
    → IsOldOrWhole place Whole old new
old_twice place Whole old mid new first second left may =
    ⊎_elim (λ before. first left before) (λ whole. inr whole) (second left may)

-- what stays is old or whole
pub same_old : (place : ℕ × List ℕ) (Whole : List ℕ → Type 0) (old new : Moment)
    → IsSameAt place old new → IsOldOrWhole place Whole old new
same_old place Whole old new same left may =
    inl (less_left place old new same.crash same.sure left may)

-- the last steps put it there
put_beside : {T : Type 0} (paths : Paths) (path to : List ℕ) (names : Names)
    (begun written : Option (List ℕ)) (old mid new : Option (List Moment))
    (Whole : List ℕ → Type 0) (bytes : List ℕ) (done : T) (first : Moment) (past : List Moment)
    → IsBegun paths path (Some names) begun old mid → Whole bytes → Appends begun written bytes
    → IsPut {T = T} paths (Some names) written mid new (Ok done) → old ≡ Some (first ∷ past)
    → LeadsTo paths path to → IsPutAt paths to Whole first past new
put_beside {T} paths path to names begun written old mid new Whole bytes done first past is_begun
    whole appended is_put is leads =
    let goes = is_begun.0 first past is in
    let ready = is_begun.1 first past is in
    let there : string_bytes names.place ≡ to =
    one_place paths path (string_bytes names.place) to (is_begun.2 first past is) leads in
    let last = told_on first past goes.since mid goes.told_is in
    let finishes = subst (λ p. Finishes {T = T} paths p bytes last.0 last.1 new (Ok done)) there
    (is_put bytes last.0 last.1 (handed_all begun written bytes appended ready.1) last.2
    (ready.0 last.0 last.1 last.2)) in
    let place = place_of paths to in
    record {
      goes = runs_on (IsOldOrWhole place Whole)
          (old_twice place Whole) first past goes.since mid new
          goes.told_is
          (all_so (IsSameBehind paths path first) (IsOldOrWhole place Whole first)
          (λ m same. same_old place Whole first m (same to leads)) goes.since goes.each)
          (λ now before told.
          let same : now ≡ last.0 = let e = last.2 in cc in
          let rest : before ≡ last.1 = let e = last.2 in cc in
          subst (λ n. Goes (IsOldOrWhole place Whole n) (n ∷ before) new) (sym same)
          (subst (λ b. Goes (IsOldOrWhole place Whole last.0) (last.0 ∷ b) new) (sym rest)
          (record {
            since = finishes.goes.since;
            told_is = finishes.goes.told_is;
            each = all_so (IsOldOrWhole place (λ b. b ≡ bytes) last.0)
                (IsOldOrWhole place Whole last.0)
                (λ m either left may. ⊎_elim (λ before. inl before)
                (λ so. inr (so.0, so.1, subst Whole (sym so.2) whole)) (either left may))
                finishes.goes.since finishes.goes.each;
          })));
      ends = λ now before told.
          let ends = finishes.ends now before told in
          record { bytes = bytes; whole = whole; stands = ends.0; stays = ends.1 };
    }

-- what was begun and handed as a whole is put where the path leads
pub puts : {S T E : Type 0} (paths : Paths) (path : List ℕ) (names : Option Names)
    (begun handed : Option (List ℕ)) (old mid new : Option (List Moment))
    (Whole : List ℕ → Type 0) (written : Result S E) (result : Result T E)
    → IsBegun paths path names begun old mid
    → OnOk written ((bytes : List ℕ) × Whole bytes × Appends begun handed bytes)
    → IfErr written (λ fault. result ≡ Err fault)
    → OnOk result (IsPut {T = Unit {0}} paths names handed mid new (Ok tt))
    → OnOk result (Puts paths path Whole old new)
puts paths path names begun handed old mid new Whole written
    (Err fault) is_begun whole failed is_put
    = tt
puts paths path names begun handed old mid new Whole (Err fault) (Ok done) is_begun whole failed
    is_put = absurd (cc)
puts paths path None begun handed old mid new Whole (Ok x) (Ok done) is_begun whole failed is_put =
    λ first past is to leads.
    let begun = is_begun first past is in
    inl (is_put begun.0, begun.1)
puts paths path (Some names) begun handed old mid new Whole (Ok x) (Ok done) is_begun whole failed
    is_put = λ first past is to leads.
    inr (put_beside {T = Unit {0}} paths path to names begun handed old mid new Whole whole.0 tt
    first
    past is_begun whole.1 whole.2 is_put is leads)

-- each place stays as it was after one more moment
goes_later : (p : ℕ × List ℕ) (first now : Moment) (past : List Moment)
    (new : Option (List Moment)) → IsSameAt p first now
    → Goes (IsSameAt p now) (now ∷ first ∷ past) new → Goes (IsSameAt p first) (first ∷ past) new
goes_later p first now past new same goes = record {
  since = goes.since ++ (now ∷ []);
  told_is = goes.told_is
      ∙ ap (λ l. Some l) (sym (append_assoc goes.since (now ∷ []) (first ∷ past)));
  each = all_of_both (IsSameAt p first) goes.since (now ∷ [])
      (all_so (IsSameAt p now) (IsSameAt p first) (λ m. same_again p first now m same) goes.since
      goes.each) (same, tt);
}

-- what was handed as a whole to a file without bytes is known
handed_known : {S E : Type 0} (written : Result S E) (begun handed : Option (List ℕ))
    (Whole : List ℕ → Type 0)
    → OnOk written ((bytes : List ℕ) × Whole bytes × Appends begun handed bytes)
    → begun ≡ Some [] → OnOk written (IsSome handed)
handed_known (Ok x) begun handed Whole whole empty =
    let known = handed_all begun handed whole.0 whole.2 empty in rw known refl
handed_known (Err e) begun handed Whole whole empty = tt

-- what was begun and ended leaves all places but that to which the path leads as they were
pub tidy_ended : {S E : Type 0} (paths : Paths) (path : List ℕ) (names : Option Names)
    (begun handed : Option (List ℕ)) (old mid new : Option (List Moment))
    (Whole : List ℕ → Type 0) (written : Result S E) (Kept : Type 0)
    → IsBegun paths path names begun old mid
    → OnOk written ((bytes : List ℕ) × Whole bytes × Appends begun handed bytes)
    → IsGone paths names mid new (OnOk written (IsSome handed)) Kept
    → IsTidyBesides paths path old new Kept
tidy_ended paths path None begun handed old mid new Whole written Kept is_begun whole gone first
    past is = let emptied = is_begun first past is in inl (gone emptied.0, emptied.1)
tidy_ended paths path (Some names) begun handed old mid new Whole written Kept is_begun whole gone
    first past is =
    let ready = is_begun.1 first past is in
    let alone = ready.2 in
    let ended = gone alone.now (first ∷ past) alone.told_is
    (ready.0 alone.now (first ∷ past) alone.told_is)
    (handed_known written begun handed Whole whole ready.1) in
    inr (inr (record {
      draft = place_of paths (string_bytes names.new);
      free = alone.free;
      others = λ p other elsewhere. goes_later p first alone.now past new (alone.others p other)
          (ended.1 alone.own p other
          (elsewhere (string_bytes names.place) (is_begun.2 first past is)));
      gone = ended.0;
    }))

-- a file that was not begun leaves all of them so
pub tidy_besides : (paths : Paths) (path : List ℕ) (old new : Option (List Moment))
    (Kept : Type 0) → IsTidy old new Kept → IsTidyBesides paths path old new Kept
tidy_besides paths path old new Kept tidy first past is =
    ⊎_elim (λ same. inr (inl same))
    (λ it. inr (inr (record {
      draft = it.draft;
      free = it.free;
      others = λ p other _. it.others p other tt;
      gone = it.gone;
    }))) (tidy first past is)
