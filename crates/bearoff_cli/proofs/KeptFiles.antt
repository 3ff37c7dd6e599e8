-- Where a path leads stands the old file or the whole new one, however a command ends.
use Rattle.std.proofs.Common.{◌≡◌, ℕ, inl, inr, ⊎_elim, List, [], ◌∷◌, ◌++◌, Option, Some, None, Result, Ok, Err, refl}
use Rattle.std.proofs.Common.{sym, subst, ap, ◌∙◌, OnOk, OnErr}
use Rattle.std.specs.Io.KnownBytes.{Appends}
use Rattle.std.specs.String.{string_bytes}
use Rattle.command_line.specs.Asked.{Asked, default, build, query, show, upgrade}
use Rattle.whole_file.specs.Disks.{Moment, IsSameAt, AllOf, Goes}
use Rattle.whole_file.specs.Drafts.{IsOldOrWhole, IsBegun, IsDropped, IsPut}
use Rattle.whole_file.specs.Paths.{Paths, IsSameBehind, LeadsTo, PathStays, place_of}
use Rattle.whole_file.specs.declared.draft.Names.{Names}
use Rattle.whole_file.specs.declared.fault.DraftFault.{DraftFault}
use Rattle.whole_file.proofs.Links.{one_place}
use Rattle.whole_file.proofs.Puts.{handed_all, old_twice, same_old}
use Rattle.whole_file.proofs.Stays.{all_so, path_stays_same, runs_on, told_on}
use Rattle.bearoff_cli.specs.Kinds.{IsBuiltOf}
use Rattle.bearoff_cli.specs.PutFiles.{IsEnded, IsKeptAt, KeepsAll, KeepsBehind, LeavesFor, LeavesInput}

-- at the last moment there stands what stood at the first one
stood : (place : ℕ × List ℕ) (first last : Moment) (past before since : List Moment)
    → AllOf (IsSameAt place first) since
    → Some (since ++ (first ∷ past)) ≡ Some (last ∷ before) → last.at place ≡ first.at place
stood place first last past before [] each is =
    let same : last ≡ first = cc in ap (λ m. m.at place) same
stood place first last past before (m ∷ since) each is =
    let same : last ≡ m = cc in ap (λ n. n.at place) same ∙ each.0.at

-- a place that stayed is kept
kept_same : (paths : Paths) (to : List ℕ) (Whole : List ℕ → Type 0) (first : Moment)
    (past : List Moment) (new : Option (List Moment))
    → Goes (IsSameAt (place_of paths to) first) (first ∷ past) new
    → IsKeptAt paths to Whole first past new
kept_same paths to Whole first past new goes =
    let place = place_of paths to in
    record {
      goes = record {
        since = goes.since;
        told_is = goes.told_is;
        each = all_so (IsSameAt place first) (IsOldOrWhole place Whole first)
            (λ m same. same_old place Whole first m same) goes.since goes.each;
      };
      ends = λ last before told.
          inl (stood place first last past before goes.since goes.each (sym goes.told_is ∙ told));
    }

-- a place that is kept is so at the place to which a path leads
goes_there : (paths : Paths) (path to : List ℕ) (first : Moment) (past : List Moment)
    (new : Option (List Moment)) → LeadsTo paths path to
    → Goes (IsSameBehind paths path first) (first ∷ past) new
    → Goes (IsSameAt (place_of paths to) first) (first ∷ past) new
goes_there paths path to first past new leads goes = record {
  since = goes.since;
  told_is = goes.told_is;
  each = all_so (IsSameBehind paths path first) (IsSameAt (place_of paths to) first)
      (λ m same. same to leads) goes.since goes.each;
}

-- a path that stayed is kept
pub keeps_stays : (paths : Paths) (path : List ℕ) (old new : Option (List Moment))
    (Whole : List ℕ → Type 0) → PathStays paths path old new → KeepsBehind paths path Whole old new
keeps_stays paths path old new Whole stays first past is to leads =
    inr (kept_same paths to Whole first past new
    (goes_there paths path to first past new leads (stays first past is)))

-- where nothing changed, a path and all others are kept
pub keeps_all : (paths : Paths) (path : List ℕ) (old : Option (List Moment))
    (Whole : List ℕ → Type 0) (Kept : Type 0) → KeepsAll paths path Whole old old Kept
keeps_all paths path old Whole Kept = (
  keeps_stays paths path old old Whole (path_stays_same paths path old old refl),
  λ first past is. inr (inl refl),
)

-- what was kept after it stayed
kept_later : (paths : Paths) (to : List ℕ) (Whole : List ℕ → Type 0) (first : Moment)
    (past : List Moment) (mid new : Option (List Moment))
    → Goes (IsSameAt (place_of paths to) first) (first ∷ past) mid
    → ((last : Moment) (before : List Moment) → mid ≡ Some (last ∷ before)
    → IsKeptAt paths to Whole last before new)
    → IsKeptAt paths to Whole first past new
kept_later paths to Whole first past mid new goes then =
    let place = place_of paths to in
    let last = told_on first past goes.since mid goes.told_is in
    let at =
    stood place first last.0 past last.1 goes.since goes.each (sym goes.told_is ∙ last.2) in
    record {
      goes = runs_on (IsOldOrWhole place Whole) (old_twice place Whole) first past goes.since mid
          new goes.told_is
          (all_so (IsSameAt place first) (IsOldOrWhole place Whole first)
          (λ m same. same_old place Whole first m same) goes.since goes.each)
          (λ now before told. (then now before told).goes);
      ends = λ now before told. ⊎_elim (λ same. inl (same ∙ at)) (λ whole. inr whole)
          ((then last.0 last.1 last.2).ends now before told);
    }

-- these bytes are such ones
kept_whole : (paths : Paths) (to : List ℕ) (Whole : List ℕ → Type 0) (bytes : List ℕ)
    (first : Moment) (past : List Moment) (new : Option (List Moment)) → Whole bytes
    → IsKeptAt paths to (λ b. b ≡ bytes) first past new → IsKeptAt paths to Whole first past new
kept_whole paths to Whole bytes first past new whole kept =
    let place = place_of paths to in
    record {
      goes = record {
        since = kept.goes.since;
        told_is = kept.goes.told_is;
        each = all_so (IsOldOrWhole place (λ b. b ≡ bytes) first) (IsOldOrWhole place Whole first)
            (λ m either left may. ⊎_elim (λ before. inl before)
            (λ so. inr (so.0, so.1, subst Whole (sym so.2) whole)) (either left may))
            kept.goes.since kept.goes.each;
      };
      ends = λ now before told. ⊎_elim (λ same. inl same)
          (λ so. inr (so.0, subst Whole (sym so.1) whole, so.2)) (kept.ends now before told);
    }

-- what was begun, and ended after it was handed as a whole, or by a fault, is kept
pub keeps : {S E : Type 0} (paths : Paths) (path : List ℕ) (names : Option Names)
    (begun handed : Option (List ℕ)) (old mid new : Option (List Moment))
    (Whole : List ℕ → Type 0) (written : Result S E) → IsBegun paths path names begun old mid
    → OnOk written ((bytes : List ℕ) × Whole bytes × Appends begun handed bytes)
    → OnOk written (IsEnded paths names handed mid new)
    → OnErr written (IsDropped paths names mid new) → KeepsBehind paths path Whole old new
keeps paths path None begun handed old mid new Whole (Ok x) is_begun whole kept dropped =
    λ first past is to leads. let begun = is_begun first past is in inl (kept begun.0, begun.1)
keeps paths path None begun handed old mid new Whole (Err e) is_begun whole kept dropped =
    λ first past is to leads. let begun = is_begun first past is in inl (dropped begun.0, begun.1)
keeps paths path (Some names) begun handed old mid new Whole (Ok x) is_begun whole kept dropped =
    λ first past is to leads.
    let ready = is_begun.1 first past is in
    let there : string_bytes names.place ≡ to =
    one_place paths path (string_bytes names.place) to (is_begun.2 first past is) leads in
    inr (kept_later paths to Whole first past mid new
    (goes_there paths path to first past mid leads (is_begun.0 first past is))
    (λ last before told. kept_whole paths to Whole whole.0 last before new whole.1
    (subst (λ p. IsKeptAt paths p (λ b. b ≡ whole.0) last before new) there
    (kept whole.0 last before (handed_all begun handed whole.0 whole.2 ready.1) told
    (ready.0 last before told)))))
keeps paths path (Some names) begun handed old mid new Whole (Err e) is_begun whole kept dropped =
    λ first past is to leads.
    let ready = is_begun.1 first past is in
    let there : string_bytes names.place ≡ to =
    one_place paths path (string_bytes names.place) to (is_begun.2 first past is) leads in
    inr (kept_later paths to Whole first past mid new
    (goes_there paths path to first past mid leads (is_begun.0 first past is))
    (λ last before told. kept_same paths to Whole last before new
    (subst (λ p. Goes (IsSameAt (place_of paths p) last) (last ∷ before) new) there
    (dropped last before told (ready.0 last before told)))))

-- the end of a file that was written to its end
pub kept_ended : {T : Type 0} (paths : Paths) (names : Option Names) (contents : Option (List ℕ))
    (old new : Option (List Moment)) (result : Result T DraftFault)
    → IsPut paths names contents old new result → IsEnded paths names contents old new
kept_ended paths None contents old new result is_put = is_put
kept_ended paths (Some names) contents old new (Ok done) is_put = λ bytes first past known is draft.
    let ended = is_put bytes first past known is draft in
    record {
      goes = ended.goes;
      ends = λ now before told. inr (bytes, refl, (ended.ends now before told).0);
    }
kept_ended paths (Some names) contents old new (Err fault) is_put =
    λ bytes first past known is draft.
    let ended = is_put bytes first past known is draft in
    record {
      goes = ended.goes;
      ends = λ now before told. ⊎_elim (λ same. inl same) (λ holds. inr (bytes, refl, holds))
          (ended.ends now before told);
    }

-- a request that changes nothing leaves the disk for each
pub leaves_same : {F : Type 0} (remaining : F → Option (List ℕ)) (paths : Paths) (asked : Asked)
    (old : Option (List Moment)) (Kept : Type 0) → LeavesFor remaining paths asked old old Kept
leaves_same remaining paths (build kind pips path) old Kept =
    keeps_all paths path old (IsBuiltOf kind pips) Kept
leaves_same remaining paths (upgrade before after) old Kept = inl refl
leaves_same remaining paths _ old Kept = refl

-- a request that changes nothing leaves the input
pub input_same : (asked : Asked) (input : Option (List ℕ)) → LeavesInput asked input input
input_same default input = tt
input_same (query kind path records) input = tt
input_same (show is_json texts) input = tt
input_same _ input = refl
