-- What a crash may leave while a draft takes its place.
use Rattle.std.proofs.Common.{◌≡◌, ◌≢◌, ℕ, ◌⊎◌, inl, inr, ⊎_elim, List, [], ◌∷◌, ◌++◌, Bool, true, false}
use Rattle.std.proofs.Common.{IsTrue, Option, Some, None, Ok, Err, sym, subst, refl, ap, ◌∙◌}
use Rattle.std.specs.String.{string_bytes}
use Rattle.whole_file.specs.Disks.{Moment, Holds, MayLeave, Settles, Renames, SettlesNames, Steps, AllOf}
use Rattle.whole_file.specs.Calls.{AnswersSettled, RemovesOrStays}
use Rattle.whole_file.specs.Drafts.{IsDraft, IsOldOrWhole, IsWhole, Finishes}
use Rattle.whole_file.specs.Paths.{Paths, place_of, folder_of}
use Rattle.whole_file.specs.declared.draft.Names.{Names}
use Rattle.whole_file.specs.declared.fault.DraftFault.{DraftFault}

-- fewer files may stand there, and what was made sure of stays so
pub less_left : (place : ℕ × List ℕ) (old new : Moment)
    → ((e : Option ℕ) → IsTrue (new.may_be_at place e) → IsTrue (old.may_be_at place e))
    → ((file : ℕ) → IsTrue (new.may_be_at place (Some file)) → new.sure file ≡ old.sure file)
    → (left : Option (List ℕ)) → MayLeave new place left → MayLeave old place left
less_left place old new fewer same None may = fewer None may
less_left place old new fewer same (Some bytes) may =
    (may.0, fewer (Some may.0) may.1, λ sure known. may.2 sure (same may.0 may.1 ∙ known))

-- what was old or whole before such a step is so after it
less_old : (place : ℕ × List ℕ) (bytes : List ℕ) (first old new : Moment)
    → ((e : Option ℕ) → IsTrue (new.may_be_at place e) → IsTrue (old.may_be_at place e))
    → new.sure ≡ old.sure
    → IsOldOrWhole place (λ b. b ≡ bytes) first old → IsOldOrWhole place (λ b. b ≡ bytes) first new
less_old place bytes first old new fewer same whole left may =
    whole left (less_left place old new fewer (λ file _. ap (λ sure. sure file) same) left may)

-- the draft is made sure of
settled_old : (paths : Paths) (names : Names) (bytes : List ℕ) (first next : Moment)
    → IsDraft paths names first
    → Settles (place_of paths (string_bytes names.new)) bytes first next
    → IsOldOrWhole (place_of paths (string_bytes names.place)) (λ b. b ≡ bytes) first next
settled_old paths names bytes first next draft step left may =
    let place = place_of paths (string_bytes names.place) in
    inl (less_left place first next
    (λ e here. subst (λ crash. IsTrue (crash place e)) step.crash here)
    (λ file there. step.others file (λ at.
    let same : file ≡ draft.file = let stands = draft.stands in cc in
    draft.unknown (subst (λ crash. IsTrue (crash place (Some draft.file))) step.crash
    (subst (λ f. IsTrue (next.may_be_at place (Some f))) same there))))
    left may)

-- the draft, which was made sure of, gets its last name
renamed_old : (from place : ℕ × List ℕ) (bytes : List ℕ) (file : ℕ) (first old new : Moment)
    → from ≢ place → old.at from ≡ Some file → old.sure file ≡ Some bytes
    → Renames from place old new
    → IsOldOrWhole place (λ b. b ≡ bytes) first old → IsOldOrWhole place (λ b. b ≡ bytes) first new
renamed_old from place bytes file first old new apart at sure step whole None may =
    ⊎_elim (λ before. whole None before)
    (⊎_elim (λ moved. let other = moved.1 in absurd (cc)) (λ gone. absurd (apart (sym gone.0))))
    (step.crash place None may)
renamed_old from place bytes file first old new apart at sure step whole (Some b) may =
    let known = λ (s : List ℕ) (e : old.sure may.0 ≡ Some s).
    may.2 s (ap (λ sure. sure may.0) step.sure ∙ e) in
    ⊎_elim (λ before. whole (Some b) (may.0, before, known))
    (⊎_elim (λ moved.
    let same : may.0 ≡ file = let other = moved.1 in cc in
    inr (b, refl, known bytes (ap old.sure same ∙ sure)))
    (λ gone. absurd (apart (sym gone.0))))
    (step.crash place (Some may.0) may.1)

-- once the names are made sure of, nothing but the draft is left
whole_left : (place : ℕ × List ℕ) (bytes : List ℕ) (file : ℕ) (now next : Moment)
    → now.at place ≡ Some file → now.sure file ≡ Some bytes → SettlesNames place.0 now next
    → IsWhole place (λ b. b ≡ bytes) next
whole_left place bytes file now next at sure step None may =
    let gone = step.settled place.1 None may in absurd (cc)
whole_left place bytes file now next at sure step (Some b) may =
    let there : may.0 ≡ file = let same = step.settled place.1 (Some may.0) may.1 in cc in
    (b, refl, may.2 bytes (ap (λ s. s may.0) step.sure ∙ ap now.sure there ∙ sure))

-- the last of these moments
last_of : {told : Option (List Moment)} (now last : Moment) (rest past : List Moment)
    → told ≡ Some (now ∷ rest) → told ≡ Some (last ∷ past) → last ≡ now
last_of now last rest past e f = cc

-- the end at a fault: what was made is taken away, where that can be done
end_err : {T : Type 0} (paths : Paths) (names : Names) (bytes : List ℕ)
    (first now : Moment) (past rest since : List Moment) (told ended : Option (List Moment))
    (fault : DraftFault)
    → place_of paths (string_bytes names.new) ≢ place_of paths (string_bytes names.place)
    → told ≡ Some (now ∷ rest)
    → (now ∷ rest) ≡ since ++ (first ∷ past)
    → AllOf (IsOldOrWhole (place_of paths (string_bytes names.place)) (λ b. b ≡ bytes) first) since
    → IsOldOrWhole (place_of paths (string_bytes names.place)) (λ b. b ≡ bytes) first now
    → (now.at (place_of paths (string_bytes names.place))
    ≡ first.at (place_of paths (string_bytes names.place)))
    ⊎ Holds now (place_of paths (string_bytes names.place)) bytes
    → RemovesOrStays (place_of paths (string_bytes names.new)) told ended
    → Finishes {T = T} paths (string_bytes names.place) bytes first past ended (Err fault)
end_err paths names bytes first now past rest since told ended fault apart is along each whole ends
    (inr same) =
    let place = place_of paths (string_bytes names.place) in
    record {
      goes = record {
        since = since;
        told_is = same ∙ is ∙ ap (λ l. Some l) along;
        each = each;
      };
      ends = λ last before e.
          subst (λ m. (m.at place ≡ first.at place) ⊎ Holds m place bytes)
          (sym (last_of now last rest before (same ∙ is) e)) ends;
    }
end_err paths names bytes first now past rest since told ended fault apart is along each whole ends
    (inl steps) =
    let place = place_of paths (string_bytes names.place) in
    let step = steps now rest is in
    let next = step.0 in
    let at = step.2.others place (λ e. apart (sym e)) in
    record {
      goes = record {
        since = next ∷ since;
        told_is = step.1 ∙ ap (λ l. Some (next ∷ l)) along;
        each = (
          less_old place bytes first now next (λ e may.
              ⊎_elim (λ before. before) (λ gone. absurd (apart (sym gone.0)))
              (step.2.crash place e may))
              step.2.sure whole,
          each,
        );
      };
      ends = λ last before e.
          subst (λ m. (m.at place ≡ first.at place) ⊎ Holds m place bytes)
          (sym (last_of next last (now ∷ rest) before step.1 e))
          (⊎_elim (λ old. inl (at ∙ old))
          (λ holds. inr (holds.0, at ∙ holds.1, ap (λ s. s holds.0) step.2.sure ∙ holds.2)) ends);
    }

-- a moment is old or whole by itself
old_itself : (place : ℕ × List ℕ) (bytes : List ℕ) (first : Moment)
    → IsOldOrWhole place (λ b. b ≡ bytes) first first
old_itself place bytes first left may = inl may

-- the bytes could not be made sure of
pub end_unsettled : {T : Type 0} (paths : Paths) (names : Names) (bytes : List ℕ)
    (first : Moment) (past : List Moment)
    (begun settled ended : Option (List Moment)) (fault : DraftFault)
    → IsDraft paths names first → begun ≡ Some (first ∷ past) → settled ≡ begun
    → RemovesOrStays (place_of paths (string_bytes names.new)) settled ended
    → Finishes {T = T} paths (string_bytes names.place) bytes first past ended (Err fault)
end_unsettled paths names bytes first past begun settled ended fault draft is same gone =
    let place = place_of paths (string_bytes names.place) in
    end_err paths names bytes first first past past []
    settled ended fault draft.apart (same ∙ is) refl tt (old_itself place bytes first)
    (inl refl) gone

-- the file could not be given its last name
pub end_unnamed : {T : Type 0} (paths : Paths) (names : Names) (bytes : List ℕ)
    (first : Moment) (past : List Moment)
    (begun settled named ended : Option (List Moment)) (fault : DraftFault)
    → IsDraft paths names first → begun ≡ Some (first ∷ past)
    → Steps (Settles (place_of paths (string_bytes names.new)) bytes) begun settled
    → named ≡ settled
    → RemovesOrStays (place_of paths (string_bytes names.new)) named ended
    → Finishes {T = T} paths (string_bytes names.place) bytes first past ended (Err fault)
end_unnamed paths names bytes first past begun settled named ended fault draft is steps
    same gone =
    let place = place_of paths (string_bytes names.place) in
    let step = steps first past is in
    let whole = settled_old paths names bytes first step.0 draft step.2 in
    end_err paths names bytes first step.0 past
    (first ∷ past) (step.0 ∷ []) named ended fault draft.apart (same ∙ step.1) refl
    (whole, tt) whole
    (inl (ap (λ at. at place) step.2.at)) gone

-- how the draft stands once it has its last name
record Named (place : ℕ × List ℕ) (bytes : List ℕ) (first : Moment) (past : List Moment)
    (named : Option (List Moment)) : Type 0 where
  now : Moment
  settled : Moment
  is : named ≡ Some (now ∷ settled ∷ first ∷ past)
  first_whole : IsOldOrWhole place (λ b. b ≡ bytes) first settled
  whole : IsOldOrWhole place (λ b. b ≡ bytes) first now
  holds : Holds now place bytes

named_so : (paths : Paths) (names : Names) (bytes : List ℕ) (first : Moment)
    (past : List Moment) (begun settled named : Option (List Moment))
    → IsDraft paths names first → begun ≡ Some (first ∷ past)
    → Steps (Settles (place_of paths (string_bytes names.new)) bytes) begun settled
    → Steps (Renames (place_of paths (string_bytes names.new))
    (place_of paths (string_bytes names.place))) settled named
    → Named (place_of paths (string_bytes names.place)) bytes first past named
named_so paths names bytes first past begun settled named draft is steps renames =
    let from = place_of paths (string_bytes names.new) in
    let place = place_of paths (string_bytes names.place) in
    let step = steps first past is in
    let rename = renames step.0 (first ∷ past) step.1 in
    let whole = settled_old paths names bytes first step.0 draft step.2 in
    let at : step.0.at from ≡ Some draft.file = ap (λ at. at from) step.2.at ∙ draft.stands in
    let sure = step.2.settled draft.file draft.stands in
    record {
      now = rename.0;
      settled = step.0;
      is = rename.1;
      first_whole = whole;
      whole = renamed_old from place bytes draft.file first step.0 rename.0 draft.apart at sure
          rename.2
          whole;
      holds = (draft.file, rename.2.moved ∙ at, ap (λ s. s draft.file) rename.2.sure ∙ sure);
    }

-- the names of the folder could not be made sure of
pub end_unsure : {T : Type 0} (paths : Paths) (names : Names) (bytes : List ℕ)
    (first : Moment) (past : List Moment)
    (begun settled named ended : Option (List Moment)) (fault : DraftFault)
    → IsDraft paths names first → begun ≡ Some (first ∷ past)
    → Steps (Settles (place_of paths (string_bytes names.new)) bytes) begun settled
    → Steps (Renames (place_of paths (string_bytes names.new))
    (place_of paths (string_bytes names.place))) settled named
    → ended ≡ named
    → Finishes {T = T} paths (string_bytes names.place) bytes first past ended (Err fault)
end_unsure paths names bytes first past begun settled named ended fault draft is steps
    renames same =
    let so = named_so paths names bytes first past begun settled named draft is steps renames in
    let place = place_of paths (string_bytes names.place) in
    record {
      goes = record {
        since = so.now ∷ so.settled ∷ [];
        told_is = same ∙ so.is;
        each = (so.whole, (so.first_whole, tt));
      };
      ends = λ last before e.
          subst (λ m. (m.at place ≡ first.at place) ⊎ Holds m place bytes)
          (sym (last_of so.now last (so.settled ∷ first ∷ past) before (same ∙ so.is) e))
          (inr so.holds);
    }

-- all went well
pub end_ok : {T : Type 0} (paths : Paths) (names : Names) (bytes : List ℕ)
    (first : Moment) (past : List Moment)
    (begun settled named ended : Option (List Moment)) (done : T) (answer : Bool)
    → IsDraft paths names first → begun ≡ Some (first ∷ past)
    → Steps (Settles (place_of paths (string_bytes names.new)) bytes) begun settled
    → Steps (Renames (place_of paths (string_bytes names.new))
    (place_of paths (string_bytes names.place))) settled named
    → AnswersSettled paths (paths.folder (string_bytes names.folder)) named ended answer
    → Finishes {T = T} paths (string_bytes names.place) bytes first past ended (Ok done)
end_ok paths names bytes first past begun settled named ended done false draft is steps
    renames answer =
    let so = named_so paths names bytes first past begun settled named draft is steps renames in
    let place = place_of paths (string_bytes names.place) in
    record {
      goes = record {
        since = so.now ∷ so.settled ∷ [];
        told_is = answer.1 ∙ so.is;
        each = (so.whole, (so.first_whole, tt));
      };
      ends = λ last before e.
          subst (λ m. Holds m place bytes × (IsWhole place (λ b. b ≡ bytes) m
          ⊎ IsTrue (paths.fleeting (paths.folder (folder_of (string_bytes names.place))))))
          (sym (last_of so.now last (so.settled ∷ first ∷ past) before (answer.1 ∙ so.is) e)) (
            so.holds,
            inr (subst (λ folder. IsTrue (paths.fleeting (paths.folder folder))) draft.folder
                answer.0),
          );
    }
end_ok paths names bytes first past begun settled named ended done true draft is steps
    renames answer =
    let so = named_so paths names bytes first past begun settled named draft is steps renames in
    let place = place_of paths (string_bytes names.place) in
    let last_step = answer so.now (so.settled ∷ first ∷ past) so.is in
    let next = last_step.0 in
    let step = subst (λ folder. SettlesNames (paths.folder folder) so.now next) draft.folder
    last_step.2 in
    record {
      goes = record {
        since = next ∷ so.now ∷ so.settled ∷ [];
        told_is = last_step.1;
        each = (
          less_old place bytes first so.now next (λ e may. step.crash place e may) step.sure
              so.whole,
          (so.whole, (so.first_whole, tt)),
        );
      };
      ends = λ last before e.
          subst (λ m. Holds m place bytes × (IsWhole place (λ b. b ≡ bytes) m
          ⊎ IsTrue (paths.fleeting (paths.folder (folder_of (string_bytes names.place))))))
          (sym (last_of next last (so.now ∷ so.settled ∷ first ∷ past) before last_step.1 e)) (
            (
              so.holds.0,
              ap (λ at. at place) step.at ∙ so.holds.1,
              ap (λ s. s so.holds.0) step.sure ∙ so.holds.2,
            ),
            inl (whole_left place bytes so.holds.0 so.now next so.holds.1 so.holds.2 step),
          );
    }
