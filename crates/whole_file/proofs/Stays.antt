-- A place stays as it was.
use Rattle.std.proofs.Common.{◌≡◌, ◌≢◌, ℕ, inl, inr, ⊎_elim, List, [], ◌∷◌, ◌++◌, Option, Some, None, sym, subst, ap}
use Rattle.std.proofs.Common.{◌∙◌, append_assoc, ◌⊎◌, Bool, true, false, IsTrue, IsSomeAnd}
use Rattle.std.specs.String.{string_bytes}
use Rattle.whole_file.specs.Disks.{Moment, IsSameAt, IsStill, Creates, Settles, Renames, Removes, Steps, AllOf, Goes}
use Rattle.whole_file.specs.Disks.{Lastly, Runs, StaysAt}
use Rattle.whole_file.specs.Calls.{AnswersSettled, RemovesOrStays}
use Rattle.whole_file.specs.Drafts.{IsAlone, IsDraft, IsReady, IsBegun, IsTidy}
use Rattle.whole_file.specs.Paths.{Paths, IsSameBehind, LeadsTo, PathStays, folder_of, place_of}
use Rattle.whole_file.specs.declared.draft.Names.{Names}
use Rattle.std.specs.Io.KnownBytes.{Keeps}
use Rattle.whole_file.proofs.Gone.{gone_removed}
use Rattle.whole_file.proofs.Known.{known_kept}
use Rattle.whole_file.proofs.Links.{one_place}

-- each of two lists
pub all_of_both : (Each : Moment → Type 0) (xs ys : List Moment) → AllOf Each xs → AllOf Each ys
    → AllOf Each (xs ++ ys)
all_of_both Each [] ys p q = q
all_of_both Each (x ∷ xs) ys p q = (p.0, all_of_both Each xs ys p.1 q)

-- each is the other, too
pub all_so : (Each Other : Moment → Type 0) → ((m : Moment) → Each m → Other m) → (xs : List Moment)
    → AllOf Each xs → AllOf Other xs
all_so Each Other so [] p = tt
all_so Each Other so (x ∷ xs) p = (so x p.0, all_so Each Other so xs p.1)

-- the same as the same
pub same_again : (place : ℕ × List ℕ) (old mid new : Moment) → IsSameAt place old mid
    → IsSameAt place mid new → IsSameAt place old new
same_again place old mid new p q = record {
  at = q.at ∙ p.at;
  crash = λ e may. p.crash e (q.crash e may);
  sure = λ file may. q.sure file may ∙ p.sure file (q.crash (Some file) may);
}

-- the same after more moments
pub runs_on : (Each : Moment → Moment → Type 0)
    → ((old mid new : Moment) → Each old mid → Each mid new → Each old new)
    → (now : Moment) (past since : List Moment) (mid new : Option (List Moment))
    → mid ≡ Some (since ++ (now ∷ past)) → AllOf (Each now) since → Runs Each mid new
    → Goes (Each now) (now ∷ past) new
runs_on Each again now past [] mid new is each runs = runs now past is
runs_on Each again now past (m ∷ since) mid new is each runs =
    let goes = runs m (since ++ (now ∷ past)) is in
    record {
      since = goes.since ++ (m ∷ since);
      told_is = goes.told_is
          ∙ ap (λ l. Some l) (sym (append_assoc goes.since (m ∷ since) (now ∷ past)));
      each = all_of_both (Each now) goes.since (m ∷ since)
          (all_so (Each m) (Each now) (λ n. again now m n each.0) goes.since goes.each) each;
    }

-- the moments that came told one at least
pub told_on : (now : Moment) (past since : List Moment) (told : Option (List Moment))
    → told ≡ Some (since ++ (now ∷ past))
    → (last : Moment) × (before : List Moment) × (told ≡ Some (last ∷ before))
told_on now past [] told is = (now, past, is)
told_on now past (m ∷ since) told is = (m, since ++ (now ∷ past), is)

-- a place that stayed as it was stays so
pub goes_on : (place : ℕ × List ℕ) (now : Moment) (past : List Moment)
    (mid new : Option (List Moment)) → Goes (IsSameAt place now) (now ∷ past) mid
    → StaysAt place mid new → Goes (IsSameAt place now) (now ∷ past) new
goes_on place now past mid new goes then =
    runs_on (IsSameAt place) (same_again place) now past goes.since mid new goes.told_is goes.each
    then

-- nothing has changed
pub stays_same : (place : ℕ × List ℕ) (old new : Option (List Moment)) → new ≡ old
    → StaysAt place old new
stays_same place old new same now past is =
    record { since = []; told_is = same ∙ is; each = tt }

-- one moment came
goes_once : (Each : Moment → Type 0) (start : List Moment) (told : Option (List Moment))
    (next : Moment) → told ≡ Some (next ∷ start) → Each next → Goes Each start told
goes_once Each start told next is so = record { since = next ∷ []; told_is = is; each = (so, tt) }

-- a file was taken away somewhere else, or not
pub stays_gone : (other place : ℕ × List ℕ) (old new : Option (List Moment)) → other ≢ place
    → RemovesOrStays other old new → StaysAt place old new
stays_gone other place old new apart (inr same) now past is =
    record { since = []; told_is = same ∙ is; each = tt }
stays_gone other place old new apart (inl steps) now past is =
    let step = steps now past is in
    goes_once _ _ _ _ step.1 record {
      at = step.2.others place (λ e. apart (sym e));
      crash = λ e may. ⊎_elim (λ before. before) (λ gone. absurd (apart (sym gone.0)))
          (step.2.crash place e may);
      sure = λ file _. ap (λ s. s file) step.2.sure;
    }

-- a file got another name, at two other places
pub stays_renamed : (from to place : ℕ × List ℕ) (old new : Option (List Moment)) → place ≢ from
    → place ≢ to → Steps (Renames from to) old new → StaysAt place old new
stays_renamed from to place old new not_from not_to steps now past is =
    let step = steps now past is in
    goes_once _ _ _ _ step.1 record {
      at = step.2.others place not_from not_to;
      crash = λ e may. ⊎_elim (λ before. before)
          (⊎_elim (λ moved. absurd (not_to moved.0)) (λ gone. absurd (not_from gone.0)))
          (step.2.crash place e may);
      sure = λ file _. ap (λ s. s file) step.2.sure;
    }

-- the names of a folder were made sure of, or not
pub stays_named : (paths : Paths) (folder : ℕ) (place : ℕ × List ℕ)
    (old new : Option (List Moment)) (answer : Bool) → AnswersSettled paths folder old new answer
    → StaysAt place old new
stays_named paths folder place old new false answer = stays_same place old new answer.1
stays_named paths folder place old new true answer = λ now past is.
    let step = answer now past is in
    goes_once _ _ _ _ step.1 record {
      at = ap (λ at. at place) step.2.at;
      crash = λ e may. step.2.crash place e may;
      sure = λ file _. ap (λ s. s file) step.2.sure;
    }

-- the bytes of a file were made sure of that no crash leaves at a place
pub goes_settled : (from place : ℕ × List ℕ) (bytes : List ℕ) (now : Moment) (past : List Moment)
    (old new : Option (List Moment))
    → ((file : ℕ) → now.at from ≡ Some file → IsTrue (now.may_be_at place (Some file)) → ⊥)
    → old ≡ Some (now ∷ past) → Steps (Settles from bytes) old new
    → Goes (IsSameAt place now) (now ∷ past) new
goes_settled from place bytes now past old new own is steps =
    let step = steps now past is in
    goes_once _ _ _ _ step.1 record {
      at = ap (λ at. at place) step.2.at;
      crash = λ e may. subst (λ crash. IsTrue (crash place e)) step.2.crash may;
      sure = λ file may. step.2.others file (λ at. own file at
          (subst (λ crash. IsTrue (crash place (Some file))) step.2.crash may));
    }

-- a file stays at the one place to which a path leads
pub path_stays : (paths : Paths) (path place : List ℕ) (old new : Option (List Moment))
    → ((moments : List Moment) → old ≡ Some moments → LeadsTo paths path place)
    → StaysAt (place_of paths place) old new → PathStays paths path old new
path_stays paths path place old new leads stays now past is =
    let goes = stays now past is in
    record {
      since = goes.since;
      told_is = goes.told_is;
      each = all_so (IsSameAt (place_of paths place) now) (IsSameBehind paths path now)
          (λ m same to other. subst (λ p. IsSameAt (place_of paths p) now m)
          (one_place paths path place to (leads (now ∷ past) is) other) same) goes.since goes.each;
    }

-- a file stays at that place where nothing has changed
pub path_stays_same : (paths : Paths) (path : List ℕ) (old new : Option (List Moment))
    → new ≡ old → PathStays paths path old new
path_stays_same paths path old new same now past is =
    record { since = []; told_is = same ∙ is; each = tt }

-- a file stays at that place where a disk that tells its moments stays as it was
pub path_stays_still : (paths : Paths) (path : List ℕ) (old new : Option (List Moment))
    → IsStill old new → PathStays paths path old new
path_stays_still paths path old new still now past is =
    path_stays_same paths path old new (still now past is) now past is

-- a new file that was made beside a place is a draft for it
pub ready : (paths : Paths) (names : Names) (contents : Option (List ℕ))
    (old new : Option (List Moment)) → string_bytes names.folder
    ≡ folder_of (string_bytes names.place)
    → place_of paths (string_bytes names.new) ≢ place_of paths (string_bytes names.place)
    → Steps (Creates (place_of paths (string_bytes names.new))) old new
    → ((moments : List Moment) → old ≡ Some moments → contents ≡ Some [])
    → IsReady paths names contents old new
ready paths names contents old new folder apart steps empty first past is =
    let step = steps first past is in (
      λ now before told.
          let same : step.0 ≡ now = let made = step.1 in cc in
          subst (IsDraft paths names) same (record {
            file = step.2.file;
            stands = step.2.made;
            apart = apart;
            unknown = λ may. ⊎_elim (λ before. step.2.is_new _ before)
                (λ made. apart (sym made.0)) (step.2.crash _ _ may);
            folder = folder;
          }),
      empty (first ∷ past) is,
      record {
        now = step.0;
        told_is = step.1;
        free = step.2.free;
        own = λ p other file at may.
            let same : file ≡ step.2.file = let made = step.2.made in cc in
            ⊎_elim (λ before. step.2.is_new p
            (subst (λ f. IsTrue (first.may_be_at p (Some f))) same before))
            (λ made. other made.0) (step.2.crash p (Some file) may);
        others = λ p other. record {
          at = step.2.others p other;
          crash = λ e may. ⊎_elim (λ before. before) (λ made. absurd (other made.0))
              (step.2.crash p e may);
          sure = λ file _. ap (λ s. s file) step.2.sure;
        };
      },
    )

-- each place but that of a new file stays as it was
pub goes_alone : (paths : Paths) (names : Names) (first : Moment) (past : List Moment)
    (told : Option (List Moment)) → IsAlone paths names first past told → (p : ℕ × List ℕ)
    → p ≢ place_of paths (string_bytes names.new) → Goes (IsSameAt p first) (first ∷ past) told
goes_alone paths names first past told alone p other =
    goes_once _ _ _ _ alone.told_is (alone.others p other)

-- a file stays at the place of a draft
pub ready_stays : (paths : Paths) (names : Names) (place : List ℕ) (contents : Option (List ℕ))
    (old new : Option (List Moment)) → string_bytes names.place ≡ place
    → IsReady paths names contents old new → StaysAt (place_of paths place) old new
ready_stays paths names place contents old new same is_ready first past is =
    let ready = is_ready first past is in
    let draft = ready.0 ready.2.now (first ∷ past) ready.2.told_is in
    goes_alone paths names first past new ready.2 (place_of paths place)
    (λ e. draft.apart (sym e ∙ ap (place_of paths) (sym same)))

-- what was begun after the disk stayed as it was
pub begun_later : (paths : Paths) (path : List ℕ) (names : Option Names)
    (contents : Option (List ℕ)) (old mid new : Option (List Moment)) → IsStill old mid
    → IsBegun paths path names contents mid new → IsBegun paths path names contents old new
begun_later paths path None contents old mid new still begun = λ first past is.
    begun first past (still first past is ∙ is)
begun_later paths path (Some names) contents old mid new still begun = (
  λ first past is. begun.0 first past (still first past is ∙ is),
  λ first past is. begun.1 first past (still first past is ∙ is),
  λ first past is. begun.2 first past (still first past is ∙ is),
)

-- what was begun stays at the place that was found
pub begun_beside : (paths : Paths) (path place : List ℕ) (names : Option Names)
    (contents : Option (List ℕ)) (old new : Option (List Moment))
    → ((moments : List Moment) → old ≡ Some moments → LeadsTo paths path place)
    → IsSomeAnd names (λ names. (string_bytes names.place ≡ place)
    × IsReady paths names contents old new)
    → IsBegun paths path names contents old new
begun_beside paths path place None contents old new leads is_ready = absurd is_ready
begun_beside paths path place (Some names) contents old new leads is_ready = (
  path_stays paths path place old new leads
      (ready_stays paths names place contents old new is_ready.0 is_ready.1),
  is_ready.1,
  λ first past told. subst (LeadsTo paths path) (sym is_ready.0) (leads (first ∷ past) told),
)

-- a draft that is taken away again leaves its place as it was
pub stays_dropped : (paths : Paths) (names : Names) (place : List ℕ) (contents : Option (List ℕ))
    (old mid new : Option (List Moment)) → string_bytes names.place ≡ place
    → IsReady paths names contents old mid
    → RemovesOrStays (place_of paths (string_bytes names.new)) mid new
    → StaysAt (place_of paths place) old new
stays_dropped paths names place contents old mid new same is_ready gone first past is =
    let ready = is_ready first past is in
    let draft = ready.0 ready.2.now (first ∷ past) ready.2.told_is in
    goes_on (place_of paths place) first past mid new
    (ready_stays paths names place contents old mid same is_ready first past is)
    (stays_gone _ _ mid new (λ e. draft.apart (e ∙ ap (place_of paths) (sym same))) gone)

-- a draft that is taken away again leaves all other places as they were
pub tidy_dropped : (paths : Paths) (names : Names) (contents : Option (List ℕ))
    (old mid new : Option (List Moment)) (Kept : Type 0) → IsReady paths names contents old mid
    → RemovesOrStays (place_of paths (string_bytes names.new)) mid new
    → Steps (Removes (place_of paths (string_bytes names.new))) mid new ⊎ Kept
    → IsTidy old new Kept
tidy_dropped paths names contents old mid new Kept is_ready removed gone first past is =
    let alone = (is_ready first past is).2 in
    let place = place_of paths (string_bytes names.new) in
    inr (record {
      draft = place;
      free = alone.free;
      others = λ p other _. goes_on p first past mid new
          (goes_alone paths names first past mid alone p other)
          (stays_gone place p mid new (λ e. other (sym e)) removed);
      gone = gone_removed place Kept alone.now (first ∷ past) mid new alone.told_is gone;
    })

-- a draft stays one with its writer
pub ready_kept : (paths : Paths) (names : Names) (contents kept : Option (List ℕ))
    (old mid new : Option (List Moment)) → IsReady paths names contents old mid
    → Keeps contents kept → new ≡ mid → IsReady paths names kept old new
ready_kept paths names contents kept old mid new is_ready keeps same first past is =
    let draft = is_ready first past is in (
      subst (Lastly (IsDraft paths names)) (sym same) draft.0,
      known_kept contents kept [] keeps draft.1,
      subst (IsAlone paths names first past) (sym same) draft.2,
    )

-- a draft at the place that was found was begun
pub begun_made : (paths : Paths) (path place : List ℕ) (names : Names) (drafts : Option Names)
    (contents kept : Option (List ℕ)) (old mid new : Option (List Moment))
    → ((moments : List Moment) → old ≡ Some moments → LeadsTo paths path place)
    → string_bytes names.place ≡ place
    → IsReady paths names contents old mid → Keeps contents kept → drafts ≡ Some names → new ≡ mid
    → IsBegun paths path drafts kept old new
begun_made paths path place names drafts contents kept old mid new leads same is_ready keeps is
    told =
    subst (λ d. IsBegun paths path d kept old new) (sym is)
    (begun_beside paths path place (Some names) kept old new leads
    (same, ready_kept paths names contents kept old mid new is_ready keeps told))
