-- Under its first name a new file that was ended doesn't stand.
use Rattle.std.proofs.Common.{◌≡◌, ◌≢◌, ℕ, ◌⊎◌, inl, inr, List, ◌∷◌, Bool, true, false, Option, Some}
use Rattle.std.proofs.Common.{sym, subst, ap, ◌∙◌}
use Rattle.whole_file.specs.Disks.{Moment, IsFree, Lastly, Removes, Renames, Settles, Steps}
use Rattle.whole_file.specs.Calls.{AnswersSettled}
use Rattle.whole_file.specs.Paths.{Paths}

-- of the last moment this holds
last_so : (Holds : Moment → Type 0) (now : Moment) (rest : List Moment)
    (told : Option (List Moment)) → told ≡ Some (now ∷ rest) → Holds now → Lastly Holds told
last_so Holds now rest told is holds last before e =
    let same : last ≡ now = cc in
    subst Holds (sym same) holds

-- it was taken away, or has stayed
pub gone_removed : (place : ℕ × List ℕ) (Kept : Type 0) (now : Moment) (rest : List Moment)
    (told ended : Option (List Moment)) → told ≡ Some (now ∷ rest)
    → Steps (Removes place) told ended ⊎ Kept → Lastly (IsFree place) ended ⊎ Kept
gone_removed place Kept now rest told ended is (inr kept) = inr kept
gone_removed place Kept now rest told ended is (inl steps) =
    let step = steps now rest is in
    inl (last_so (IsFree place) step.0 (now ∷ rest) ended step.1 step.2.gone)

-- it was taken away after its bytes were made sure of, where it got no other name
pub gone_unnamed : (place : ℕ × List ℕ) (bytes : List ℕ) (Kept : Type 0) (first : Moment)
    (past : List Moment) (told sure same ended : Option (List Moment)) → told ≡ Some (first ∷ past)
    → Steps (Settles place bytes) told sure → same ≡ sure
    → Steps (Removes place) same ended ⊎ Kept → Lastly (IsFree place) ended ⊎ Kept
gone_unnamed place bytes Kept first past told sure same ended is settled is_same gone =
    let step = settled first past is in
    gone_removed place Kept step.0 (first ∷ past) same ended (is_same ∙ step.1) gone

-- it got its last name, and the names of the folder were not made sure of
pub gone_unsure : (from to : ℕ × List ℕ) (bytes : List ℕ) (first : Moment) (past : List Moment)
    (told sure named ended : Option (List Moment)) → from ≢ to → told ≡ Some (first ∷ past)
    → Steps (Settles from bytes) told sure → Steps (Renames from to) sure named → ended ≡ named
    → Lastly (IsFree from) ended
gone_unsure from to bytes first past told sure named ended apart is settled renamed same =
    let step = settled first past is in
    let next = renamed step.0 (first ∷ past) step.1 in
    last_so (IsFree from) next.0 (step.0 ∷ first ∷ past) ended (same ∙ next.1)
    (next.2.gone apart)

-- it got its last name, and the names of the folder were made sure of, or not
pub gone_named : (paths : Paths) (folder : ℕ) (from to : ℕ × List ℕ) (bytes : List ℕ)
    (first : Moment) (past : List Moment) (told sure named ended : Option (List Moment)) (b : Bool)
    → from ≢ to → told ≡ Some (first ∷ past) → Steps (Settles from bytes) told sure
    → Steps (Renames from to) sure named → AnswersSettled paths folder named ended b
    → Lastly (IsFree from) ended
gone_named paths folder from to bytes first past told sure named ended false apart is settled
    renamed answer =
    gone_unsure from to bytes first past told sure named ended apart is settled renamed answer.1
gone_named paths folder from to bytes first past told sure named ended true apart is settled
    renamed answer =
    let step = settled first past is in
    let next = renamed step.0 (first ∷ past) step.1 in
    let last = answer next.0 (step.0 ∷ first ∷ past) next.1 in
    last_so (IsFree from) last.0 (next.0 ∷ step.0 ∷ first ∷ past) ended last.1
    (ap (λ at. at from) last.2.at ∙ next.2.gone apart)
