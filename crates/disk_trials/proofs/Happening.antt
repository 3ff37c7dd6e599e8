-- What one more event does to a disk.
use Rattle.std.proofs.Common.{◌≡◌, ◌≢◌, ℕ, ◌⊎◌, inl, inr, ⊎_elim, List, [], ◌∷◌, Bool, true, false, ◌&&◌, ◌||◌, IsTrue}
use Rattle.std.proofs.Common.{Option, Some, None, String, Global, refl, sym, ap, subst, ◌∙◌, if◌then◌else◌}
use Rattle.std.specs.Bool.{Decides}
use Rattle.std.specs.Global.{Vec}
use Rattle.std.specs.String.{string_bytes}
use Rattle.std.proofs.lemmas.Bool.{cond-true, cond-false, or_left}
use Rattle.std.proofs.lemmas.Bool.Decides.{Decides-eqb}
use Rattle.std.proofs.lemmas.Slice.Eq.{bytes_eq-Decides}
use Rattle.whole_file.specs.Disks.{Moment, Steps, Creates, Settles, Renames, Removes, SettlesNames}
use Rattle.disk_trials.specs.Events.{has_name, is_same, at, left, mentions, moment, earlier, IsNamed}
use Rattle.disk_trials.specs.declared.events.Event.{Event}
use Rattle.disk_trials.specs.declared.events.Event.TheVariants.{Named, Settled, SettledNames}

and_parts : (a b : Bool) → (a && b) ≡ true → (a ≡ true) × (b ≡ true)
and_parts true b e = (refl, e)
and_parts false b e = cc

or_none : (a : Bool) → (a || false) ≡ true → a ≡ true
or_none true e = refl
or_none false e = e

neither : (a b : Bool) → (a || b) ≡ false → (a ≡ false) × (b ≡ false)
neither true b e = cc
neither false b e = (refl, e)

not_true : (b : Bool) → (b ≡ true → ⊥) → b ≡ false
not_true true h = absurd (h refl)
not_true false h = refl

not_both : (b : Bool) → b ≡ true → b ≡ false → ⊥
not_both b is isnt = cc

-- the number in an option
number_in : Option ℕ → ℕ
number_in None = 0
number_in (Some n) = n

moments_in : Option (List Moment) → List Moment
moments_in None = []
moments_in (Some moments) = moments

first_or : Moment → List Moment → Moment
first_or other [] = other
first_or other (first ∷ rest) = first

rest_of : List Moment → List Moment
rest_of [] = []
rest_of (first ∷ rest) = rest

-- a place is that of a name
has_place : (place : ℕ × List ℕ) (name : List ℕ)
    → Decides (has_name place name) (place ≡ (0, name))
has_place place name = (
  λ yes. let parts = and_parts _ _ yes in
      let folder = (Decides-eqb place.0 0).0 parts.0 in
      let text = (bytes_eq-Decides place.1 name).0 parts.1 in
      (λ t. (folder t, text t)),
  λ is. ap (λ p. has_name p name) is ∙ (bytes_eq-Decides name name).1 refl,
)

same_is : (a b : Option ℕ) → Decides (is_same a b) (a ≡ b)
unfolding number_in
same_is None None = (λ _. refl, λ _. refl)
same_is (Some a) (Some b) =
    (λ e. ap (λ n. Some n) ((Decides-eqb a b).0 e), λ e. (Decides-eqb a b).1 (ap number_in e))
same_is None (Some b) = (λ e. cc, λ e. cc)
same_is (Some a) None = (λ e. cc, λ e. cc)

-- a name is that of its own place
here : (s : String Global) (name : List ℕ) → string_bytes s ≡ name
    → has_name (0, name) (string_bytes s) ≡ true
here s name is = (has_place (0, name) (string_bytes s)).1 (ap (λ n. (0, n)) (sym is))

-- a name is that of no place but its own
elsewhere : (s : String Global) (name : List ℕ) → string_bytes s ≡ name → (place : ℕ × List ℕ)
    → place ≢ (0, name) → has_name place (string_bytes s) ≡ false
elsewhere s name is place other = not_true _
    (λ yes. other ((has_place place (string_bytes s)).0 yes ∙ ap (λ n. (0, n)) is))

left_cases : (to from was : Bool) (e file : Option ℕ)
    → ((if to then is_same e file else (from && is_same e None)) || was) ≡ true
    → (was ≡ true) ⊎ ((to ≡ true) × (e ≡ file)) ⊎ ((to ≡ false) × (from ≡ true) × (e ≡ None))
left_cases to from true e file may = inl refl
left_cases true from false e file may = inr (inl (refl, (same_is e file).0 (or_none _ may)))
left_cases false true false e file may =
    inr (inr (refl, refl, (same_is e None).0 (or_none _ may)))
left_cases false false false e file may = cc

-- what a crash may leave once names were given
left_named : (from to : String Global) (file : Option ℕ) (before : List Event) (p : ℕ × List ℕ)
    (e : Option ℕ) → IsTrue (left (Named from to file ∷ before) p e)
    → IsTrue (left before p e) ⊎ ((p ≡ (0, string_bytes to)) × (e ≡ file))
    ⊎ ((has_name p (string_bytes to) ≡ false) × (p ≡ (0, string_bytes from)) × (e ≡ None))
left_named from to file before p e may =
    ⊎_elim (λ was. inl was)
    (λ new. ⊎_elim
    (λ given. inr (inl ((has_place p (string_bytes to)).0 given.0, given.1)))
    (λ taken. inr (inr (taken.0, (has_place p (string_bytes from)).0 taken.1, taken.2)))
    new)
    (left_cases (has_name p (string_bytes to)) (has_name p (string_bytes from)) (left before p e)
    e file may)

now_named : (to from : Bool) (file was : Option ℕ) (left : Option ℕ → Bool)
    → left was ≡ true
    → ((if to then is_same (if to then file else if from then None else was) file
    else (from && is_same (if to then file else if from then None else was) None))
    || left (if to then file else if from then None else was)) ≡ true
now_named true from file was left now = or_left _ _ ((same_is file file).1 refl)
now_named false true file was left now = refl
now_named false false file was left now = now

-- a crash may leave what stands there
left_now : (events : List Event) (p : ℕ × List ℕ) → IsTrue (left events p (at events p))
left_now [] p = refl
left_now (Named from to file ∷ before) p =
    now_named (has_name p (string_bytes to)) (has_name p (string_bytes from)) file (at before p)
    (left before p) (left_now before p)
left_now (Settled file bytes ∷ before) p = left_now before p
left_now (SettledNames ∷ before) p = (same_is (at before p) (at before p)).1 refl

-- a crash leaves no file that never had a name
unmentioned : (events : List Event) (p : ℕ × List ℕ) (n : ℕ) → mentions events n ≡ false
    → IsTrue (left events p (Some n)) → ⊥
unmentioned [] p n new may = cc
unmentioned (Named from to file ∷ before) p n new may =
    let parts = neither _ _ new in
    ⊎_elim (λ was. unmentioned before p n parts.1 was)
    (λ now. ⊎_elim
    (λ given. not_both _ ((same_is (Some n) file).1 given.1) parts.0)
    (λ taken. not_both _ ((same_is (Some n) None).1 taken.2) refl)
    now)
    (left_named from to file before p (Some n) may)
unmentioned (Settled file bytes ∷ before) p n new may = unmentioned before p n new may
unmentioned (SettledNames ∷ before) p n new may =
    unmentioned before p n new
    (subst (λ e. IsTrue (left before p e)) (sym ((same_is (Some n) (at before p)).0 may))
    (left_now before p))

-- a file is made
created : (old new : String Global) (name : List ℕ) → string_bytes old ≡ name
    → string_bytes new ≡ name → (file : ℕ) (before : List Event) → at before (0, name) ≡ None
    → mentions before file ≡ false
    → Creates (0, name) (moment before) (moment (Named old new (Some file) ∷ before))
created old new name is_old is_new file before free fresh = record {
  free = free;
  file = file;
  made = cond-true _ _ _ (here new name is_new);
  is_new = λ p may. unmentioned before p file fresh may;
  others = λ p other. cond-false _ _ _ (elsewhere new name is_new p other)
      ∙ cond-false _ _ _ (elsewhere old name is_old p other);
  crash = λ p e may. ⊎_elim (λ was. inl was)
      (λ now. ⊎_elim
      (λ given. inr (given.0 ∙ ap (λ n. (0, n)) is_new, given.1))
      (λ taken. absurd (not_both _
      ((has_place p (string_bytes new)).1
      (taken.1 ∙ ap (λ n. (0, n)) (is_old ∙ sym is_new))) taken.0))
      now)
      (left_named old new (Some file) before p e may);
  sure = refl;
}

-- a file gets another name
renamed : (old new : String Global) (from to : List ℕ) → string_bytes old ≡ from
    → string_bytes new ≡ to → (file : Option ℕ) (before : List Event)
    → file ≡ at before (0, from)
    → Renames (0, from) (0, to) (moment before) (moment (Named old new file ∷ before))
renamed old new from to is_old is_new file before is = record {
  moved = cond-true _ _ _ (here new to is_new) ∙ is;
  gone = λ other. cond-false _ _ _ (elsewhere new to is_new (0, from) other)
      ∙ cond-true _ _ _ (here old from is_old);
  others = λ p not_from not_to. cond-false _ _ _ (elsewhere new to is_new p not_to)
      ∙ cond-false _ _ _ (elsewhere old from is_old p not_from);
  crash = λ p e may. ⊎_elim (λ was. inl was)
      (λ now. ⊎_elim
      (λ given. inr (inl (given.0 ∙ ap (λ n. (0, n)) is_new, given.1 ∙ is)))
      (λ taken. inr (inr (taken.1 ∙ ap (λ n. (0, n)) is_old, taken.2)))
      now)
      (left_named old new file before p e may);
  sure = refl;
}

-- a file is taken away
removed : (old new : String Global) (name : List ℕ) → string_bytes old ≡ name
    → string_bytes new ≡ name → (before : List Event)
    → Removes (0, name) (moment before) (moment (Named old new None ∷ before))
removed old new name is_old is_new before = record {
  gone = cond-true _ _ _ (here new name is_new);
  others = λ p other. cond-false _ _ _ (elsewhere new name is_new p other)
      ∙ cond-false _ _ _ (elsewhere old name is_old p other);
  crash = λ p e may. ⊎_elim (λ was. inl was)
      (λ now. ⊎_elim
      (λ given. inr (given.0 ∙ ap (λ n. (0, n)) is_new, given.1))
      (λ taken. inr (taken.1 ∙ ap (λ n. (0, n)) is_old, taken.2))
      now)
      (left_named old new None before p e may);
  sure = refl;
}

-- bytes are made sure of
pub settled : (number : ℕ) (items : Vec ℕ) (bytes : List ℕ) (place : ℕ × List ℕ)
    (before : List Event) → Some items.items ≡ Some bytes → at before place ≡ Some number
    → Settles place bytes (moment before) (moment (Settled number items ∷ before))
unfolding number_in
settled number items bytes place before known is = record {
  at = refl;
  crash = refl;
  settled = λ file there.
      cond-true _ _ _ ((Decides-eqb file number).1 (ap number_in (sym there ∙ is))) ∙ known;
  others = λ file other. cond-false _ _ _ (not_true _
      (λ yes. other (is ∙ ap (λ n. Some n) (sym ((Decides-eqb file number).0 yes)))));
}

-- names are made sure of
pub names_settled : (before : List Event)
    → SettlesNames 0 (moment before) (moment (SettledNames ∷ before))
names_settled before = record {
  at = refl;
  crash = λ p e may. subst (λ f. IsTrue (left before p f))
      (sym ((same_is e (at before p)).0 may)) (left_now before p);
  settled = λ name e may. (same_is e (at before (0, name))).0 may;
  sure = refl;
}

-- an event makes one more moment
pub steps : (Step : Moment → Moment → Type 0) (event : Event) (old new : List Event)
    → new ≡ event ∷ old → Step (moment old) (moment (event ∷ old))
    → Steps Step (Some (moment old ∷ earlier old)) (Some (moment new ∷ earlier new))
unfolding first_or moments_in rest_of
steps Step event old new is step now past told =
    let same = ap moments_in told in
    let first : moment old ≡ now = ap (first_or now) same in
    let rest : earlier old ≡ past = ap rest_of same in (
      moment (event ∷ old),
      ap (λ es. Some (moment es ∷ earlier es)) is
          ∙ (λ t. Some (moment (event ∷ old) ∷ (first t ∷ rest t))),
      subst (λ m. Step m (moment (event ∷ old))) first step,
    )

-- the moment after a file was made
pub creates : (name : List ℕ) (file : ℕ) (old new : List Event)
    → IsNamed name name (Some file) old new → at old (0, name) ≡ None
    → mentions old file ≡ false
    → Steps (Creates (0, name)) (Some (moment old ∷ earlier old))
    (Some (moment new ∷ earlier new))
creates name file old new is free fresh =
    steps (Creates (0, name)) (Named is.gone is.given (Some file)) old new is.event
    (created is.gone is.given name is.gone_is is.given_is file old free fresh)

-- the moment after a file got another name
pub renames : (from to : List ℕ) (file : Option ℕ) (old new : List Event)
    → IsNamed from to file old new → file ≡ at old (0, from)
    → Steps (Renames (0, from) (0, to)) (Some (moment old ∷ earlier old))
    (Some (moment new ∷ earlier new))
renames from to file old new is there =
    steps (Renames (0, from) (0, to)) (Named is.gone is.given file) old new is.event
    (renamed is.gone is.given from to is.gone_is is.given_is file old there)

-- the moment after a file was taken away
pub removes : (name : List ℕ) (old new : List Event) → IsNamed name name None old new
    → Steps (Removes (0, name)) (Some (moment old ∷ earlier old))
    (Some (moment new ∷ earlier new))
removes name old new is =
    steps (Removes (0, name)) (Named is.gone is.given None) old new is.event
    (removed is.gone is.given name is.gone_is is.given_is old)
