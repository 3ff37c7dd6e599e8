-- Known bytes that grow in several steps.
use Rattle.std.proofs.Common.{ℕ, ◌+◌, List, [], ◌++◌, take, drop, Option, Some, None, sym, subst, ◌∙◌, append_assoc}
use Rattle.std.proofs.Common.{◌≡◌, Result, Ok, Err, IfErr}
use Rattle.std.proofs.lemmas.List.{append-nil}
use Rattle.std.proofs.Math.Seq.{take-add}
use Rattle.std.specs.Result.{OnErr, IsErrAnd}
use Rattle.std.specs.Io.KnownBytes.{Appends, Keeps}

-- what holds at an error holds on an error
pub on-error : {T E P : Type 0} (r : Result T E) → P → OnErr r P
on-error (Ok x) p = tt
on-error (Err e) p = p

-- what holds of the one error that there can be holds on an error
pub one-error : {T E : Type 0} (r : Result T E) (e : E) (P : E → Type 0) →
    IsErrAnd r (λ y. y ≡ e) → P e → IfErr r P
one-error (Ok x) e P h p = tt
one-error (Err y) e P h p = subst P (sym h) p

-- bytes that nothing was done to have grown by none
pub appends_none : (old : Option (List ℕ)) → Appends old old []
appends_none None = tt
appends_none (Some xs) = sym (append-nil xs)

-- bytes that stay have grown by none
pub appends_kept : (old new : Option (List ℕ)) → Keeps old new → Appends old new []
appends_kept None new h = tt
appends_kept (Some xs) None h = h
appends_kept (Some xs) (Some ys) h = h ∙ sym (append-nil xs)

-- bytes that grow twice grow by both
pub appends_twice : (old mid new : Option (List ℕ)) (bs cs : List ℕ) → Appends old mid bs →
    Appends mid new cs → Appends old new (bs ++ cs)
appends_twice None mid new bs cs h g = tt
appends_twice (Some xs) None new bs cs h g = absurd h
appends_twice (Some xs) (Some ys) None bs cs h g = g
appends_twice (Some xs) (Some ys) (Some zs) bs cs h g = rw (g, h) (append_assoc xs bs cs)

-- a prefix that grows by the next bytes is a longer prefix
pub appends_more : (old mid new : Option (List ℕ)) (bytes : List ℕ) (n count : ℕ) →
    Appends old mid (take n bytes) → Appends mid new (take count (drop n bytes)) →
    Appends old new (take (n + count) bytes)
appends_more old mid new bytes n count h g =
    subst (λ (bs : List ℕ). Appends old new bs) (sym (take-add n count bytes))
    (appends_twice old mid new (take n bytes) (take count (drop n bytes)) h g)
