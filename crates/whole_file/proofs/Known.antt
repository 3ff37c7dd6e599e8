-- Known bytes.
use Rattle.std.proofs.Common.{◌≡◌, ℕ, List, Option, None, Some, IsSome, refl, sym, ap, ◌∙◌, true≢false, Result}
use Rattle.std.proofs.Common.{Ok, Err, OnErr}
use Rattle.std.specs.Io.KnownBytes.{Keeps}

-- bytes that were known stay
pub known_kept : (old new : Option (List ℕ)) (bytes : List ℕ) → Keeps old new → old ≡ Some bytes
    → new ≡ Some bytes
known_kept None new bytes kept known = cc
known_kept (Some xs) None bytes kept known = absurd kept
known_kept (Some xs) (Some ys) bytes kept known = ap (λ zs. Some zs) kept ∙ known

-- bytes that are known are some
pub is_known : (contents : Option (List ℕ)) → IsSome contents
    → (bytes : List ℕ) × (contents ≡ Some bytes)
is_known None some = absurd (true≢false (sym some))
is_known (Some bytes) some = (bytes, refl)

-- what holds anyhow holds at a refusal
pub on_err : {A E X : Type 0} (result : Result A E) → X → OnErr result X
on_err (Ok x) holds = tt
on_err (Err e) holds = holds
