-- The places of the two dice of a roll stand in the tables under its index.
use Rattle.std.proofs.Common.{◌≡◌, ℕ, ◌-◌, ◌<◌, slice_index}
use Rattle.std.proofs.lemmas.List.{get_or-map}
use Rattle.race_model.specs.Prelude.{one, Throw, number, all_rolls, roll_at}
use Rattle.least_plays.specs.declared.starts.TheConstants.{HIGH_PLACES, LOW_PLACES}

-- a throw
any : Throw
any = record { first = one; second = one }

pub high_at : (i : ℕ) → i < 21 → slice_index HIGH_PLACES i ≡ number (roll_at i).first - 1
unfolding roll_at all_rolls any
high_at i lt = get_or-map (λ (v : Throw). number v.first - 1) all_rolls i any 0 lt

pub low_at : (i : ℕ) → i < 21 → slice_index LOW_PLACES i ≡ number (roll_at i).second - 1
unfolding roll_at all_rolls any
low_at i lt = get_or-map (λ (v : Throw). number v.second - 1) all_rolls i any 0 lt
