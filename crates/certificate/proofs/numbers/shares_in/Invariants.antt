use Rattle.std.proofs.Common.{◌≡◌, ℕ, ◌<◌, length, get_or}
use Rattle.race_model.specs.Prelude.{share_of}
use Rattle.certificate.proofs.numbers.shares_in.Given as goal

-- the shares of fewer rolls are read
abbrev pub invariant-loop-k : goal.invariant-loop-k
invariant-loop-k l = record {
  len : length l.shares ≡ 23;
  read : (j : ℕ) → j < l.k → get_or l.shares j 0 ≡ share_of l.view j;
}
