-- A book over more throws.
use Rattle.std.specs.Prelude.{ℕ, suc, ◌+◌, ◌*◌, ◌^◌, nat_le, if◌then◌else◌}
use Rattle.race_model.specs.Books.{Book}

-- what a book says, over d throws more: the same plays, and each number once for each sequence of
-- these d throws. No game that it plays has more rolls than the book had throws
abbrev pub further_by : ℕ → Book → Book
further_by d f = record {
  further = d + f.further;
  bound = f.bound;
  means = λ r. 36 ^ d * f.means r;
  plays = f.plays;
  shares = λ r k. if nat_le k (suc f.further) then 36 ^ d * f.shares r k else 0;
}
