-- By induction on the turns that a game can take, one way;
-- by the plan to play otherwise at one throw, the other.
use Rattle.race_model.proofs.RightFiles.Right.{right_of_local, local_of_right}
use Rattle.race_model.proofs.laws.right_files.law_right.Goals as goal

pub returns : goal.returns
returns c = record {
  right = right_of_local;
  local = local_of_right;
}
