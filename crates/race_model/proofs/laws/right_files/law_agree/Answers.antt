-- A least total is one number; the lowest rank and the shares
-- follow from the means, and the bytes from the numbers.
use Rattle.std.proofs.Common.{sym, ◌∙◌}
use Rattle.race_model.proofs.RightFiles.RightFacts.{means_agree}
use Rattle.race_model.proofs.RightFiles.Built.{built_same}
use Rattle.race_model.proofs.RightFiles.SameBytes.{one_file}
use Rattle.race_model.proofs.laws.right_files.law_agree.Goals as goal

pub returns : goal.returns
returns c = record {
  right = means_agree;
  built = built_same;
  same_bytes = one_file;
  one_built =
      λ version bound f g built_f built_g.
      one_file f g built_f.bytes built_g.bytes built_f.local.file built_g.local.file
      (built_f.version_is ∙ sym built_g.version_is)
      (built_same version version bound f g built_f built_g);
}
