-- The mean of any other position is tested by its plays.
use Rattle.std.proofs.Common.{sym, ◌∙◌, rules}
use Rattle.std.proofs.lemmas.Bool.{false≢true}
use Rattle.race_model.specs.Prelude.{IsFinished}
use Rattle.certificate.proofs.BoardNumberTests.{results-are, below-are, mean-is}
use Rattle.certificate.proofs.equations.PlayedRecordNumbers.has_mean.Goals.{Else-is_finished}
use Rattle.certificate.proofs.equations.PlayedRecordNumbers.has_mean.Goals as goal

unfinished : (c : Else-is_finished) → ¬ IsFinished c.args.self.now.position.now
unfinished c end = false≢true (sym c.if-is_finished.false ∙ c.is_finished.ensures.value.1 end)

pub mean_of-mean-requires-clause-below : goal.mean_of-mean-requires-clause-below
mean_of-mean-requires-clause-below c = below-are c.requires.0 (unfinished c)

pub mean_of-mean-requires-clause-results : goal.mean_of-mean-requires-clause-results
mean_of-mean-requires-clause-results c = results-are c.requires.0 (unfinished c)

pub returns : goal.returns
returns c =
    let is = mean-is c.requires.0 (unfinished (goal.at.returns c).Else-is_finished)
    c.mean_of-mean.result c.mean_of-mean.ensures in
    search rules
