-- The first part of a text ends at its first line feed.
use Rattle.std.proofs.Common.{◌≡◌, ◌∙◌, ◌+◌, ◌==◌, ◌∷◌, length, take, drop, ◌-◌, ap, sym, arith, length-drop}
use Rattle.std.specs.List.{position_or_len}
use Rattle.std.proofs.lemmas.List.{get_or_default, take_all}
use Rattle.std.proofs.lemmas.List.Splits.{slice_split_first, slice_split_none}
use Rattle.std.proofs.lemmas.List.Sums.{position_or_len_is}
use Rattle.std.proofs.lemmas.Bool.{ne_eqb}
use Rattle.std.proofs.lemmas.Bool.Decides.{nat_tests}
use Rattle.bearoff_cli.specs.Shows.{parts_of}
use Rattle.bearoff_cli.proofs.show.first_line.Goals as goal

pub returns-then-byte-eq10-clause-lines : goal.returns-then-byte-eq10-clause-lines
returns-then-byte-eq10-clause-lines c =
    let text = c.args.text.now in
    let at = c.loop-at.at in
    let place : position_or_len (λ c. c == 10) text ≡ at =
    position_or_len_is (λ c. c == 10) text at 0 (omega arith)
    (λ k low. grind (arith, nat_tests, c.loop-at.invariant k low))
    (λ low. grind (arith, nat_tests, c.if-byte-eq10.true)) in
    slice_split_first (λ c. c == 10) text 0 (omega (arith, place, c.loop-at-test.true))
    ∙ ap (λ n. take n text ∷ parts_of (drop (n + 1) text)) place
    ∙ ap (λ rest. take at text ∷ parts_of rest) (sym (take_all (length text - (at + 1))
    (drop (at + 1) text) (omega (arith, length-drop (at + 1) text))))

pub returns-clause-lines : goal.returns-clause-lines
returns-clause-lines c = slice_split_none (λ c. c == 10) c.args.text.now
    (λ k d low. ne_eqb _ 10 (λ is. c.loop-at.invariant k (omega (arith, low, c.loop-at-test.false))
    (get_or_default c.args.text.now k 0 d low ∙ is)))
