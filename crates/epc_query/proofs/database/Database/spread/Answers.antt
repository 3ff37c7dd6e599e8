use Rattle.std.proofs.Common.{◌≡◌, ◌≤◌, ◌∙◌, ℕ, sum, get_or, slice_index, ap, arith}
use Rattle.std.proofs.lemmas.Option.{IfSome_then}
use Rattle.race_model.specs.Prelude.{share_of, spread_at}
use Rattle.certificate.specs.RecordNumbers.{shares_of}
use Rattle.certificate.proofs.RecordBytes.{get_or-shares_of, share-of_record}
use Rattle.epc_query.proofs.Known.{known_total}
use Rattle.epc_query.proofs.database.Database.spread.Goals as goal

pub returns-clause-some : goal.returns-clause-some
returns-clause-some c =
    c.spread_in.ensures.some.1
    (ap (λ b. sum (shares_of b)) c.record_at.ensures
    ∙ known_total c.args.self.now c.bound-bound.ensures.right c.args.rank c.requires.rank)

pub returns-clause-recorded : goal.returns-clause-recorded
returns-clause-recorded c =
    let f = c.args.self.now in
    let r = c.args.rank in
    IfSome_then c.spread_in.result
    {P = λ shares. shares ≡ shares_of c.record_at.result}
    {Q = λ shares. (k : ℕ) → k ≤ 22 → slice_index shares k ≡ spread_at f r k}
    c.spread_in.ensures.value
    (λ shares same k few.
    ap (λ xs. get_or xs k 0) same
    ∙ get_or-shares_of c.record_at.result k (omega (arith, few))
    ∙ ap (λ b. share_of b k) c.record_at.ensures ∙ share-of_record f r k)
