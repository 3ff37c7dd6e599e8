use Rattle.std.proofs.Common.{ℕ, ◌*◌, ◌^◌, slice_index, ap, sym, ◌∙◌, cond}
use Rattle.std.proofs.lemmas.Bool.{le-leb, lt-leb}
use Rattle.race_model.specs.Prelude.{book_of, spread_at, further_by}
use Rattle.query_text.proofs.Parts.{dist_up}
use Rattle.epc_query.proofs.database.Database.put_dist.Goals as goal

pub returns-clause-text : goal.returns-clause-text
returns-clause-text c =
    let f = c.args.self.now in
    let r = c.args.rank in
    let share : ℕ → ℕ = λ k. 36 ^ 11 * spread_at f r k in
    dist_up (slice_index c.in_ok-spread.spread) ((further_by 11 (book_of f)).shares r)
    c.put_dist.new.text.bytes
    (λ k few.
    ap (λ b. cond b (share k) 0) (le-leb k 22 few)
    ∙ ap (λ n. 36 ^ 11 * n) (sym ((c.in_ok-spread.ensures {u = tt}).recorded k few)))
    (λ k beyond few. ap (λ b. cond b (share k) 0) (lt-leb k 22 beyond))
    c.put_dist.ensures.text
