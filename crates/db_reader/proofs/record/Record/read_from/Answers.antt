use Rattle.std.proofs.Common.{◌≡◌, ℕ, List, length, take, drop, ◌++◌, Result, Ok, Err, OnOk, ap, subst, ◌∙◌, arith}
use Rattle.std.proofs.lemmas.List.{length-take-le}
use Rattle.std.proofs.Math.Seq.{take-append_seam}
use Rattle.race_model.specs.Prelude.{version_by, record_length, bytes_at, told_record}
use Rattle.race_model.proofs.RightFiles.Places.{length-bytes_at, record_length-most}
use Rattle.db_reader.proofs.record.Record.read_from.Goals as goal

-- what holds on success follows on success
further : {T E P Q : Type 0} (r : Result T E) → (P → Q) → OnOk r P → OnOk r Q
further (Ok x) f p = f p
further (Err e) f p = p

-- a part that is n long in front of a list is what one takes of it
front : (part rest : List ℕ) (n : ℕ) → length part ≡ n → take n (part ++ rest) ≡ part
front part rest n long =
    subst (λ k. take k (part ++ rest) ≡ part) long (take-append_seam part rest)

pub returns-clause-told : goal.returns-clause-told
returns-clause-told g c = λ file told.
    let version = version_by c.args.version in
    let p = c.args.place.pips in
    let size : length (take c.args.place.length c.self.inside.bytes) ≡ c.args.place.length =
    length-take-le c.args.place.length c.self.inside.bytes
    (omega (
      arith,
      c.requires.length,
      record_length-most version p c.requires.low,
      c.self.invariant.0,
    )) in
    further c.read_at.result
    (λ is.
    let into_is : c.read_at.new.into
    ≡ bytes_at file c.args.place.offset c.args.place.length =
    is ∙ ap (λ n. take n (drop c.args.place.offset file)) size in
    let long : length c.read_at.new.into ≡ record_length version p =
    ap length into_is
    ∙ length-bytes_at file c.args.place.offset c.args.place.length (c.requires.inside file told)
    ∙ c.requires.length in
    ap (told_record version p) (front c.read_at.new.into _ (record_length version p) long
    ∙ into_is))
    (c.read_at.ensures.told file told)
