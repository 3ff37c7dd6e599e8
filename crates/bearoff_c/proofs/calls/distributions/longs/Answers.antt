use Rattle.std.proofs.Common.{◌<◌, [], ◌∷◌, ◌++◌, length, map, take, refl, ap, sym, ◌∙◌, arith, take_all}
use Rattle.std.proofs.lemmas.List.{length-set, map-append, take_more, take_more_set}
use Rattle.bearoff_c.specs.Longs.{long_number_of}
use Rattle.bearoff_c.proofs.calls.distributions.longs.Goals as goal

pub loop-k-init : goal.loop-k-init
loop-k-init c = record { size = refl; told = refl }

pub loop-k-preserved : goal.loop-k-preserved
loop-k-preserved c =
    let k = c.loop-k.k in
    let longs = c.loop-k.longs in
    let shares = c.args.shares.now in
    let one = c.of.result in
    let low : k < length longs = omega (arith, c.loop-k.invariant.size, c.loop-k-test.true) in
    let inside : k < length shares = omega arith in
    record {
      size = length-set longs k one ∙ c.loop-k.invariant.size;
      told = ap (map long_number_of) (take_more_set longs k one low)
          ∙ map-append long_number_of (take k longs) (one ∷ [])
          ∙ ap (λ ns. ns ++ long_number_of one ∷ []) c.loop-k.invariant.told
          ∙ ap (λ n. take k shares ++ n ∷ []) c.of.ensures
          ∙ sym (take_more shares k c.index-shares-k.result inside);
    }

pub returns : goal.returns
returns c =
    let k = c.loop-k.k in
    let longs = c.loop-k.longs in
    let shares = c.args.shares.now in
    ap (map long_number_of) (sym (take_all k longs (omega (arith, c.loop-k.invariant.size))))
    ∙ c.loop-k.invariant.told ∙ take_all k shares (omega arith)
