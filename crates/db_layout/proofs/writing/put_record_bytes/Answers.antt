use Rattle.std.proofs.Common.{◌≡◌, ◌+◌, ◌<◌, ◌≤◌, ◌++◌, length, get_or, take, drop, sym, ap, ◌∙◌, arith, append_assoc}
use Rattle.std.proofs.Common.{le_trans, flat_map}
use Rattle.std.proofs.lemmas.List.{append-nil, length-take, take_all}
use Rattle.arrayvec.specs.ArrayVec.{array_vec_len}
use Rattle.std.specs.Int.{w128, to_be_bytes}
use Rattle.race_model.specs.Prelude.{version_by, first_share, share_count}
use Rattle.db_layout.specs.Records.{short_bytes, wide_bytes, stored_shares}
use Rattle.db_layout.proofs.Bytes.{flat_map-take_more, record_is, short_is, wide_is}
use Rattle.db_layout.proofs.Bytes.{length-short_bytes, length-wide_bytes, length-stored}
use Rattle.db_layout.proofs.Bytes.{get_or-stored, stored_room}
use Rattle.race_model.proofs.Strategies.Horizons.{most_rolls-most}
use Rattle.db_layout.proofs.Bounds.{bound-most}
use Rattle.db_layout.proofs.writing.put_record_bytes.Goals as goal

pub loop-play-init : goal.loop-play-init
loop-play-init c =
    let wide =
    wide_is c.args.mean c.be_bytes.result
    (rw (← c.numerator.ensures.value) c.be_bytes.ensures) in
    let items : c.add_bytes.new.bytes.items ≡ wide_bytes c.args.mean =
    c.add_bytes.ensures.items ∙ rw c.clear.ensures wide in
    record {
      len = ap length items ∙ length-wide_bytes c.args.mean;
      items = items ∙ sym (append-nil (wide_bytes c.args.mean));
    }

pub loop-play-preserved : goal.loop-play-preserved
loop-play-preserved c =
    let play = get_or c.args.plays.now c.loop-play.play-index 0 in
    let short =
    short_is play c.to_be_bytes.result c.to_be_bytes.ensures in
    record {
      len =
          omega (
            arith,
            c.add_bytes-in-loop-play.ensures.len,
            c.loop-play.invariant.len,
            ap length short,
            length-short_bytes play,
          );
      items =
          c.add_bytes-in-loop-play.ensures.items
          ∙ (rw (c.loop-play.invariant.items, short)
          (append_assoc (wide_bytes c.args.mean)
          (flat_map short_bytes (take c.loop-play.play-index c.args.plays.now))
          (short_bytes play)
          ∙ ap (λ bs. wide_bytes c.args.mean ++ bs)
          (sym (flat_map-take_more short_bytes c.args.plays.now c.loop-play.play-index
          (omega (arith, c.told-plays))))));
    }

pub loop-place-preserved : goal.loop-place-preserved
loop-place-preserved c =
    let version = version_by c.args.header.now.version in
    let shares = c.args.spread.now in
    let stored = stored_shares version c.args.pips shares in
    let room =
    stored_room version c.args.pips
    (most_rolls-most c.args.pips (le_trans c.requires.low (bound-most c.args.header.now))) in
    let inside : c.loop-place.place < share_count version c.args.pips =
    omega (arith, c.loop-place-test.true, c.share_count-place-end.ensures) in
    let fits : first_share version + share_count version c.args.pips ≤ length shares =
    omega (arith, room, c.at.ensures.len) in
    let wide =
    wide_is (get_or stored c.loop-place.place 0) c.be_bytes-in-loop-place.result
    (c.be_bytes-in-loop-place.ensures
    ∙ ap (to_be_bytes w128) (c.at.ensures.value
    ∙ ap (λ n. get_or shares (n + c.loop-place.place) 0) c.first_share-first.ensures
    ∙ sym (get_or-stored (first_share version) (share_count version c.args.pips) shares fits
    c.loop-place.place inside))) in
    let front = wide_bytes c.args.mean ++ flat_map short_bytes c.args.plays.now in
    record {
      len =
          omega (
            arith,
            c.add_bytes-in-loop-place.ensures.len,
            c.loop-place.invariant.len,
            ap length wide,
            length-wide_bytes (get_or stored c.loop-place.place 0),
          );
      items =
          c.add_bytes-in-loop-place.ensures.items
          ∙ (rw (c.loop-place.invariant.items, wide)
          (append_assoc front (flat_map wide_bytes (take c.loop-place.place stored))
          (wide_bytes (get_or stored c.loop-place.place 0))
          ∙ ap (λ bs. front ++ bs)
          (sym (flat_map-take_more wide_bytes stored c.loop-place.place
          (omega (
            arith,
            inside,
            length-stored (first_share version) (share_count version c.args.pips) shares fits,
          ))))));
    }

pub add_bytes-requires-in-loop-place : goal.add_bytes-requires-in-loop-place
add_bytes-requires-in-loop-place c =
    let room =
    stored_room (version_by c.args.header.now.version) c.args.pips
    (most_rolls-most c.args.pips (le_trans c.requires.low (bound-most c.args.header.now))) in
    let fits : array_vec_len c.loop-place.bytes + length c.be_bytes-in-loop-place.result ≤ 426 =
    omega (
      arith,
      room,
      c.loop-place.invariant.len,
      c.loop-place-test.true,
      c.share_count-place-end.ensures,
      ap length c.be_bytes-in-loop-place.ensures,
    ) in
    (omega arith, fits)

pub returns : goal.returns
returns c =
    let version = version_by c.args.header.now.version in
    let stored = stored_shares version c.args.pips c.args.spread.now in
    let all : take c.loop-place.place stored ≡ stored =
    take_all c.loop-place.place stored (omega (
      arith,
      c.loop-place-test.false,
      c.share_count-place-end.ensures,
      length-take (share_count version c.args.pips)
          (drop (first_share version) c.args.spread.now),
    )) in
    c.loop-place.invariant.items
    ∙ (rw all
    (record_is version c.args.pips c.args.mean c.args.plays.now c.args.spread.now))
