use Rattle.std.proofs.Common.{◌≡◌, ◌+◌, ◌-◌, length, take, drop, arith, length-drop}
use Rattle.std.proofs.lemmas.List.{take_all}
use Rattle.query_text.proofs.Words.{cut_at, cut_nowhere}
use Rattle.query_text.proofs.query.cut.Goals as goal

pub returns-in-None : goal.returns-in-None
returns-in-None c = cut_nowhere c.args.text.now c.in-None.ensures.place

pub returns-in-Some : goal.returns-in-Some
returns-in-Some c =
    let text = c.args.text.now in
    let place = c.in-Some.place in
    let all : take (length text - (place + 1)) (drop (place + 1) text) ≡ drop (place + 1) text =
    take_all (length text - (place + 1)) (drop (place + 1) text)
    (omega (arith, length-drop (place + 1) text)) in
    rw all (cut_at text place (c.in-Some.ensures {u = tt}).place)
