use Rattle.std.proofs.Common.{◌≡◌, ◌<◌, [], ℕ, List, Bor, map, get_or, sym, subst, refl, arith}
use Rattle.notation.specs.declared.told.Told.{Told}
use Rattle.notation.specs.Xgids.{IsXgid, IsOwner, IsDiceText, in_order}
use Rattle.notation.proofs.Pieces.{listed, told_at}
use Rattle.notation.proofs.xgid.read_xgid.Goals as goal

-- one of them
field_at : (fields : List (Bor (List ℕ))) (d : Bor (List ℕ)) (told : Told)
    (is : IsXgid (map (λ field. field.now) fields) told) (n : ℕ) → n < 10 →
    (get_or fields n d).now ≡ get_or (in_order is.player is.fields) n []
field_at fields d told is n low = told_at (λ field. field.now) fields n d _ is.ten low

pub returns-then-not-is_owner : goal.returns-then-not-is_owner
returns-then-not-is_owner c = λ told is.
    let same = field_at c.args.fields.now _ told is 2 (omega arith) in
    let h = (c.if-not-is_owner.ensures {u = tt}).1 (subst IsOwner (sym same) is.owner) in
    cc

pub returns-then-not-are_numbers : goal.returns-then-not-are_numbers
returns-then-not-are_numbers c = λ told is.
    let fields = c.args.fields.now in
    let bad =
    rw (
      field_at fields _ told is 1 (omega arith),
      field_at fields _ told is 5 (omega arith),
      field_at fields _ told is 6 (omega arith),
      field_at fields _ told is 7 (omega arith),
      field_at fields _ told is 8 (omega arith),
      field_at fields _ told is 9 (omega arith),
    ) at c.are_numbers.ensures in
    let h = is.numbers in
    let k = c.if-not-are_numbers.true in
    cc

pub returns-in_default : goal.returns-in_default
returns-in_default c = λ told is.
    c.in_default.ensures is.player
    (field_at c.args.fields.now _ told is 3 (omega arith))

pub returns-in_default-read_dice : goal.returns-in_default-read_dice
returns-in_default-read_dice c = λ told is.
    let same = field_at c.args.fields.now _ told is 4 (omega arith) in
    c.in_default-read_dice.ensures told.roll
    (subst (λ t. IsDiceText t told.roll) (sym same) is.dice)

pub returns : goal.returns
returns c =
    let fields = c.args.fields.now in
    let d : Bor (List ℕ) = record { ref_ptr = (0, 0); now = [] } in
    let all = listed (λ field. field.now) fields 0 10 d (sym c.requires) in
    let turn = c.in-Some.ensures {u = tt} in
    record {
      fields = record {
        board = (get_or fields 0 d).now;
        cube = (get_or fields 1 d).now;
        owner = (get_or fields 2 d).now;
        dice = (get_or fields 4 d).now;
        one = (get_or fields 5 d).now;
        other = (get_or fields 6 d).now;
        rule = (get_or fields 7 d).now;
        points = (get_or fields 8 d).now;
        most = (get_or fields 9 d).now;
      };
      player = c.in-Some.player;
      ten = rw turn at all;
      board = sym (c.if-not-is_board.ensures {u = tt});
      owner = (c.if-not-is_owner.ensures {u = tt}).0 refl;
      numbers = sym (c.if-not-are_numbers.ensures {u = tt});
      dice = c.in-Some-read_dice.ensures;
      on_roll = refl;
      mine = c.side_of.ensures;
      theirs = rw (← c.opponent.ensures) c.side_of-2.ensures;
    }
