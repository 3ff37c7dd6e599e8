-- A text tells one thing.
use Rattle.std.proofs.Common.{◌≡◌, ◌∙◌, ◌==◌, [], ℕ, List, Bool, true, false, Option, Some, None, Ok}
use Rattle.std.proofs.Common.{length, get_or, sym, ap, subst, refl, arith, ⊎_elim}
use Rattle.race_model.specs.Prelude.{Die, number, one, two, three, four, five, six}
use Rattle.race_model.proofs.Dice.Faces.{number_positive}
use Rattle.legal_plays.specs.Faces.{face, roll_of}
use Rattle.legal_plays.specs.declared.roll.Roll.{Roll}
use Rattle.home_board.proofs.Texts.{text_apart}
use Rattle.notation.specs.declared.told.Player.{Player}
use Rattle.notation.specs.declared.told.Player.TheVariants.{Bottom, Top}
use Rattle.notation.specs.declared.told.Told.{Told}
use Rattle.notation.specs.declared.told.Race.{Race}
use Rattle.notation.specs.Ids.{AreThrown, IsMatchId, IsPositionId}
use Rattle.notation.specs.Xgids.{IsDiceText, IsXgid, turn_text}
use Rattle.notation.specs.Readings.{fields, trimmed, has_comma, AreIds, HasMatchId, TellsAs, Tells, IsRace, IsCounts}
use Rattle.notation.specs.Readings.{IsReadingAs, IsReading}
use Rattle.notation.proofs.Keys.{key_same}

-- a number is shown by one die
face_of : (d : Die) → face (number d) ≡ d
face_of one = refl
face_of two = refl
face_of three = refl
face_of four = refl
face_of five = refl
face_of six = refl

-- one number is shown by one die
one_die : (a b : Die) → number a ≡ number b → a ≡ b
one_die a b e = sym (face_of a) ∙ ap face e ∙ face_of b

-- two numbers are shown by one roll
one_roll : (a b x y : Die) → number a ≡ number x → number b ≡ number y → roll_of a b ≡ roll_of x y
one_roll a b x y p q = rw (one_die a x p, one_die b y q) refl

-- a Match ID tells one roll
same_thrown : (m n : ℕ) (a b : Option Roll) → AreThrown m n a → AreThrown m n b → a ≡ b
same_thrown m n None None p q = refl
same_thrown m n None (Some r) p q = absurd (omega (arith, number_positive q.0, q.2, p.0))
same_thrown m n (Some r) None p q = absurd (omega (arith, number_positive p.0, p.2, q.0))
same_thrown m n (Some r) (Some s) p q =
    ap (λ roll. Some roll)
    (p.4 ∙ one_roll p.0 p.1 q.0 q.1 (p.2 ∙ sym q.2) (p.3 ∙ sym q.3) ∙ sym q.4)

-- no text tells dice and none
no_dice : (text : List ℕ) (r : Roll) → IsDiceText text None → IsDiceText text (Some r) → ⊥
no_dice text r none q =
    ⊎_elim (λ e. omega (arith, number_positive q.0, ap (λ t. get_or t 0 0) (sym e ∙ q.2)))
    (λ e. omega (arith, ap length (sym e ∙ q.2))) none

-- an XGID tells one roll
same_dice : (text : List ℕ) (a b : Option Roll) → IsDiceText text a → IsDiceText text b → a ≡ b
same_dice text None None p q = refl
same_dice text None (Some r) p q = absurd (no_dice text r p q)
same_dice text (Some r) None p q = absurd (no_dice text r q p)
same_dice text (Some r) (Some s) p q =
    let e = sym p.2 ∙ q.2 in
    let high : number p.0 ≡ number q.0 = omega (arith, ap (λ t. get_or t 0 0) e) in
    let low : number p.1 ≡ number q.1 = omega (arith, ap (λ t. get_or t 1 0) e) in
    ap (λ roll. Some roll) (p.3 ∙ one_roll p.0 p.1 q.0 q.1 high low ∙ sym q.3)

-- a turn tells one player
same_turn : (a b : Player) → turn_text a ≡ turn_text b → a ≡ b
same_turn Bottom Bottom e = refl
same_turn Bottom Top e = absurd (omega (arith, ap length e))
same_turn Top Bottom e = absurd (omega (arith, ap length e))
same_turn Top Top e = refl

-- what is told is its parts
same_told : (a b : Told) → a.mine ≡ b.mine → a.theirs ≡ b.theirs → a.roll ≡ b.roll →
    a.on_roll ≡ b.on_roll → a ≡ b
same_told a b mine theirs roll on_roll =
    ap (λ x. of x a.theirs a.roll a.on_roll) mine ∙ ap (λ x. of b.mine x a.roll a.on_roll) theirs
    ∙ ap (λ x. of b.mine b.theirs x a.on_roll) roll ∙ ap (λ x. of b.mine b.theirs b.roll x) on_roll
  where
    of : List ℕ → List ℕ → Option Roll → Option Player → Told
    of m t r p = record { mine = m; theirs = t; roll = r; on_roll = p }

-- an XGID tells one thing
same_xgid : (parts : List (List ℕ)) (a b : Told) → IsXgid parts a → IsXgid parts b → a ≡ b
same_xgid parts a b p q =
    let e = sym p.ten ∙ q.ten in
    let board : p.fields.board ≡ q.fields.board = ap (λ l. get_or l 0 []) e in
    let dice : p.fields.dice ≡ q.fields.dice = ap (λ l. get_or l 4 []) e in
    let player = same_turn p.player q.player (ap (λ l. get_or l 3 []) e) in
    same_told a b (rw (p.mine, q.mine, player, board) refl)
    (rw (p.theirs, q.theirs, player, board) refl)
    (same_dice q.fields.dice a.roll b.roll (subst (λ t. IsDiceText t a.roll) dice p.dice) q.dice)
    (rw (p.on_roll, q.on_roll, player) refl)

-- a Position ID tells one position of each player
same_sides : (text ts ms us ns : List ℕ) → IsPositionId text ts ms → IsPositionId text us ns →
    (ts ≡ us) × (ms ≡ ns)
same_sides text ts ms us ns p q =
    let first = key_same ts us _ _ (p.their_places ∙ sym q.their_places) (sym p.bits ∙ q.bits) in
    (first.0, (key_same ms ns 0 0 (p.my_places ∙ sym q.my_places) first.1).0)

-- a Match ID tells one thing
same_match : (more : List (List ℕ)) (a b : Told) → HasMatchId more a → HasMatchId more b →
    (a.roll ≡ b.roll) × (a.on_roll ≡ b.on_roll)
same_match more a b p q =
    let game : p.game ≡ q.game = ap (λ l. get_or l 0 []) (sym p.second ∙ q.second) in
    let is = subst (λ t. IsMatchId t p.player a.roll) game p.is in (
      same_thrown _ _ a.roll b.roll is.dice q.is.dice,
      p.on_roll ∙ ap (λ player. Some player) (is.on_roll ∙ sym q.is.on_roll) ∙ sym q.on_roll,
    )

-- IDs tell one thing
same_ids : (words : List (List ℕ)) (a b : Told) → AreIds words a → AreIds words b → a ≡ b
same_ids words a b p q =
    let e = sym p.first ∙ q.first in
    let id : p.id ≡ q.id = ap (λ l. get_or l 0 []) e in
    let more : p.more ≡ q.more = cc in
    let sides = same_sides q.id a.theirs a.mine b.theirs b.mine
    (subst (λ t. IsPositionId t a.theirs a.mine) id p.is) q.is in
    let rest = by more in
    same_told a b sides.1 sides.0 rest.0 rest.1
  where
    none : (more : List (List ℕ)) → more ≡ [] → (told : Told) → HasMatchId more told → ⊥
    none more e told h = omega (arith, ap length (sym e ∙ h.second))

    by : p.more ≡ q.more → (a.roll ≡ b.roll) × (a.on_roll ≡ b.on_roll)
    by more =
        ⊎_elim (λ x. ⊎_elim (λ y. (x.1 ∙ sym y.1, x.2 ∙ sym y.2))
        (λ y. absurd (none p.more x.0 b (subst (λ m. HasMatchId m b) (sym more) y))) q.rest)
        (λ x. ⊎_elim (λ y. absurd (none q.more y.0 a (subst (λ m. HasMatchId m a) more x)))
        (λ y. same_match q.more a b (subst (λ m. HasMatchId m a) more x) y) q.rest) p.rest

-- a text tells one thing of both players
same_telling : (text : List ℕ) (a b : Told) → Tells text a → Tells text b → a ≡ b
same_telling text a b p q = by (length (fields text) == 10) p q
  where
    by : (t : Bool) → TellsAs t text a → TellsAs t text b → a ≡ b
    by true p q = same_xgid (fields text) a b p q
    by false p q = same_ids _ a b p q

-- a race is its parts
same_races : (a b : Race) → a.mine ≡ b.mine → a.theirs ≡ b.theirs → a.roll ≡ b.roll →
    a.on_roll ≡ b.on_roll → a ≡ b
same_races a b mine theirs roll on_roll =
    ap (λ x. of x a.theirs a.roll a.on_roll) mine ∙ ap (λ x. of b.mine x a.roll a.on_roll) theirs
    ∙ ap (λ x. of b.mine b.theirs x a.on_roll) roll ∙ ap (λ x. of b.mine b.theirs b.roll x) on_roll
  where
    of : List ℕ → Option (List ℕ) → Option Roll → Option Player → Race
    of m t r p = record { mine = m; theirs = t; roll = r; on_roll = p }

-- what is told is one race
same_race : (told : Told) (a b : Race) → IsRace told a → IsRace told b → a ≡ b
same_race told a b p q =
    same_races a b (p.mine ∙ sym q.mine) (p.theirs ∙ sym q.theirs) (p.roll ∙ sym q.roll)
    (p.on_roll ∙ sym q.on_roll)

-- six counts are one race
same_counts : (text : List ℕ) (a b : Race) → IsCounts text a → IsCounts text b → a ≡ b
same_counts text a b p q =
    same_races a b (text_apart text a.mine b.mine p.mine q.mine) (p.theirs ∙ sym q.theirs)
    (p.roll ∙ sym q.roll) (p.on_roll ∙ sym q.on_roll)

-- a text is read as one race
pub one_reading : (text : List ℕ) (a b : Race) → IsReading text (Ok a) → IsReading text (Ok b) →
    a ≡ b
one_reading text a b p q = by (has_comma text) p q
  where
    by : (t : Bool) → IsReadingAs t text (Ok a) → IsReadingAs t text (Ok b) → a ≡ b
    by true p q = same_counts (trimmed text) a b p q
    by false p q =
        same_race q.0 a b
        (subst (λ told. IsRace told a) (same_telling text p.0 q.0 p.1 q.1) p.2) q.2
