-- How an input is cut into lines, and that nothing else cuts it so.
use Rattle.std.proofs.Common.{◌≡◌, ◌≢◌, ℕ, eqb, Bool, true, false, cond, List, [], ◌∷◌, ◌++◌, All, refl, ap, sym, ◌∙◌}
use Rattle.std.proofs.Common.{append_assoc, eqb-true, flat_map}
use Rattle.std.proofs.lemmas.Bool.{ne_eqb, eqb-false}
use Rattle.std.proofs.Math.Path.{ap₂}
use Rattle.std.proofs.lemmas.Grind.{flat_map-append}
use Rattle.std.proofs.lemmas.List.{append-nil}
use Rattle.std.proofs.lemmas.List.Elements.{All-append, All-cons, All-nil, All-head, All-tail}
use Rattle.race_model.specs.Prelude.{before_first_piece, pieces, before_rest, rest_of, HasNoFeed, IsCut}

-- a byte that is no line feed is before what follows
no_feed : (c : ℕ) → c ≢ 10 → eqb c 10 ≡ false
no_feed c h = ne_eqb c 10 h

-- a byte that is no line feed belongs to the first piece, or to the rest
pieces_byte : (c : ℕ) (bytes : List ℕ) → c ≢ 10 → pieces (c ∷ bytes) ≡ before_first_piece c
    (pieces bytes)
pieces_byte c bytes h = ap (λ b. cond b ([] ∷ pieces bytes) (before_first_piece c (pieces bytes)))
    (no_feed c h)

rest_byte : (c : ℕ) (bytes : List ℕ) → c ≢ 10 → rest_of (c ∷ bytes) ≡ before_rest c (pieces bytes)
    (rest_of bytes)
rest_byte c bytes h = ap (λ b. cond b (rest_of bytes) (before_rest c (pieces bytes)
    (rest_of bytes))) (no_feed c h)

-- bytes without a line feed are all rest
none_whole : (r : List ℕ) → HasNoFeed r → (pieces r ≡ []) × (rest_of r ≡ r)
none_whole [] h = (refl, refl)
none_whole (c ∷ r) h =
    let head = All-head (λ c. c ≢ 10) c r h in
    let more = none_whole r (All-tail (λ c. c ≢ 10) c r h) in (
      pieces_byte c r head ∙ ap (before_first_piece c) more.0,
      rest_byte c r head ∙ ap₂ (before_rest c) more.0 more.1,
    )

-- bytes without a line feed, and then one, are the first piece
one_whole : (p t : List ℕ) → HasNoFeed p → (pieces (p ++ 10 ∷ t) ≡ p ∷ pieces t)
    × (rest_of (p ++ 10 ∷ t) ≡ rest_of t)
one_whole [] t h = (refl, refl)
one_whole (c ∷ p) t h =
    let head = All-head (λ c. c ≢ 10) c p h in
    let more = one_whole p t (All-tail (λ c. c ≢ 10) c p h) in (
      pieces_byte c (p ++ 10 ∷ t) head ∙ ap (before_first_piece c) more.0,
      rest_byte c (p ++ 10 ∷ t) head ∙ ap₂ (before_rest c) more.0 more.1,
    )

-- the pieces with their line feeds
joined : List (List ℕ) → List ℕ
joined parts = flat_map (λ part. part ++ 10 ∷ []) parts

-- pieces with their line feeds come first, and then what follows is cut
cut_after : (parts : List (List ℕ)) (t : List ℕ) → All HasNoFeed parts
    → (pieces (joined parts ++ t) ≡ parts ++ pieces t) × (rest_of (joined parts ++ t) ≡ rest_of t)
unfolding joined
cut_after [] t h = (refl, refl)
cut_after (p ∷ parts) t h =
    let first : (p ++ 10 ∷ []) ++ joined parts ++ t ≡ p ++ 10 ∷ (joined parts ++ t) =
    append_assoc (p ++ 10 ∷ []) (joined parts) t ∙ append_assoc p (10 ∷ []) (joined parts ++ t) in
    let here = one_whole p (joined parts ++ t) (All-head HasNoFeed p parts h) in
    let more = cut_after parts t (All-tail HasNoFeed p parts h) in (
      ap pieces first ∙ here.0 ∙ ap (λ ps. p ∷ ps) more.0,
      ap rest_of first ∙ here.1 ∙ more.1,
    )

-- an input that begins with pieces is cut into these, and then what follows them is
pub more_pieces : (input more : List ℕ) (parts : List (List ℕ)) (rest : List ℕ)
    → IsCut input parts rest
    → pieces (input ++ more) ≡ parts ++ pieces (rest ++ more)
unfolding joined
more_pieces input more parts rest is =
    ap (λ bytes. pieces (bytes ++ more)) is.joined
    ∙ ap pieces (append_assoc (joined parts) rest more)
    ∙ (cut_after parts (rest ++ more) is.each).0

-- an input is its pieces and its rest
pub cut_of : (input : List ℕ) → IsCut input (pieces input) (rest_of input)
cut_of [] = record { joined = refl; each = All-nil HasNoFeed; last = All-nil (λ c. c ≢ 10) }
cut_of (c ∷ bytes) = one_more c bytes (pieces bytes) (rest_of bytes) (eqb c 10) refl (cut_of bytes)
  where
    one_more : (c : ℕ) (bytes : List ℕ) (parts : List (List ℕ)) (rest : List ℕ) (b : Bool)
        → eqb c 10 ≡ b
        → IsCut bytes parts rest
        → IsCut (c ∷ bytes) (cond b ([] ∷ parts) (before_first_piece c parts))
        (cond b rest (before_rest c parts rest))
    one_more c bytes parts rest true e is = record {
      joined = ap (λ n. n ∷ bytes) (eqb-true c 10 e) ∙ ap (λ t. 10 ∷ t) is.joined;
      each = All-cons HasNoFeed [] parts (All-nil (λ c. c ≢ 10)) is.each;
      last = is.last;
    }
    one_more c bytes [] rest false e is = record {
      joined = ap (λ t. c ∷ t) is.joined;
      each = All-nil HasNoFeed;
      last = All-cons (λ c. c ≢ 10) c rest (eqb-false c 10 e) is.last;
    }
    one_more c bytes (part ∷ parts) rest false e is = record {
      joined = ap (λ t. c ∷ t) is.joined;
      each = All-cons HasNoFeed (c ∷ part) parts (All-cons (λ c. c ≢ 10) c part (eqb-false c 10 e)
          (All-head HasNoFeed part parts is.each)) (All-tail HasNoFeed part parts is.each);
      last = is.last;
    }

-- nothing else cuts an input so
pub one_cut : (input : List ℕ) (parts : List (List ℕ)) (rest : List ℕ) → IsCut input parts rest
    → (parts ≡ pieces input) × (rest ≡ rest_of input)
unfolding joined
one_cut input parts rest is =
    let none = none_whole rest is.last in
    let after = cut_after parts rest is.each in (
      sym (ap pieces is.joined ∙ after.0 ∙ ap (λ ps. parts ++ ps) none.0 ∙ append-nil parts),
      sym (ap rest_of is.joined ∙ after.1 ∙ none.1),
    )

-- one line feed more makes the rest a piece
pub feed_more : (input : List ℕ)
    → (pieces (input ++ 10 ∷ []) ≡ pieces input ++ rest_of input ∷ [])
    × (rest_of (input ++ 10 ∷ []) ≡ [])
unfolding joined
feed_more input =
    let is = cut_of input in
    let parts = pieces input in
    let rest = rest_of input in
    let more : IsCut (input ++ 10 ∷ []) (parts ++ rest ∷ []) [] = record {
      joined =
          ap (λ t. t ++ 10 ∷ []) is.joined
          ∙ append_assoc (joined parts) rest (10 ∷ [])
          ∙ ap (λ t. joined parts ++ t) (sym (append-nil (rest ++ 10 ∷ [])))
          ∙ sym (flat_map-append (λ part. part ++ 10 ∷ []) parts (rest ∷ []))
          ∙ sym (append-nil (joined (parts ++ rest ∷ [])));
      each = All-append HasNoFeed parts (rest ∷ []) is.each (All-cons HasNoFeed rest [] is.last
          (All-nil HasNoFeed));
      last = All-nil (λ c. c ≢ 10);
    } in
    let one = one_cut (input ++ 10 ∷ []) (parts ++ rest ∷ []) [] more in
    (sym one.0, sym one.1)

-- any other byte more belongs to the rest
pub byte_more : (input : List ℕ) (c : ℕ) → c ≢ 10
    → (pieces (input ++ c ∷ []) ≡ pieces input)
    × (rest_of (input ++ c ∷ []) ≡ rest_of input ++ c ∷ [])
unfolding joined
byte_more input c other =
    let is = cut_of input in
    let parts = pieces input in
    let rest = rest_of input in
    let more : IsCut (input ++ c ∷ []) parts (rest ++ c ∷ []) = record {
      joined = ap (λ t. t ++ c ∷ []) is.joined ∙ append_assoc (joined parts) rest (c ∷ []);
      each = is.each;
      last = All-append (λ c. c ≢ 10) rest (c ∷ []) is.last (All-cons (λ c. c ≢ 10) c [] other
          (All-nil (λ c. c ≢ 10)));
    } in
    let one = one_cut (input ++ c ∷ []) parts (rest ++ c ∷ []) more in
    (sym one.0, sym one.1)

-- more input leaves the pieces before it, and adds pieces
pub pieces_stay : (input more : List ℕ) → (later : List (List ℕ))
    × (pieces (input ++ more) ≡ pieces input ++ later)
pieces_stay input more = (
  pieces (rest_of input ++ more),
  more_pieces input more (pieces input)
      (rest_of input) (cut_of input),
)
