-- The replies to the lines of an input, line by line.
use Rattle.std.proofs.Common.{◌≡◌, ◌≢◌, ◌⊎◌, inl, inr, ℕ, zero, suc, ◌+◌, ◌-◌, ◌<◌, ◌≤◌, Bool, true, false, cond, eqb}
use Rattle.std.proofs.Common.{List, [], ◌∷◌, ◌++◌, length, get_or, take, drop, map, Option, Some, None, refl, ap, sym}
use Rattle.std.proofs.Common.{subst, ◌∙◌, arith, append_assoc, length-append}
use Rattle.std.specs.Io.KnownBytes.{Appends, Keeps, Consumes, IsAtEnd}
use Rattle.std.proofs.lemmas.List.{append-nil, take-append-le, take_all, length-take, map-append, get_or_append_left}
use Rattle.std.proofs.lemmas.List.{get_or_push, length_push, take_more, take-append-drop, get_or-drop, length-drop}
use Rattle.std.proofs.Math.Seq.{take-append-add, take-add}
use Rattle.std.proofs.lemmas.Bool.{cases_lt}
use Rattle.race_model.specs.Prelude.{Query, IsQuery, Refusal, IsRefused, no_query, of_too_many, of_over_bound}
use Rattle.race_model.specs.Prelude.{of_finished, of_no_result, Book, IsReplyIn, answered, refused, pieces, rest_of}
use Rattle.race_model.specs.Prelude.{without_return, whole_lines, last_line, lines_of, HasNoFeed}
use Rattle.std.proofs.lemmas.List.Elements.{All-head, All-tail}
use Rattle.db_layout.specs.Writes.{AppendsPart}
use Rattle.db_layout.proofs.Known.{appends_kept, appends_twice}
use Rattle.epc_query.specs.declared.run_fault.RunFault.{RunFault}
use Rattle.epc_query.specs.declared.run_fault.RunFault.TheVariants.{Read, Write, Table, Memory, Turns}
use Rattle.epc_query.specs.Runs.{AreReplies, HasReplies, HasPart, IsMovesLine, IsRecordsLine}
use Rattle.epc_query.specs.Runs.{IsStoppedAt, IsRunStopped, IsFirstFeed, IsAnswered}
use Rattle.query_text.proofs.Held.{appends_same, part_after, part_all}

-- the reply to one line
pub one_reply : (f : Book) (line reply : List ℕ) (old new : Option (List ℕ))
    → IsReplyIn f line reply
    → Appends old new reply → HasReplies f (line ∷ []) old new
one_reply f line reply old new is h =
    record { text = reply; replies = (reply, [], is, refl, sym (append-nil reply)); written = h }

-- a prefix of the reply to one line
pub one_part : (f : Book) (line reply : List ℕ) (old new : Option (List ℕ))
    → IsReplyIn f line reply
    → AppendsPart old new reply → HasPart f (line ∷ []) old new
one_part f line reply old new is h =
    record { text = reply; replies = (reply, [], is, refl, sym (append-nil reply)); written = h }

-- the replies to some lines and then to others
both_replies : (f : Book) (lines more : List (List ℕ)) (text others : List ℕ)
    → AreReplies f lines text → AreReplies f more others
    → AreReplies f (lines ++ more) (text ++ others)
both_replies f [] more text others e are = subst (AreReplies f more)
    (ap (λ t. t ++ others) (sym e)) are
both_replies f (line ∷ lines) more text others (reply, rest, is, are, e) others_are = (
  reply,
  rest ++ others,
  is,
  both_replies f lines more rest others are others_are,
  ap (λ t. t ++ others) e ∙ append_assoc reply rest others,
)

pub more_replies : (f : Book) (lines more : List (List ℕ)) (old mid new : Option (List ℕ))
    → HasReplies f lines old mid → HasReplies f more mid new
    → HasReplies f (lines ++ more) old new
more_replies f lines more old mid new a b = record {
  text = a.text ++ b.text;
  replies = both_replies f lines more a.text b.text a.replies b.replies;
  written = appends_twice old mid new a.text b.text a.written b.written;
}

pub more_part : (f : Book) (lines more : List (List ℕ)) (old mid new : Option (List ℕ))
    → HasReplies f lines old mid → HasPart f more mid new
    → HasPart f (lines ++ more) old new
more_part f lines more old mid new a b = record {
  text = a.text ++ b.text;
  replies = both_replies f lines more a.text b.text a.replies b.replies;
  written = part_after old mid new a.text b.text a.written b.written;
}

-- the answers to lines before others stopped as those to all of them
pub stopped_longer : (f : Book) (lines more : List (List ℕ)) (old new : Option (List ℕ))
    (fault : RunFault) → IsStoppedAt f lines old new fault
    → IsStoppedAt f (lines ++ more) old new fault
stopped_longer f lines more old new Read h = h
stopped_longer f lines more old new Turns h = h
stopped_longer f lines more old new Write (n, low, is) = (
  n,
  omega (arith, low, length-append lines more),
  subst (λ ls. HasPart f ls old new)
      (sym (take-append-le n lines more low)) is,
)
stopped_longer f lines more old new Table (n, low, records, is) = (
  n,
  omega (arith, low, length-append lines more),
  subst (IsRecordsLine f) (sym (get_or_append_left lines more [] n low)) records,
  subst (λ ls. HasReplies f ls old new) (sym (take-append-le n lines more (omega arith))) is,
)
stopped_longer f lines more old new Memory (n, low, moves, is) = (
  n,
  omega (arith, low, length-append lines more),
  subst (IsMovesLine f) (sym (get_or_append_left lines more [] n low)) moves,
  subst (λ ls. HasReplies f ls old new) (sym (take-append-le n lines more (omega arith))) is,
)

-- the answer to one more line stopped after the replies to those before it
pub stopped_after : (f : Book) (lines : List (List ℕ)) (line : List ℕ)
    (old mid new : Option (List ℕ)) (fault : RunFault) → HasReplies f lines old mid
    → IsStoppedAt f (line ∷ []) mid new fault → IsStoppedAt f (lines ++ line ∷ []) old new fault
stopped_after f lines line old mid new Read has h = h
stopped_after f lines line old mid new Turns has h = h
stopped_after f lines line old mid new Write has (n, low, is) = (
  length lines + n,
  omega (arith, low, length-append lines (line ∷ [])),
  subst (λ ls. HasPart f ls old new) (sym (take-append-add lines (line ∷ []) n))
      (more_part f lines (take n (line ∷ [])) old mid new has is),
)
stopped_after f lines line old mid new Table has (zero, low, records, is) = (
  length lines + 0,
  omega (arith, length-append lines (line ∷ [])),
  subst (IsRecordsLine f)
      (sym (get_or_push lines line [] (length lines + 0) (omega arith))) records,
  subst (λ ls. HasReplies f ls old new) (sym (take-append-add lines (line ∷ []) 0))
      (more_replies f lines [] old mid new has is),
)
stopped_after f lines line old mid new Table has (suc n, low, records, is) = absurd (omega arith)
stopped_after f lines line old mid new Memory has (zero, low, moves, is) = (
  length lines + 0,
  omega (arith, length-append lines (line ∷ [])),
  subst (IsMovesLine f) (sym (get_or_push lines line [] (length lines + 0) (omega arith))) moves,
  subst (λ ls. HasReplies f ls old new) (sym (take-append-add lines (line ∷ []) 0))
      (more_replies f lines [] old mid new has is),
)
stopped_after f lines line old mid new Memory has (suc n, low, moves, is) = absurd (omega arith)

-- what is answered to one line is answered to another, where each reply to it is one to that
pub record IsHeardAs (f : Book) (line other : List ℕ) : Type 0 where
  pub replies : (reply : List ℕ) → IsReplyIn f line reply → IsReplyIn f other reply
  pub moves : IsMovesLine f line → IsMovesLine f other
  pub records : IsRecordsLine f line → IsRecordsLine f other

pub replies_as : (f : Book) (line other : List ℕ) (old new : Option (List ℕ))
    → IsHeardAs f line other
    → HasReplies f (line ∷ []) old new → HasReplies f (other ∷ []) old new
replies_as f line other old new same has =
    let (reply, rest, is, are, e) = has.replies in
    record {
      text = has.text;
      replies = (reply, rest, same.replies reply is, are, e);
      written =
          has.written;
    }

pub stopped_as : (f : Book) (line other : List ℕ) (old new : Option (List ℕ)) (fault : RunFault)
    → IsHeardAs f line other → IsStoppedAt f (line ∷ []) old new fault
    → IsStoppedAt f (other ∷ []) old new fault
stopped_as f line other old new Read same h = h
stopped_as f line other old new Turns same h = h
stopped_as f line other old new Write same (zero, low, is) =
    (0, low, record { text = is.text; replies = is.replies; written = is.written })
stopped_as f line other old new Write same (suc zero, low, is) =
    let (reply, rest, replied, are, e) = is.replies in (
      1,
      low,
      record {
        text = is.text;
        replies = (
          reply,
          rest,
          same.replies reply replied,
          are,
          e,
        );
        written = is.written;
      },
    )
stopped_as f line other old new Write same (suc (suc n), low, is) = absurd (omega arith)
stopped_as f line other old new Table same (zero, low, records, is) = (
  0,
  low,
  same.records records,
  record { text = is.text; replies = is.replies; written = is.written },
)
stopped_as f line other old new Table same (suc n, low, records, is) = absurd (omega arith)
stopped_as f line other old new Memory same (zero, low, moves, is) = (
  0,
  low,
  same.moves moves,
  record { text = is.text; replies = is.replies; written = is.written },
)
stopped_as f line other old new Memory same (suc n, low, moves, is) = absurd (omega arith)

-- the lines that a line feed ends, with one more of them
ended : (done : List ℕ) → pieces (done ++ 10 ∷ []) ≡ pieces done ++ rest_of done ∷ []
    → whole_lines (done ++ 10 ∷ []) ≡ whole_lines done ++ without_return (rest_of done) ∷ []
ended done cut = ap (map without_return) cut ∙ map-append without_return (pieces done)
    (rest_of done ∷ [])

-- the first bytes of a rest with more bytes are those of its first bytes with these
pub kept_more : (rest more : List ℕ) → take 130 (take 130 rest ++ more) ≡ take 130 (rest ++ more)
kept_more rest more = by (cases_lt 130 (length rest))
  where
    by : (130 < length rest) ⊎ (length rest ≤ 130) → take 130 (take 130 rest ++ more) ≡ take 130
        (rest ++ more)
    by (inl long) =
        let whole : take 130 (take 130 rest) ≡ take 130 rest = take_all 130 (take 130 rest)
        (omega (arith, length-take 130 rest)) in
        take-append-le 130 (take 130 rest) more (omega (arith, length-take 130 rest)) ∙ whole
        ∙ sym (take-append-le 130 rest more (omega arith))
    by (inr all) = ap (λ r. take 130 (r ++ more)) (take_all 130 rest all)

-- bytes without a line feed belong to the rest
pub rest_more : (other : (done : List ℕ) (c : ℕ) → c ≢ 10 → (pieces (done ++ c ∷ []) ≡ pieces done)
    × (rest_of (done ++ c ∷ []) ≡ rest_of done ++ c ∷ []))
    → (done more : List ℕ) → HasNoFeed more
    → (pieces (done ++ more) ≡ pieces done) × (rest_of (done ++ more) ≡ rest_of done ++ more)
rest_more other done [] none =
    (ap pieces (append-nil done), ap rest_of (append-nil done) ∙ sym (append-nil (rest_of done)))
rest_more other done (c ∷ more) none =
    let one = other done c (All-head (λ b. b ≢ 10) c more none) in
    let rest = rest_more other (done ++ c ∷ []) more (All-tail (λ b. b ≢ 10) c more none) in
    let joined : done ++ c ∷ more ≡ (done ++ c ∷ []) ++ more =
    sym (append_assoc done (c ∷ []) more)
    in (
      ap pieces joined ∙ rest.0 ∙ one.0,
      ap rest_of joined ∙ rest.1 ∙ ap (λ r. r ++ more) one.1
          ∙ append_assoc (rest_of done) (c ∷ []) more,
    )

-- bytes without a line feed are kept
pub bytes_kept : (f : Book) (done : List ℕ) (start now : Option (List ℕ))
    (kept new more : List ℕ)
    → IsAnswered f done start now kept
    → (pieces (done ++ more) ≡ pieces done) × (rest_of (done ++ more) ≡ rest_of done ++ more)
    → new ≡ take 130 (kept ++ more)
    → IsAnswered f (done ++ more) start now new × (length (whole_lines (done ++ more)) ≡ length
    (whole_lines done) + 0)
bytes_kept f done start now kept new more is cut e =
    let lines : whole_lines (done ++ more) ≡ whole_lines done = ap (map without_return) cut.0 in (
      record {
        replies = subst (λ ls. HasReplies f ls start now) (sym lines) is.replies;
        held = e ∙ ap (λ k. take 130 (k ++ more)) is.held ∙ kept_more (rest_of done) more
            ∙ ap (take 130) (sym cut.1);
      },
      omega (arith, ap length lines),
    )

-- bytes without any are none
pub none_of_length : (bytes : List ℕ) → length bytes ≡ 0 → [] ≡ bytes
none_of_length [] none = refl
none_of_length (c ∷ bytes) some = absurd (omega arith)

-- where a byte is kept there is a last line
last_is : (done kept : List ℕ) → kept ≡ take 130 (rest_of done) → 0 < length kept
    → lines_of done ≡ whole_lines done ++ rest_of done ∷ []
last_is done kept e some = by (rest_of done) refl
  where
    by : (rest : List ℕ) → rest_of done ≡ rest
        → whole_lines done ++ last_line rest ≡ whole_lines done ++ rest ∷ []
    by [] none = absurd (omega (arith, ap length e, ap (λ r. length (take 130 r)) none))
    by (c ∷ rest) h = refl

none_left : (done kept : List ℕ) → kept ≡ take 130 (rest_of done) → length kept ≡ 0
    → lines_of done ≡ whole_lines done
none_left done kept e none = by (rest_of done) refl
  where
    by : (rest : List ℕ) → rest_of done ≡ rest
        → whole_lines done ++ last_line rest ≡ whole_lines done
    by [] h = append-nil (whole_lines done)
    by (c ∷ rest) some = absurd (omega (
      arith,
      ap length e,
      ap (λ r. length (take 130 r)) some,
      length-take 130 (c ∷ rest),
    ))

module _ (short : (line : List ℕ) (q : Query) → IsQuery line q → length line ≤ 55) where
  -- a long line asks nothing
  not_asked : (line : List ℕ) (q : Query) → 55 < length line → IsQuery line q → ⊥
  not_asked line q long is = omega (arith, short line q is)

  -- so whatever refuses one refuses any other
  refused_alike : (bound : ℕ) (line other : List ℕ) → 55 < length line → 55 < length other
      → (why : Refusal) → IsRefused bound line why → IsRefused bound other why
  refused_alike bound line other long long_other _ (no_query none) =
      no_query (λ q is. not_asked other q long_other is)
  refused_alike bound line other long long_other _ (of_too_many q is many) =
      absurd (not_asked line q long is)
  refused_alike bound line other long long_other _ (of_over_bound q is few over) =
      absurd (not_asked line q long is)
  refused_alike bound line other long long_other _ (of_finished q is few within asks) =
      absurd (not_asked line q long is)
  refused_alike bound line other long long_other _ (of_no_result q is few within unfinished none) =
      absurd (not_asked line q long is)

  -- and the reply to one is the reply to any other
  alike : (f : Book) (line other : List ℕ) → 55 < length line → 55 < length other
      → (reply : List ℕ) → IsReplyIn f line reply → IsReplyIn f other reply
  alike f line other long long_other reply (answered q answer accepted is e) =
      absurd (not_asked line q long accepted.query)
  alike f line other long long_other reply (refused why is e) =
      refused why (refused_alike f.bound line other long long_other why is) e

  -- so all long lines are heard alike
  long_alike : (f : Book) (line other : List ℕ) → 55 < length line → 55 < length other
      → IsHeardAs f line other
  long_alike f line other long long_other = record {
    replies = alike f line other long long_other;
    moves = λ w. absurd (not_asked line w.0 long w.1.query);
    records = λ w. absurd (not_asked line w.0 long w.1.query);
  }

  -- a line is itself
  itself : (f : Book) (line other : List ℕ) → line ≡ other → IsHeardAs f line other
  itself f line other e = record {
    replies = λ reply is. subst (λ l. IsReplyIn f l reply) e is;
    moves = λ w. subst (IsMovesLine f) e w;
    records = λ w. subst (IsRecordsLine f) e w;
  }

  -- without its carriage return a piece is at most one byte shorter
  length-without_return : (piece : List ℕ) → length piece ≤ length (without_return piece) + 1
  length-without_return piece = by (eqb (get_or piece (length piece - 1) 0) 13)
    where
      by : (b : Bool) → length piece ≤ length (cond b (take (length piece - 1) piece) piece) + 1
      by true = omega (arith, length-take (length piece - 1) piece)
      by false = omega arith

  -- the first 130 bytes of a piece are heard as the whole piece
  pub kept_piece : (f : Book) (rest : List ℕ) → IsHeardAs f (without_return (take 130 rest))
      (without_return rest)
  kept_piece f rest = by (cases_lt 130 (length rest))
    where
      by : (130 < length rest) ⊎ (length rest ≤ 130) → IsHeardAs f (without_return (take 130 rest))
          (without_return rest)
      by (inl long) = long_alike f (without_return (take 130 rest)) (without_return rest)
          (omega (arith, length-without_return (take 130 rest), length-take 130 rest))
          (omega (arith, length-without_return rest))
      by (inr all) = itself f (without_return (take 130 rest)) (without_return rest)
          (ap without_return (take_all 130 rest all))

  -- and so are those of a last line
  pub kept_rest : (f : Book) (rest : List ℕ) → IsHeardAs f (take 130 rest) rest
  kept_rest f rest = by (cases_lt 130 (length rest))
    where
      by : (130 < length rest) ⊎ (length rest ≤ 130) → IsHeardAs f (take 130 rest) rest
      by (inl long) = long_alike f (take 130 rest) rest (omega (arith, length-take 130 rest))
          (omega arith)
      by (inr all) = itself f (take 130 rest) rest (take_all 130 rest all)

  -- a line feed ends the line that is kept, which was answered
  pub line_ended : (f : Book) (done : List ℕ) (start mid new : Option (List ℕ))
      (kept empty : List ℕ)
      → IsAnswered f done start mid kept
      → HasReplies f (without_return kept ∷ []) mid new
      → (pieces (done ++ 10 ∷ []) ≡ pieces done ++ rest_of done ∷ [])
      × (rest_of (done ++ 10 ∷ []) ≡ []) → empty ≡ []
      → IsAnswered f (done ++ 10 ∷ []) start new empty
      × (length (whole_lines (done ++ 10 ∷ [])) ≡ length (whole_lines done) + 1)
  line_ended f done start mid new kept empty is has cut none =
      let line = without_return (rest_of done) in
      let lines = ended done cut.0 in
      let here = subst (λ k. HasReplies f (without_return k ∷ []) mid new) is.held has in (
        record {
          replies = subst (λ ls. HasReplies f ls start new) (sym lines)
              (more_replies f (whole_lines done) (line ∷ []) start mid new is.replies
              (replies_as f (without_return (take 130 (rest_of done))) line mid new
              (kept_piece f (rest_of done)) here));
          held = none ∙ ap (take 130) (sym cut.1);
        },
        ap length lines ∙ length_push (whole_lines done) line,
      )

  -- the answers stopped at the line that a line feed ends
  pub line_stopped : (f : Book) (done : List ℕ) (start mid new : Option (List ℕ)) (kept : List ℕ)
      (fault : RunFault) → IsAnswered f done start mid kept
      → IsStoppedAt f (without_return kept ∷ []) mid new fault
      → pieces (done ++ 10 ∷ []) ≡ pieces done ++ rest_of done ∷ []
      → IsStoppedAt f (whole_lines (done ++ 10 ∷ [])) start new fault
  line_stopped f done start mid new kept fault is stopped cut =
      let line = without_return (rest_of done) in
      let here = subst (λ k. IsStoppedAt f (without_return k ∷ []) mid new fault) is.held stopped
      in
      subst (λ ls. IsStoppedAt f ls start new fault) (sym (ended done cut))
      (stopped_after f (whole_lines done) line start mid new fault is.replies
      (stopped_as f (without_return (take 130 (rest_of done))) line mid new fault
      (kept_piece f (rest_of done)) here))

  -- the last line was answered
  pub last_ended : (f : Book) (done : List ℕ) (start mid new : Option (List ℕ)) (kept : List ℕ)
      → IsAnswered f done start mid kept → 0 < length kept
      → HasReplies f (kept ∷ []) mid new
      → HasReplies f (lines_of done) start new
      × (length (lines_of done) ≡ length (whole_lines done) + 1)
  last_ended f done start mid new kept is some has =
      let line = rest_of done in
      let lines = last_is done kept is.held some in
      let here = subst (λ k. HasReplies f (k ∷ []) mid new) is.held has in (
        subst (λ ls. HasReplies f ls start new) (sym lines)
            (more_replies f (whole_lines done) (line ∷ []) start mid new is.replies
            (replies_as f (take 130 line) line mid new (kept_rest f line) here)),
        ap length lines ∙ length_push (whole_lines done) line,
      )

  -- the answers stopped at the last line
  pub last_stopped : (f : Book) (done : List ℕ) (start mid new : Option (List ℕ)) (kept : List ℕ)
      (fault : RunFault) → IsAnswered f done start mid kept → 0 < length kept
      → IsStoppedAt f (kept ∷ []) mid new fault → IsStoppedAt f (lines_of done) start new fault
  last_stopped f done start mid new kept fault is some stopped =
      let line = rest_of done in
      let here = subst (λ k. IsStoppedAt f (k ∷ []) mid new fault) is.held stopped in
      subst (λ ls. IsStoppedAt f ls start new fault) (sym (last_is done kept is.held some))
      (stopped_after f (whole_lines done) line start mid new fault is.replies
      (stopped_as f (take 130 line) line mid new fault (kept_rest f line) here))

-- the first bytes of a chunk, and those after them
pub chunk_parts : (done chunk : List ℕ) (n : ℕ)
    → (done ++ take n chunk) ++ drop n chunk ≡ done ++ chunk
chunk_parts done chunk n =
    append_assoc done (take n chunk) (drop n chunk)
    ∙ ap (λ t. done ++ t) (take-append-drop n chunk)

-- what is left of some bytes after a place is a piece, a line feed, and what is left after it
pub piece_next : (chunk : List ℕ) (start place : ℕ) → IsFirstFeed (drop start chunk) place
    → (take start chunk ++ take place (drop start chunk)) ++ 10 ∷ []
    ≡ take (start + place + 1) chunk
piece_next chunk start place is =
    ap (λ t. t ++ 10 ∷ []) (sym (take-add start place chunk))
    ∙ ap (λ c. take (start + place) chunk ++ c ∷ [])
    (sym is.feed ∙ get_or-drop start chunk place 0)
    ∙ sym (take_more chunk (start + place) 0 within)
  where
    within : start + place < length chunk
    within = omega (arith, is.within, length-drop start chunk)

-- what was read before grows by the piece and its line feed
pub piece_joined : (done chunk : List ℕ) (start place : ℕ) → IsFirstFeed (drop start chunk) place
    → ((done ++ take start chunk) ++ take place (drop start chunk)) ++ 10 ∷ []
    ≡ done ++ take (start + place + 1) chunk
piece_joined done chunk start place is =
    ap (λ t. t ++ 10 ∷ []) (append_assoc done (take start chunk) (take place (drop start chunk)))
    ∙ append_assoc done (take start chunk ++ take place (drop start chunk)) (10 ∷ [])
    ∙ ap (λ t. done ++ t) (piece_next chunk start place is)

-- what is left of a chunk comes after
pub piece_rest : (done chunk : List ℕ) (start place : ℕ) → IsFirstFeed (drop start chunk) place
    → (((done ++ take start chunk) ++ take place (drop start chunk)) ++ 10 ∷ [])
    ++ drop (start + place + 1) chunk ≡ done ++ chunk
piece_rest done chunk start place is =
    ap (λ t. t ++ drop (start + place + 1) chunk) (piece_joined done chunk start place is)
    ∙ chunk_parts done chunk (start + place + 1)

-- what stopped the first bytes of an input stops more of it
pub stopped_before : (f : Book) (done more all : List ℕ) (later : List (List ℕ))
    (start now : Option (List ℕ)) (fault : RunFault) → done ++ more ≡ all
    → pieces (done ++ more) ≡ pieces done ++ later
    → IsStoppedAt f (whole_lines done) start now fault
    → IsStoppedAt f (whole_lines all) start now fault
stopped_before f done more all later start now fault e cut stopped =
    subst (λ input. IsStoppedAt f (whole_lines input) start now fault) e
    (subst (λ ls. IsStoppedAt f ls start now fault)
    (sym (ap (map without_return) cut ∙ map-append without_return (pieces done) later))
    (stopped_longer f (whole_lines done) (map without_return later) start now fault stopped))

-- what stopped the first bytes of an input stops all lines of it
pub stopped_in : (f : Book) (done more all : List ℕ) (later : List (List ℕ))
    (start now : Option (List ℕ))
    (fault : RunFault) → done ++ more ≡ all
    → pieces (done ++ more) ≡ pieces done ++ later
    → IsStoppedAt f (whole_lines done) start now fault
    → IsStoppedAt f (lines_of all) start now fault
stopped_in f done more all later start now fault e cut stopped =
    stopped_longer f (whole_lines all) (last_line (rest_of all)) start now fault
    (stopped_before f done more all later start now fault e cut stopped)

-- a flush leaves what was written
pub flushed : (f : Book) (lines : List (List ℕ)) (old mid new : Option (List ℕ))
    → HasReplies f lines old mid → Keeps mid new → HasReplies f lines old new
flushed f lines old mid new has kept = record {
  text = has.text;
  replies = has.replies;
  written = appends_same old new (has.text ++ []) has.text (append-nil has.text)
      (appends_twice old mid new has.text [] has.written (appends_kept mid new kept));
}

pub flushed_answers : (f : Book) (done : List ℕ) (old mid new : Option (List ℕ)) (kept : List ℕ)
    → IsAnswered f done old mid kept → Keeps mid new → IsAnswered f done old new kept
flushed_answers f done old mid new kept is stays =
    record { replies = flushed f (whole_lines done) old mid new is.replies stays; held = is.held }

-- a writer that failed after all replies has a prefix of them
pub failed_flush : (f : Book) (lines : List (List ℕ)) (old mid new : Option (List ℕ))
    → HasReplies f lines old mid → Keeps mid new → IsStoppedAt f lines old new Write
failed_flush f lines old mid new has kept =
    let now = flushed f lines old mid new has kept in
    let all : take (length lines) lines ≡ lines = take_all (length lines) lines (omega arith) in (
      length lines,
      omega arith,
      subst (λ ls. HasPart f ls old new) (sym all)
          (record {
            text = now.text;
            replies = now.replies;
            written =
                part_all old new now.text now.written;
          }),
    )

-- more of the input was read
pub read_more : (input : List ℕ) (mid new : Option (List ℕ)) (done bytes : List ℕ)
    → Consumes (Some input) mid done → Consumes mid new bytes
    → Consumes (Some input) new (done ++ bytes)
read_more input None new done bytes h more = absurd h
read_more input (Some ys) None done bytes h more = absurd more
read_more input (Some ys) (Some zs) done bytes h more = h ∙ ap (λ t. done ++ t) more
    ∙ sym (append_assoc done bytes zs)

-- nothing was read by a read that failed
pub read_none : (input : List ℕ) (mid new : Option (List ℕ)) (done : List ℕ)
    → Consumes (Some input) mid done → Keeps mid new → Consumes (Some input) new done
read_none input None new done h kept = absurd h
read_none input (Some ys) None done h kept = absurd kept
read_none input (Some ys) (Some zs) done h kept = h ∙ ap (λ t. done ++ t) (sym kept)

-- at the end all of the input was read
pub read_all : (input : List ℕ) (mid new : Option (List ℕ)) (done : List ℕ)
    → Consumes (Some input) mid done → Consumes mid new [] → IsAtEnd new → input ≡ done
read_all input None new done h more end = absurd h
read_all input (Some ys) None done h more end = absurd more
read_all input (Some ys) (Some zs) done h more end = h ∙ ap (λ t. done ++ t) (more ∙ end)
    ∙ append-nil done

-- what was read is the beginning of the input
pub read_front : (input : List ℕ) (new : Option (List ℕ)) (done : List ℕ)
    → Consumes (Some input) new done → (rest : List ℕ) × (done ++ rest ≡ input)
read_front input None done h = absurd h
read_front input (Some rest) done h = (rest, sym h)

-- a stop at the lines of an input is one of its run
pub run_stopped : (f : Book) (input : List ℕ) (left old new : Option (List ℕ)) (fault : RunFault)
    → IsStoppedAt f (lines_of input) old new fault
    → IsRunStopped f input left old new fault
run_stopped f input left old new Read h = absurd h
run_stopped f input left old new Write h = h
run_stopped f input left old new Table h = h
run_stopped f input left old new Memory h = h
run_stopped f input left old new Turns h = absurd h
