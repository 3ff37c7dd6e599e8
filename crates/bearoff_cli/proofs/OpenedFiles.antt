-- What was read of a reader that tells what it has left, and the lines of the pip counts of a file.
use Rattle.std.proofs.Common.{◌≡◌, ℕ, suc, ◌≤◌, List, [], ◌∷◌, take, length, Option, Some, Result, Ok, Err, IfOk, IfErr}
use Rattle.std.proofs.Common.{inr, refl, ap, subst, sym, ◌∙◌, arith, ◌++◌, ◌<◌, ◌^◌, if◌then◌else◌, ne_eqb, cond, eqb}
use Rattle.std.proofs.Common.{map, OnErr, OnOk, Bool, false, true}
use Rattle.std.specs.Int.{w16, from_be_bytes}
use Rattle.std.specs.Str.Lines.{lines_of_parts}
use Rattle.std.proofs.lemmas.List.{take_all, take-append-le, append-nil}
use Rattle.std.specs.Io.KnownBytes.{Appends, Consumes, IsAtEnd, Keeps}
use Rattle.std.specs.List.{onto_first, slice_split}
use Rattle.race_model.specs.Prelude.{count_to, Version, full, compact, version_number, version_of, bound_of, bytes_at}
use Rattle.race_model.specs.Prelude.{layout_of, IsRightDatabase, before_first_piece, before_rest, last_line, lines_of}
use Rattle.race_model.specs.Prelude.{pieces, rest_of, without_return}
use Rattle.race_model.proofs.FirstFaults.HeaderFacts.{stated_number}
use Rattle.db_reader.specs.Telling.{WhereTold}
use Rattle.epc_query.specs.Runs.{HasReplies}
use Rattle.epc_query.proofs.Runs.{read_all, read_front}
use Rattle.whole_file.specs.Disks.{Moment}
use Rattle.whole_file.specs.Paths.{Paths, ReadsBehind}
use Rattle.bearoff_cli.specs.FileAnswers.{AnswersWords, AreAllLevels, AreAnswered, AreAnsweredFrom, IsHandedTo}
use Rattle.bearoff_cli.specs.FileAnswers.{IsHinted, IsReadFrom, Says, WritesLevel, WritesLevels, about_file}
use Rattle.bearoff_cli.specs.FileAnswers.{about_text}
use Rattle.bearoff_cli.specs.Requests.{LeavesText}
use Rattle.db_layout.specs.Writes.{AppendsPart}
use Rattle.epc_query.specs.Kinds.{IsRightAs, book_as, version_as, stated_kind}
use Rattle.bearoff_cli.specs.Kinds.{kind_as}
use Rattle.db_layout.specs.declared.stated.Kind.{Kind}
use Rattle.db_layout.specs.declared.stated.Kind.TheVariants.{Database, Board}
use Rattle.bearoff_cli.specs.declared.fault.Hint.{Hint}
use Rattle.db_layout.proofs.Known.{appends_kept, appends_twice}

-- what holds of each input that is told, at Ok
pub told_done : {A E : Type 0} (r : Result A E) (input : Option (List ℕ)) (P : List ℕ → Type 0)
    → WhereTold input (λ given. IfOk r (λ _. P given)) → OnOk r (WhereTold input P)
told_done (Ok x) input P h = h
told_done (Err e) input P h = tt

-- what holds of each input that is told, at Err
pub told_left : {A E : Type 0} (r : Result A E) (input : Option (List ℕ))
    (P : List ℕ → E → Type 0) → WhereTold input (λ given. IfErr r (P given))
    → IfErr r (λ e. WhereTold input (λ given. P given e))
told_left (Ok x) input P h = tt
told_left (Err e) input P h = h

-- a list of no length is none
pub no_bytes : (bytes : List ℕ) → length bytes ≡ 0 → bytes ≡ []
no_bytes [] none = refl
no_bytes (x ∷ xs) none = absurd (omega (arith, none))

-- at its end all was read
pub all_read : (left : List ℕ) (mid new : Option (List ℕ)) (done : List ℕ) (most : ℕ)
    → Consumes (Some left) mid done → Consumes mid new [] → IsAtEnd new → length done ≤ most
    → done ≡ take most left
all_read left mid new done most read more end short =
    subst (λ xs. done ≡ take most xs) (sym (read_all left mid new done read more end))
    (sym (take_all most done short))

-- else its first bytes
pub first_read : (left : List ℕ) (new : Option (List ℕ)) (done : List ℕ) (most : ℕ)
    → Consumes (Some left) new done → most ≤ length done → take most done ≡ take most left
first_read left new done most read long =
    let front = read_front left new done read in
    subst (λ xs. take most done ≡ take most xs) front.1
    (sym (take-append-le most done front.0 long))

-- what was read of a file that was opened, to which a path leads
pub read_of : {F V E : Type 0} (remaining : F → Option (List ℕ)) (paths : Paths) (path : List ℕ)
    (told : Option (List Moment)) (file : F) (items : V → List ℕ) (r : Result V E)
    → ReadsBehind paths path told (remaining file)
    → WhereTold (remaining file) (λ left. IfOk r (λ v. items v ≡ take 20000001 left))
    → IfOk r (λ v. IsReadFrom remaining paths told path (items v))
read_of remaining paths path told file items (Ok v) reads read = (
  (file, read),
  λ now past is to bytes leads holds. read bytes (reads now past is to bytes leads holds),
)
read_of remaining paths path told file items (Err e) reads read = tt

-- a text of what was read and accepted was written
pub says : {A E : Type 0} (kind : Option Kind) (From : List ℕ → Type 0)
    (IsText : List ℕ → List ℕ → Type 0) (file text : List ℕ) (old new : Option (List ℕ))
    (r : Result A E) → From file → IsRightAs (kind_as kind file) file → IsText file text
    → OnOk r (Appends old new text) → OnOk r (Says kind From IsText old new)
says kind From IsText file text old new (Ok x) read right is written = record {
  file = file;
  read = read;
  right = right;
  text = text;
  is = is;
  written = written;
}
says kind From IsText file text old new (Err e) read right is written = tt

-- a part of a text of what was read and accepted was written
pub says_part : {A E : Type 0} (kind : Option Kind) (From : List ℕ → Type 0)
    (IsText : List ℕ → List ℕ → Type 0) (file text : List ℕ) (old new : Option (List ℕ))
    (r : Result A E) → From file → IsRightAs (kind_as kind file) file → IsText file text
    → OnErr r (AppendsPart old new text) → OnErr r (LeavesText kind From IsText old new)
says_part kind From IsText file text old new (Ok x) read right is part = tt
says_part kind From IsText file text old new (Err e) read right is part =
    inr (file, read, right, (text, is, part))

-- the levels of what was read
pub levels_read : {A E : Type 0} (kind : Option Kind) (From : List ℕ → Type 0)
    (file : List ℕ) (old new : Option (List ℕ)) (r : Result A E) → From file
    → IsRightAs (kind_as kind file) file
    → OnOk r (WritesLevels (kind_as kind file) file (suc (bound_of file)) old new)
    → OnOk r (Says kind From (AreAllLevels kind) old new)
levels_read kind From file old new (Ok x) read right levels = record {
  file = file;
  read = read;
  right = right;
  text = levels.lines;
  is = levels.levels;
  written = levels.written;
}
levels_read kind From file old new (Err e) read right levels = tt

-- the replies over a right file
pub are_answered : {E : Type 0} (kind : Kind) (file given : List ℕ) (left old new : Option (List ℕ))
    (r : Result ℕ E) → IsRightAs kind file
    → IfOk r (λ n. IsAtEnd left × (n ≡ length (lines_of given))
    × HasReplies (book_as kind file) (lines_of given) old new)
    → IfOk r (λ _. AreAnswered kind file given left old new)
are_answered kind file given left old new (Ok n) right is =
    record { right = right; end = is.0; replies = is.2 }
are_answered kind file given left old new (Err e) right is = tt

-- the replies over what was read
pub over_read : {A E : Type 0} (kind : Option Kind) (From : List ℕ → Type 0)
    (file given : List ℕ) (left old new : Option (List ℕ)) (r : Result A E)
    → From file → IfOk r (λ _. AreAnswered (kind_as kind file) file given left old new)
    → IfOk r (λ _. AreAnsweredFrom kind From given left old new)
over_read kind From file given left old new (Ok x) read is =
    record { file = file; read = read; answered = is }
over_read kind From file given left old new (Err e) read is = tt

-- the replies to lines that are words, which were all read then
pub words_answered : (hint : Option Hint) (From : List ℕ → Type 0) (kind : Kind)
    (file given : List ℕ) (bound : ℕ) (left old new : Option (List ℕ)) → From file
    → kind ≡ stated_kind file → bound ≡ bound_of file → AreAnswered kind file given left old new
    → IsHinted bound given hint → AnswersWords hint From given old new
words_answered hint From kind file given bound left old new read stated low is has =
    let it = subst (λ kind. AreAnswered kind file given left old new) stated is in (
      record {
        file = file;
        read = read;
        answered = record { right = it.right; end = refl; replies = it.replies };
      },
      subst (λ n. IsHinted n given hint) low has,
    )

-- the parts between line feeds are the pieces and the rest
pieces_split : (bytes : List ℕ)
    → slice_split (λ b. eqb b 10) bytes ≡ pieces bytes ++ rest_of bytes ∷ []
pieces_split [] = refl
pieces_split (c ∷ bytes) =
    by (eqb c 10) (pieces bytes) (rest_of bytes) _ (pieces_split bytes)
  where
    by : (feed : Bool) (parts : List (List ℕ)) (rest : List ℕ) (split : List (List ℕ))
        → split ≡ parts ++ rest ∷ [] → cond feed ([] ∷ split) (onto_first c split)
        ≡ cond feed ([] ∷ parts) (before_first_piece c parts)
        ++ cond feed rest (before_rest c parts rest) ∷ []
    by true parts rest split e = ap (λ ps. [] ∷ ps) e
    by false [] rest split e = ap (onto_first c) e
    by false (part ∷ parts) rest split e = ap (onto_first c) e

-- the lines of parts between line feeds are those of an input
part_lines : (parts : List (List ℕ)) (rest : List ℕ)
    → lines_of_parts (parts ++ rest ∷ []) ≡ map without_return parts ++ last_line rest
part_lines [] [] = refl
part_lines [] (c ∷ rest) =
    ap (λ none. cond none [] ((c ∷ rest) ∷ []))
    (ne_eqb (length (c ∷ rest)) 0 (λ none. omega (arith, none)))
part_lines (part ∷ []) rest = ap (λ ls. without_return part ∷ ls) (part_lines [] rest)
part_lines (part ∷ other ∷ parts) rest =
    ap (λ ls. without_return part ∷ ls) (part_lines (other ∷ parts) rest)

-- the lines of a text are those of an input
pub text_lines : (text : List ℕ)
    → lines_of_parts (slice_split (λ b. eqb b 10) text) ≡ lines_of text
text_lines text =
    ap lines_of_parts (pieces_split text) ∙ part_lines (pieces text) (rest_of text)

-- a version that is not the second is the first
pub is_full : (v : Version) → ¬ (version_number v ≡ 2) → v ≡ full
is_full full other = refl
is_full compact other = absurd (other refl)

-- what was handed to a writer, where the end of the file is Ok only if that is
pub handed : {W A B E : Type 0} (contents : W → Option (List ℕ))
    (Writes : Option (List ℕ) → Option (List ℕ) → Type 0) (before after : W)
    (written : Result A E) (result : Result B E)
    → OnOk written (Writes (contents before) (contents after))
    → IfErr written (λ fault. result ≡ Err fault) → OnOk result (IsHandedTo contents Writes)
handed contents Writes before after (Ok x) (Ok y) is same = (before, after, is)
handed contents Writes before after (Ok x) (Err e) is same = tt
handed contents Writes before after (Err e) result is same =
    subst (λ r. OnOk r (IsHandedTo contents Writes)) (sym same) tt

-- what follows from what holds at Ok
pub ok-weaker : {A E P Q : Type 0} (r : Result A E) → (P → Q) → OnOk r P → OnOk r Q
ok-weaker (Ok x) f p = f p
ok-weaker (Err e) f p = tt

-- what holds anyway holds at Ok
pub on_ok : {A E : Type 0} (r : Result A E) (P : Type 0) → P → OnOk r P
on_ok (Ok x) P h = h
on_ok (Err e) P h = tt

-- the lines of what a file is
pub about_is : (file : List ℕ) (kind : Kind) (version pips : ℕ) → kind ≡ stated_kind file
    → version ≡ version_as (stated_kind file) file → pips ≡ bound_of file
    → about_text kind version pips (count_to pips) ≡ about_file file
about_is file kind version pips k v p =
    subst (λ x. about_text x version pips (count_to pips) ≡ about_file file) (sym k)
    (subst (λ x. about_text (stated_kind file) x pips (count_to pips) ≡ about_file file) (sym v)
    (subst (λ x. about_text (stated_kind file) (version_as (stated_kind file) file) x (count_to x)
    ≡ about_file file) (sym p) refl))

-- a version that is the second
pub is_compact : (v : Version) → version_number v ≡ 2 → v ≡ compact
is_compact full same = absurd (omega (arith, same))
is_compact compact same = refl

-- ---- The lines of the pip counts of a file, one after another

-- the line of the next pip count
pub next_level : (kind : Kind) (file : List ℕ) (p : ℕ) (old mid new : Option (List ℕ))
    → WritesLevels kind file p old mid → WritesLevel kind file p mid new
    → WritesLevels kind file (suc p) old new
next_level kind file p old mid new before next = record {
  lines = before.lines ++ (next.line ++ 10 ∷ []);
  levels = (before.lines, next.line, before.levels, next.is, refl);
  written = appends_twice old mid new before.lines (next.line ++ 10 ∷ []) before.written
      next.written;
}

-- known bytes that have grown, and then stay
pub appends_then_kept : (old mid new : Option (List ℕ)) (bytes : List ℕ) → Appends old mid bytes
    → Keeps mid new → Appends old new bytes
appends_then_kept old mid new bytes grown kept =
    subst (λ bs. Appends old new bs) (append-nil bytes)
    (appends_twice old mid new bytes [] grown (appends_kept mid new kept))

-- lines were written, and then nothing
pub levels_then_kept : (kind : Kind) (file : List ℕ) (count : ℕ) (old mid new : Option (List ℕ))
    → WritesLevels kind file count old mid → Keeps mid new → WritesLevels kind file count old new
levels_then_kept kind file count old mid new written kept = record {
  lines = written.lines;
  levels = written.levels;
  written = appends_then_kept old mid new written.lines written.written kept;
}

-- the header of a right database states that it is one
pub database_stated : (f : List ℕ) → IsRightDatabase f → stated_kind f ≡ Database
unfolding stated_kind
database_stated f right =
    ap (λ b. if b then Board else Database)
    (ne_eqb (from_be_bytes w16 (bytes_at f 8 2)) 3
    (λ same. other (version_of f) (sym number ∙ same)))
  where
    two_bytes : (version : Version) → version_number version < 2 ^ 16
    two_bytes full = omega arith
    two_bytes compact = omega arith

    other : (version : Version) → ¬ (version_number version ≡ 3)
    other full same = omega (arith, same)
    other compact same = omega (arith, same)

    number : from_be_bytes w16 (bytes_at f 8 2) ≡ version_number (version_of f)
    number = stated_number (layout_of (version_of f)) (two_bytes (version_of f)) f right.file

-- one that states the version of board files is none
pub no_database : (f : List ℕ) → stated_kind f ≡ Board → ¬ IsRightDatabase f
no_database f is right = subst IsBoard (sym is ∙ database_stated f right) tt where
  IsBoard : Kind → Type 0
  IsBoard Board = Unit {0}
  IsBoard Database = ⊥
