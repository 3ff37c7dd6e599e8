-- What a writer was given of bytes that wait, over several steps, and prefixes of it.
use Rattle.std.proofs.Common.{◌≡◌, ◌⊎◌, inl, inr, ℕ, ◌+◌, ◌≤◌, ◌<◌, min, List, [], ◌++◌, length}
use Rattle.std.proofs.Common.{take, Option, Result, Ok, Err, OnOk, OnErr, ap, sym, subst, ◌∙◌, arith, append_assoc}
use Rattle.std.specs.Io.KnownBytes.{Appends}
use Rattle.std.proofs.lemmas.List.{take-append-le, take_all}
use Rattle.std.proofs.lemmas.Bool.{cases_lt}
use Rattle.std.proofs.Math.Seq.{take-append-add}
use Rattle.db_layout.specs.Writes.{AppendsPart}
use Rattle.db_layout.proofs.Known.{appends_twice}
use Rattle.query_text.specs.Held.{Takes}

-- what grew by other bytes grew by these, where they are the same
pub appends_same : (old new : Option (List ℕ)) (xs ys : List ℕ) → xs ≡ ys → Appends old new xs
    → Appends old new ys
appends_same old new xs ys e h = subst (λ (bytes : List ℕ). Appends old new bytes) e h

pub part_same : (old new : Option (List ℕ)) (xs ys : List ℕ) → xs ≡ ys → AppendsPart old new xs
    → AppendsPart old new ys
part_same old new xs ys e h = subst (λ (bytes : List ℕ). AppendsPart old new bytes) e h

-- the first bytes of a list, counted no further than it reaches
take_within : (k : ℕ) (bytes : List ℕ) → take k bytes ≡ take (min k (length bytes)) bytes
take_within k bytes = by (cases_lt (length bytes) k)
  where
    by : (length bytes < k) ⊎ (k ≤ length bytes) → take k bytes ≡ take (min k (length bytes)) bytes
    by (inr h) = ap (λ n. take n bytes) (omega arith)
    by (inl h) =
        let all : take k bytes ≡ bytes = take_all k bytes (omega arith) in
        let same : take (min k (length bytes)) bytes ≡ bytes = take_all
        (min k (length bytes)) bytes (omega arith) in
        all ∙ sym same

-- a prefix is one of a longer list
pub part_longer : (old new : Option (List ℕ)) (bytes more : List ℕ) → AppendsPart old new bytes
    → AppendsPart old new (bytes ++ more)
part_longer old new bytes more part =
    let k = min part.0 (length bytes) in (
      k,
      appends_same old new (take part.0 bytes) (take k (bytes ++ more))
          (take_within part.0 bytes ∙ sym (take-append-le k bytes more (omega arith))) part.1,
    )

-- bytes, and then a prefix of more, are a prefix of both
pub part_after : (old mid new : Option (List ℕ)) (first more : List ℕ) → Appends old mid first
    → AppendsPart mid new more
    → AppendsPart old new (first ++ more)
part_after old mid new first more h part = (
  length first + part.0,
  appends_same old new (first ++ take part.0 more) (take (length first + part.0) (first ++ more))
      (sym (take-append-add first more part.0)) (appends_twice old mid new first
      (take part.0 more) h part.1),
)

-- all of the bytes are a prefix, too
pub part_all : (old new : Option (List ℕ)) (bytes : List ℕ) → Appends old new bytes
    → AppendsPart old new bytes
part_all old new bytes h = (
  length bytes,
  appends_same old new bytes (take (length bytes) bytes)
      (sym (take_all (length bytes) bytes (omega arith))) h,
)

-- two steps
pub takes_twice : (old mid new : Option (List ℕ)) (first second third xs ys : List ℕ)
    → Takes old mid first second xs
    → Takes mid new second third ys → Takes old new first third (xs ++ ys)
takes_twice old mid new first second third xs ys a b = record {
  written = a.written ++ b.written;
  appended = appends_twice old mid new a.written b.written a.appended b.appended;
  joined =
      sym (append_assoc first xs ys)
      ∙ ap (λ t. t ++ ys) a.joined
      ∙ append_assoc a.written second ys
      ∙ ap (λ t. a.written ++ t) b.joined
      ∙ sym (append_assoc a.written b.written third);
}

-- where nothing waited at first, what was taken and then written is all
pub takes_and_written : (old mid new : Option (List ℕ)) (waiting xs more : List ℕ)
    → Takes old mid [] waiting xs
    → Appends mid new (waiting ++ more) → Appends old new (xs ++ more)
takes_and_written old mid new waiting xs more a h =
    appends_same old new (a.written ++ (waiting ++ more)) (xs ++ more)
    (sym (append_assoc a.written waiting more) ∙ ap (λ t. t ++ more) (sym a.joined))
    (appends_twice old mid new a.written (waiting ++ more) a.appended h)

-- a prefix of what was then to be written, after what was taken, is one of all
pub takes_and_part : (old mid new : Option (List ℕ)) (waiting xs more : List ℕ)
    → Takes old mid [] waiting xs
    → AppendsPart mid new (waiting ++ more) → AppendsPart old new (xs ++ more)
takes_and_part old mid new waiting xs more a h =
    part_same old new (a.written ++ (waiting ++ more)) (xs ++ more)
    (sym (append_assoc a.written waiting more) ∙ ap (λ t. t ++ more) (sym a.joined))
    (part_after old mid new a.written (waiting ++ more) a.appended h)

-- what holds anyway holds at a refusal
pub on_err_of : {T E P : Type 0} (r : Result T E) → P → OnErr r P
on_err_of (Ok x) h = tt
on_err_of (Err e) h = h

-- where nothing waited at first, a prefix of what waited then is one of all that was taken
pub takes_part : (old mid new : Option (List ℕ)) (waiting xs : List ℕ) →
    Takes old mid [] waiting xs
    → AppendsPart mid new waiting → AppendsPart old new xs
takes_part old mid new waiting xs a h =
    part_same old new (a.written ++ waiting) xs (sym a.joined)
    (part_after old mid new a.written waiting a.appended h)

-- what is taken by other bytes is taken by these, where they are the same
pub takes_same : (old new : Option (List ℕ)) (before after xs ys : List ℕ) → xs ≡ ys
    → Takes old new before after xs → Takes old new before after ys
takes_same old new before after xs ys e a =
    record {
      written = a.written;
      appended = a.appended;
      joined = ap (λ t. before ++ t) (sym e)
          ∙ a.joined;
    }

-- what holds whatever the result holds at an answer
pub on_ok_of : {T E P : Type 0} (r : Result T E) → P → OnOk r P
on_ok_of (Ok x) h = h
on_ok_of (Err e) h = tt
