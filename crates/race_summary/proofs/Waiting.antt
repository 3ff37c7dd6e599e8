-- What was written of numbers, and what waits in a buffer to be written.
use Rattle.std.proofs.Common.{◌≡◌, ◌∙◌, ℕ, ◌+◌, ◌<◌, ◌≤◌, List, [], ◌∷◌, ◌++◌, length, get_or, take, drop, Option, ap}
use Rattle.std.proofs.Common.{sym, subst, subst₂, append_assoc, flat_map}
use Rattle.std.specs.Io.KnownBytes.{Appends}
use Rattle.std.proofs.KnownBytes.{Appends-nil, Appends-trans}
use Rattle.std.proofs.lemmas.List.{append-nil, flat_map_more, take_all, take_more, take-append-drop}
use Rattle.std.proofs.lemmas.Grind.{flat_map-append}
use Rattle.db_layout.specs.Writes.{AppendsPart}
use Rattle.query_text.proofs.Held.{part_after}
use Rattle.race_summary.specs.Printed.{Prints, Adds}
use Rattle.race_summary.specs.declared.values.Value.{Value}
use Rattle.race_summary.proofs.Printed.{prints_twice}

-- what was written and what waits are together the text of these numbers
pub record Holds (values : List Value) (old now : Option (List ℕ)) (waiting : List ℕ) : Type 0 where
  pub written : List ℕ
  pub appended : Appends old now written
  pub prints : Prints values (written ++ waiting)

-- all waits that was added to an empty buffer
pub holds_first : {values : List Value} (now : Option (List ℕ)) {empty waiting : List ℕ}
    → empty ≡ [] → Adds values empty waiting → Holds (values ++ []) now now waiting
holds_first {values} now {empty} {waiting} none added = record {
  written = [];
  appended = Appends-nil now;
  prints = subst₂ Prints (sym (append-nil values))
      (sym (added.grown ∙ ap (λ t. t ++ added.more) none)) added.prints;
}

-- more numbers wait
pub holds_more : {xs ys : List Value} {old now : Option (List ℕ)} {waiting more : List ℕ}
    → Holds xs old now waiting → Adds ys waiting more → Holds (xs ++ ys) old now more
holds_more {xs} {ys} {old} {now} {waiting} held added = record {
  written = held.written;
  appended = held.appended;
  prints = subst (Prints (xs ++ ys)) (append_assoc held.written waiting added.more
      ∙ ap (λ t. held.written ++ t) (sym added.grown))
      (prints_twice xs ys (held.written ++ waiting) added.more held.prints added.prints);
}

-- words wait, too
pub holds_words : {xs : List Value} {old now : Option (List ℕ)} {waiting more : List ℕ}
    → Holds xs old now waiting → Adds [] waiting more → Holds xs old now more
holds_words {xs} {old} {now} {waiting} {more} held added =
    subst (λ vs. Holds vs old now more) (append-nil xs) (holds_more held added)

-- the numbers of one item more wait
pub holds_item : {X : Type 0} (f : X → List Value) (first : List Value) (xs : List X) (i : ℕ)
    (x : X) {old now : Option (List ℕ)} {waiting : List ℕ} → i < length xs → x ≡ get_or xs i x
    → Holds ((first ++ flat_map f (take i xs)) ++ f x) old now waiting
    → Holds (first ++ flat_map f (take (i + 1) xs)) old now waiting
holds_item f first xs i x {old} {now} {waiting} low is held =
    subst (λ vs. Holds vs old now waiting) (flat_map_more f first (take i xs) x
    ∙ ap (λ ys. first ++ flat_map f ys) (ap (λ y. take i xs ++ y ∷ []) is
    ∙ sym (take_more xs i x low))) held

-- the numbers of all items wait
pub holds_all : {X : Type 0} (f : X → List Value) (first : List Value) (xs : List X) (i : ℕ)
    {old now : Option (List ℕ)} {waiting : List ℕ} → length xs ≤ i
    → Holds (first ++ flat_map f (take i xs)) old now waiting
    → Holds (first ++ flat_map f xs) old now waiting
holds_all f first xs i {old} {now} {waiting} end held =
    subst (λ ys. Holds (first ++ flat_map f ys) old now waiting) (take_all i xs end) held

-- the numbers of some items, and then those of the others
pub items_split : {X : Type 0} (f : X → List Value) (first : List Value) (xs : List X) (i : ℕ)
    → first ++ flat_map f xs ≡ (first ++ flat_map f (take i xs)) ++ flat_map f (drop i xs)
items_split f first xs i = ap (λ ys. first ++ flat_map f ys) (sym (take-append-drop i xs))
    ∙ ap (λ vs. first ++ vs) (flat_map-append f (take i xs) (drop i xs))
    ∙ sym (append_assoc first (flat_map f (take i xs)) (flat_map f (drop i xs)))

-- what waited is written
pub holds_written : {xs : List Value} {old mid now : Option (List ℕ)} {waiting empty : List ℕ}
    → Holds xs old mid waiting → Appends mid now waiting → empty ≡ [] → Holds xs old now empty
holds_written {xs} {old} {mid} {now} {waiting} held appended none = record {
  written = held.written ++ waiting;
  appended = Appends-trans old mid now held.written waiting held.appended appended;
  prints = subst (Prints xs) (sym (ap (λ t. (held.written ++ waiting) ++ t) none
      ∙ append-nil (held.written ++ waiting))) held.prints;
}

-- a prefix of what waited is written
pub holds_part : {xs : List Value} {old mid : Option (List ℕ)} {waiting : List ℕ}
    (now : Option (List ℕ)) (values rest : List Value) → Holds xs old mid waiting
    → AppendsPart mid now waiting → values ≡ xs ++ rest
    → (text : List ℕ) × ((first rest : List Value) × (values ≡ first ++ rest)
    × Prints first text) × AppendsPart old now text
holds_part {xs} {old} {mid} {waiting} now values rest held part same = (
  held.written ++ waiting,
  (xs, rest, same, held.prints),
  part_after old mid now held.written waiting held.appended part,
)

-- all that waited is written
pub holds_end : {xs : List Value} {old mid : Option (List ℕ)} {waiting : List ℕ}
    (now : Option (List ℕ)) → Holds xs old mid waiting → Appends mid now waiting
    → (text : List ℕ) × Prints xs text × Appends old now text
holds_end {xs} {old} {mid} {waiting} now held appended = (
  held.written ++ waiting,
  held.prints,
  Appends-trans old mid now held.written waiting held.appended appended,
)
