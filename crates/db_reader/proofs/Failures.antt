-- How often reads have failed after several calls, and what they leave of a table.
use Rattle.std.proofs.Common.{◌≡◌, ℕ, Result, Err, refl, subst, ◌∙◌}
use Rattle.db_reader.specs.Telling.{RoseWhere}
use Rattle.db_reader.specs.TableStays.{TableStays}
use Rattle.db_reader.specs.declared.table.Table.{Ghosts}

-- two errors are the same where their faults are
pub err-same : {T E : Type 0} {one two : E} → ◌≡◌ {A = Result T E} (Err one) (Err two)
    → one ≡ two
err-same e = cc

-- the count stays where nothing is done
pub rose_nowhere : (n : ℕ) → RoseWhere ⊥ n n
rose_nowhere n = record { rose = λ no. absurd no; same = λ _. refl }

-- the count goes with the second of two calls where none failed in the first
pub rose_then : {One Two : Type 0} {a b c : ℕ} → RoseWhere One a b → ¬ One → RoseWhere Two b c
    → RoseWhere Two a c
rose_then {One} {Two} {a} {b} {c} first fine second =
    subst (λ n. RoseWhere Two n c) (first.same fine) second

-- it rose where something else holds that is the same
pub rose_as : {One Two : Type 0} {a b : ℕ} → RoseWhere One a b → (Two → One) → (One → Two)
    → RoseWhere Two a b
rose_as rose into back = record {
  rose = λ two. rose.rose (into two);
  same = λ no. rose.same (λ one. no (back one));
}

module _ {T : Type 0} {g : Ghosts T} where
  -- no call leaves a table as it is
  pub table_first : (t : T) → TableStays g t t ⊥
  table_first t = record { told = refl; accepted = refl; cause = λ _ _. rose_nowhere _ }

  -- two calls leave a table as it is where no read failed in the first
  pub table_then : {a b c : T} {One Two : Type 0} → TableStays g a b One → ¬ One
      → TableStays g b c Two → TableStays g a c Two
  table_then first fine second = record {
    told = second.told ∙ first.told;
    accepted = second.accepted ∙ first.accepted;
    cause = λ file t. rose_then (first.cause file t) fine (second.cause file (first.told ∙ t));
  }

  -- a read failed where something else holds that is the same
  pub table_as : {a b : T} {One Two : Type 0} → TableStays g a b One → (Two → One)
      → (One → Two) → TableStays g a b Two
  table_as stays into back = record {
    told = stays.told;
    accepted = stays.accepted;
    cause = λ file t. rose_as (stays.cause file t) into back;
  }

  -- none failed in two calls
  pub table_more : {a b c : T} {One : Type 0} → TableStays g a b ⊥ → TableStays g b c One → ¬ One
      → TableStays g a c ⊥
  table_more first second fine =
      table_then first (λ no. no) (table_as second (λ no. absurd no) fine)
