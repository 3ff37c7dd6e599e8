-- What is done with the bytes that were read, where they are a right database of version 1.
use Rattle.std.proofs.Common.{◌≡◌, Some, Err, IfOk, inr, rules, ap, ◌∙◌, refl, subst, sym, OnOk, [], ◌∷◌}
use Rattle.std.proofs.lemmas.Result.{IfOk-weaker}
use Rattle.race_model.specs.Prelude.{count_to, version_of, IsRightDatabase, version_number}
use Rattle.db_layout.specs.declared.stated.Kind.TheVariants.{Database}
use Rattle.command_line.specs.Asked.{upgrade}
use Rattle.bearoff_cli.specs.FileAnswers.{IsReadFrom, IsUpgradedLine, count_line}
use Rattle.bearoff_cli.specs.declared.act.Done.TheVariants.{Upgraded}
use Rattle.bearoff_cli.specs.declared.fault.Fault.TheVariants.{NotOld}
use Rattle.bearoff_cli.proofs.Endings.{ends_unread, ends_written, fails_early, fails_quietly, upgrade_quiet}
use Rattle.bearoff_cli.proofs.ToldFaults.{among_more}
use Rattle.bearoff_cli.specs.Faults.{IsAmong, check_faults, current, read_faults, refusal, upgrade_faults, writing}
use Rattle.bearoff_cli.proofs.OpenedFiles.{is_compact, is_full, on_ok, says, says_part}
use Rattle.bearoff_cli.proofs.act.upgrade_database.Given.{Over}
use Rattle.bearoff_cli.proofs.act.upgrade_database.Goals.{After-version}
use Rattle.bearoff_cli.proofs.act.upgrade_database.Goals as goal

-- the bytes were read, and the check accepted them as this right database
record Known (g : Over) (c : After-version g) : Type 0 where
  read : IsReadFrom g.D.Reader.Read.remaining (g.D.Disk.paths c.args.disk.now)
      (g.D.Disk.told c.args.disk.now) c.args.old.now c.as_slice.result.now
  told : c.in_ok-checked.checked.now.told ≡ Some c.as_slice.result.now
  right : IsRightDatabase c.as_slice.result.now
  version : c.version.result ≡ version_number (version_of c.as_slice.result.now)

known : (g : Over) (c : After-version g) → Known g c
known g c =
    let file = c.as_slice.result.now in
    let accepted = (c.in_ok-checked.ensures {u = tt}).checked in
    let told = subst (λ r. IfOk r (λ checked. checked.told ≡ Some file)) accepted
    (IfOk-weaker c.check-told.result _ _ (λ checked is. is ∙ c.new.ensures.tells)
    c.check-told.ensures.told) in
    record {
      read = subst (IsReadFrom g.D.Reader.Read.remaining (g.D.Disk.paths c.args.disk.now)
          (g.D.Disk.told c.args.disk.now) c.args.old.now) (sym c.as_slice.ensures.value)
          (c.in_ok-bytes.ensures {u = tt}).read;
      told = told;
      right = subst (λ r. OnOk r (IsRightDatabase file)) accepted
          (c.check-told.ensures.right file c.new.ensures.tells);
      version = c.version.ensures.version file told;
    }

pub returns-in_err-bytes : goal.returns-in_err-bytes
returns-in_err-bytes g c input =
    ends_unread _ _ (upgrade c.args.old.now c.args.new.now) _ _ c.from_residual.result
    (λ fault. tt) (among_more (current ∷ writing ∷ refusal ∷ []) read_faults) (search rules)
    (search rules) c.in_err-bytes.ensures.stays refl refl

pub returns-in_err-checked : goal.returns-in_err-checked
returns-in_err-checked g c input =
    let from = IsReadFrom g.D.Reader.Read.remaining (g.D.Disk.paths c.args.disk.now)
    (g.D.Disk.told c.args.disk.now) c.args.old.now in
    let file = c.as_slice.result.now in
    let fault = c.in_err-checked.field-0.0 in
    let same : c.from_residual-in_err-checked.result ≡ Err fault = search rules in
    let can : IsAmong upgrade_faults fault = among_more (current ∷ []) check_faults fault
    c.in_err-checked.ensures.cause in
    rw same (fails_quietly _ _ (upgrade c.args.old.now c.args.new.now) _ _ fault tt
    (upgrade_quiet fault can) can (inr (
      file,
      subst from (sym c.as_slice.ensures.value) c.in_ok-bytes.ensures.read,
      c.in_err-checked.ensures.fault file
          (c.check-told.ensures.first file c.new.ensures.tells),
    )) c.in_ok-bytes.ensures.stays refl refl)

pub returns-then-version-eq-COMPACT_VERSION : goal.returns-then-version-eq-COMPACT_VERSION
returns-then-version-eq-COMPACT_VERSION g c input =
    let it = known g (goal.at.returns-then-version-eq-COMPACT_VERSION g c).After-version in
    let file = c.as_slice.result.now in
    fails_quietly _ _ (upgrade c.args.old.now c.args.new.now) _ _ NotOld tt refl refl (inr (
      file,
      it.read,
      (
        it.right,
        is_compact (version_of file)
            (sym it.version ∙ c.if-version-eq-COMPACT_VERSION.true),
      ),
    )) c.in_ok-bytes.ensures.stays refl refl

pub returns-in_err-upgrade_file : goal.returns-in_err-upgrade_file
returns-in_err-upgrade_file g c input =
    let it = known g (goal.at.returns-in_err-upgrade_file g c).After-version in
    let file = c.as_slice.result.now in
    let old = is_full (version_of file)
    (λ e. c.if-version-eq-COMPACT_VERSION.false (it.version ∙ e)) in
    let stated = is_full c.in_ok-checked.checked.now.version
    (λ e. c.if-version-eq-COMPACT_VERSION.false (c.version.ensures.accepted ∙ e)) in
    let fault = c.in_err-upgrade_file.field-0.0 in
    let same : c.from_residual-in_err-upgrade_file.result ≡ Err fault = search rules in
    let cause = c.in_err-upgrade_file.ensures.cause in
    rw same (fails_early _ _ (upgrade c.args.old.now c.args.new.now) _ _ fault tt
    (upgrade_quiet fault cause) cause (c.in_err-upgrade_file.ensures.fault stated) (inr (
      file,
      it.read,
      it.right,
      old,
      rw (c.in_ok-bytes.ensures.paths, c.in_ok-bytes.ensures.stays) at
          (c.in_err-upgrade_file.ensures.kept file it.told),
    )) refl refl)

pub returns : goal.returns
returns g c input =
    let it = known g (goal.at.returns g c).After-version in
    let from = IsReadFrom g.D.Reader.Read.remaining (g.D.Disk.paths c.args.disk.now)
    (g.D.Disk.told c.args.disk.now) c.args.old.now in
    let file = c.as_slice.result.now in
    let full = is_full (version_of file)
    (λ e. c.if-version-eq-COMPACT_VERSION.false (it.version ∙ e)) in
    let bound = c.bound.ensures.bound ∙ (c.bound.ensures.right file
    (c.in_ok-upgrade_file.ensures.stays.0 ∙ it.told)).1 in
    let line = c.as_bytes.ensures.value ∙ c.as_str.ensures.value ∙ c.count_line-line.ensures in
    let is : IsUpgradedLine file c.as_bytes.result.now =
    (full, line ∙ ap (λ n. count_line Upgraded n (count_to n)) bound) in
    let old = g.O.Write.contents c.args.output.now in
    let new = g.O.Write.contents c.write_flushed.new.output in
    let r = c.write_flushed.result in
    ends_written _ _ (upgrade c.args.old.now c.args.new.now) _ _ r tt refl
    c.write_flushed.ensures.cause
    (says_part (Some Database) from IsUpgradedLine file _ old new r it.read it.right is
    c.write_flushed.ensures.part)
    (says (Some Database) from _ file _ old new r it.read it.right
    (is, c.in_ok-upgrade_file.ensures.upgraded file it.told)
    c.write_flushed.ensures.all)
    (on_ok r _ (
      file,
      it.read,
      it.right,
      full,
      rw (c.in_ok-bytes.ensures.paths, c.in_ok-bytes.ensures.stays) at
          (c.in_ok-upgrade_file.ensures.put file it.told),
    ))
    (inr (
      file,
      it.read,
      it.right,
      full,
      rw (c.in_ok-bytes.ensures.paths, c.in_ok-bytes.ensures.stays) at
          (c.in_ok-upgrade_file.ensures.kept file it.told),
    )) refl
