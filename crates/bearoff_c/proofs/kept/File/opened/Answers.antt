use Rattle.std.proofs.Common.{◌≡◌, IsTrue, ℕ, List, refl, sym, ap, ◌∙◌}
use mathlib.Core.Logic.{∥∥₁_map}
use Rattle.race_model.specs.Prelude.{bound_of}
use Rattle.db_layout.specs.declared.stated.Kind.{Kind}
use Rattle.db_layout.specs.declared.stated.Kind.TheVariants.{Database, Board}
use Rattle.epc_query.specs.Kinds.{IsAcceptedAs, book_as, book_by, stated_kind}
use Rattle.epc_query.proofs.FileBooks.{stated_book, right_version}
use Rattle.bearoff_c.specs.declared.kept.File.{File}
use Rattle.bearoff_c.proofs.KnownRight.{accepted_known}
use Rattle.bearoff_c.proofs.kept.File.opened.Goals as goal
use Rattle.bearoff_c.proofs.kept.File.opened.Goals.{After-kind-kind}

-- what is kept of an open file
known : (file : File) → IsTrue file.is_open → IsAcceptedAs (stated_kind file.bytes.now)
    file.bytes.now (record { version = file.version; bound = file.bound })
known file is_open = accepted_known (stated_kind file.bytes.now) file.bytes.now _
    (∥∥₁_map file.opened (λ known. known is_open))

-- its kind is the one that its header states
kind_is : (c : After-kind-kind) → stated_kind c.args.self.now.bytes.now ≡ c.kind-kind.result
kind_is c =
    c.kind-kind.ensures (stated_kind c.args.self.now.bytes.now) c.args.self.now.bytes.now
    (known c.args.self.now c.if-not-self.false)

pub kept-requires : goal.kept-requires
kept-requires c =
    rw (← kind_is (goal.at.kept-requires c).After-kind-kind)
    (known c.args.self.now c.if-not-self.false, c.args.self.now.ranked c.if-not-self.false)

pub returns-clause-book : goal.returns-clause-book
returns-clause-book c =
    let f = c.args.self.now.bytes.now in
    ap book_by c.kept.ensures
    ∙ ap (λ kind. book_as kind f) (sym (kind_is (goal.at.returns-clause-book c).After-kind-kind))
    ∙ stated_book f

-- the bound of a book is that of its bytes
bound_as : (kind : Kind) (f : List ℕ) → (book_as kind f).bound ≡ bound_of f
bound_as Database f = refl
bound_as Board f = refl

pub returns-clause-bound : goal.returns-clause-bound
returns-clause-bound c =
    ap (λ (opened : Kind × List ℕ). (book_by opened).bound) c.kept.ensures
    ∙ bound_as c.kind-kind.result c.args.self.now.bytes.now
    ∙ sym (known c.args.self.now c.if-not-self.false).bound

pub returns-clause-version : goal.returns-clause-version
returns-clause-version c =
    let held = known c.args.self.now c.if-not-self.false in
    held.version
    ∙ right_version (stated_kind c.args.self.now.bytes.now) c.args.self.now.bytes.now held.right
